use Rattle.std.proofs.Common.{ℕ, None, ap, subst, length}
use Rattle.turn_machine.specs.Events.{ends_user, nothing}
use Rattle.turn_machine.specs.Reserving.{plain}
use Rattle.turn_reservations.specs.Calls.{IsOuterStep}
use Rattle.turn_slots.specs.Users.{number_of}
use Rattle.stun_types_c.specs.TurnServers.{setup_in}
use Rattle.stun_types_c.proofs.TurnLemmas.{step_ends}
use Rattle.stun_types_c.proofs.turn_ending.end_user.Goals as goal

pub returns : goal.returns
returns c =
    step_ends (ends_user (number_of c.args.user.now.bytes)) c.args.core.now c.args.now (length c.ended.result.now) c.end_user.new.self (λ rules.
    subst (λ (user : ℕ). IsOuterStep (setup_in c.args.core.now) rules c.args.core.now.server c.args.now (plain (ends_user user)) nothing None c.end_user.new.self) c.account_of.ensures (c.end_user.ensures rules)) (ap length c.ended.ensures)
