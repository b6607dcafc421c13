use Rattle.std.proofs.Common.{ap, length}
use Rattle.turn_machine.specs.Events.{ends}
use Rattle.stun_types_c.proofs.TurnLemmas.{step_ends}
use Rattle.stun_types_c.proofs.turn_ending.end.Goals as goal

pub returns : goal.returns
returns c = step_ends (ends c.args.relay) c.args.core.now c.args.now (length c.ended.result.now) c.end.new.self c.end.ensures (ap length c.ended.ensures)
