use Rattle.std.proofs.Common.{ap, length}
use Rattle.turn_machine.specs.Events.{ticks}
use Rattle.stun_types_c.proofs.TurnLemmas.{step_ends}
use Rattle.stun_types_c.proofs.turn_ending.poll.Goals as goal

pub returns : goal.returns
returns c = step_ends ticks c.args.core.now c.args.now (length c.ended.result.now) c.poll.new.self c.poll.ensures (ap length c.ended.ensures)
