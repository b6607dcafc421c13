use Rattle.std.proofs.Common.{◌≡◌, drop, find}
use Rattle.ice_machine.specs.Agents.{is_at}
use Rattle.ice_agent_state.proofs.receiving.place_of.Given as goal

abbrev pub invariant-loop-i : goal.invariant-loop-i
invariant-loop-i l = find (is_at l.base l.remote) l.pairs ≡ find (is_at l.base l.remote) (drop l.i l.pairs)
