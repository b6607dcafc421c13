-- Who polls soon after each moment at which a poll does something is in time.
use Rattle.std.proofs.Common.{◌≡◌, ◌∙◌, ℕ, ◌+◌, ◌≤◌, Bool, true, false, List, [], ◌∷◌, Option, None, Some, sym, subst, arith}
use Rattle.std.specs.List.{AllByRecursion}
use Rattle.std.proofs.lemmas.Bool.{cond-true, cond-false}
use Rattle.turn_client_machine.specs.declared.peers.Peer.{Peer}
use Rattle.turn_client_machine.specs.Clients.{State, is_allocated}
use Rattle.turn_client_machine.specs.Lasting.{IsInTime}
use Rattle.turn_client_machine.specs.Steps.{at, is_free}
use Rattle.turn_client_state.specs.Waking.{peer_wake, sooner, soonest, wake}

-- no sooner than a moment
abbrev IsFrom : (moment : ℕ) → Option ℕ → Type 0
IsFrom moment None = Unit {0}
IsFrom moment (Some n) = moment ≤ n

from_both : (moment : ℕ) (a b : Option ℕ) → IsFrom moment (sooner a b) → IsFrom moment a × IsFrom moment b
from_both moment None b is = (tt, is)
from_both moment (Some n) None is = (is, tt)
from_both moment (Some n) (Some m) is = (omega (arith, is), omega (arith, is))

peer_from : (moment : ℕ) (p : Peer) → IsFrom moment (peer_wake true p) → p.over ≡ false → moment ≤ p.task.due
peer_from moment p is on = subst (IsFrom moment) (cond-false p.over None (Some p.task.due) on) is

each_from : (clock moment late : ℕ) (ps : List Peer) → clock ≤ moment + late → IsFrom moment (soonest true ps) → AllByRecursion (λ p. p.over ≡ false → clock ≤ p.task.due + late) ps
each_from clock moment late [] soon is = tt
each_from clock moment late (p ∷ ps) soon is =
    let both = from_both moment (peer_wake true p) (soonest true ps) is in (
      λ on. let due = peer_from moment p both.0 on in omega (arith, due, soon),
      each_from clock moment late ps soon both.1,
    )

pub in_time : (state : State) (late now moment : ℕ) → is_allocated state.phase ≡ true → is_free state.peers ≡ true → wake state ≡ Some moment → state.clock ≤ moment + late → now ≤ moment + late → IsInTime late (at now state)
in_time state late now moment there free woken clock by =
    let soon : (at now state).clock ≤ moment + late = omega (arith, clock, by) in
    let whole : sooner (Some state.task.due) (soonest true state.peers) ≡ Some moment =
    subst (λ (b : Bool). sooner (Some state.task.due) (soonest b state.peers) ≡ Some moment) free (sym (cond-true (is_allocated state.phase) _ _ there) ∙ woken) in
    let it : IsFrom moment (sooner (Some state.task.due) (soonest true state.peers)) = subst (IsFrom moment) (sym whole) (omega arith) in
    let both = from_both moment (Some state.task.due) (soonest true state.peers) it in
    record {
      allocation = let due = both.0 in omega (arith, due, soon);
      peers = each_from (at now state).clock moment late state.peers soon both.1;
    }
