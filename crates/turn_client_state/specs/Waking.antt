-- When a poll next does something.
use Rattle.std.specs.Prelude.{ℕ, Bool, true, ◌||◌, List, [], ◌∷◌, Option, None, Some, min, max, nat_lt, if◌then◌else◌}
use Rattle.turn_client_machine.specs.Clients.{State, is_allocated, is_active}
use Rattle.turn_client_machine.specs.declared.peers.Peer.{Peer}
use Rattle.turn_client_machine.specs.Steps.{is_single, is_free}

abbrev pub sooner : Option ℕ → Option ℕ → Option ℕ
sooner None other = other
sooner (Some n) None = Some n
sooner (Some n) (Some m) = Some (min n m)

-- for a peer: when it is due; but if requests for eight single peers are under way, when it is given up
abbrev pub peer_wake : (free : Bool) → Peer → Option ℕ
peer_wake free p =
    if p.over then None else Some (if free || is_single p then p.task.due
    else max p.task.due p.task.deadline)

abbrev pub soonest : (free : Bool) → List Peer → Option ℕ
soonest free [] = None
soonest free (p ∷ ps) = sooner (peer_wake free p) (soonest free ps)

-- a client that is quiet or has ended does nothing at a poll
abbrev pub wake : State → Option ℕ
wake state =
    if is_allocated state.phase
    then sooner (Some state.task.due) (soonest (is_free state.peers) state.peers)
    else (if is_active state.phase then Some state.task.due else None)

abbrev pub is_before : (moment : ℕ) → Option ℕ → Bool
is_before moment None = true
is_before moment (Some wake) = nat_lt moment wake
