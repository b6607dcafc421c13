-- When what the server has granted doesn't expire.
use Rattle.std.specs.Prelude.{◌≡◌, ℕ, ◌+◌, ◌<◌, ◌≤◌, Bool, true, false, List, [], ◌∷◌, ◌++◌, ◌&&◌, ◌==◌, not, ◌||◌}
use Rattle.std.specs.List.{AllByRecursion, list_any}
use Rattle.turn_client_machine.specs.Clients.{Endpoint, is_endpoint, Setup, Peer, State, is_peer}
use Rattle.turn_client_machine.specs.Tasks.{awaits, may_retry, is_expired}
use Rattle.turn_client_machine.specs.Responses.{asks_instead, awaits_of, is_long, is_useful}
use Rattle.turn_client_machine.specs.Steps.{at}
use Rattle.turn_client_machine.specs.Runs.{Timed, run}
use Rattle.turn_client_machine.specs.Events.{Answer, Opened, Extended, Done, Refused, Challenged, Redirected, Violated, Event, allocates, permits, binds, drops, sends, closes, responds, gives, gives_on, strays, polls}

-- nothing has been due for longer than `late`
pub record IsInTime (late : ℕ) (state : State) : Type 0 where
  pub allocation : state.clock ≤ state.task.due + late
  pub peers : AllByRecursion (λ p. p.over ≡ false → state.clock ≤ p.task.due + late) state.peers

-- by the client's reckoning, a peer's permission is live, and so is the allocation with all
-- permissions
abbrev pub Holds : (clock : ℕ) → Peer → Type 0
Holds clock p = p.over ≡ false → 0 < p.expires_at → clock < p.expires_at

pub record IsAlive (state : State) : Type 0 where
  pub allocation : state.clock < state.expires_at
  pub peers : AllByRecursion (Holds state.clock) state.peers

-- a response that may end an allocation: an authentic error to its own request, or 437; an
-- authentic success that is of no use; a challenge that isn't answered any more; or a wrong
-- integrity over a reliable transport
abbrev pub is_bad : Setup → State → (id : ℕ) → (authentic : Bool) → Answer → Bool
is_bad setup state id authentic (Opened relayed mapped lifetime) =
    authentic && not (is_useful setup relayed lifetime)
is_bad setup state id authentic (Extended lifetime) = authentic && not (is_long lifetime)
is_bad setup state id authentic Done = false
is_bad setup state id authentic (Refused code) =
    authentic && (awaits id state.task || (code == 437))
is_bad setup state id authentic (Challenged code challenge) =
    not (may_retry setup state.challenge code state.task)
is_bad setup state id authentic (Redirected server) = authentic
is_bad setup state id authentic Violated = setup.is_reliable

abbrev pub IsReason : Setup → State → Event → Type 0
IsReason setup state allocates = ⊥
IsReason setup state (permits peer) = ⊥
IsReason setup state (binds peer) = ⊥
IsReason setup state (drops peer) = ⊥
IsReason setup state (sends peer bytes) = ⊥
IsReason setup state closes = Unit {0}
IsReason setup state (responds from id authentic answer) =
    (is_endpoint from setup.server ≡ true) × (is_bad setup state id authentic answer ≡ true)
IsReason setup state (gives from peer bytes) = ⊥
IsReason setup state (gives_on from number bytes) = ⊥
IsReason setup state (strays from) = ⊥
IsReason setup state polls = is_expired state.clock state.task ≡ true

-- A response to a request for a peer makes the client give it up: an authentic error, unless a
-- permission is asked for instead of the channel; a challenge that isn't answered any more; or a
-- wrong integrity over a reliable transport
abbrev pub gives_up : Setup → State → (authentic : Bool) → Answer → Peer → Bool
gives_up setup state authentic (Refused code) p = authentic && not (asks_instead code p)
gives_up setup state authentic (Challenged code challenge) p =
    not (may_retry setup state.challenge code p.task)
gives_up setup state authentic Violated p = setup.is_reliable
gives_up setup state authentic _ p = false

-- whether an event is such a response to the request for this very peer, or the user drops it
abbrev pub is_refusal : Setup → (address : Endpoint) → State → Event → Bool
is_refusal setup address state (responds from id authentic answer) =
    list_any (λ p. is_peer address p && (awaits_of id p && gives_up setup state authentic answer p))
    state.peers
is_refusal setup address state (drops peer) = is_endpoint address peer
is_refusal setup address state _ = false

abbrev pub IsOn : (address : Endpoint) → Peer → Type 0
IsOn address p = is_peer address p ≡ true → p.over ≡ false

abbrev pub IsOpen : (address : Endpoint) → (clock : ℕ) → Peer → Type 0
IsOpen address clock p = is_peer address p ≡ true → is_expired clock p.task ≡ false

-- nothing that has come since is a reason to end the allocation
abbrev pub IsServed : Setup → (since earlier : List Timed) → Type 0
IsServed setup [] earlier = Unit {0}
IsServed setup (timed ∷ since) earlier =
    (IsReason setup (at timed.now (run setup (since ++ earlier))) timed.event → ⊥)
    × IsServed setup since earlier

-- nor to give up this peer: neither a response, nor a poll at its deadline
abbrev pub IsServedFor : Setup → (address : Endpoint) → (since earlier : List Timed) → Type 0
IsServedFor setup address [] earlier = Unit {0}
IsServedFor setup address (timed ∷ since) earlier =
    (is_refusal setup address (at timed.now (run setup (since ++ earlier))) timed.event ≡ false)
    × ((timed.event ≡ polls → AllByRecursion
    (IsOpen address (at timed.now (run setup (since ++ earlier))).clock)
    (run setup (since ++ earlier)).peers)
    × IsServedFor setup address since earlier)

-- the client has given up this peer, since a response for it had a wrong integrity
abbrev pub is_lost : (address : Endpoint) → Peer → Bool
is_lost address p = is_peer address p && (p.over && ((p.code == 0) && p.violated))
