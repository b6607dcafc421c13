-- The request that a poll sends, and the state after its response.
use Rattle.std.specs.Prelude.{◌≡◌, ◌≤◌, ◌-◌, ◌+◌, ℕ, Bool, true, false, not, ◌&&◌, ◌||◌, ◌==◌, None, is_some, max}
use Rattle.turn_client_machine.specs.Clients.{Endpoint, seconds, Kind, Request, Useless, Closing, Task, Peer, State, is_allocated, is_peer}
use Rattle.turn_client_machine.specs.Tasks.{half_of, is_due, is_expired}

-- the task is due, its deadline hasn't come, and no request is under way
pub record IsTurn (clock : ℕ) (t : Task) : Type 0 where
  pub due : is_due clock t ≡ true
  pub fit : is_expired clock t ≡ false
  pub free : t.pending ≡ None

-- the allocation is of no use, and the Refresh request that deletes it is due
pub record IsDeleting (clock : ℕ) (state : State) : Type 0 where
  pub phase : state.phase ≡ Closing Useless
  pub turn : IsTurn clock state.task

-- after a granted request, nothing is due until 40 seconds after it was first sent
pub record Rests (r : Request) (state : State) : Type 0 where
  pub later : r.since + seconds 40 ≤ state.task.due
  pub free : state.task.pending ≡ None

-- a new request, with the newest challenge
abbrev pub new_request : (state : State) → (fresh : ℕ) → Kind → Request
new_request state fresh kind =
    record { id = fresh; kind = kind; challenge = state.challenge; since = state.clock }

-- The allocation lasts for a lifetime from a moment on, and is due again a minute before its end,
-- or after half of the lifetime if that is later
pub record IsGood (since lifetime : ℕ) (state : State) : Type 0 where
  pub allocation : is_allocated state.phase ≡ true
  pub expires_at : state.expires_at ≡ since + seconds lifetime
  pub due : state.task.due ≡ max (since + seconds lifetime - seconds 60) (since + half_of lifetime)
  pub free : state.task.pending ≡ None

-- The permission lasts for 300 seconds from a moment on, and is due again a minute before its end;
-- and if a channel was wanted, it lasts for 600
abbrev pub is_renewed : (since : ℕ) → (wants : Bool) → Endpoint → Peer → Bool
is_renewed since wants address p =
    is_peer address p && (not p.over && ((p.expires_at == since + seconds 300)
    && ((p.task.due == since + seconds 240)
    && (not wants || (p.channel_expires_at == since + seconds 600)))))

-- `IsTurn` for a peer that isn't over, as a test
abbrev pub is_turn : (clock : ℕ) → Endpoint → Peer → Bool
is_turn clock address p =
    is_peer address p && (not p.over && (is_due clock p.task
    && (not (is_expired clock p.task) && not (is_some p.task.pending))))
