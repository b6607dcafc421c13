-- When what the server has granted doesn't expire.
use Rattle.std.specs.Prelude.{◌≡◌, ℕ, true, false, List, [], ◌∷◌, ◌++◌}
use Rattle.std.specs.List.{AllByRecursion}
use Rattle.turn_client_machine.specs.Clients.{Endpoint, is_endpoint}
use Rattle.turn_client_machine.specs.Events.{Event, drops, closes, polls}
use Rattle.turn_client_machine.specs.Lasting.{IsOpen}
use Rattle.turn_client_machine.specs.Tasks.{is_expired}
use Rattle.turn_client.specs.Clients.{Client}
use Rattle.turn_client.specs.Runs.{Call, calls, takes, Moment, after_all}
use Rattle.turn_client.specs.Histories.{state_at}
use Rattle.turn_client.specs.Strangers.{IsResponse}

-- why an allocation ends: the user closes it; no success response has come by the deadline; or a response
-- comes that counts
abbrev pub IsEndBy : Client → (now : ℕ) → Event → Type 0
IsEndBy client now closes = Unit {0}
IsEndBy client now polls =
    is_expired (state_at client now).clock client.held.state.task ≡ true
IsEndBy client now _ = ⊥

abbrev pub IsEnd : Client → (now : ℕ) → Call → Type 0
IsEnd client now (calls event) = IsEndBy client now event
IsEnd client now (takes from d brought) = IsResponse client from d

-- nothing of these has come since
abbrev pub IsServed : Client → (since earlier : List Moment) → Type 0
IsServed client [] earlier = Unit {0}
IsServed client (m ∷ since) earlier =
    (IsEnd (after_all client (since ++ earlier)) m.now m.call → ⊥) × IsServed client since earlier

-- what gives up no peer with this address: it isn't dropped, no poll comes at or after its deadline, and no
-- response that counts
abbrev pub SparesBy : Client → (address : Endpoint) → (now : ℕ) → Event → Type 0
SparesBy client address now polls =
    AllByRecursion (IsOpen address (state_at client now).clock) client.held.state.peers
SparesBy client address now (drops peer) = is_endpoint address peer ≡ false
SparesBy client address now _ = Unit {0}

abbrev pub Spares : Client → (address : Endpoint) → (now : ℕ) → Call → Type 0
Spares client address now (calls event) = SparesBy client address now event
Spares client address now (takes from d brought) = IsResponse client from d → ⊥
