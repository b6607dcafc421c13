-- What came since a flow was looked up, and which of it may change the flow.
use Rattle.std.specs.Prelude.{◌≡◌, ℕ, Bool, false, ◌&&◌, ◌==◌, List, [], ◌∷◌, ◌++◌}
use Rattle.stun_endpoints.specs.declared.endpoints.FiveTuple.{FiveTuple}
use Rattle.stun_endpoints.specs.Endpoints.{is_tuple}
use Rattle.turn_machine.specs.Relays.{Setup}
use Rattle.turn_machine.specs.Flows.{is_change}
use Rattle.turn_server.specs.Datagrams.{Arrival, of_client, of_end, of_user_end, Moment, happened}
use Rattle.turn_server.specs.Judging.{is_asked, judge}

-- no request of this client has succeeded since, nor has the caller ended the relayed address with this number,
-- or all of its user
abbrev pub IsLeft : Setup → FiveTuple → (user number : ℕ) → (later earlier : List Moment) → Type 0
IsLeft setup tuple user number [] earlier = Unit {0}
IsLeft setup tuple user number (m ∷ later) earlier =
    (is_change tuple user number (happened setup (later ++ earlier) m) ≡ false)
    × IsLeft setup tuple user number later earlier

-- whether it is a request of this client whose credentials are accepted, or such an end
abbrev pub may_change : Setup → FiveTuple → (user number : ℕ) → Arrival → Bool
may_change setup tuple user number (of_client site other numbers d) =
    is_tuple tuple other && is_asked (judge setup.last_channel setup.supports_dont_fragment site d)
may_change setup tuple user number (of_end n) = number == n
may_change setup tuple user number (of_user_end u) = user == u
may_change setup tuple user number _ = false
