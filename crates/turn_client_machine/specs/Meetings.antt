-- A short run of a client and of its server: an Allocate request, which is challenged, another
-- with credentials, and a CreatePermission request.
use Rattle.std.specs.Prelude.{ℕ, false, true, List, [], ◌∷◌, None, Some}
use Rattle.turn_machine.specs.Events.{asks as s_asks}
use Rattle.turn_machine.specs.Runs.{Timed as ServerTimed}
use Rattle.turn_client_machine.specs.Clients.{Allocate, Permit, Request}
use Rattle.turn_client_machine.specs.Events.{Opened, Done, Challenged, Event, allocates, permits, responds, polls}
use Rattle.turn_client_machine.specs.Runs.{Timed}
use Rattle.turn_client_machine.specs.Joined.{request_of}
use Rattle.turn_client_machine.specs.Examples.{address, server_1, peer_1, tuple_1, want_1, rules_1}

abbrev pub event_at : (now fresh : ℕ) → Event → Timed
event_at now fresh event = record { now = now; fresh = fresh; event = event }

-- the newest first
abbrev pub events_1 : List Timed
events_1 =
    event_at 2 0 (responds server_1 102 true Done)
    ∷ event_at 2 102 polls
    ∷ event_at 1 0 (responds server_1 101 true (Opened (address 2) (address 12) 600))
    ∷ event_at 1 101 polls
    ∷ event_at 0 0 (responds server_1 100 false (Challenged 401 1))
    ∷ event_at 0 100 polls
    ∷ event_at 0 0 (permits peer_1)
    ∷ event_at 0 0 allocates
    ∷ []

abbrev pub request_1 : Request
request_1 = record { id = 101; kind = Allocate; challenge = Some 1; since = 1 }

abbrev pub request_2 : Request
request_2 = record { id = 102; kind = Permit peer_1; challenge = Some 1; since = 2 }

abbrev pub requests_1 : List ServerTimed
requests_1 =
    record {
      now = 2;
      rules = rules_1;
      event = s_asks tuple_1 5 (request_of None 102 want_1 [] request_2.kind);
    }
    ∷ record {
      now = 1;
      rules = rules_1;
      event = s_asks tuple_1 5 (request_of None 101 want_1 [] request_1.kind);
    }
    ∷ []
