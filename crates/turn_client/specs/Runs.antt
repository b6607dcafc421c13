-- Whole runs of a client: the calls and the datagrams, the newest first.
use Rattle.std.specs.Prelude.{◌≡◌, ℕ, List, [], ◌∷◌}
use Rattle.turn_client_machine.specs.Clients.{Endpoint}
use Rattle.turn_client_machine.specs.Events.{Event}
use Rattle.turn_client_machine.specs.Runs.{Timed, begun}
use Rattle.turn_client_state.specs.States.{setup_of}
use Rattle.turn_client.specs.Clients.{Client, Kept, passes}
use Rattle.turn_client.specs.Receiving.{event_at, received_with}

-- the user, or time; or a datagram, with the credentials that its challenge brings
pub data Call : Type 0 where
  calls : Event → Call
  takes : (from : Endpoint) → List ℕ → (brought : List Kept) → Call

-- a call, the caller's clock, and a random transaction ID for a new request
pub record Moment : Type 0 where
  pub now : ℕ
  pub fresh : ℕ
  pub call : Call

abbrev pub stepped : Client → (now fresh : ℕ) → Call → Client
stepped client now fresh (calls event) = passes now fresh event client
stepped client now fresh (takes from d brought) = received_with brought now from d client

abbrev pub after_all : Client → List Moment → Client
after_all client [] = client
after_all client (m ∷ earlier) = stepped (after_all client earlier) m.now m.fresh m.call

-- the event of the machine that a call is
abbrev pub event_in : Client → Call → Event
event_in client (calls event) = event
event_in client (takes from d brought) = event_at client from d

-- (a datagram takes no random number)
abbrev pub fresh_in : (fresh : ℕ) → Call → ℕ
fresh_in fresh (calls event) = fresh
fresh_in fresh (takes from d brought) = 0

abbrev pub timed_at : Client → Moment → Timed
timed_at client m = record {
  now = m.now;
  fresh = fresh_in m.fresh m.call;
  event = event_in client m.call;
}

abbrev pub timed_all : Client → List Moment → List Timed
timed_all client [] = []
timed_all client (m ∷ earlier) = timed_at (after_all client earlier) m ∷ timed_all client earlier

-- a client that hasn't been called yet
abbrev pub IsBegun : Client → Type 0
IsBegun client = client.held.state ≡ begun (setup_of client.held.settings)
