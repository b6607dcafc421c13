-- Whole histories of a client: what its user calls and what comes from the network, moment by moment,
-- the newest first.
use Rattle.std.specs.Prelude.{◌≡◌, ◌⊎◌, ℕ, Bool, true, false, List, [], ◌∷◌}
use Rattle.stun_grammar.specs.Numbers.{IsBytes}
use Rattle.turn_machine.specs.Lists.{SomeOf}
use Rattle.turn_client_machine.specs.Clients.{State, is_endpoint}
use Rattle.turn_client_machine.specs.Events.{Event, responds, gives, gives_on, strays, polls}
use Rattle.turn_client_machine.specs.Runs.{Happening, happening, history}
use Rattle.turn_client_machine.specs.Steps.{at}
use Rattle.turn_client_state.specs.States.{setup_of}
use Rattle.turn_client.specs.Clients.{Client}
use Rattle.turn_client.specs.Receiving.{BringsFrom}
use Rattle.turn_client.specs.Runs.{Call, calls, takes, Moment, after_all, timed_at, timed_all, IsBegun}

-- ---- What is called and what comes

-- whether the network brings an event, and not the user
abbrev pub is_of_network : Event → Bool
is_of_network (responds from id authentic answer) = true
is_of_network (gives from peer bytes) = true
is_of_network (gives_on from number bytes) = true
is_of_network (strays from) = true
is_of_network _ = false

-- the user's calls are the user's, and a datagram is bytes; its challenge brings what it asks for
abbrev pub IsCall : Client → Call → Type 0
IsCall client (calls event) = is_of_network event ≡ false
IsCall client (takes from d brought) =
    IsBytes d × BringsFrom (is_endpoint from client.held.settings.server) client d brought

abbrev pub AreCalls : Client → List Moment → Type 0
AreCalls client [] = Unit {0}
AreCalls client (m ∷ earlier) = IsCall (after_all client earlier) m.call × AreCalls client earlier

-- a poll with this transaction ID for a new request
abbrev pub IsPollWith : (id : ℕ) → Moment → Type 0
IsPollWith id m = (m.call ≡ calls polls) × (m.fresh ≡ id)

-- no two polls have the same transaction ID (RFC 8489, section 6)
abbrev pub AreDistinct : List Moment → Type 0
AreDistinct [] = Unit {0}
AreDistinct (m ∷ earlier) =
    (m.call ≡ calls polls → SomeOf (IsPollWith m.fresh) earlier → ⊥) × AreDistinct earlier

-- a new client, and all that was called and came since
pub record IsHistory (client : Client) (moments : List Moment) : Type 0 where
  pub begun : IsBegun client
  pub bare : client.kept ≡ []
  pub calls : AreCalls client moments
  pub distinct : AreDistinct moments

-- ---- What happened

-- the state of a client at a later moment
abbrev pub state_at : Client → (now : ℕ) → State
state_at client now = at now client.held.state

-- what has happened, as the machine's events and outputs
abbrev pub past : Client → List Moment → List Happening
past client moments = history (setup_of client.held.settings) (timed_all client moments)

-- something was so at a moment, after those before it
abbrev pub Came : (List Moment → Moment → Type 0) → List Moment → Type 0
Came P [] = ⊥
Came P (m ∷ earlier) = P earlier m ⊎ Came P earlier

-- what a moment is to the machine
abbrev pub happened : Client → List Moment → Moment → Happening
happened client earlier m =
    let before = after_all client earlier in
    happening (setup_of before.held.settings) before.held.state (timed_at before m)
