-- What warrants an output: earlier datagrams, and not what the agent keeps.
use Rattle.std.specs.Prelude.{◌≡◌, ℕ, ◌+◌, ◌*◌, ◌<◌, ◌≤◌, true, ◌⊎◌, List, [], ◌∷◌, Some}
use Rattle.stun_endpoints.specs.declared.endpoints.Endpoint.{Endpoint}
use Rattle.ice_machine.specs.Roles.{Role, Controlling, Controlled}
use Rattle.ice_machine.specs.Agents.{seconds, Request, Pair}
use Rattle.ice_machine.specs.Events.{Check, Accepted, Answer, Refused, Event, checks, responds, strays, arrives, sends, polls, Output, asks, answers, data_to, data_from, nothing}
use Rattle.ice_machine.specs.Steps.{refusal_size}
use Rattle.ice_machine.specs.Runs.{Happening, Happened}

-- a request is sent
pub record Sends (r : Request) (h : Happening) : Type 0 where
  pub asked : h.output ≡ asks r
  pub then : r.sent ≡ h.moment

-- an authentic success response to a request that this agent sent less than 30 seconds before from this
-- base to this address: the response comes from the same address, at the same base, with the request's
-- transaction ID
pub record Accepts (P : Request → (moment : ℕ) → Type 0) (base : ℕ) (to : Endpoint) (h : Happening)
    (earlier : List Happening) : Type 0 where
  pub request : Request
  pub base_is : request.base ≡ base
  pub to_is : request.to ≡ to
  pub sent : Happened (Sends request) earlier
  pub in_time : h.moment < request.sent + seconds 30
  pub responded : h.event ≡ responds base to request.id Accepted
  pub holds : P request h.moment

abbrev pub HasAccepted : (P : Request → (moment : ℕ) → Type 0) → (base : ℕ) → (to : Endpoint)
    → List Happening → Type 0
HasAccepted P base to [] = ⊥
HasAccepted P base to (h ∷ earlier) = Accepts P base to h earlier ⊎ HasAccepted P base to earlier

-- the peer has consented to receive data there, less than 30 seconds ago
abbrev pub IsConsented : (now base : ℕ) → (to : Endpoint) → List Happening → Type 0
IsConsented now base to earlier = HasAccepted (λ r moment. now < moment + seconds 30) base to earlier

-- an authentic check comes from an address
pub record Hears (base : ℕ) (from : Endpoint) (h : Happening) : Type 0 where
  pub check : Check
  pub event : h.event ≡ checks check
  pub base_is : check.base ≡ base
  pub from_is : check.from ≡ from

-- one with USE-CANDIDATE
pub record HearsNomination (base : ℕ) (from : Endpoint) (h : Happening) : Type 0 where
  pub check : Check
  pub event : h.event ≡ checks check
  pub base_is : check.base ≡ base
  pub from_is : check.from ≡ from
  pub nominates : check.nominates ≡ true

-- an authentic message has come from an address: a check, or a success response
abbrev pub IsKnown : (base : ℕ) → (from : Endpoint) → List Happening → Type 0
IsKnown base from earlier =
    Happened (Hears base from) earlier ⊎ HasAccepted (λ r moment. Unit {0}) base from earlier

-- a nomination: in the controlling role, a nominating request was answered with success; in the controlled
-- role, a nominating check arrived
abbrev pub IsNominated : Role → (base : ℕ) → (to : Endpoint) → List Happening → Type 0
IsNominated Controlling base to earlier =
    HasAccepted (λ r moment. (r.nominates ≡ true) × (r.role ≡ Controlling)) base to earlier
IsNominated Controlled base to earlier = Happened (HearsNomination base to) earlier

-- what warrants that a pair is selected
pub record IsSelected (role : Role) (earlier : List Happening) (p : Pair) : Type 0 where
  pub nominated : IsNominated role p.base p.remote earlier
  pub valid : HasAccepted (λ r moment. Unit {0}) p.base p.remote earlier

-- a request is sent at a poll, and only a controlling agent nominates
pub record IsAsked (event : Event) (r : Request) : Type 0 where
  pub when : event ≡ polls
  pub nominates : r.nominates ≡ true → r.role ≡ Controlling

-- a response goes to where its request came from: a check; or a message that isn't authentic, which gets
-- an error response of at most three times its size
pub record IsAnswered (base : ℕ) (to : Endpoint) (id : ℕ) (event : Event) : Type 0 where
  pub check : Check
  pub event_is : event ≡ checks check
  pub base_is : check.base ≡ base
  pub to_is : check.from ≡ to
  pub id_is : check.id ≡ id

pub record IsRefused (base : ℕ) (to : Endpoint) (id : ℕ) (event : Event) (answer : Answer) : Type 0 where
  pub size : ℕ
  pub code : ℕ
  pub event_is : event ≡ strays base to id size (Some code)
  pub answer_is : answer ≡ Refused code
  pub small : refusal_size ≤ 3 * size

-- each output is one of these
abbrev pub IsRight : List Happening → (now : ℕ) → Event → Output → Type 0
IsRight earlier now event (asks r) = IsAsked event r
IsRight earlier now event (answers base to id answer) =
    IsAnswered base to id event ⊎ IsRefused base to id event answer
IsRight earlier now event (data_to base to bytes) =
    (component : ℕ) × (event ≡ sends component bytes) × IsConsented now base to earlier
IsRight earlier now event (data_from component bytes) =
    (base : ℕ) × (from : Endpoint) × (event ≡ arrives base from bytes) × IsKnown base from earlier
IsRight earlier now event nothing = Unit {0}
