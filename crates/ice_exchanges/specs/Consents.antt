-- The peer's consent, and its nomination, by the datagrams that show them (RFC 7675, section 5.1, from memory; RFC
-- 8445, sections 7.2.5.3.4, 7.3.1.5 and 8.1.1).
use Rattle.std.specs.Prelude.{◌≡◌, ℕ, ◌+◌, ◌<◌, ◌⊎◌, true, List, [], ◌∷◌}
use Rattle.stun_grammar.specs.declared.integrity_algorithm.IntegrityAlgorithm.{IntegrityAlgorithm}
use Rattle.stun_grammar.specs.Headers.{id_field, type_field}
use Rattle.stun_base.specs.declared.message_class.MessageClass.TheVariants.{Success}
use Rattle.stun_base.specs.MessageTypes.{class_of}
use Rattle.stun_authentication.specs.Identities.{shows}
use Rattle.stun_endpoints.specs.declared.endpoints.Endpoint.{Endpoint}
use Rattle.ice_attrs.specs.Ice.{USE_CANDIDATE}
use Rattle.ice_machine.specs.declared.pairs.Pair.{Pair}
use Rattle.ice_machine.specs.declared.messages.Request.{Request}
use Rattle.ice_machine.specs.Agents.{seconds}
use Rattle.ice_machine.specs.Events.{asks, polls}
use Rattle.ice_machine.specs.declared.roles.Role.{Role}
use Rattle.ice_machine.specs.declared.roles.Role.TheVariants.{Controlled, Controlling}
use Rattle.ice_checks.specs.Authentic.{IsCheck, IsResponse}
use Rattle.ice_agent.specs.Agents.{Agent}
use Rattle.ice_agent.specs.Runs.{Moment, after_all, calls, takes}
use Rattle.ice_exchanges.specs.Datagrams.{clock_at, output_of}

-- a poll sends a request: `request_text` are its bytes
pub record Sends (agent : Agent) (r : Request) (m : Moment) : Type 0 where
  pub polled : m.call ≡ calls polls
  pub asked : output_of agent m ≡ asks r
  pub then : r.sent ≡ clock_at agent m.now

abbrev pub HasSent : Agent → Request → List Moment → Type 0
HasSent agent r [] = ⊥
HasSent agent r (m ∷ earlier) = Sends (after_all agent earlier) r m ⊎ HasSent agent r earlier

-- a datagram is a success response, authentic under the peer's key, from an address, at a base: to a request that
-- the agent sent from that base to that address less than 30 seconds before
pub record Accepts (P : Request → (moment : ℕ) → Type 0) (base : ℕ) (to : Endpoint) (agent : Agent) (m : Moment)
    (earlier : List Moment) : Type 0 where
  pub bytes : List ℕ
  pub taken : m.call ≡ takes base to bytes
  pub succeeds : class_of (type_field bytes) ≡ Success
  pub authentic : IsResponse (after_all agent earlier).logins bytes
  pub request : Request
  pub id_is : id_field bytes ≡ request.id
  pub base_is : request.base ≡ base
  pub to_is : request.to ≡ to
  pub sent : HasSent agent request earlier
  pub in_time : clock_at (after_all agent earlier) m.now < request.sent + seconds 30
  pub holds : P request (clock_at (after_all agent earlier) m.now)

abbrev pub HasAccepted : (P : Request → (moment : ℕ) → Type 0) → (base : ℕ) → (to : Endpoint) → Agent → List Moment
    → Type 0
HasAccepted P base to agent [] = ⊥
HasAccepted P base to agent (m ∷ earlier) =
    Accepts P base to agent m earlier ⊎ HasAccepted P base to agent earlier

-- one came less than 30 seconds ago
abbrev pub IsConsented : (now base : ℕ) → (to : Endpoint) → Agent → List Moment → Type 0
IsConsented now base to agent earlier =
    HasAccepted (λ r moment. now < moment + seconds 30) base to agent earlier

-- a datagram is an authentic check with USE-CANDIDATE
pub record Nominates (base : ℕ) (from : Endpoint) (agent : Agent) (m : Moment) (earlier : List Moment)
    : Type 0 where
  pub bytes : List ℕ
  pub taken : m.call ≡ takes base from bytes
  pub candidate : shows USE_CANDIDATE bytes ≡ true
  pub algorithm : IntegrityAlgorithm
  pub authentic : IsCheck (after_all agent earlier).logins bytes algorithm

abbrev pub HasNominated : (base : ℕ) → (from : Endpoint) → Agent → List Moment → Type 0
HasNominated base from agent [] = ⊥
HasNominated base from agent (m ∷ earlier) =
    Nominates base from agent m earlier ⊎ HasNominated base from agent earlier

-- in the controlled role, one arrived; in the controlling role, a nominating request was answered with success
abbrev pub IsNominated : Role → (base : ℕ) → (to : Endpoint) → Agent → List Moment → Type 0
IsNominated Controlling base to agent earlier =
    HasAccepted (λ r moment. (r.nominates ≡ true) × (r.role ≡ Controlling)) base to agent earlier
IsNominated Controlled base to agent earlier = HasNominated base to agent earlier

-- why a pair is selected: its nomination, and an answered check of this agent
pub record IsAgreed (role : Role) (agent : Agent) (earlier : List Moment) (p : Pair) : Type 0 where
  pub nominated : IsNominated role p.base p.remote agent earlier
  pub valid : HasAccepted (λ r moment. Unit {0}) p.base p.remote agent earlier
