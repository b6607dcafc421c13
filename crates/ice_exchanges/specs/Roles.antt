-- Checks between two agents that are passed each other's datagrams, none of which is lost (RFC 8445, sections 7.2.5.1
-- and 7.3.1.1).
use Rattle.std.specs.Prelude.{◌≡◌, ℕ, List, find, Option, Some}
use Rattle.stun_endpoints.specs.declared.endpoints.Endpoint.{Endpoint}
use Rattle.ice_machine.specs.declared.messages.Request.{Request}
use Rattle.ice_machine.specs.declared.roles.Role.{Role}
use Rattle.ice_machine.specs.declared.roles.Role.TheVariants.{Controlling, Controlled}
use Rattle.ice_machine.specs.Roles.{RoleDecision, keep, switch, refuse}
use Rattle.ice_machine.specs.Steps.{at, is_request}
use Rattle.ice_attrs.specs.declared.roles.Role.{Role as ShownRole}
use Rattle.ice_attrs.specs.declared.roles.Role.TheVariants.{Controlling as ShownControlling, Controlled as ShownControlled}
use Rattle.ice_attrs.specs.declared.roles.RoleDecision.{RoleDecision as Decision}
use Rattle.ice_attrs.specs.declared.roles.RoleDecision.TheVariants.{Keep, Switch, Refuse}
use Rattle.ice_agent_state.specs.Agents.{output_at}
use Rattle.ice_agent.specs.Agents.{Agent}
use Rattle.ice_agent.specs.Receiving.{Reply, event_at, judged, received, reply_text}
use Rattle.ice_exchanges.specs.Meetings.{IsPaired, bytes_of, reply_by}
use Rattle.ice_exchanges.specs.Peers.{IsInFields, IsTransport}

-- an agent that waits for the response to a request, and when and where it receives the other agent's request, at a
-- base and from an address that a NAT may have changed, and later the response
pub record Side : Type 0 where
  pub agent : Agent
  pub request : Request
  pub base : ℕ
  pub from : Endpoint
  pub now : ℕ
  pub fresh : ℕ
  pub later : ℕ
  pub anew : ℕ

-- the datagram that it receives first
abbrev pub datagram_from : (peer : Side) → List ℕ
datagram_from peer = bytes_of peer.agent peer.request

-- the agent after it, and what it answers
abbrev pub checked_by : (own peer : Side) → Agent
checked_by own peer = received own.now own.fresh own.base own.from (datagram_from peer) own.agent

abbrev pub reply_of : (own peer : Side) → Option Reply
reply_of own peer = let d = datagram_from peer in
    reply_by own.agent d (judged own.agent own.base own.from d)
    (output_at own.now own.fresh (event_at own.agent own.base own.from d) own.agent.held)

-- the response comes from where the request was sent
abbrev pub answered_with : Side → Agent → Reply → Agent
answered_with own agent reply =
    received own.later own.anew own.request.base own.request.to (reply_text reply) agent

-- the agent has the other one's credentials, its request shows its role, and comes from a transport address
pub record IsAsking (own peer : Side) : Type 0 where
  pub paired : IsPaired own.agent peer.agent
  pub fields : IsInFields own.request
  pub source : IsTransport peer.from
  pub shows : own.request.role ≡ own.agent.held.state.role

-- it waits for the response, still when that comes
abbrev pub IsWaiting : Side → Agent → Type 0
IsWaiting own agent =
    find (is_request own.request.id) (at agent.held.setup own.later agent.held.state).requests
    ≡ Some own.request

-- one agent checks the other one, and receives its response
pub record IsExchange (one other : Side) (reply : Reply) : Type 0 where
  pub asks : IsAsking one other
  pub replies : reply_of other one ≡ Some reply
  pub waits : IsWaiting one one.agent

-- both check each other at the same time, so that each responds before it receives the response
pub record IsCrossing (one other : Side) (one_reply other_reply : Reply) : Type 0 where
  pub one_asks : IsAsking one other
  pub other_asks : IsAsking other one
  pub one_number : one.request.tiebreaker ≡ one.agent.held.state.tiebreaker
  pub other_number : other.request.tiebreaker ≡ other.agent.held.state.tiebreaker
  pub distinct : one.agent.held.state.tiebreaker ≡ other.agent.held.state.tiebreaker → ⊥
  pub one_replies : reply_of one other ≡ Some one_reply
  pub other_replies : reply_of other one ≡ Some other_reply
  pub one_waits : IsWaiting one (checked_by one other)
  pub other_waits : IsWaiting other (checked_by other one)

-- ---- The values of `ice_attrs`

abbrev pub shown_role : Role → ShownRole
shown_role Controlling = ShownControlling
shown_role Controlled = ShownControlled

abbrev pub decision_as : RoleDecision → Decision
decision_as keep = Keep
decision_as switch = Switch
decision_as refuse = Refuse
