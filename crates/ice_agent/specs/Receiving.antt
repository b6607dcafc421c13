-- What an agent does with a datagram, and what it returns (RFC 8445, sections 7.2.5, 7.3 and 12.2).
use Rattle.std.specs.Prelude.{◌≡◌, ℕ, ◌%◌, ◌^◌, Bool, List, length, Option, None, Some, Result, Ok, Err, if◌then◌else◌}
use Rattle.std.specs.List.{list_any}
use Rattle.std.specs.Option.{option_map}
use Rattle.stun_grammar.specs.declared.error.StunWriteError.{StunWriteError}
use Rattle.stun_grammar.specs.declared.integrity_algorithm.IntegrityAlgorithm.{IntegrityAlgorithm}
use Rattle.stun_endpoints.specs.declared.endpoints.Endpoint.{Endpoint}
use Rattle.ice_machine.specs.declared.messages.Answer.{Answer}
use Rattle.ice_machine.specs.declared.messages.Answer.TheVariants.{Accepted, Refused as RefusedBy}
use Rattle.ice_machine.specs.Events.{Event, Output, answers, data_from}
use Rattle.ice_machine.specs.Steps.{at, is_request}
use Rattle.ice_agent_state.specs.Agents.{Held, after}
use Rattle.ice_agent_state.specs.Changes.{is_counted}
use Rattle.ice_agent_state.specs.Reports.{Reports, with_mapped}
use Rattle.ice_checks.specs.declared.judged.Judged.{Judged}
use Rattle.ice_checks.specs.declared.judged.Judged.TheVariants.{Arrives, Strays, Refused, Responds, Checks}
use Rattle.ice_checks.specs.Checks.{response_length, response_text}
use Rattle.ice_checks.specs.Judging.{event_of, judge, refusal_to}
use Rattle.ice_checks.specs.Views.{Login, Response, Signing, success, role_conflict}
use Rattle.ice_agent.specs.declared.receiving.Received.{Received}
use Rattle.ice_agent.specs.declared.receiving.Received.TheVariants.{Nothing, Response as Responded, Data}
use Rattle.ice_agent.specs.Agents.{Agent}
use Rattle.ice_agent.specs.Writing.{replied_in, reply_placed_in}

-- ---- The event

-- whether a response to a request with this transaction ID is waited for
abbrev pub is_awaited : Agent → (id : ℕ) → Bool
is_awaited agent id = list_any (is_request id) agent.held.state.requests

-- what a datagram is
abbrev pub judged : Agent → (base : ℕ) → (from : Endpoint) → List ℕ → Judged
judged agent base from d = judge agent.logins (is_awaited agent) base from d

abbrev pub event_at : Agent → (base : ℕ) → (from : Endpoint) → List ℕ → Event
event_at agent base from d = event_of base from d (judged agent base from d)

-- ---- The agent then

-- an address that a response reports, if the response counts (section 7.2.5.3.1)
abbrev pub reported_if : (counts : Bool) → (base : ℕ) → Option Endpoint → Reports → Reports
reported_if counts base None reports = reports
reported_if counts base (Some mapped) reports = if counts then with_mapped base mapped reports else reports

abbrev pub reported_by : Held → (now base : ℕ) → (from : Endpoint) → Judged → Reports → Reports
reported_by held now base from (Responds id answer mapped) reports = reported_if
    (is_counted base from id (at held.setup now held.state).requests) base mapped reports
reported_by held now base from Arrives reports = reports
reported_by held now base from (Strays id) reports = reports
reported_by held now base from (Refused id refusal signed_by) reports = reports
reported_by held now base from (Checks check algorithm) reports = reports

abbrev pub received_as : Judged → (now fresh base : ℕ) → (from : Endpoint) → List ℕ → Agent → Agent
received_as judged now fresh base from d agent = record agent {
  held = after now fresh (event_of base from d judged) agent.held;
  reports = reported_by agent.held now base from judged agent.reports;
}

abbrev pub received : (now fresh base : ℕ) → (from : Endpoint) → List ℕ → Agent → Agent
received now fresh base from d agent =
    received_as (judged agent base from d) now fresh base from d agent

-- ---- The response

-- the transaction ID of 96 bits, a response, and by what it is signed
pub record Reply : Type 0 where
  pub id : ℕ
  pub response : Response
  pub signing : Option Signing

-- responses are signed by this agent's key, with the algorithm of the request (RFC 8489, section 9.1.3)
abbrev pub signing_with : (own : Login) → IntegrityAlgorithm → Signing
signing_with own algorithm = record { key = own.key; algorithm = algorithm }

abbrev pub signing_by : Agent → IntegrityAlgorithm → Signing
signing_by agent algorithm = signing_with agent.logins.own algorithm

-- to a check: success, or 487
abbrev pub check_response : (from : Endpoint) → Answer → Response
check_response from Accepted = success from
check_response from (RefusedBy code) = role_conflict

-- what a datagram is answered with, if it is answered: a check, or a request that isn't one
abbrev pub reply_with : (own : Login) → List ℕ → Judged → Answer → Option Reply
reply_with own d (Checks check algorithm) answer = Some (record {
  id = check.id % 2 ^ 96;
  response = check_response check.from answer;
  signing = Some (signing_with own algorithm);
})
reply_with own d (Refused id refusal signed_by) answer = Some (record {
  id = id % 2 ^ 96;
  response = refusal_to d refusal;
  signing = option_map (signing_with own) signed_by;
})
reply_with own d Arrives answer = None
reply_with own d (Strays id) answer = None
reply_with own d (Responds id said mapped) answer = None

abbrev pub reply_to : Agent → List ℕ → Judged → Answer → Option Reply
reply_to agent d judged answer = reply_with agent.logins.own d judged answer

abbrev pub reply_text : Reply → List ℕ
reply_text reply = response_text reply.id reply.response reply.signing

abbrev pub reply_length : Reply → ℕ
reply_length reply = response_length reply.id reply.response reply.signing

-- ---- What is returned

abbrev pub replied : Result ℕ StunWriteError → Result Received StunWriteError
replied (Ok n) = Ok (Responded n)
replied (Err e) = Err e

-- the response is written, or an error says that the slice has no room for it
abbrev pub IsReplied : Option Reply → (old new : List ℕ) → Result Received StunWriteError → Type 0
IsReplied None old new result = ⊥
IsReplied (Some reply) old new result =
    (result ≡ replied (replied_in (reply_length reply) (length old)))
    × (new ≡ reply_placed_in (reply_length reply) (reply_text reply) old)

-- the peer's data, of a component
abbrev pub IsData : (component : ℕ) → List ℕ → Result Received StunWriteError → Type 0
IsData component bytes (Ok (Data shown content)) = (shown ≡ component) × (content.now ≡ bytes)
IsData component bytes _ = ⊥

-- what is returned with this output of the machine, and what the caller's slice holds then
abbrev pub ReceivesWith : (own : Login) → List ℕ → Judged → Output → (old new : List ℕ) → Result Received StunWriteError
    → Type 0
ReceivesWith own d judged (answers base to id answer) old new result =
    IsReplied (reply_with own d judged answer) old new result
ReceivesWith own d judged (data_from component bytes) old new result =
    IsData component bytes result × (new ≡ old)
ReceivesWith own d judged _ old new result = (result ≡ Ok Nothing) × (new ≡ old)

abbrev pub Receives : Agent → List ℕ → Judged → Output → (old new : List ℕ) → Result Received StunWriteError
    → Type 0
Receives agent d judged output old new result =
    ReceivesWith agent.logins.own d judged output old new result
