-- What a server does for a client's datagram, once the event that it is has its output (RFC 8656, sections 5 to
-- 12).
use Rattle.std.specs.Prelude.{ℕ, Bool, List, find, nat_le, ◌&&◌, ◌||◌, ◌==◌, Option, None, Some, is_some, if◌then◌else◌}
use Rattle.std.specs.Option.{option_map}
use Rattle.stun_grammar.specs.declared.integrity_algorithm.IntegrityAlgorithm.{IntegrityAlgorithm}
use Rattle.stun_authentication.specs.declared.answer.Refusal.{Refusal}
use Rattle.stun_authentication.specs.Lookups.{UserKey}
use Rattle.stun_endpoints.specs.declared.endpoints.Endpoint.{Endpoint}
use Rattle.stun_endpoints.specs.declared.endpoints.FiveTuple.{FiveTuple}
use Rattle.turn_machine.specs.Relays.{Setup, Rules}
use Rattle.turn_machine.specs.Events.{Given, Answer, allocated, Output, answers, to_peer}
use Rattle.turn_machine.specs.Reserving.{OuterState, OuterStep, outer_step}
use Rattle.turn_allocations.specs.declared.families.Families.{Families}
use Rattle.turn_allocations.specs.declared.answer.Given.{Given as Shown}
use Rattle.turn_server.specs.declared.action.Opened.{Opened}
use Rattle.turn_server.specs.Judging.{Site, Judged, dropped, binding, refused, unknown, sent, sent_on, asked, event_of, judge}
use Rattle.turn_server.specs.Wanted.{token_of, server_at}

-- The sockets that are used from now on: those that are opened, by family; the token by which the second one of
-- the pair is kept, if the request reserved it; and the token by which the one that is opened was kept, if the
-- request claimed it
pub record Used : Type 0 where
  pub opened : Families (Option Opened)
  pub reserved : Option ℕ
  pub claimed : Option ℕ

-- nothing; the reply to a Binding request, which isn't signed; an error response that isn't signed either
-- (400, 401 or 438); one that lists the types that aren't comprehended (420), signed by the user's key;
-- the answer to a user's request, with a token or without, signed by their key, and the sockets that are used
-- from now on; or data to a peer, from the socket of this number, with the DF bit or without
pub data Act : Type 0 where
  drops : Act
  binds : Act
  refuses : Refusal → Act
  refuses_types : UserKey → (reply_algorithm : IntegrityAlgorithm) → Act
  responds : Answer → (token : Option ℕ) → Used → UserKey → (reply_algorithm : IntegrityAlgorithm) → Act
  sends_to : (number : ℕ) → Endpoint → (dont_fragment : Bool) → List ℕ → Act

-- ---- The sockets that a request uses

abbrev pub opened_as : Given → Opened
opened_as g = record { number = g.number; relayed = g.address }

-- of a family: the client has an address under a number that is not below all that are new
abbrev pub opened_of : (next family : ℕ) → List Given → Option Opened
opened_of next family given =
    option_map opened_as (find (λ g. (g.family == family) && nat_le next g.number) given)

-- the same of a relayed address in an answer
abbrev pub opened_one : (next : ℕ) → Option Shown → Option Opened
opened_one next None = None
opened_one next (Some g) = if nat_le next g.number then Some (record { number = g.number; relayed = g.address }) else None

abbrev pub none_opened : Families (Option Opened)
none_opened = record { ipv4 = None; ipv6 = None }

abbrev pub opened_in : (next : ℕ) → Answer → Families (Option Opened)
opened_in next (allocated given lifetime missing) =
    record { ipv4 = opened_of next 1 given; ipv6 = opened_of next 2 given }
opened_in next _ = none_opened

abbrev pub is_opened : Families (Option Opened) → Bool
is_opened opened = is_some opened.ipv4 || is_some opened.ipv6

-- only a request that opens a relayed address reserves a socket, or uses up a token
abbrev pub used_by : (claims token : Option ℕ) → Families (Option Opened) → Used
used_by claims token opened = record {
  opened = opened;
  reserved = if is_opened opened then token else None;
  claimed = if is_opened opened then claims else None;
}

abbrev pub none_used : Used
none_used = record { opened = none_opened; reserved = None; claimed = None }

-- ---- What is done

-- what comes of data: it is relayed, or nothing is done
abbrev pub data_act : Output → Act
data_act (to_peer number peer dont_fragment bytes) = sends_to number peer dont_fragment bytes
data_act _ = drops

-- what comes of a user's request: its answer
abbrev pub answer_act : (next : ℕ) → (claims : Option ℕ) → UserKey → IntegrityAlgorithm → (token : Option ℕ)
    → Output → Act
answer_act next claims key algorithm token (answers tuple answer) =
    responds answer token (used_by claims token (opened_in next answer)) key algorithm
answer_act next claims key algorithm token _ = drops

-- for a datagram that is taken for this, by the token and the output of its event. Numbers from the next one on
-- are new
abbrev pub act_of : (next : ℕ) → Judged → (token : Option ℕ) → Output → Act
act_of next dropped token output = drops
act_of next binding token output = binds
act_of next (refused refusal) token output = refuses refusal
act_of next (unknown key algorithm) token output = refuses_types key algorithm
act_of next (sent peer dont_fragment bytes) token output = data_act output
act_of next (sent_on channel bytes) token output = data_act output
act_of next (asked user wanted key algorithm) token output =
    answer_act next (token_of wanted) key algorithm token output

-- the step that a datagram is, at a moment, by the rules in force
abbrev pub stepped : Setup → Rules → FiveTuple → (numbers : Families ℕ) → OuterState → (now : ℕ) → Judged
    → OuterStep
stepped setup rules tuple numbers h now judged =
    outer_step setup rules h now (event_of tuple (server_at now h) numbers judged)

abbrev pub acted : Setup → Rules → FiveTuple → (numbers : Families ℕ) → OuterState → (now : ℕ) → Judged → Act
acted setup rules tuple numbers h now judged =
    let done = stepped setup rules tuple numbers h now judged in
    act_of h.state.next judged done.token done.step.output

abbrev pub act : Site → Setup → Rules → FiveTuple → (numbers : Families ℕ) → OuterState → (now : ℕ) → List ℕ
    → Act
act site setup rules tuple numbers h now d =
    acted setup rules tuple numbers h now (judge setup.last_channel setup.supports_dont_fragment site d)
