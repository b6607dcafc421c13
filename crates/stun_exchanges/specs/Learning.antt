-- What a client learns of the reply to its request (RFC 8489, sections 6.3.1, 6.3.3, 6.3.4 and 14.2).
use Rattle.std.specs.Prelude.{◌≡◌, ℕ, List, [], true, false, Option, None, Some, Result, IsOkAnd, IsSomeAnd}
use Rattle.std.specs.Net.Socket.{socket_ip, socket_port}
use Rattle.std.specs.declared.net.socket_addr.SocketAddr.{SocketAddr}
use Rattle.stun_grammar.specs.declared.error.StunParseError.{StunParseError}
use Rattle.stun_grammar.specs.AttributeTypes.{UNKNOWN_ATTRIBUTES}
use Rattle.stun_grammar.specs.Headers.{type_field, id_field}
use Rattle.stun_grammar.specs.Names.{BINDING}
use Rattle.stun_grammar.specs.Parsing.{parse_fault}
use Rattle.stun_base.specs.declared.message_class.MessageClass.TheVariants.{Request}
use Rattle.stun_base.specs.MessageTypes.{class_of, method_of}
use Rattle.stun_types.specs.LookingUp.{nth}
use Rattle.stun_types.specs.Replies.{is_answer_to, unknown_types}
use Rattle.stun_values.specs.Addresses.{IsInRange, plain_socket}
use Rattle.stun_values.specs.TypeLists.{types_encoding}
use Rattle.stun_transactions.specs.declared.parts.TransactionParts.{TransactionParts}
use Rattle.stun_transactions.specs.declared.received.Outcome.{Outcome}
use Rattle.stun_transactions.specs.declared.received.Outcome.TheVariants.{Success, Error}
use Rattle.stun_transactions.specs.Mapped.{ReadsAnswer}
use Rattle.stun_transactions.specs.Outcomes.{is_open}
use Rattle.stun_transactions.specs.Receiving.{received_outcome}
use Rattle.stun_transactions.specs.Usages.{lacks_fingerprint}
use Rattle.stun_server.specs.Reply.{reply}

-- r is a message, and a binding request
pub record IsBindingRequest (r : List ℕ) : Type 0 where
  pub parses : parse_fault r ≡ None
  pub class_is : class_of (type_field r) ≡ Request
  pub method_is : method_of (type_field r) ≡ BINDING

-- the address without flow info and scope ID
abbrev pub without_flow : SocketAddr → SocketAddr
without_flow a = plain_socket (socket_ip a) (socket_port a)

-- a transaction of the unsigned request r waits for its response: if the usage sends FINGERPRINT, r
-- shows one
pub record Awaits (r : List ℕ) (parts : TransactionParts) : Type 0 where
  pub method_is : parts.method ≡ method_of (type_field r)
  pub id_is : parts.id ≡ id_field r
  pub unprotected : parts.mechanism ≡ None
  pub fingerprint : lacks_fingerprint parts.usage r ≡ false
  pub ongoing : is_open parts.state ≡ true

-- d is a message, a response to the request r, and is this for each transaction that waits for one;
-- nothing authenticates it
pub record IsReceivedAs (reported : Outcome) (r d : List ℕ) : Type 0 where
  pub parses : parse_fault d ≡ None
  pub answers : is_answer_to r d ≡ true
  pub received_is : (parts : TransactionParts) → Awaits r parts
      → received_outcome parts None [] d ≡ reported

-- whatever is read of d, as an answer to r, is this address
abbrev pub TellsOnly : SocketAddr → (r d : List ℕ) → Type 0
TellsOnly a r d =
    (result : Result (Option SocketAddr) StunParseError) → ReadsAnswer r d result
    → IsOkAnd result (λ reported. IsSomeAnd reported (λ read. IsInRange read → read ≡ a))

-- the reply to r, which came from an address, reports this address to the client
pub record Learns (source : SocketAddr) (r : List ℕ) : Type 0 where
  pub text : List ℕ
  pub replied : reply source r ≡ Some text
  pub taken : IsReceivedAs (Success None) r text
  pub address : TellsOnly (without_flow source) r text

-- the reply to r says to the client which types it may not show
pub record LearnsError (source : SocketAddr) (r : List ℕ) : Type 0 where
  pub text : List ℕ
  pub replied : reply source r ≡ Some text
  pub taken : IsReceivedAs (Error 420 None) r text
  pub types : IsSomeAnd (nth text UNKNOWN_ATTRIBUTES 0)
      (λ shown. shown.value ≡ types_encoding (unknown_types [] r))
