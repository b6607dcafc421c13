-- What a judgment says of the datagram.
use Rattle.std.specs.Prelude.{◌≡◌, ℕ, Bool, true, false, List, None, Some}
use Rattle.stun_grammar.specs.declared.integrity_algorithm.IntegrityAlgorithm.{IntegrityAlgorithm}
use Rattle.stun_grammar.specs.Headers.{type_field}
use Rattle.stun_grammar.specs.Names.{BINDING}
use Rattle.stun_grammar.specs.Parsing.{parse_fault}
use Rattle.stun_base.specs.declared.message_class.MessageClass.{MessageClass}
use Rattle.stun_base.specs.declared.message_class.MessageClass.TheVariants.{Request, Indication}
use Rattle.stun_base.specs.MessageTypes.{class_of, method_of}
use Rattle.stun_authentication.specs.Answers.{Decision, accept, refuse}
use Rattle.stun_authentication.specs.Identities.{Who}
use Rattle.stun_authentication.specs.Lookups.{UserKey}
use Rattle.stun_authentication.specs.LongTerm.{long_term}
use Rattle.turn_attrs.specs.Channels.{channel_field}
use Rattle.turn_attrs.specs.ChannelMessages.{data_in}
use Rattle.turn_server.specs.Comprehended.{is_comprehended}
use Rattle.turn_server.specs.Indications.{sent_by, keeps_whole}
use Rattle.turn_server.specs.Judging.{Site, Judged, dropped, binding, refused, unknown, sent, sent_on, asked, SEND}
use Rattle.turn_server.specs.Requests.{asks_table, request_of}
use Rattle.turn_server.specs.Wanted.{Wanted, outer_of}
use Rattle.turn_machine.specs.Reserving.{OuterState, Outer}
use Rattle.stun_endpoints.specs.declared.endpoints.FiveTuple.{FiveTuple}
use Rattle.turn_allocations.specs.declared.families.Families.{Families}
use Rattle.turn_server.specs.Accounts.{account_of}

-- d parses as a message of a class
pub record IsOfClass (class : MessageClass) (d : List ℕ) : Type 0 where
  pub parses : parse_fault d ≡ None
  pub class_is : class_of (type_field d) ≡ class

-- what the credentials of d decide
abbrev pub credentials : Site → List ℕ → Decision
credentials site d = long_term site.policy site.realm site.nonces site.keys d

-- d is a request for the allocations, and its credentials decide so
pub record IsDecided (site : Site) (d : List ℕ) (decision : Decision) : Type 0 where
  pub of_class : IsOfClass Request d
  pub asks : asks_table (method_of (type_field d)) ≡ true
  pub decided : credentials site d ≡ decision

-- d is a user's, authenticated by this key, and shows nothing that isn't comprehended; it asks for
-- this
pub record IsAsked (sets_df : Bool) (site : Site) (d : List ℕ) (user : ℕ) (wanted : Wanted) (key : UserKey)
    (reply_algorithm : IntegrityAlgorithm) : Type 0 where
  pub who : Who
  pub algorithm : IntegrityAlgorithm
  pub accepted : IsDecided site d (accept who key algorithm reply_algorithm)
  pub comprehended : is_comprehended sets_df d ≡ true
  pub user_is : user ≡ account_of site.realm who
  pub wanted_is : wanted ≡ request_of site.client site.sockets (method_of (type_field d)) d

pub record IsUnknown (sets_df : Bool) (site : Site) (d : List ℕ) (key : UserKey)
    (reply_algorithm : IntegrityAlgorithm) : Type 0 where
  pub who : Who
  pub algorithm : IntegrityAlgorithm
  pub accepted : IsDecided site d (accept who key algorithm reply_algorithm)
  pub not_comprehended : is_comprehended sets_df d ≡ false

-- d is a Binding request
pub record IsBinding (d : List ℕ) : Type 0 where
  pub of_class : IsOfClass Request d
  pub method_is : method_of (type_field d) ≡ BINDING

-- d is a Send indication
pub record IsSend (d : List ℕ) : Type 0 where
  pub of_class : IsOfClass Indication d
  pub method_is : method_of (type_field d) ≡ SEND

-- whatever isn't dropped is what it is taken for
abbrev pub IsSo : (sets_df : Bool) → Site → List ℕ → Judged → Type 0
IsSo sets_df site d dropped = Unit {0}
IsSo sets_df site d binding = IsBinding d
IsSo sets_df site d (refused refusal) = IsDecided site d (refuse refusal)
IsSo sets_df site d (unknown key reply_algorithm) = IsUnknown sets_df site d key reply_algorithm
IsSo sets_df site d (sent peer dont_fragment bytes) =
    IsSend d × ((sent_by sets_df d ≡ Some (peer, bytes)) × (dont_fragment ≡ keeps_whole sets_df d))
IsSo sets_df site d (sent_on channel bytes) = (channel ≡ channel_field d) × (data_in d ≡ Some bytes)
IsSo sets_df site d (asked user wanted key reply_algorithm) =
    IsAsked sets_df site d user wanted key reply_algorithm

-- this is what it asks for, as a request of this client's user, of a server at this moment
pub record Asks (sets_df : Bool) (site : Site) (h : OuterState) (d : List ℕ) (tuple : FiveTuple) (user : ℕ)
    (outer : Outer) : Type 0 where
  pub numbers : Families ℕ
  pub wanted : Wanted
  pub key : UserKey
  pub reply_algorithm : IntegrityAlgorithm
  pub asked : IsAsked sets_df site d user wanted key reply_algorithm
  pub outer_is : outer ≡ outer_of tuple user h numbers wanted
