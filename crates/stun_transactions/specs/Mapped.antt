-- The address that a response reports (RFC 8489, sections 6.3.1 and 14.2).
use Rattle.std.specs.Prelude.{◌≡◌, ℕ, true, List, Option, None, Some, Result, Ok, Err, MatchOption}
use Rattle.std.specs.declared.net.socket_addr.SocketAddr.{SocketAddr}
use Rattle.stun_grammar.specs.declared.error.StunParseError.{StunParseError}
use Rattle.stun_grammar.specs.declared.error.StunParseError.TheVariants.{MissingAttribute}
use Rattle.stun_grammar.specs.AttributeTypes.{XOR_MAPPED_ADDRESS}
use Rattle.stun_grammar.specs.Headers.{type_field, id_field}
use Rattle.stun_grammar.specs.Parsing.{parse_fault}
use Rattle.stun_base.specs.declared.message_class.MessageClass.TheVariants.{Success}
use Rattle.stun_base.specs.MessageTypes.{class_of}
use Rattle.stun_attributes.specs.Reading.{Reads}
use Rattle.stun_types.specs.LookingUp.{nth}
use Rattle.stun_types.specs.Replies.{is_answer_to}
use Rattle.stun_values.specs.Addresses.{Spells, IsXored, address_fault}

-- the value of an XOR-MAPPED-ADDRESS has this address, in a message with this transaction ID
pub record TellsAddress (id : ℕ) (value : List ℕ) (a : SocketAddr) : Type 0 where
  pub written : SocketAddr
  pub spelled : Spells value written
  pub xored : IsXored id written a

-- what is read of the first XOR-MAPPED-ADDRESS of the message d
abbrev pub ReadsMapped : List ℕ → Result SocketAddr StunParseError → Type 0
ReadsMapped d result =
    MatchOption (nth d XOR_MAPPED_ADDRESS 0)
    (result ≡ Err (MissingAttribute (record { 0 = XOR_MAPPED_ADDRESS })))
    (λ shown. Reads (address_fault shown.value) (TellsAddress (id_field d) shown.value) result)

-- d is a success response to the request r
pub record IsSuccessOf (r d : List ℕ) : Type 0 where
  pub answers : is_answer_to r d ≡ true
  pub succeeds : class_of (type_field d) ≡ Success

-- what the bytes d say of the request r: the address, if they are a success response to it
abbrev pub ReadsAnswer : List ℕ → List ℕ → Result (Option SocketAddr) StunParseError → Type 0
ReadsAnswer r d (Ok None) = (parse_fault d ≡ None) × ¬ (IsSuccessOf r d)
ReadsAnswer r d (Ok (Some a)) = (parse_fault d ≡ None) × IsSuccessOf r d × ReadsMapped d (Ok a)
ReadsAnswer r d (Err e) =
    MatchOption (parse_fault d) (IsSuccessOf r d × ReadsMapped d (Err e)) (λ fault. e ≡ fault)
