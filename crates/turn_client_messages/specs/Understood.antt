-- The types below 0x8000 that a client understands (RFC 8489, sections 6.3.2 to 6.3.4): those of
-- RFC 8489 and of RFC 8656. One of them that means nothing in a message is ignored.
use Rattle.std.specs.Prelude.{ℕ, Bool, List, [], ◌∷◌, length, ◌==◌}
use Rattle.stun_grammar.specs.declared.attribute_type.AttributeType.{AttributeType}
use Rattle.stun_grammar.specs.AttributeTypes.{MAPPED_ADDRESS, USERNAME, MESSAGE_INTEGRITY, ERROR_CODE, UNKNOWN_ATTRIBUTES, REALM, NONCE, MESSAGE_INTEGRITY_SHA256, PASSWORD_ALGORITHM, USERHASH, XOR_MAPPED_ADDRESS}
use Rattle.turn_attrs.specs.Turn.{CHANNEL_NUMBER, LIFETIME, XOR_PEER_ADDRESS, DATA, XOR_RELAYED_ADDRESS, REQUESTED_ADDRESS_FAMILY, EVEN_PORT, REQUESTED_TRANSPORT, DONT_FRAGMENT, RESERVATION_TOKEN}
use Rattle.stun_types.specs.Replies.{unknown_types}

abbrev pub type : ℕ → AttributeType
type n = record { 0 = n }

abbrev pub understood : List AttributeType
understood =
    type MAPPED_ADDRESS ∷ type USERNAME ∷ type MESSAGE_INTEGRITY ∷ type ERROR_CODE
    ∷ type UNKNOWN_ATTRIBUTES ∷ type REALM ∷ type NONCE ∷ type MESSAGE_INTEGRITY_SHA256
    ∷ type PASSWORD_ALGORITHM ∷ type USERHASH ∷ type XOR_MAPPED_ADDRESS ∷ type CHANNEL_NUMBER
    ∷ type LIFETIME ∷ type XOR_PEER_ADDRESS ∷ type DATA ∷ type XOR_RELAYED_ADDRESS
    ∷ type REQUESTED_ADDRESS_FAMILY ∷ type EVEN_PORT ∷ type REQUESTED_TRANSPORT
    ∷ type DONT_FRAGMENT ∷ type RESERVATION_TOKEN ∷ []

-- whether all that d shows is understood
abbrev pub is_understood : List ℕ → Bool
is_understood d = length (unknown_types understood d) == 0
