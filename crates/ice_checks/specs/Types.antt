-- The types below 0x8000 that an agent understands (RFC 8489, section 18.3; RFC 8445, section 20.1), and those of
-- a message that it doesn't.
use Rattle.std.specs.Prelude.{ℕ, Bool, List, [], ◌∷◌, length, take, ◌==◌}
use Rattle.stun_grammar.specs.declared.attribute_type.AttributeType.{AttributeType}
use Rattle.stun_grammar.specs.AttributeTypes.{MAPPED_ADDRESS, USERNAME, MESSAGE_INTEGRITY, ERROR_CODE, UNKNOWN_ATTRIBUTES, REALM, NONCE, MESSAGE_INTEGRITY_SHA256, PASSWORD_ALGORITHM, USERHASH, XOR_MAPPED_ADDRESS}
use Rattle.stun_types.specs.Replies.{unknown_types}
use Rattle.ice_attrs.specs.Ice.{PRIORITY, USE_CANDIDATE}

abbrev pub type : ℕ → AttributeType
type n = record { 0 = n }

abbrev pub understood : List AttributeType
understood =
    type MAPPED_ADDRESS ∷ type USERNAME ∷ type MESSAGE_INTEGRITY ∷ type ERROR_CODE
    ∷ type UNKNOWN_ATTRIBUTES ∷ type REALM ∷ type NONCE ∷ type MESSAGE_INTEGRITY_SHA256
    ∷ type PASSWORD_ALGORITHM ∷ type USERHASH ∷ type XOR_MAPPED_ADDRESS ∷ type PRIORITY
    ∷ type USE_CANDIDATE ∷ []

abbrev pub is_understood : List ℕ → Bool
is_understood d = length (unknown_types understood d) == 0

-- what a 420 lists: those that d shows, in order and as often as shown, as many as an attribute has room for
-- (RFC 8489, section 14.13), which no datagram of UDP exceeds
abbrev pub listed_types : List ℕ → List AttributeType
listed_types d = take 32767 (unknown_types understood d)
