-- Which attributes of a response a client does not understand (RFC 8489, sections 6.3.3 and 6.3.4).
use Rattle.std.specs.Prelude.{ℕ, not, List, ◌∷◌, [], Option, find}
use Rattle.stun_grammar.specs.declared.attribute_type.AttributeType.{AttributeType}
use Rattle.stun_grammar.specs.AttributeTypes.{MAPPED_ADDRESS, USERNAME, MESSAGE_INTEGRITY, ERROR_CODE, UNKNOWN_ATTRIBUTES, REALM, NONCE, MESSAGE_INTEGRITY_SHA256, PASSWORD_ALGORITHM, USERHASH, XOR_MAPPED_ADDRESS}
use Rattle.stun_grammar.specs.ScannedOrder.{has}
use Rattle.stun_types.specs.Replies.{unknown_types}

-- the types that must be understood, and that RFC 8489 defines: every client understands them
-- (section 18.3)
abbrev pub own_types : List ℕ
own_types =
    MAPPED_ADDRESS ∷ USERNAME ∷ MESSAGE_INTEGRITY ∷ ERROR_CODE ∷ UNKNOWN_ATTRIBUTES ∷ REALM ∷ NONCE
    ∷ MESSAGE_INTEGRITY_SHA256 ∷ PASSWORD_ALGORITHM ∷ USERHASH ∷ XOR_MAPPED_ADDRESS ∷ []

-- the first type that d shows and that must be understood, and isn't: the client understands these
-- types besides its own
abbrev pub first_unknown : List AttributeType → List ℕ → Option AttributeType
first_unknown understood d =
    find (λ type. not (has type.0 own_types)) (unknown_types understood d)
