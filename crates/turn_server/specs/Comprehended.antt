-- The types that this server comprehends, of those below 0x8000 (RFC 8489, section 14): those of RFC
-- 8489 and RFC 8656, DONT-FRAGMENT only if it sets the DF bit (RFC 8656, sections 7.2 and 11.2). Of these a
-- message may show some that mean nothing in it, as a Binding request those of credentials: they are ignored
-- (RFC 8489, section 6.3).
use Rattle.std.specs.Prelude.{ℕ, Bool, List, [], ◌∷◌, length, ◌==◌, if◌then◌else◌}
use Rattle.stun_grammar.specs.declared.attribute_type.AttributeType.{AttributeType}
use Rattle.stun_grammar.specs.AttributeTypes.{MAPPED_ADDRESS, USERNAME, MESSAGE_INTEGRITY, ERROR_CODE, UNKNOWN_ATTRIBUTES, REALM, NONCE, MESSAGE_INTEGRITY_SHA256, PASSWORD_ALGORITHM, USERHASH, XOR_MAPPED_ADDRESS}
use Rattle.turn_attrs.specs.Turn.{CHANNEL_NUMBER, LIFETIME, XOR_PEER_ADDRESS, DATA, XOR_RELAYED_ADDRESS, REQUESTED_ADDRESS_FAMILY, EVEN_PORT, REQUESTED_TRANSPORT, DONT_FRAGMENT, RESERVATION_TOKEN}
use Rattle.stun_types.specs.Replies.{unknown_types}

abbrev pub type : ℕ → AttributeType
type n = record { 0 = n }

-- by every server
abbrev pub always_comprehended : List AttributeType
always_comprehended =
    type MAPPED_ADDRESS ∷ type USERNAME ∷ type MESSAGE_INTEGRITY ∷ type ERROR_CODE
    ∷ type UNKNOWN_ATTRIBUTES ∷ type REALM ∷ type NONCE ∷ type MESSAGE_INTEGRITY_SHA256 ∷ type PASSWORD_ALGORITHM
    ∷ type USERHASH ∷ type XOR_MAPPED_ADDRESS ∷ type CHANNEL_NUMBER ∷ type LIFETIME
    ∷ type XOR_PEER_ADDRESS ∷ type DATA ∷ type XOR_RELAYED_ADDRESS
    ∷ type REQUESTED_ADDRESS_FAMILY ∷ type EVEN_PORT ∷ type REQUESTED_TRANSPORT
    ∷ type RESERVATION_TOKEN ∷ []

-- by one that sets the DF bit of datagrams to peers, or by one that doesn't
abbrev pub comprehended : (sets_df : Bool) → List AttributeType
comprehended sets_df =
    if sets_df then type DONT_FRAGMENT ∷ always_comprehended else always_comprehended

-- whether all that d shows is comprehended
abbrev pub is_comprehended : (sets_df : Bool) → List ℕ → Bool
is_comprehended sets_df d = length (unknown_types (comprehended sets_df) d) == 0
