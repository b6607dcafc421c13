-- The encoding of a message, and the messages that may be written (RFC 8489, sections 5 and 14).
use Rattle.std.specs.Prelude.{◌≡◌, ℕ, ◌+◌, ◌^◌, ◌<◌, ◌≤◌, true, List, ◌++◌, length, None}
use Rattle.std.specs.List.{AllByRecursion}
use Rattle.stun_grammar.specs.Numbers.{be16, be32, be96}
use Rattle.stun_grammar.specs.Headers.{magic_cookie}
use Rattle.stun_grammar.specs.Attributes.{Attribute, IsAttribute, encodings, types}
use Rattle.stun_grammar.specs.Chains.{placed}
use Rattle.stun_grammar.specs.ShownOrder.{in_order}
use Rattle.stun_grammar.specs.Fingerprints.{first_fingerprint_fault}

-- type, length of the attributes, magic cookie, transaction ID, and the attributes
unfoldable pub message_encoding : ℕ → ℕ → List Attribute → List ℕ
message_encoding type id attributes =
    be16 type ++ (be16 (length (encodings attributes)) ++ (be32 magic_cookie
    ++ (be96 id ++ encodings attributes)))

-- the greatest length of a message: a header, and as many bytes as its length field can state
abbrev pub greatest_length : ℕ
greatest_length = 20 + 65535

-- a message that may be written: its fields fit, its attributes are in the order that is shown, and
-- a FINGERPRINT among them matches
pub record IsWritable (type id : ℕ) (attributes : List Attribute) : Type 0 where
  pub type_fits : type < 2 ^ 14
  pub id_fits : id < 2 ^ 96
  pub each : AllByRecursion IsAttribute attributes
  pub length_fits : length (message_encoding type id attributes) ≤ greatest_length
  pub ordered : in_order (types attributes) ≡ true
  pub fingerprint :
      first_fingerprint_fault (message_encoding type id attributes) (placed 20 attributes) ≡ None
