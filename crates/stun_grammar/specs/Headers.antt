-- The header of a message: twenty bytes (RFC 8489, sections 5 and 6.3).
use Rattle.std.specs.Prelude.{ℕ, Bool, ◌&&◌, List, ◌++◌, length, take, drop, slice_index, slice_range, IsTrue, Option, Some, None, nat_lt, nat_le, nat_eq, ◌==◌, if◌then◌else◌}
use Rattle.std.specs.Cmp.Lexicographic.{pointwise}
use Rattle.std.specs.List.{list_all, zip}
use Rattle.stun_grammar.specs.declared.error.StunParseError.{StunParseError}
use Rattle.stun_grammar.specs.declared.error.StunParseError.TheVariants.{NotStun, Truncated}
use Rattle.stun_grammar.specs.Numbers.{be32, number}

-- the magic cookie, which sets STUN apart from other protocols
abbrev pub magic_cookie : ℕ
magic_cookie = 0x2112A442

-- d has twenty bytes or more, the two highest bits of the first are zero, and the cookie is at
-- offset 4
unfoldable pub is_header : List ℕ → Bool
is_header d =
    nat_le 20 (length d) && (nat_lt (slice_index d 0) 64
    && pointwise nat_eq (slice_range d 4 8) (be32 magic_cookie))

-- b is the beginning of a header: some bytes that follow make it one
abbrev pub Begins : List ℕ → Type 0
Begins b = (more : List ℕ) × IsTrue (is_header (b ++ more))

-- the test of Begins: the first byte, and the bytes of the cookie, as far as b has them
unfoldable pub begins : List ℕ → Bool
begins b =
    list_all (λ first. nat_lt first 64) (take 1 b)
    && list_all (λ pair. pair.0 == pair.1) (zip (drop 4 b) (be32 magic_cookie))

-- why d does not begin with a header: it can't, whatever follows, or bytes are missing
unfoldable pub header_fault : List ℕ → Option StunParseError
header_fault d =
    if nat_lt (length d) 20
    then (if begins d then Some (Truncated 20 (length d)) else Some NotStun)
    else (if is_header d then None else Some NotStun)

-- the message type: the first two bytes (RFC 8489, section 5)
abbrev pub type_field : List ℕ → ℕ
type_field d = number (slice_range d 0 2)

-- the message length: how many bytes follow the header
abbrev pub length_field : List ℕ → ℕ
length_field d = number (slice_range d 2 4)

-- the transaction ID: the last twelve bytes of the header
abbrev pub id_field : List ℕ → ℕ
id_field d = number (slice_range d 8 20)
