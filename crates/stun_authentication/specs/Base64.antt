-- Bits in base64, six in each character, without padding (RFC 4648, section 4).
use Rattle.std.specs.Prelude.{ℕ, zero, suc, ◌+◌, ◌*◌, ◌/◌, ◌%◌, List, [], ◌∷◌, ◌++◌, codes, fold, slice_index, position, Option, unwrap_or, ◌==◌}

-- the characters, in the order of the six bits that each encodes
abbrev pub base64 : List ℕ
base64 = codes "ABCDEFGHIJKLMNOPQRSTUVWXYZabcdefghijklmnopqrstuvwxyz0123456789+/"

-- the six bits that a character encodes
unfoldable pub six_bits : ℕ → Option ℕ
six_bits character = position (λ known. known == character) base64

-- the last bits of a number, six in each of so many characters; the last six are in the last one
unfoldable pub in_base64 : (characters : ℕ) → (bits : ℕ) → List ℕ
in_base64 zero bits = []
in_base64 (suc characters) bits =
    in_base64 characters (bits / 64) ++ slice_index base64 (bits % 64) ∷ []

-- the number whose bits characters encode, if each is one of base64; of any other one the bits are 0
abbrev pub of_base64 : List ℕ → ℕ
of_base64 = fold (λ bits character. 64 * bits + unwrap_or (six_bits character) 0) 0
