-- Nonce cookies.
use Rattle.std.proofs.Common.{◌≡◌, ℕ, Bool, true, false, List, ◌++◌, length, Some, refl, arith}
use Rattle.std.specs.Prelude.{codes}
use Rattle.std.proofs.lemmas.Bool.{le-leb}
use Rattle.stun_authentication.specs.Base64.{six_bits}
use Rattle.stun_authentication.specs.Cookies.{security_features, four_characters}

-- a cookie has its two bits
pub read_bits : (algorithms anonymity : Bool) (more : List ℕ) → security_features (codes "obMatJos2" ++ (four_characters algorithms anonymity ++ more)) ≡ Some (record { password_algorithms = algorithms; username_anonymity = anonymity })
unfolding security_features six_bits
read_bits false false more = rw (le-leb 13 (length (codes "obMatJos2AAAA" ++ more)) (omega arith)) refl
read_bits true false more = rw (le-leb 13 (length (codes "obMatJos2gAAA" ++ more)) (omega arith)) refl
read_bits false true more = rw (le-leb 13 (length (codes "obMatJos2QAAA" ++ more)) (omega arith)) refl
read_bits true true more = rw (le-leb 13 (length (codes "obMatJos2wAAA" ++ more)) (omega arith)) refl
