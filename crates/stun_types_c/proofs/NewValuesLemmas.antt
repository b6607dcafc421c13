-- Values that C adds: lists of numbers of two bytes.
use Rattle.std.proofs.Common.{◌≡◌, ℕ, ◌*◌, List, [], ◌∷◌, length, refl, arith}
use Rattle.std.specs.List.{flat_map}
use Rattle.stun_grammar.specs.Numbers.{be16}

pub length_of_twos : (xs : List ℕ) → length (flat_map be16 xs) ≡ 2 * length xs
length_of_twos [] = refl
length_of_twos (x ∷ xs) = omega (arith, length_of_twos xs)
