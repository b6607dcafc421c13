-- The entries of a list of algorithms.
use Rattle.std.proofs.Common.{◌≡◌, ℕ, zero, suc, ◌+◌, ◌*◌, ◌<◌, List, [], ◌∷◌, length, get_or, take, drop, sym, ap, ◌∙◌, arith}
use Rattle.std.proofs.lemmas.List.{drop-drop}
use Rattle.stun_values.specs.declared.algorithm.PasswordAlgorithmValue.{PasswordAlgorithmValue}
use Rattle.stun_values.specs.declared.algorithm.PasswordAlgorithmValue.TheVariants.{MD5, SHA256}
use Rattle.stun_values.specs.Algorithms.{algorithm_encoding, algorithms_encoding}
use Rattle.stun_values.proofs.AlgorithmsLemmas.{algorithm_one}

-- the bytes of one entry, after those of the entries before it
behind : (i : ℕ) (value : List ℕ) → take 4 (drop (4 * suc i) value) ≡ take 4 (drop (4 * i) (drop 4 value))
behind i value =
    let place : 4 * suc i ≡ 4 + 4 * i = omega arith in
    ap (λ (k : ℕ). take 4 (drop k value)) place ∙ ap (take 4) (sym (drop-drop (4 * i) 4 value))

-- they spell the algorithm at its index
pub entry_is : (xs : List PasswordAlgorithmValue) (i : ℕ) (x : PasswordAlgorithmValue) → i < length xs → algorithm_encoding x ≡ take 4 (drop (4 * i) (algorithms_encoding xs)) → get_or xs i MD5 ≡ x
entry_is [] i x within spelled = absurd (omega arith)
entry_is (MD5 ∷ xs) zero x within spelled = sym (algorithm_one x MD5 spelled)
entry_is (SHA256 ∷ xs) zero x within spelled = sym (algorithm_one x SHA256 spelled)
entry_is (MD5 ∷ xs) (suc i) x within spelled = entry_is xs i x (omega arith) (spelled ∙ behind i (algorithms_encoding (MD5 ∷ xs)))
entry_is (SHA256 ∷ xs) (suc i) x within spelled = entry_is xs i x (omega arith) (spelled ∙ behind i (algorithms_encoding (SHA256 ∷ xs)))
