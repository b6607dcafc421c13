-- A number's bytes, and the zeros that follow it.
use Rattle.std.proofs.Common.{◌≡◌, ℕ, ◌+◌, ◌-◌, ◌≤◌, List, ◌++◌, length, take, drop, replicate, ap, subst, ◌∙◌, arith}
use Rattle.std.proofs.Math.Seq.{take-append-add}
use Rattle.std.proofs.lemmas.List.{drop-replicate, take-replicate}
use Rattle.stun_types_c.specs.declared.call_result.CResult.{CResult}
use Rattle.stun_types_c.specs.Numbers.{AddsPadded}
use Rattle.stun_types_c.specs.Numbers as Numbers
use Rattle.stun_types_c.specs.Writing.{Written, AppendsTo, any_answer}

pub padded : (octets : List ℕ) (zeros room : ℕ) → length octets + zeros ≤ room
    → take (length octets + zeros) (octets ++ drop (length octets) (replicate room 0)) ≡ octets ++ replicate zeros 0
padded octets zeros room fits =
    take-append-add octets (drop (length octets) (replicate room 0)) zeros
    ∙ ap (λ (l : List ℕ). octets ++ take zeros l) (drop-replicate (length octets) room 0)
    ∙ ap (λ (l : List ℕ). octets ++ l) (take-replicate zeros (room - length octets) 0 (omega (arith, fits)))

-- a value that is a number with its zeros is added
pub adds : (type : ℕ) (octets value : List ℕ) (result : CResult) (old new : Written) → value ≡ Numbers.padded type octets
    → AppendsTo (any_answer (length old.slice) type value) type (λ _. value) result old new → AddsPadded type octets result old new
adds type octets value result old new is added =
    subst (λ (v : List ℕ). AppendsTo (any_answer (length old.slice) type v) type (λ _. v) result old new) is added
