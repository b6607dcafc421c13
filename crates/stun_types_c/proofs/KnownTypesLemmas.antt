-- The types of RFC 8489 are laid over C's numbers, one after the other.
use Rattle.std.proofs.Common.{◌≡◌, ℕ, ◌+◌, ◌<◌, List, length, get_or, take, set, sym, ap, ◌∙◌, arith}
use Rattle.std.proofs.lemmas.List.{length-take-le, take_more}
use Rattle.stun_text.specs.Slices.{laid_over}
use Rattle.stun_types_c.proofs.TypeListsLemmas.{laid_more}

pub known_more : (all types start : List ℕ) (i : ℕ) → i < length all → types ≡ laid_over (take i all) start → set types i (get_or all i 0) ≡ laid_over (take (i + 1) all) start
known_more all types start i here so_far =
    let found = take i all in
    let long : length found ≡ i = length-take-le i all (omega (arith, here)) in
    (λ j. set (so_far j) (sym long j) (get_or all i 0)) ∙ laid_more found start (get_or all i 0) ∙ ap (λ (l : List ℕ). laid_over l start) (sym (take_more all i 0 here))
