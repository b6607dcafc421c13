use Rattle.std.proofs.Common.{◌≡◌, ℕ, ◌*◌, ◌/◌, ◌&&◌, List, take, drop, length, nat_eq, sym, ap, ◌∙◌}
use Rattle.std.specs.Cmp.Lexicographic.{pointwise, bytes_decides}
use Rattle.std.proofs.lemmas.Bool.Decides.{Decides-and, Decides-like, same_from_decides}
use Rattle.std.proofs.lemmas.List.{take-append-drop}
use Rattle.stun_attributes.proofs.CompareLemmas.{no_difference}
use Rattle.stun_attributes.proofs.integrity.compare.differences.Goals as goal

-- two lists are compared in two parts
in_two_parts : (n : ℕ) (xs ys : List ℕ) → (pointwise nat_eq (take n xs) (take n ys) && pointwise nat_eq (drop n xs) (drop n ys)) ≡ pointwise nat_eq xs ys
in_two_parts n xs ys =
    let first = pointwise nat_eq (take n xs) (take n ys) in
    let second = pointwise nat_eq (drop n xs) (drop n ys) in
    same_from_decides (first && second) (pointwise nat_eq xs ys)
    (Decides-like {P = (take n xs ≡ take n ys) × (drop n xs ≡ drop n ys)} {Q = xs ≡ ys} (first && second)
    (λ both. sym (take-append-drop n xs) ∙ rw (both.0, both.1) (take-append-drop n ys))
    (λ same. (ap (take n) same, ap (drop n) same))
    (Decides-and first second (bytes_decides (take n xs) (take n ys)) (bytes_decides (drop n xs) (drop n ys))))
    (bytes_decides xs ys)

pub returns : goal.returns
returns c = no_difference c.word_differences.result c.from-behind.result
    ∙ rw (c.from-behind.ensures, c.word_differences.ensures, c.byte_differences.ensures, c.split_at.ensures.front, c.split_at-2.ensures.front, c.split_at.ensures.back, c.split_at-2.ensures.back)
    (in_two_parts (4 * (length c.args.left.now / 4)) c.args.left.now c.args.right.now)
