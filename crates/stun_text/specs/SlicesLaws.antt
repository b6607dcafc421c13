-- Pieces that are laid into a slice one after the other are there as one.
use Rattle.std.proofs.Common.{◌≡◌, ℕ, zero, suc, ◌+◌, ◌^◌, ◌<◌, ◌≤◌, List, [], ◌∷◌, ◌++◌, length, take, drop, refl, ap, arith, length-append, ⊎_elim, ◌∙◌, sym}
use Rattle.std.proofs.lemmas.Bool.{cases_lt}
use Rattle.std.proofs.lemmas.Grind.{common_steps}
use Rattle.stun_text.specs.declared.slice.TextSlice.{TextSlice}
use Rattle.stun_text.specs.Slices.{laid_over, counted, SliceWrote}

-- a text after n bytes
abbrev laid_at : ℕ → List ℕ → List ℕ → List ℕ
laid_at n text bytes = take n bytes ++ laid_over text (drop n bytes)

laid_nothing : (n : ℕ) (bytes : List ℕ) → laid_at n [] bytes ≡ bytes
laid_nothing n bytes = grind (arith, common_steps)

-- after the end nothing is laid
laid_past : (n : ℕ) (text bytes : List ℕ) → length bytes ≤ n → laid_at n text bytes ≡ bytes
laid_past n text bytes past = grind (arith, common_steps)

-- the first piece at the start, and the second one after it
laid_start : (a b bytes : List ℕ) → laid_at (length a) b (laid_over a bytes) ≡ laid_over (a ++ b) bytes
laid_start [] b bytes = ap (laid_over b) (laid_nothing 0 bytes)
laid_start (x ∷ a) b [] = grind (arith, common_steps)
laid_start (x ∷ a) b (y ∷ bytes) = ap (λ (l : List ℕ). x ∷ l) (laid_start a b bytes)

-- the slice keeps its length
length_laid : (n : ℕ) (text bytes : List ℕ) → length (laid_at n text bytes) ≡ length bytes
length_laid n text bytes = grind (arith, common_steps)

laid_twice : (n : ℕ) (a b bytes : List ℕ) → laid_at (n + length a) b (laid_at n a bytes) ≡ laid_at n (a ++ b) bytes
laid_twice zero a b bytes =
    let same : 0 + length a ≡ length a = omega arith in
    rw same (laid_start a b bytes)
laid_twice (suc n) a b [] =
    ap (laid_at (suc n + length a) b) (laid_past (suc n) a [] (omega arith)) ∙ laid_past (suc n + length a) b [] (omega arith)
    ∙ sym (laid_past (suc n) (a ++ b) [] (omega arith))
laid_twice (suc n) a b (y ∷ bytes) =
    let same : suc n + length a ≡ suc (n + length a) = omega arith in
    rw same (ap (λ (l : List ℕ). y ∷ l) (laid_twice n a b bytes))

-- also if the count no longer says how many bytes were written
laid_counted : (n k : ℕ) (a b bytes : List ℕ) → k ≡ counted (n + length a) → length bytes < 2 ^ 64 → laid_at k b (laid_at n a bytes) ≡ laid_at n (a ++ b) bytes
laid_counted n k a b bytes is room = ⊎_elim
    (λ within.
    let same : k ≡ n + length a = omega arith in
    rw same (laid_twice n a b bytes))
    (λ past.
    let long = length_laid n a bytes in
    laid_past k b (laid_at n a bytes) (omega arith)
    ∙ sym (laid_past (n + length a) b (laid_at n a bytes) (omega arith))
    ∙ laid_twice n a b bytes)
    (cases_lt (n + length a) (2 ^ 64))

pub slice_nothing : (s : TextSlice) → SliceWrote s [] s
slice_nothing s is = record {
  count = omega (arith, is.count);
  bytes = sym (laid_nothing s.length s.to.now);
  same = refl;
}

pub slice_joins : (s m t : TextSlice) (a b : List ℕ) → SliceWrote s a m → SliceWrote m b t → SliceWrote s (a ++ b) t
slice_joins s m t a b first second is =
    let one = first is in
    let room : length m.to.now < 2 ^ 64 = rw one.bytes (omega (arith, length_laid s.length a s.to.now, is.room)) in
    let two = second (record { count = omega (arith, one.count); room = room }) in
    record {
      count = omega (arith, one.count, two.count, length-append a b);
      bytes = two.bytes ∙ ap (laid_at m.length b) one.bytes ∙ laid_counted s.length m.length a b s.to.now one.count is.room;
      same = two.same ∙ one.same;
    }
