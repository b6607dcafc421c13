-- One message in two places.
use Rattle.std.proofs.Common.{◌≡◌, ℕ, List, ◌++◌, length, drop, sym, ap, ◌∙◌}

-- a slice holds a message that other bytes are, and what it held after it
pub both : (slice items bytes full rest before old : List ℕ) (n : ℕ) → slice ≡ full ++ rest → items ≡ bytes → bytes ≡ full → rest ≡ drop (length full) before → before ≡ old → n ≡ length full → slice ≡ items ++ drop n old
both slice items bytes full rest before old n slice_is items_are same rest_is before_is n_is =
    slice_is ∙ ap (λ (b : List ℕ). b ++ rest) (sym (items_are ∙ same)) ∙ ap (λ (b : List ℕ). items ++ b) (rest_is ∙ ap (λ (k : ℕ). drop k before) (sym n_is) ∙ ap (drop n) before_is)
