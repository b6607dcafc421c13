-- The longest prefix of a list that passes a test.
use Rattle.std.specs.Prelude.{◌≡◌, ℕ, zero, suc, ◌≤◌, Bool, List, [], ◌++◌, length, take, IsTrue, if◌then◌else◌}

-- prefix is the longest prefix of xs that passes
pub record IsLongestPrefix {A : Type 0} (passes : List A → Bool) (xs prefix : List A) : Type 0 where
  pub others : List A
  pub whole : xs ≡ prefix ++ others
  pub fits : IsTrue (passes prefix)
  pub longest : (a b : List A) → xs ≡ a ++ b → IsTrue (passes a) → length a ≤ length prefix

-- the longest prefix of xs that passes and has at most as many members as the number says
unfoldable pub longest_within : {A : Type 0} → ℕ → (List A → Bool) → List A → List A
longest_within zero passes xs = []
longest_within (suc most) passes xs =
    if passes (take (suc most) xs) then take (suc most) xs else longest_within most passes xs

-- the one longest prefix, if the empty list passes
unfoldable pub longest_prefix : {A : Type 0} → (List A → Bool) → List A → List A
longest_prefix passes xs = longest_within (length xs) passes xs
