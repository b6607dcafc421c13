-- Values by number.
use Rattle.std.specs.Prelude.{◌≡◌, ℕ, List, Option, Some, find, ◌==◌, if◌then◌else◌}
use Rattle.std.specs.Option.{option_map}

-- what is stored under a number: the value of its first entry
abbrev pub value_of : {V : Type 0} → List (ℕ × V) → ℕ → Option V
value_of entries number = option_map (λ entry. entry.1) (find (λ entry. entry.0 == number) entries)

-- a number now has this value, and every other number what it had
abbrev pub Sets : {V : Type 0} → ℕ → V → (ℕ → Option V) → (ℕ → Option V) → Type 0
Sets number value before after =
    (asked : ℕ) → after asked ≡ (if asked == number then Some value else before asked)
