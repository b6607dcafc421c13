-- The order in which attributes are shown: ordinary ones, then at most one of each ending type
-- (RFC 8489, sections 14.5, 14.6 and 14.7).
use Rattle.std.specs.Prelude.{◌≡◌, ℕ, Bool, true, false, List, [], ◌∷◌, ◌++◌, ◌==◌, if◌then◌else◌}
use Rattle.std.specs.List.{AllByRecursion}
use Rattle.stun_grammar.specs.AttributeTypes.{MESSAGE_INTEGRITY, MESSAGE_INTEGRITY_SHA256, FINGERPRINT, is_ending}

-- the type or nothing
abbrev pub optional : Bool → ℕ → List ℕ
optional true type = type ∷ []
optional false type = []

-- any number of ordinary types, then optionally MESSAGE-INTEGRITY, then optionally
-- MESSAGE-INTEGRITY-SHA256, then optionally FINGERPRINT
pub record IsInOrder (types : List ℕ) : Type 0 where
  pub ordinary : List ℕ
  pub integrity : Bool
  pub sha256 : Bool
  pub fingerprint : Bool
  pub none_ends : AllByRecursion (λ type. is_ending type ≡ false) ordinary
  pub whole : types ≡ ordinary ++ (optional integrity MESSAGE_INTEGRITY
      ++ (optional sha256 MESSAGE_INTEGRITY_SHA256 ++ optional fingerprint FINGERPRINT))

-- the types from the first ending one on
unfoldable pub endings : List ℕ → List ℕ
endings [] = []
endings (type ∷ types) = if is_ending type then type ∷ types else endings types

-- the types without the first, if that is this type
unfoldable pub without : ℕ → List ℕ → List ℕ
without type [] = []
without type (x ∷ xs) = if x == type then xs else x ∷ xs

abbrev pub is_empty : List ℕ → Bool
is_empty [] = true
is_empty (x ∷ xs) = false

-- the test of IsInOrder
unfoldable pub in_order : List ℕ → Bool
in_order types =
    is_empty (without FINGERPRINT (without MESSAGE_INTEGRITY_SHA256
    (without MESSAGE_INTEGRITY (endings types))))
