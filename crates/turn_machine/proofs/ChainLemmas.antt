-- Rows in order: a code is answered if its row applies and none before it. Each lemma is over plain tests.
use Rattle.std.proofs.Common.{◌≡◌, ℕ, inl, inr, ◌⊎◌, Bool, true, false, List, [], ◌∷◌, None, Some, refl, sym, ◌∙◌, ap}
use Rattle.std.specs.List.{list_any}
use Rattle.std.specs.Prelude.{◌==◌}
use Rattle.std.proofs.lemmas.Bool.{false≢true}
use Rattle.turn_machine.specs.Rows.{row}
use Rattle.turn_machine.proofs.RowsLemmas.{unlike}

known : (codes : List ℕ) (here code : ℕ) → Some here ≡ Some code → list_any (λ c. c == here) codes ≡ true → list_any (λ c. c == code) codes ≡ true
known codes here code e is = let same : here ≡ code = cc in ap (λ (n : ℕ). list_any (λ c. c == n) codes) (sym same) ∙ is

-- ---- allocate
pub allocate_437_is : (first second third fourth fifth : Bool) → row first 437 (row second 440 (row third 486 (row fourth 508 (row fifth 508 None)))) ≡ Some 437 → (first ≡ true)
allocate_437_is true second third fourth fifth e = refl
allocate_437_is false true third fourth fifth e = absurd (unlike 440 437 refl e)
allocate_437_is false false true fourth fifth e = absurd (unlike 486 437 refl e)
allocate_437_is false false false true fifth e = absurd (unlike 508 437 refl e)
allocate_437_is false false false false true e = absurd (unlike 508 437 refl e)
allocate_437_is false false false false false e = absurd cc

pub allocate_437_if : (first second third fourth fifth : Bool) → first ≡ true → row first 437 (row second 440 (row third 486 (row fourth 508 (row fifth 508 None)))) ≡ Some 437
allocate_437_if true second third fourth fifth h = refl
allocate_437_if false second third fourth fifth h = absurd (false≢true h)

pub allocate_440_is : (first second third fourth fifth : Bool) → row first 437 (row second 440 (row third 486 (row fourth 508 (row fifth 508 None)))) ≡ Some 440 → (first ≡ false) × (second ≡ true)
allocate_440_is true second third fourth fifth e = absurd (unlike 437 440 refl e)
allocate_440_is false true third fourth fifth e = (refl, refl)
allocate_440_is false false true fourth fifth e = absurd (unlike 486 440 refl e)
allocate_440_is false false false true fifth e = absurd (unlike 508 440 refl e)
allocate_440_is false false false false true e = absurd (unlike 508 440 refl e)
allocate_440_is false false false false false e = absurd cc

pub allocate_440_if : (first second third fourth fifth : Bool) → first ≡ false → second ≡ true → row first 437 (row second 440 (row third 486 (row fourth 508 (row fifth 508 None)))) ≡ Some 440
allocate_440_if false true third fourth fifth not_first h = refl
allocate_440_if true second third fourth fifth not_first h = absurd (false≢true (sym not_first))
allocate_440_if first false third fourth fifth not_first h = absurd (false≢true h)

pub allocate_486_is : (first second third fourth fifth : Bool) → row first 437 (row second 440 (row third 486 (row fourth 508 (row fifth 508 None)))) ≡ Some 486 → (first ≡ false) × (second ≡ false) × (third ≡ true)
allocate_486_is true second third fourth fifth e = absurd (unlike 437 486 refl e)
allocate_486_is false true third fourth fifth e = absurd (unlike 440 486 refl e)
allocate_486_is false false true fourth fifth e = (refl, refl, refl)
allocate_486_is false false false true fifth e = absurd (unlike 508 486 refl e)
allocate_486_is false false false false true e = absurd (unlike 508 486 refl e)
allocate_486_is false false false false false e = absurd cc

pub allocate_486_if : (first second third fourth fifth : Bool) → first ≡ false → second ≡ false → third ≡ true → row first 437 (row second 440 (row third 486 (row fourth 508 (row fifth 508 None)))) ≡ Some 486
allocate_486_if false false true fourth fifth not_first not_second h = refl
allocate_486_if true second third fourth fifth not_first not_second h = absurd (false≢true (sym not_first))
allocate_486_if first true third fourth fifth not_first not_second h = absurd (false≢true (sym not_second))
allocate_486_if first second false fourth fifth not_first not_second h = absurd (false≢true h)

pub allocate_508_is : (first second third fourth fifth : Bool) → row first 437 (row second 440 (row third 486 (row fourth 508 (row fifth 508 None)))) ≡ Some 508 → (first ≡ false) × (second ≡ false) × (third ≡ false) × ((fourth ≡ true) ⊎ (fifth ≡ true))
allocate_508_is true second third fourth fifth e = absurd (unlike 437 508 refl e)
allocate_508_is false true third fourth fifth e = absurd (unlike 440 508 refl e)
allocate_508_is false false true fourth fifth e = absurd (unlike 486 508 refl e)
allocate_508_is false false false true fifth e = (refl, refl, refl, inl refl)
allocate_508_is false false false false true e = (refl, refl, refl, inr refl)
allocate_508_is false false false false false e = absurd cc

pub allocate_508_if : (first second third fourth fifth : Bool) → first ≡ false → second ≡ false → third ≡ false → ((fourth ≡ true) ⊎ (fifth ≡ true)) → row first 437 (row second 440 (row third 486 (row fourth 508 (row fifth 508 None)))) ≡ Some 508
allocate_508_if false false false true fifth not_first not_second not_third h = refl
allocate_508_if false false false false true not_first not_second not_third h = refl
allocate_508_if true second third fourth fifth not_first not_second not_third h = absurd (false≢true (sym not_first))
allocate_508_if first true third fourth fifth not_first not_second not_third h = absurd (false≢true (sym not_second))
allocate_508_if first second true fourth fifth not_first not_second not_third h = absurd (false≢true (sym not_third))
allocate_508_if first second third false false not_first not_second not_third (inl h) = absurd (false≢true h)
allocate_508_if first second third false false not_first not_second not_third (inr h) = absurd (false≢true h)

pub allocate_codes : (first second third fourth fifth : Bool) (code : ℕ) → row first 437 (row second 440 (row third 486 (row fourth 508 (row fifth 508 None)))) ≡ Some code → list_any (λ c. c == code) (437 ∷ 440 ∷ 486 ∷ 508 ∷ []) ≡ true
allocate_codes true second third fourth fifth code e = known (437 ∷ 440 ∷ 486 ∷ 508 ∷ []) 437 code e refl
allocate_codes false true third fourth fifth code e = known (437 ∷ 440 ∷ 486 ∷ 508 ∷ []) 440 code e refl
allocate_codes false false true fourth fifth code e = known (437 ∷ 440 ∷ 486 ∷ 508 ∷ []) 486 code e refl
allocate_codes false false false true fifth code e = known (437 ∷ 440 ∷ 486 ∷ 508 ∷ []) 508 code e refl
allocate_codes false false false false true code e = known (437 ∷ 440 ∷ 486 ∷ 508 ∷ []) 508 code e refl
allocate_codes false false false false false code e = absurd cc

-- ---- refresh
pub refresh_437_is : (first second third : Bool) → row first 437 (row second 441 (row third 443 None)) ≡ Some 437 → (first ≡ true)
refresh_437_is true second third e = refl
refresh_437_is false true third e = absurd (unlike 441 437 refl e)
refresh_437_is false false true e = absurd (unlike 443 437 refl e)
refresh_437_is false false false e = absurd cc

pub refresh_437_if : (first second third : Bool) → first ≡ true → row first 437 (row second 441 (row third 443 None)) ≡ Some 437
refresh_437_if true second third h = refl
refresh_437_if false second third h = absurd (false≢true h)

pub refresh_441_is : (first second third : Bool) → row first 437 (row second 441 (row third 443 None)) ≡ Some 441 → (first ≡ false) × (second ≡ true)
refresh_441_is true second third e = absurd (unlike 437 441 refl e)
refresh_441_is false true third e = (refl, refl)
refresh_441_is false false true e = absurd (unlike 443 441 refl e)
refresh_441_is false false false e = absurd cc

pub refresh_441_if : (first second third : Bool) → first ≡ false → second ≡ true → row first 437 (row second 441 (row third 443 None)) ≡ Some 441
refresh_441_if false true third not_first h = refl
refresh_441_if true second third not_first h = absurd (false≢true (sym not_first))
refresh_441_if first false third not_first h = absurd (false≢true h)

pub refresh_443_is : (first second third : Bool) → row first 437 (row second 441 (row third 443 None)) ≡ Some 443 → (first ≡ false) × (second ≡ false) × (third ≡ true)
refresh_443_is true second third e = absurd (unlike 437 443 refl e)
refresh_443_is false true third e = absurd (unlike 441 443 refl e)
refresh_443_is false false true e = (refl, refl, refl)
refresh_443_is false false false e = absurd cc

pub refresh_443_if : (first second third : Bool) → first ≡ false → second ≡ false → third ≡ true → row first 437 (row second 441 (row third 443 None)) ≡ Some 443
refresh_443_if false false true not_first not_second h = refl
refresh_443_if true second third not_first not_second h = absurd (false≢true (sym not_first))
refresh_443_if first true third not_first not_second h = absurd (false≢true (sym not_second))
refresh_443_if first second false not_first not_second h = absurd (false≢true h)

pub refresh_codes : (first second third : Bool) (code : ℕ) → row first 437 (row second 441 (row third 443 None)) ≡ Some code → list_any (λ c. c == code) (437 ∷ 441 ∷ 443 ∷ []) ≡ true
refresh_codes true second third code e = known (437 ∷ 441 ∷ 443 ∷ []) 437 code e refl
refresh_codes false true third code e = known (437 ∷ 441 ∷ 443 ∷ []) 441 code e refl
refresh_codes false false true code e = known (437 ∷ 441 ∷ 443 ∷ []) 443 code e refl
refresh_codes false false false code e = absurd cc

-- ---- permit
pub permit_437_is : (first second third fourth fifth : Bool) → row first 437 (row second 441 (row third 443 (row fourth 403 (row fifth 508 None)))) ≡ Some 437 → (first ≡ true)
permit_437_is true second third fourth fifth e = refl
permit_437_is false true third fourth fifth e = absurd (unlike 441 437 refl e)
permit_437_is false false true fourth fifth e = absurd (unlike 443 437 refl e)
permit_437_is false false false true fifth e = absurd (unlike 403 437 refl e)
permit_437_is false false false false true e = absurd (unlike 508 437 refl e)
permit_437_is false false false false false e = absurd cc

pub permit_437_if : (first second third fourth fifth : Bool) → first ≡ true → row first 437 (row second 441 (row third 443 (row fourth 403 (row fifth 508 None)))) ≡ Some 437
permit_437_if true second third fourth fifth h = refl
permit_437_if false second third fourth fifth h = absurd (false≢true h)

pub permit_441_is : (first second third fourth fifth : Bool) → row first 437 (row second 441 (row third 443 (row fourth 403 (row fifth 508 None)))) ≡ Some 441 → (first ≡ false) × (second ≡ true)
permit_441_is true second third fourth fifth e = absurd (unlike 437 441 refl e)
permit_441_is false true third fourth fifth e = (refl, refl)
permit_441_is false false true fourth fifth e = absurd (unlike 443 441 refl e)
permit_441_is false false false true fifth e = absurd (unlike 403 441 refl e)
permit_441_is false false false false true e = absurd (unlike 508 441 refl e)
permit_441_is false false false false false e = absurd cc

pub permit_441_if : (first second third fourth fifth : Bool) → first ≡ false → second ≡ true → row first 437 (row second 441 (row third 443 (row fourth 403 (row fifth 508 None)))) ≡ Some 441
permit_441_if false true third fourth fifth not_first h = refl
permit_441_if true second third fourth fifth not_first h = absurd (false≢true (sym not_first))
permit_441_if first false third fourth fifth not_first h = absurd (false≢true h)

pub permit_443_is : (first second third fourth fifth : Bool) → row first 437 (row second 441 (row third 443 (row fourth 403 (row fifth 508 None)))) ≡ Some 443 → (first ≡ false) × (second ≡ false) × (third ≡ true)
permit_443_is true second third fourth fifth e = absurd (unlike 437 443 refl e)
permit_443_is false true third fourth fifth e = absurd (unlike 441 443 refl e)
permit_443_is false false true fourth fifth e = (refl, refl, refl)
permit_443_is false false false true fifth e = absurd (unlike 403 443 refl e)
permit_443_is false false false false true e = absurd (unlike 508 443 refl e)
permit_443_is false false false false false e = absurd cc

pub permit_443_if : (first second third fourth fifth : Bool) → first ≡ false → second ≡ false → third ≡ true → row first 437 (row second 441 (row third 443 (row fourth 403 (row fifth 508 None)))) ≡ Some 443
permit_443_if false false true fourth fifth not_first not_second h = refl
permit_443_if true second third fourth fifth not_first not_second h = absurd (false≢true (sym not_first))
permit_443_if first true third fourth fifth not_first not_second h = absurd (false≢true (sym not_second))
permit_443_if first second false fourth fifth not_first not_second h = absurd (false≢true h)

pub permit_403_is : (first second third fourth fifth : Bool) → row first 437 (row second 441 (row third 443 (row fourth 403 (row fifth 508 None)))) ≡ Some 403 → (first ≡ false) × (second ≡ false) × (third ≡ false) × (fourth ≡ true)
permit_403_is true second third fourth fifth e = absurd (unlike 437 403 refl e)
permit_403_is false true third fourth fifth e = absurd (unlike 441 403 refl e)
permit_403_is false false true fourth fifth e = absurd (unlike 443 403 refl e)
permit_403_is false false false true fifth e = (refl, refl, refl, refl)
permit_403_is false false false false true e = absurd (unlike 508 403 refl e)
permit_403_is false false false false false e = absurd cc

pub permit_403_if : (first second third fourth fifth : Bool) → first ≡ false → second ≡ false → third ≡ false → fourth ≡ true → row first 437 (row second 441 (row third 443 (row fourth 403 (row fifth 508 None)))) ≡ Some 403
permit_403_if false false false true fifth not_first not_second not_third h = refl
permit_403_if true second third fourth fifth not_first not_second not_third h = absurd (false≢true (sym not_first))
permit_403_if first true third fourth fifth not_first not_second not_third h = absurd (false≢true (sym not_second))
permit_403_if first second true fourth fifth not_first not_second not_third h = absurd (false≢true (sym not_third))
permit_403_if first second third false fifth not_first not_second not_third h = absurd (false≢true h)

pub permit_508_is : (first second third fourth fifth : Bool) → row first 437 (row second 441 (row third 443 (row fourth 403 (row fifth 508 None)))) ≡ Some 508 → (first ≡ false) × (second ≡ false) × (third ≡ false) × (fourth ≡ false) × (fifth ≡ true)
permit_508_is true second third fourth fifth e = absurd (unlike 437 508 refl e)
permit_508_is false true third fourth fifth e = absurd (unlike 441 508 refl e)
permit_508_is false false true fourth fifth e = absurd (unlike 443 508 refl e)
permit_508_is false false false true fifth e = absurd (unlike 403 508 refl e)
permit_508_is false false false false true e = (refl, refl, refl, refl, refl)
permit_508_is false false false false false e = absurd cc

pub permit_508_if : (first second third fourth fifth : Bool) → first ≡ false → second ≡ false → third ≡ false → fourth ≡ false → fifth ≡ true → row first 437 (row second 441 (row third 443 (row fourth 403 (row fifth 508 None)))) ≡ Some 508
permit_508_if false false false false true not_first not_second not_third not_fourth h = refl
permit_508_if true second third fourth fifth not_first not_second not_third not_fourth h = absurd (false≢true (sym not_first))
permit_508_if first true third fourth fifth not_first not_second not_third not_fourth h = absurd (false≢true (sym not_second))
permit_508_if first second true fourth fifth not_first not_second not_third not_fourth h = absurd (false≢true (sym not_third))
permit_508_if first second third true fifth not_first not_second not_third not_fourth h = absurd (false≢true (sym not_fourth))
permit_508_if first second third fourth false not_first not_second not_third not_fourth h = absurd (false≢true h)

pub permit_codes : (first second third fourth fifth : Bool) (code : ℕ) → row first 437 (row second 441 (row third 443 (row fourth 403 (row fifth 508 None)))) ≡ Some code → list_any (λ c. c == code) (437 ∷ 441 ∷ 443 ∷ 403 ∷ 508 ∷ []) ≡ true
permit_codes true second third fourth fifth code e = known (437 ∷ 441 ∷ 443 ∷ 403 ∷ 508 ∷ []) 437 code e refl
permit_codes false true third fourth fifth code e = known (437 ∷ 441 ∷ 443 ∷ 403 ∷ 508 ∷ []) 441 code e refl
permit_codes false false true fourth fifth code e = known (437 ∷ 441 ∷ 443 ∷ 403 ∷ 508 ∷ []) 443 code e refl
permit_codes false false false true fifth code e = known (437 ∷ 441 ∷ 443 ∷ 403 ∷ 508 ∷ []) 403 code e refl
permit_codes false false false false true code e = known (437 ∷ 441 ∷ 443 ∷ 403 ∷ 508 ∷ []) 508 code e refl
permit_codes false false false false false code e = absurd cc

-- ---- bind
pub bind_437_is : (first second third fourth fifth sixth seventh : Bool) → row first 437 (row second 441 (row third 400 (row fourth 400 (row fifth 443 (row sixth 403 (row seventh 508 None)))))) ≡ Some 437 → (first ≡ true)
bind_437_is true second third fourth fifth sixth seventh e = refl
bind_437_is false true third fourth fifth sixth seventh e = absurd (unlike 441 437 refl e)
bind_437_is false false true fourth fifth sixth seventh e = absurd (unlike 400 437 refl e)
bind_437_is false false false true fifth sixth seventh e = absurd (unlike 400 437 refl e)
bind_437_is false false false false true sixth seventh e = absurd (unlike 443 437 refl e)
bind_437_is false false false false false true seventh e = absurd (unlike 403 437 refl e)
bind_437_is false false false false false false true e = absurd (unlike 508 437 refl e)
bind_437_is false false false false false false false e = absurd cc

pub bind_437_if : (first second third fourth fifth sixth seventh : Bool) → first ≡ true → row first 437 (row second 441 (row third 400 (row fourth 400 (row fifth 443 (row sixth 403 (row seventh 508 None)))))) ≡ Some 437
bind_437_if true second third fourth fifth sixth seventh h = refl
bind_437_if false second third fourth fifth sixth seventh h = absurd (false≢true h)

pub bind_441_is : (first second third fourth fifth sixth seventh : Bool) → row first 437 (row second 441 (row third 400 (row fourth 400 (row fifth 443 (row sixth 403 (row seventh 508 None)))))) ≡ Some 441 → (first ≡ false) × (second ≡ true)
bind_441_is true second third fourth fifth sixth seventh e = absurd (unlike 437 441 refl e)
bind_441_is false true third fourth fifth sixth seventh e = (refl, refl)
bind_441_is false false true fourth fifth sixth seventh e = absurd (unlike 400 441 refl e)
bind_441_is false false false true fifth sixth seventh e = absurd (unlike 400 441 refl e)
bind_441_is false false false false true sixth seventh e = absurd (unlike 443 441 refl e)
bind_441_is false false false false false true seventh e = absurd (unlike 403 441 refl e)
bind_441_is false false false false false false true e = absurd (unlike 508 441 refl e)
bind_441_is false false false false false false false e = absurd cc

pub bind_441_if : (first second third fourth fifth sixth seventh : Bool) → first ≡ false → second ≡ true → row first 437 (row second 441 (row third 400 (row fourth 400 (row fifth 443 (row sixth 403 (row seventh 508 None)))))) ≡ Some 441
bind_441_if false true third fourth fifth sixth seventh not_first h = refl
bind_441_if true second third fourth fifth sixth seventh not_first h = absurd (false≢true (sym not_first))
bind_441_if first false third fourth fifth sixth seventh not_first h = absurd (false≢true h)

pub bind_400_is : (first second third fourth fifth sixth seventh : Bool) → row first 437 (row second 441 (row third 400 (row fourth 400 (row fifth 443 (row sixth 403 (row seventh 508 None)))))) ≡ Some 400 → (first ≡ false) × (second ≡ false) × ((third ≡ true) ⊎ (fourth ≡ true))
bind_400_is true second third fourth fifth sixth seventh e = absurd (unlike 437 400 refl e)
bind_400_is false true third fourth fifth sixth seventh e = absurd (unlike 441 400 refl e)
bind_400_is false false true fourth fifth sixth seventh e = (refl, refl, inl refl)
bind_400_is false false false true fifth sixth seventh e = (refl, refl, inr refl)
bind_400_is false false false false true sixth seventh e = absurd (unlike 443 400 refl e)
bind_400_is false false false false false true seventh e = absurd (unlike 403 400 refl e)
bind_400_is false false false false false false true e = absurd (unlike 508 400 refl e)
bind_400_is false false false false false false false e = absurd cc

pub bind_400_if : (first second third fourth fifth sixth seventh : Bool) → first ≡ false → second ≡ false → ((third ≡ true) ⊎ (fourth ≡ true)) → row first 437 (row second 441 (row third 400 (row fourth 400 (row fifth 443 (row sixth 403 (row seventh 508 None)))))) ≡ Some 400
bind_400_if false false true fourth fifth sixth seventh not_first not_second h = refl
bind_400_if false false false true fifth sixth seventh not_first not_second h = refl
bind_400_if true second third fourth fifth sixth seventh not_first not_second h = absurd (false≢true (sym not_first))
bind_400_if first true third fourth fifth sixth seventh not_first not_second h = absurd (false≢true (sym not_second))
bind_400_if first second false false fifth sixth seventh not_first not_second (inl h) = absurd (false≢true h)
bind_400_if first second false false fifth sixth seventh not_first not_second (inr h) = absurd (false≢true h)

pub bind_443_is : (first second third fourth fifth sixth seventh : Bool) → row first 437 (row second 441 (row third 400 (row fourth 400 (row fifth 443 (row sixth 403 (row seventh 508 None)))))) ≡ Some 443 → (first ≡ false) × (second ≡ false) × (third ≡ false) × (fourth ≡ false) × (fifth ≡ true)
bind_443_is true second third fourth fifth sixth seventh e = absurd (unlike 437 443 refl e)
bind_443_is false true third fourth fifth sixth seventh e = absurd (unlike 441 443 refl e)
bind_443_is false false true fourth fifth sixth seventh e = absurd (unlike 400 443 refl e)
bind_443_is false false false true fifth sixth seventh e = absurd (unlike 400 443 refl e)
bind_443_is false false false false true sixth seventh e = (refl, refl, refl, refl, refl)
bind_443_is false false false false false true seventh e = absurd (unlike 403 443 refl e)
bind_443_is false false false false false false true e = absurd (unlike 508 443 refl e)
bind_443_is false false false false false false false e = absurd cc

pub bind_443_if : (first second third fourth fifth sixth seventh : Bool) → first ≡ false → second ≡ false → third ≡ false → fourth ≡ false → fifth ≡ true → row first 437 (row second 441 (row third 400 (row fourth 400 (row fifth 443 (row sixth 403 (row seventh 508 None)))))) ≡ Some 443
bind_443_if false false false false true sixth seventh not_first not_second not_third not_fourth h = refl
bind_443_if true second third fourth fifth sixth seventh not_first not_second not_third not_fourth h = absurd (false≢true (sym not_first))
bind_443_if first true third fourth fifth sixth seventh not_first not_second not_third not_fourth h = absurd (false≢true (sym not_second))
bind_443_if first second true fourth fifth sixth seventh not_first not_second not_third not_fourth h = absurd (false≢true (sym not_third))
bind_443_if first second third true fifth sixth seventh not_first not_second not_third not_fourth h = absurd (false≢true (sym not_fourth))
bind_443_if first second third fourth false sixth seventh not_first not_second not_third not_fourth h = absurd (false≢true h)

pub bind_403_is : (first second third fourth fifth sixth seventh : Bool) → row first 437 (row second 441 (row third 400 (row fourth 400 (row fifth 443 (row sixth 403 (row seventh 508 None)))))) ≡ Some 403 → (first ≡ false) × (second ≡ false) × (third ≡ false) × (fourth ≡ false) × (fifth ≡ false) × (sixth ≡ true)
bind_403_is true second third fourth fifth sixth seventh e = absurd (unlike 437 403 refl e)
bind_403_is false true third fourth fifth sixth seventh e = absurd (unlike 441 403 refl e)
bind_403_is false false true fourth fifth sixth seventh e = absurd (unlike 400 403 refl e)
bind_403_is false false false true fifth sixth seventh e = absurd (unlike 400 403 refl e)
bind_403_is false false false false true sixth seventh e = absurd (unlike 443 403 refl e)
bind_403_is false false false false false true seventh e = (refl, refl, refl, refl, refl, refl)
bind_403_is false false false false false false true e = absurd (unlike 508 403 refl e)
bind_403_is false false false false false false false e = absurd cc

pub bind_403_if : (first second third fourth fifth sixth seventh : Bool) → first ≡ false → second ≡ false → third ≡ false → fourth ≡ false → fifth ≡ false → sixth ≡ true → row first 437 (row second 441 (row third 400 (row fourth 400 (row fifth 443 (row sixth 403 (row seventh 508 None)))))) ≡ Some 403
bind_403_if false false false false false true seventh not_first not_second not_third not_fourth not_fifth h = refl
bind_403_if true second third fourth fifth sixth seventh not_first not_second not_third not_fourth not_fifth h = absurd (false≢true (sym not_first))
bind_403_if first true third fourth fifth sixth seventh not_first not_second not_third not_fourth not_fifth h = absurd (false≢true (sym not_second))
bind_403_if first second true fourth fifth sixth seventh not_first not_second not_third not_fourth not_fifth h = absurd (false≢true (sym not_third))
bind_403_if first second third true fifth sixth seventh not_first not_second not_third not_fourth not_fifth h = absurd (false≢true (sym not_fourth))
bind_403_if first second third fourth true sixth seventh not_first not_second not_third not_fourth not_fifth h = absurd (false≢true (sym not_fifth))
bind_403_if first second third fourth fifth false seventh not_first not_second not_third not_fourth not_fifth h = absurd (false≢true h)

pub bind_508_is : (first second third fourth fifth sixth seventh : Bool) → row first 437 (row second 441 (row third 400 (row fourth 400 (row fifth 443 (row sixth 403 (row seventh 508 None)))))) ≡ Some 508 → (first ≡ false) × (second ≡ false) × (third ≡ false) × (fourth ≡ false) × (fifth ≡ false) × (sixth ≡ false) × (seventh ≡ true)
bind_508_is true second third fourth fifth sixth seventh e = absurd (unlike 437 508 refl e)
bind_508_is false true third fourth fifth sixth seventh e = absurd (unlike 441 508 refl e)
bind_508_is false false true fourth fifth sixth seventh e = absurd (unlike 400 508 refl e)
bind_508_is false false false true fifth sixth seventh e = absurd (unlike 400 508 refl e)
bind_508_is false false false false true sixth seventh e = absurd (unlike 443 508 refl e)
bind_508_is false false false false false true seventh e = absurd (unlike 403 508 refl e)
bind_508_is false false false false false false true e = (refl, refl, refl, refl, refl, refl, refl)
bind_508_is false false false false false false false e = absurd cc

pub bind_508_if : (first second third fourth fifth sixth seventh : Bool) → first ≡ false → second ≡ false → third ≡ false → fourth ≡ false → fifth ≡ false → sixth ≡ false → seventh ≡ true → row first 437 (row second 441 (row third 400 (row fourth 400 (row fifth 443 (row sixth 403 (row seventh 508 None)))))) ≡ Some 508
bind_508_if false false false false false false true not_first not_second not_third not_fourth not_fifth not_sixth h = refl
bind_508_if true second third fourth fifth sixth seventh not_first not_second not_third not_fourth not_fifth not_sixth h = absurd (false≢true (sym not_first))
bind_508_if first true third fourth fifth sixth seventh not_first not_second not_third not_fourth not_fifth not_sixth h = absurd (false≢true (sym not_second))
bind_508_if first second true fourth fifth sixth seventh not_first not_second not_third not_fourth not_fifth not_sixth h = absurd (false≢true (sym not_third))
bind_508_if first second third true fifth sixth seventh not_first not_second not_third not_fourth not_fifth not_sixth h = absurd (false≢true (sym not_fourth))
bind_508_if first second third fourth true sixth seventh not_first not_second not_third not_fourth not_fifth not_sixth h = absurd (false≢true (sym not_fifth))
bind_508_if first second third fourth fifth true seventh not_first not_second not_third not_fourth not_fifth not_sixth h = absurd (false≢true (sym not_sixth))
bind_508_if first second third fourth fifth sixth false not_first not_second not_third not_fourth not_fifth not_sixth h = absurd (false≢true h)

pub bind_codes : (first second third fourth fifth sixth seventh : Bool) (code : ℕ) → row first 437 (row second 441 (row third 400 (row fourth 400 (row fifth 443 (row sixth 403 (row seventh 508 None)))))) ≡ Some code → list_any (λ c. c == code) (437 ∷ 441 ∷ 400 ∷ 443 ∷ 403 ∷ 508 ∷ []) ≡ true
bind_codes true second third fourth fifth sixth seventh code e = known (437 ∷ 441 ∷ 400 ∷ 443 ∷ 403 ∷ 508 ∷ []) 437 code e refl
bind_codes false true third fourth fifth sixth seventh code e = known (437 ∷ 441 ∷ 400 ∷ 443 ∷ 403 ∷ 508 ∷ []) 441 code e refl
bind_codes false false true fourth fifth sixth seventh code e = known (437 ∷ 441 ∷ 400 ∷ 443 ∷ 403 ∷ 508 ∷ []) 400 code e refl
bind_codes false false false true fifth sixth seventh code e = known (437 ∷ 441 ∷ 400 ∷ 443 ∷ 403 ∷ 508 ∷ []) 400 code e refl
bind_codes false false false false true sixth seventh code e = known (437 ∷ 441 ∷ 400 ∷ 443 ∷ 403 ∷ 508 ∷ []) 443 code e refl
bind_codes false false false false false true seventh code e = known (437 ∷ 441 ∷ 400 ∷ 443 ∷ 403 ∷ 508 ∷ []) 403 code e refl
bind_codes false false false false false false true code e = known (437 ∷ 441 ∷ 400 ∷ 443 ∷ 403 ∷ 508 ∷ []) 508 code e refl
bind_codes false false false false false false false code e = absurd cc
