-- When the next reservation expires.
use Rattle.std.proofs.Common.{◌≡◌, ℕ, ◌≤◌, Bool, true, false, List, [], ◌∷◌, map, Option, None, Some, min, ◌⊎◌, inl, inr, refl, sym, subst, ◌∙◌, arith}
use Rattle.std.specs.List.{AllByRecursion, list_any, fold}
use Rattle.std.specs.Option.{option_map_or}
use Rattle.std.specs.Prelude.{◌||◌, ◌==◌, MatchOption}
use Rattle.std.proofs.Math.Nat.{min-le_left, min-le_right}
use Rattle.std.proofs.lemmas.Bool.{eq-eqb}
use Rattle.turn_machine.specs.Reserving.{Reservation}
use Rattle.turn_reservations.specs.declared.held.Reserved.{Reserved}
use Rattle.turn_reservations.specs.Held.{reservation_of}
use Rattle.turn_reservations.specs.Calls.{IsNextOver}

abbrev sooner : Option ℕ → Reserved → Option ℕ
sooner due r = Some (option_map_or (λ d. min d r.expires_at) due r.expires_at)

abbrev any_at : ℕ → List Reserved → Bool
any_at due xs = list_any (λ (r : Reservation). r.expires_at == due) (map reservation_of xs)

record Earliest (first : ℕ) (xs : List Reserved) : Type 0 where
  due : ℕ
  is : fold sooner (Some first) xs ≡ Some due
  some : (first ≡ due) ⊎ (any_at due xs ≡ true)
  below : due ≤ first
  least : AllByRecursion (λ (r : Reservation). due ≤ r.expires_at) (map reservation_of xs)

or_true : (b c : Bool) → c ≡ true → (b || c) ≡ true
or_true true c is = refl
or_true false c is = is

or_here : (b c : Bool) → b ≡ true → (b || c) ≡ true
or_here true c is = refl
or_here false c is = absurd cc

one_of : (m n : ℕ) → (min m n ≡ m) ⊎ (min m n ≡ n)
one_of m n = grind arith

found : (first : ℕ) (x : Reserved) (xs : List Reserved) (due : ℕ) → (min first x.expires_at ≡ first) ⊎ (min first x.expires_at ≡ x.expires_at) → (min first x.expires_at ≡ due) ⊎ (any_at due xs ≡ true) → (first ≡ due) ⊎ (any_at due (x ∷ xs) ≡ true)
found first x xs due which (inr later) = inr (or_true (x.expires_at == due) (any_at due xs) later)
found first x xs due (inl is_first) (inl it) = inl (sym is_first ∙ it)
found first x xs due (inr is_x) (inl it) = inr (or_here (x.expires_at == due) (any_at due xs) (eq-eqb x.expires_at due (sym is_x ∙ it)))

earliest : (first : ℕ) (xs : List Reserved) → Earliest first xs
earliest first [] = record { due = first; is = refl; some = inl refl; below = omega arith; least = tt }
earliest first (x ∷ xs) =
    let it = earliest (min first x.expires_at) xs in
    let left = min-le_left first x.expires_at in
    let right = min-le_right first x.expires_at in
    let below = it.below in
    record {
      due = it.due;
      is = it.is;
      some = found first x xs it.due (one_of first x.expires_at) it.some;
      below = omega (arith, left, below);
      least = (omega (arith, right, below), it.least);
    }

some_at : (x : Reserved) (xs : List Reserved) (due : ℕ) → (x.expires_at ≡ due) ⊎ (any_at due xs ≡ true) → any_at due (x ∷ xs) ≡ true
some_at x xs due (inl here) = or_here (x.expires_at == due) (any_at due xs) (eq-eqb x.expires_at due here)
some_at x xs due (inr later) = or_true (x.expires_at == due) (any_at due xs) later

pub next_over : (xs : List Reserved) → MatchOption (fold sooner None xs) (map reservation_of xs ≡ []) (λ due. IsNextOver due (map reservation_of xs))
next_over [] = refl
next_over (x ∷ xs) =
    let it = earliest x.expires_at xs in
    subst (λ (o : Option ℕ). MatchOption o (map reservation_of (x ∷ xs) ≡ []) (λ due. IsNextOver due (map reservation_of (x ∷ xs)))) (sym it.is)
    (record { some = some_at x xs it.due it.some; least = (it.below, it.least) })
