-- What is asked of reserved sockets is asked of the machine's reservations.
use Rattle.std.proofs.Common.{◌≡◌, ℕ, Bool, true, false, cond, List, [], ◌∷◌, map, filter, find, Some, refl, ap, ◌∙◌}
use Rattle.std.specs.List.{list_any}
use Rattle.std.specs.Option.{option_map}
use Rattle.std.specs.Prelude.{◌||◌, not, nat_lt}
use Rattle.turn_machine.specs.Reserving.{Reservation, is_held}
use Rattle.turn_reservations.specs.declared.held.Reserved.{Reserved}
use Rattle.turn_reservations.specs.Held.{reservation_of}

module _ {X Y : Type 0} (f : X → Y) (p : Y → Bool) where
  pub find_mapped : (xs : List X) → find p (map f xs) ≡ option_map f (find (λ x. p (f x)) xs)
  find_mapped [] = refl
  find_mapped (x ∷ xs) = here (p (f x)) (find_mapped xs)
    where
      here : (b : Bool) → find p (map f xs) ≡ option_map f (find (λ y. p (f y)) xs) → cond b (Some (f x)) (find p (map f xs)) ≡ option_map f (cond b (Some x) (find (λ y. p (f y)) xs))
      here true more = refl
      here false more = more

  pub any_mapped : (xs : List X) → list_any p (map f xs) ≡ list_any (λ x. p (f x)) xs
  any_mapped [] = refl
  any_mapped (x ∷ xs) = ap (λ (b : Bool). p (f x) || b) (any_mapped xs)

  pub filter_mapped : (xs : List X) → filter p (map f xs) ≡ map f (filter (λ x. p (f x)) xs)
  filter_mapped [] = refl
  filter_mapped (x ∷ xs) = here (p (f x)) (filter_mapped xs)
    where
      here : (b : Bool) → filter p (map f xs) ≡ map f (filter (λ y. p (f y)) xs) → cond b (f x ∷ filter p (map f xs)) (filter p (map f xs)) ≡ map f (cond b (x ∷ filter (λ y. p (f y)) xs) (filter (λ y. p (f y)) xs))
      here true more = ap (λ (ys : List Y). f x ∷ ys) more
      here false more = more

-- ---- The tokens of those that have expired

abbrev pub told : (now : ℕ) → List Reserved → List ℕ
told now xs = map (λ r. r.token) (filter (λ r. not (nat_lt now r.expires_at)) xs)

tokens_mapped : (xs : List Reserved) → map (λ (r : Reservation). r.token) (map reservation_of xs) ≡ map (λ (r : Reserved). r.token) xs
tokens_mapped [] = refl
tokens_mapped (x ∷ xs) = ap (λ (ts : List ℕ). x.token ∷ ts) (tokens_mapped xs)

-- they are those of the machine's reservations
pub told_mapped : (now : ℕ) (xs : List Reserved) → map (λ (r : Reservation). r.token) (filter (λ r. not (is_held now r)) (map reservation_of xs)) ≡ told now xs
told_mapped now xs =
    ap (map (λ (r : Reservation). r.token)) (filter_mapped reservation_of (λ r. not (is_held now r)) xs)
    ∙ tokens_mapped (filter (λ r. not (nat_lt now r.expires_at)) xs)
