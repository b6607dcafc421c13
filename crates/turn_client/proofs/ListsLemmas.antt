-- Tests of mapped lists.
use Rattle.std.proofs.Common.{◌≡◌, Bool, true, false, List, [], ◌∷◌, ◌++◌, map, filter, refl, ap}
use Rattle.std.specs.Prelude.{◌||◌, find, Option, Some, if◌then◌else◌}
use Rattle.std.specs.List.{list_any}
use Rattle.std.specs.Option.{option_map}

pub any_mapped : {X Y : Type 0} (p : Y → Bool) (f : X → Y) (xs : List X) → list_any p (map f xs) ≡ list_any (λ x. p (f x)) xs
any_mapped p f [] = refl
any_mapped p f (x ∷ xs) = ap (λ b. p (f x) || b) (any_mapped p f xs)

found_mapped : {X Y : Type 0} (b : Bool) (f : X → Y) (x : X) (rest : Option Y) (more : Option X) → rest ≡ option_map f more → (if b then Some (f x) else rest) ≡ option_map f (if b then Some x else more)
found_mapped true f x rest more is = refl
found_mapped false f x rest more is = is

pub find_mapped : {X Y : Type 0} (p : Y → Bool) (f : X → Y) (xs : List X) → find p (map f xs) ≡ option_map f (find (λ x. p (f x)) xs)
find_mapped p f [] = refl
find_mapped p f (x ∷ xs) = found_mapped (p (f x)) f x (find p (map f xs)) (find (λ y. p (f y)) xs) (find_mapped p f xs)

filtered_mapped : {X Y : Type 0} (b : Bool) (f : X → Y) (x : X) (more : List X) (rest : List Y) → map f more ≡ rest → map f (if b then x ∷ more else more) ≡ (if b then f x ∷ rest else rest)
filtered_mapped true f x more rest is = ap (λ ys. f x ∷ ys) is
filtered_mapped false f x more rest is = is

pub filter_mapped : {X Y : Type 0} (p : Y → Bool) (f : X → Y) (xs : List X) → map f (filter (λ x. p (f x)) xs) ≡ filter p (map f xs)
filter_mapped p f [] = refl
filter_mapped p f (x ∷ xs) = filtered_mapped (p (f x)) f x (filter (λ y. p (f y)) xs) (filter p (map f xs)) (filter_mapped p f xs)

pub map_pushed : {X Y : Type 0} (f : X → Y) (xs : List X) (x : X) → map f (xs ++ (x ∷ [])) ≡ map f xs ++ (f x ∷ [])
map_pushed f [] x = refl
map_pushed f (y ∷ xs) x = ap (λ ys. f y ∷ ys) (map_pushed f xs x)
