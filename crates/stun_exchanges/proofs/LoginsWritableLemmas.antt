-- A message with credentials may be written.
use Rattle.std.proofs.Common.{◌≡◌, ℕ, ◌^◌, ◌<◌, Bool, true, false, eqb, List, [], ◌∷◌, ◌++◌, length, None, refl, sym, ap, subst, ◌∙◌, append_assoc, arith}
use Rattle.std.specs.List.{AllByRecursion, list_any}
use Rattle.std.proofs.lemmas.Bool.{or_parts, or_from, ne_eqb}
use Rattle.std.proofs.lemmas.List.{length-append, map-append, append-nil}
use Rattle.std.proofs.lemmas.List.Folds.{list_any-append}
use Rattle.std.proofs.lemmas.List.Concat.{flat_map-append}
use Rattle.stun_grammar.specs.Adding.{first_of}
use Rattle.stun_grammar.specs.Attributes.{Attribute, canonical, encoding, encodings, types}
use Rattle.stun_grammar.specs.AttributeTypes.{is_ending}
use Rattle.stun_grammar.specs.ScannedOrder.{has}
use Rattle.stun_grammar.specs.Writing.{message_encoding, IsWritable}
use Rattle.stun_grammar.specs.Steps.{Step, add, appended_by, with_step, barring_types, IsEncodable, IsOrdinaryStep}
use Rattle.stun_grammar.proofs.AddingRefusedLemmas.{accepted_unbounded}
use Rattle.stun_grammar.proofs.StepsLemmas.{length-with_step, step_writable}
use Rattle.stun_grammar.proofs.WritingLemmas.{length-message}
use Rattle.stun_authentication.proofs.TypesLemmas.{weaker, ordinary_of, free}
use Rattle.stun_exchanges.specs.Premises.{is_reserved, HasRoom}

-- ---- Types

pub types-append : (xs ys : List Attribute) → types (xs ++ ys) ≡ types xs ++ types ys
types-append xs ys = map-append (λ x. x.type) xs ys

pub any-append : (p : ℕ → Bool) (xs ys : List Attribute) → list_any p (types xs) ≡ false → list_any p (types ys) ≡ false → list_any p (types (xs ++ ys)) ≡ false
any-append p xs ys one two = ap (list_any p) (types-append xs ys) ∙ list_any-append p (types xs) (types ys) ∙ or_from (list_any p (types xs)) (list_any p (types ys)) one two

-- the caller's own attributes have none of the reserved types
other : (c t : ℕ) → is_reserved c ≡ true → is_reserved t ≡ false → eqb t c ≡ false
other c t one two = ne_eqb t c (λ e. absurd (cc (one, two, ap is_reserved e)))

pub lacks_reserved : (c : ℕ) (ts : List ℕ) → is_reserved c ≡ true → list_any is_reserved ts ≡ false → has c ts ≡ false
lacks_reserved c ts one none = weaker is_reserved (λ t. eqb t c) ts (λ t e. other c t one e) none

pub none_ends : (ts : List ℕ) → list_any is_reserved ts ≡ false → list_any is_ending ts ≡ false
none_ends ts none = weaker is_reserved is_ending ts (λ t e. (or_parts (is_ending t) _ e).0) none

-- ---- One step

pub room_down : (kind id : ℕ) (xs ys : List Attribute) → HasRoom kind id (xs ++ ys) → HasRoom kind id xs
room_down kind id xs ys room =
    omega (arith, room, length-message kind id (xs ++ ys), length-message kind id xs, ap length (flat_map-append encoding xs ys), length-append (encodings xs) (encodings ys))

pub one_more : (kind id : ℕ) (xs : List Attribute) (step : Step) → IsWritable kind id xs → first_of (barring_types step) (types xs) ≡ None → IsEncodable step → IsOrdinaryStep step
    → HasRoom kind id (with_step kind id xs step) → IsWritable kind id (with_step kind id xs step)
one_more kind id xs step so none lawful plain room =
    let size = length-with_step kind id xs step lawful in
    step_writable kind id xs step so (accepted_unbounded step (types xs) (length (message_encoding kind id xs)) none (omega (arith, length-message kind id xs)) (omega (arith, size, room))) lawful plain

-- ---- Many adds

-- an attribute that an add writes
pub record IsAdded (a : Attribute) : Type 0 where
  pub written : a ≡ canonical a.type a.value
  pub type_fits : a.type < 2 ^ 16
  pub value_fits : length a.value < 2 ^ 16
  pub plain : is_ending a.type ≡ false

added_is : (kind id : ℕ) (xs : List Attribute) (y : Attribute) → y ≡ canonical y.type y.value → with_step kind id xs (add y.type y.value) ≡ xs ++ y ∷ []
unfolding appended_by
added_is kind id xs y e = ap (λ (a : Attribute). xs ++ a ∷ []) (sym e)

pub adds : (kind id : ℕ) (xs ys : List Attribute) → IsWritable kind id xs → list_any is_ending (types xs) ≡ false → AllByRecursion IsAdded ys → HasRoom kind id (xs ++ ys) → IsWritable kind id (xs ++ ys)
adds kind id xs [] so none all room = subst (IsWritable kind id) (sym (append-nil xs)) so
adds kind id xs (y ∷ ys) so none all room =
    let one = xs ++ y ∷ [] in
    let step = add y.type y.value in
    let is = added_is kind id xs y all.0.written in
    let assoc : one ++ ys ≡ xs ++ y ∷ ys = append_assoc xs (y ∷ []) ys in
    let more : HasRoom kind id (one ++ ys) = subst (HasRoom kind id) (sym assoc) room in
    let here : HasRoom kind id (with_step kind id xs step) = subst (HasRoom kind id) (sym is) (room_down kind id one ys more) in
    let so_far : IsWritable kind id one = subst (IsWritable kind id) is (one_more kind id xs step so (free step (types xs) none) (all.0.type_fits, all.0.value_fits) (ordinary_of y.type all.0.plain) here) in
    subst (IsWritable kind id) assoc (adds kind id one ys so_far (any-append is_ending xs (y ∷ []) none (or_from (is_ending y.type) false all.0.plain refl)) all.1 more)
