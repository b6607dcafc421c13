-- The last attribute of the wanted types among those that are shown, and its offset.
use Rattle.std.proofs.Common.{◌≡◌, ℕ, ◌+◌, ◌≤◌, Bool, true, false, List, [], ◌∷◌, ◌++◌, length, drop, Option, Some, None, refl, sym, ap, subst, ◌∙◌, append_assoc, arith, inl, inr}
use Rattle.std.specs.Prelude.{find, reverse}
use Rattle.std.specs.List.{list_any, AllByRecursion}
use Rattle.std.specs.Option.{option_or}
use Rattle.std.proofs.lemmas.Bool.{cases_Bool, cond-true, cond-false, or_from, or_parts}
use Rattle.std.proofs.lemmas.List.{length-append}
use Rattle.std.proofs.lemmas.List.Folds.{find-append}
use Rattle.std.proofs.lemmas.List.Concat.{flat_map-append}
use Rattle.std.proofs.lemmas.Grind.{reverse_onto}
use Rattle.stun_grammar.specs.declared.error.StunParseError.{StunParseError}
use Rattle.stun_grammar.specs.Numbers.{IsBytes}
use Rattle.stun_grammar.specs.Attributes.{Attribute, IsAttribute, encoding, encodings, types}
use Rattle.stun_grammar.specs.Chains.{Shown, chain, rest, placed}
use Rattle.stun_grammar.specs.ShownOrder.{in_order}
use Rattle.stun_grammar.specs.Showing.{frame_fault, shown, shown_prefix}
use Rattle.stun_grammar.proofs.NumbersLemmas.{IsBytes-drop}
use Rattle.stun_grammar.proofs.ChainsLemmas.{none_or_some, chain_exists}
use Rattle.stun_grammar.proofs.PrefixesLemmas.{longest_exists}
use Rattle.stun_grammar.proofs.ShownOrderLemmas.{in_order-nil}

abbrev pub shown_as : ℕ → ℕ → List ℕ → Shown
shown_as offset type value = record { offset = offset; type = type; value = value }

abbrev pub at_type : (ℕ → Bool) → Shown → Bool
at_type wanted a = wanted a.type

-- ---- The last member that passes

pub find-reverse-cons : {A : Type 0} (p : A → Bool) (x : A) (xs : List A) → find p (reverse (x ∷ xs)) ≡ option_or (find p (reverse xs)) (find p (x ∷ []))
find-reverse-cons p x xs = ap (find p) (reverse_onto xs x []) ∙ find-append p (reverse xs) (x ∷ [])

-- if there is no last one, there is none
pub none_there : (wanted : ℕ → Bool) (offset : ℕ) (xs : List Attribute) → find (at_type wanted) (reverse (placed offset xs)) ≡ None → list_any wanted (types xs) ≡ false
unfolding placed
none_there wanted offset [] e = refl
none_there wanted offset (x ∷ xs) e =
    let whole = sym (find-reverse-cons (at_type wanted) (shown_as offset x.type x.value) (placed (offset + length (encoding x)) xs)) ∙ e in
    elim (none_or_some (find (at_type wanted) (reverse (placed (offset + length (encoding x)) xs)))) [
      | inl none ↦
          let here : find (at_type wanted) (shown_as offset x.type x.value ∷ []) ≡ None = ap (λ (o : Option Shown). option_or o (find (at_type wanted) (shown_as offset x.type x.value ∷ []))) (sym none) ∙ whole in
          elim (cases_Bool (wanted x.type)) [
            | inl passed ↦ absurd (cc (here, cond-true (wanted x.type) (Some (shown_as offset x.type x.value)) None passed))
            | inr failed ↦ or_from (wanted x.type) (list_any wanted (types xs)) failed (none_there wanted (offset + length (encoding x)) xs none)
          ]
      | inr (y, some) ↦ absurd (cc (whole, ap (λ (o : Option Shown). option_or o (find (at_type wanted) (shown_as offset x.type x.value ∷ []))) some))
    ]

-- the attributes before the last wanted one, that one, and those after it
pub record Splits (wanted : ℕ → Bool) (offset : ℕ) (xs : List Attribute) (x : Shown) : Type 0 where
  pub before : List Attribute
  pub attribute : Attribute
  pub behind : List Attribute
  pub whole : xs ≡ before ++ attribute ∷ behind
  pub is : x ≡ shown_as (offset + length (encodings before)) attribute.type attribute.value
  pub passes : wanted attribute.type ≡ true
  pub last : list_any wanted (types behind) ≡ false

push_split : (wanted : ℕ → Bool) (offset : ℕ) (a : Attribute) (xs : List Attribute) (x : Shown) → Splits wanted (offset + length (encoding a)) xs x → Splits wanted offset (a ∷ xs) x
push_split wanted offset a xs x later = record {
  before = a ∷ later.before;
  attribute = later.attribute;
  behind = later.behind;
  whole = ap (λ (ys : List Attribute). a ∷ ys) later.whole;
  is = later.is ∙ ap (λ (k : ℕ). shown_as k later.attribute.type later.attribute.value) (omega (arith, length-append (encoding a) (encodings later.before)));
  passes = later.passes;
  last = later.last;
}

pub split_last : (wanted : ℕ → Bool) (offset : ℕ) (xs : List Attribute) (x : Shown) → find (at_type wanted) (reverse (placed offset xs)) ≡ Some x → Splits wanted offset xs x
unfolding placed
split_last wanted offset [] x e = absurd cc
split_last wanted offset (a ∷ xs) x e =
    let o : ℕ = offset + length (encoding a) in
    let here : Shown = shown_as offset a.type a.value in
    let whole = sym (find-reverse-cons (at_type wanted) here (placed o xs)) ∙ e in
    elim (none_or_some (find (at_type wanted) (reverse (placed o xs)))) [
      | inl none ↦
          let one : find (at_type wanted) (here ∷ []) ≡ Some x = ap (λ (r : Option Shown). option_or r (find (at_type wanted) (here ∷ []))) (sym none) ∙ whole in
          elim (cases_Bool (wanted a.type)) [
            | inl passed ↦
                let same : Some here ≡ Some x = sym (cond-true (wanted a.type) (Some here) None passed) ∙ one in
                record {
                  before = [];
                  attribute = a;
                  behind = xs;
                  whole = refl;
                  is = sym (some_is here x same) ∙ ap (λ (k : ℕ). shown_as k a.type a.value) (omega arith);
                  passes = passed;
                  last = none_there wanted o xs none;
                }
            | inr failed ↦ absurd (cc (one, cond-false (wanted a.type) (Some here) None failed))
          ]
      | inr (y, some) ↦
          let same : Some y ≡ Some x = ap (λ (r : Option Shown). option_or r (find (at_type wanted) (here ∷ []))) (sym some) ∙ whole in
          push_split wanted offset a xs x (split_last wanted o xs x (some ∙ same))
    ]
  where
    some_is : (p q : Shown) → Some p ≡ Some q → p ≡ q
    some_is p q e = cc

-- ---- The converse

pub none_last : (wanted : ℕ → Bool) (offset : ℕ) (xs : List Attribute) → list_any wanted (types xs) ≡ false → find (at_type wanted) (reverse (placed offset xs)) ≡ None
unfolding placed
none_last wanted offset [] e = refl
none_last wanted offset (x ∷ xs) e =
    let p = or_parts (wanted x.type) (list_any wanted (types xs)) e in
    find-reverse-cons (at_type wanted) (shown_as offset x.type x.value) (placed (offset + length (encoding x)) xs)
    ∙ ap (λ (o : Option Shown). option_or o (find (at_type wanted) (shown_as offset x.type x.value ∷ []))) (none_last wanted (offset + length (encoding x)) xs p.1)
    ∙ cond-false (wanted x.type) (Some (shown_as offset x.type x.value)) None p.0

pub last_at : (wanted : ℕ → Bool) (offset : ℕ) (before : List Attribute) (a : Attribute) (behind : List Attribute) → wanted a.type ≡ true → list_any wanted (types behind) ≡ false
    → find (at_type wanted) (reverse (placed offset (before ++ a ∷ behind))) ≡ Some (shown_as (offset + length (encodings before)) a.type a.value)
unfolding placed
last_at wanted offset [] a behind passed none =
    find-reverse-cons (at_type wanted) (shown_as offset a.type a.value) (placed (offset + length (encoding a)) behind)
    ∙ ap (λ (o : Option Shown). option_or o (find (at_type wanted) (shown_as offset a.type a.value ∷ []))) (none_last wanted (offset + length (encoding a)) behind none)
    ∙ cond-true (wanted a.type) (Some (shown_as offset a.type a.value)) None passed
    ∙ ap (λ (k : ℕ). Some (shown_as k a.type a.value)) (omega arith)
last_at wanted offset (x ∷ before) a behind passed none =
    find-reverse-cons (at_type wanted) (shown_as offset x.type x.value) (placed (offset + length (encoding x)) (before ++ a ∷ behind))
    ∙ ap (λ (o : Option Shown). option_or o (find (at_type wanted) (shown_as offset x.type x.value ∷ []))) (last_at wanted (offset + length (encoding x)) before a behind passed none)
    ∙ ap (λ (k : ℕ). Some (shown_as k a.type a.value)) (omega (arith, length-append (encoding x) (encodings before)))

-- ---- What is shown of bytes

-- some attributes are shown, and the bytes after the header are their encodings and then any bytes
pub record Shows (d : List ℕ) (attributes : List Attribute) : Type 0 where
  pub frame : frame_fault d ≡ None
  pub shown_is : shown d ≡ placed 20 attributes
  pub ordered : in_order (types attributes) ≡ true
  pub each : AllByRecursion IsAttribute attributes
  pub others : List ℕ
  pub whole : drop 20 d ≡ encodings attributes ++ others
  pub longest : (a b : List Attribute) → chain (drop 20 d) ≡ a ++ b → in_order (types a) ≡ true → length a ≤ length attributes

pub AllByRecursion-prefix : {A : Type 0} (P : A → Type 0) (xs ys : List A) → AllByRecursion P (xs ++ ys) → AllByRecursion P xs
AllByRecursion-prefix P [] ys all = tt
AllByRecursion-prefix P (x ∷ xs) ys all = (all.0, AllByRecursion-prefix P xs ys all.1)

pub AllByRecursion-behind : {A : Type 0} (P : A → Type 0) (xs ys : List A) → AllByRecursion P (xs ++ ys) → AllByRecursion P ys
AllByRecursion-behind P [] ys all = all
AllByRecursion-behind P (x ∷ xs) ys all = AllByRecursion-behind P xs ys all.1

pub AllByRecursion-append : {A : Type 0} (P : A → Type 0) (xs ys : List A) → AllByRecursion P xs → AllByRecursion P ys → AllByRecursion P (xs ++ ys)
AllByRecursion-append P [] ys p q = q
AllByRecursion-append P (x ∷ xs) ys p q = (p.0, AllByRecursion-append P xs ys p.1 q)

pub shows : (d : List ℕ) → IsBytes d → frame_fault d ≡ None → Shows d (shown_prefix (chain (drop 20 d)))
unfolding shown
shows d bytes e =
    let all = chain_exists (drop 20 d) (IsBytes-drop 20 d bytes) in
    let prefix = longest_exists (λ q. in_order (types q)) (chain (drop 20 d)) in_order-nil in
    let attributes = shown_prefix (chain (drop 20 d)) in
    let both : AllByRecursion IsAttribute (attributes ++ prefix.others) = subst (AllByRecursion IsAttribute) prefix.whole all.each in
    record {
      frame = e;
      shown_is = rw e refl;
      ordered = prefix.fits;
      each = AllByRecursion-prefix IsAttribute attributes prefix.others both;
      others = encodings prefix.others ++ rest (drop 20 d);
      whole = all.whole ∙ ap (λ (x : List ℕ). x ++ rest (drop 20 d)) (ap encodings prefix.whole ∙ flat_map-append encoding attributes prefix.others) ∙ append_assoc (encodings attributes) (encodings prefix.others) (rest (drop 20 d));
      longest = prefix.longest;
    }

pub nothing : (d : List ℕ) (reported : StunParseError) → frame_fault d ≡ Some reported → shown d ≡ []
unfolding shown
nothing d reported e = rw e refl
