-- A walk from the offset of an attribute is the part of the whole walk that begins there: so an
-- attribute whose offset was kept is read there again.
use Rattle.std.proofs.Common.{◌≡◌, ℕ, ◌+◌, ◌-◌, ◌≤◌, Bool, true, false, cond, eqb, not, ◌&&◌, List, [], ◌∷◌, ◌++◌, length, take, drop, Option, Some, None, refl, sym, ap, subst, ◌∙◌, append_assoc, arith, inl, inr}
use Rattle.std.specs.Prelude.{find, filter, reverse, slice_get, is_some, IfSome, IsSomeAnd, MatchOption}
use Rattle.std.specs.List.{list_all, list_any}
use Rattle.std.specs.Option.{option_map, option_or}
use Rattle.std.proofs.lemmas.Bool.{ne_eqb, eqb-true, cases_Bool, cond-true, cond-false, and_parts, not-true}
use Rattle.std.proofs.lemmas.List.{length-append, length-drop, drop-drop}
use Rattle.stun_grammar.specs.declared.integrity_algorithm.IntegrityAlgorithm.{IntegrityAlgorithm}
use Rattle.stun_grammar.specs.declared.integrity_algorithm.IntegrityAlgorithm.TheVariants.{Sha1, Sha256}
use Rattle.stun_grammar.specs.AttributeTypes.{FINGERPRINT, is_ending}
use Rattle.stun_grammar.specs.Attributes.{Attribute, encoding, encodings, types}
use Rattle.stun_grammar.specs.Chains.{Shown, first_attribute, chain, rest, placed, stated_length}
use Rattle.stun_grammar.specs.ShownOrder.{in_order, endings, optional, without}
use Rattle.stun_grammar.specs.ScannedOrder.{in_any_order, distinct, has}
use Rattle.stun_grammar.specs.Showing.{frame_fault, shown, shown_prefix}
use Rattle.stun_grammar.specs.Verdicts.{type_of_algorithm, is_checked_type, last_shown}
use Rattle.stun_grammar.proofs.AttributesLemmas.{length-encoding, first_attribute_some}
use Rattle.stun_grammar.proofs.ChainsLemmas.{none_or_some, chain-none, chain-some, rest-some, length-first_attribute}
use Rattle.stun_grammar.proofs.PrefixesLemmas.{longest_exists}
use Rattle.stun_grammar.proofs.ShowingLemmas.{shown_as, at_type, find-reverse-cons, split_last, none_last, nothing}
use Rattle.stun_grammar.proofs.ShownOrderCutLemmas.{maybe, empty, in_any_order-from}
use Rattle.stun_grammar.proofs.ShownOrderLemmas.{which, integrity, sha256, fingerprint, ordinary, in_order-nil, in_order-sha256}
use Rattle.stun_grammar.proofs.VerdictsLemmas.{order_pair}
use Rattle.stun_attributes.specs.declared.wire.raw.RawAttribute.{RawAttribute}
use Rattle.stun_types.specs.Offsets.{offset_among, IsIntegrityAt}
use Rattle.stun_types.specs.LookingUp.{nth, IsFound}

-- ---- The walk from there

-- a chain that isn't empty begins with the first attribute
chain_cons : (b : List ℕ) (x : Attribute) (xs : List Attribute) → chain b ≡ x ∷ xs → (first_attribute b ≡ Some x) × (chain (drop (length (encoding x)) b) ≡ xs)
chain_cons b x xs e = elim (none_or_some (first_attribute b)) [
  | inl none ↦ absurd (cc (e, chain-none b none))
  | inr (y, some) ↦
      let whole : y ∷ chain (drop (length (encoding y)) b) ≡ x ∷ xs = sym (chain-some b y some) ∙ e in
      let same : y ≡ x = first y x _ _ whole in
      (some ∙ ap Some same, ap (λ (z : Attribute). chain (drop (length (encoding z)) b)) (sym same) ∙ later y x _ _ whole)
]
  where
    first : (p q : Attribute) (ps qs : List Attribute) → p ∷ ps ≡ q ∷ qs → p ≡ q
    first p q ps qs h = cc

    later : (p q : Attribute) (ps qs : List Attribute) → p ∷ ps ≡ q ∷ qs → ps ≡ qs
    later p q ps qs h = cc

walk_from : (b : List ℕ) (before behind : List Attribute) → chain b ≡ before ++ behind → (chain (drop (length (encodings before)) b) ≡ behind) × (rest (drop (length (encodings before)) b) ≡ rest b)
walk_from b [] behind e = (e, refl)
walk_from b (x ∷ before) behind e =
    let here = chain_cons b x (before ++ behind) e in
    let later = walk_from (drop (length (encoding x)) b) before behind here.1 in
    let place : drop (length (encodings before)) (drop (length (encoding x)) b) ≡ drop (length (encodings (x ∷ before))) b =
    drop-drop (length (encodings before)) (length (encoding x)) b ∙ ap (λ (k : ℕ). drop k b) (omega (arith, length-append (encoding x) (encodings before))) in
    (ap chain (sym place) ∙ later.0, ap rest (sym place) ∙ later.1 ∙ sym (rest-some b x here.0))

pub walk_at : (d : List ℕ) (offset : ℕ) (before behind : List Attribute) → chain (drop 20 d) ≡ before ++ behind → offset ≡ 20 + length (encodings before)
    → (chain (drop offset d) ≡ behind) × (rest (drop offset d) ≡ rest (drop 20 d))
walk_at d offset before behind e is =
    let w = walk_from (drop 20 d) before behind e in
    let place : drop (length (encodings before)) (drop 20 d) ≡ drop offset d = drop-drop (length (encodings before)) 20 d ∙ ap (λ (k : ℕ). drop k d) (omega (arith, is)) in
    (ap chain (sym place) ∙ w.0, ap rest (sym place) ∙ w.1)

-- ---- The attribute at a kept offset

shown_is : (d : List ℕ) → frame_fault d ≡ None → shown d ≡ placed 20 (shown_prefix (chain (drop 20 d)))
unfolding shown
shown_is d frame = rw frame refl

kept_at : (wanted : ℕ → Bool) (d : List ℕ) (x : Shown) → frame_fault d ≡ None → last_shown wanted d ≡ Some x → (a : Attribute) × (wanted a.type ≡ true) × IsIntegrityAt wanted d a.type x.offset
kept_at wanted d x frame last =
    let all = chain (drop 20 d) in
    let prefix = longest_exists (λ q. in_order (types q)) all in_order-nil in
    let split = split_last wanted 20 (shown_prefix all) x (ap (λ (xs : List Shown). find (at_type wanted) (reverse xs)) (sym (shown_is d frame)) ∙ last) in
    let a = split.attribute in
    let offset : x.offset ≡ 20 + length (encodings split.before) = ap (λ (y : Shown). y.offset) split.is in
    let whole : all ≡ split.before ++ a ∷ (split.behind ++ prefix.others) =
    prefix.whole ∙ ap (λ (xs : List Attribute). xs ++ prefix.others) split.whole ∙ append_assoc split.before (a ∷ split.behind) prefix.others in
    let walk = walk_at d x.offset split.before (a ∷ (split.behind ++ prefix.others)) whole offset in
    let first = (chain_cons (drop x.offset d) a (split.behind ++ prefix.others) walk.0).0 in (
      a,
      split.passes,
      record {
        attribute = a;
        type_is = refl;
        first_is = first;
        last_is = last ∙ ap Some (split.is ∙ ap (λ (k : ℕ). shown_as k a.type a.value) (sym offset));
        within = omega (arith, length-encoding a, (length-first_attribute (drop x.offset d) a first).1, length-drop x.offset d);
      },
    )

abbrev IsThere : (ℕ → Bool) → List ℕ → ℕ → Type 0
IsThere wanted d offset = (a : Attribute) × (wanted a.type ≡ true) × IsIntegrityAt wanted d a.type offset

there : (wanted : ℕ → Bool) (d : List ℕ) (offset : ℕ) → offset_among wanted (shown d) ≡ Some offset → IsThere wanted d offset
there wanted d offset e = elim (none_or_some (last_shown wanted d)) [
  | inl none ↦
      let reported : None ≡ Some offset = sym (ap (option_map (λ (y : Shown). y.offset)) none) ∙ e in absurd cc
  | inr (x, some) ↦
      let is : Some x.offset ≡ Some offset = sym (ap (option_map (λ (y : Shown). y.offset)) some) ∙ e in
      subst (IsThere wanted d) (same x.offset offset is) (elim (none_or_some (frame_fault d)) [
        | inl frame ↦ kept_at wanted d x frame some
        | inr (fault, refused) ↦
            let empty : last_shown wanted d ≡ None = ap (λ (xs : List Shown). find (at_type wanted) (reverse xs)) (nothing d fault refused) in absurd (cc (some, empty))
      ])
]
  where
    same : (p q : ℕ) → Some p ≡ Some q → p ≡ q
    same p q h = cc

-- of the attribute of an algorithm, or there is none
pub kept_shown : (algorithm : IntegrityAlgorithm) (d : List ℕ) (kept : Option ℕ) → kept ≡ offset_among (is_checked_type (Some algorithm)) (shown d)
    → MatchOption kept (last_shown (is_checked_type (Some algorithm)) d ≡ None) (λ offset. IsIntegrityAt (is_checked_type (Some algorithm)) d (type_of_algorithm algorithm) offset)
kept_shown algorithm d None e = elim (none_or_some (last_shown (is_checked_type (Some algorithm)) d)) [
  | inl none ↦ none
  | inr (x, some) ↦
      let reported : None ≡ Some x.offset = e ∙ ap (option_map (λ (y : Shown). y.offset)) some in absurd cc
]
kept_shown algorithm d (Some offset) e =
    let (a, passes, at) = there (is_checked_type (Some algorithm)) d offset (sym e) in
    subst (λ (k : ℕ). IsIntegrityAt (is_checked_type (Some algorithm)) d k offset) (eqb-true a.type (type_of_algorithm algorithm) passes) at

-- its bytes are all there
pub first_long : (b : List ℕ) → is_some (first_attribute b) ≡ true → 4 + stated_length b ≤ length b
first_long b first = elim (none_or_some (first_attribute b)) [
  | inl none ↦ let reported : false ≡ true = rw none at first in absurd cc
  | inr (a, some) ↦ omega (arith, (first_attribute_some b a some).0)
]

pub first_read : (b : List ℕ) (n : ℕ) (read : List ℕ) → n ≡ stated_length b → read ≡ take (4 + n - 4) (drop 4 b) → IfSome (first_attribute b) (λ a. read ≡ a.value)
first_read b n read n-is read-is = elim (none_or_some (first_attribute b)) [
  | inl none ↦ rw none tt
  | inr (a, some) ↦
      let count : 4 + n - 4 ≡ stated_length b = omega (arith, n-is) in
      let value-is : read ≡ a.value = read-is ∙ ap (λ (k : ℕ). take k (drop 4 b)) count ∙ sym (ap (λ (x : Attribute). x.value) (first_attribute_some b a some).1) in
      rw some value-is
]

pub read_there : (wanted : ℕ → Bool) (d : List ℕ) (x : Shown) → last_shown wanted d ≡ Some x → IsSomeAnd (first_attribute (drop x.offset d)) (λ a. (a.type ≡ x.type) × (a.value ≡ x.value))
read_there wanted d x last =
    let kept = (there wanted d x.offset (ap (option_map (λ (y : Shown). y.offset)) last)).2 in
    let is : Some (shown_as x.offset kept.attribute.type kept.attribute.value) ≡ Some x = sym kept.last_is ∙ last in
    rw kept.first_is (same_type _ x is, same_value _ x is)
  where
    same_type : (p q : Shown) → Some p ≡ Some q → p.type ≡ q.type
    same_type p q h = cc

    same_value : (p q : Shown) → Some p ≡ Some q → p.value ≡ q.value
    same_value p q h = cc

-- ---- The last of both integrity attributes

last_of : (ℕ → Bool) → ℕ → List Attribute → Option Shown
last_of wanted offset xs = find (at_type wanted) (reverse (placed offset xs))

or_assoc : {A : Type 0} (a b c : Option A) → option_or (option_or a b) c ≡ option_or a (option_or b c)
or_assoc None b c = refl
or_assoc (Some x) b c = refl

or_none : {A : Type 0} (a : Option A) → option_or a None ≡ a
or_none None = refl
or_none (Some x) = refl

or_late : {A : Type 0} (a b : Option A) (x : A) → b ≡ None → option_or (option_or a b) (Some x) ≡ option_or (option_or a (Some x)) (option_or b None)
or_late None b x e = rw e refl
or_late (Some y) b x e = refl

last_cons : (wanted : ℕ → Bool) (offset : ℕ) (x : Attribute) (xs : List Attribute) → last_of wanted offset (x ∷ xs) ≡ option_or (last_of wanted (offset + length (encoding x)) xs) (cond (wanted x.type) (Some (shown_as offset x.type x.value)) None)
unfolding placed last_of
last_cons wanted offset x xs = find-reverse-cons (at_type wanted) (shown_as offset x.type x.value) (placed (offset + length (encoding x)) xs)

order_behind : (k : ℕ) (ks : List ℕ) → in_order (k ∷ ks) ≡ true → in_order ks ≡ true
order_behind k [] e = in_order-nil
order_behind k (l ∷ ks) e = (order_pair k l ks e).2

-- no MESSAGE-INTEGRITY follows a MESSAGE-INTEGRITY-SHA256
none_behind : (ks : List ℕ) → in_order (0x001C ∷ ks) ≡ true → list_any (is_checked_type (Some Sha1)) ks ≡ false
none_behind ks e =
    let c = maybe FINGERPRINT ks in
    let end = empty (without FINGERPRINT ks) (sym (in_order-sha256 ks) ∙ e) in
    ap (list_any (is_checked_type (Some Sha1))) (c.1 ∙ ap (λ (x : List ℕ). optional c.0 FINGERPRINT ++ x) end) ∙ neither c.0
  where
    neither : (q : Bool) → list_any (is_checked_type (Some Sha1)) (optional q FINGERPRINT ++ []) ≡ false
    neither true = refl
    neither false = refl

abbrev Either : ℕ → List Attribute → Type 0
Either offset xs = last_of (is_checked_type None) offset xs ≡ option_or (last_of (is_checked_type (Some Sha256)) offset xs) (last_of (is_checked_type (Some Sha1)) offset xs)

join_last : (A B here : Option Shown) (s t : Option Shown) → option_or (option_or A B) here ≡ option_or (option_or A s) (option_or B t) → (l m n : Option Shown)
    → l ≡ option_or (option_or A B) here → m ≡ option_or A s → n ≡ option_or B t → l ≡ option_or m n
join_last A B here s t e l m n p q r = p ∙ e ∙ sym (ap (λ (o : Option Shown). option_or o n) q ∙ ap (option_or (option_or A s)) r)

either_at : (offset k : ℕ) (value : List ℕ) (A B : Option Shown) → (k ≡ 0x001C → B ≡ None)
    → (let at = (λ (w : ℕ → Bool). cond (w k) (Some (shown_as offset k value)) None) in option_or (option_or A B) (at (is_checked_type None)) ≡ option_or (option_or A (at (is_checked_type (Some Sha256)))) (option_or B (at (is_checked_type (Some Sha1)))))
either_at offset k value A B late = elim (which k) [
  | integrity is ↦ rw is (or_assoc A B (Some (shown_as offset 0x0008 value)) ∙ ap (λ (l : Option Shown). option_or l (option_or B (Some (shown_as offset 0x0008 value)))) (sym (or_none A)))
  | sha256 is ↦ rw is (or_late A B (shown_as offset 0x001C value) (late is))
  | fingerprint is ↦ rw is neither
  | ordinary a b c ↦ rw (ne_eqb k 0x0008 a, ne_eqb k 0x001C b) neither
]
  where
    neither : option_or (option_or A B) None ≡ option_or (option_or A None) (option_or B None)
    neither = or_none (option_or A B) ∙ sym (ap (option_or (option_or A None)) (or_none B) ∙ ap (λ (l : Option Shown). option_or l B) (or_none A))

last_either : (offset : ℕ) (xs : List Attribute) → in_order (types xs) ≡ true → Either offset xs
unfolding placed last_of
last_either offset [] e = refl
last_either offset (x ∷ xs) e =
    let o : ℕ = offset + length (encoding x) in
    let A = last_of (is_checked_type (Some Sha256)) o xs in
    let B = last_of (is_checked_type (Some Sha1)) o xs in
    let y : Shown = shown_as offset x.type x.value in
    let at : (w : ℕ → Bool) → Option Shown = λ w. cond (w x.type) (Some y) None in
    let behind = last_either o xs (order_behind x.type (types xs) e) in
    let whole : last_of (is_checked_type None) offset (x ∷ xs) ≡ option_or (option_or A B) (at (is_checked_type None)) = last_cons (is_checked_type None) offset x xs ∙ ap (λ (l : Option Shown). option_or l (at (is_checked_type None))) behind in
    let by : option_or (option_or A B) (at (is_checked_type None)) ≡ option_or (option_or A (at (is_checked_type (Some Sha256)))) (option_or B (at (is_checked_type (Some Sha1)))) → Either offset (x ∷ xs) =
    λ h. join_last A B (at (is_checked_type None)) (at (is_checked_type (Some Sha256))) (at (is_checked_type (Some Sha1))) h _ _ _ whole (last_cons (is_checked_type (Some Sha256)) offset x xs) (last_cons (is_checked_type (Some Sha1)) offset x xs) in
    by (either_at offset x.type x.value A B (λ is. none_last (is_checked_type (Some Sha1)) o xs (none_behind (types xs) (ap (λ (k : ℕ). in_order (k ∷ types xs)) (sym is) ∙ e))))

-- MESSAGE-INTEGRITY-SHA256 if it is shown, else MESSAGE-INTEGRITY
pub last_is_either : (d : List ℕ) → last_shown (is_checked_type None) d ≡ option_or (last_shown (is_checked_type (Some Sha256)) d) (last_shown (is_checked_type (Some Sha1)) d)
unfolding last_of
last_is_either d = elim (none_or_some (frame_fault d)) [
  | inl frame ↦
      let prefix = longest_exists (λ q. in_order (types q)) (chain (drop 20 d)) in_order-nil in
      rw (shown_is d frame) (last_either 20 (shown_prefix (chain (drop 20 d))) prefix.fits)
  | inr (reported, refused) ↦ rw (nothing d reported refused) refl
]

pub either_shown : (d : List ℕ) (x : Shown) → last_shown (is_checked_type (Some Sha256)) d ≡ Some x → last_shown (is_checked_type None) d ≡ Some x
either_shown d x e = last_is_either d ∙ ap (λ (o : Option Shown). option_or o (last_shown (is_checked_type (Some Sha1)) d)) e

pub other_shown : (d : List ℕ) → last_shown (is_checked_type (Some Sha256)) d ≡ None → last_shown (is_checked_type None) d ≡ last_shown (is_checked_type (Some Sha1)) d
other_shown d e = last_is_either d ∙ ap (λ (o : Option Shown). option_or o (last_shown (is_checked_type (Some Sha1)) d)) e

-- ---- No more than one of each

-- no ending type follows itself
once : (k : ℕ) (ks : List ℕ) → is_ending k ≡ true → in_order (k ∷ ks) ≡ true → has k ks ≡ false
unfolding in_any_order endings distinct
once k ks ends e =
    let any : in_any_order (k ∷ ks) ≡ true = in_any_order-from (k ∷ ks) e in
    let parts : (list_all is_ending (k ∷ ks) && (not (has k ks) && distinct ks)) ≡ true = rw ends at any in
    not-true _ (and_parts _ _ (and_parts _ _ parts).1).0

first_is_last : (algorithm : IntegrityAlgorithm) (offset : ℕ) (xs : List Attribute) → in_order (types xs) ≡ true
    → slice_get (filter (λ (a : Shown). eqb a.type (type_of_algorithm algorithm)) (placed offset xs)) 0 ≡ last_of (is_checked_type (Some algorithm)) offset xs
unfolding placed last_of
first_is_last algorithm offset [] e = refl
first_is_last algorithm offset (x ∷ xs) e =
    let o : ℕ = offset + length (encoding x) in
    let k = type_of_algorithm algorithm in
    let y : Shown = shown_as offset x.type x.value in
    let rest-is = filter (λ (a : Shown). eqb a.type k) (placed o xs) in
    let behind = first_is_last algorithm o xs (order_behind x.type (types xs) e) in
    elim (cases_Bool (eqb x.type k)) [
      | inl same ↦
          let is : x.type ≡ k = eqb-true x.type k same in
          let none : last_of (is_checked_type (Some algorithm)) o xs ≡ None = none_last (is_checked_type (Some algorithm)) o xs (once k (types xs) (ends algorithm) (ap (λ (t : ℕ). in_order (t ∷ types xs)) (sym is) ∙ e)) in
          ap (λ (ys : List Shown). slice_get ys 0) (cond-true (eqb x.type k) (y ∷ rest-is) rest-is same)
          ∙ sym (last_cons (is_checked_type (Some algorithm)) offset x xs
          ∙ ap (λ (o : Option Shown). option_or o (cond (eqb x.type k) (Some y) None)) none
          ∙ cond-true (eqb x.type k) (Some y) None same)
      | inr differs ↦
          ap (λ (ys : List Shown). slice_get ys 0) (cond-false (eqb x.type k) (y ∷ rest-is) rest-is differs)
          ∙ behind
          ∙ sym (last_cons (is_checked_type (Some algorithm)) offset x xs
          ∙ ap (option_or (last_of (is_checked_type (Some algorithm)) o xs)) (cond-false (eqb x.type k) (Some y) None differs)
          ∙ or_none (last_of (is_checked_type (Some algorithm)) o xs))
    ]
  where
    ends : (a : IntegrityAlgorithm) → is_ending (type_of_algorithm a) ≡ true
    ends Sha1 = refl
    ends Sha256 = refl

pub first_of_algorithm : (algorithm : IntegrityAlgorithm) (d : List ℕ) → nth d (type_of_algorithm algorithm) 0 ≡ last_shown (is_checked_type (Some algorithm)) d
unfolding last_of
first_of_algorithm algorithm d = elim (none_or_some (frame_fault d)) [
  | inl frame ↦
      let prefix = longest_exists (λ q. in_order (types q)) (chain (drop 20 d)) in_order-nil in
      rw (shown_is d frame) (first_is_last algorithm 20 (shown_prefix (chain (drop 20 d))) prefix.fits)
  | inr (reported, refused) ↦ rw (nothing d reported refused) refl
]

-- so the one that was kept is what a look-up of its type finds
pub found_kept : (algorithm : IntegrityAlgorithm) (d : List ℕ) (type n : ℕ) (item : Option (ℕ × RawAttribute)) → type ≡ type_of_algorithm algorithm → n ≡ 0 → IsFound (last_shown (is_checked_type (Some algorithm)) d) item → IsFound (nth d type n) item
found_kept algorithm d type n item type-is n-is found = rw (type-is, n-is, first_of_algorithm algorithm d) found
