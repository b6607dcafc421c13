-- What holds of a message that validates, if both types are wanted, and if one is.
use Rattle.std.proofs.Common.{◌≡◌, ℕ, ◌+◌, ◌-◌, ◌%◌, ◌≤◌, Bool, true, false, eqb, ◌||◌, List, [], ◌∷◌, ◌++◌, length, take, drop, replicate, Option, Some, None, Ok, refl, sym, ap, subst, ◌∙◌, arith}
use Rattle.std.specs.Prelude.{slice_range}
use Rattle.std.specs.List.{AllByRecursion, list_any}
use Rattle.std.proofs.lemmas.Bool.{or_parts, eqb-true}
use Rattle.std.proofs.lemmas.List.{length-replicate, nil_from_length}
use Rattle.stun_grammar.specs.declared.integrity_algorithm.IntegrityAlgorithm.{IntegrityAlgorithm}
use Rattle.stun_grammar.specs.declared.integrity_algorithm.IntegrityAlgorithm.TheVariants.{Sha1, Sha256}
use Rattle.stun_grammar.specs.Numbers.{padded_length, IsBytes}
use Rattle.stun_grammar.specs.Attributes.{Attribute, IsAttribute, canonical, encoding, encodings, types}
use Rattle.stun_grammar.specs.Chains.{Shown, placed}
use Rattle.stun_grammar.specs.ShownOrder.{in_order, optional, without}
use Rattle.stun_grammar.specs.AttributeTypes.{MESSAGE_INTEGRITY_SHA256, FINGERPRINT}
use Rattle.stun_grammar.specs.Verdicts.{type_of_algorithm, algorithm_of, last_shown, hmac_fault, covered_bytes, verdict, is_checked_type, Validates}
use Rattle.stun_grammar.specs.Authentic.{stated_hmac_length, checked, through_last}
use Rattle.stun_grammar.specs.Hmac.{hmac}
use Rattle.stun_grammar.proofs.ShownOrderLemmas.{in_order-integrity, in_order-sha256}
use Rattle.stun_grammar.proofs.ShownOrderCutLemmas.{maybe, empty}
use Rattle.stun_grammar.proofs.ShowingLemmas.{shown_as, AllByRecursion-behind}
use Rattle.stun_grammar.proofs.VerdictsLemmas.{both, type_of_both, lawful, Accepts, accepted, Stands, stands, covered-parts, covered-back, stated-is}

-- ---- The types that are wanted

left_or : (p q : Bool) → p ≡ true → (p || q) ≡ true
left_or true q e = refl
left_or false q e = absurd cc

right_or : (p q : Bool) → q ≡ true → (p || q) ≡ true
right_or true q e = refl
right_or false q e = e

pub wanted_both : (m : Option IntegrityAlgorithm) (k : ℕ) → is_checked_type m k ≡ true → both k ≡ true
wanted_both None k e = e
wanted_both (Some Sha1) k e = left_or (eqb k 0x0008) (eqb k 0x001C) e
wanted_both (Some Sha256) k e = right_or (eqb k 0x0008) (eqb k 0x001C) e

-- with a key that was made for an algorithm the verdict is of that one only
pub wanted_algorithm : (a : IntegrityAlgorithm) (k : ℕ) → is_checked_type (Some a) k ≡ true → algorithm_of k ≡ a
wanted_algorithm Sha1 k e = ap algorithm_of (eqb-true k 0x0008 e)
wanted_algorithm Sha256 k e = ap algorithm_of (eqb-true k 0x001C e)

pub wanted_own : (a : IntegrityAlgorithm) → is_checked_type (Some a) (type_of_algorithm a) ≡ true
wanted_own Sha1 = refl
wanted_own Sha256 = refl

-- no ending type occurs twice in order
pub none_same : (a : IntegrityAlgorithm) (ks : List ℕ) → in_order (type_of_algorithm a ∷ ks) ≡ true → list_any (is_checked_type (Some a)) ks ≡ false
none_same Sha1 ks e =
    let b = maybe MESSAGE_INTEGRITY_SHA256 ks in
    let c = maybe FINGERPRINT (without MESSAGE_INTEGRITY_SHA256 ks) in
    let end = empty (without FINGERPRINT (without MESSAGE_INTEGRITY_SHA256 ks)) (sym (in_order-integrity ks) ∙ e) in
    ap (list_any (is_checked_type (Some Sha1))) (b.1 ∙ ap (λ (x : List ℕ). optional b.0 MESSAGE_INTEGRITY_SHA256 ++ x) (c.1 ∙ ap (λ (x : List ℕ). optional c.0 FINGERPRINT ++ x) end)) ∙ neither b.0 c.0
  where
    neither : (p q : Bool) → list_any (is_checked_type (Some Sha1)) (optional p MESSAGE_INTEGRITY_SHA256 ++ (optional q FINGERPRINT ++ [])) ≡ false
    neither true true = refl
    neither true false = refl
    neither false true = refl
    neither false false = refl
none_same Sha256 ks e =
    let c = maybe FINGERPRINT ks in
    let end = empty (without FINGERPRINT ks) (sym (in_order-sha256 ks) ∙ e) in
    ap (list_any (is_checked_type (Some Sha256))) (c.1 ∙ ap (λ (x : List ℕ). optional c.0 FINGERPRINT ++ x) end) ∙ neither c.0
  where
    neither : (q : Bool) → list_any (is_checked_type (Some Sha256)) (optional q FINGERPRINT ++ []) ≡ false
    neither true = refl
    neither false = refl

-- an attribute whose value's length is a multiple of 4 is as it is written: it has no padding
pub no_padding : (a : Attribute) → IsAttribute a → length a.value % 4 ≡ 0 → a ≡ canonical a.type a.value
no_padding a ok fours =
    let none : a.padding ≡ replicate (padded_length (length a.value) - length a.value) 0 =
    nil_from_length a.padding (omega (arith, ok.padding)) ∙ sym (nil_from_length (replicate (padded_length (length a.value) - length a.value) 0) (omega (arith, length-replicate {A = ℕ} (padded_length (length a.value) - length a.value) 0))) in
    ap (λ (p : List ℕ). record-of a.type a.value p) none
  where
    record-of : ℕ → List ℕ → List ℕ → Attribute
    record-of k v p = record { type = k; value = v; padding = p }

-- ---- The covered bytes, and the checked attribute among those shown

pub record Checks (m : Option IntegrityAlgorithm) (key : IntegrityAlgorithm → List ℕ) (d c : List ℕ) (a : IntegrityAlgorithm) : Type 0 where
  pub x : Shown
  pub last_is : last_shown (is_checked_type m) d ≡ Some x
  pub covers : covered_bytes d x.offset (length x.value) ≡ c
  pub there : Stands (is_checked_type m) d x
  pub answered : a ≡ algorithm_of x.type
  pub long : length c ≡ x.offset
  pub prefix_is : drop 20 c ≡ encodings there.splits.before
  pub stated : stated_hmac_length c ≡ length there.splits.attribute.value
  pub lawful : hmac_fault a (stated_hmac_length c) ≡ None
  pub type_is : type_of_algorithm a ≡ there.splits.attribute.type
  pub value_is : take (stated_hmac_length c) (hmac a (key a) c) ≡ there.splits.attribute.value
  pub head_is : slice_range c 0 2 ≡ slice_range d 0 2
  pub id_is : slice_range c 8 20 ≡ slice_range d 8 20
  pub back_is : drop 4 c ≡ take (x.offset - 4) (drop 4 d)
  pub is_attribute : IsAttribute there.splits.attribute
  pub written : there.splits.attribute ≡ checked c (key a) a

checks_covered : (m : Option IntegrityAlgorithm) (key : IntegrityAlgorithm → List ℕ) (d : List ℕ) (a : IntegrityAlgorithm) (bytes : IsBytes d) (acc : Accepts (is_checked_type m) key d a)
    → Checks m key d (covered_bytes d acc.x.offset (length acc.x.value)) a
checks_covered m key d a bytes acc =
    let x = acc.x in
    let there = stands (is_checked_type m) d x bytes acc.last_is in
    let split = there.splits in
    let n : ℕ = length x.value in
    let c = covered_bytes d x.offset n in
    let of_length = lawful a n acc.length_is in
    let within : x.offset ≤ length d = omega (arith, there.within) in
    let parts = covered-parts d x.offset n there.header within in
    let stated : stated_hmac_length c ≡ n = stated-is d x.offset n there.header within of_length.0 of_length.1 in
    let type-is : x.type ≡ split.attribute.type = ap (λ (y : Shown). y.type) split.is in
    let value-is : x.value ≡ split.attribute.value = ap (λ (y : Shown). y.value) split.is in
    let of_type = type_of_both split.attribute.type (wanted_both m split.attribute.type split.passes) in
    let type : type_of_algorithm a ≡ split.attribute.type = ap type_of_algorithm acc.algorithm_is ∙ ap (λ (k : ℕ). type_of_algorithm (algorithm_of k)) type-is ∙ of_type.1 in
    let value : take (stated_hmac_length c) (hmac a (key a) c) ≡ split.attribute.value = ap (λ (k : ℕ). take k (hmac a (key a) c)) stated ∙ sym acc.value_is ∙ value-is in
    let each = subst (AllByRecursion IsAttribute) split.whole there.shows.each in
    let is : IsAttribute split.attribute = (AllByRecursion-behind IsAttribute split.before (split.attribute ∷ split.behind) each).0 in
    record {
      x = x;
      last_is = acc.last_is;
      covers = refl;
      there = there;
      answered = acc.algorithm_is;
      long = parts.0;
      prefix_is = parts.1 ∙ there.prefix_is;
      stated = stated ∙ ap length value-is;
      lawful = ap (hmac_fault a) stated ∙ acc.length_is;
      type_is = type;
      value_is = value;
      head_is = parts.2;
      id_is = parts.3;
      back_is = covered-back d x.offset n there.header within;
      is_attribute = is;
      written = no_padding split.attribute is (omega (arith, of_length.0, ap length value-is))
          ∙ ap (λ (k : ℕ). canonical k split.attribute.value) (sym type) ∙ ap (λ (v : List ℕ). canonical (type_of_algorithm a) v) (sym value);
    }

pub checks : (m : Option IntegrityAlgorithm) (key : IntegrityAlgorithm → List ℕ) (d c : List ℕ) (a : IntegrityAlgorithm) → IsBytes d → Validates m key d c a → Checks m key d c a
checks m key d c a bytes v =
    let acc = accepted (is_checked_type m) key d a v.answers in
    let same : covered_bytes d acc.x.offset (length acc.x.value) ≡ c = some_is _ _ (sym (rw acc.last_is refl) ∙ v.covers) in
    subst (λ (t : List ℕ). Checks m key d t a) same (checks_covered m key d a bytes acc)
  where
    some_is : (p q : List ℕ) → Some p ≡ Some q → p ≡ q
    some_is p q e = cc

-- ---- The prefix that ends with the checked attribute

abbrev wanted_of : (ℕ → Bool) → Shown → Bool
wanted_of wanted s = wanted s.type

through_none : (wanted : ℕ → Bool) (offset : ℕ) (xs : List Attribute) → list_any wanted (types xs) ≡ false → list_any (wanted_of wanted) (placed offset xs) ≡ false
unfolding placed
through_none wanted offset [] e = refl
through_none wanted offset (x ∷ xs) e =
    let p = or_parts (wanted x.type) (list_any wanted (types xs)) e in
    rw (p.0) (through_none wanted (offset + length (encoding x)) xs p.1)

through_empty : (wanted : ℕ → Bool) (xs : List Shown) → list_any (wanted_of wanted) xs ≡ false → through_last wanted xs ≡ []
unfolding through_last
through_empty wanted [] e = refl
through_empty wanted (x ∷ xs) e = rw e refl

through_cons : (wanted : ℕ → Bool) (x : Shown) (xs : List Shown) → list_any (wanted_of wanted) (x ∷ xs) ≡ true → through_last wanted (x ∷ xs) ≡ x ∷ through_last wanted xs
unfolding through_last
through_cons wanted x xs e = rw e refl

there_is : (wanted : ℕ → Bool) (offset : ℕ) (before : List Attribute) (a : Attribute) (behind : List Attribute) → wanted a.type ≡ true → list_any (wanted_of wanted) (placed offset (before ++ a ∷ behind)) ≡ true
unfolding placed
there_is wanted offset [] a behind e = rw e refl
there_is wanted offset (x ∷ before) a behind e = right_or (wanted x.type) _ (there_is wanted (offset + length (encoding x)) before a behind e)

pub through_at : (wanted : ℕ → Bool) (offset : ℕ) (before : List Attribute) (a : Attribute) (behind : List Attribute) → wanted a.type ≡ true → list_any wanted (types behind) ≡ false
    → through_last wanted (placed offset (before ++ a ∷ behind)) ≡ placed offset (before ++ a ∷ [])
unfolding placed
through_at wanted offset [] a behind passed none =
    through_cons wanted (shown_as offset a.type a.value) (placed (offset + length (encoding a)) behind) (there_is wanted offset [] a behind passed)
    ∙ ap (λ (ys : List Shown). shown_as offset a.type a.value ∷ ys) (through_empty wanted (placed (offset + length (encoding a)) behind) (through_none wanted (offset + length (encoding a)) behind none))
through_at wanted offset (x ∷ before) a behind passed none =
    through_cons wanted (shown_as offset x.type x.value) (placed (offset + length (encoding x)) (before ++ a ∷ behind)) (there_is wanted offset (x ∷ before) a behind passed)
    ∙ ap (λ (ys : List Shown). shown_as offset x.type x.value ∷ ys) (through_at wanted (offset + length (encoding x)) before a behind passed none)

-- a key that was made for an algorithm validates with that one
pub own_algorithm : (b : IntegrityAlgorithm) (key : IntegrityAlgorithm → List ℕ) (d c : List ℕ) (a : IntegrityAlgorithm) → IsBytes d → Validates (Some b) key d c a → a ≡ b
own_algorithm b key d c a bytes v =
    let k = checks (Some b) key d c a bytes v in
    k.answered ∙ ap (λ (y : Shown). algorithm_of y.type) k.there.splits.is ∙ wanted_algorithm b k.there.splits.attribute.type k.there.splits.passes

-- if the verdict is Ok, there are covered bytes
pub validates : (m : Option IntegrityAlgorithm) (key : IntegrityAlgorithm → List ℕ) (d : List ℕ) (a : IntegrityAlgorithm) → verdict (is_checked_type m) key d ≡ Ok a → (c : List ℕ) × Validates m key d c a
validates m key d a e =
    let acc = accepted (is_checked_type m) key d a e in
    (covered_bytes d acc.x.offset (length acc.x.value), record { answers = e; covers = rw acc.last_is refl })
