-- The verdict, and the offset of the attribute that it is on.
use Rattle.std.proofs.Common.{◌≡◌, ℕ, ◌+◌, ◌-◌, ◌%◌, ◌^◌, ◌≤◌, Bool, true, false, cond, eqb, ltb, not, ◌||◌, List, [], ◌∷◌, ◌++◌, length, take, drop, Option, Some, None, Ok, Err, refl, sym, ap, subst, ◌∙◌, append_assoc, arith, ◌⊎◌, inl, inr}
use Rattle.std.specs.Prelude.{find, filter, reverse, slice_range, nat_eq}
use Rattle.std.specs.List.{list_any, AllByRecursion}
use Rattle.std.specs.Option.{option_or}
use Rattle.std.specs.Cmp.Lexicographic.{pointwise}
use Rattle.std.proofs.lemmas.Bool.{ltb-false, eqb-true, eq-eqb, ne_eqb, or_parts, or_from, and_parts}
use Rattle.std.proofs.lemmas.List.{length-append, length-drop, length-take, drop-drop, drop_at, take_at, drop-take, take-take}
use Rattle.stun_grammar.specs.declared.error.StunParseError.{StunParseError}
use Rattle.stun_grammar.specs.declared.error.StunParseError.TheVariants.{Truncated, TooLarge, MissingAttribute, InvalidAttributeData}
use Rattle.stun_grammar.specs.declared.error.ValidateError.TheVariants.{Parse, IntegrityFailed}
use Rattle.std.proofs.lemmas.Slice.Eq.{slice_eq-Decides}
use Rattle.std.proofs.lemmas.Bool.Decides.{Decides-eqb}
use Rattle.stun_grammar.specs.declared.integrity_algorithm.IntegrityAlgorithm.{IntegrityAlgorithm}
use Rattle.stun_grammar.specs.declared.integrity_algorithm.IntegrityAlgorithm.TheVariants.{Sha1, Sha256}
use Rattle.stun_grammar.specs.declared.error.ValidateError.{ValidateError}
use Rattle.stun_grammar.specs.Numbers.{be16, number, padded_length, IsBytes}
use Rattle.stun_grammar.specs.Attributes.{Attribute, IsAttribute, encoding, encodings, types}
use Rattle.stun_grammar.specs.Chains.{Shown, chain, placed}
use Rattle.stun_grammar.specs.ShownOrder.{in_order, is_empty}
use Rattle.stun_grammar.specs.ScannedOrder.{has}
use Rattle.stun_grammar.specs.AttributeTypes.{FINGERPRINT}
use Rattle.stun_grammar.specs.Showing.{frame_fault, shown_prefix}
use Rattle.stun_grammar.specs.Fingerprints.{message_before}
use Rattle.stun_grammar.specs.Verdicts.{type_of_algorithm, algorithm_of, is_checked_type, last_shown, hmac_fault, covered_bytes, verdict_on, verdict, verdict_by, GivesHmac}
use Rattle.stun_grammar.specs.Lengths.{range_fault}
use Rattle.stun_grammar.specs.Authentic.{stated_hmac_length}
use Rattle.stun_grammar.specs.Hmac.{digest_length, hmac}
use Rattle.stun_grammar.proofs.NumbersLemmas.{number-be16}
use Rattle.stun_grammar.proofs.AttributesLemmas.{length-encoding}
use Rattle.stun_grammar.proofs.ChainsLemmas.{none_or_some}
use Rattle.stun_grammar.proofs.ShownOrderLemmas.{which, integrity, sha256, fingerprint, ordinary, in_order-cons, in_order-fingerprint, pair-integrity, pair-sha256, pair-fingerprint}
use Rattle.stun_grammar.proofs.ShowingLemmas.{Splits, split_last, Shows, shows, nothing, at_type, AllByRecursion-prefix}
use Rattle.std.proofs.lemmas.List.Concat.{flat_map-append}

-- ---- The order of the types

pub order_pair : (b k : ℕ) (ks : List ℕ) → in_order (b ∷ (k ∷ ks)) ≡ true → (eqb b FINGERPRINT ≡ false) × (in_order (b ∷ (k ∷ [])) ≡ true) × (in_order (k ∷ ks) ≡ true)
order_pair b k ks e =
    let parts = and_parts (in_order (b ∷ (k ∷ []))) (in_order (k ∷ ks)) (sym (in_order-cons b k ks) ∙ e) in
    (ne_eqb b FINGERPRINT (λ is. absurd (cc (parts.0, is, pair-fingerprint k))), parts.0, parts.1)

-- no FINGERPRINT comes before another type
pub order_split : (bs : List ℕ) (k : ℕ) (cs : List ℕ) → in_order (bs ++ k ∷ cs) ≡ true → (has FINGERPRINT bs ≡ false) × (in_order (k ∷ cs) ≡ true)
order_split [] k cs e = (refl, e)
order_split (b ∷ []) k cs e =
    let parts = order_pair b k cs e in
    (ap (λ (t : Bool). t || false) parts.0, parts.2)
order_split (b ∷ (b' ∷ bs)) k cs e =
    let parts = order_pair b b' (bs ++ k ∷ cs) e in
    let behind = order_split (b' ∷ bs) k cs parts.2 in
    (ap (λ (t : Bool). t || has FINGERPRINT (b' ∷ bs)) parts.0 ∙ behind.0, behind.1)

abbrev pub both : ℕ → Bool
both = is_checked_type None

both-integrity : both 0x0008 ≡ true
both-integrity = refl

both-sha256 : both 0x001C ≡ true
both-sha256 = refl

both-fingerprint : both 0x8028 ≡ false
both-fingerprint = refl

pub both-ordinary : (k : ℕ) → (k ≡ 0x0008 → ⊥) → (k ≡ 0x001C → ⊥) → both k ≡ false
both-ordinary k x y = or_from _ _ (ne_eqb k 0x0008 x) (ne_eqb k 0x001C y)

pub none_ordinary : (k c : ℕ) → both k ≡ true → in_order (k ∷ (c ∷ [])) ≡ true → (c ≡ 0x001C → ⊥) → (c ≡ 0x8028 → ⊥) → ⊥
none_ordinary k c w e y z = elim (which k) [
  | integrity is ↦
      let reported : in_order (k ∷ (c ∷ [])) ≡ false = ap (λ (x : ℕ). in_order (x ∷ (c ∷ []))) is ∙ pair-integrity c ∙ or_from _ _ (ne_eqb c 0x8028 z) (ne_eqb c 0x001C y) in absurd (cc (e, reported))
  | sha256 is ↦
      let reported : in_order (k ∷ (c ∷ [])) ≡ false = ap (λ (x : ℕ). in_order (x ∷ (c ∷ []))) is ∙ pair-sha256 c ∙ ne_eqb c 0x8028 z in absurd (cc (e, reported))
  | fingerprint is ↦ let reported : both k ≡ false = ap both is ∙ both-fingerprint in absurd (cc (w, reported))
  | ordinary a b d ↦ let reported : both k ≡ false = both-ordinary k a b in absurd (cc (w, reported))
]

is_empty-true : (xs : List ℕ) → is_empty xs ≡ true → xs ≡ []
is_empty-true [] e = refl
is_empty-true (x ∷ xs) e = absurd cc

-- after the last integrity attribute there is a FINGERPRINT, or nothing
pub behind_last : (k : ℕ) (cs : List ℕ) → both k ≡ true → in_order (k ∷ cs) ≡ true → list_any both cs ≡ false → (cs ≡ []) ⊎ (cs ≡ FINGERPRINT ∷ [])
behind_last k [] w e none = inl refl
behind_last k (c ∷ cs) w e none =
    let pair = order_pair k c cs e in
    let head : both c ≡ false = (or_parts (both c) (list_any both cs) none).0 in
    elim (which c) [
      | integrity is ↦ let reported : both c ≡ true = ap both is ∙ both-integrity in absurd (cc (head, reported))
      | sha256 is ↦ let reported : both c ≡ true = ap both is ∙ both-sha256 in absurd (cc (head, reported))
      | fingerprint is ↦
          let end : is_empty cs ≡ true = sym (in_order-fingerprint cs) ∙ ap (λ (x : ℕ). in_order (x ∷ cs)) (sym is) ∙ pair.2 in
          inr (ap (λ (x : ℕ). x ∷ cs) is ∙ ap (λ (xs : List ℕ). FINGERPRINT ∷ xs) (is_empty-true cs end))
      | ordinary x y z ↦ absurd (none_ordinary k c w pair.1 y z)
    ]

-- ---- Without a FINGERPRINT

abbrev pub no_fingerprint : Shown → Bool
no_fingerprint a = not (eqb a.type FINGERPRINT)

pub kept : (offset : ℕ) (xs : List Attribute) → has FINGERPRINT (types xs) ≡ false → filter no_fingerprint (placed offset xs) ≡ placed offset xs
unfolding placed
kept offset [] e = refl
kept offset (x ∷ xs) e =
    let parts = or_parts (eqb x.type FINGERPRINT) (has FINGERPRINT (types xs)) e in
    rw (parts.0, kept (offset + length (encoding x)) xs parts.1) refl

pub left_out : (offset : ℕ) (xs : List Attribute) → (types xs ≡ []) ⊎ (types xs ≡ FINGERPRINT ∷ []) → filter no_fingerprint (placed offset xs) ≡ []
unfolding placed
left_out offset [] h = refl
left_out offset (x ∷ []) h = elim h [
  | inl e ↦ absurd (cc e)
  | inr e ↦ let is : x.type ≡ FINGERPRINT = cc e in rw (eq-eqb x.type FINGERPRINT is) refl
]
left_out offset (x ∷ (y ∷ xs)) h = elim h [
  | inl e ↦ absurd (cc e)
  | inr e ↦ absurd (cc e)
]

pub type_of_both : (k : ℕ) → both k ≡ true → (eqb k FINGERPRINT ≡ false) × (type_of_algorithm (algorithm_of k) ≡ k)
type_of_both k w = elim (which k) [
  | integrity is ↦ (ne_eqb k FINGERPRINT (λ e. absurd (cc (is, e))), rw is refl)
  | sha256 is ↦ (ne_eqb k FINGERPRINT (λ e. absurd (cc (is, e))), rw is refl)
  | fingerprint is ↦ let reported : both k ≡ false = ap both is ∙ both-fingerprint in absurd (cc (w, reported))
  | ordinary a b d ↦ let reported : both k ≡ false = both-ordinary k a b in absurd (cc (w, reported))
]

-- ---- The covered bytes

pub covered-parts : (d : List ℕ) (offset n : ℕ) → 20 ≤ offset → offset ≤ length d
    → (length (covered_bytes d offset n) ≡ offset)
    × (drop 20 (covered_bytes d offset n) ≡ take (offset - 20) (drop 20 d))
    × (slice_range (covered_bytes d offset n) 0 2 ≡ slice_range d 0 2)
    × (slice_range (covered_bytes d offset n) 8 20 ≡ slice_range d 8 20)
    × (number (slice_range (covered_bytes d offset n) 2 4) ≡ (offset + (4 + padded_length n) - 20) % 2 ^ 16)
unfolding message_before
covered-parts d offset n header within =
    let f : ℕ = (offset + (4 + padded_length n) - 20) % 2 ^ 16 in
    let prefix = take 2 d in
    let back = take (offset - 4) (drop 4 d) in
    let prefix-length : length prefix ≡ 2 = omega (arith, length-take 2 d) in
    let back-length : length back ≡ offset - 4 = omega (arith, length-take (offset - 4) (drop 4 d), length-drop 4 d) in
    let c = prefix ++ (be16 f ++ back) in
    let behind : drop 2 c ≡ be16 f ++ back = drop_at prefix (be16 f ++ back) 2 prefix-length in
    let c4 : drop 4 c ≡ back = sym (drop-drop 2 2 c) ∙ ap (drop 2) behind in
    let c20 : drop 20 c ≡ drop 16 back = sym (drop-drop 16 4 c) ∙ ap (drop 16) c4 in
    let c8 : drop 8 c ≡ drop 4 back = sym (drop-drop 4 4 c) ∙ ap (drop 4) c4 in
    let k16 : offset - 4 ≡ 16 + (offset - 20) = omega arith in
    let k4 : offset - 4 ≡ 4 + (offset - 8) = omega arith in
    let d20 : drop 16 back ≡ take (offset - 20) (drop 20 d) = ap (λ (k : ℕ). drop 16 (take k (drop 4 d))) k16 ∙ drop-take 16 (offset - 20) (drop 4 d) ∙ ap (take (offset - 20)) (drop-drop 16 4 d) in
    let d8 : drop 4 back ≡ take (offset - 8) (drop 8 d) = ap (λ (k : ℕ). drop 4 (take k (drop 4 d))) k4 ∙ drop-take 4 (offset - 8) (drop 4 d) ∙ ap (take (offset - 8)) (drop-drop 4 4 d) in
    let id : take 12 (drop 8 c) ≡ take 12 (drop 8 d) = ap (take 12) (c8 ∙ d8) ∙ take-take 12 (offset - 8) (drop 8 d) (omega arith) in
    let total : length c ≡ offset = omega (arith, length-append prefix (be16 f ++ back), prefix-length, back-length) in
    let type : take 2 c ≡ take 2 d = take_at prefix (be16 f ++ back) 2 prefix-length in
    let stated : number (take 2 (drop 2 c)) ≡ f = ap (λ (x : List ℕ). number (take 2 x)) behind ∙ number-be16 f (omega arith) in
    (total, c20 ∙ d20, type, id, stated)

pub some_not : {A : Type 0} (b : Bool) (x : A) (o : Option A) → cond b (Some x) o ≡ None → (b ≡ false) × (o ≡ None)
some_not true x o e = absurd cc
some_not false x o e = (refl, e)

pub none_then : {A : Type 0} (b : Bool) (x : A) → cond b None (Some x) ≡ None → b ≡ true
none_then true x e = refl
none_then false x e = absurd cc

pub first_none : (a b : Option StunParseError) → option_or a b ≡ None → (a ≡ None) × (b ≡ None)
first_none None b e = (refl, e)
first_none (Some x) b e = absurd cc

in_range : (least greatest n : ℕ) → range_fault least greatest n ≡ None → (least ≤ n) × (n ≤ greatest)
in_range least greatest n e =
    let a = some_not (ltb n least) (Truncated least n) (cond (ltb greatest n) (Some (TooLarge greatest n)) None) e in
    let b = some_not (ltb greatest n) (TooLarge greatest n) None a.1 in
    (ltb-false _ _ a.0, ltb-false _ _ b.0)

-- what follows the length field in the covered bytes
pub covered-back : (d : List ℕ) (offset n : ℕ) → 20 ≤ offset → offset ≤ length d → drop 4 (covered_bytes d offset n) ≡ take (offset - 4) (drop 4 d)
unfolding message_before
covered-back d offset n header within =
    let f : ℕ = (offset + (4 + padded_length n) - 20) % 2 ^ 16 in
    let prefix = take 2 d in
    let back = take (offset - 4) (drop 4 d) in
    let c = prefix ++ (be16 f ++ back) in
    let prefix-length : length prefix ≡ 2 = omega (arith, length-take 2 d) in
    sym (drop-drop 2 2 c) ∙ ap (drop 2) (drop_at prefix (be16 f ++ back) 2 prefix-length)

-- an allowed length of an HMAC is a multiple of 4 and at most 32
pub lawful : (algorithm : IntegrityAlgorithm) (n : ℕ) → hmac_fault algorithm n ≡ None → (n % 4 ≡ 0) × (n ≤ 32) × (n ≤ digest_length algorithm)
unfolding hmac_fault
lawful Sha1 n e =
    let r = in_range 20 20 n e in
    (omega arith, omega arith, omega arith)
lawful Sha256 n e =
    let parts = first_none (range_fault 16 32 n) (cond (eqb (n % 4) 0) None (Some InvalidAttributeData)) e in
    let r = in_range 16 32 n parts.0 in
    let fours : n % 4 ≡ 0 = eqb-true _ _ (none_then (eqb (n % 4) 0) InvalidAttributeData parts.1) in
    (fours, omega arith, omega arith)

pub stated-is : (d : List ℕ) (offset n : ℕ) → 20 ≤ offset → offset ≤ length d → n % 4 ≡ 0 → n ≤ 32 → stated_hmac_length (covered_bytes d offset n) ≡ n
stated-is d offset n header within fours short =
    let parts = covered-parts d offset n header within in
    omega (arith, parts.0, parts.4)

-- ---- A message that validates

-- the attribute that was checked, whose value is right
pub record Accepts (wanted : ℕ → Bool) (key : IntegrityAlgorithm → List ℕ) (d : List ℕ) (algorithm : IntegrityAlgorithm) : Type 0 where
  pub x : Shown
  pub last_is : last_shown wanted d ≡ Some x
  pub algorithm_is : algorithm ≡ algorithm_of x.type
  pub length_is : hmac_fault algorithm (length x.value) ≡ None
  pub value_is : x.value ≡ take (length x.value) (hmac algorithm (key algorithm) (covered_bytes d x.offset (length x.value)))

ok_cond : (b : Bool) (x y : IntegrityAlgorithm) (e : ValidateError) → cond b (Ok x) (Err e) ≡ Ok y → (b ≡ true) × (x ≡ y)
ok_cond true x y e h = (refl, cc)
ok_cond false x y e h = absurd cc

accepted_on : (key : IntegrityAlgorithm → List ℕ) (d : List ℕ) (x : Shown) (algorithm : IntegrityAlgorithm) → verdict_on key d x ≡ Ok algorithm
    → (algorithm ≡ algorithm_of x.type) × (hmac_fault (algorithm_of x.type) (length x.value) ≡ None)
    × (x.value ≡ take (length x.value) (hmac (algorithm_of x.type) (key (algorithm_of x.type)) (covered_bytes d x.offset (length x.value))))
unfolding verdict_on
accepted_on key d x algorithm e =
    let a = algorithm_of x.type in
    let right = take (length x.value) (hmac a (key a) (covered_bytes d x.offset (length x.value))) in
    elim (none_or_some (hmac_fault a (length x.value))) [
      | inl none ↦
          let reported : cond (pointwise nat_eq x.value right) (Ok a) (Err IntegrityFailed) ≡ Ok algorithm = rw none at e in
          let both = ok_cond (pointwise nat_eq x.value right) a algorithm IntegrityFailed reported in
          (sym both.1, none, (slice_eq-Decides Decides-eqb x.value right (pointwise nat_eq x.value right) refl).0 both.0)
      | inr (fault, some) ↦
          let reported : Err (Parse fault) ≡ Ok algorithm = rw some at e in absurd cc
    ]

pub accepted : (wanted : ℕ → Bool) (key : IntegrityAlgorithm → List ℕ) (d : List ℕ) (algorithm : IntegrityAlgorithm) → verdict wanted key d ≡ Ok algorithm → Accepts wanted key d algorithm
unfolding verdict
accepted wanted key d algorithm e =
    elim (none_or_some (last_shown wanted d)) [
      | inl none ↦
          let reported : Err (Parse (MissingAttribute (record { 0 = 0x0008 }))) ≡ Ok algorithm = rw none at e in absurd cc
      | inr (x, some) ↦
          let reported : verdict_on key d x ≡ Ok algorithm = rw some at e in
          let on = accepted_on key d x algorithm reported in
          record {
            x = x;
            last_is = some;
            algorithm_is = on.0;
            length_is = rw (on.0) on.1;
            value_is = rw (on.0) on.2;
          }
    ]

-- ---- The offset of the checked attribute

pub record Stands (wanted : ℕ → Bool) (d : List ℕ) (x : Shown) : Type 0 where
  pub attributes : List Attribute
  pub shows : Shows d attributes
  pub splits : Splits wanted 20 attributes x
  pub header : 20 ≤ x.offset
  pub within : x.offset + 4 ≤ length d
  pub prefix_is : take (x.offset - 20) (drop 20 d) ≡ encodings splits.before
  pub each : AllByRecursion IsAttribute splits.before

pub stands : (wanted : ℕ → Bool) (d : List ℕ) (x : Shown) → IsBytes d → last_shown wanted d ≡ Some x → Stands wanted d x
stands wanted d x bytes last = elim (none_or_some (frame_fault d)) [
  | inl frame ↦ shown_stands frame
  | inr (reported, refused) ↦
      let empty : last_shown wanted d ≡ None = ap (λ (xs : List Shown). find (at_type wanted) (reverse xs)) (nothing d reported refused) in absurd (cc (last, empty))
]
  where
    shown_stands : frame_fault d ≡ None → Stands wanted d x
    shown_stands frame =
        let s = shows d bytes frame in
        let attributes = shown_prefix (chain (drop 20 d)) in
        let split = split_last wanted 20 attributes x (ap (λ (xs : List Shown). find (at_type wanted) (reverse xs)) (sym s.shown_is) ∙ last) in
        let offset : x.offset ≡ 20 + length (encodings split.before) = ap (λ (y : Shown). y.offset) split.is in
        let parts : drop 20 d ≡ encodings split.before ++ (encodings (split.attribute ∷ split.behind) ++ s.others) =
        s.whole ∙ ap (λ (ys : List Attribute). encodings ys ++ s.others) split.whole
        ∙ ap (λ (t : List ℕ). t ++ s.others) (flat_map-append encoding split.before (split.attribute ∷ split.behind))
        ∙ append_assoc (encodings split.before) (encodings (split.attribute ∷ split.behind)) s.others in
        let lengths : length d - 20 ≡ length (encodings split.before) + (length (encoding split.attribute) + length (encodings split.behind) + length s.others) =
        omega (
          arith,
          ap length parts,
          length-drop 20 d,
          length-append (encodings split.before) (encodings (split.attribute ∷ split.behind) ++ s.others),
          length-append (encodings (split.attribute ∷ split.behind)) s.others,
          length-append (encoding split.attribute) (encodings split.behind),
        ) in
        record {
          attributes = attributes;
          shows = s;
          splits = split;
          header = omega arith;
          within = omega (arith, offset, lengths, length-encoding split.attribute);
          prefix_is = ap (take (x.offset - 20)) parts ∙ take_at (encodings split.before) (encodings (split.attribute ∷ split.behind) ++ s.others) (x.offset - 20) (omega arith);
          each = AllByRecursion-prefix IsAttribute split.before (split.attribute ∷ split.behind) (subst (AllByRecursion IsAttribute) split.whole s.each);
        }

-- ---- The verdict, case by case

pub verdict_missing : (wanted : ℕ → Bool) (key : IntegrityAlgorithm → List ℕ) (d : List ℕ) → last_shown wanted d ≡ None → verdict wanted key d ≡ Err (Parse (MissingAttribute (record { 0 = 0x0008 })))
unfolding verdict
verdict_missing wanted key d none = rw none refl

-- the test of the value
abbrev pub value_test : (IntegrityAlgorithm → List ℕ) → List ℕ → Shown → Bool
value_test key d x = pointwise nat_eq x.value (take (length x.value) (hmac (algorithm_of x.type) (key (algorithm_of x.type)) (covered_bytes d x.offset (length x.value))))

pub verdict_ok : (wanted : ℕ → Bool) (key : IntegrityAlgorithm → List ℕ) (d : List ℕ) (x : Shown) → last_shown wanted d ≡ Some x → hmac_fault (algorithm_of x.type) (length x.value) ≡ None → value_test key d x ≡ true → verdict wanted key d ≡ Ok (algorithm_of x.type)
unfolding verdict verdict_on
verdict_ok wanted key d x last lawful test = rw (last, lawful, test) refl

-- ---- The verdict by HMACs that are given

pub verdict_keyed : (wanted : ℕ → Bool) (key : IntegrityAlgorithm → List ℕ) (d : List ℕ) → verdict wanted key d ≡ verdict_by wanted (λ a c. hmac a (key a) c) d
unfolding verdict verdict_on verdict_by
verdict_keyed wanted key d = refl

-- only the HMAC of the covered bytes matters
pub verdict_given : (wanted : ℕ → Bool) (key : IntegrityAlgorithm → List ℕ) (given : IntegrityAlgorithm → List ℕ → List ℕ) (d : List ℕ) → GivesHmac wanted key given d → verdict_by wanted given d ≡ verdict wanted key d
unfolding verdict verdict_on verdict_by
verdict_given wanted key given d gives = elim (none_or_some (last_shown wanted d)) [
  | inl none ↦ rw none refl
  | inr (x, some) ↦
      let a = algorithm_of x.type in
      let c = covered_bytes d x.offset (length x.value) in
      let is : given a c ≡ hmac a (key a) c = rw some at gives in rw (some, is) refl
]
