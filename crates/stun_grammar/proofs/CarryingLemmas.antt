-- Every message that validates carries its covered bytes.
use Rattle.std.proofs.Common.{◌≡◌, ℕ, ◌+◌, ◌-◌, ◌%◌, ◌^◌, ◌<◌, true, false, List, [], ◌∷◌, ◌++◌, length, take, drop, Option, Some, None, refl, sym, ap, subst, ◌∙◌, append_assoc, arith, inl, inr}
use Rattle.std.specs.Prelude.{slice_range, IfSome, ◌≢◌}
use Rattle.std.specs.List.{AllByRecursion, list_any}
use Rattle.std.proofs.lemmas.Bool.{or_parts, and_parts, and_from}
use Rattle.std.proofs.lemmas.List.{length-append, length-drop, length-take, drop_at, drop-drop, take-append-drop, map-append}
use Rattle.std.proofs.lemmas.List.Concat.{flat_map-append}
use Rattle.stun_grammar.specs.declared.integrity_algorithm.IntegrityAlgorithm.{IntegrityAlgorithm}
use Rattle.stun_grammar.specs.Numbers.{be16, padded_length, IsBytes}
use Rattle.stun_grammar.specs.Attributes.{Attribute, IsAttribute, encoding, encodings, types}
use Rattle.stun_grammar.specs.Chains.{Shown, first_attribute, chain, rest}
use Rattle.stun_grammar.specs.ShownOrder.{in_order}
use Rattle.stun_grammar.specs.AttributeTypes.{MESSAGE_INTEGRITY_SHA256}
use Rattle.stun_grammar.specs.Fingerprints.{message_before}
use Rattle.stun_grammar.specs.Verdicts.{type_of_algorithm, covered_bytes, Validates}
use Rattle.stun_grammar.specs.Authentic.{checked}
use Rattle.stun_grammar.specs.Carrying.{CarriesPrefix, Carries}
use Rattle.stun_grammar.proofs.NumbersLemmas.{IsBytes-drop, IsBytes-take}
use Rattle.stun_grammar.proofs.ChainsLemmas.{none_or_some, chain-append, chain-encodings, chain-some}
use Rattle.stun_grammar.proofs.ShownOrderLemmas.{in_order_closed, in_order-cons, pair-integrity}
use Rattle.stun_grammar.proofs.ShowingLemmas.{Splits, Shows, AllByRecursion-behind, AllByRecursion-append}
use Rattle.stun_grammar.proofs.VerdictsLemmas.{both}
use Rattle.stun_grammar.proofs.AuthenticLemmas.{Checks, checks}

IsBytes-be16 : (n : ℕ) → IsBytes (be16 n)
IsBytes-be16 n = (omega arith, (omega arith, tt))

covered-bytes : (d : List ℕ) (offset n : ℕ) → IsBytes d → IsBytes (covered_bytes d offset n)
unfolding message_before
covered-bytes d offset n bytes =
    AllByRecursion-append (λ byte. byte < 256) (take 2 d) _ (IsBytes-take 2 d bytes)
    (AllByRecursion-append (λ byte. byte < 256) (be16 ((offset + (4 + padded_length n) - 20) % 2 ^ 16)) _ (IsBytes-be16 _) (IsBytes-take (offset - 4) (drop 4 d) (IsBytes-drop 4 d bytes)))

-- two lists in order that overlap in one type are in order joined
join_order : (bs : List ℕ) (k : ℕ) (ks : List ℕ) → in_order (bs ++ k ∷ []) ≡ true → in_order (k ∷ ks) ≡ true → in_order (bs ++ k ∷ ks) ≡ true
join_order [] k ks p q = q
join_order (b ∷ []) k ks p q = in_order-cons b k ks ∙ and_from (in_order (b ∷ (k ∷ []))) (in_order (k ∷ ks)) p q
join_order (b ∷ (b' ∷ bs)) k ks p q =
    let parts = and_parts (in_order (b ∷ (b' ∷ []))) (in_order (b' ∷ (bs ++ k ∷ []))) (sym (in_order-cons b b' (bs ++ k ∷ [])) ∙ p) in
    in_order-cons b b' (bs ++ k ∷ ks) ∙ and_from (in_order (b ∷ (b' ∷ []))) (in_order (b' ∷ (bs ++ k ∷ ks))) parts.0 (join_order (b' ∷ bs) k ks parts.1 q)

first : (a b : Attribute) (xs ys : List Attribute) → a ∷ xs ≡ b ∷ ys → a ≡ b
first a b xs ys e = cc

-- no MESSAGE-INTEGRITY-SHA256 follows a MESSAGE-INTEGRITY that was checked
next_other : (d : List ℕ) (attributes : List Attribute) (x : Shown) (s : Shows d attributes) (split : Splits both 20 attributes x) → split.attribute.type ≡ 0x0008
    → IfSome (first_attribute (encodings split.behind ++ s.others)) (λ m. m.type ≢ MESSAGE_INTEGRITY_SHA256)
next_other d attributes x s split is = elim (none_or_some (first_attribute rest-bytes)) [
  | inl none ↦ rw none tt
  | inr (m, some) ↦ rw some (λ e. never m some e)
]
  where
    rest-bytes : List ℕ
    rest-bytes = encodings split.behind ++ s.others

    both-each : AllByRecursion IsAttribute (split.before ++ split.attribute ∷ split.behind)
    both-each = subst (AllByRecursion IsAttribute) split.whole s.each

    behind-each : AllByRecursion IsAttribute split.behind
    behind-each = (AllByRecursion-behind IsAttribute split.before (split.attribute ∷ split.behind) both-each).1

    chain-behind : chain rest-bytes ≡ split.behind ++ chain s.others
    chain-behind = (chain-append split.behind s.others behind-each).chain_is

    never : (m : Attribute) → first_attribute rest-bytes ≡ Some m → m.type ≡ MESSAGE_INTEGRITY_SHA256 → ⊥
    never m some e =
        let head : split.behind ++ chain s.others ≡ m ∷ chain (drop (length (encoding m)) rest-bytes) = sym chain-behind ∙ chain-some rest-bytes m some in
        by_behind split.behind refl head
      where
        type-both : both m.type ≡ true
        type-both = ap both e

        by_behind : (c : List Attribute) → split.behind ≡ c → split.behind ++ chain s.others ≡ m ∷ chain (drop (length (encoding m)) rest-bytes) → ⊥
        by_behind [] empty head =
            let order : in_order (types split.before ++ 0x0008 ∷ []) ≡ true =
            ap (λ (k : ℕ). in_order (types split.before ++ k ∷ [])) (sym is)
            ∙ ap (λ (c : List Attribute). in_order (types split.before ++ split.attribute.type ∷ types c)) (sym empty)
            ∙ ap in_order (sym (ap types split.whole ∙ map-append (λ a. a.type) split.before (split.attribute ∷ split.behind))) ∙ s.ordered in
            let longer : in_order (types (attributes ++ m ∷ [])) ≡ true =
            ap in_order (map-append (λ a. a.type) attributes (m ∷ [])
            ∙ ap (λ (ks : List ℕ). ks ++ m.type ∷ []) (ap types split.whole ∙ map-append (λ a. a.type) split.before (split.attribute ∷ split.behind))
            ∙ ap (λ (c : List Attribute). (types split.before ++ split.attribute.type ∷ types c) ++ m.type ∷ []) empty
            ∙ append_assoc (types split.before) (split.attribute.type ∷ []) (m.type ∷ [])
            ∙ ap (λ (k : ℕ). types split.before ++ k ∷ (m.type ∷ [])) is
            ∙ ap (λ (k : ℕ). types split.before ++ 0x0008 ∷ (k ∷ [])) e)
            ∙ join_order (types split.before) 0x0008 (0x001C ∷ []) order (pair-integrity 0x001C) in
            let chain-is : chain (drop 20 d) ≡ (attributes ++ m ∷ []) ++ chain (drop (length (encoding m)) rest-bytes) =
            ap chain s.whole ∙ (chain-append attributes s.others s.each).chain_is
            ∙ ap (λ (ys : List Attribute). attributes ++ ys) (ap (λ (c : List Attribute). c ++ chain s.others) (sym empty) ∙ head)
            ∙ sym (append_assoc attributes (m ∷ []) (chain (drop (length (encoding m)) rest-bytes))) in
            omega (arith, s.longest (attributes ++ m ∷ []) (chain (drop (length (encoding m)) rest-bytes)) chain-is longer, length-append attributes (m ∷ []))
        by_behind (y ∷ c) is-cons head =
            let same : y ≡ m = first y m _ _ (ap (λ (b : List Attribute). b ++ chain s.others) (sym is-cons) ∙ head) in
            let none : both y.type ≡ false = (or_parts (both y.type) (list_any both (types c)) (ap (λ (b : List Attribute). list_any both (types b)) (sym is-cons) ∙ split.last)).0 in
            absurd (cc (none, ap (λ (a : Attribute). both a.type) same, type-both))

-- a message that validates carries the covered bytes
pub carries_prefix : (m : Option IntegrityAlgorithm) (key : IntegrityAlgorithm → List ℕ) (d c : List ℕ) (algorithm : IntegrityAlgorithm) → IsBytes d → (v : Checks m key d c algorithm)
    → (f : CarriesPrefix d c (key algorithm) algorithm) × (f.others ≡ encodings v.there.splits.behind ++ v.there.shows.others)
carries_prefix m key d c algorithm bytes v =
    let there = v.there in
    let split = there.splits in
    let s = there.shows in
    let a = split.attribute in
    let others = encodings split.behind ++ s.others in
    let before : chain (drop 20 c) ≡ split.before = ap chain v.prefix_is ∙ (chain-encodings split.before there.each).0 in
    let ended : rest (drop 20 c) ≡ [] = ap rest v.prefix_is ∙ (chain-encodings split.before there.each).1 in
    let whole-order : in_order ((types split.before ++ a.type ∷ []) ++ types split.behind) ≡ true =
    ap in_order (append_assoc (types split.before) (a.type ∷ []) (types split.behind) ∙ sym (ap types split.whole ∙ map-append (λ y. y.type) split.before (a ∷ split.behind))) ∙ s.ordered in
    let order : in_order (types (chain (drop 20 c)) ++ type_of_algorithm algorithm ∷ []) ≡ true =
    ap (λ (b : List Attribute). in_order (types b ++ type_of_algorithm algorithm ∷ [])) before ∙ ap (λ (k : ℕ). in_order (types split.before ++ k ∷ [])) v.type_is ∙ in_order_closed (types split.before ++ a.type ∷ []) (types split.behind) whole-order in
    let d20 : drop 20 d ≡ encodings split.before ++ (encoding a ++ others) =
    s.whole ∙ ap (λ (ys : List Attribute). encodings ys ++ s.others) split.whole ∙ ap (λ (t : List ℕ). t ++ s.others) (flat_map-append encoding split.before (a ∷ split.behind))
    ∙ append_assoc (encodings split.before) (encodings (a ∷ split.behind)) s.others ∙ ap (λ (t : List ℕ). encodings split.before ++ t) (append_assoc (encoding a) (encodings split.behind) s.others) in
    let offset : v.x.offset ≡ 20 + length (encodings split.before) = ap (λ (y : Shown). y.offset) split.is in
    let behind-offset : drop (v.x.offset - 4) (drop 4 d) ≡ encoding a ++ others =
    drop-drop (v.x.offset - 4) 4 d ∙ ap (λ (k : ℕ). drop k d) (omega (arith, offset)) ∙ sym (drop-drop (length (encodings split.before)) 20 d)
    ∙ ap (drop (length (encodings split.before))) d20 ∙ drop_at (encodings split.before) (encoding a ++ others) _ refl in
    let back : drop 4 d ≡ drop 4 c ++ (encoding (checked c (key algorithm) algorithm) ++ others) =
    sym (take-append-drop (v.x.offset - 4) (drop 4 d)) ∙ ap (λ (t : List ℕ). take (v.x.offset - 4) (drop 4 d) ++ t) behind-offset
    ∙ ap (λ (t : List ℕ). t ++ (encoding a ++ others)) (sym v.back_is)
    ∙ ap (λ (y : Attribute). drop 4 c ++ (encoding y ++ others)) v.written in
    let whole : d ≡ slice_range c 0 2 ++ (slice_range d 2 4 ++ (drop 4 c ++ (encoding (checked c (key algorithm) algorithm) ++ others))) =
    sym (take-append-drop 2 d) ∙ ap (λ (t : List ℕ). take 2 d ++ t) (sym (take-append-drop 2 (drop 2 d)) ∙ ap (λ (t : List ℕ). take 2 (drop 2 d) ++ t) (drop-drop 2 2 d ∙ back))
    ∙ ap (λ (t : List ℕ). t ++ (slice_range d 2 4 ++ (drop 4 c ++ (encoding (checked c (key algorithm) algorithm) ++ others)))) (sym v.head_is) in (
      record {
        bytes = subst IsBytes v.covers (covered-bytes d v.x.offset (length v.x.value) bytes);
        header = omega (arith, v.long, there.header);
        ended = ended;
        ordered = order;
        lawful = v.lawful;
        field = slice_range d 2 4;
        two = omega (arith, length-take 2 (drop 2 d), length-drop 2 d, there.header, there.within);
        others = others;
        whole = whole;
      },
      refl,
    )

pub carries : (key : IntegrityAlgorithm → List ℕ) (d c : List ℕ) (algorithm : IntegrityAlgorithm) → IsBytes d → Validates None key d c algorithm → Carries d c (key algorithm) algorithm
carries key d c algorithm bytes v =
    let k = checks None key d c algorithm bytes v in
    let f = carries_prefix None key d c algorithm bytes k in
    record {
      carried = f.0;
      alone = λ sha1. subst (λ (o : List ℕ). IfSome (first_attribute o) (λ m. m.type ≢ MESSAGE_INTEGRITY_SHA256)) (sym f.1)
          (next_other d k.there.attributes k.x k.there.shows k.there.splits (sym k.type_is ∙ ap type_of_algorithm sha1));
    }
