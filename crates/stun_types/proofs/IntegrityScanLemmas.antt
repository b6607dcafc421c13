-- The offsets that a scan keeps of the integrity attributes that are shown.
use Rattle.std.proofs.Common.{◌≡◌, ℕ, ◌+◌, Bool, true, false, cond, eqb, ◌&&◌, ◌||◌, List, [], ◌∷◌, ◌++◌, length, drop, Option, Some, None, refl, sym, ap, subst, ◌∙◌, append_assoc, inl, inr}
use Rattle.std.specs.Prelude.{find, reverse}
use Rattle.std.specs.List.{list_any, AllByRecursion}
use Rattle.std.specs.Option.{option_map}
use Rattle.std.proofs.Math.Bool.{and_assoc}
use Rattle.std.proofs.lemmas.Bool.{cond-false, cases_Bool, or_parts, or_from}
use Rattle.std.proofs.lemmas.List.{map-append, append-nil, reverse-append}
use Rattle.stun_grammar.specs.declared.integrity_algorithm.IntegrityAlgorithm.{IntegrityAlgorithm}
use Rattle.stun_grammar.specs.declared.integrity_algorithm.IntegrityAlgorithm.TheVariants.{Sha1, Sha256}
use Rattle.stun_grammar.specs.AttributeTypes.{FINGERPRINT, is_ending}
use Rattle.stun_grammar.specs.Attributes.{Attribute, encodings, types}
use Rattle.stun_grammar.specs.Chains.{Shown, chain, placed}
use Rattle.stun_grammar.specs.ShownOrder.{in_order}
use Rattle.stun_grammar.specs.ScannedOrder.{in_any_order}
use Rattle.stun_grammar.specs.Prefixes.{longest_prefix}
use Rattle.stun_grammar.specs.Showing.{frame_fault, shown, shown_prefix}
use Rattle.stun_grammar.specs.Verdicts.{is_checked_type}
use Rattle.stun_grammar.proofs.ParsingLemmas.{placed-append}
use Rattle.stun_grammar.proofs.PrefixesLemmas.{IsClosed, longest-nil, longest-cons, longest_all}
use Rattle.stun_grammar.proofs.ShowingLemmas.{shown_as, at_type, none_last}
use Rattle.stun_grammar.proofs.ShownOrderCutLemmas.{in_any_order-from}
use Rattle.stun_grammar.proofs.ShownOrderLemmas.{in_order-cons, in_order-one, in_order-nil, in_order-ordinary, in_order_closed, pair-fingerprint}
use Rattle.stun_types.specs.declared.reading.offsets.IntegrityOffsets.{IntegrityOffsets}
use Rattle.stun_types.specs.Offsets.{offset_among, AreOffsets, OffsetsOf, HasScanned}

-- ---- One more type

-- a type keeps the order after others exactly if the last of these does, and the two are in order
order_more : (ts : List ℕ) (k j : ℕ) → in_order (ts ++ k ∷ (j ∷ [])) ≡ (in_order (ts ++ k ∷ []) && in_order (k ∷ (j ∷ [])))
order_more [] k j = sym (ap (λ (t : Bool). t && in_order (k ∷ (j ∷ []))) (in_order-one k))
order_more (l ∷ []) k j = in_order-cons l k (j ∷ [])
order_more (l ∷ (m ∷ ts)) k j =
    in_order-cons l m (ts ++ k ∷ (j ∷ []))
    ∙ ap (λ (t : Bool). in_order (l ∷ (m ∷ [])) && t) (order_more (m ∷ ts) k j)
    ∙ sym (and_assoc (in_order (l ∷ (m ∷ []))) (in_order (m ∷ (ts ++ k ∷ []))) (in_order (k ∷ (j ∷ []))))
    ∙ ap (λ (t : Bool). t && in_order (k ∷ (j ∷ []))) (sym (in_order-cons l m (ts ++ k ∷ [])))

types-more : (taken : List Attribute) (a : Attribute) → types (taken ++ a ∷ []) ≡ types taken ++ a.type ∷ []
types-more taken a = map-append (λ x. x.type) taken (a ∷ [])

next_more : (taken : List Attribute) (a : Attribute) (j : ℕ) → in_order (types (taken ++ a ∷ []) ++ j ∷ []) ≡ (in_order (types taken ++ a.type ∷ []) && in_order (a.type ∷ (j ∷ [])))
next_more taken a j =
    ap (λ (ts : List ℕ). in_order (ts ++ j ∷ [])) (types-more taken a)
    ∙ ap in_order (append_assoc (types taken) (a.type ∷ []) (j ∷ []))
    ∙ order_more (types taken) a.type j

-- ---- What is shown with one more attribute

abbrev ordered : List Attribute → Bool
ordered q = in_order (types q)

ordered_closed : IsClosed ordered
ordered_closed a b e = in_order_closed (types a) (types b) (ap in_order (sym (map-append (λ x. x.type) a b)) ∙ e)

-- if the next member breaks the order, what follows changes nothing
prefix_cut : (passes : List Attribute → Bool) (xs : List Attribute) (x : Attribute) (ys : List Attribute) → IsClosed passes → passes (xs ++ x ∷ []) ≡ false → longest_prefix passes (xs ++ x ∷ ys) ≡ longest_prefix passes xs
prefix_cut passes [] x ys closed failed =
    longest-cons passes x ys (λ q e. closed (x ∷ []) q e) ∙ cond-false (passes (x ∷ [])) _ _ failed ∙ sym (longest-nil passes)
prefix_cut passes (y ∷ xs) x ys closed failed =
    longest-cons passes y (xs ++ x ∷ ys) (λ q e. closed (y ∷ []) q e)
    ∙ ap (λ (t : List Attribute). cond (passes (y ∷ [])) (y ∷ t) []) (prefix_cut (λ q. passes (y ∷ q)) xs x ys (λ a b e. closed (y ∷ a) b e) failed)
    ∙ sym (longest-cons passes y xs (λ q e. closed (y ∷ []) q e))

shown_cut : (taken : List Attribute) (a : Attribute) (behind : List Attribute) → in_order (types taken ++ a.type ∷ []) ≡ false → shown_prefix (taken ++ a ∷ behind) ≡ shown_prefix taken
shown_cut taken a behind broken = prefix_cut ordered taken a behind ordered_closed (ap in_order (types-more taken a) ∙ broken)

shown_whole : (taken : List Attribute) → in_order (types taken) ≡ true → shown_prefix taken ≡ taken
shown_whole taken e = longest_all ordered taken in_order-nil e

-- ---- The offsets

last_more : (wanted : ℕ → Bool) (xs : List Shown) (x : Shown) → find (at_type wanted) (reverse (xs ++ x ∷ [])) ≡ cond (wanted x.type) (Some x) (find (at_type wanted) (reverse xs))
last_more wanted xs x = ap (find (at_type wanted)) (reverse-append xs (x ∷ []))

offset_more : (wanted : ℕ → Bool) (taken : List Attribute) (a : Attribute) → in_order (types taken ++ a.type ∷ []) ≡ true
    → offset_among wanted (placed 20 (shown_prefix (taken ++ a ∷ []))) ≡ cond (wanted a.type) (Some (20 + length (encodings taken))) (offset_among wanted (placed 20 (shown_prefix taken)))
unfolding placed
offset_more wanted taken a e =
    let fits : in_order (types (taken ++ a ∷ [])) ≡ true = ap in_order (types-more taken a) ∙ e in
    let before : shown_prefix taken ≡ taken = shown_whole taken (in_order_closed (types taken) (a.type ∷ []) e) in
    let now : shown_prefix (taken ++ a ∷ []) ≡ taken ++ a ∷ [] = shown_whole (taken ++ a ∷ []) fits in
    let x : Shown = shown_as (20 + length (encodings taken)) a.type a.value in
    ap (λ (xs : List Attribute). offset_among wanted (placed 20 xs)) now
    ∙ ap (offset_among wanted) (placed-append 20 taken (a ∷ []))
    ∙ ap (option_map (λ (y : Shown). y.offset)) (last_more wanted (placed 20 taken) x)
    ∙ chosen (wanted a.type) x (find (at_type wanted) (reverse (placed 20 taken)))
    ∙ ap (λ (xs : List Attribute). cond (wanted a.type) (Some (20 + length (encodings taken))) (offset_among wanted (placed 20 xs))) (sym before)
  where
    chosen : (b : Bool) (y : Shown) (o : Option Shown) → option_map (λ (z : Shown). z.offset) (cond b (Some y) o) ≡ cond b (Some y.offset) (option_map (λ (z : Shown). z.offset) o)
    chosen true y o = refl
    chosen false y o = refl

-- ---- Ordinary attributes

abbrev NoneEnds : List Attribute → Type 0
NoneEnds = AllByRecursion (λ a. is_ending a.type ≡ false)

skip_ordinary : (taken : List Attribute) (ts : List ℕ) → NoneEnds taken → in_order (types taken ++ ts) ≡ in_order ts
skip_ordinary [] ts all = refl
skip_ordinary (x ∷ taken) ts all = in_order-ordinary x.type (types taken ++ ts) all.0 ∙ skip_ordinary taken ts all.1

not_wanted : (algorithm : IntegrityAlgorithm) (k : ℕ) → is_ending k ≡ false → is_checked_type (Some algorithm) k ≡ false
not_wanted Sha1 k e = (or_parts (eqb k 0x0008) (eqb k 0x001C || eqb k 0x8028) e).0
not_wanted Sha256 k e = (or_parts (eqb k 0x001C) (eqb k 0x8028) (or_parts (eqb k 0x0008) (eqb k 0x001C || eqb k 0x8028) e).1).0

none_wanted : (algorithm : IntegrityAlgorithm) (taken : List Attribute) → NoneEnds taken → list_any (is_checked_type (Some algorithm)) (types taken) ≡ false
none_wanted algorithm [] all = refl
none_wanted algorithm (x ∷ taken) all = or_from _ _ (not_wanted algorithm x.type all.0) (none_wanted algorithm taken all.1)

in_order_all : (taken : List Attribute) → NoneEnds taken → in_order (types taken) ≡ true
in_order_all taken all = ap in_order (sym (append-nil (types taken))) ∙ skip_ordinary taken [] all ∙ in_order-nil

-- they have no offset to keep
no_offset : (algorithm : IntegrityAlgorithm) (taken : List Attribute) → NoneEnds taken → offset_among (is_checked_type (Some algorithm)) (placed 20 (shown_prefix taken)) ≡ None
no_offset algorithm taken all =
    ap (λ (xs : List Attribute). offset_among (is_checked_type (Some algorithm)) (placed 20 xs)) (shown_whole taken (in_order_all taken all))
    ∙ ap (option_map (λ (y : Shown). y.offset)) (none_last (is_checked_type (Some algorithm)) 20 taken (none_wanted algorithm taken all))

pub starts : (offsets : IntegrityOffsets) (taken : List Attribute) → offsets.integrity ≡ None → offsets.sha256 ≡ None → NoneEnds taken → HasScanned offsets 0 taken
starts offsets taken none-integrity none-sha256 all = record {
  are = record {
    integrity = none-integrity ∙ sym (no_offset Sha1 taken all);
    sha256 = none-sha256 ∙ sym (no_offset Sha256 taken all);
  };
  next = λ j. skip_ordinary taken (j ∷ []) all ∙ sym (in_order-ordinary 0 (j ∷ []) refl);
}

-- ---- One more attribute

-- it is shown, and its offset is kept if it is an integrity attribute
pub met : (before after : IntegrityOffsets) (last type offset : ℕ) (taken : List Attribute) (a : Attribute) → HasScanned before last taken → type ≡ a.type → offset ≡ 20 + length (encodings taken)
    → in_order (last ∷ (type ∷ [])) ≡ true
    → after.integrity ≡ cond (eqb type 0x0008) (Some offset) before.integrity
    → after.sha256 ≡ cond (eqb type 0x001C) (Some offset) before.sha256
    → HasScanned after type (taken ++ a ∷ [])
met before after last type offset taken a keeps type-is offset-is goes integrity-is sha256-is =
    let fits : in_order (types taken ++ a.type ∷ []) ≡ true = ap (λ (k : ℕ). in_order (types taken ++ k ∷ [])) (sym type-is) ∙ keeps.next type ∙ goes in
    let made : (wanted : ℕ → Bool) (old : Option ℕ) → old ≡ offset_among wanted (placed 20 (shown_prefix taken))
    → cond (wanted type) (Some offset) old ≡ offset_among wanted (placed 20 (shown_prefix (taken ++ a ∷ []))) =
    λ wanted old e. rw (type-is, offset-is, e) (sym (offset_more wanted taken a fits)) in
    record {
      are = record {
        integrity = integrity-is ∙ made (is_checked_type (Some Sha1)) before.integrity keeps.are.integrity;
        sha256 = sha256-is ∙ made (is_checked_type (Some Sha256)) before.sha256 keeps.are.sha256;
      };
      next = λ j. next_more taken a j ∙ ap (λ (t : Bool). t && in_order (a.type ∷ (j ∷ []))) fits ∙ ap (λ (l : ℕ). in_order (l ∷ (j ∷ []))) (sym type-is);
    }

-- it breaks the order, and nothing is shown after it
pub met_broken : (offsets : IntegrityOffsets) (last type : ℕ) (taken : List Attribute) (a : Attribute) → HasScanned offsets last taken → type ≡ a.type → in_order (last ∷ (type ∷ [])) ≡ false
    → HasScanned offsets FINGERPRINT (taken ++ a ∷ [])
met_broken offsets last type taken a keeps type-is stops =
    let broken : in_order (types taken ++ a.type ∷ []) ≡ false = ap (λ (k : ℕ). in_order (types taken ++ k ∷ [])) (sym type-is) ∙ keeps.next type ∙ stops in
    let same : shown_prefix (taken ++ a ∷ []) ≡ shown_prefix taken = shown_cut taken a [] broken in
    record {
      are = rw same keeps.are;
      next = λ j. next_more taken a j ∙ ap (λ (t : Bool). t && in_order (a.type ∷ (j ∷ []))) broken ∙ sym (pair-fingerprint j);
    }

-- ---- The end of the scan

shown_of : (d : List ℕ) (all taken : List Attribute) → frame_fault d ≡ None → chain (drop 20 d) ≡ all → shown_prefix all ≡ shown_prefix taken → shown d ≡ placed 20 (shown_prefix taken)
unfolding shown
shown_of d all taken frame e same = rw (frame, e, same) refl

reported : (offsets : IntegrityOffsets) (last : ℕ) (d : List ℕ) (taken : List Attribute) → HasScanned offsets last taken → shown d ≡ placed 20 (shown_prefix taken) → OffsetsOf offsets d
reported offsets last d taken keeps e = subst (AreOffsets offsets) (sym e) keeps.are

-- all attributes were scanned
pub kept_at_end : (offsets : IntegrityOffsets) (last : ℕ) (d : List ℕ) (taken : List Attribute) → frame_fault d ≡ None → HasScanned offsets last taken → chain (drop 20 d) ≡ taken → OffsetsOf offsets d
kept_at_end offsets last d taken frame keeps e = reported offsets last d taken keeps (shown_of d taken taken frame e refl)

-- the next one breaks the order of what is scanned, and so that of what is shown
pub kept_at_stop : (offsets : IntegrityOffsets) (last : ℕ) (d : List ℕ) (taken : List Attribute) (a : Attribute) (behind : List Attribute) → frame_fault d ≡ None → HasScanned offsets last taken
    → chain (drop 20 d) ≡ taken ++ a ∷ behind → in_any_order (types taken ++ a.type ∷ []) ≡ false → OffsetsOf offsets d
kept_at_stop offsets last d taken a behind frame keeps e stops =
    let broken : in_order (types taken ++ a.type ∷ []) ≡ false = elim (cases_Bool (in_order (types taken ++ a.type ∷ []))) [
      | inl passed ↦ absurd (cc (stops, in_any_order-from (types taken ++ a.type ∷ []) passed))
      | inr failed ↦ failed
    ] in
    reported offsets last d taken keeps (shown_of d (taken ++ a ∷ behind) taken frame e (shown_cut taken a behind broken))
