-- What covered bytes, a key and an algorithm determine of a message that validates with them.
use Rattle.std.proofs.Common.{◌≡◌, ℕ, ◌+◌, Bool, true, false, cond, eqb, ◌||◌, List, [], ◌∷◌, ◌++◌, length, drop, Option, Some, None, Ok, refl, sym, ap, subst, ◌∙◌, append_assoc, arith, ◌⊎◌, inl, inr}
use Rattle.std.specs.Prelude.{find, filter, IfSome}
use Rattle.std.specs.List.{list_any}
use Rattle.std.specs.Option.{option_or}
use Rattle.std.proofs.lemmas.Bool.{or_from}
use Rattle.std.proofs.lemmas.List.{length-append, map-append, append-nil}
use Rattle.std.proofs.lemmas.List.Folds.{find-append, list_any-append}
use Rattle.std.proofs.lemmas.List.Concat.{flat_map-append}
use Rattle.std.proofs.lemmas.List.Elements.{filter-append}
use Rattle.stun_grammar.specs.declared.integrity_algorithm.IntegrityAlgorithm.{IntegrityAlgorithm}
use Rattle.stun_grammar.specs.Numbers.{number, IsBytes}
use Rattle.stun_grammar.specs.Attributes.{Attribute, encoding, encodings, types}
use Rattle.stun_grammar.specs.Chains.{Shown, chain, placed}
use Rattle.stun_grammar.specs.ShownOrder.{in_order}
use Rattle.stun_grammar.specs.ScannedOrder.{has}
use Rattle.stun_grammar.specs.AttributeTypes.{FINGERPRINT}
use Rattle.stun_grammar.specs.Parsing.{parse_fault}
use Rattle.stun_grammar.specs.Showing.{shown}
use Rattle.stun_grammar.specs.Fingerprints.{fingerprint_value}
use Rattle.stun_grammar.specs.Verdicts.{last_shown, verdict, is_checked_type, Validates}
use Rattle.stun_grammar.specs.Authentic.{IsLocal, Content, content, authentic, checked, authentic_fingerprint, authentic_shown, shows_fingerprint, content_through, through_last}
use Rattle.stun_grammar.proofs.ChainsLemmas.{chain-encodings}
use Rattle.stun_grammar.proofs.ParsingLemmas.{placed-append, is_fingerprint, find_none}
use Rattle.stun_grammar.proofs.ShowingLemmas.{shown_as}
use Rattle.stun_grammar.proofs.VerdictsLemmas.{both, type_of_both, order_split, behind_last, no_fingerprint, kept, left_out}
use Rattle.stun_grammar.proofs.AuthenticFingerprintLemmas.{shown_right, right_value, value_carried}
use Rattle.stun_grammar.proofs.AuthenticLemmas.{Checks, checks, validates, through_at}
use Rattle.stun_grammar.proofs.CarryingLemmas.{carries_prefix}

abbrev pub content_of : ℕ → ℕ → List Shown → Content
content_of type id attributes = record { type = type; id = id; attributes = attributes }

pub same_content : (k l i j : ℕ) (a b : List Shown) → k ≡ l → i ≡ j → a ≡ b → content_of k i a ≡ content_of l j b
same_content k l i j a b p q r = ap (λ (x : ℕ). content_of x i a) p ∙ ap (λ (x : ℕ). content_of l x a) q ∙ ap (λ (x : List Shown). content_of l j x) r

-- the attributes that the covered bytes determine are those through the checked one
pub reported_attributes : (m : Option IntegrityAlgorithm) (key : IntegrityAlgorithm → List ℕ) (d c : List ℕ) (a : IntegrityAlgorithm) (v : Checks m key d c a)
    → (authentic c (key a) a).attributes ≡ placed 20 (v.there.splits.before ++ v.there.splits.attribute ∷ [])
unfolding authentic
reported_attributes m key d c a v =
    let split = v.there.splits in
    let before : chain (drop 20 c) ≡ split.before = ap chain v.prefix_is ∙ (chain-encodings split.before v.there.each).0 in
    let offset : v.x.offset ≡ 20 + length (encodings split.before) = ap (λ (y : Shown). y.offset) split.is in
    ap (λ (xs : List Attribute). placed 20 xs ++ placed (length c) (checked c (key a) a ∷ [])) before
    ∙ ap (λ (o : ℕ). placed 20 split.before ++ placed o (checked c (key a) a ∷ [])) (v.long ∙ offset)
    ∙ ap (λ (y : Attribute). placed 20 split.before ++ placed (20 + length (encodings split.before)) (y ∷ [])) (sym v.written)
    ∙ sym (placed-append 20 split.before (split.attribute ∷ []))

pub shown_split : (m : Option IntegrityAlgorithm) (key : IntegrityAlgorithm → List ℕ) (d c : List ℕ) (a : IntegrityAlgorithm) (v : Checks m key d c a)
    → shown d ≡ placed 20 (v.there.splits.before ++ v.there.splits.attribute ∷ v.there.splits.behind)
shown_split m key d c a v = v.there.shows.shown_is ∙ ap (placed 20) v.there.splits.whole

-- type, transaction ID and what is shown through the checked attribute are determined
pub local_through : (m : Option IntegrityAlgorithm) (key : IntegrityAlgorithm → List ℕ) (d c : List ℕ) (a : IntegrityAlgorithm) → IsBytes d → Validates m key d c a → content_through (is_checked_type m) d ≡ authentic c (key a) a
unfolding authentic
local_through m key d c a bytes v =
    let k = checks m key d c a bytes v in
    let split = k.there.splits in
    same_content _ _ _ _ _ _ (sym (ap number k.head_is)) (sym (ap number k.id_is))
    (ap (through_last (is_checked_type m)) (shown_split m key d c a k) ∙ through_at (is_checked_type m) 20 split.before split.attribute split.behind split.passes split.last ∙ sym (reported_attributes m key d c a k))

-- ---- A FINGERPRINT after it

any_placed : (offset : ℕ) (xs : List Attribute) → list_any is_fingerprint (placed offset xs) ≡ has FINGERPRINT (types xs)
unfolding placed
any_placed offset [] = refl
any_placed offset (x ∷ xs) = ap (λ (t : Bool). eqb x.type FINGERPRINT || t) (any_placed (offset + length (encoding x)) xs)

module _ (key : IntegrityAlgorithm → List ℕ) (d c : List ℕ) (a : IntegrityAlgorithm) (bytes : IsBytes d) (v : Checks None key d c a) where
  abbrev prefix_attributes : List Attribute
  prefix_attributes = v.there.splits.before ++ v.there.splits.attribute ∷ []

  none_prefix : has FINGERPRINT (types prefix_attributes) ≡ false
  none_prefix =
      let split = v.there.splits in
      let whole : in_order (types split.before ++ split.attribute.type ∷ types split.behind) ≡ true =
      ap in_order (sym (ap types split.whole ∙ map-append (λ y. y.type) split.before (split.attribute ∷ split.behind))) ∙ v.there.shows.ordered in
      let order = order_split (types split.before) split.attribute.type (types split.behind) whole in
      let one : eqb split.attribute.type FINGERPRINT ≡ false = (type_of_both split.attribute.type split.passes).0 in
      ap (has FINGERPRINT) (map-append (λ y. y.type) split.before (split.attribute ∷ []))
      ∙ list_any-append (λ k. eqb k FINGERPRINT) (types split.before) (split.attribute.type ∷ [])
      ∙ or_from _ _ order.0 (or_from _ _ one refl)

  left : (types v.there.splits.behind ≡ []) ⊎ (types v.there.splits.behind ≡ FINGERPRINT ∷ [])
  left =
      let split = v.there.splits in
      let whole : in_order (types split.before ++ split.attribute.type ∷ types split.behind) ≡ true =
      ap in_order (sym (ap types split.whole ∙ map-append (λ y. y.type) split.before (split.attribute ∷ split.behind))) ∙ v.there.shows.ordered in
      behind_last split.attribute.type (types split.behind) split.passes (order_split (types split.before) split.attribute.type (types split.behind) whole).1 split.last

  abbrev offset_behind : ℕ
  offset_behind = 20 + length (encodings prefix_attributes)

  in_two : shown d ≡ placed 20 prefix_attributes ++ placed offset_behind v.there.splits.behind
  in_two =
      let split = v.there.splits in
      shown_split None key d c a v ∙ ap (placed 20) (sym (append_assoc split.before (split.attribute ∷ []) split.behind)) ∙ placed-append 20 prefix_attributes split.behind

  -- type, transaction ID and what is shown but a FINGERPRINT are determined
  local_checked : content d ≡ authentic c (key a) a
  unfolding authentic
  local_checked =
      let behind = v.there.splits.behind in
      let all : filter no_fingerprint (shown d) ≡ placed 20 prefix_attributes =
      ap (filter no_fingerprint) in_two ∙ filter-append no_fingerprint (placed 20 prefix_attributes) (placed offset_behind behind)
      ∙ ap (λ (xs : List Shown). xs ++ filter no_fingerprint (placed offset_behind behind)) (kept 20 prefix_attributes none_prefix)
      ∙ ap (λ (xs : List Shown). placed 20 prefix_attributes ++ xs) (left_out offset_behind behind left) ∙ append-nil (placed 20 prefix_attributes) in
      same_content _ _ _ _ _ _ (sym (ap number v.head_is)) (sym (ap number v.id_is)) (all ∙ sym (reported_attributes None key d c a v))

  -- the offset of what follows the checked attribute
  offset_is : offset_behind ≡ length (c ++ encoding (checked c (key a) a))
  offset_is =
      let split = v.there.splits in
      let offset : v.x.offset ≡ 20 + length (encodings split.before) = ap (λ (y : Shown). y.offset) split.is in
      omega (
        arith,
        length-append c (encoding (checked c (key a) a)),
        v.long,
        offset,
        ap (λ (y : Attribute). length (encoding y)) v.written,
        ap length (flat_map-append encoding split.before (split.attribute ∷ [])),
        length-append (encodings split.before) (encoding split.attribute ++ []),
        length-append (encoding split.attribute) [],
      )

  fingerprint_at : (value : List ℕ) → find is_fingerprint (shown d) ≡ Some (shown_as offset_behind FINGERPRINT value) → parse_fault d ≡ None → shown_as offset_behind FINGERPRINT value ≡ authentic_fingerprint c (key a) a
  unfolding authentic_fingerprint
  fingerprint_at value found parsed =
      let y = shown_as offset_behind FINGERPRINT value in
      let f = carries_prefix None key d c a bytes v in
      let right : value ≡ fingerprint_value d offset_behind = right_value d y (shown_right d v.there.attributes y v.there.shows parsed found) in
      let whole = c ++ encoding (checked c (key a) a) in
      let same : value ≡ fingerprint_value whole (length whole) = right ∙ ap (fingerprint_value d) offset_is ∙ value_carried d c (key a) a f.0 in
      ap (λ (o : ℕ). shown_as o FINGERPRINT value) offset_is ∙ ap (shown_as (length whole) FINGERPRINT) same

  by_behind : (behind : List Attribute) → v.there.splits.behind ≡ behind → (types behind ≡ []) ⊎ (types behind ≡ FINGERPRINT ∷ []) → parse_fault d ≡ None
      → shown d ≡ authentic_shown c (key a) a (shows_fingerprint d)
  unfolding placed
  by_behind [] e h parsed =
      let all : shown d ≡ placed 20 prefix_attributes = in_two ∙ ap (λ (xs : List Attribute). placed 20 prefix_attributes ++ placed offset_behind xs) e ∙ append-nil (placed 20 prefix_attributes) in
      let none : shows_fingerprint d ≡ false = ap (list_any is_fingerprint) all ∙ any_placed 20 prefix_attributes ∙ none_prefix in
      all ∙ sym (reported_attributes None key d c a v) ∙ sym (append-nil (authentic c (key a) a).attributes) ∙ sym (ap (authentic_shown c (key a) a) none)
  by_behind (f ∷ []) e h parsed =
      let is : f.type ≡ FINGERPRINT = fp h in
      let y = shown_as offset_behind FINGERPRINT f.value in
      let all : shown d ≡ placed 20 prefix_attributes ++ y ∷ [] = in_two ∙ ap (λ (xs : List Attribute). placed 20 prefix_attributes ++ placed offset_behind xs) e ∙ ap (λ (k : ℕ). placed 20 prefix_attributes ++ shown_as offset_behind k f.value ∷ []) is in
      let some : shows_fingerprint d ≡ true = ap (list_any is_fingerprint) all ∙ list_any-append is_fingerprint (placed 20 prefix_attributes) (y ∷ []) ∙ or_last (list_any is_fingerprint (placed 20 prefix_attributes)) in
      let found : find is_fingerprint (shown d) ≡ Some y =
      ap (find is_fingerprint) all ∙ find-append is_fingerprint (placed 20 prefix_attributes) (y ∷ [])
      ∙ ap (λ (o : Option Shown). option_or o (find is_fingerprint (y ∷ []))) (find_none 20 prefix_attributes none_prefix) in
      all ∙ ap (λ (x : List Shown). x ++ y ∷ []) (sym (reported_attributes None key d c a v)) ∙ ap (λ (x : Shown). (authentic c (key a) a).attributes ++ x ∷ []) (fingerprint_at f.value found parsed)
      ∙ sym (ap (authentic_shown c (key a) a) some)
    where
      fp : (f.type ∷ [] ≡ []) ⊎ (f.type ∷ [] ≡ FINGERPRINT ∷ []) → f.type ≡ FINGERPRINT
      fp (inl p) = absurd (cc p)
      fp (inr p) = cc

      or_last : (p : Bool) → (p || (true || false)) ≡ true
      or_last true = refl
      or_last false = refl
  by_behind (f ∷ (g ∷ behind)) e h parsed = elim h [
    | inl p ↦ absurd (cc p)
    | inr p ↦ absurd (cc p)
  ]

pub local : (key : IntegrityAlgorithm → List ℕ) (d c : List ℕ) (a : IntegrityAlgorithm) → IsBytes d → Validates None key d c a → content d ≡ authentic c (key a) a
local key d c a bytes v = local_checked key d c a bytes (checks None key d c a bytes v)

pub verdict_local : (key : IntegrityAlgorithm → List ℕ) (d : List ℕ) (a : IntegrityAlgorithm) → IsBytes d → verdict (is_checked_type None) key d ≡ Ok a → IsLocal d (key a) a
verdict_local key d a bytes e =
    let found = validates None key d a e in
    (found.0, found.1.covers, local key d found.0 a bytes found.1)

-- all that is shown is determined, except whether a FINGERPRINT is among it
pub all_reported : (key : IntegrityAlgorithm → List ℕ) (d c : List ℕ) (a : IntegrityAlgorithm) → IsBytes d → parse_fault d ≡ None → Validates None key d c a → shown d ≡ authentic_shown c (key a) a (shows_fingerprint d)
all_reported key d c a bytes parsed v =
    let k = checks None key d c a bytes v in
    by_behind key d c a bytes k k.there.splits.behind refl (left key d c a bytes k) parsed

pub fingerprint_reported : (key : IntegrityAlgorithm → List ℕ) (d c : List ℕ) (a : IntegrityAlgorithm) → IsBytes d → parse_fault d ≡ None → Validates None key d c a
    → IfSome (find is_fingerprint (shown d)) (λ x. x ≡ authentic_fingerprint c (key a) a)
unfolding authentic_fingerprint
fingerprint_reported key d c a bytes parsed v =
    let k = checks None key d c a bytes v in
    let f = prefix_attributes key d c a bytes k in
    let all : shown d ≡ placed 20 f ++ cond (shows_fingerprint d) (authentic_fingerprint c (key a) a ∷ []) [] =
    all_reported key d c a bytes parsed v ∙ ap (λ (xs : List Shown). xs ++ cond (shows_fingerprint d) (authentic_fingerprint c (key a) a ∷ []) []) (reported_attributes None key d c a k) in
    let found : find is_fingerprint (shown d) ≡ find is_fingerprint (cond (shows_fingerprint d) (authentic_fingerprint c (key a) a ∷ []) []) =
    ap (find is_fingerprint) all ∙ find-append is_fingerprint (placed 20 f) (cond (shows_fingerprint d) (authentic_fingerprint c (key a) a ∷ []) [])
    ∙ ap (λ (o : Option Shown). option_or o (find is_fingerprint (cond (shows_fingerprint d) (authentic_fingerprint c (key a) a ∷ []) []))) (find_none 20 f (none_prefix key d c a bytes k)) in
    subst (λ (o : Option Shown). IfSome o (λ x. x ≡ authentic_fingerprint c (key a) a)) (sym found) (either (shows_fingerprint d))
  where
    either : (b : Bool) → IfSome (find is_fingerprint (cond b (authentic_fingerprint c (key a) a ∷ []) [])) (λ x. x ≡ authentic_fingerprint c (key a) a)
    either true = refl
    either false = tt

-- two messages with the same covered bytes have the same content, and show the same if both or
-- neither show a FINGERPRINT
pub same_reported : (key : IntegrityAlgorithm → List ℕ) (d e c : List ℕ) (a : IntegrityAlgorithm) → IsBytes d → IsBytes e → Validates None key d c a → Validates None key e c a → content d ≡ content e
same_reported key d e c a p q v w = local key d c a p v ∙ sym (local key e c a q w)

pub same_shown : (key : IntegrityAlgorithm → List ℕ) (d e c : List ℕ) (a : IntegrityAlgorithm) → IsBytes d → IsBytes e → parse_fault d ≡ None → parse_fault e ≡ None → Validates None key d c a → Validates None key e c a
    → shows_fingerprint d ≡ shows_fingerprint e → shown d ≡ shown e
same_shown key d e c a p q r s v w same = all_reported key d c a p r v ∙ ap (authentic_shown c (key a) a) same ∙ sym (all_reported key e c a q s w)

-- if no integrity attribute is shown after the one that a key wants, wanting both types finds
-- the same one
pub as_both : (m : Option IntegrityAlgorithm) (key : IntegrityAlgorithm → List ℕ) (d c : List ℕ) (a : IntegrityAlgorithm) → last_shown both d ≡ last_shown (is_checked_type m) d → Validates m key d c a → Validates None key d c a
unfolding verdict
as_both m key d c a same v = record { answers = rw same v.answers; covers = rw same v.covers }
