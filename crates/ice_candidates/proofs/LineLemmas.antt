-- The attribute of a line.
use Rattle.std.proofs.Common.{◌≡◌, ℕ, ◌+◌, ◌<◌, Bool, true, false, cond, eqb, ltb, List, [], ◌∷◌, ◌++◌, Option, Some, None, Result, Ok, Err, length, take, drop, refl, sym, ap, subst, ◌∙◌, arith, inl, inr}
use Rattle.std.specs.Prelude.{codes, not, map, nat_eq, ok_or, ◌⊎◌}
use Rattle.std.specs.List.{list_all, starts_with, position_or_len, before_first, after_first, slice_split, join_with_byte}
use Rattle.std.specs.Char.{to_ascii_lowercase}
use Rattle.std.proofs.lemmas.Bool.{cases_Bool, and_parts, eqb-true, lt-ltb, ltb-true}
use Rattle.std.proofs.lemmas.Bool.Decides.{Decides-eqb}
use Rattle.std.proofs.lemmas.List.{length-append, take_at}
use Rattle.std.proofs.Math.Seq.{drop-append-add}
use Rattle.std.proofs.lemmas.List.Splits.{slice_split_first, length-slice_split, join_with_byte-slice_split}
use Rattle.std.proofs.lemmas.Slice.Eq.{bytes_eq-Decides, starts_is}
use Rattle.ice_candidates.specs.declared.errors.Stop.{Stop}
use Rattle.ice_candidates.specs.declared.errors.Wanted.TheVariants as wanted
use Rattle.ice_candidates.specs.Candidates.{Fields}
use Rattle.ice_candidates.specs.Words.{words}
use Rattle.ice_candidates.specs.Fields.{is_word}
use Rattle.ice_candidates.specs.Reading.{◌>>=◌, without_type, attribute_of, value_of, at_start, placed, candidate_at, read_candidate}
use Rattle.ice_candidates.specs.Grammar.{IsLine}
use Rattle.ice_candidates.proofs.GrammarLemmas.{spelled_read, read_spelled, bind_ok}

-- ---- A line of a candidate is read

lower_is : (name : List ℕ) → is_word (codes "candidate") name ≡ true → map to_ascii_lowercase name ≡ codes "candidate"
lower_is name is = (bytes_eq-Decides (map to_ascii_lowercase name) (codes "candidate")).0 is

no_colon : (c : ℕ) → not (eqb (to_ascii_lowercase c) 58) ≡ true → eqb c 58 ≡ false
no_colon c h = elim (cases_Bool (eqb c 58)) [
  | inl same ↦ absurd (let wrong : not (eqb (to_ascii_lowercase 58) 58) ≡ true = subst (λ (x : ℕ). not (eqb (to_ascii_lowercase x) 58) ≡ true) (eqb-true c 58 same) h in cc wrong)
  | inr other ↦ other
]

-- the first colon is the one after a name without colons
pub colon_at : (name value : List ℕ) → list_all (λ c. not (eqb c 58)) (map to_ascii_lowercase name) ≡ true → position_or_len (λ c. eqb c 58) (name ++ 58 ∷ value) ≡ length name
colon_at [] value h = refl
colon_at (n ∷ name) value h =
    let parts = and_parts (not (eqb (to_ascii_lowercase n) 58)) (list_all (λ c. not (eqb c 58)) (map to_ascii_lowercase name)) h in
    let later = colon_at name value parts.1 in
    rw (no_colon n parts.0) (omega (arith, later))

pub attribute_at : (name value : List ℕ) → position_or_len (λ c. eqb c 58) (name ++ 58 ∷ value) ≡ length name → attribute_of (name ++ 58 ∷ value) ≡ (name, Some value)
attribute_at name value at =
    let text = name ++ 58 ∷ value in
    let within : ltb (position_or_len (λ c. eqb c 58) text) (length text) ≡ true = lt-ltb _ _ (omega (arith, at, length-append name (58 ∷ value))) in
    let before : before_first (λ c. eqb c 58) text ≡ name = ap (λ n. take n text) at ∙ take_at name (58 ∷ value) (length name) refl in
    let after : after_first (λ c. eqb c 58) text ≡ value = ap (λ n. drop (n + 1) text) at ∙ drop-append-add name (58 ∷ value) 1 in
    ap (λ b. cond b (before_first (λ c. eqb c 58) text, Some (after_first (λ c. eqb c 58) text)) (text, None)) within
    ∙ ap (λ (x : List ℕ). (x, Some (after_first (λ c. eqb c 58) text))) before
    ∙ ap (λ (x : List ℕ). (name, Some x)) after

not_type : (name rest : List ℕ) → map to_ascii_lowercase name ≡ codes "candidate" → without_type (name ++ rest) ≡ name ++ rest
not_type [] rest e = absurd (cc e)
not_type (n ∷ name) rest e =
    let first : to_ascii_lowercase n ≡ 99 = cc e in
    let differs : eqb 97 n ≡ false = elim (cases_Bool (eqb 97 n)) [
      | inl same ↦ absurd (let wrong : to_ascii_lowercase 97 ≡ 99 = subst (λ (x : ℕ). to_ascii_lowercase x ≡ 99) (sym (eqb-true 97 n same)) first in omega (arith, wrong))
      | inr other ↦ other
    ] in
    rw differs refl

typed : (type name rest : List ℕ) → (type ≡ []) ⊎ (type ≡ codes "a=") → map to_ascii_lowercase name ≡ codes "candidate" → without_type (type ++ (name ++ rest)) ≡ name ++ rest
typed type name rest (inl none) e = rw none (not_type name rest e)
typed type name rest (inr some) e = rw some refl

value_at : (name value text : List ℕ) → is_word (codes "candidate") name ≡ true → attribute_of text ≡ (name, Some value) → value_of (codes "candidate") text ≡ Ok value
value_at name value text is e = rw (e, is) refl

pub line_read : (line : List ℕ) (c : Fields) → IsLine line c → read_candidate line ≡ Ok c
line_read line c l =
    let low = lower_is l.name l.name_is in
    let colons : list_all (λ c. not (eqb c 58)) (map to_ascii_lowercase l.name) ≡ true = rw low refl in
    let text : without_type line ≡ l.name ++ 58 ∷ l.value = ap without_type l.parts ∙ typed l.type l.name (58 ∷ l.value) l.type_is low in
    let value : value_of (codes "candidate") (without_type line) ≡ Ok l.value =
    value_at l.name l.value (without_type line) l.name_is (ap attribute_of text ∙ attribute_at l.name l.value (colon_at l.name l.value colons)) in
    ap (λ r. placed line (r >>= λ v. candidate_at (words v))) value ∙ ap (placed line) (spelled_read (words l.value) c l.value_is)

-- ---- What is read is a line of a candidate

placed_ok : (line : List ℕ) (r : Result Fields Stop) (c : Fields) → placed line r ≡ Ok c → r ≡ Ok c
placed_ok line (Ok d) c e = let same : d ≡ c = cc e in ap (λ (x : Fields). Ok x) same
placed_ok line (Err fault) c e = absurd (cc e)

join_more : (x : List ℕ) (ws : List (List ℕ)) → 0 < length ws → join_with_byte 58 (x ∷ ws) ≡ x ++ (58 ∷ join_with_byte 58 ws)
join_more x [] some = absurd (omega arith)
join_more x (w ∷ ws) some = refl

split_some : (text : List ℕ) → 0 < length (slice_split (λ c. eqb c 58) text)
split_some text = omega (arith, length-slice_split (λ c. eqb c 58) text)

-- a text is what is before its first colon, the colon, and what is after it
colon_parts : (text : List ℕ) → position_or_len (λ c. eqb c 58) text < length text → text ≡ before_first (λ c. eqb c 58) text ++ 58 ∷ after_first (λ c. eqb c 58) text
colon_parts text h =
    let p = λ (c : ℕ). eqb c 58 in
    sym (join_with_byte-slice_split 58 text)
    ∙ ap (join_with_byte 58) (slice_split_first p text 0 h)
    ∙ join_more (before_first p text) (slice_split p (after_first p text)) (split_some (after_first p text))
    ∙ ap (λ (l : List ℕ). before_first p text ++ 58 ∷ l) (join_with_byte-slice_split 58 (after_first p text))

attribute_parts : (text value : List ℕ) → (attribute_of text).1 ≡ Some value → text ≡ (attribute_of text).0 ++ 58 ∷ value
attribute_parts text value e = elim (cases_Bool (ltb (position_or_len (λ c. eqb c 58) text) (length text))) [
  | inl within ↦
      let after : ◌≡◌ {A = Option (List ℕ)} (Some (after_first (λ c. eqb c 58) text)) (Some value) = rw within at e in
      let same : after_first (λ c. eqb c 58) text ≡ value = cc after in
      let parts = colon_parts text (ltb-true _ _ within) in
      rw within (parts ∙ ap (λ (l : List ℕ). before_first (λ c. eqb c 58) text ++ 58 ∷ l) same)
  | inr past ↦ absurd (let none : ◌≡◌ {A = Option (List ℕ)} None (Some value) = rw past at e in cc none)
]

type_parts : (line : List ℕ) → (type : List ℕ) × ((type ≡ []) ⊎ (type ≡ codes "a=")) × (line ≡ type ++ without_type line)
type_parts line = elim (cases_Bool (starts_with nat_eq line (codes "a="))) [
  | inl starts ↦ (codes "a=", inr refl, rw starts ((starts_is Decides-eqb line (codes "a=") (starts_with nat_eq line (codes "a=")) refl).0 starts))
  | inr other ↦ ([], inl refl, rw other refl)
]

some_value : (is : Bool) (o : Option (List ℕ)) (fault : Stop) (v : List ℕ) → cond is (ok_or o fault) (Err fault) ≡ Ok v → (is ≡ true) × (o ≡ Some v)
some_value true (Some w) fault v e = let same : w ≡ v = cc e in (refl, ap (λ (x : List ℕ). Some x) same)
some_value true None fault v e = absurd (cc e)
some_value false o fault v e = absurd (cc e)

pub read_line_is : (line : List ℕ) (c : Fields) → read_candidate line ≡ Ok c → IsLine line c
read_line_is line c e =
    let text = without_type line in
    let read = placed_ok line (value_of (codes "candidate") text >>= λ v. candidate_at (words v)) c e in
    let (value, found, spelled) = bind_ok (value_of (codes "candidate") text) (λ v. candidate_at (words v)) c read in
    let named = some_value (is_word (codes "candidate") (attribute_of text).0) (attribute_of text).1 (at_start wanted.Attribute text) value found in
    let (type, type_is, whole) = type_parts line in
    record {
      type = type;
      name = (attribute_of text).0;
      value = value;
      parts = whole ∙ ap (λ (l : List ℕ). type ++ l) (attribute_parts text value named.1);
      type_is = type_is;
      name_is = named.0;
      value_is = read_spelled (words value) c spelled;
    }
