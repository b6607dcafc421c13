-- Types and their numbers.
use Rattle.std.proofs.Common.{◌≡◌, ℕ, eqb, ◌||◌, Bool, true, false, List, [], ◌∷◌, ◌++◌, None, refl, sym, ap, ◌∙◌, inl, inr}
use Rattle.std.specs.Borrow.{Bor}
use Rattle.std.specs.Prelude.{find}
use Rattle.std.specs.List.{list_any, list_all}
use Rattle.std.specs.Option.{option_map}
use Rattle.std.proofs.lemmas.Bool.{cases_Bool, and_parts, or_parts, or_from, ne_eqb, false≢true}
use Rattle.std.proofs.lemmas.List.{map-append}
use Rattle.std.proofs.lemmas.List.Folds.{list_any-append}
use Rattle.stun_grammar.specs.AttributeTypes.{is_ending}
use Rattle.stun_grammar.specs.declared.attribute_type.AttributeType.{AttributeType}
use Rattle.stun_grammar.specs.ScannedOrder.{has}
use Rattle.stun_grammar.specs.Adding.{numbers, first_of}
use Rattle.stun_types.specs.Replies.{joined}

pub has_number : (type : ℕ) (types : List AttributeType) → list_any (λ a. eqb a.0 type) types ≡ has type (numbers types)
has_number type [] = refl
has_number type (x ∷ types) = rw (has_number type types) refl

-- a type is among the types of several lists if one of the lists has it
pub has_joined : (type : ℕ) (lists : List (Bor (List AttributeType))) → list_any (λ (types : Bor (List AttributeType)). has type (numbers types.now)) lists ≡ has type (numbers (joined lists))
has_joined type [] = refl
has_joined type (x ∷ lists) =
    ap (λ (p : Bool). has type (numbers x.now) || p) (has_joined type lists)
    ∙ sym (ap (has type) (map-append (λ (t : AttributeType). t.0) x.now (joined lists)) ∙ list_any-append (λ (n : ℕ). eqb n type) (numbers x.now) (numbers (joined lists)))

pub first_number : (asked types : List AttributeType)
    → option_map (λ (found : AttributeType). found.0) (find (λ type. list_any (λ a. eqb a.0 type.0) asked) types) ≡ first_of (numbers asked) (numbers types)
first_number asked [] = refl
first_number asked (x ∷ types) =
    let same = has_number x.0 asked in
    elim (cases_Bool (has x.0 (numbers asked))) [
      | inl here ↦ rw (same, here) refl
      | inr later ↦ rw (same, later) (first_number asked types)
    ]

-- ---- Ending types

or_false : (p : Bool) → (p || false) ≡ p
or_false true = refl
or_false false = refl

-- whether an ending type is among the types, with one more
pub ends_push : (types : List AttributeType) (a : AttributeType) (before now : Bool) → before ≡ list_any is_ending (numbers types) → now ≡ is_ending a.0
    → (before || now) ≡ list_any is_ending (numbers (types ++ a ∷ []))
ends_push types a before now e f =
    let more : list_any is_ending (numbers (types ++ a ∷ [])) ≡ (list_any is_ending (numbers types) || (is_ending a.0 || false)) =
    ap (list_any is_ending) (map-append (λ (t : AttributeType). t.0) types (a ∷ [])) ∙ list_any-append is_ending (numbers types) (a.0 ∷ []) in
    rw (e, f) (sym (more ∙ ap (λ (p : Bool). list_any is_ending (numbers types) || p) (or_false (is_ending a.0))))

-- an ordinary type is not among ending ones
other_has : (k : ℕ) (asked : List AttributeType) → is_ending k ≡ false → list_all (λ a. is_ending a.0) asked ≡ true → has k (numbers asked) ≡ false
other_has k [] e all = refl
other_has k (a ∷ asked) e all =
    let parts = and_parts (is_ending a.0) (list_all (λ (b : AttributeType). is_ending b.0) asked) all in
    let differs : eqb a.0 k ≡ false = ne_eqb a.0 k (λ same. false≢true (sym e ∙ ap is_ending (sym same) ∙ parts.0)) in
    or_from (eqb a.0 k) (has k (numbers asked)) differs (other_has k asked e parts.1)

-- if no ending type is written, none of the ending types asked for is
pub none_ends : (asked : List AttributeType) (types : List ℕ) → list_any is_ending types ≡ false → list_all (λ a. is_ending a.0) asked ≡ true → first_of (numbers asked) types ≡ None
none_ends asked [] e all = refl
none_ends asked (x ∷ types) e all =
    let parts = or_parts (is_ending x) (list_any is_ending types) e in
    rw (other_has x asked parts.0 all) (none_ends asked types parts.1 all)
