-- The FINGERPRINT that is shown after the attribute that was checked.
use Rattle.std.proofs.Common.{◌≡◌, ℕ, ◌+◌, ◌-◌, ◌≤◌, List, ◌++◌, length, take, drop, Option, Some, None, refl, sym, ap, ◌∙◌, append_assoc, arith}
use Rattle.std.specs.Prelude.{slice_range, find, nat_eq}
use Rattle.std.specs.Option.{option_or, option_map_or}
use Rattle.std.specs.Cmp.Lexicographic.{pointwise}
use Rattle.std.proofs.lemmas.List.{length-append, length-drop, length-take, take_at, take_all, drop_at, drop-drop, drop-append-le, take-append-le}
use Rattle.std.proofs.lemmas.List.Folds.{find-append}
use Rattle.std.proofs.lemmas.Slice.Eq.{slice_eq-Decides}
use Rattle.std.proofs.lemmas.Bool.Decides.{Decides-eqb}
use Rattle.stun_grammar.specs.declared.error.StunParseError.TheVariants.{FingerprintMismatch}
use Rattle.stun_grammar.specs.declared.integrity_algorithm.IntegrityAlgorithm.{IntegrityAlgorithm}
use Rattle.stun_grammar.specs.Attributes.{Attribute, encoding, encodings, types}
use Rattle.stun_grammar.specs.Chains.{Shown, chain, placed}
use Rattle.stun_grammar.specs.ScannedOrder.{in_any_order}
use Rattle.stun_grammar.specs.Prefixes.{longest_prefix}
use Rattle.stun_grammar.specs.Parsing.{body_fault, parse_fault, scanned_prefix}
use Rattle.stun_grammar.specs.Showing.{shown}
use Rattle.stun_grammar.specs.declared.error.StunParseError.{StunParseError}
use Rattle.stun_grammar.specs.Lengths.{exact_fault}
use Rattle.stun_grammar.specs.Fingerprints.{message_before, fingerprint_value, fingerprint_fault, first_fingerprint_fault}
use Rattle.stun_grammar.specs.Authentic.{checked}
use Rattle.stun_grammar.specs.Carrying.{CarriesPrefix}
use Rattle.stun_grammar.proofs.ChainsLemmas.{chain-append}
use Rattle.stun_grammar.proofs.ParsingLemmas.{placed-append, parse-body, scanned_is, is_fingerprint}
use Rattle.stun_grammar.proofs.ShownOrderCutLemmas.{in_any_order-from}
use Rattle.stun_grammar.proofs.ShowingLemmas.{Shows}
use Rattle.stun_grammar.proofs.VerdictsLemmas.{none_then, first_none}

-- the FINGERPRINT that is shown matches
pub shown_right : (d : List ℕ) (attributes : List Attribute) (y : Shown) → Shows d attributes → parse_fault d ≡ None → find is_fingerprint (shown d) ≡ Some y → fingerprint_fault d y.offset y.value ≡ None
unfolding body_fault
shown_right d attributes y s parsed found =
    let body : body_fault d ≡ None = sym (parse-body d s.frame) ∙ parsed in
    let passes = (first_none (first_fingerprint_fault d (placed 20 (scanned_prefix (chain (drop 20 d))))) _ body).0 in
    let chain-is : chain (drop 20 d) ≡ attributes ++ chain s.others = ap chain s.whole ∙ (chain-append attributes s.others s.each).chain_is in
    let more = longest_prefix (λ q. in_any_order (types (attributes ++ q))) (chain s.others) in
    let scanned : scanned_prefix (chain (drop 20 d)) ≡ attributes ++ more = ap scanned_prefix chain-is ∙ scanned_is attributes (chain s.others) (in_any_order-from (types attributes) s.ordered) in
    let here : find is_fingerprint (placed 20 (attributes ++ more)) ≡ Some y =
    ap (find is_fingerprint) (placed-append 20 attributes more) ∙ find-append is_fingerprint (placed 20 attributes) (placed (20 + length (encodings attributes)) more)
    ∙ ap (λ (o : Option Shown). option_or o (find is_fingerprint (placed (20 + length (encodings attributes)) more))) (ap (find is_fingerprint) (sym s.shown_is) ∙ found) in
    sym (ap (λ (o : Option Shown). option_map_or (λ a. fingerprint_fault d a.offset a.value) o None) here) ∙ ap (λ (xs : List Attribute). first_fingerprint_fault d (placed 20 xs)) (sym scanned) ∙ passes

pub right_value : (d : List ℕ) (y : Shown) → fingerprint_fault d y.offset y.value ≡ None → y.value ≡ fingerprint_value d y.offset
unfolding fingerprint_fault
right_value d y e =
    (slice_eq-Decides Decides-eqb y.value (fingerprint_value d y.offset) _ refl).0
    (none_then (pointwise nat_eq y.value (fingerprint_value d y.offset)) FingerprintMismatch (second (exact_fault 4 (length y.value)) _ e))
  where
    second : (a b : Option StunParseError) → option_or a b ≡ None → b ≡ None
    second None b e = e
    second (Some fault) b e = absurd (cc e)

-- and its value is what the covered bytes with their HMAC determine
pub value_carried : (d c key : List ℕ) (algorithm : IntegrityAlgorithm) → CarriesPrefix d c key algorithm
    → (let whole = c ++ encoding (checked c key algorithm) in fingerprint_value d (length whole) ≡ fingerprint_value whole (length whole))
unfolding fingerprint_value message_before
value_carried d c key algorithm carries =
    let t = encoding (checked c key algorithm) in
    let whole = c ++ t in
    let two-is : length (slice_range c 0 2) ≡ 2 = omega (arith, length-take 2 c, carries.header) in
    let total : length whole ≡ length c + length t = length-append c t in
    let d4 : drop 4 d ≡ drop 4 c ++ (t ++ carries.others) =
    ap (drop 4) carries.whole ∙ sym (drop-drop 2 2 (slice_range c 0 2 ++ (carries.field ++ (drop 4 c ++ (t ++ carries.others)))))
    ∙ ap (drop 2) (drop_at (slice_range c 0 2) (carries.field ++ (drop 4 c ++ (t ++ carries.others))) 2 two-is) ∙ drop_at carries.field (drop 4 c ++ (t ++ carries.others)) 2 carries.two in
    let four : 4 ≤ length c = omega (arith, carries.header) in
    let two : 2 ≤ length c = omega (arith, carries.header) in
    let back : slice_range d 4 (length whole) ≡ drop 4 c ++ t =
    ap (take (length whole - 4)) (d4 ∙ sym (append_assoc (drop 4 c) t carries.others)) ∙ take_at (drop 4 c ++ t) carries.others (length whole - 4) (omega (arith, length-append (drop 4 c) t, length-drop 4 c, total)) in
    let own : slice_range whole 4 (length whole) ≡ drop 4 c ++ t =
    take_all (length whole - 4) (drop 4 whole) (omega (arith, length-drop 4 whole)) ∙ drop-append-le 4 c t four in
    let head : slice_range d 0 2 ≡ slice_range whole 0 2 =
    ap (take 2) carries.whole ∙ take_at (slice_range c 0 2) (carries.field ++ (drop 4 c ++ (t ++ carries.others))) 2 two-is ∙ sym (take-append-le 2 c t two) in
    rw (head, back, own) refl
