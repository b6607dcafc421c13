-- A scan that has come to an offset: what it finds there decides the fault of the message.
use Rattle.std.proofs.Common.{◌≡◌, ℕ, ◌+◌, Bool, true, false, eqb, List, [], ◌∷◌, ◌++◌, length, drop, Option, Some, None, refl, sym, ap, ◌∙◌, append_assoc, arith, cond, ltb}
use Rattle.std.specs.Prelude.{find, IfSome, nat_eq}
use Rattle.std.specs.Option.{option_or, option_map_or}
use Rattle.std.proofs.lemmas.Bool.{cond-true, cond-false, eq-eqb, ne_eqb, or_parts, not-true}
use Rattle.std.proofs.lemmas.List.{length-append, map-append, append-nil, drop-drop}
use Rattle.std.proofs.lemmas.List.Folds.{find-append}
use Rattle.std.proofs.lemmas.List.Concat.{flat_map-append}
use Rattle.stun_grammar.specs.declared.error.StunParseError.{StunParseError}
use Rattle.stun_grammar.specs.Attributes.{Attribute, encoding, encodings, types}
use Rattle.stun_grammar.specs.Chains.{Shown, first_attribute, chain, rest, fault, placed, stated_length}
use Rattle.stun_grammar.specs.AttributeTypes.{is_ending, FINGERPRINT}
use Rattle.stun_grammar.specs.ScannedOrder.{in_any_order, has}
use Rattle.stun_grammar.specs.Prefixes.{longest_prefix}
use Rattle.stun_grammar.specs.Lengths.{exact_fault}
use Rattle.stun_grammar.specs.Headers.{header_fault, is_header, begins, length_field}
use Rattle.stun_grammar.specs.Showing.{frame_fault, length_fault}
use Rattle.stun_grammar.specs.Parsing.{body_fault, parse_fault, scanned_prefix, IsRefusal}
use Rattle.stun_grammar.specs.Fingerprints.{first_fingerprint_fault, fingerprint_fault, fingerprint_value}
use Rattle.stun_grammar.proofs.ChainsLemmas.{chain-none, chain-some, rest-none, rest-some}
use Rattle.stun_grammar.proofs.HeadersLemmas.{frame_there}
use Rattle.stun_grammar.proofs.PrefixesLemmas.{IsClosed, longest-nil, longest-cons, longest-append}
use Rattle.stun_grammar.proofs.ScannedOrderLemmas.{any_order-push, any_order-closed}
use Rattle.std.specs.Cmp.Lexicographic.{pointwise}
use Rattle.stun_grammar.specs.Numbers.{padded_length}

-- the attributes before an offset have been scanned, and a FINGERPRINT among them matches
pub record ScannedTo (d : List ℕ) (offset : ℕ) (taken : List Attribute) : Type 0 where
  pub offset_is : offset ≡ 20 + length (encodings taken)
  pub chain_is : chain (drop 20 d) ≡ taken ++ chain (drop offset d)
  pub rest_is : rest (drop 20 d) ≡ rest (drop offset d)
  pub fits : in_any_order (types taken) ≡ true
  pub passes : first_fingerprint_fault d (placed 20 taken) ≡ None

types-append : (a b : List Attribute) → types (a ++ b) ≡ types a ++ types b
types-append a b = map-append (λ x. x.type) a b

abbrev pub test : List Attribute → Bool
test q = in_any_order (types q)

test_closed : IsClosed test
test_closed a b e = any_order-closed (types a) (types b) (ap in_any_order (sym (types-append a b)) ∙ e)

pub scanned_is : (taken xs : List Attribute) → in_any_order (types taken) ≡ true → scanned_prefix (taken ++ xs) ≡ taken ++ longest_prefix (λ q. test (taken ++ q)) xs
scanned_is taken xs fits = longest-append test taken xs test_closed fits

needs : (taken : List Attribute) (a : Attribute) (q : List Attribute) → test (taken ++ a ∷ q) ≡ true → test (taken ++ a ∷ []) ≡ true
needs taken a q e = test_closed (taken ++ a ∷ []) q (ap test (append_assoc taken (a ∷ []) q) ∙ e)

-- ---- The scan reaches the end

pub ends_at : (d : List ℕ) (offset : ℕ) (taken : List Attribute) (reported : Option StunParseError) → ScannedTo d offset taken → first_attribute (drop offset d) ≡ None → fault offset (drop offset d) ≡ reported → body_fault d ≡ reported
unfolding body_fault
ends_at d offset taken reported to none reported-is =
    let all : chain (drop 20 d) ≡ taken = to.chain_is ∙ ap (λ (xs : List Attribute). taken ++ xs) (chain-none (drop offset d) none) ∙ append-nil taken in
    let scanned : scanned_prefix (chain (drop 20 d)) ≡ taken =
    ap scanned_prefix (to.chain_is ∙ ap (λ (xs : List Attribute). taken ++ xs) (chain-none (drop offset d) none)) ∙ scanned_is taken [] to.fits ∙ ap (λ (xs : List Attribute). taken ++ xs) (longest-nil (λ q. test (taken ++ q))) ∙ append-nil taken in
    let left : rest (drop 20 d) ≡ drop offset d = to.rest_is ∙ rest-none (drop offset d) none in
    let same : eqb (length taken) (length taken) ≡ true = eq-eqb _ _ refl in
    rw (scanned, all, to.passes, same, left, ← to.offset_is) reported-is

-- ---- The scan meets an attribute

-- an attribute that breaks the order ends the scan
pub stops_at : (d : List ℕ) (offset : ℕ) (taken : List Attribute) (a : Attribute) → ScannedTo d offset taken → first_attribute (drop offset d) ≡ Some a → in_any_order (types taken ++ a.type ∷ []) ≡ false → body_fault d ≡ None
unfolding body_fault
stops_at d offset taken a to found stops =
    let behind = chain (drop (length (encoding a)) (drop offset d)) in
    let all : chain (drop 20 d) ≡ taken ++ a ∷ behind = to.chain_is ∙ ap (λ (xs : List Attribute). taken ++ xs) (chain-some (drop offset d) a found) in
    let failed : test (taken ++ a ∷ []) ≡ false = ap in_any_order (types-append taken (a ∷ [])) ∙ stops in
    let scanned : scanned_prefix (chain (drop 20 d)) ≡ taken =
    ap scanned_prefix all ∙ scanned_is taken (a ∷ behind) to.fits
    ∙ ap (λ (xs : List Attribute). taken ++ xs) (longest-cons (λ q. test (taken ++ q)) a behind (needs taken a) ∙ cond-false (test (taken ++ a ∷ [])) _ _ failed) ∙ append-nil taken in
    let fewer : eqb (length taken) (length (taken ++ a ∷ behind)) ≡ false = ne_eqb _ _ (λ e. absurd (omega (arith, length-append taken (a ∷ behind)))) in
    rw (scanned, all, to.passes, fewer) refl

-- ---- The first FINGERPRINT

abbrev pub is_fingerprint : Shown → Bool
is_fingerprint x = eqb x.type FINGERPRINT

abbrev shown_at : ℕ → Attribute → Shown
shown_at offset a = record { offset = offset; type = a.type; value = a.value }

pub placed-append : (offset : ℕ) (xs ys : List Attribute) → placed offset (xs ++ ys) ≡ placed offset xs ++ placed (offset + length (encodings xs)) ys
unfolding placed
placed-append offset [] ys = ap (λ (k : ℕ). placed k ys) (omega arith)
placed-append offset (x ∷ xs) ys =
    let there : offset + length (encoding x) + length (encodings xs) ≡ offset + length (encodings (x ∷ xs)) = omega (arith, length-append (encoding x) (encodings xs)) in
    ap (λ (zs : List Shown). shown_at offset x ∷ zs) (placed-append (offset + length (encoding x)) xs ys ∙ ap (λ (k : ℕ). placed (offset + length (encoding x)) xs ++ placed k ys) there)

pub find_none : (offset : ℕ) (xs : List Attribute) → has FINGERPRINT (types xs) ≡ false → find is_fingerprint (placed offset xs) ≡ None
unfolding placed
find_none offset [] e = refl
find_none offset (x ∷ xs) e =
    let parts = or_parts (eqb x.type FINGERPRINT) (has FINGERPRINT (types xs)) e in
    rw (parts.0) (find_none (offset + length (encoding x)) xs parts.1)

or_none : {A : Type 0} (o : Option A) → option_or o None ≡ o
or_none None = refl
or_none (Some x) = refl

pub find_first : (d : List ℕ) (taken more : List Attribute) (a : Attribute) → a.type ≡ FINGERPRINT → has FINGERPRINT (types taken) ≡ false
    → first_fingerprint_fault d (placed 20 (taken ++ a ∷ more)) ≡ fingerprint_fault d (20 + length (encodings taken)) a.value
unfolding placed
find_first d taken more a is none =
    rw (placed-append 20 taken (a ∷ more), find-append is_fingerprint (placed 20 taken) (placed (20 + length (encodings taken)) (a ∷ more)), find_none 20 taken none, eq-eqb a.type FINGERPRINT is) refl

other_type : (d : List ℕ) (taken : List Attribute) (a : Attribute) → (a.type ≡ FINGERPRINT → ⊥) → first_fingerprint_fault d (placed 20 (taken ++ a ∷ [])) ≡ first_fingerprint_fault d (placed 20 taken)
unfolding placed
other_type d taken a differs =
    rw (placed-append 20 taken (a ∷ []), find-append is_fingerprint (placed 20 taken) (placed (20 + length (encodings taken)) (a ∷ [])), ne_eqb a.type FINGERPRINT differs, or_none (find is_fingerprint (placed 20 taken))) refl

-- an ending type that may still come has not come yet
not_yet : (ts : List ℕ) (k : ℕ) → in_any_order ts ≡ true → is_ending k ≡ true → in_any_order (ts ++ k ∷ []) ≡ true → has k ts ≡ false
not_yet ts k fits ends goes = not-true _ (sym (cond-true (is_ending k) _ _ ends) ∙ sym (any_order-push ts k fits) ∙ goes)

fresh : (taken : List Attribute) (a : Attribute) → in_any_order (types taken) ≡ true → a.type ≡ FINGERPRINT → in_any_order (types taken ++ a.type ∷ []) ≡ true → has FINGERPRINT (types taken) ≡ false
fresh taken a fits is goes = not_yet (types taken) FINGERPRINT fits refl (ap (λ (k : ℕ). in_any_order (types taken ++ k ∷ [])) (sym is) ∙ goes)

-- ---- The scan goes on, or refuses a FINGERPRINT

next : (d : List ℕ) (offset : ℕ) (taken : List Attribute) (a : Attribute) → ScannedTo d offset taken → first_attribute (drop offset d) ≡ Some a → in_any_order (types taken ++ a.type ∷ []) ≡ true
    → first_fingerprint_fault d (placed 20 (taken ++ a ∷ [])) ≡ None → ScannedTo d (offset + length (encoding a)) (taken ++ a ∷ [])
next d offset taken a to found goes passes =
    let left : drop (length (encoding a)) (drop offset d) ≡ drop (offset + length (encoding a)) d = drop-drop (length (encoding a)) offset d in
    record {
      offset_is = omega (arith, to.offset_is, ap length (flat_map-append encoding taken (a ∷ [])), length-append (encodings taken) (encodings (a ∷ [])), ap length (append-nil (encoding a)));
      chain_is = to.chain_is ∙ ap (λ (xs : List Attribute). taken ++ xs) (chain-some (drop offset d) a found ∙ ap (λ (b : List ℕ). a ∷ chain b) left) ∙ sym (append_assoc taken (a ∷ []) (chain (drop (offset + length (encoding a)) d)));
      rest_is = to.rest_is ∙ rest-some (drop offset d) a found ∙ ap rest left;
      fits = ap in_any_order (types-append taken (a ∷ [])) ∙ goes;
      passes = passes;
    }

pub goes_on : (d : List ℕ) (offset : ℕ) (taken : List Attribute) (a : Attribute) → ScannedTo d offset taken → first_attribute (drop offset d) ≡ Some a → in_any_order (types taken ++ a.type ∷ []) ≡ true
    → (a.type ≡ FINGERPRINT → ⊥) → ScannedTo d (offset + length (encoding a)) (taken ++ a ∷ [])
goes_on d offset taken a to found goes differs = next d offset taken a to found goes (other_type d taken a differs ∙ to.passes)

pub goes_on_checked : (d : List ℕ) (offset : ℕ) (taken : List Attribute) (a : Attribute) → ScannedTo d offset taken → first_attribute (drop offset d) ≡ Some a → in_any_order (types taken ++ a.type ∷ []) ≡ true
    → a.type ≡ FINGERPRINT → fingerprint_fault d offset a.value ≡ None → ScannedTo d (offset + length (encoding a)) (taken ++ a ∷ [])
goes_on_checked d offset taken a to found goes is passes =
    next d offset taken a to found goes (find_first d taken [] a is (fresh taken a to.fits is goes) ∙ ap (λ (k : ℕ). fingerprint_fault d k a.value) (sym to.offset_is) ∙ passes)

pub refuses_at : (d : List ℕ) (offset : ℕ) (taken : List Attribute) (a : Attribute) (reported : StunParseError) → ScannedTo d offset taken → first_attribute (drop offset d) ≡ Some a → in_any_order (types taken ++ a.type ∷ []) ≡ true
    → a.type ≡ FINGERPRINT → fingerprint_fault d offset a.value ≡ Some reported → body_fault d ≡ Some reported
unfolding body_fault
refuses_at d offset taken a reported to found goes is refused =
    let behind = chain (drop (length (encoding a)) (drop offset d)) in
    let all : chain (drop 20 d) ≡ taken ++ a ∷ behind = to.chain_is ∙ ap (λ (xs : List Attribute). taken ++ xs) (chain-some (drop offset d) a found) in
    let passed : test (taken ++ a ∷ []) ≡ true = ap in_any_order (types-append taken (a ∷ [])) ∙ goes in
    let scanned : scanned_prefix (chain (drop 20 d)) ≡ taken ++ a ∷ longest_prefix (λ q. test (taken ++ a ∷ q)) behind =
    ap scanned_prefix all ∙ scanned_is taken (a ∷ behind) to.fits
    ∙ ap (λ (xs : List Attribute). taken ++ xs) (longest-cons (λ q. test (taken ++ q)) a behind (needs taken a) ∙ cond-true (test (taken ++ a ∷ [])) _ _ passed) in
    let reported-is : first_fingerprint_fault d (placed 20 (taken ++ a ∷ longest_prefix (λ q. test (taken ++ a ∷ q)) behind)) ≡ Some reported =
    find_first d taken _ a is (fresh taken a to.fits is goes) ∙ ap (λ (k : ℕ). fingerprint_fault d k a.value) (sym to.offset_is) ∙ refused in
    rw (scanned, reported-is) refl

-- ---- The whole message

pub parse-frame : (d : List ℕ) (reported : StunParseError) → frame_fault d ≡ Some reported → parse_fault d ≡ Some reported
unfolding parse_fault
parse-frame d reported e = rw e refl

pub parse-body : (d : List ℕ) → frame_fault d ≡ None → parse_fault d ≡ body_fault d
unfolding parse_fault
parse-body d e = rw e refl

-- a message that parses has a frame, and so a header
pub parsed_frame : (d : List ℕ) → parse_fault d ≡ None → frame_fault d ≡ None
parsed_frame d e = no_first (frame_fault d) (parse-frame d)
  where
    no_first : (o : Option StunParseError) → ((reported : StunParseError) → o ≡ Some reported → parse_fault d ≡ Some reported) → o ≡ None
    no_first None f = refl
    no_first (Some reported) f = absurd (cc (f reported refl, e))

pub parsed_header : (d : List ℕ) → parse_fault d ≡ None → header_fault d ≡ None
parsed_header d e = frame_there d (parsed_frame d e)

-- ---- The errors that parsing returns

abbrev Tells : Option StunParseError → Type 0
Tells reported = IfSome reported IsRefusal

tells_or : (a b : Option StunParseError) → Tells a → Tells b → Tells (option_or a b)
tells_or None b p q = q
tells_or (Some e) b p q = p

tells_if : (test : Bool) (a b : Option StunParseError) → Tells a → Tells b → Tells (cond test a b)
tells_if true a b p q = p
tells_if false a b p q = q

header_tells : (d : List ℕ) → Tells (header_fault d)
unfolding header_fault
header_tells d = tells_if (ltb (length d) 20) _ _ (tells_if (begins d) _ _ tt tt) (tells_if (is_header d) _ _ tt tt)

length_tells : (d : List ℕ) → Tells (length_fault d)
unfolding length_fault
length_tells d = tells_if (ltb (length d) (20 + length_field d)) _ _ tt (tells_if (ltb (20 + length_field d) (length d)) _ _ tt tt)

fault_tells : (offset : ℕ) (r : List ℕ) → Tells (fault offset r)
unfolding fault
fault_tells offset r = tells_if (eqb (length r) 0) _ _ tt (tells_if (ltb (length r) 4) _ _ tt (tells_if (ltb (length r) (4 + stated_length r)) _ _ tt (tells_if (ltb (length r) (4 + padded_length (stated_length r))) _ _ tt tt)))

fingerprint_tells : (d : List ℕ) (offset : ℕ) (value : List ℕ) → Tells (fingerprint_fault d offset value)
unfolding fingerprint_fault
fingerprint_tells d offset value =
    tells_or (exact_fault 4 (length value)) _ (tells_if (ltb (length value) 4) _ _ tt (tells_if (ltb 4 (length value)) _ _ tt tt))
    (tells_if (pointwise nat_eq value (fingerprint_value d offset)) _ _ tt tt)

found_tells : (d : List ℕ) (found : Option Shown) → Tells (option_map_or (λ a. fingerprint_fault d a.offset a.value) found None)
found_tells d None = tt
found_tells d (Some a) = fingerprint_tells d a.offset a.value

body_tells : (d : List ℕ) → Tells (body_fault d)
unfolding body_fault
body_tells d =
    tells_or (first_fingerprint_fault d (placed 20 (scanned_prefix (chain (drop 20 d))))) _
    (found_tells d (find (λ a. eqb a.type FINGERPRINT) (placed 20 (scanned_prefix (chain (drop 20 d))))))
    (tells_if (eqb (length (scanned_prefix (chain (drop 20 d)))) (length (chain (drop 20 d)))) _ _ (fault_tells (20 + length (encodings (chain (drop 20 d)))) (rest (drop 20 d))) tt)

frame_tells : (d : List ℕ) → Tells (frame_fault d)
unfolding frame_fault
frame_tells d = tells_or (header_fault d) (length_fault d) (header_tells d) (length_tells d)

pub parse_tells : (d : List ℕ) → Tells (parse_fault d)
unfolding parse_fault
parse_tells d = tells_or (frame_fault d) (body_fault d) (frame_tells d) (body_tells d)
