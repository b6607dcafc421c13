-- Lists whose members are written in so many bytes each, one after the other.
use Rattle.std.proofs.Common.{◌≡◌, ℕ, zero, suc, ◌+◌, ◌-◌, ◌*◌, ◌<◌, ◌≤◌, List, [], ◌∷◌, ◌++◌, length, get_or, take, drop, slice_range, refl, sym, ap, ◌∙◌, arith, append_assoc, take-add}
use Rattle.std.proofs.lemmas.List.{take_at, drop_at, drop-drop, take_more, length-take, length-drop}
use Rattle.stun_grammar.specs.Numbers.{be16, number}
use Rattle.stun_grammar.proofs.NumbersLemmas.{IsBytes-from, IsBytes-take, IsBytes-drop, be16-number}
use Rattle.std.proofs.lemmas.Grind.{flat_map-append}
use Rattle.std.proofs.lemmas.List.Concat.{flat_map-cons}
use Rattle.std.specs.List.{flat_map}
use Rattle.stun_grammar.specs.declared.attribute_type.AttributeType.{AttributeType}
use Rattle.stun_values.specs.declared.algorithm.PasswordAlgorithmValue.{PasswordAlgorithmValue}
use Rattle.stun_values.specs.declared.algorithm.PasswordAlgorithmValue.TheVariants.{MD5, SHA256}
use Rattle.stun_values.specs.Algorithms.{algorithms_encoding}
use Rattle.stun_values.specs.TypeLists.{types_encoding}

append-nothing : {A : Type 0} (xs : List A) → xs ++ [] ≡ xs
append-nothing [] = refl
append-nothing (x ∷ xs) = ap (λ ys. x ∷ ys) (append-nothing xs)

pub flat_map-one : {A : Type 0} (text : A → List ℕ) (xs : List A) (x : A) → flat_map text (xs ++ x ∷ []) ≡ flat_map text xs ++ text x
flat_map-one text xs x = flat_map-append text xs (x ∷ []) ∙ ap (λ ys. flat_map text xs ++ ys) (flat_map-cons text x [] ∙ append-nothing (text x))

-- one more member is read
pub read_next : {A : Type 0} (text : A → List ℕ) (xs : List A) (x : A) (value : List ℕ) (here width : ℕ) → flat_map text xs ≡ take here value → text x ≡ take width (drop here value)
    → flat_map text (xs ++ x ∷ []) ≡ take (here + width) value
read_next text xs x value here width so_far is = flat_map-one text xs x ∙ (λ i. so_far i ++ is i) ∙ sym (take-add here width value)

drop-all : {A : Type 0} (n : ℕ) (xs : List A) → length xs ≤ n → drop n xs ≡ []
drop-all zero [] all = refl
drop-all zero (x ∷ xs) all = absurd (omega arith)
drop-all (suc n) [] all = refl
drop-all (suc n) (x ∷ xs) all = drop-all n xs (omega arith)

-- what is written from a place on
pub written_from : (place : ℕ) (dest part written : List ℕ) → part ≡ written → take place dest ++ (part ++ drop (length dest - place) (drop place dest)) ≡ take place dest ++ written
written_from place dest part written is =
    let rest : drop (length dest - place) (drop place dest) ≡ [] = drop-all (length dest - place) (drop place dest) (omega (arith, length-drop place dest)) in
    ap (λ ys. take place dest ++ ys) ((λ j. is j ++ rest j) ∙ append-nothing written)

-- one more member is written
pub write_next : {A : Type 0} (text : A → List ℕ) (xs : List A) (d : A) (i : ℕ) (dest start : List ℕ) (here next width : ℕ) → i < length xs → next ≡ here + width
    → length (flat_map text (take i xs)) ≡ here → dest ≡ flat_map text (take i xs) ++ drop here start
    → take here dest ++ (text (get_or xs i d) ++ drop width (drop here dest)) ≡ flat_map text (take (i + 1) xs) ++ drop next start
write_next text xs d i dest start here next width inside place long so_far =
    let prefix = flat_map text (take i xs) in
    let one = text (get_or xs i d) in
    let before : take here dest ≡ prefix = ap (take here) so_far ∙ take_at prefix (drop here start) here long in
    let behind : drop here dest ≡ drop here start = ap (drop here) so_far ∙ drop_at prefix (drop here start) here long in
    let more : flat_map text (take (i + 1) xs) ≡ prefix ++ one = ap (flat_map text) (take_more xs i d inside) ∙ flat_map-one text (take i xs) (get_or xs i d) in
    let rest : drop width (drop here dest) ≡ drop next start = ap (drop width) behind ∙ drop-drop width here start ∙ ap (λ (k : ℕ). drop k start) (sym place) in
    (λ j. before j ++ (one ++ rest j)) ∙ sym (append_assoc prefix one (drop next start)) ∙ (λ j. sym more j ++ drop next start)

-- members of four bytes
pub length_of_entries : (xs : List PasswordAlgorithmValue) → length (algorithms_encoding xs) ≡ 4 * length xs
length_of_entries [] = refl
length_of_entries (MD5 ∷ xs) = omega (arith, length_of_entries xs)
length_of_entries (SHA256 ∷ xs) = omega (arith, length_of_entries xs)

-- members of two bytes
pub length_of_twos : (xs : List AttributeType) → length (types_encoding xs) ≡ 2 * length xs
length_of_twos [] = refl
length_of_twos (x ∷ xs) = omega (arith, length_of_twos xs)

-- the two bytes at an offset are those of the number that they spell
pub two_at : (value : List ℕ) (at n : ℕ) → at + 2 ≤ length value → ((k : ℕ) → get_or value k 0 < 256) → n ≡ number (slice_range value at (at + 2)) → be16 n ≡ take 2 (drop at value)
two_at value at n room small is =
    let width : at + 2 - at ≡ 2 = omega arith in
    let two = take 2 (drop at value) in
    be16-number two n (omega (arith, length-take 2 (drop at value), length-drop at value)) (IsBytes-take 2 (drop at value) (IsBytes-drop at value (IsBytes-from value small)))
    (sym (is ∙ ap (λ (k : ℕ). number (take k (drop at value))) width))
