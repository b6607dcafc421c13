-- The list of the types that aren't understood, as it is counted and written.
use Rattle.std.proofs.Common.{◌≡◌, ℕ, ◌+◌, ◌*◌, ◌<◌, ◌≤◌, List, [], ◌∷◌, ◌++◌, length, take, drop, sym, ap, ◌∙◌, append_assoc, arith}
use Rattle.std.proofs.lemmas.List.{length-append, length-drop, length-take, take_all, take_at, drop_at, drop-drop}
use Rattle.stun_grammar.specs.declared.attribute_type.AttributeType.{AttributeType}
use Rattle.stun_grammar.specs.Numbers.{be16}
use Rattle.stun_values.specs.TypeLists.{type_encoding, types_encoding}
use Rattle.stun_values.proofs.ListsLemmas.{flat_map-one, length_of_twos}

-- all are found, and an attribute has room for them
pub all_listed : (yielded found : List AttributeType) → yielded ≡ found → length yielded ≤ 32767 → yielded ≡ take 32767 found
all_listed yielded found same few = same ∙ sym (take_all 32767 found (omega (arith, few, ap length same)))

-- as many are found as an attribute has room for
pub first_listed : (yielded found : List AttributeType) → yielded ≡ take (length yielded) found → length yielded ≡ 32767 → yielded ≡ take 32767 found
first_listed yielded found so_far many = so_far ∙ ap (λ (k : ℕ). take k found) many

-- there is room for one more
pub room_for_one : (yielded found : List AttributeType) (count : ℕ) (dest start : List ℕ) → count ≡ length yielded → count < 32767 → length yielded < length found
    → dest ≡ types_encoding yielded ++ drop (2 * count) start → 2 * length (take 32767 found) ≤ length start → 2 * count + 2 ≤ length dest
room_for_one yielded found count dest start counted few more is room =
    omega (arith, counted, few, more, room, ap length is, length-append (types_encoding yielded) (drop (2 * count) start), length_of_twos yielded, length-drop (2 * count) start, length-take 32767 found)

-- one more type is written
pub one_more : (yielded : List AttributeType) (x : AttributeType) (count : ℕ) (dest new start : List ℕ) → count ≡ length yielded → dest ≡ types_encoding yielded ++ drop (2 * count) start
    → new ≡ take (2 * count) dest ++ (be16 x.0 ++ drop 2 (drop (2 * count) dest)) → new ≡ types_encoding (yielded ++ x ∷ []) ++ drop (2 * (count + 1)) start
one_more yielded x count dest new start counted so_far is =
    let here = 2 * count in
    let front = types_encoding yielded in
    let long : length front ≡ here = length_of_twos yielded ∙ ap (λ (n : ℕ). 2 * n) (sym counted) in
    let before : take here dest ≡ front = ap (take here) so_far ∙ take_at front (drop here start) here long in
    let behind : drop here dest ≡ drop here start = ap (drop here) so_far ∙ drop_at front (drop here start) here long in
    let next : here + 2 ≡ 2 * (count + 1) = omega arith in
    let rest : drop 2 (drop here dest) ≡ drop (2 * (count + 1)) start = ap (drop 2) behind ∙ drop-drop 2 here start ∙ ap (λ (k : ℕ). drop k start) next in
    is ∙ (λ j. before j ++ (be16 x.0 ++ rest j)) ∙ sym (append_assoc front (be16 x.0) (drop (2 * (count + 1)) start)) ∙ (λ j. sym (flat_map-one type_encoding yielded x) j ++ drop (2 * (count + 1)) start)

-- all that are listed are written
pub listed_written : (yielded listed : List AttributeType) (count : ℕ) (dest start : List ℕ) → count ≡ length yielded → yielded ≡ listed → dest ≡ types_encoding yielded ++ drop (2 * count) start
    → dest ≡ types_encoding listed ++ drop (2 * length listed) start
listed_written yielded listed count dest start counted same is =
    is ∙ ap (λ (n : ℕ). types_encoding yielded ++ drop (2 * n) start) counted ∙ ap (λ (xs : List AttributeType). types_encoding xs ++ drop (2 * length xs) start) same
