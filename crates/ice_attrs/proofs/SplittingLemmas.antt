-- The colon of a username.
use Rattle.std.proofs.Common.{◌≡◌, ℕ, ◌+◌, ◌<◌, ◌⊎◌, true, false, eqb, List, [], ◌∷◌, ◌++◌, length, take, drop, get_or, refl, sym, ap, subst, ◌∙◌, append_assoc, inl, inr, arith}
use Rattle.std.specs.Prelude.{◌&&◌, nat_le}
use Rattle.std.specs.List.{list_all, position_or_len, before_first, after_first}
use Rattle.std.proofs.lemmas.Bool.{cases_Bool, eqb-true, and_parts}
use Rattle.std.proofs.lemmas.List.{length-append, get_or_append_left, take_at}
use Rattle.std.proofs.Math.Seq.{get_or-append_seam, drop-append-add}
use Rattle.std.proofs.lemmas.List.Folds.{list_all_at}
use Rattle.std.proofs.lemmas.List.Sums.{position_or_len_is}
use Rattle.ice_attrs.specs.Credentials.{is_ice_char, is_ufrag, IsCheckUsername}

-- no ice-char is a colon
not_colon : (c : ℕ) → is_ice_char c ≡ true → eqb c 58 ≡ false
not_colon c is = elim (cases_Bool (eqb c 58)) [
  | inl same ↦ absurd (let char : is_ice_char 58 ≡ true = ap is_ice_char (sym (eqb-true c 58 same)) ∙ is in cc char)
  | inr other ↦ other
]

each_char : (text : List ℕ) (k : ℕ) → list_all is_ice_char text ≡ true → k < length text → is_ice_char (get_or text k 0) ≡ true
each_char text k all within = elim (cases_Bool (is_ice_char (get_or text k 0))) [
  | inl is ↦ is
  | inr none ↦ absurd (let other = list_all_at is_ice_char text k 0 within none in cc (other, all))
]

-- the first colon is the one after ice-chars
first_colon : (receiver sender : List ℕ) → list_all is_ice_char receiver ≡ true → position_or_len (λ b. eqb b 58) (receiver ++ 58 ∷ sender) ≡ length receiver
first_colon receiver sender all =
    let text = receiver ++ 58 ∷ sender in
    position_or_len_is (λ b. eqb b 58) text (length receiver) 0
    (omega (arith, length-append receiver (58 ∷ sender)))
    (λ k within. ap (λ c. eqb c 58) (get_or_append_left receiver (58 ∷ sender) 0 k within) ∙ not_colon (get_or receiver k 0) (each_char receiver k all within))
    (λ _. ap (λ c. eqb c 58) (get_or-append_seam receiver 58 sender 0))

ufrag_chars : (text : List ℕ) → is_ufrag text ≡ true → list_all is_ice_char text ≡ true
ufrag_chars text is = (and_parts (nat_le 4 (length text) && nat_le (length text) 256) (list_all is_ice_char text) is).1

-- a username of a check is split at its first colon
pub split_is : (username receiver sender : List ℕ) → IsCheckUsername username receiver sender
    → (position_or_len (λ b. eqb b 58) username < length username) × (before_first (λ b. eqb b 58) username ≡ receiver) × (after_first (λ b. eqb b 58) username ≡ sender)
split_is username receiver sender is =
    let text = receiver ++ 58 ∷ sender in
    let at : position_or_len (λ b. eqb b 58) text ≡ length receiver = first_colon receiver sender (ufrag_chars receiver is.receiver_is) in
    let there : (position_or_len (λ b. eqb b 58) text < length text) × (before_first (λ b. eqb b 58) text ≡ receiver) × (after_first (λ b. eqb b 58) text ≡ sender) = (
      omega (arith, at, length-append receiver (58 ∷ sender)),
      ap (λ n. take n text) at ∙ take_at receiver (58 ∷ sender) (length receiver) refl,
      ap (λ n. drop (n + 1) text) at ∙ drop-append-add receiver (58 ∷ sender) 1,
    ) in
    subst (λ (u : List ℕ). (position_or_len (λ b. eqb b 58) u < length u) × (before_first (λ b. eqb b 58) u ≡ receiver) × (after_first (λ b. eqb b 58) u ≡ sender)) (sym (is.joined ∙ append_assoc receiver (58 ∷ []) sender)) there

-- a text with no colon is no username of a check
pub none_without : (username : List ℕ) → position_or_len (λ b. eqb b 58) username ≡ length username → (receiver sender : List ℕ) → IsCheckUsername username receiver sender → ⊥
none_without username none receiver sender is = omega (arith, none, (split_is username receiver sender is).0)

-- nor one that isn't two fragments round its first colon
pub none_round : (username before behind : List ℕ) → before ≡ before_first (λ b. eqb b 58) username → behind ≡ after_first (λ b. eqb b 58) username
    → (is_ufrag before ≡ false) ⊎ (is_ufrag behind ≡ false) → (receiver sender : List ℕ) → IsCheckUsername username receiver sender → ⊥
none_round username before behind e e' refused receiver sender is =
    let split = split_is username receiver sender is in
    let first : is_ufrag before ≡ true = ap is_ufrag (e ∙ split.1) ∙ is.receiver_is in
    let second : is_ufrag behind ≡ true = ap is_ufrag (e' ∙ split.2) ∙ is.sender_is in
    elim refused [
      | inl none ↦ cc (first, none)
      | inr none ↦ cc (second, none)
    ]

pub one_split : (username receiver sender other another : List ℕ) → IsCheckUsername username receiver sender → IsCheckUsername username other another
    → (receiver ≡ other) × (sender ≡ another)
one_split username receiver sender other another is is' =
    let here = split_is username receiver sender is in
    let there = split_is username other another is' in
    (sym here.1 ∙ there.1, sym here.2 ∙ there.2)
