-- The fault of a header, by the number of bytes.
use Rattle.std.proofs.Common.{◌≡◌, ℕ, ◌+◌, ◌<◌, ◌≤◌, ◌^◌, true, false, ltb, ◌&&◌, List, length, get_or, take, drop, Option, Some, None, refl, sym, ◌∙◌, inl, inr, Bool, eqb, [], ◌∷◌, ◌++◌, ap, arith}
use Rattle.std.specs.Prelude.{nat_eq}
use Rattle.std.specs.Cmp.Lexicographic.{pointwise}
use Rattle.std.proofs.lemmas.Bool.{cases_lt, cases_Bool, le-ltb, lt-ltb, ltb-true, le-leb, and_parts, leb-true, eq-eqb, and_from}
use Rattle.stun_grammar.specs.declared.error.StunParseError.{StunParseError}
use Rattle.stun_grammar.specs.declared.error.StunParseError.TheVariants.{NotStun, Truncated, TooLarge}
use Rattle.stun_grammar.specs.Numbers.{be32, number, IsBytes}
use Rattle.stun_grammar.specs.Headers.{magic_cookie, is_header, begins, header_fault, length_field, Begins}
use Rattle.stun_grammar.specs.Lengths.{exact_fault}
use Rattle.stun_grammar.specs.Showing.{length_fault, frame_fault}
use Rattle.std.specs.List.{list_all, zip}
use Rattle.stun_grammar.proofs.NumbersLemmas.{IsBytes-take, IsBytes-drop}
use Rattle.std.proofs.lemmas.List.{length-append, length-take, length-drop, take_at, drop_all, drop-append-le, take-append-le, take-append-drop, get_or_append_left, append-nil}

-- of twenty bytes or more, the test is that of the first byte and of the cookie
pub is_header-long : (d : List ℕ) → 20 ≤ length d
    → is_header d ≡ (ltb (get_or d 0 0) 64 && pointwise nat_eq (take 4 (drop 4 d)) (be32 magic_cookie))
unfolding is_header
is_header-long d long = rw (le-leb 20 (length d) long) refl

pub not_begun : (d : List ℕ) → length d < 20 → begins d ≡ false → header_fault d ≡ Some NotStun
unfolding header_fault
not_begun d short e = rw (lt-ltb (length d) 20 short, e) refl

pub begun : (d : List ℕ) → length d < 20 → begins d ≡ true → header_fault d ≡ Some (Truncated 20 (length d))
unfolding header_fault
begun d short e = rw (lt-ltb (length d) 20 short, e) refl

pub not_header : (d : List ℕ) → 20 ≤ length d → is_header d ≡ false → header_fault d ≡ Some NotStun
unfolding header_fault
not_header d long e = rw (le-ltb (length d) 20 long, e) refl

pub header : (d : List ℕ) → 20 ≤ length d → is_header d ≡ true → header_fault d ≡ None
unfolding header_fault
header d long e = rw (le-ltb (length d) 20 long, e) refl

-- if there is no fault, there is a header
pub header_there : (d : List ℕ) → header_fault d ≡ None → (20 ≤ length d) × (is_header d ≡ true)
header_there d e = elim (cases_lt (length d) 20) [
  | inl short ↦ elim (cases_Bool (begins d)) [
    | inl some ↦ absurd (cc (e, begun d short some))
    | inr none ↦ absurd (cc (e, not_begun d short none))
  ]
  | inr long ↦ elim (cases_Bool (is_header d)) [
    | inl there ↦ (long, there)
    | inr none ↦ absurd (cc (e, not_header d long none))
  ]
]

-- the two highest bits of a header's first byte are zero
pub first_low : (d : List ℕ) → header_fault d ≡ None → get_or d 0 0 < 64
first_low d e = let there = header_there d e in ltb-true _ _ (and_parts _ _ (sym (is_header-long d there.0) ∙ there.1)).0

-- ---- With the length

pub frame-header : (d : List ℕ) (reported : StunParseError) → header_fault d ≡ Some reported → frame_fault d ≡ Some reported
unfolding frame_fault
frame-header d reported e = rw e refl

-- after a header the length decides
pub frame_is : (d : List ℕ) → header_fault d ≡ None → frame_fault d ≡ exact_fault (20 + length_field d) (length d)
unfolding frame_fault length_fault
frame_is d e = rw e refl

pub frame-whole : (d : List ℕ) → header_fault d ≡ None → length d ≡ 20 + length_field d → frame_fault d ≡ None
frame-whole d e whole =
    frame_is d e ∙ rw (le-ltb (length d) (20 + length_field d) (omega (arith, whole)), le-ltb (20 + length_field d) (length d) (omega (arith, whole))) refl

-- if the frame has no fault, the header has none
pub frame_there : (d : List ℕ) → frame_fault d ≡ None → header_fault d ≡ None
frame_there d e = none_first (header_fault d) (frame-header d) e
  where
    none_first : (o : Option StunParseError) → ((reported : StunParseError) → o ≡ Some reported → frame_fault d ≡ Some reported) → frame_fault d ≡ None → o ≡ None
    none_first None f e = refl
    none_first (Some reported) f e = absurd (cc (f reported refl, e))

-- and there are as many bytes as the header states
pub framed_length : (d : List ℕ) → frame_fault d ≡ None → length d ≡ 20 + length_field d
framed_length d e = exact (20 + length_field d) (length d) (sym (frame_is d (frame_there d e)) ∙ e)
  where
    below : (asked n : ℕ) → n < asked → exact_fault asked n ≡ Some (Truncated asked n)
    below asked n h = rw (lt-ltb n asked h) refl

    above : (asked n : ℕ) → asked < n → exact_fault asked n ≡ Some (TooLarge asked n)
    above asked n h = rw (le-ltb n asked (omega (arith, h)), lt-ltb asked n h) refl

    exact : (asked n : ℕ) → exact_fault asked n ≡ None → n ≡ asked
    exact asked n e = elim (cases_lt n asked) [
      | inl short ↦ absurd (cc (e, below asked n short))
      | inr least ↦ elim (cases_lt asked n) [
        | inl long ↦ absurd (cc (e, above asked n long))
        | inr most ↦ omega (arith, least, most)
      ]
    ]

-- which is a number of two bytes
pub field_fits : (d : List ℕ) → IsBytes d → length_field d < 2 ^ 16
field_fits d bytes = two (take 2 (drop 2 d)) (IsBytes-take 2 (drop 2 d) (IsBytes-drop 2 d bytes)) (omega (arith, length-take 2 (drop 2 d)))
  where
    two : (b : List ℕ) → IsBytes b → length b ≤ 2 → number b < 2 ^ 16
    two [] bytes short = omega arith
    two (x ∷ []) bytes short = omega (arith, bytes.0)
    two (x ∷ (y ∷ [])) bytes short = omega (arith, bytes.0, bytes.1.0)
    two (x ∷ (y ∷ (z ∷ b))) bytes short = absurd (omega (arith, short))

-- ---- A whole header, and what follows it

-- what follows a whole header doesn't change whether it is one, nor the length that it states
header_stays : (b more : List ℕ) → 20 ≤ length b → is_header (b ++ more) ≡ is_header b
header_stays b more long =
    let longer : 20 ≤ length (b ++ more) = omega (arith, long, length-append b more) in
    let first : get_or (b ++ more) 0 0 ≡ get_or b 0 0 = get_or_append_left b more 0 0 (omega (arith, long)) in
    let behind : drop 4 (b ++ more) ≡ drop 4 b ++ more = drop-append-le 4 b more (omega (arith, long)) in
    let cookie : take 4 (drop 4 b ++ more) ≡ take 4 (drop 4 b) = take-append-le 4 (drop 4 b) more (omega (arith, long, length-drop 4 b)) in
    is_header-long (b ++ more) longer ∙ rw (first, behind, cookie) refl ∙ sym (is_header-long b long)

field_stays : (b more : List ℕ) → 20 ≤ length b → length_field (b ++ more) ≡ length_field b
field_stays b more long =
    let behind : drop 2 (b ++ more) ≡ drop 2 b ++ more = drop-append-le 2 b more (omega (arith, long)) in
    let field : take 2 (drop 2 b ++ more) ≡ take 2 (drop 2 b) = take-append-le 2 (drop 2 b) more (omega (arith, long, length-drop 2 b)) in
    rw (behind, field) refl

-- the first twenty bytes alone decide both
first_twenty : (b : List ℕ) → 20 ≤ length b → (is_header b ≡ is_header (take 20 b)) × (length_field b ≡ length_field (take 20 b))
first_twenty b long =
    let cut : 20 ≤ length (take 20 b) = omega (arith, long, length-take 20 b) in
    let whole = sym (take-append-drop 20 b) in (
      ap is_header whole ∙ header_stays (take 20 b) (drop 20 b) cut,
      ap length_field whole ∙ field_stays (take 20 b) (drop 20 b) cut,
    )

-- twenty bytes or more begin a header exactly if they are one
pub whole_begins : (b : List ℕ) → 20 ≤ length b → is_header b ≡ true → Begins b
whole_begins b long there = ([], ap is_header (append-nil b) ∙ there)

pub begins_whole : (b : List ℕ) → 20 ≤ length b → Begins b → is_header b ≡ true
begins_whole b long (more, e) = sym (header_stays b more long) ∙ e

-- bytes that begin with the same twenty, and are as many as those state, have a frame
pub framed_whole : (prefix d : List ℕ) → Begins prefix → 20 ≤ length prefix → take 20 d ≡ take 20 prefix → length d ≡ 20 + length_field prefix → frame_fault d ≡ None
framed_whole prefix d begun long same whole =
    let of_prefix = first_twenty prefix long in
    let least : 20 ≤ length d = omega (arith, whole) in
    let of_d = first_twenty d least in
    let there : is_header d ≡ true = of_d.0 ∙ ap is_header same ∙ sym of_prefix.0 ∙ begins_whole prefix long begun in
    let field : length_field d ≡ length_field prefix = of_d.1 ∙ ap length_field same ∙ sym of_prefix.1 in
    frame-whole d (header d least there) (omega (arith, whole, field))

-- ---- Bytes begin a header exactly if they pass the test

-- two lists are equal as far as both go
abbrev agree : List ℕ → List ℕ → Bool
agree xs ys = list_all (λ (pair : ℕ × ℕ). eqb pair.0 pair.1) (zip xs ys)

pointwise_same : (xs : List ℕ) → pointwise nat_eq xs xs ≡ true
pointwise_same [] = refl
pointwise_same (x ∷ xs) = and_from (eqb x x) (pointwise nat_eq xs xs) (eq-eqb x x refl) (pointwise_same xs)

-- what begins with c agrees with it, and so does each of its prefixes
agree_prefix : (xs more c : List ℕ) → pointwise nat_eq (take (length c) (xs ++ more)) c ≡ true → agree xs c ≡ true
agree_prefix [] more c e = refl
agree_prefix (x ∷ xs) more [] e = refl
agree_prefix (x ∷ xs) more (y ∷ c) e =
    let parts = and_parts (eqb x y) (pointwise nat_eq (take (length c) (xs ++ more)) c) e in
    and_from (eqb x y) (agree xs c) parts.0 (agree_prefix xs more c parts.1)

-- what agrees with c begins with it, once the rest of c follows
agree_filled : (xs c behind : List ℕ) → agree xs c ≡ true → pointwise nat_eq (take (length c) (xs ++ drop (length xs) (c ++ behind))) c ≡ true
agree_filled [] c behind e = ap (λ (xs : List ℕ). pointwise nat_eq xs c) (take_at c behind (length c) refl) ∙ pointwise_same c
agree_filled (x ∷ xs) [] behind e = refl
agree_filled (x ∷ xs) (y ∷ c) behind e =
    let parts = and_parts (eqb x y) (agree xs c) e in
    and_from (eqb x y) (pointwise nat_eq (take (length c) (xs ++ drop (length xs) (c ++ behind))) c) parts.0 (agree_filled xs c behind parts.1)

-- the twelve bytes of a transaction ID, and a header that is zero but for the cookie
abbrev zeros : List ℕ
zeros = 0 ∷ 0 ∷ 0 ∷ 0 ∷ 0 ∷ 0 ∷ 0 ∷ 0 ∷ 0 ∷ 0 ∷ 0 ∷ 0 ∷ []

abbrev blank : List ℕ
blank = 0 ∷ 0 ∷ 0 ∷ 0 ∷ (be32 magic_cookie ++ zeros)

pub begins_some : (b : List ℕ) → begins b ≡ true → Begins b
unfolding begins
begins_some [] e = (blank, is_header-long blank (omega arith))
begins_some (p ∷ []) e = (drop 1 blank, is_header-long (p ∷ drop 1 blank) (omega arith) ∙ and_from (ltb p 64) true (and_parts (ltb p 64) true (and_parts (ltb p 64 && true) true e).0).0 refl)
begins_some (p ∷ q ∷ []) e = (drop 2 blank, is_header-long (p ∷ q ∷ drop 2 blank) (omega arith) ∙ and_from (ltb p 64) true (and_parts (ltb p 64) true (and_parts (ltb p 64 && true) true e).0).0 refl)
begins_some (p ∷ q ∷ r ∷ []) e = (drop 3 blank, is_header-long (p ∷ q ∷ r ∷ drop 3 blank) (omega arith) ∙ and_from (ltb p 64) true (and_parts (ltb p 64) true (and_parts (ltb p 64 && true) true e).0).0 refl)
begins_some (p ∷ q ∷ r ∷ s ∷ b) e =
    let parts = and_parts (ltb p 64 && true) (agree b (be32 magic_cookie)) e in
    let more = drop (length b) (be32 magic_cookie ++ zeros) in
    let long : 20 ≤ length (p ∷ q ∷ r ∷ s ∷ (b ++ more)) = omega (arith, length-append b more, length-drop (length b) (be32 magic_cookie ++ zeros)) in (
      more,
      is_header-long (p ∷ q ∷ r ∷ s ∷ (b ++ more)) long ∙ and_from (ltb p 64) _ (and_parts (ltb p 64) true parts.0).0 (agree_filled b (be32 magic_cookie) zeros parts.1),
    )

pub header_length : (w : List ℕ) → is_header w ≡ true → 20 ≤ length w
unfolding is_header
header_length w e = leb-true 20 (length w) (and_parts _ _ e).0

first_byte : (b more : List ℕ) → ltb (get_or (b ++ more) 0 0) 64 ≡ true → list_all (λ first. ltb first 64) (take 1 b) ≡ true
first_byte [] more e = refl
first_byte (x ∷ b) more e = and_from (ltb x 64) true e refl

pub begins_from : (b : List ℕ) → Begins b → begins b ≡ true
unfolding begins
begins_from b (more, e) =
    let w = b ++ more in
    let parts = and_parts _ _ (sym (is_header-long w (header_length w e)) ∙ e) in
    and_from _ _ (first_byte b more parts.0) (elim (cases_lt (length b) 4) [
      | inl lt ↦ ap (λ (xs : List ℕ). agree xs (be32 magic_cookie)) (drop_all 4 b (omega arith))
      | inr le ↦ agree_prefix (drop 4 b) more (be32 magic_cookie) (ap (λ (xs : List ℕ). pointwise nat_eq (take 4 xs) (be32 magic_cookie)) (sym (drop-append-le 4 b more le)) ∙ parts.1)
    ])
