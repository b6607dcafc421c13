-- Lemmas on what a look-up finds in a message that was written.
use Rattle.std.proofs.Common.{◌≡◌, ℕ, zero, suc, ◌+◌, ◌≤◌, Bool, true, false, cond, eqb, List, [], ◌∷◌, ◌++◌, length, refl, sym, ap, ◌∙◌, arith, eq-eqb, ◌||◌}
use Rattle.std.specs.Prelude.{Option, Some, None, IfSome, is_some, filter, slice_get, count_by}
use Rattle.std.specs.List.{list_any}
use Rattle.std.proofs.lemmas.Bool.{eqb-true, cond-true}
use Rattle.std.proofs.lemmas.Option.{slice_get_past}
use Rattle.std.proofs.lemmas.List.Elements.{filter-append}
use Rattle.std.proofs.lemmas.List.Sums.{length-filter}
use Rattle.stun_grammar.specs.Attributes.{Attribute, encoding, encodings, types}
use Rattle.stun_grammar.specs.Chains.{Shown, placed}
use Rattle.stun_grammar.specs.ScannedOrder.{has}
use Rattle.stun_grammar.specs.Showing.{shown}
use Rattle.stun_grammar.specs.Writing.{message_encoding, IsWritable}
use Rattle.stun_grammar.proofs.ParsingLemmas.{placed-append}
use Rattle.stun_grammar.proofs.WritingLemmas.{shown-message, length-message}
use Rattle.stun_types.specs.LookingUp.{nth}

-- ---- What is found has the type

type_step : (b : Bool) (type n : ℕ) (a : Shown) (others : List Shown) → (b ≡ true → a.type ≡ type) → ((m : ℕ) → IfSome (slice_get others m) (λ (x : Shown). x.type ≡ type)) → IfSome (slice_get (cond b (a ∷ others) others) n) (λ (x : Shown). x.type ≡ type)
type_step true type zero a others here more = here refl
type_step true type (suc n) a others here more = more n
type_step false type n a others here more = more n

pub same_type : (type n : ℕ) (attributes : List Shown) → IfSome (slice_get (filter (λ (a : Shown). eqb a.type type) attributes) n) (λ (a : Shown). a.type ≡ type)
same_type type n [] = tt
same_type type n (a ∷ attributes) =
    type_step (eqb a.type type) type n a (filter (λ (x : Shown). eqb x.type type) attributes) (eqb-true a.type type) (λ m. same_type type m attributes)

-- ---- A first one is found if one is shown

any_step : (b r : Bool) (a : Shown) (others : List Shown) → is_some (slice_get others 0) ≡ r → is_some (slice_get (cond b (a ∷ others) others) 0) ≡ (b || r)
any_step true r a others e = refl
any_step false r a others e = e

pub any_found : (type : ℕ) (attributes : List Shown) → is_some (slice_get (filter (λ (a : Shown). eqb a.type type) attributes) 0) ≡ list_any (λ (a : Shown). eqb a.type type) attributes
any_found type [] = refl
any_found type (a ∷ attributes) =
    any_step (eqb a.type type) (list_any (λ (x : Shown). eqb x.type type) attributes) a (filter (λ (x : Shown). eqb x.type type) attributes) (any_found type attributes)

-- ---- In a message that was written

-- the member that follows others
member_behind : (xs ys : List Shown) (x : Shown) → slice_get (xs ++ x ∷ ys) (length xs) ≡ Some x
member_behind [] ys x = refl
member_behind (y ∷ xs) ys x = member_behind xs ys x

-- as many attributes have a type as there are such types
length_step : (b : Bool) (a : Shown) (xs : List Shown) (t : ℕ) (ts : List ℕ) → length xs ≡ length ts → length (cond b (a ∷ xs) xs) ≡ length (cond b (t ∷ ts) ts)
length_step true a xs t ts e = omega (arith, e)
length_step false a xs t ts e = e

length-kept : (type offset : ℕ) (attributes : List Attribute) → length (filter (λ (a : Shown). eqb a.type type) (placed offset attributes)) ≡ length (filter (λ (t : ℕ). eqb t type) (types attributes))
unfolding placed
length-kept type offset [] = refl
length-kept type offset (a ∷ attributes) =
    length_step (eqb a.type type) (record { offset = offset; type = a.type; value = a.value }) (filter (λ (x : Shown). eqb x.type type) (placed (offset + length (encoding a)) attributes)) a.type (filter (λ (t : ℕ). eqb t type) (types attributes)) (length-kept type (offset + length (encoding a)) attributes)

length-placed : (type offset : ℕ) (attributes : List Attribute) → length (filter (λ (a : Shown). eqb a.type type) (placed offset attributes)) ≡ count_by (λ (t : ℕ). eqb t type) (types attributes)
length-placed type offset attributes = length-kept type offset attributes ∙ length-filter (λ (t : ℕ). eqb t type) (types attributes)

none_step : (b r : Bool) (t : ℕ) (ts : List ℕ) → (b || r) ≡ false → (r ≡ false → length ts ≡ 0) → length (cond b (t ∷ ts) ts) ≡ 0
none_step true r t ts e more = absurd cc
none_step false r t ts e more = more e

none_kept : (type : ℕ) (types : List ℕ) → has type types ≡ false → length (filter (λ (t : ℕ). eqb t type) types) ≡ 0
none_kept type [] e = refl
none_kept type (t ∷ types) e = none_step (eqb t type) (has type types) t (filter (λ (x : ℕ). eqb x type) types) e (none_kept type types)

none_counted : (type : ℕ) (types : List ℕ) → has type types ≡ false → count_by (λ (t : ℕ). eqb t type) types ≡ 0
none_counted type types e = sym (length-filter (λ (t : ℕ). eqb t type) types) ∙ none_kept type types e

placed_found : (offset : ℕ) (before behind : List Attribute) (a : Attribute)
    → slice_get (filter (λ (x : Shown). eqb x.type a.type) (placed offset (before ++ a ∷ behind))) (count_by (λ (t : ℕ). eqb t a.type) (types before)) ≡ Some (record { offset = offset + length (encodings before); type = a.type; value = a.value })
unfolding placed
placed_found offset before behind a =
    let test : Shown → Bool = λ x. eqb x.type a.type in
    let front : List Shown = filter test (placed offset before) in
    let at : ℕ = offset + length (encodings before) in
    let here : Shown = record { offset = at; type = a.type; value = a.value } in
    let back : List Shown = filter test (placed (at + length (encoding a)) behind) in
    let split : filter test (placed offset (before ++ a ∷ behind)) ≡ front ++ here ∷ back =
    ap (filter test) (placed-append offset before (a ∷ behind)) ∙ filter-append test (placed offset before) (placed at (a ∷ behind)) ∙ ap (λ (xs : List Shown). front ++ xs) (cond-true (eqb a.type a.type) (here ∷ back) back (eq-eqb a.type a.type refl)) in
    ap (λ (n : ℕ). slice_get (filter test (placed offset (before ++ a ∷ behind))) n) (sym (length-placed a.type offset before))
    ∙ ap (λ (xs : List Shown). slice_get xs (length front)) split ∙ member_behind front back here

-- the same of bytes that show these attributes
pub found_shown : (d : List ℕ) (before behind : List Attribute) (a : Attribute) → shown d ≡ placed 20 (before ++ a ∷ behind)
    → nth d a.type (count_by (λ (t : ℕ). eqb t a.type) (types before)) ≡ Some (record { offset = 20 + length (encodings before); type = a.type; value = a.value })
found_shown d before behind a e =
    ap (λ (xs : List Shown). slice_get (filter (λ (x : Shown). eqb x.type a.type) xs) (count_by (λ (t : ℕ). eqb t a.type) (types before))) e
    ∙ placed_found 20 before behind a

pub first_shown : (d : List ℕ) (before behind : List Attribute) (a : Attribute) → shown d ≡ placed 20 (before ++ a ∷ behind) → has a.type (types before) ≡ false
    → nth d a.type 0 ≡ Some (record { offset = 20 + length (encodings before); type = a.type; value = a.value })
first_shown d before behind a e none = ap (λ (n : ℕ). nth d a.type n) (sym (none_counted a.type (types before) none)) ∙ found_shown d before behind a e

pub none_shown : (d : List ℕ) (wanted n : ℕ) (attributes : List Attribute) → shown d ≡ placed 20 attributes → count_by (λ (t : ℕ). eqb t wanted) (types attributes) ≤ n → nth d wanted n ≡ None
none_shown d wanted n attributes e few =
    ap (λ (xs : List Shown). slice_get (filter (λ (x : Shown). eqb x.type wanted) xs) n) e
    ∙ slice_get_past (filter (λ (x : Shown). eqb x.type wanted) (placed 20 attributes)) n (omega (arith, few, length-placed wanted 20 attributes))

-- ---- The only attribute of its type in a message that was written

-- a type that is once among types
once_step : (b : Bool) (t : ℕ) (ts : List ℕ) → length ts ≤ 1 → b ≡ false → length (cond b (t ∷ ts) ts) ≤ 1
once_step true t ts few other = absurd (cc other)
once_step false t ts few other = few

here_step : (b : Bool) (t : ℕ) (ts : List ℕ) → length ts ≡ 0 → length (cond b (t ∷ ts) ts) ≤ 1
here_step true t ts none = omega (arith, none)
here_step false t ts none = omega (arith, none)

or_false : (b r : Bool) → (b || r) ≡ false → (b ≡ false) × (r ≡ false)
or_false true r e = absurd (cc e)
or_false false r e = (refl, e)

once_kept : (a : Attribute) (before behind : List Attribute) → has a.type (types before) ≡ false → has a.type (types behind) ≡ false → length (filter (λ (t : ℕ). eqb t a.type) (types (before ++ a ∷ behind))) ≤ 1
once_kept a [] behind none_before none_behind =
    here_step (eqb a.type a.type) a.type (filter (λ (t : ℕ). eqb t a.type) (types behind)) (none_kept a.type (types behind) none_behind)
once_kept a (x ∷ before) behind none_before none_behind =
    let both = or_false (eqb x.type a.type) (has a.type (types before)) none_before in
    once_step (eqb x.type a.type) x.type (filter (λ (t : ℕ). eqb t a.type) (types (before ++ a ∷ behind))) (once_kept a before behind both.1 none_behind) both.0

pub only_written : (type id : ℕ) (before behind : List Attribute) (a : Attribute) → IsWritable type id (before ++ a ∷ behind) → has a.type (types before) ≡ false → has a.type (types behind) ≡ false
    → (nth (message_encoding type id (before ++ a ∷ behind)) a.type 0 ≡ Some (record { offset = length (message_encoding type id before); type = a.type; value = a.value })) × (nth (message_encoding type id (before ++ a ∷ behind)) a.type 1 ≡ None)
only_written type id before behind a w none_before none_behind =
    let d = message_encoding type id (before ++ a ∷ behind) in
    let shows = shown-message type id (before ++ a ∷ behind) w in
    let here : ℕ → Option Shown = λ k. Some (record { offset = k; type = a.type; value = a.value }) in (
      first_shown d before behind a shows none_before ∙ ap here (sym (length-message type id before)),
      none_shown d a.type 1 (before ++ a ∷ behind) shows (omega (arith, once_kept a before behind none_before none_behind, length-filter (λ (t : ℕ). eqb t a.type) (types (before ++ a ∷ behind)))),
    )
