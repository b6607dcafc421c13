-- A message, attribute by attribute.
use Rattle.std.proofs.Common.{arith, ◌+◌, ◌≡◌, ℕ, ◌^◌, ◌<◌, List, [], ◌∷◌, ◌++◌, length, Option, None, Some, Result, Ok, Err, inl, inr, refl, sym, ap, ◌∙◌, subst, append_assoc}
use Rattle.std.specs.Prelude.{OnOk, OnErr}
use Rattle.std.specs.Result.{IsErr, IsErrAnd}
use Rattle.std.specs.Option.{option_or, option_map}
use Rattle.std.proofs.lemmas.List.{map-append}
use Rattle.stun_grammar.specs.declared.error.StunWriteError.{StunWriteError}
use Rattle.stun_grammar.specs.Adding.{appended, grown_length, first_of, exists_refusal, order_refusal, room_refusal, add_refusal, IsAddAnswer}
use Rattle.std.specs.List.{list_any}
use Rattle.stun_grammar.specs.Attributes.{Attribute, canonical, attribute_length}
use Rattle.stun_grammar.specs.AttributeTypes.{IsOrdinary, is_ending}
use Rattle.stun_grammar.specs.Steps.{Step, add, appended_by, barring_types}
use Rattle.stun_grammar.specs.Writing.{message_encoding}
use Rattle.stun_grammar.proofs.AddingLemmas.{message_more}
use Rattle.stun_types.specs.Resuming.{after_step}
use Rattle.stun_types.specs.Writers.{Writer, Gains, Spends, IsUnchanged, Allocates}
use Rattle.stun_authentication.specs.Writing.{no_room, steps_length, adds, sizes, FailsFor, TakesSteps, IsUnended, Lengthens}
use Rattle.stun_authentication.proofs.TakenLemmas.{passed_on, one_taken, one_then, cut_off, none_taken}
use Rattle.stun_authentication.proofs.TypesLemmas.{free, ending_none, unended_more}

-- ---- One attribute

-- what isn't blocked is refused for want of room alone
answers : (room : Option StunWriteError) (P : Type 0) (result : Result (Unit {0}) StunWriteError) → IsAddAnswer room P result → FailsFor (option_or room None) result
answers None P (Ok done) reported = refl
answers None P (Err e) reported = inl reported.0
answers (Some x) P (Ok done) reported = absurd cc
answers (Some x) P (Err e) reported = inr (ap (λ r. Some (error_of x r)) (sym reported))
  where
    error_of : StunWriteError → Result (Unit {0}) StunWriteError → StunWriteError
    error_of other (Ok done) = other
    error_of other (Err e) = e

only_room : (type : ℕ) (value types : List ℕ) (len : ℕ) (greatest : Option ℕ) → first_of (barring_types (add type value)) types ≡ None → add_refusal (add type value) types len greatest ≡ room_refusal len greatest (grown_length len (length value))
unfolding order_refusal
only_room type value types len greatest free = ap (λ (o : Option ℕ). option_or (option_map (exists_refusal (add type value)) o) (room_refusal len greatest (grown_length len (length value)))) free

same_bytes : (message : List ℕ) (type : ℕ) (value : List ℕ) → appended message type value ≡ after_step message (add type value)
unfolding appended_by
same_bytes message type value = refl

-- one more attribute is added
pub added : (result : Result (Unit {0}) StunWriteError) (old new : Writer) (type : ℕ) (value : List ℕ) → OnOk result (Gains old new type value) → OnErr result (IsUnchanged old new) → Spends old new (attribute_length (length value)) 1
    → IsAddAnswer (add_refusal (add type value) old.types (length old.bytes) old.greatest) (Allocates old (length value)) result → IsOrdinary type → type < 2 ^ 16 → length value < 2 ^ 16
    → Lengthens result old new (canonical type value ∷ [])
added result old new type value gains same spends reported ordinary t v = record {
  written = written result gains;
  answer = λ none. answers room (Allocates old (length value)) result (subst (λ (r : Option StunWriteError). IsAddAnswer r (Allocates old (length value)) result) (only_room type value old.types (length old.bytes) old.greatest (free (add type value) old.types none)) reported);
  unended = λ none. stays result gains none;
  takes = one_taken (add type value) result old new type value refl refl (same_bytes old.bytes type value) gains same spends reported;
}
  where
    room : Option StunWriteError
    room = room_refusal (length old.bytes) old.greatest (grown_length (length old.bytes) (length value))

    written : (r : Result (Unit {0}) StunWriteError) → OnOk r (Gains old new type value) → (kind id : ℕ) (before : List Attribute) → old.bytes ≡ message_encoding kind id before
        → OnOk r (new.bytes ≡ message_encoding kind id (before ++ canonical type value ∷ []))
    written (Ok done) gained kind id before so_far = gained.bytes ∙ ap (λ (b : List ℕ). appended b type value) so_far ∙ message_more kind id before type value t v
    written (Err e) gained kind id before so_far = tt

    stays : (r : Result (Unit {0}) StunWriteError) → OnOk r (Gains old new type value) → IsUnended old → OnOk r (IsUnended new)
    stays (Ok done) gained none = ap (list_any is_ending) gained.types ∙ unended_more type old.types (ending_none type ordinary) none
    stays (Err e) gained none = tt

-- ---- Many

-- the length of a message of len bytes with values of these lengths after it
abbrev pub longer : ℕ → List ℕ → ℕ
longer len [] = len
longer len (n ∷ sizes) = longer (grown_length len n) sizes

pub longer_is : (len : ℕ) (more : List Attribute) → len + steps_length (adds more) ≡ longer len (sizes more)
longer_is len [] = omega arith
longer_is len (a ∷ more) = omega arith ∙ longer_is (grown_length len (length a.value)) more

pub no_room-append : (greatest : Option ℕ) (len : ℕ) (first second : List ℕ) → no_room greatest len (first ++ second) ≡ option_or (no_room greatest len first) (no_room greatest (longer len first) second)
no_room-append greatest len [] second = refl
no_room-append greatest len (n ∷ first) second =
    let room = room_refusal len greatest (grown_length len n) in
    ap (option_or room) (no_room-append greatest (grown_length len n) first second) ∙ regrouped room (no_room greatest (grown_length len n) first) _
  where
    regrouped : (o p q : Option StunWriteError) → option_or o (option_or p q) ≡ option_or (option_or o p) q
    regrouped None p q = refl
    regrouped (Some x) p q = refl

sizes-append : (first second : List Attribute) → sizes (first ++ second) ≡ sizes first ++ sizes second
sizes-append first second = map-append (λ (a : Attribute). length a.value) first second

-- why attributes in two parts don't fit
both_parts : (greatest : Option ℕ) (len : ℕ) (first second : List Attribute) → no_room greatest len (sizes (first ++ second)) ≡ option_or (no_room greatest len (sizes first)) (no_room greatest (longer len (sizes first)) (sizes second))
both_parts greatest len first second = ap (no_room greatest len) (sizes-append first second) ∙ no_room-append greatest len (sizes first) (sizes second)

adds-append : (first second : List Attribute) → adds (first ++ second) ≡ adds first ++ adds second
adds-append first second = map-append (λ (a : Attribute). add a.type a.value) first second

-- if some can't be added, more can't
pub failed : (result : Result (Unit {0}) StunWriteError) (old new : Writer) (e : StunWriteError) (first second : List Attribute) → Lengthens (Err e) old new first
    → IsErr result × IsErrAnd result (λ made. made ≡ e) → Lengthens result old new (first ++ second)
failed result old new e first second one reported = subst (λ (r : Result (Unit {0}) StunWriteError). Lengthens r old new (first ++ second)) (sym (passed_on result e reported)) (record {
  written = λ kind id before so_far. tt;
  answer = λ free. elim (one.answer free) [
    | inl memory ↦ inl memory
    | inr is ↦ inr (both_parts old.greatest (length old.bytes) first second ∙ ap (λ (o : Option StunWriteError). option_or o (no_room old.greatest (longer (length old.bytes) (sizes first)) (sizes second))) is)
  ];
  unended = λ free. tt;
  takes = subst (λ (steps : List Step). TakesSteps {T = Unit {0}} (Err e) old new steps) (sym (adds-append first second)) (cut_off e old new (adds first) (adds second) one.takes);
})

-- what is added in two parts
pub in_turn : (done : Unit {0}) (result : Result (Unit {0}) StunWriteError) (old mid new : Writer) (first second : List Attribute) → Lengthens (Ok done) old mid first → Lengthens result mid new second
    → Lengthens result old new (first ++ second)
in_turn done result old mid new first second one two = record {
  written = written result two;
  answer = λ free. subst (λ (o : Option StunWriteError). FailsFor o result) (sym (behind (one.answer free))) (two.answer (one.unended free));
  unended = λ free. two.unended (one.unended free);
  takes = subst (λ (steps : List Step). TakesSteps result old new steps) (sym (adds-append first second)) (one_then done result old mid new (adds first) (adds second) one.takes two.takes);
}
  where
    behind : no_room old.greatest (length old.bytes) (sizes first) ≡ None → no_room old.greatest (length old.bytes) (sizes (first ++ second)) ≡ no_room mid.greatest (length mid.bytes) (sizes second)
    behind none =
        both_parts old.greatest (length old.bytes) first second
        ∙ ap (λ (o : Option StunWriteError). option_or o (no_room old.greatest (longer (length old.bytes) (sizes first)) (sizes second))) none
        ∙ ap (λ (n : ℕ). no_room old.greatest n (sizes second)) (sym (one.takes.size ∙ longer_is (length old.bytes) first)) ∙ ap (λ (g : Option ℕ). no_room g (length mid.bytes) (sizes second)) (sym one.takes.spends.greatest)

    written : (r : Result (Unit {0}) StunWriteError) → Lengthens r mid new second → (kind id : ℕ) (before : List Attribute) → old.bytes ≡ message_encoding kind id before
        → OnOk r (new.bytes ≡ message_encoding kind id (before ++ (first ++ second)))
    written (Ok u) behind kind id before so_far = behind.written kind id (before ++ first) (one.written kind id before so_far) ∙ ap (message_encoding kind id) (append_assoc before first second)
    written (Err e) behind kind id before so_far = tt

-- nothing more is added
pub nothing_more : (old : Writer) (done : Unit {0}) → Lengthens (Ok done) old old []
nothing_more old done = record {
  written = λ kind id before so_far. so_far ∙ ap (message_encoding kind id) (append-none before);
  answer = λ free. refl;
  unended = λ free. free;
  takes = none_taken old done;
}
  where
    append-none : (xs : List Attribute) → xs ≡ xs ++ []
    append-none [] = λ i. []
    append-none (x ∷ xs) = ap (λ ys. x ∷ ys) (append-none xs)
