-- A request that is begun, and ended.
use Rattle.std.proofs.Common.{◌≡◌, ℕ, List, [], ◌∷◌, ◌++◌, ◌≤◌, length, Bool, true, false, Option, None, Some, Result, Ok, Err, inl, inr, refl, sym, ap, ◌∙◌, subst, lit<, arith}
use Rattle.std.specs.Prelude.{◌⊎◌, OnOk, MatchOption}
use Rattle.std.specs.List.{list_any}
use Rattle.std.specs.Option.{option_or, option_map}
use Rattle.std.specs.Result.{IsOk, IsErr, IsErrAnd}
use Rattle.stun_grammar.specs.declared.error.StunWriteError.{StunWriteError}
use Rattle.stun_grammar.specs.declared.error.StunWriteError.TheVariants.{OutOfMemory}
use Rattle.stun_grammar.specs.Adding.{appended, grown_length, first_of, exists_refusal, order_refusal, room_refusal, add_refusal, IsAddAnswer}
use Rattle.stun_grammar.specs.Attributes.{Attribute}
use Rattle.stun_grammar.specs.AttributeTypes.{FINGERPRINT, is_ending}
use Rattle.stun_grammar.specs.Fingerprints.{fingerprint_value}
use Rattle.stun_grammar.specs.Steps.{Step, finger, appended_by, barring_types}
use Rattle.stun_grammar.specs.Writing.{message_encoding}
use Rattle.stun_grammar.proofs.AddingLemmas.{message_more, fingerprint_length}
use Rattle.stun_types.specs.Writers.{Writer, Adds, Allocates, Gains, IsBegun}
use Rattle.stun_authentication.specs.Writing.{FailsBy, FailsFor, Finishes, IsUnended, Lengthens, adds, finished, no_room, print_steps, sizes, step_sizes}
use Rattle.stun_authentication.proofs.TakenLemmas.{on_ok, one_taken, passed_on}
use Rattle.stun_authentication.proofs.TypesLemmas.{free}
use Rattle.turn_requests.specs.Requests.{Begins, Ends, Exceeds}
use Rattle.turn_requests.proofs.MemoryLemmas.{exceeds_header, exceeds_more, exceeds_then, header_exceeds, lacking}

-- ---- The beginning

-- an allocation failed before anything was written
pub not_begun : (result made : Result (Unit {0}) StunWriteError) (e : StunWriteError) (old new : Writer) (kind id : ℕ) (attributes : List Attribute) → made ≡ Err e → e ≡ OutOfMemory → (20 ≤ old.ready_bytes → IsOk made)
    → IsErr result × IsErrAnd result (λ x. x ≡ e) → Begins result old new kind id attributes
not_begun result made e old new kind id attributes was memory succeeds reported = subst (λ (r : Result (Unit {0}) StunWriteError). Begins r old new kind id attributes) (sym (passed_on result e reported)) (record {
  bytes = tt;
  unended = tt;
  greatest = tt;
  answer = inl memory;
  memory = λ _. header_exceeds old (adds attributes) (λ ready. not_ok made e was (succeeds ready));
  spends = tt;
})
  where
    not_ok : (r : Result (Unit {0}) StunWriteError) (e : StunWriteError) → r ≡ Err e → IsOk r → ⊥
    not_ok (Ok done) e is ok = absurd cc
    not_ok (Err x) e is ok = absurd (cc ok)

-- attributes are added to a header
pub begun : (result : Result (Unit {0}) StunWriteError) (old mid new : Writer) (kind id : ℕ) (attributes : List Attribute) → IsBegun old mid kind id → Lengthens result mid new attributes → Begins result old new kind id attributes
begun result old mid new kind id attributes header added =
    let none : IsUnended mid = ap (list_any is_ending) header.types in
    let spent = added.takes.spends in
    record {
      bytes = added.written kind id [] header.bytes;
      unended = added.unended none;
      greatest = on_any result (spent.greatest ∙ header.spends.greatest);
      answer = subst (λ (n : ℕ). FailsFor (no_room old.greatest n (sizes attributes)) result) header.size
          (subst (λ (g : Option ℕ). FailsFor (no_room g (length mid.bytes) (sizes attributes)) result) header.spends.greatest (added.answer none));
      memory = λ is. exceeds_header old mid (adds attributes) header.spends (lacking result mid new (adds attributes) added.takes is);
      spends = on_any result (record {
        greatest = spent.greatest ∙ header.spends.greatest;
        slice_name = spent.slice_name ∙ header.spends.slice_name;
        ready_bytes = omega (arith, spent.ready_bytes, header.spends.ready_bytes);
        ready_types = omega (arith, spent.ready_types, header.spends.ready_types);
      });
    }
  where
    on_any : {P : Type 0} (r : Result (Unit {0}) StunWriteError) → P → OnOk r P
    on_any (Ok done) is = is
    on_any (Err e) is = tt

-- ---- A FINGERPRINT

only_room : (types : List ℕ) (len : ℕ) (greatest : Option ℕ) → first_of (barring_types finger) types ≡ None → add_refusal finger types len greatest ≡ room_refusal len greatest (grown_length len 4)
unfolding order_refusal
only_room types len greatest none = ap (λ (o : Option ℕ). option_or (option_map (exists_refusal finger) o) (room_refusal len greatest (grown_length len 4))) none

-- what isn't blocked is refused for want of room alone
fails : (room : Option StunWriteError) (P : Type 0) (r : Result (Unit {0}) StunWriteError) → IsAddAnswer room P r → FailsFor (option_or room None) r
fails None P (Ok done) reported = refl
fails None P (Err e) reported = inl reported.0
fails (Some x) P (Ok done) reported = absurd cc
fails (Some x) P (Err e) reported = inr (ap (λ (q : Result (Unit {0}) StunWriteError). Some (error_of x q)) (sym reported))
  where
    error_of : StunWriteError → Result (Unit {0}) StunWriteError → StunWriteError
    error_of other (Ok done) = other
    error_of other (Err e) = e

printed : (r : Result (Unit {0}) StunWriteError) (old new : Writer) → Adds r old new FINGERPRINT (fingerprint_value old.bytes (length old.bytes)) → IsAddAnswer (add_refusal finger old.types (length old.bytes) old.greatest) (Allocates old 4) r
    → Ends r old new (finished true) (print_steps true) (no_room old.greatest (length old.bytes) (step_sizes (print_steps true)))
unfolding appended_by
printed r old new adds reported = record {
  written = λ kind id before so_far.
      let message = message_encoding kind id before in
      let long : length (fingerprint_value message (length message)) ≡ 4 = fingerprint_length message (length message) in
      on_ok r (λ (g : Gains old new FINGERPRINT (fingerprint_value old.bytes (length old.bytes))).
      g.bytes ∙ ap (λ (b : List ℕ). appended b FINGERPRINT (fingerprint_value b (length b))) so_far
      ∙ message_more kind id before FINGERPRINT (fingerprint_value message (length message)) (lit< tt) (omega (arith, long))) adds.ok;
  answer = λ none. fails _ (Allocates old 4) r (subst (λ (o : Option StunWriteError). IsAddAnswer o (Allocates old 4) r) (only_room old.types (length old.bytes) old.greatest (free finger old.types none)) reported);
  memory = lacking r old new (finger ∷ []) (one_taken finger r old new FINGERPRINT (fingerprint_value old.bytes (length old.bytes)) refl (fingerprint_length old.bytes (length old.bytes)) refl adds.ok adds.err adds.spends reported);
}

-- one is wanted
pub print_ends : (wanted : Bool) (r : Result (Unit {0}) StunWriteError) (old new : Writer) → wanted ≡ true → Adds r old new FINGERPRINT (fingerprint_value old.bytes (length old.bytes))
    → IsAddAnswer (add_refusal finger old.types (length old.bytes) old.greatest) (Allocates old 4) r → Ends r old new (finished wanted) (print_steps wanted) (no_room old.greatest (length old.bytes) (step_sizes (print_steps wanted)))
print_ends wanted r old new is adds reported =
    subst (λ (b : Bool). Ends r old new (finished b) (print_steps b) (no_room old.greatest (length old.bytes) (step_sizes (print_steps b)))) (sym is) (printed r old new adds reported)

-- none is wanted
pub nothing_ends : (wanted : Bool) (old : Writer) → wanted ≡ false → Ends (Ok tt) old old (finished wanted) (print_steps wanted) (no_room old.greatest (length old.bytes) (step_sizes (print_steps wanted)))
nothing_ends wanted old is = subst (λ (b : Bool). Ends (Ok tt) old old (finished b) (print_steps b) (no_room old.greatest (length old.bytes) (step_sizes (print_steps b)))) (sym is) (record {
  written = λ kind id before so_far. so_far;
  answer = λ none. refl;
  memory = λ is. absurd cc;
})

-- ---- Credentials

refused : (result : Result (Unit {0}) StunWriteError) (old new : Writer) (finish : ℕ → ℕ → List Attribute → List Attribute) (steps : List Step) (e : StunWriteError) → (Some e ≡ Some OutOfMemory → ⊥) → FailsBy result old new e
    → Ends result old new finish steps (Some e)
refused result old new finish steps e other by = subst (λ (r : Result (Unit {0}) StunWriteError). Ends r old new finish steps (Some e)) (sym by.0) (record {
  written = λ kind id before so_far. tt;
  answer = λ none. inr refl;
  memory = λ is. absurd (other (error_is e is));
})
  where
    Same : Result (Unit {0}) StunWriteError → Result (Unit {0}) StunWriteError → Type 0
    Same a b = a ≡ b

    error_is : (e : StunWriteError) → Same (Err e) (Err OutOfMemory) → Some e ≡ Some OutOfMemory
    error_is e is = cc

-- the name, the key, or what doesn't fit
pub login_ends : (name sign : Option StunWriteError) (result : Result (Unit {0}) StunWriteError) (old new : Writer) (finish : ℕ → ℕ → List Attribute → List Attribute) (steps : List Step)
    → (name ≡ Some OutOfMemory → ⊥) → (sign ≡ Some OutOfMemory → ⊥)
    → MatchOption name (MatchOption sign (Finishes result old new finish steps) (FailsBy result old new)) (FailsBy result old new)
    → Ends result old new finish steps (option_or (option_or name sign) (no_room old.greatest (length old.bytes) (step_sizes steps)))
login_ends None None result old new finish steps p q ends = record {
  written = ends.written;
  answer = ends.answer;
  memory = lacking result old new steps ends.takes;
}
login_ends None (Some e) result old new finish steps p q by = refused result old new finish steps e q by
login_ends (Some e) sign result old new finish steps p q by = refused result old new finish steps e p by

-- ---- The whole

still : (x more : Option StunWriteError) (e : StunWriteError) → FailsFor {T = Unit {0}} x (Err e) → (e ≡ OutOfMemory) ⊎ (option_or x more ≡ Some e)
still x more e (inl memory) = inl memory
still x more e (inr is) = inr (ap (λ (o : Option StunWriteError). option_or o more) is)

-- it isn't begun
pub not_whole : (result : Result (Unit {0}) StunWriteError) (e : StunWriteError) (old new : Writer) (kind id : ℕ) (attributes : List Attribute) (more : Option StunWriteError) → Begins (Err e) old new kind id attributes
    → IsErr result × IsErrAnd result (λ made. made ≡ e) → FailsFor (option_or (no_room old.greatest 20 (sizes attributes)) more) result
not_whole result e old new kind id attributes more begins reported =
    subst (λ (r : Result (Unit {0}) StunWriteError). FailsFor (option_or (no_room old.greatest 20 (sizes attributes)) more) r) (sym (passed_on result e reported)) (still (no_room old.greatest 20 (sizes attributes)) more e begins.answer)

pub not_whole_memory : (result : Result (Unit {0}) StunWriteError) (e : StunWriteError) (old new : Writer) (kind id : ℕ) (attributes : List Attribute) (steps : List Step) → Begins (Err e) old new kind id attributes
    → IsErr result × IsErrAnd result (λ made. made ≡ e) → result ≡ Err OutOfMemory → Exceeds old (adds attributes ++ steps)
not_whole_memory result e old new kind id attributes steps begins reported is =
    exceeds_more old (adds attributes) steps (begins.memory (sym (passed_on result e reported) ∙ is))

-- it is begun, and ended
pub whole_fails : (done : Unit {0}) (result : Result (Unit {0}) StunWriteError) (old mid new : Writer) (kind id : ℕ) (attributes : List Attribute) (finish : ℕ → ℕ → List Attribute → List Attribute) (steps : List Step)
    (refusal : Option ℕ → ℕ → Option StunWriteError) → Begins (Ok done) old mid kind id attributes → Ends result mid new finish steps (refusal mid.greatest (length mid.bytes))
    → FailsFor (option_or (no_room old.greatest 20 (sizes attributes)) (refusal old.greatest (length (message_encoding kind id attributes)))) result
whole_fails done result old mid new kind id attributes finish steps refusal begins ends =
    let now = subst (λ (b : List ℕ). FailsFor (refusal old.greatest (length b)) result) begins.bytes (subst (λ (g : Option ℕ). FailsFor (refusal g (length mid.bytes)) result) begins.greatest (ends.answer begins.unended)) in
    subst (λ (o : Option StunWriteError). FailsFor (option_or o (refusal old.greatest (length (message_encoding kind id attributes)))) result) (sym begins.answer) now

pub whole_memory : (done : Unit {0}) (result : Result (Unit {0}) StunWriteError) (old mid new : Writer) (kind id : ℕ) (attributes : List Attribute) (finish : ℕ → ℕ → List Attribute → List Attribute) (steps : List Step)
    (refusal : Option StunWriteError) → Begins (Ok done) old mid kind id attributes → Ends result mid new finish steps refusal → result ≡ Err OutOfMemory → Exceeds old (adds attributes ++ steps)
whole_memory done result old mid new kind id attributes finish steps refusal begins ends is = exceeds_then old mid (adds attributes) steps begins.spends (ends.memory is)
