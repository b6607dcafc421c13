-- Steps that are taken one after the other.
use Rattle.std.proofs.Common.{◌≤◌, ◌≡◌, ℕ, ◌+◌, List, [], ◌∷◌, ◌++◌, length, map, Option, None, Some, Result, Ok, Err, inl, inr, refl, sym, ap, ◌∙◌, append_assoc, arith}
use Rattle.std.specs.Prelude.{◌⊎◌, OnOk, OnErr, MatchResult, drop}
use Rattle.std.specs.Result.{IsErr, IsErrAnd}
use Rattle.std.specs.Option.{option_or}
use Rattle.std.proofs.lemmas.List.{length-append, map-append, append-nil, drop-drop, drop-append-le}
use Rattle.stun_grammar.specs.declared.error.StunWriteError.{StunWriteError}
use Rattle.stun_grammar.specs.declared.error.StunWriteError.TheVariants.{OutOfMemory}
use Rattle.stun_grammar.specs.Adding.{appended, grown_length, add_refusal, IsAddAnswer}
use Rattle.stun_grammar.specs.Attributes.{attribute_length, attribute_encoding}
use Rattle.stun_grammar.specs.Steps.{Step, value_length}
use Rattle.stun_grammar.proofs.AddingRefusedLemmas.{no_refusal}
use Rattle.stun_types.specs.Resuming.{after_step, after_steps}
use Rattle.stun_types.specs.Writers.{Writer, Gains, Spends, IsUnchanged, Allocates}
use Rattle.stun_authentication.specs.Writing.{step_type, steps_length, steps_refusal, refusal_by, Lacks, KeepsAttributes, TakesSteps}

-- ---- Two lists of steps

pub steps_length-append : (xs ys : List Step) → steps_length (xs ++ ys) ≡ steps_length xs + steps_length ys
steps_length-append [] ys = omega arith
steps_length-append (x ∷ xs) ys = omega (arith, steps_length-append xs ys)

pub after_steps-append : (message : List ℕ) (xs ys : List Step) → after_steps message (xs ++ ys) ≡ after_steps (after_steps message xs) ys
unfolding after_steps
after_steps-append message [] ys = refl
after_steps-append message (x ∷ xs) ys = after_steps-append (after_step message x) xs ys

-- steps after a message with the same types and the same length
same_place : (steps : List Step) (s t : List ℕ) (m n : ℕ) (greatest : Option ℕ) → s ≡ t → m ≡ n → steps_refusal steps s m greatest ≡ steps_refusal steps t n greatest
same_place steps s t m n greatest types len = ap (λ (u : List ℕ). steps_refusal steps u m greatest) types ∙ ap (λ (k : ℕ). steps_refusal steps t k greatest) len

regrouped : (o p q : Option StunWriteError) → option_or o (option_or p q) ≡ option_or (option_or o p) q
regrouped None p q = refl
regrouped (Some x) p q = refl

pub steps_refusal-append : (xs ys : List Step) (types : List ℕ) (len : ℕ) (greatest : Option ℕ)
    → steps_refusal (xs ++ ys) types len greatest ≡ option_or (steps_refusal xs types len greatest) (steps_refusal ys (types ++ map step_type xs) (len + steps_length xs) greatest)
steps_refusal-append [] ys types len greatest = same_place ys types (types ++ []) len (len + 0) greatest (sym (append-nil types)) (omega arith)
steps_refusal-append (x ∷ xs) ys types len greatest =
    let one = add_refusal x types len greatest in
    let more = types ++ step_type x ∷ [] in
    let longer = grown_length len (value_length x) in
    ap (option_or one) (steps_refusal-append xs ys more longer greatest)
    ∙ regrouped one (steps_refusal xs more longer greatest) (steps_refusal ys (more ++ map step_type xs) (longer + steps_length xs) greatest)
    ∙ ap (option_or (option_or one (steps_refusal xs more longer greatest)))
    (same_place ys (more ++ map step_type xs) (types ++ map step_type (x ∷ xs)) (longer + steps_length xs) (len + steps_length (x ∷ xs)) greatest (append_assoc types (step_type x ∷ []) (map step_type xs)) (omega arith))

-- ---- One step

pub on_ok : {T A B : Type 0} (r : Result T StunWriteError) → (A → B) → OnOk r A → OnOk r B
on_ok (Ok done) f x = f x
on_ok (Err e) f x = tt

one_answer : (x : Option StunWriteError) (P L : Type 0) (r : Result (Unit {0}) StunWriteError) → (x ≡ None → P → L) → IsAddAnswer x P r
    → MatchResult r (λ _. option_or x None ≡ None) (λ e. (option_or x None ≡ Some e) ⊎ ((e ≡ OutOfMemory) × L))
one_answer None P L (Ok done) f reported = refl
one_answer None P L (Err e) f reported = inr (reported.0, f refl reported.1)
one_answer (Some x) P L (Ok done) f reported = absurd cc
one_answer (Some x) P L (Err e) f reported = inl (ap (λ r. Some (error_of x r)) (sym reported))
  where
    error_of : StunWriteError → Result (Unit {0}) StunWriteError → StunWriteError
    error_of other (Ok done) = other
    error_of other (Err e) = e

unrefused : (x : Option StunWriteError) (P : Type 0) (done : Unit {0}) → IsAddAnswer x P (Ok done) → x ≡ None
unrefused None P done reported = refl
unrefused (Some x) P done reported = absurd cc

behind_appended : (message : List ℕ) (type : ℕ) (value : List ℕ) → 20 ≤ length message → drop 20 (appended message type value) ≡ drop 20 (message ++ attribute_encoding type value)
unfolding appended
behind_appended [] type value long = absurd (omega (arith, long))
behind_appended (a ∷ []) type value long = absurd (omega (arith, long))
behind_appended (a ∷ b ∷ []) type value long = absurd (omega (arith, long))
behind_appended (a ∷ b ∷ c ∷ []) type value long = absurd (omega (arith, long))
behind_appended (a ∷ b ∷ c ∷ f ∷ d) type value long = refl

-- a step is taken, or it is refused
pub one_taken : (step : Step) (r : Result (Unit {0}) StunWriteError) (old new : Writer) (type : ℕ) (value : List ℕ) → type ≡ step_type step → length value ≡ value_length step
    → appended old.bytes type value ≡ after_step old.bytes step → OnOk r (Gains old new type value) → OnErr r (IsUnchanged old new) → Spends old new (attribute_length (length value)) 1
    → IsAddAnswer (add_refusal step old.types (length old.bytes) old.greatest) (Allocates old (value_length step)) r → TakesSteps r old new (step ∷ [])
unfolding after_steps
one_taken step r old new type value t n is gains same spends reported =
    let size : attribute_length (length value) ≡ attribute_length (value_length step) = ap attribute_length n in
    record {
      answer = one_answer (add_refusal step old.types (length old.bytes) old.greatest) (Allocates old (value_length step)) (Lacks old (step ∷ [])) r lacking reported;
      bytes = on_ok r (λ (g : Gains old new type value). g.bytes ∙ is) gains;
      types = on_ok r (λ (g : Gains old new type value). g.types ∙ ap (λ (k : ℕ). old.types ++ k ∷ []) t) gains;
      size = on_ok r (λ (g : Gains old new type value). g.size ∙ omega (arith, size)) gains;
      rest = on_ok r (λ (g : Gains old new type value). g.rest ∙ ap (λ (k : ℕ). drop k old.rest) (whole size)) gains;
      spends = record {
        greatest = spends.greatest;
        slice_name = spends.slice_name;
        ready_bytes = omega (arith, spends.ready_bytes, size);
        ready_types = omega (arith, spends.ready_types);
      };
      keeps = keeps_one r gains same reported;
    }
  where
    keeps_one : (r : Result (Unit {0}) StunWriteError) → OnOk r (Gains old new type value) → OnErr r (IsUnchanged old new) → IsAddAnswer (add_refusal step old.types (length old.bytes) old.greatest) (Allocates old (value_length step)) r → KeepsAttributes old.bytes new.bytes
    keeps_one (Ok done) gained same reported =
        let long = (no_refusal step old.types (length old.bytes) old.greatest (unrefused (add_refusal step old.types (length old.bytes) old.greatest) (Allocates old (value_length step)) done reported)).header in
        record {
          more = attribute_encoding type value;
          kept = ap (drop 20) gained.bytes ∙ behind_appended old.bytes type value long ∙ drop-append-le 20 old.bytes (attribute_encoding type value) long;
          longer = omega (arith, gained.size);
        }
    keeps_one (Err e) gained same reported = record {
      more = [];
      kept = ap (drop 20) same.bytes ∙ sym (append-nil (drop 20 old.bytes));
      longer = omega (arith, ap length same.bytes);
    }

    whole : attribute_length (length value) ≡ attribute_length (value_length step) → attribute_length (length value) ≡ steps_length (step ∷ [])
    whole size = omega (arith, size)

    lacking : add_refusal step old.types (length old.bytes) old.greatest ≡ None → Allocates old (value_length step) → Lacks old (step ∷ [])
    lacking none allocates = record {
      first = step ∷ [];
      behind = [];
      steps_are = refl;
      taken = ap (λ (o : Option StunWriteError). option_or o None) none;
      lacks = elim allocates [
        | inl bytes ↦ inl (omega (arith, bytes))
        | inr types ↦ inr types
      ];
    }

-- ---- Many

-- what `?` returns of an error is that error
pub passed_on : {T : Type 0} (result : Result T StunWriteError) (e : StunWriteError) → IsErr result × IsErrAnd result (λ made. made ≡ e) → result ≡ Err e
passed_on (Ok done) e reported = absurd (cc reported.0)
passed_on (Err made) e reported = ap Err reported.1

-- if some aren't all taken, more aren't
pub cut_off : {T U : Type 0} (e : StunWriteError) (old new : Writer) (xs ys : List Step) → TakesSteps {T = T} (Err e) old new xs → TakesSteps {T = U} (Err e) old new (xs ++ ys)
cut_off e old new xs ys one = record {
  answer = elim one.answer [
    | inl is ↦ inl (steps_refusal-append xs ys old.types (length old.bytes) old.greatest ∙ ap (λ (o : Option StunWriteError). option_or o (steps_refusal ys (old.types ++ map step_type xs) (length old.bytes + steps_length xs) old.greatest)) is)
    | inr memory ↦ inr (
      memory.0,
      record {
        first = memory.1.first;
        behind = memory.1.behind ++ ys;
        steps_are = ap (λ (zs : List Step). zs ++ ys) memory.1.steps_are ∙ append_assoc memory.1.first memory.1.behind ys;
        taken = memory.1.taken;
        lacks = memory.1.lacks;
      },
    )
  ];
  bytes = tt;
  types = tt;
  size = tt;
  rest = tt;
  spends = record {
    greatest = one.spends.greatest;
    slice_name = one.spends.slice_name;
    ready_bytes = omega (arith, one.spends.ready_bytes, steps_length-append xs ys);
    ready_types = omega (arith, one.spends.ready_types, length-append xs ys);
  };
  keeps = one.keeps;
}

-- some are taken, and then others
pub one_then : {T : Type 0} (done : Unit {0}) (result : Result T StunWriteError) (old mid new : Writer) (xs ys : List Step) → TakesSteps (Ok done) old mid xs → TakesSteps result mid new ys → TakesSteps result old new (xs ++ ys)
one_then {T} done result old mid new xs ys one two = record {
  answer = answer result two.answer;
  bytes = on_ok result (λ (e : new.bytes ≡ after_steps mid.bytes ys). e ∙ ap (λ (m : List ℕ). after_steps m ys) one.bytes ∙ sym (after_steps-append old.bytes xs ys)) two.bytes;
  types = on_ok result (λ (e : new.types ≡ mid.types ++ map step_type ys). e ∙ ap (λ (ts : List ℕ). ts ++ map step_type ys) one.types ∙ append_assoc old.types (map step_type xs) (map step_type ys) ∙ ap (λ (ts : List ℕ). old.types ++ ts) (sym (map-append step_type xs ys))) two.types;
  size = on_ok result (λ (e : length new.bytes ≡ length mid.bytes + steps_length ys). longer e) two.size;
  rest = on_ok result (λ (e : new.rest ≡ drop (steps_length ys) mid.rest). e ∙ ap (λ (r : List ℕ). drop (steps_length ys) r) one.rest ∙ drop-drop (steps_length ys) (steps_length xs) old.rest ∙ ap (λ (k : ℕ). drop k old.rest) both) two.rest;
  spends = record {
    greatest = two.spends.greatest ∙ one.spends.greatest;
    slice_name = two.spends.slice_name ∙ one.spends.slice_name;
    ready_bytes = omega (arith, one.spends.ready_bytes, two.spends.ready_bytes, steps_length-append xs ys);
    ready_types = omega (arith, one.spends.ready_types, two.spends.ready_types, length-append xs ys);
  };
  keeps = record {
    more = one.keeps.more ++ two.keeps.more;
    kept = two.keeps.kept ∙ ap (λ (l : List ℕ). l ++ two.keeps.more) one.keeps.kept ∙ append_assoc (drop 20 old.bytes) one.keeps.more two.keeps.more;
    longer = omega (arith, one.keeps.longer, two.keeps.longer);
  };
}
  where
    both : steps_length xs + steps_length ys ≡ steps_length (xs ++ ys)
    both = sym (steps_length-append xs ys)

    longer : length new.bytes ≡ length mid.bytes + steps_length ys → length new.bytes ≡ length old.bytes + steps_length (xs ++ ys)
    longer e = omega (arith, e, one.size, steps_length-append xs ys)

    -- the others go on where the first end
    moved : (zs : List Step) → refusal_by old (xs ++ zs) ≡ refusal_by mid zs
    moved zs =
        steps_refusal-append xs zs old.types (length old.bytes) old.greatest
        ∙ ap (λ (o : Option StunWriteError). option_or o (steps_refusal zs (old.types ++ map step_type xs) (length old.bytes + steps_length xs) old.greatest)) one.answer
        ∙ same_place zs (old.types ++ map step_type xs) mid.types (length old.bytes + steps_length xs) (length mid.bytes) old.greatest (sym one.types) (sym one.size)
        ∙ ap (λ (g : Option ℕ). steps_refusal zs mid.types (length mid.bytes) g) (sym one.spends.greatest)

    lacking : Lacks mid ys → Lacks old (xs ++ ys)
    lacking short = record {
      first = xs ++ short.first;
      behind = short.behind;
      steps_are = ap (λ (zs : List Step). xs ++ zs) short.steps_are ∙ sym (append_assoc xs short.first short.behind);
      taken = moved short.first ∙ short.taken;
      lacks = elim short.lacks [
        | inl bytes ↦ inl (omega (arith, bytes, one.spends.ready_bytes, steps_length-append xs short.first))
        | inr types ↦ inr (omega (arith, types, one.spends.ready_types, length-append xs short.first))
      ];
    }

    answer : (r : Result T StunWriteError) → MatchResult r (λ _. refusal_by mid ys ≡ None) (λ e. (refusal_by mid ys ≡ Some e) ⊎ ((e ≡ OutOfMemory) × Lacks mid ys))
        → MatchResult r (λ _. refusal_by old (xs ++ ys) ≡ None) (λ e. (refusal_by old (xs ++ ys) ≡ Some e) ⊎ ((e ≡ OutOfMemory) × Lacks old (xs ++ ys)))
    answer (Ok u) none = moved ys ∙ none
    answer (Err e) (inl is) = inl (moved ys ∙ is)
    answer (Err e) (inr memory) = inr (memory.0, lacking memory.1)

-- none is taken
pub none_taken : (old : Writer) (done : Unit {0}) → TakesSteps (Ok done) old old []
unfolding after_steps
none_taken old done = record {
  answer = refl;
  bytes = refl;
  types = sym (append-nil old.types);
  size = omega arith;
  rest = refl;
  spends = record { greatest = refl; slice_name = refl; ready_bytes = omega arith; ready_types = omega arith };
  keeps = record { more = []; kept = sym (append-nil (drop 20 old.bytes)); longer = omega arith };
}
