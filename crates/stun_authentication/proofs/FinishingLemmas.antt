-- A message that is signed, and gets a FINGERPRINT.
use Rattle.std.proofs.Common.{◌≡◌, ℕ, ◌^◌, ◌<◌, Bool, true, false, List, [], ◌∷◌, ◌++◌, length, Option, None, Some, Result, Ok, Err, inl, inr, refl, sym, ap, ◌∙◌, subst, lit<, arith}
use Rattle.std.specs.Prelude.{◌⊎◌, OnOk}
use Rattle.std.specs.Result.{IsErr, IsErrAnd}
use Rattle.std.specs.Option.{option_or, option_map}
use Rattle.stun_grammar.specs.declared.error.StunWriteError.{StunWriteError}
use Rattle.stun_grammar.specs.declared.error.StunWriteError.TheVariants.{OutOfMemory}
use Rattle.stun_grammar.specs.declared.integrity_algorithm.IntegrityAlgorithm.{IntegrityAlgorithm}
use Rattle.stun_grammar.specs.declared.integrity_algorithm.IntegrityAlgorithm.TheVariants.{Sha1, Sha256}
use Rattle.stun_grammar.specs.Adding.{appended, grown_length, first_of, exists_refusal, order_refusal, room_refusal, add_refusal, IsAddAnswer}
use Rattle.stun_grammar.specs.Attributes.{Attribute}
use Rattle.stun_grammar.specs.AttributeTypes.{FINGERPRINT}
use Rattle.stun_grammar.specs.Fingerprints.{fingerprint_value}
use Rattle.stun_grammar.specs.Hmac.{digest_length}
use Rattle.stun_grammar.specs.Steps.{Step, sign, finger, appended_by, with_step, barring_types, value_length, integrity_value, signed_bytes}
use Rattle.stun_grammar.specs.Verdicts.{type_of_algorithm}
use Rattle.stun_grammar.specs.Writing.{message_encoding}
use Rattle.stun_grammar.proofs.AddingLemmas.{message_more, fingerprint_length}
use Rattle.stun_grammar.proofs.HmacLemmas.{hmac_has_length}
use Rattle.stun_types.specs.Writers.{Writer, Gains, Adds, Allocates}
use Rattle.stun_authentication.specs.Writing.{no_room, sizes, step_sizes, adds, FailsFor, step_type, TakesSteps, Lengthens, print_steps, Finishes, signed, finished}
use Rattle.stun_authentication.proofs.AddedLemmas.{longer, longer_is, no_room-append}
use Rattle.stun_authentication.proofs.TakenLemmas.{passed_on, on_ok, one_taken, one_then, cut_off, none_taken}
use Rattle.stun_authentication.proofs.TypesLemmas.{free, free_append}

-- ---- One step

pub record OneStep (step : Step) (r : Result (Unit {0}) StunWriteError) (old new : Writer) : Type 0 where
  pub written : (kind id : ℕ) (before : List Attribute) → old.bytes ≡ message_encoding kind id before → OnOk r (new.bytes ≡ message_encoding kind id (with_step kind id before step))
  pub answer : first_of (barring_types step) old.types ≡ None → FailsFor (room_refusal (length old.bytes) old.greatest (grown_length (length old.bytes) (value_length step))) r
  pub types : OnOk r (new.types ≡ old.types ++ step_type step ∷ [])
  pub size : OnOk r (length new.bytes ≡ grown_length (length old.bytes) (value_length step))
  pub takes : TakesSteps r old new (step ∷ [])

fails : (room : Option StunWriteError) (P : Type 0) (r : Result (Unit {0}) StunWriteError) → IsAddAnswer room P r → FailsFor room r
fails None P (Ok done) reported = refl
fails None P (Err e) reported = inl reported.0
fails (Some x) P (Ok done) reported = absurd cc
fails (Some x) P (Err e) reported = inr (ap (λ (q : Result (Unit {0}) StunWriteError). Some (error_of x q)) (sym reported))
  where
    error_of : StunWriteError → Result (Unit {0}) StunWriteError → StunWriteError
    error_of other (Ok done) = other
    error_of other (Err e) = e

only_room : (step : Step) (types : List ℕ) (len : ℕ) (greatest : Option ℕ) → first_of (barring_types step) types ≡ None → add_refusal step types len greatest ≡ room_refusal len greatest (grown_length len (value_length step))
unfolding order_refusal
only_room step types len greatest none = ap (λ (o : Option ℕ). option_or (option_map (exists_refusal step) o) (room_refusal len greatest (grown_length len (value_length step)))) none

sign_fits : (a : IntegrityAlgorithm) → (type_of_algorithm a < 2 ^ 16) × (digest_length a < 2 ^ 16)
sign_fits Sha1 = (lit< tt, lit< tt)
sign_fits Sha256 = (lit< tt, lit< tt)

pub sign_step : (a : IntegrityAlgorithm) (key : List ℕ) (r : Result (Unit {0}) StunWriteError) (old new : Writer) → Adds r old new (type_of_algorithm a) (integrity_value old.bytes key a)
    → IsAddAnswer (add_refusal (sign a key) old.types (length old.bytes) old.greatest) (Allocates old (digest_length a)) r → OneStep (sign a key) r old new
unfolding appended_by
sign_step a key r old new adds reported =
    let value = integrity_value old.bytes key a in
    let n : length value ≡ digest_length a = hmac_has_length a key (signed_bytes old.bytes a) in
    record {
      written = λ kind id before so_far.
          let message = message_encoding kind id before in
          let long : length (integrity_value message key a) ≡ digest_length a = hmac_has_length a key (signed_bytes message a) in
          on_ok r (λ (g : Gains old new (type_of_algorithm a) value).
          g.bytes ∙ ap (λ (b : List ℕ). appended b (type_of_algorithm a) (integrity_value b key a)) so_far
          ∙ message_more kind id before (type_of_algorithm a) (integrity_value message key a) (sign_fits a).0 (omega (arith, long, (sign_fits a).1))) adds.ok;
      answer = λ none. fails _ (Allocates old (digest_length a)) r (subst (λ (o : Option StunWriteError). IsAddAnswer o (Allocates old (digest_length a)) r) (only_room (sign a key) old.types (length old.bytes) old.greatest none) reported);
      types = on_ok r (λ (g : Gains old new (type_of_algorithm a) value). g.types) adds.ok;
      size = on_ok r (λ (g : Gains old new (type_of_algorithm a) value). g.size ∙ ap (λ (k : ℕ). grown_length (length old.bytes) k) n) adds.ok;
      takes = one_taken (sign a key) r old new (type_of_algorithm a) value refl n refl adds.ok adds.err adds.spends reported;
    }

pub finger_step : (r : Result (Unit {0}) StunWriteError) (old new : Writer) → Adds r old new FINGERPRINT (fingerprint_value old.bytes (length old.bytes))
    → IsAddAnswer (add_refusal finger old.types (length old.bytes) old.greatest) (Allocates old 4) r → OneStep finger r old new
unfolding appended_by
finger_step r old new adds reported =
    let value = fingerprint_value old.bytes (length old.bytes) in
    record {
      written = λ kind id before so_far.
          let message = message_encoding kind id before in
          let long : length (fingerprint_value message (length message)) ≡ 4 = fingerprint_length message (length message) in
          on_ok r (λ (g : Gains old new FINGERPRINT value).
          g.bytes ∙ ap (λ (b : List ℕ). appended b FINGERPRINT (fingerprint_value b (length b))) so_far
          ∙ message_more kind id before FINGERPRINT (fingerprint_value message (length message)) (lit< tt) (omega (arith, long))) adds.ok;
      answer = λ none. fails _ (Allocates old 4) r (subst (λ (o : Option StunWriteError). IsAddAnswer o (Allocates old 4) r) (only_room finger old.types (length old.bytes) old.greatest none) reported);
      types = on_ok r (λ (g : Gains old new FINGERPRINT value). g.types) adds.ok;
      size = on_ok r (λ (g : Gains old new FINGERPRINT value). g.size ∙ ap (λ (k : ℕ). grown_length (length old.bytes) k) (fingerprint_length old.bytes (length old.bytes))) adds.ok;
      takes = one_taken finger r old new FINGERPRINT value refl (fingerprint_length old.bytes (length old.bytes)) refl adds.ok adds.err adds.spends reported;
    }

-- ---- Both

abbrev pub Done : (fingerprint : Bool) → Result (Unit {0}) StunWriteError → Writer → Writer → IntegrityAlgorithm → List ℕ → Type 0
Done fingerprint r old new a key = Finishes r old new (λ kind id before. finished fingerprint kind id (signed kind id before a key)) (sign a key ∷ print_steps fingerprint)

still : (x : Option StunWriteError) (more : Option StunWriteError) (e : StunWriteError) → (e ≡ OutOfMemory) ⊎ (x ≡ Some e) → (e ≡ OutOfMemory) ⊎ (option_or x more ≡ Some e)
still x more e (inl memory) = inl memory
still x more e (inr is) = inr (ap (λ (o : Option StunWriteError). option_or o more) is)

-- it can't be signed
pub unsigned : (fingerprint : Bool) (r : Result (Unit {0}) StunWriteError) (old new : Writer) (a : IntegrityAlgorithm) (key : List ℕ) (e : StunWriteError) → OneStep (sign a key) (Err e) old new → IsErr r × IsErrAnd r (λ made. made ≡ e) → Done fingerprint r old new a key
unsigned fingerprint r old new a key e one reported = subst (λ (q : Result (Unit {0}) StunWriteError). Done fingerprint q old new a key) (sym (passed_on r e reported)) (record {
  written = λ kind id before so_far. tt;
  answer = λ none. still _ _ e (one.answer (free (sign a key) old.types none));
  takes = cut_off e old new (sign a key ∷ []) (print_steps fingerprint) one.takes;
})

-- it is signed, and no more is asked for
pub only_signed : (u v : Unit {0}) (old new : Writer) (a : IntegrityAlgorithm) (key : List ℕ) → OneStep (sign a key) (Ok u) old new → Done false (Ok v) old new a key
only_signed u v old new a key one = record {
  written = λ kind id before so_far. one.written kind id before so_far;
  answer = λ none. ap (λ (o : Option StunWriteError). option_or o None) (one.answer (free (sign a key) old.types none));
  takes = one.takes;
}

own_bars : (a : IntegrityAlgorithm) → first_of (barring_types finger) (type_of_algorithm a ∷ []) ≡ None
own_bars Sha1 = refl
own_bars Sha256 = refl

fails_with : (x y : Option StunWriteError) (r : Result (Unit {0}) StunWriteError) → x ≡ None → FailsFor y r → FailsFor (option_or x (option_or y None)) r
fails_with x None (Ok v) none is = ap (λ (o : Option StunWriteError). option_or o None) none
fails_with x (Some y) (Ok v) none is = absurd cc
fails_with x y (Err e) none (inl memory) = inl memory
fails_with x y (Err e) none (inr is) = inr (ap (λ (o : Option StunWriteError). option_or o (option_or y None)) none ∙ ap (λ (o : Option StunWriteError). option_or o None) is)

-- it is signed, and gets a FINGERPRINT or not
pub both_steps : (u : Unit {0}) (r : Result (Unit {0}) StunWriteError) (old mid new : Writer) (a : IntegrityAlgorithm) (key : List ℕ) → OneStep (sign a key) (Ok u) old mid → OneStep finger r mid new → Done true r old new a key
both_steps u r old mid new a key one two = record {
  written = λ kind id before so_far. two.written kind id (signed kind id before a key) (one.written kind id before so_far);
  answer = λ none.
      let bars = ap (first_of (barring_types finger)) one.types ∙ free_append (barring_types finger) old.types (type_of_algorithm a ∷ []) (free finger old.types none) (own_bars a) in
      let room : FailsFor (room_refusal (grown_length (length old.bytes) (digest_length a)) old.greatest (grown_length (grown_length (length old.bytes) (digest_length a)) 4)) r =
      subst (λ (n : ℕ). FailsFor (room_refusal n old.greatest (grown_length n 4)) r) one.size (subst (λ (g : Option ℕ). FailsFor (room_refusal (length mid.bytes) g (grown_length (length mid.bytes) 4)) r) one.takes.spends.greatest (two.answer bars)) in
      fails_with _ _ r (one.answer (free (sign a key) old.types none)) room;
  takes = one_then u r old mid new (sign a key ∷ []) (finger ∷ []) one.takes two.takes;
}

pub after_error : (r : Result (Unit {0}) StunWriteError) (e : StunWriteError) (old new : Writer) (a : IntegrityAlgorithm) (key : List ℕ) → Done true (Err e) old new a key → IsErr r × IsErrAnd r (λ made. made ≡ e) → Done true r old new a key
after_error r e old new a key so reported = subst (λ (q : Result (Unit {0}) StunWriteError). Done true q old new a key) (sym (passed_on r e reported)) so

pub as_asked : (reported fingerprint : Bool) (r : Result (Unit {0}) StunWriteError) (old new : Writer) (a : IntegrityAlgorithm) (key : List ℕ) → reported ≡ fingerprint → Done fingerprint r old new a key → Done reported r old new a key
as_asked reported fingerprint r old new a key e so = subst (λ (b : Bool). Done b r old new a key) (sym e) so

-- ---- A FINGERPRINT alone

alone : (x : Option StunWriteError) (r : Result (Unit {0}) StunWriteError) → FailsFor x r → FailsFor (option_or x None) r
alone None r fails = fails
alone (Some x) r fails = fails

pub only_printed : (wanted : Bool) (r : Result (Unit {0}) StunWriteError) (old new : Writer) → wanted ≡ true → OneStep finger r old new → Finishes r old new (finished wanted) (print_steps wanted)
only_printed wanted r old new is one = subst (λ (b : Bool). Finishes r old new (finished b) (print_steps b)) (sym is) (record {
  written = λ kind id before so_far. one.written kind id before so_far;
  answer = λ none. alone _ r (one.answer (free finger old.types none));
  takes = one.takes;
})

-- none is wanted
pub unprinted : (wanted : Bool) (done : Unit {0}) (old : Writer) → wanted ≡ false → Finishes (Ok done) old old (finished wanted) (print_steps wanted)
unprinted wanted done old is = subst (λ (b : Bool). Finishes (Ok done) old old (finished b) (print_steps b)) (sym is) (record {
  written = λ kind id before so_far. so_far;
  answer = λ none. refl;
  takes = none_taken old done;
})

-- ---- Attributes, and the end

step_sizes-adds : (more : List Attribute) (steps : List Step) → step_sizes (adds more ++ steps) ≡ sizes more ++ step_sizes steps
step_sizes-adds [] steps = refl
step_sizes-adds (a ∷ more) steps = ap (λ (ns : List ℕ). length a.value ∷ ns) (step_sizes-adds more steps)

-- attributes are added, and the message is finished
pub then_finishes : (done : Unit {0}) (result : Result (Unit {0}) StunWriteError) (old mid new : Writer) (more : List Attribute) (finish : ℕ → ℕ → List Attribute → List Attribute) (steps : List Step)
    → Lengthens (Ok done) old mid more → Finishes result mid new finish steps → Finishes result old new (λ kind id before. finish kind id (before ++ more)) (adds more ++ steps)
then_finishes done result old mid new more finish steps one two = record {
  written = λ kind id before so_far. two.written kind id (before ++ more) (one.written kind id before so_far);
  answer = λ free. subst (λ (o : Option StunWriteError). FailsFor o result) (sym (behind (one.answer free))) (two.answer (one.unended free));
  takes = one_then done result old mid new (adds more) steps one.takes two.takes;
}
  where
    behind : no_room old.greatest (length old.bytes) (sizes more) ≡ None → no_room old.greatest (length old.bytes) (step_sizes (adds more ++ steps)) ≡ no_room mid.greatest (length mid.bytes) (step_sizes steps)
    behind none =
        ap (no_room old.greatest (length old.bytes)) (step_sizes-adds more steps) ∙ no_room-append old.greatest (length old.bytes) (sizes more) (step_sizes steps)
        ∙ ap (λ (o : Option StunWriteError). option_or o (no_room old.greatest (longer (length old.bytes) (sizes more)) (step_sizes steps))) none
        ∙ ap (λ (n : ℕ). no_room old.greatest n (step_sizes steps)) (sym (one.takes.size ∙ longer_is (length old.bytes) more)) ∙ ap (λ (g : Option ℕ). no_room g (length mid.bytes) (step_sizes steps)) (sym one.takes.spends.greatest)

-- if some can't be added, it isn't finished
pub not_finished : (result : Result (Unit {0}) StunWriteError) (old new : Writer) (e : StunWriteError) (more : List Attribute) (finish : ℕ → ℕ → List Attribute → List Attribute) (steps : List Step)
    → Lengthens (Err e) old new more → IsErr result × IsErrAnd result (λ made. made ≡ e) → Finishes result old new (λ kind id before. finish kind id (before ++ more)) (adds more ++ steps)
not_finished result old new e more finish steps one reported = subst (λ (r : Result (Unit {0}) StunWriteError). Finishes r old new (λ kind id before. finish kind id (before ++ more)) (adds more ++ steps)) (sym (passed_on result e reported)) (record {
  written = λ kind id before so_far. tt;
  answer = λ free.
      let split = ap (no_room old.greatest (length old.bytes)) (step_sizes-adds more steps) ∙ no_room-append old.greatest (length old.bytes) (sizes more) (step_sizes steps) in
      subst (λ (o : Option StunWriteError). (e ≡ OutOfMemory) ⊎ (o ≡ Some e)) (sym split) (still _ _ e (one.answer free));
  takes = cut_off e old new (adds more) steps one.takes;
})

-- attributes that can't all be added, and more after them
pub cut_short : {T : Type 0} (result : Result T StunWriteError) (e : StunWriteError) (greatest : Option ℕ) (len : ℕ) (more : List Attribute) (prints : List ℕ)
    → FailsFor {T = Unit {0}} (no_room greatest len (sizes more)) (Err e) → IsErr result × IsErrAnd result (λ made. made ≡ e) → FailsFor (no_room greatest len (sizes more ++ prints)) result
cut_short {T} result e greatest len more prints fails reported =
    let first = no_room greatest len (sizes more) in
    let there = subst (λ (o : Option StunWriteError). (e ≡ OutOfMemory) ⊎ (o ≡ Some e)) (sym (no_room-append greatest len (sizes more) prints)) (still first (no_room greatest (longer len (sizes more)) prints) e fails) in
    subst (λ (r : Result T StunWriteError). FailsFor (no_room greatest len (sizes more ++ prints)) r) (sym (passed_on result e reported)) there
