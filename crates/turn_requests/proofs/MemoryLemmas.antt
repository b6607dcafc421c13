-- When an allocation can fail.
use Rattle.std.proofs.Common.{◌≡◌, ℕ, ◌+◌, ◌<◌, ◌≤◌, Bool, true, false, List, [], ◌∷◌, ◌++◌, length, Option, None, Some, Result, Err, inl, inr, ap, subst, arith}
use Rattle.std.specs.Prelude.{◌⊎◌, MatchResult, ◌==◌, if◌then◌else◌, nat_lt}
use Rattle.std.specs.Option.{option_or, option_map, option_map_or}
use Rattle.std.proofs.lemmas.List.{length-append}
use Rattle.stun_grammar.specs.declared.error.StunWriteError.{StunWriteError}
use Rattle.stun_grammar.specs.declared.error.StunWriteError.TheVariants.{OutOfMemory, TooSmall, TooLarge, FingerprintExists, IntegrityFailed, MessageIntegrityExists, AttributeExists}
use Rattle.stun_grammar.specs.declared.integrity_algorithm.IntegrityAlgorithm.{IntegrityAlgorithm}
use Rattle.stun_grammar.specs.Adding.{grown_length, first_of, exists_refusal, order_refusal, room_refusal}
use Rattle.stun_grammar.specs.AttributeTypes.{FINGERPRINT}
use Rattle.stun_grammar.specs.Steps.{Step, add, sign, finger, sign_given, barring_types, value_length}
use Rattle.stun_grammar.specs.Writing.{greatest_length}
use Rattle.stun_keys.specs.Keys.{serves}
use Rattle.stun_values.specs.TextValues.{username_max}
use Rattle.stun_types.specs.Writers.{Writer, Spends}
use Rattle.stun_authentication.specs.Requests.{name_refusal}
use Rattle.stun_authentication.specs.Writing.{TakesSteps, Lacks, refusal_by, signing_refusal, step_type, steps_length, steps_refusal}
use Rattle.stun_authentication.proofs.TakenLemmas.{steps_length-append}
use Rattle.turn_requests.specs.Requests.{Exceeds}

-- ---- No refusal is an error of memory

first_or : (x y : Option StunWriteError) → option_or x y ≡ Some OutOfMemory → (x ≡ Some OutOfMemory) ⊎ (y ≡ Some OutOfMemory)
first_or None y is = inr is
first_or (Some e) y is = inl is

chosen : (b : Bool) (x y : StunWriteError) → (if b then x else y) ≡ OutOfMemory → (x ≡ OutOfMemory) ⊎ (y ≡ OutOfMemory)
chosen true x y is = inl is
chosen false x y is = inr is

only_if : (b : Bool) (x : StunWriteError) → (if b then Some x else None) ≡ Some OutOfMemory → x ≡ OutOfMemory
only_if true x is = cc
only_if false x is = absurd cc

exists_not : (step : Step) (found : ℕ) → exists_refusal step found ≡ OutOfMemory → ⊥
exists_not (add type value) found is = elim (chosen (found == FINGERPRINT) FingerprintExists MessageIntegrityExists is) [ inl e ↦ absurd cc | inr e ↦ absurd cc ]
exists_not (sign algorithm key) found is = elim (chosen (found == FINGERPRINT) FingerprintExists (AttributeExists (record { 0 = found })) is) [ inl e ↦ absurd cc | inr e ↦ absurd cc ]
exists_not (sign_given algorithm hmac) found is = elim (chosen (found == FINGERPRINT) FingerprintExists (AttributeExists (record { 0 = found })) is) [ inl e ↦ absurd cc | inr e ↦ absurd cc ]
exists_not finger found is = absurd cc

mapped_not : (step : Step) (found : Option ℕ) → option_map (exists_refusal step) found ≡ Some OutOfMemory → ⊥
mapped_not step None is = absurd cc
mapped_not step (Some type) is = exists_not step type cc

order_not : (step : Step) (types : List ℕ) → order_refusal step types ≡ Some OutOfMemory → ⊥
unfolding order_refusal
order_not step types is = mapped_not step (first_of (barring_types step) types) is

small_not : (greatest : Option ℕ) (longer : ℕ) → option_map_or (λ most. if nat_lt most longer then Some (TooSmall longer most) else None) greatest None ≡ Some OutOfMemory → ⊥
small_not None longer is = absurd cc
small_not (Some most) longer is = let e = only_if (nat_lt most longer) (TooSmall longer most) is in absurd cc

sized_not : (short : Bool) (len : ℕ) (x : Option StunWriteError) → (if short then Some (TooSmall 20 len) else x) ≡ Some OutOfMemory → x ≡ Some OutOfMemory
sized_not true len x is = absurd cc
sized_not false len x is = is

room_not : (len : ℕ) (greatest : Option ℕ) (longer : ℕ) → room_refusal len greatest longer ≡ Some OutOfMemory → ⊥
unfolding room_refusal
room_not len greatest longer is =
    let small = option_map_or (λ most. if nat_lt most longer then Some (TooSmall longer most) else None) greatest None in
    let large = if nat_lt greatest_length longer then Some (TooLarge greatest_length longer) else None in
    elim (first_or small large (sized_not (nat_lt len 20) len (option_or small large) is)) [
      | inl e ↦ small_not greatest longer e
      | inr e ↦ (let f = only_if (nat_lt greatest_length longer) (TooLarge greatest_length longer) e in absurd cc)
    ]

steps_not : (steps : List Step) (types : List ℕ) (len : ℕ) (greatest : Option ℕ) → steps_refusal steps types len greatest ≡ Some OutOfMemory → ⊥
steps_not [] types len greatest is = absurd cc
steps_not (step ∷ steps) types len greatest is =
    let order = order_refusal step types in
    let room = room_refusal len greatest (grown_length len (value_length step)) in
    let rest = steps_refusal steps (types ++ step_type step ∷ []) (grown_length len (value_length step)) greatest in
    elim (first_or (option_or order room) rest is) [
      | inl e ↦ elim (first_or order room e) [ inl f ↦ order_not step types f | inr f ↦ room_not len greatest (grown_length len (value_length step)) f ]
      | inr e ↦ steps_not steps (types ++ step_type step ∷ []) (grown_length len (value_length step)) greatest e
    ]

pub name_not : (name : List ℕ) → name_refusal name ≡ Some OutOfMemory → ⊥
name_not name is = let e = only_if (nat_lt username_max (length name)) (TooLarge username_max (length name)) is in absurd cc

pub sign_not : (made_for : Option IntegrityAlgorithm) (algorithm : IntegrityAlgorithm) → signing_refusal made_for algorithm ≡ Some OutOfMemory → ⊥
sign_not made_for algorithm is = unless (serves made_for algorithm) is
  where
    unless : (b : Bool) → (if b then None else Some IntegrityFailed) ≡ Some OutOfMemory → ⊥
    unless true is = absurd cc
    unless false is = absurd cc

-- ---- What is lacking

-- if an allocation fails, the steps need more than the ready room
pub lacking : (result : Result (Unit {0}) StunWriteError) (old new : Writer) (steps : List Step) → TakesSteps result old new steps → result ≡ Err OutOfMemory
    → (old.ready_bytes < steps_length steps) ⊎ (old.ready_types < length steps)
lacking result old new steps takes is = elim answer [
  | inl e ↦ absurd (steps_not steps old.types (length old.bytes) old.greatest e)
  | inr both ↦ short both.1
]
  where
    Answer : Result (Unit {0}) StunWriteError → Type 0
    Answer r = MatchResult r (λ _. refusal_by old steps ≡ None) (λ e. (refusal_by old steps ≡ Some e) ⊎ ((e ≡ OutOfMemory) × Lacks old steps))

    answer : (refusal_by old steps ≡ Some OutOfMemory) ⊎ ((OutOfMemory ≡ OutOfMemory) × Lacks old steps)
    answer = subst Answer is takes.answer

    short : Lacks old steps → (old.ready_bytes < steps_length steps) ⊎ (old.ready_types < length steps)
    short l = elim l.lacks [
      | inl bytes ↦ inl (omega (arith, bytes, ap steps_length l.steps_are, steps_length-append l.first l.behind))
      | inr types ↦ inr (omega (arith, types, ap length l.steps_are, length-append l.first l.behind))
    ]

-- the first steps are a part of all
pub exceeds_more : (w : Writer) (first second : List Step) → Exceeds w first → Exceeds w (first ++ second)
exceeds_more w first second (inl bytes) = inl (omega (arith, bytes, steps_length-append first second))
exceeds_more w first second (inr types) = inr (omega (arith, types, length-append first second))

-- what is left after the header and the first steps doesn't suffice for the others
pub exceeds_then : (old mid : Writer) (first second : List Step) → Spends old mid (20 + steps_length first) (length first) → (mid.ready_bytes < steps_length second) ⊎ (mid.ready_types < length second) → Exceeds old (first ++ second)
exceeds_then old mid first second spends (inl bytes) = inl (omega (arith, bytes, spends.ready_bytes, steps_length-append first second))
exceeds_then old mid first second spends (inr types) = inr (omega (arith, types, spends.ready_types, length-append first second))

-- the same after the header alone
pub exceeds_header : (old mid : Writer) (steps : List Step) → Spends old mid 20 0 → (mid.ready_bytes < steps_length steps) ⊎ (mid.ready_types < length steps) → Exceeds old steps
exceeds_header old mid steps spends (inl bytes) = inl (omega (arith, bytes, spends.ready_bytes))
exceeds_header old mid steps spends (inr types) = inr (omega (arith, types, spends.ready_types))

-- a header that can't be written needs more than the ready room
pub header_exceeds : (w : Writer) (steps : List Step) → (20 ≤ w.ready_bytes → ⊥) → Exceeds w steps
header_exceeds w steps few = inl (omega (arith, few))
