-- What adding attributes to a message that is written returns and writes, and how it is finished: it
-- is signed, and gets a FINGERPRINT (RFC 8489, sections 7, 9.1.3 and 9.2.4).
use Rattle.std.specs.Prelude.{◌≡◌, ◌⊎◌, ℕ, ◌+◌, ◌<◌, ◌≤◌, Bool, true, false, List, [], ◌∷◌, ◌++◌, length, drop, map, Option, None, Some, Result, Err, MatchResult, MatchOption, OnOk, if◌then◌else◌}
use Rattle.std.specs.List.{list_any}
use Rattle.std.specs.Option.{option_or}
use Rattle.stun_grammar.specs.declared.error.StunWriteError.{StunWriteError}
use Rattle.stun_grammar.specs.declared.error.StunWriteError.TheVariants.{OutOfMemory, IntegrityFailed}
use Rattle.stun_grammar.specs.declared.integrity_algorithm.IntegrityAlgorithm.{IntegrityAlgorithm}
use Rattle.stun_grammar.specs.Adding.{grown_length, room_refusal, add_refusal}
use Rattle.stun_grammar.specs.Attributes.{Attribute, attribute_length}
use Rattle.stun_grammar.specs.AttributeTypes.{FINGERPRINT, is_ending}
use Rattle.stun_grammar.specs.Steps.{Step, add, sign, finger, with_step, value_length, sign_given}
use Rattle.stun_grammar.specs.Verdicts.{type_of_algorithm}
use Rattle.stun_grammar.specs.Writing.{message_encoding}
use Rattle.stun_keys.specs.Keys.{serves}
use Rattle.stun_types.specs.Resuming.{after_steps}
use Rattle.stun_types.specs.Writers.{Writer, Spends}

-- ---- What doesn't fit

-- why attributes with values of these lengths don't all fit after a message of len bytes, in a
-- writer that takes at most so many: why the first that doesn't is refused
abbrev pub no_room : Option ℕ → ℕ → List ℕ → Option StunWriteError
no_room greatest len [] = None
no_room greatest len (n ∷ sizes) =
    option_or (room_refusal len greatest (grown_length len n))
    (no_room greatest (grown_length len n) sizes)

-- the lengths of the values of attributes
abbrev pub sizes : List Attribute → List ℕ
sizes attributes = map (λ a. length a.value) attributes

-- an error is the refusal, or says that an allocation failed
abbrev pub FailsFor : {T : Type 0} → Option StunWriteError → Result T StunWriteError → Type 0
FailsFor refusal result =
    MatchResult result (λ _. refusal ≡ None) (λ e. (e ≡ OutOfMemory) ⊎ (refusal ≡ Some e))

-- ---- Steps, one after the other

-- the type of the attribute that a step appends
abbrev pub step_type : Step → ℕ
step_type (add type value) = type
step_type (sign algorithm key) = type_of_algorithm algorithm
step_type (sign_given algorithm hmac) = type_of_algorithm algorithm
step_type finger = FINGERPRINT

-- how many bytes steps append
abbrev pub steps_length : List Step → ℕ
steps_length [] = 0
steps_length (step ∷ steps) = attribute_length (value_length step) + steps_length steps

-- why not all of these steps may follow attributes of these types, in a message of len bytes: why the
-- first that may not is refused
abbrev pub steps_refusal : List Step → (types : List ℕ) → (len : ℕ) → (greatest : Option ℕ)
    → Option StunWriteError
steps_refusal [] types len greatest = None
steps_refusal (step ∷ steps) types len greatest =
    option_or (add_refusal step types len greatest)
    (steps_refusal steps (types ++ step_type step ∷ []) (grown_length len (value_length step)) greatest)

abbrev pub refusal_by : Writer → List Step → Option StunWriteError
refusal_by w steps = steps_refusal steps w.types (length w.bytes) w.greatest

-- the first ones of the steps may be taken, and need more than the ready room
pub record Lacks (w : Writer) (steps : List Step) : Type 0 where
  pub first : List Step
  pub behind : List Step
  pub steps_are : steps ≡ first ++ behind
  pub taken : refusal_by w first ≡ None
  pub lacks : (w.ready_bytes < steps_length first) ⊎ (w.ready_types < length first)

-- the attributes that were there stay, and more may follow them
pub record KeepsAttributes (old new : List ℕ) : Type 0 where
  pub more : List ℕ
  pub kept : drop 20 new ≡ drop 20 old ++ more
  pub longer : length old ≤ length new

-- steps are all taken, or the first that is refused ends them, or an allocation fails
pub record TakesSteps {T : Type 0} (result : Result T StunWriteError) (old new : Writer)
    (steps : List Step) : Type 0 where
  pub answer : MatchResult result (λ _. refusal_by old steps ≡ None)
      (λ e. (refusal_by old steps ≡ Some e) ⊎ ((e ≡ OutOfMemory) × Lacks old steps))
  pub bytes : OnOk result (new.bytes ≡ after_steps old.bytes steps)
  pub types : OnOk result (new.types ≡ old.types ++ map step_type steps)
  pub size : OnOk result (length new.bytes ≡ length old.bytes + steps_length steps)
  pub rest : OnOk result (new.rest ≡ drop (steps_length steps) old.rest)
  pub spends : Spends old new (steps_length steps) (length steps)
  pub keeps : KeepsAttributes old.bytes new.bytes

-- ---- Ordinary attributes

-- the steps that add attributes
abbrev pub adds : List Attribute → List Step
adds attributes = map (λ a. add a.type a.value) attributes

-- nothing is written after which no ordinary attribute may follow
abbrev pub IsUnended : Writer → Type 0
IsUnended w = list_any is_ending w.types ≡ false

-- a message that is written gets these attributes more, after those that it has
pub record Lengthens (result : Result (Unit {0}) StunWriteError) (old new : Writer)
    (more : List Attribute) : Type 0 where
  pub written : (kind id : ℕ) (before : List Attribute)
      → old.bytes ≡ message_encoding kind id before
      → OnOk result (new.bytes ≡ message_encoding kind id (before ++ more))
  pub answer : IsUnended old
      → FailsFor (no_room old.greatest (length old.bytes) (sizes more)) result
  pub unended : IsUnended old → OnOk result (IsUnended new)
  pub takes : TakesSteps result old new (adds more)

-- ---- The end of a message

-- why a key doesn't sign by an algorithm: it was made for the other one
abbrev pub signing_refusal : (made_for : Option IntegrityAlgorithm) → IntegrityAlgorithm
    → Option StunWriteError
signing_refusal made_for algorithm = if serves made_for algorithm then None else Some IntegrityFailed

-- attributes, and after them the integrity attribute of an algorithm under a key
abbrev pub signed : ℕ → ℕ → List Attribute → IntegrityAlgorithm → List ℕ → List Attribute
signed kind id before algorithm key = with_step kind id before (sign algorithm key)

-- with a FINGERPRINT at the end, or without
abbrev pub finished : (fingerprint : Bool) → ℕ → ℕ → List Attribute → List Attribute
finished false kind id attributes = attributes
finished true kind id attributes = with_step kind id attributes finger

-- a reply that is signed by an algorithm under a key: a decision that accepts has both
abbrev pub signed_reply : (fingerprint : Bool) → ℕ → ℕ → List Attribute → IntegrityAlgorithm
    → List ℕ → List ℕ
signed_reply fingerprint kind id before algorithm key =
    message_encoding kind id (finished fingerprint kind id (signed kind id before algorithm key))

-- the step that appends a FINGERPRINT, if there is one
abbrev pub print_steps : (fingerprint : Bool) → List Step
print_steps false = []
print_steps true = finger ∷ []

-- the lengths of the values that steps append
abbrev pub step_sizes : List Step → List ℕ
step_sizes steps = map value_length steps

-- a message that is written is finished by steps; if it isn't signed and has no FINGERPRINT, an
-- error says which doesn't fit, or that an allocation failed
pub record Finishes {T : Type 0} (result : Result T StunWriteError) (old new : Writer)
    (finish : ℕ → ℕ → List Attribute → List Attribute) (steps : List Step) : Type 0 where
  pub written : (kind id : ℕ) (before : List Attribute)
      → old.bytes ≡ message_encoding kind id before
      → OnOk result (new.bytes ≡ message_encoding kind id (finish kind id before))
  pub answer : IsUnended old
      → FailsFor (no_room old.greatest (length old.bytes) (step_sizes steps)) result
  pub takes : TakesSteps result old new steps

-- an error, and nothing is written
abbrev pub FailsBy : {T : Type 0} → Result T StunWriteError → (old new : Writer) → StunWriteError
    → Type 0
FailsBy result old new e = (result ≡ Err e) × (new ≡ old)

-- the same by a key and an algorithm; or the key was made for the other one
abbrev pub FinishesBy : {T : Type 0} → (made_for : Option IntegrityAlgorithm) → IntegrityAlgorithm
    → Result T StunWriteError → (old new : Writer) → (ℕ → ℕ → List Attribute → List Attribute)
    → List Step → Type 0
FinishesBy made_for algorithm result old new finish steps =
    MatchOption (signing_refusal made_for algorithm) (Finishes result old new finish steps)
    (FailsBy result old new)
