-- A run of steps that write one message: the verdict on each, and what the accepted ones write
-- (RFC 8489, sections 5 and 14).
use Rattle.std.specs.Prelude.{◌≡◌, ℕ, ◌+◌, ◌<◌, ◌⊎◌, ◌≤◌, false, List, [], ◌∷◌, ◌++◌, length, drop, None, Some, Result, Ok, Err, IfOk, IfErr, IsOk, OnErr}
use Rattle.std.specs.List.{list_any}
use Rattle.stun_grammar.specs.declared.error.StunWriteError.{StunWriteError}
use Rattle.stun_grammar.specs.declared.error.StunWriteError.TheVariants.{OutOfMemory}
use Rattle.stun_grammar.specs.declared.integrity_algorithm.IntegrityAlgorithm.{IntegrityAlgorithm}
use Rattle.stun_grammar.specs.Attributes.{Attribute, types}
use Rattle.stun_grammar.specs.Verdicts.{is_checked_type, verdict}
use Rattle.stun_grammar.specs.Writing.{message_encoding}
use Rattle.stun_grammar.specs.Steps.{Step as Plain, add, sign, sign_given, finger, with_step, value_length, is_signing, SignsAs}
use Rattle.stun_grammar.specs.Sending.{Sent, body, written_by, IsEncodableSent}
use Rattle.stun_grammar.specs.Chains.{placed}
use Rattle.stun_grammar.specs.Showing.{shown}
use Rattle.stun_grammar.specs.Parsing.{parse_fault}
use Rattle.stun_grammar.specs.Fingerprints.{first_fingerprint_fault}
use Rattle.stun_types.specs.Writers.{Writer, Spends}
use Rattle.stun_keys.specs.Keys.{key_bytes, credentials_key}
use Rattle.stun_grammar.specs.Adding.{grown_length, add_refusal, IsAddAnswer}
use Rattle.stun_grammar.specs.AttributeTypes.{IsOrdinary}
use Rattle.stun_types.specs.declared.writing.steps.Step.{Step}
use Rattle.stun_types.specs.declared.writing.steps.Step.TheVariants.{Add, Sign, SignKey, SignHmac, Fingerprint}
use Rattle.stun_types.specs.GivenHmacs.{hmac_algorithm, hmac_bytes}

-- a step that adds an attribute adds one of an ordinary type
abbrev pub AddsOrdinary : {O : Type 0} → (O → ℕ) → Step O → Type 0
AddsOrdinary type_of (Add o) = IsOrdinary (type_of o)
AddsOrdinary type_of (Sign credentials algorithm) = Unit {0}
AddsOrdinary type_of (SignKey key algorithm) = Unit {0}
AddsOrdinary type_of (SignHmac hmac) = Unit {0}
AddsOrdinary type_of Fingerprint = Unit {0}

-- the step makes a key, which takes memory
abbrev pub MakesKey : {O : Type 0} → Step O → Type 0
MakesKey (Add o) = ⊥
MakesKey (Sign credentials algorithm) = Unit {0}
MakesKey (SignKey key algorithm) = ⊥
MakesKey (SignHmac hmac) = ⊥
MakesKey Fingerprint = ⊥

-- with the key of the last step that signs, d validates by that step's algorithm
abbrev pub ValidatesLast : Sent → List ℕ → Type 0
ValidatesLast sent d =
    (before behind : List Plain) (step : Plain) (algorithm : IntegrityAlgorithm)
    (key : IntegrityAlgorithm → List ℕ)
    → sent.steps ≡ before ++ step ∷ behind
    → SignsAs step (written_by sent.type sent.id before) algorithm (key algorithm)
    → list_any is_signing behind ≡ false
    → verdict (is_checked_type None) key d ≡ Ok algorithm

-- with the key of each step that signs, made for that step's algorithm, d validates by that
-- algorithm
abbrev pub ValidatesEach : Sent → List ℕ → Type 0
ValidatesEach sent d =
    (before behind : List Plain) (step : Plain) (algorithm : IntegrityAlgorithm)
    (key : IntegrityAlgorithm → List ℕ)
    → sent.steps ≡ before ++ step ∷ behind
    → SignsAs step (written_by sent.type sent.id before) algorithm (key algorithm)
    → verdict (is_checked_type (Some algorithm)) key d ≡ Ok algorithm

module _ {O : Type 0} (type_of : O → ℕ) (value_of : O → List ℕ) where
  -- a step in the grammar's terms: an attribute's type and value, an algorithm and the bytes of a
  -- key or of an HMAC, or a FINGERPRINT
  abbrev pub plain : Step O → Plain
  plain (Add o) = add (type_of o) (value_of o)
  plain (Sign credentials algorithm) = sign algorithm (credentials_key credentials.now algorithm)
  plain (SignKey key algorithm) = sign algorithm (key_bytes key.now)
  plain (SignHmac hmac) = sign_given (hmac_algorithm hmac.now) (hmac_bytes hmac.now)
  plain Fingerprint = finger

  -- the steps whose verdict is Ok
  abbrev pub accepted : List (Step O) → List (Result Unit StunWriteError) → List Plain
  accepted [] verdicts = []
  accepted (x ∷ steps) [] = []
  accepted (x ∷ steps) (Ok u ∷ verdicts) = plain x ∷ accepted steps verdicts
  accepted (x ∷ steps) (Err e ∷ verdicts) = accepted steps verdicts

  -- the message that the accepted steps write
  abbrev pub sent : ℕ → ℕ → List (Step O) → List (Result Unit StunWriteError) → Sent
  sent type id steps verdicts = record { type = type; id = id; steps = accepted steps verdicts }

  -- the verdict on a step after the attributes `before`: its refusal, if there is one, otherwise
  -- Ok or `OutOfMemory`, the latter only if the step makes a key, or if the message with the
  -- step needs more room than the writer had ready at the start
  abbrev pub IsVerdict :
      Writer → ℕ → ℕ → List Attribute → Step O → Result Unit StunWriteError → Type 0
  IsVerdict start type id before step verdict =
      let len = length (message_encoding type id before) in
      IsAddAnswer (add_refusal (plain step) (types before) len start.greatest)
      (MakesKey step
      ⊎ (start.ready_bytes < grown_length len (value_length (plain step))
      ⊎ start.ready_types < length before + 1))
      verdict

  -- each verdict is that on its step after `before` and what the accepted steps before it append
  abbrev pub AreVerdicts :
      Writer → ℕ → ℕ → List Attribute → List (Step O) → List (Result Unit StunWriteError) → Type 0
  AreVerdicts start type id before [] verdicts = Unit {0}
  AreVerdicts start type id before (x ∷ steps) [] = Unit {0}
  AreVerdicts start type id before (x ∷ steps) (Ok u ∷ verdicts) =
      IsVerdict start type id before x (Ok u)
      × AreVerdicts start type id (with_step type id before (plain x)) steps verdicts
  AreVerdicts start type id before (x ∷ steps) (Err e ∷ verdicts) =
      IsVerdict start type id before x (Err e)
      × AreVerdicts start type id before steps verdicts

  -- what a run leaves once its header is written: the message of the accepted steps, which parses,
  -- shows their attributes, and validates; it may be in a list of messages that were sent
  pub record Writes (old new : Writer) (type id : ℕ)
      (steps : List (Step O)) (verdicts : List (Result Unit StunWriteError)) : Type 0 where
    pub each : AreVerdicts old type id [] steps verdicts
    pub encodable : IsEncodableSent (sent type id steps verdicts)
    pub bytes : new.bytes ≡ message_encoding type id (body (sent type id steps verdicts))
    pub types : new.types ≡ types (body (sent type id steps verdicts))
    pub rest : new.rest ≡ drop (length new.bytes) old.rest
    pub spends : Spends old new (length new.bytes) (length new.types)
    pub parses : parse_fault new.bytes ≡ None
    pub shows : shown new.bytes ≡ placed 20 (body (sent type id steps verdicts))
    pub fingerprint : first_fingerprint_fault new.bytes (shown new.bytes) ≡ None
    pub last : ValidatesLast (sent type id steps verdicts) new.bytes
    pub own : ValidatesEach (sent type id steps verdicts) new.bytes

  -- a run writes its steps and stores their verdicts over those before, and `writer` is the writer
  -- by what the run returns; or an allocation failed, which happens only if fewer than twenty
  -- bytes are ready, and the verdicts stay
  pub record Runs {R : Type 0} (writer : R → Writer) (result : Result R StunWriteError)
      (old : Writer) (type id : ℕ) (steps : List (Step O))
      (before verdicts : List (Result Unit StunWriteError)) : Type 0 where
    pub writes : IfOk result (λ r. Writes old (writer r) type id steps verdicts)
    pub count : length verdicts ≡ length before
    pub same_verdicts : OnErr result (verdicts ≡ before)
    pub err : IfErr result (λ e. e ≡ OutOfMemory)
    pub succeeds : 20 ≤ old.ready_bytes → IsOk result
