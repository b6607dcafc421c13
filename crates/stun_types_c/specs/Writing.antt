-- Writing into a slice of C's: what a call answers, and what the slice holds then (RFC 8489, sections
-- 5 and 14).
use Rattle.std.specs.Prelude.{◌≡◌, ℕ, ◌+◌, ◌^◌, ◌++◌, List, [], length, take, drop, Option, None, Some, MatchOption, nat_lt, if◌then◌else◌}
use Rattle.std.specs.List.{flat_map}
use Rattle.std.specs.Option.{option_map, option_or}
use Rattle.std.specs.Str.{is_utf8}
use Rattle.std.specs.declared.net.socket_addr.SocketAddr.{SocketAddr}
use Rattle.stun_grammar.specs.declared.integrity_algorithm.IntegrityAlgorithm.{IntegrityAlgorithm}
use Rattle.stun_grammar.specs.Numbers.{be16, number}
use Rattle.stun_grammar.specs.AttributeTypes.{ERROR_CODE, UNKNOWN_ATTRIBUTES}
use Rattle.stun_grammar.specs.Headers.{header_fault, id_field}
use Rattle.stun_grammar.specs.Steps.{Step, sign, integrity_value}
use Rattle.stun_grammar.specs.Verdicts.{type_of_algorithm}
use Rattle.stun_grammar.specs.Writing.{message_encoding}
use Rattle.stun_grammar.specs.Adding.{appended, grown_length}
use Rattle.stun_keys.specs.declared.keys.integrity_key.IntegrityKey.{IntegrityKey}
use Rattle.stun_keys.specs.Keys.{key_bytes, key_algorithm, serves}
use Rattle.stun_values.specs.Addresses.{address_value, IsXored}
use Rattle.stun_values.specs.ErrorValues.{error_value, making_fault}
use Rattle.stun_types.specs.Resuming.{resume_fault, message_types, after_steps}
use Rattle.stun_types.specs.ResumePoints.{any_in, step_in}
use Rattle.stun_authentication.specs.Writing.{steps_length, steps_refusal}
use Rattle.stun_types_c.specs.declared.call_result.CResult.{CResult}
use Rattle.stun_types_c.specs.declared.address.Address.{Address}
use Rattle.stun_types_c.specs.declared.reading.Id.{Id}
use Rattle.stun_types_c.specs.Addresses.{ip_named, IsAt, is_xored_type, is_plain_type}
use Rattle.stun_types_c.specs.Codes.{OK, TOO_LARGE, TOO_SMALL, INVALID_DATA, BAD_ARGUMENT, NO_KEY}
use Rattle.stun_types_c.specs.CResults.{plain, counted, write_result, add_result, Refuses}
use Rattle.stun_types_c.specs.Keys.{algorithm_named}

-- a slice, and how many bytes of it are a message
pub record Written : Type 0 where
  pub slice : List ℕ
  pub count : ℕ

-- why no message begins: the type isn't one, or the slice has no room for a header
abbrev pub begin_answer : ℕ → List ℕ → Option CResult
begin_answer type slice =
    if nat_lt type (2 ^ 14) then (
    if nat_lt (length slice) 20 then Some (counted TOO_SMALL 20 (length slice)) else None)
    else Some (plain BAD_ARGUMENT)

-- a message begins: its header, with no attributes, and what the slice held after it
abbrev pub Begins : ℕ → Id → CResult → Written → Written → Type 0
Begins type id result old new =
    MatchOption (begin_answer type old.slice)
    ((result ≡ plain OK) × (new ≡ record {
      slice = message_encoding type (number id.bytes) [] ++ drop 20 old.slice;
      count = 20;
    }))
    (λ answer. Refuses answer result old new)

-- an attribute of a type and a value is appended to the message, or it is refused; what comes
-- after the message stays
abbrev pub Appends : Option CResult → ℕ → List ℕ → CResult → Written → Written → Type 0
Appends refusal type value result old new =
    MatchOption refusal
    ((result ≡ plain OK) × (new ≡ record {
      slice = appended (take old.count old.slice) type value
          ++ drop (grown_length old.count (length value)) old.slice;
      count = grown_length old.count (length value);
    }))
    (λ answer. Refuses answer result old new)

-- why an attribute of any type isn't added to a message in a slice of so many bytes
abbrev pub any_answer : ℕ → ℕ → List ℕ → List ℕ → Option CResult
any_answer size type value message = option_map add_result (any_in size type value message)

-- why a step isn't taken there
abbrev pub step_answer : ℕ → Step → List ℕ → Option CResult
step_answer size step message = option_map write_result (step_in size step message)

-- the same if what is written is tested first, and then the value, whatever the message
abbrev pub AppendsUnless : Option CResult → (List ℕ → Option CResult) → ℕ
    → (List ℕ → List ℕ) → CResult → Written → Written → Type 0
AppendsUnless fault refusal type value result old new =
    let message = take old.count old.slice in
    MatchOption (resume_fault old.slice old.count)
    (MatchOption fault
    (Appends (refusal message) type (value message) result old new)
    (λ answer. Refuses answer result old new))
    (λ _. Refuses (plain BAD_ARGUMENT) result old new)

abbrev pub AppendsTo : (List ℕ → Option CResult) → ℕ → (List ℕ → List ℕ) → CResult
    → Written → Written → Type 0
AppendsTo = AppendsUnless None

-- why there can be no value of n bytes or numbers
abbrev pub long_answer : ℕ → ℕ → Option CResult
long_answer most n = if nat_lt most n then Some (counted TOO_LARGE most n) else None

-- an attribute of a type and a value is added
abbrev pub AddsValue : ℕ → List ℕ → CResult → Written → Written → Type 0
AddsValue type value result old new =
    AppendsUnless (long_answer 65535 (length value)) (any_answer (length old.slice) type value) type
    (λ _. value) result old new

-- an address of C's form is added as it is, under no type whose addresses are XORed
abbrev pub AddsAddress : Address → ℕ → CResult → Written → Written → Type 0
AddsAddress address type result old new =
    MatchOption (if is_xored_type type then None else ip_named address) (Refuses (plain BAD_ARGUMENT) result old new)
    (λ ip. (a : SocketAddr) × IsAt ip address.port a
    × AppendsTo (any_answer (length old.slice) type (address_value a)) type (λ _. address_value a)
    result old new)

-- an address of C's form is added XORed with the transaction ID in the slice, under no type whose
-- addresses aren't
abbrev pub AddsXorAddress : Address → ℕ → CResult → Written → Written → Type 0
AddsXorAddress address type result old new =
    MatchOption (if is_plain_type type then None else ip_named address) (Refuses (plain BAD_ARGUMENT) result old new)
    (λ ip. MatchOption (header_fault old.slice)
    ((a xored : SocketAddr) × IsAt ip address.port a × IsXored (id_field old.slice) a xored
    × AppendsTo (any_answer (length old.slice) type (address_value xored)) type
    (λ _. address_value xored) result old new)
    (λ _. Refuses (plain BAD_ARGUMENT) result old new))

-- why there is no such error: its code is none of 300 to 699, or its reason is too long or no text
abbrev pub error_answer : ℕ → List ℕ → Option CResult
error_answer code reason =
    option_or (option_map write_result (making_fault code reason))
    (if is_utf8 reason then None else Some (plain INVALID_DATA))

-- an ERROR-CODE is added (RFC 8489, section 14.8)
abbrev pub AddsError : ℕ → List ℕ → CResult → Written → Written → Type 0
AddsError code reason result old new =
    let value = error_value code reason in
    AppendsUnless (error_answer code reason) (any_answer (length old.slice) ERROR_CODE value) ERROR_CODE
    (λ _. value) result old new

-- an UNKNOWN-ATTRIBUTES is added (RFC 8489, section 14.13)
abbrev pub AddsTypes : List ℕ → CResult → Written → Written → Type 0
AddsTypes types result old new =
    let value = flat_map be16 types in
    AppendsUnless (long_answer 32767 (length types))
    (any_answer (length old.slice) UNKNOWN_ATTRIBUTES value) UNKNOWN_ATTRIBUTES (λ _. value)
    result old new

-- why a key doesn't sign by an algorithm: it was made for the other one
abbrev pub serving_answer : IntegrityKey → IntegrityAlgorithm → Option CResult
serving_answer key algorithm =
    if serves (key_algorithm key) algorithm then None else Some (plain BAD_ARGUMENT)

-- the integrity attribute of an algorithm is added (RFC 8489, sections 14.5 and 14.6)
abbrev pub Signs : Option IntegrityKey → ℕ → CResult → Written → Written → Type 0
Signs held number result old new =
    MatchOption (resume_fault old.slice old.count)
    (MatchOption (algorithm_named number) (Refuses (plain BAD_ARGUMENT) result old new)
    (λ algorithm. MatchOption held (Refuses (plain NO_KEY) result old new)
    (λ key. AppendsUnless (serving_answer key algorithm)
    (step_answer (length old.slice) (sign algorithm (key_bytes key)))
    (type_of_algorithm algorithm)
    (λ message. integrity_value message (key_bytes key) algorithm) result old new)))
    (λ _. Refuses (plain BAD_ARGUMENT) result old new)

-- steps are taken, one after the other, and what comes after the message stays; or the first that is
-- refused ends them, and the message stays
abbrev pub TakesIn : List Step → CResult → Written → Written → Type 0
TakesIn steps result old new =
    let message = take old.count old.slice in
    MatchOption (resume_fault old.slice old.count)
    (MatchOption (steps_refusal steps (message_types message) (length message) (Some (length old.slice)))
    ((result ≡ plain OK) × (new ≡ record {
      slice = after_steps message steps ++ drop (old.count + steps_length steps) old.slice;
      count = old.count + steps_length steps;
    }))
    (λ e. (result ≡ write_result e) × (new.count ≡ old.count) × (take old.count new.slice ≡ message)))
    (λ _. Refuses (plain BAD_ARGUMENT) result old new)
