-- What adding an attribute to a message returns and writes (RFC 8489, sections 5 and 14).
use Rattle.std.specs.Prelude.{◌≡◌, ℕ, ◌+◌, ◌-◌, ◌≤◌, ◌==◌, nat_lt, List, ◌++◌, length, take, drop, map, find, Option, Some, None, IfSome, if◌then◌else◌, Result, MatchResult, MatchOption, Err}
use Rattle.std.specs.Option.{option_map, option_map_or, option_or}
use Rattle.stun_grammar.specs.declared.attribute_type.AttributeType.{AttributeType}
use Rattle.stun_grammar.specs.declared.error.AddError.{AddError}
use Rattle.stun_grammar.specs.declared.error.AddError.TheVariants.{EndingType, Write}
use Rattle.stun_grammar.specs.declared.error.StunWriteError.{StunWriteError}
use Rattle.stun_grammar.specs.declared.error.StunWriteError.TheVariants.{AttributeExists, FingerprintExists, MessageIntegrityExists, TooLarge, TooSmall, OutOfMemory}
use Rattle.stun_grammar.specs.Numbers.{be16}
use Rattle.stun_grammar.specs.ScannedOrder.{has}
use Rattle.stun_grammar.specs.AttributeTypes.{FINGERPRINT, is_ending}
use Rattle.stun_grammar.specs.Writing.{greatest_length}
use Rattle.stun_grammar.specs.Steps.{Step, add, sign, sign_given, finger, barring_types, value_length}
use Rattle.stun_grammar.specs.Attributes.{attribute_encoding, attribute_length}

-- ---- What is written

-- the length of a message of len bytes with one more attribute, whose value has n bytes
abbrev pub grown_length : ℕ → ℕ → ℕ
grown_length len n = len + attribute_length n

-- a message with one more attribute at its end, which the length field counts in
unfoldable pub appended : List ℕ → ℕ → List ℕ → List ℕ
appended message type value =
    take 2 message ++ (be16 (grown_length (length message) (length value) - 20)
    ++ (drop 4 message ++ attribute_encoding type value))

-- ---- Why an attribute isn't added

-- the first of the types that is among those asked for
abbrev pub first_of : List ℕ → List ℕ → Option ℕ
first_of asked types = find (λ type. has type asked) types

-- the numbers of types
abbrev pub numbers : List AttributeType → List ℕ
numbers = map (λ type. type.0)

-- the error of a step if the first type that blocks it is found
abbrev pub exists_refusal : Step → ℕ → StunWriteError
exists_refusal (add type value) found =
    if found == FINGERPRINT then FingerprintExists else MessageIntegrityExists
exists_refusal (sign algorithm key) found =
    if found == FINGERPRINT then FingerprintExists else AttributeExists (record { 0 = found })
exists_refusal (sign_given algorithm hmac) found =
    if found == FINGERPRINT then FingerprintExists else AttributeExists (record { 0 = found })
exists_refusal finger found = AttributeExists (record { 0 = found })

-- why a step may not follow attributes of these types: the first type that blocks it
unfoldable pub order_refusal : Step → List ℕ → Option StunWriteError
order_refusal step types = option_map (exists_refusal step) (first_of (barring_types step) types)

-- n is at most the greatest length, if there is one
abbrev pub Fits : Option ℕ → ℕ → Type 0
Fits greatest n = IfSome greatest (λ most. n ≤ most)

-- why a message of len bytes can't grow to this length: it has no header, or the writer is too
-- small, or the length field can't state so much
unfoldable pub room_refusal : ℕ → Option ℕ → ℕ → Option StunWriteError
room_refusal len greatest longer =
    if nat_lt len 20 then Some (TooSmall 20 len) else
    option_or
    (option_map_or (λ most. if nat_lt most longer then Some (TooSmall longer most) else None)
    greatest None)
    (if nat_lt greatest_length longer then Some (TooLarge greatest_length longer) else None)

-- why a step is refused on a message of len bytes with attributes of these types, unless out of
-- memory
abbrev pub add_refusal : Step → List ℕ → ℕ → Option ℕ → Option StunWriteError
add_refusal step types len greatest =
    option_or (order_refusal step types)
    (room_refusal len greatest (grown_length len (value_length step)))

-- why an attribute of any type is refused: one of an ending type has an add of its own
abbrev pub any_refusal : ℕ → List ℕ → List ℕ → ℕ → Option ℕ → Option AddError
any_refusal type value types len greatest =
    if is_ending type then Some (EndingType (record { 0 = type })) else
    option_map Write (add_refusal (add type value) types len greatest)

-- the result is the refusal; if there is none it is Ok, or the error `memory`, and this only if P
-- holds
abbrev pub IsAnswer : {E : Type 0} → E → Option E → Type 0 → Result Unit E → Type 0
IsAnswer memory refusal P result =
    MatchOption refusal
    (MatchResult result (λ _. Unit {0}) (λ e. (e ≡ memory) × P))
    (λ e. result ≡ Err e)

-- the same of an attribute of an ordinary type, and of one of any type
abbrev pub IsAddAnswer : Option StunWriteError → Type 0 → Result Unit StunWriteError → Type 0
IsAddAnswer = IsAnswer OutOfMemory

abbrev pub IsAnyAnswer : Option AddError → Type 0 → Result Unit AddError → Type 0
IsAnyAnswer = IsAnswer (Write OutOfMemory)
