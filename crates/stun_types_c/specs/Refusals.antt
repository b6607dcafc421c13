-- The error response to a request that a server refuses, and what it says at the beginning of its
-- nonces (RFC 8489, sections 9.1.3, 9.2, 9.2.4 and 18.1).
use Rattle.std.specs.Prelude.{◌≡◌, ◌⊎◌, ℕ, ◌+◌, ◌*◌, ◌%◌, Bool, List, ◌++◌, length, drop, Option, None, Some, is_some, MatchOption, nat_lt, ◌==◌, if◌then◌else◌}
use Rattle.std.specs.Int.{from_bool}
use Rattle.std.specs.Option.{option_map, option_map_or, option_or}
use Rattle.std.specs.Str.{is_utf8}
use Rattle.stun_grammar.specs.declared.error.StunWriteError.{StunWriteError}
use Rattle.stun_grammar.specs.Headers.{type_field}
use Rattle.stun_grammar.specs.Parsing.{parse_fault}
use Rattle.stun_base.specs.MessageTypes.{class_of}
use Rattle.stun_values.specs.declared.algorithm.PasswordAlgorithmValue.{PasswordAlgorithmValue}
use Rattle.stun_values.specs.TextValues.{text_max}
use Rattle.stun_authentication.specs.declared.answer.Refusal.{Refusal}
use Rattle.stun_authentication.specs.declared.answer.Refusal.TheVariants.{BadRequest, Unauthenticated, StaleNonce}
use Rattle.stun_authentication.specs.declared.cookie.SecurityFeatures.{SecurityFeatures}
use Rattle.stun_authentication.specs.Asking.{Asked, asked_for, listed}
use Rattle.stun_authentication.specs.Cookies.{cookie}
use Rattle.stun_authentication.specs.LongTerm.{is_request}
use Rattle.stun_authentication.specs.Refusing.{mismatch, refusal_of, refusal_sizes}
use Rattle.stun_authentication.specs.Writing.{no_room}
use Rattle.stun_types_c.specs.declared.call_result.CResult.{CResult}
use Rattle.stun_types_c.specs.declared.refusals.Cookie.{Cookie}
use Rattle.stun_types_c.specs.declared.refusals.CAsked.{CAsked}
use Rattle.stun_types_c.specs.CResults.{plain, counted, parse_result, write_result, Refuses}
use Rattle.stun_types_c.specs.Codes.{OK, TOO_LARGE, INVALID_DATA, OUT_OF_MEMORY, TOO_SMALL, BAD_ARGUMENT, NOT_A_REQUEST}
use Rattle.stun_types_c.specs.PasswordAlgorithms.{password_algorithms_named}
use Rattle.stun_types_c.specs.Writing.{Written}

-- ---- What C passes

-- why d is no request
abbrev pub message_answer : List ℕ → Option CResult
message_answer d =
    option_or (option_map parse_result (parse_fault d))
    (if is_request (class_of (type_field d)) then None else Some (plain NOT_A_REQUEST))

-- the refusal of a code: under short-term credentials there are no nonces, and no 438
abbrev pub short_term_refusal : ℕ → Option Refusal
short_term_refusal code =
    if code == 400 then Some BadRequest else (if code == 401 then Some Unauthenticated else None)

abbrev pub long_term_refusal : ℕ → Option Refusal
long_term_refusal code =
    if code == 438 then Some StaleNonce else short_term_refusal code

-- why bytes aren't the text of a REALM or a NONCE
abbrev pub text_answer : List ℕ → Option CResult
text_answer bytes =
    if is_utf8 bytes then
    (if nat_lt text_max (length bytes) then Some (counted TOO_LARGE text_max (length bytes)) else None)
    else Some (plain INVALID_DATA)

abbrev pub texts_answer : (realm nonce : List ℕ) → Option CResult
texts_answer realm nonce = option_or (text_answer realm) (text_answer nonce)

-- what a realm, a nonce and algorithms ask for
abbrev pub asked_of : (realm nonce : List ℕ) → List PasswordAlgorithmValue → Asked
asked_of realm nonce algorithms = asked_for realm nonce (listed algorithms)

-- why it isn't asked for: the nonce and the list don't match
abbrev pub list_answer : Asked → Option CResult
list_answer asked = option_map (λ why. plain BAD_ARGUMENT) (mismatch asked.nonce asked.list)

abbrev pub asked_answer : Asked → Option CResult
asked_answer asked = option_or (texts_answer asked.realm asked.nonce) (list_answer asked)

-- ---- The response

-- why a slice has no room for a message
abbrev pub room_answer : (message slice : List ℕ) → Option CResult
room_answer message slice =
    if nat_lt (length slice) (length message)
    then Some (counted TOO_SMALL (length message) (length slice)) else None

-- a message is written at the start of a slice, if that has room for it
abbrev pub Delivers : List ℕ → CResult → Written → Written → Type 0
Delivers message result old new =
    MatchOption (room_answer message old.slice)
    ((result ≡ plain OK) × (new ≡ record {
      slice = message ++ drop (length message) old.slice;
      count = length message;
    }))
    (λ answer. Refuses answer result old new)

-- a message is written, or a writer refuses it, unless an allocation fails
abbrev pub WritesText : (refusal : Option StunWriteError) → (text : List ℕ) → CResult → Written
    → Written → Type 0
WritesText refusal text result old new =
    MatchOption refusal
    (Delivers text result old new)
    (λ e. Refuses (write_result e) result old new)
    ⊎ Refuses (plain OUT_OF_MEMORY) result old new

-- the response that refuses r is written
abbrev pub WritesRefusal : List ℕ → Refusal → Option Asked → CResult → Written → Written → Type 0
WritesRefusal r refusal asked =
    WritesText (no_room None 20 (refusal_sizes r refusal asked)) (refusal_of r refusal asked)

-- the same under short-term credentials, by the number of the code
abbrev pub RefusesShortTerm : List ℕ → (code : ℕ) → CResult → Written → Written → Type 0
RefusesShortTerm r code result old new =
    MatchOption (message_answer r)
    (MatchOption (short_term_refusal code)
    (Refuses (plain BAD_ARGUMENT) result old new)
    (λ refusal. WritesRefusal r refusal None result old new))
    (λ answer. Refuses answer result old new)

-- a refusal that asks for this is written, or the call returns why it isn't asked for
abbrev pub RefusesAsking : List ℕ → Refusal → Asked → CResult → Written → Written → Type 0
RefusesAsking r refusal asked result old new =
    MatchOption (asked_answer asked)
    (WritesRefusal r refusal (Some asked) result old new)
    (λ answer. Refuses answer result old new)
    ⊎ Refuses (plain OUT_OF_MEMORY) result old new

-- the algorithms that C passes, if `reserved` is 0
abbrev pub algorithms_in : CAsked → Option (List PasswordAlgorithmValue)
algorithms_in asked =
    if asked.reserved == 0 then password_algorithms_named asked.algorithms.now else None

-- the same under long-term credentials, by the number of the code and what C passes
abbrev pub RefusesLongTerm : List ℕ → (code : ℕ) → CAsked → CResult → Written → Written → Type 0
RefusesLongTerm r code asked result old new =
    MatchOption (message_answer r)
    (MatchOption (long_term_refusal code)
    (Refuses (plain BAD_ARGUMENT) result old new)
    (λ refusal. MatchOption (algorithms_in asked)
    (Refuses (plain BAD_ARGUMENT) result old new)
    (λ algorithms. RefusesAsking r refusal (asked_of asked.realm.now asked.nonce.now algorithms)
    result old new)))
    (λ answer. Refuses answer result old new)

-- ---- Security features

-- the features of a number: 1 for password algorithms, and 2 more for username anonymity
abbrev pub features_named : ℕ → Option SecurityFeatures
features_named number =
    if nat_lt 3 number then None else Some (record {
      password_algorithms = number % 2 == 1;
      username_anonymity = nat_lt 1 number;
    })

-- the number of features
abbrev pub features_number : SecurityFeatures → ℕ
features_number features =
    from_bool features.password_algorithms + 2 * from_bool features.username_anonymity

-- the nonce cookie of the features of a number is written, or no features have this number
abbrev pub TellsCookie : ℕ → CResult → (old new : Cookie) → Type 0
TellsCookie number result old new =
    MatchOption (features_named number)
    (Refuses (plain BAD_ARGUMENT) result old new)
    (λ features. (result ≡ plain OK) × (new ≡ record { bytes = cookie features }))

-- the features that a nonce promises, or that it begins with no nonce cookie, and C's number stays
abbrev pub TellsFeatures : Option SecurityFeatures → Bool → (old new : ℕ) → Type 0
TellsFeatures reported result old new =
    (result ≡ is_some reported) × (new ≡ option_map_or features_number reported old)
