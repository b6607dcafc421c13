-- What a client's next request carries of a challenge, and the key that signs it (RFC 8489, sections
-- 9.2.2, 9.2.3.2 and 9.2.5).
use Rattle.std.specs.Prelude.{◌≡◌, ℕ, Bool, false, List, [], ◌∷◌, length, Option, None, Some, Result, Ok, Err, MatchOption, MatchResult, IsSomeAnd, nat_lt, if◌then◌else◌}
use Rattle.std.specs.Option.{option_map_or, option_or}
use Rattle.stun_grammar.specs.Parsing.{parse_fault}
use Rattle.stun_keys.specs.declared.keys.integrity_key.IntegrityKey.{IntegrityKey}
use Rattle.stun_keys.specs.Keys.{IsKey, key_bytes}
use Rattle.stun_values.specs.TextValues.{username_max}
use Rattle.stun_authentication.specs.declared.retry.NoRetry.{NoRetry}
use Rattle.stun_authentication.specs.Challenges.{Retry, challenge_of, signing_algorithm}
use Rattle.stun_authentication.specs.Requests.{login_steps, user_key}
use Rattle.stun_types_c.specs.declared.call_result.CResult.{CResult}
use Rattle.stun_types_c.specs.CResults.{plain, counted, parse_result, Refuses}
use Rattle.stun_types_c.specs.Challenges.{retry_answer}
use Rattle.stun_types_c.specs.Codes.{OK, TOO_LARGE, BAD_ARGUMENT, NO_KEY}
use Rattle.stun_types_c.specs.Credentials.{texts_refusal, WithTexts}
use Rattle.stun_types_c.specs.Keys.{password_answer}
use Rattle.stun_types_c.specs.PasswordAlgorithms.{password_algorithms_named}
use Rattle.stun_types_c.specs.Writing.{Written, serving_answer, TakesIn}

-- how the request is sent again, or why it isn't, in C's numbers
abbrev pub in_answer : Result Retry NoRetry → Result Retry CResult
in_answer (Ok retry) = Ok retry
in_answer (Err reason) = Err (retry_answer reason)

-- how a client that supports the algorithms of these numbers sends its request again after d, or why
-- it doesn't
abbrev pub challenge_in : (numbers d : List ℕ) → Result Retry CResult
challenge_in numbers d =
    option_map_or (λ supported.
    option_map_or (λ e. Err (parse_result e)) (parse_fault d)
    (in_answer (challenge_of supported None false d)))
    (password_algorithms_named numbers) (Err (plain BAD_ARGUMENT))

-- a handle holds the key of a user in the realm of the challenge, by the password algorithm that it
-- asks for
abbrev pub HoldsAsked : Retry → (user password : List ℕ) → CResult
    → (old new : Option IntegrityKey) → Type 0
HoldsAsked retry user password result old new =
    WithTexts user retry.asked.realm password
    ((result ≡ plain OK)
    × IsSomeAnd new (IsKey None (user_key retry (record { name = user; password = password }))))
    (λ answer. Refuses answer result old new)

-- the same by what C passes, with a password that has bytes
abbrev pub HoldsFor : (numbers d user password : List ℕ) → CResult
    → (old new : Option IntegrityKey) → Type 0
HoldsFor numbers d user password result old new =
    MatchOption (password_answer password)
    (MatchResult (challenge_in numbers d)
    (λ retry. HoldsAsked retry user password result old new)
    (λ answer. Refuses answer result old new))
    (λ answer. Refuses answer result old new)

-- why a user isn't named: the name is no text, or too long for a USERNAME
abbrev pub name_answer : List ℕ → Option CResult
name_answer name =
    option_or (texts_refusal (name ∷ []))
    (if nat_lt username_max (length name)
    then Some (counted TOO_LARGE username_max (length name)) else None)

-- a challenge is answered for a user with a key that serves
abbrev pub AnswersRetry : Retry → (name : List ℕ) → (fingerprint : Bool) → Option IntegrityKey
    → CResult → Written → Written → Type 0
AnswersRetry retry name fingerprint held result old new =
    MatchOption (name_answer name)
    (MatchOption held
    (Refuses (plain NO_KEY) result old new)
    (λ key. MatchOption (serving_answer key (signing_algorithm retry))
    (TakesIn (login_steps fingerprint retry name (key_bytes key)) result old new)
    (λ answer. Refuses answer result old new)))
    (λ answer. Refuses answer result old new)

-- the same by what C passes
abbrev pub AnswersChallenge : (numbers d name : List ℕ) → (fingerprint : Bool)
    → Option IntegrityKey → CResult → Written → Written → Type 0
AnswersChallenge numbers d name fingerprint held result old new =
    MatchResult (challenge_in numbers d)
    (λ retry. AnswersRetry retry name fingerprint held result old new)
    (λ answer. Refuses answer result old new)
