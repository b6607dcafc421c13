-- How a message that is shown is validated, and how the run ends by it.
use Rattle.std.specs.Prelude.{◌≡◌, ◌≢◌, ℕ, Bool, List, take, Option, None, Some, Result, Ok, Err, is_ok, MatchOption, if◌then◌else◌}
use Rattle.stun_grammar.specs.declared.error.ValidateError.{ValidateError}
use Rattle.stun_grammar.specs.declared.integrity_algorithm.IntegrityAlgorithm.{IntegrityAlgorithm}
use Rattle.stun_grammar.specs.AttributeTypes.{PASSWORD_ALGORITHM}
use Rattle.stun_grammar.specs.Verdicts.{is_checked_type, verdict}
use Rattle.stun_grammar.specs.Parsing.{parse_fault}
use Rattle.stun_keys.specs.declared.keys.credentials.MessageIntegrityCredentials.{MessageIntegrityCredentials}
use Rattle.stun_keys.specs.Keys.{credentials_key}
use Rattle.stun_values.specs.declared.algorithm.PasswordAlgorithmValue.{PasswordAlgorithmValue}
use Rattle.stun_values.specs.declared.algorithm.PasswordAlgorithmValue.TheVariants.{MD5, SHA256}
use Rattle.stun_values.specs.Algorithms.{one_algorithm_fault, algorithm_encoding, integrity_of}
use Rattle.stun_types.specs.LookingUp.{nth}
use Rattle.stun.specs.declared.end.RunEnd.{RunEnd}
use Rattle.stun.specs.declared.end.RunEnd.TheVariants.{Shown, Rejected}
use Rattle.stun.specs.Values.{shows_malformed}

-- what a validation answers
abbrev pub Validated : Type 0
Validated = Result IntegrityAlgorithm ValidateError

-- the algorithm that the first PASSWORD-ALGORITHM of d names, if d shows one, and it is known
abbrev pub Asks : List ℕ → Option PasswordAlgorithmValue → Type 0
Asks d asked =
    MatchOption (nth d PASSWORD_ALGORITHM 0) (asked ≡ None)
    (λ attribute. MatchOption asked (one_algorithm_fault attribute.value ≢ None)
    (λ algorithm. (one_algorithm_fault attribute.value ≡ None)
    × (algorithm_encoding algorithm ≡ take 4 attribute.value)))

-- which integrity attribute is checked: the last, or the one of an algorithm
abbrev pub Checked : Type 0
Checked = Option IntegrityAlgorithm

-- with the key that credentials give by an algorithm; that of short-term credentials is the same by
-- each
abbrev pub by_algorithm : MessageIntegrityCredentials → Checked → List ℕ → PasswordAlgorithmValue
    → Validated
by_algorithm credentials checked d algorithm =
    verdict (is_checked_type checked) (λ _. credentials_key credentials (integrity_of algorithm)) d

-- by MD5, or, if that isn't valid, by SHA-256
abbrev pub by_either : MessageIntegrityCredentials → Checked → List ℕ → Validated
by_either credentials checked d =
    if is_ok (by_algorithm credentials checked d MD5) then by_algorithm credentials checked d MD5
    else by_algorithm credentials checked d SHA256

-- by the algorithm that is asked for, or, if none is, by either
abbrev pub by_asked : MessageIntegrityCredentials → Checked → List ℕ
    → Option PasswordAlgorithmValue
    → Validated
by_asked credentials checked d (Some algorithm) = by_algorithm credentials checked d algorithm
by_asked credentials checked d None = by_either credentials checked d

-- what a validation of d by credentials answers
abbrev pub Validates : MessageIntegrityCredentials → Checked → List ℕ → Validated → Type 0
Validates credentials checked d validated =
    (asked : Option PasswordAlgorithmValue) × Asks d asked
    × (validated ≡ by_asked credentials checked d asked)

-- what a validation answers if credentials are given
abbrev pub ValidatesBy : Option MessageIntegrityCredentials → List ℕ → Option Validated → Type 0
ValidatesBy None d validated = validated ≡ None
ValidatesBy (Some credentials) d validated =
    (answer : Validated) × Validates credentials None d answer × (validated ≡ Some answer)

-- how a run ends by a message that has something malformed or not
abbrev pub end_of : Bool → RunEnd
end_of malformed = if malformed then Rejected else Shown

-- the same if the message was validated: what isn't valid is rejected
abbrev pub end_by : Bool → Option Validated → RunEnd
end_by malformed None = end_of malformed
end_by malformed (Some (Ok algorithm)) = end_of malformed
end_by malformed (Some (Err error)) = Rejected

-- how it ends by a message d that is validated by credentials, if some are given
abbrev pub EndsMessage : Option MessageIntegrityCredentials → List ℕ → RunEnd → Type 0
EndsMessage credentials d end =
    (validated : Option Validated) × ValidatesBy credentials d validated
    × (end ≡ end_by (shows_malformed d) validated)

-- how it ends by octets: what is no message is rejected
abbrev pub EndsOctets : Option MessageIntegrityCredentials → List ℕ → RunEnd → Type 0
EndsOctets credentials d end =
    MatchOption (parse_fault d) (EndsMessage credentials d end) (λ refusal. end ≡ Rejected)
