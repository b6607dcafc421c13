-- HMACs that C's own code computes: what they are of, and what becomes of them (RFC 8489, sections
-- 14.5 and 14.6).
use Rattle.std.specs.Prelude.{◌≡◌, ℕ, ◌-◌, Bool, ◌&&◌, List, [], ◌∷◌, ◌++◌, length, take, drop, Option, None, Some, MatchOption, nat_eq, ◌==◌, if◌then◌else◌}
use Rattle.std.specs.Cmp.Lexicographic.{pointwise}
use Rattle.std.specs.Option.{option_map}
use Rattle.stun_grammar.specs.declared.integrity_algorithm.IntegrityAlgorithm.{IntegrityAlgorithm}
use Rattle.stun_grammar.specs.declared.integrity_algorithm.IntegrityAlgorithm.TheVariants.{Sha1, Sha256}
use Rattle.stun_grammar.specs.AttributeTypes.{MESSAGE_INTEGRITY}
use Rattle.stun_grammar.specs.Chains.{Shown}
use Rattle.stun_grammar.specs.Parsing.{parse_fault}
use Rattle.stun_grammar.specs.Steps.{sign, signed_bytes, integrity_value}
use Rattle.stun_grammar.specs.Verdicts.{algorithm_of, type_of_algorithm, is_checked_type, last_shown, hmac_fault, covered_bytes, verdict_by}
use Rattle.stun_types.specs.declared.message.hmac.Hmac.{Hmac}
use Rattle.stun_types.specs.declared.message.hmac.Hmac.TheVariants.{Sha1 as OfSha1, Sha256 as OfSha256}
use Rattle.stun_types.specs.GivenHmacs.{hmac_algorithm, hmac_bytes, given}
use Rattle.stun_types.specs.Resuming.{resume_fault}
use Rattle.stun_types_c.specs.declared.call_result.CResult.{CResult}
use Rattle.stun_types_c.specs.declared.given_hmacs.CCovered.{CCovered}
use Rattle.stun_types_c.specs.declared.given_hmacs.CHmac.{CHmac}
use Rattle.stun_types_c.specs.declared.validating.Validated.{Validated}
use Rattle.stun_types_c.specs.Codes.{OK, BAD_ARGUMENT, MISSING_ATTRIBUTE}
use Rattle.stun_types_c.specs.CResults.{plain, about, parse_result, Refuses}
use Rattle.stun_types_c.specs.Keys.{algorithm_named, made_for_named, number_of}
use Rattle.stun_types_c.specs.Validating.{TellsVerdict, Invalidates}
use Rattle.stun_types_c.specs.Writing.{Written, AppendsUnless, step_answer}

-- ---- What C reads, and what it gives

-- what C reads if nothing is covered: a call that fails writes this
abbrev pub not_covered : CCovered
not_covered = record { algorithm = 0; first = 0 ∷ 0 ∷ 0 ∷ 0 ∷ []; length = 0 }

-- what is reported of the bytes that the integrity attribute of an algorithm covers: the first four
-- of them, and how many they are
abbrev pub covered_by : IntegrityAlgorithm → List ℕ → CCovered
covered_by algorithm c =
    record { algorithm = number_of algorithm; first = take 4 c; length = length c }

-- the bytes that C computes the HMAC of: those four, and from the fifth on so many of a message
abbrev pub hashed : CCovered → List ℕ → List ℕ
hashed reported d = reported.first ++ take (reported.length - 4) (drop 4 d)

-- a call answers no, and nothing is covered
abbrev pub CoversNothing : CResult → CResult → CCovered → Type 0
CoversNothing answer result new = (result ≡ answer) × (new ≡ not_covered)

-- the HMAC that C gives: of one by SHA-1 the first twenty bytes count; none by another algorithm
abbrev pub hmac_with : List ℕ → IntegrityAlgorithm → Hmac
hmac_with bytes Sha1 = OfSha1 (take 20 bytes)
hmac_with bytes Sha256 = OfSha256 bytes

abbrev pub hmac_named : CHmac → Option Hmac
hmac_named reported = option_map (hmac_with reported.bytes) (algorithm_named reported.algorithm)

-- ---- Validating

-- what an integrity attribute of d covers, unless its value has a length that its type doesn't
-- allow
abbrev pub ReportsOf : List ℕ → Shown → CResult → CCovered → Type 0
ReportsOf d x result new =
    let algorithm = algorithm_of x.type in
    MatchOption (hmac_fault algorithm (length x.value))
    ((result ≡ plain OK)
    × (new ≡ covered_by algorithm (covered_bytes d x.offset (length x.value))))
    (λ e. CoversNothing (parse_result e) result new)

-- what the integrity attribute of d covers that a validation checks, or that there is none
abbrev pub ReportsLast : Option IntegrityAlgorithm → List ℕ → CResult → CCovered → Type 0
ReportsLast made_for d result new =
    MatchOption (last_shown (is_checked_type made_for) d)
    (CoversNothing (about MISSING_ATTRIBUTE MESSAGE_INTEGRITY) result new)
    (λ x. ReportsOf d x result new)

-- the same by the number of an algorithm, or by 0; or why d is no message, or that the number is
-- no algorithm's
abbrev pub ReportsCovered : ℕ → List ℕ → CResult → CCovered → Type 0
ReportsCovered number d result new =
    MatchOption (parse_fault d)
    (MatchOption (made_for_named number) (CoversNothing (plain BAD_ARGUMENT) result new)
    (λ made_for. ReportsLast made_for d result new))
    (λ e. CoversNothing (parse_result e) result new)

-- validating d by an HMAC that is given: why d is no message, or that a number is no algorithm's,
-- or the verdict
abbrev pub ValidatesGiven : ℕ → CHmac → List ℕ → CResult → Validated → Type 0
ValidatesGiven number reported d result new =
    MatchOption (parse_fault d)
    (MatchOption (made_for_named number) (Invalidates (plain BAD_ARGUMENT) result new)
    (λ made_for. MatchOption (hmac_named reported) (Invalidates (plain BAD_ARGUMENT) result new)
    (λ hmac. TellsVerdict d (verdict_by (is_checked_type made_for) (given hmac) d) result new)))
    (λ e. Invalidates (parse_result e) result new)

-- ---- Signing

-- what the integrity attribute of an algorithm covers if it is added next, or why it isn't added
abbrev pub ReportsNext : ℕ → (slice : List ℕ) → (count : ℕ) → CResult → CCovered → Type 0
ReportsNext number slice count result new =
    let message = take count slice in
    MatchOption (resume_fault slice count)
    (MatchOption (algorithm_named number) (CoversNothing (plain BAD_ARGUMENT) result new)
    (λ algorithm. MatchOption (step_answer (length slice) (sign algorithm []) message)
    ((result ≡ plain OK) × (new ≡ covered_by algorithm (signed_bytes message algorithm)))
    (λ answer. CoversNothing answer result new)))
    (λ _. CoversNothing (plain BAD_ARGUMENT) result new)

-- whether the same is reported
abbrev pub is_same : CCovered → CCovered → Bool
is_same a b =
    ((a.algorithm == b.algorithm) && pointwise nat_eq a.first b.first) && (a.length == b.length)

-- why an HMAC of what was reported isn't added: the attribute covers something else now
abbrev pub changed_answer : CCovered → IntegrityAlgorithm → List ℕ → Option CResult
changed_answer reported algorithm message =
    if is_same reported (covered_by algorithm (signed_bytes message algorithm)) then None
    else Some (plain BAD_ARGUMENT)

-- the integrity attribute of an algorithm is added, with this value, if what was reported of the
-- message is what the attribute covers
abbrev pub AddsValueOf : CCovered → IntegrityAlgorithm → List ℕ → (List ℕ → List ℕ) → CResult
    → Written → Written → Type 0
AddsValueOf reported algorithm key value result old new =
    AppendsUnless (changed_answer reported algorithm (take old.count old.slice))
    (step_answer (length old.slice) (sign algorithm key)) (type_of_algorithm algorithm) value
    result old new

-- the integrity attribute is added with an HMAC that is given
abbrev pub AddsHmac : CCovered → CHmac → CResult → Written → Written → Type 0
AddsHmac covered reported result old new =
    MatchOption (resume_fault old.slice old.count)
    (MatchOption (hmac_named reported) (Refuses (plain BAD_ARGUMENT) result old new)
    (λ hmac. AddsValueOf covered (hmac_algorithm hmac) [] (λ _. hmac_bytes hmac) result old new))
    (λ _. Refuses (plain BAD_ARGUMENT) result old new)

-- the same with the HMAC under a key
abbrev pub SignsGiven : CCovered → List ℕ → IntegrityAlgorithm → CResult → Written → Written
    → Type 0
SignsGiven covered key algorithm result old new =
    AddsValueOf covered algorithm key (λ message. integrity_value message key algorithm) result old
    new
