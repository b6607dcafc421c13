-- What validation returns (RFC 8489, sections 14.5 and 14.6).
use Rattle.std.specs.Prelude.{◌≡◌, ℕ, ◌+◌, ◌%◌, Bool, ◌||◌, List, length, take, find, reverse, Option, Some, None, IfSome, Result, Ok, Err, nat_eq, ◌==◌, if◌then◌else◌}
use Rattle.std.specs.Cmp.Lexicographic.{pointwise}
use Rattle.std.specs.Option.{option_map, option_map_or, option_or}
use Rattle.stun_grammar.specs.declared.error.StunParseError.{StunParseError}
use Rattle.stun_grammar.specs.declared.error.StunParseError.TheVariants.{MissingAttribute, InvalidAttributeData}
use Rattle.stun_grammar.specs.declared.error.ValidateError.{ValidateError}
use Rattle.stun_grammar.specs.declared.error.ValidateError.TheVariants.{Parse, IntegrityFailed}
use Rattle.stun_grammar.specs.declared.integrity_algorithm.IntegrityAlgorithm.{IntegrityAlgorithm}
use Rattle.stun_grammar.specs.declared.integrity_algorithm.IntegrityAlgorithm.TheVariants.{Sha1, Sha256}
use Rattle.stun_grammar.specs.Numbers.{padded_length}
use Rattle.stun_grammar.specs.Chains.{Shown}
use Rattle.stun_grammar.specs.AttributeTypes.{MESSAGE_INTEGRITY, MESSAGE_INTEGRITY_SHA256}
use Rattle.stun_grammar.specs.Showing.{shown}
use Rattle.stun_grammar.specs.Fingerprints.{message_before}
use Rattle.stun_grammar.specs.Hmac.{hmac}
use Rattle.stun_grammar.specs.Lengths.{range_fault, exact_fault}

-- ---- The attribute that is checked

-- the type of the integrity attribute of an algorithm
abbrev pub type_of_algorithm : IntegrityAlgorithm → ℕ
type_of_algorithm Sha1 = MESSAGE_INTEGRITY
type_of_algorithm Sha256 = MESSAGE_INTEGRITY_SHA256

-- the algorithm of an integrity attribute's type
abbrev pub algorithm_of : ℕ → IntegrityAlgorithm
algorithm_of type = if type == MESSAGE_INTEGRITY then Sha1 else Sha256

-- whether attributes of this type are checked: both integrity attributes are, but with a key that
-- was made for one algorithm only the attribute of that algorithm
abbrev pub is_checked_type : Option IntegrityAlgorithm → ℕ → Bool
is_checked_type None type = (type == MESSAGE_INTEGRITY) || (type == MESSAGE_INTEGRITY_SHA256)
is_checked_type (Some algorithm) type = type == type_of_algorithm algorithm

-- the last attribute shown of a wanted type
abbrev pub last_shown : (ℕ → Bool) → List ℕ → Option Shown
last_shown wanted d = find (λ a. wanted a.type) (reverse (shown d))

-- why an integrity attribute's value can't have n bytes: that of MESSAGE-INTEGRITY has 20, that of
-- MESSAGE-INTEGRITY-SHA256 has 16 to 32, a multiple of 4
unfoldable pub hmac_fault : IntegrityAlgorithm → ℕ → Option StunParseError
hmac_fault Sha1 n = exact_fault 20 n
hmac_fault Sha256 n =
    option_or (range_fault 16 32 n) (if n % 4 == 0 then None else Some InvalidAttributeData)

-- the bytes that the integrity attribute at an offset covers, if its value has n bytes: the
-- message before it, with the length field of a message that ends with that attribute
abbrev pub covered_bytes : List ℕ → ℕ → ℕ → List ℕ
covered_bytes d offset n = message_before d offset (4 + padded_length n)

-- ---- The verdict, if a function gives the HMAC of an algorithm over the covered bytes

-- the verdict on one integrity attribute: Ok if its value has an allowed length and is a prefix
-- of the HMAC that is given for the covered bytes
abbrev pub verdict_on_by : (IntegrityAlgorithm → List ℕ → List ℕ) → List ℕ → Shown
    → Result IntegrityAlgorithm ValidateError
verdict_on_by given d x =
    let algorithm = algorithm_of x.type in
    let n = length x.value in
    option_map_or (λ fault. Err (Parse fault)) (hmac_fault algorithm n) (
    if pointwise nat_eq x.value
    (take n (given algorithm (covered_bytes d x.offset n)))
    then Ok algorithm else Err IntegrityFailed)

-- a verdict on the last integrity attribute of a wanted type; the error if there is none
abbrev pub verdict_on_last : (Shown → Result IntegrityAlgorithm ValidateError) → (ℕ → Bool)
    → List ℕ → Result IntegrityAlgorithm ValidateError
verdict_on_last on wanted d =
    option_map_or on (last_shown wanted d)
    (Err (Parse (MissingAttribute (record { 0 = MESSAGE_INTEGRITY }))))

-- what validation returns by HMACs that are given
unfoldable pub verdict_by : (ℕ → Bool) → (IntegrityAlgorithm → List ℕ → List ℕ) → List ℕ
    → Result IntegrityAlgorithm ValidateError
verdict_by wanted given d = verdict_on_last (verdict_on_by given d) wanted d

-- ---- The verdict, if each algorithm has a key

-- the verdict on one integrity attribute, by the HMACs under the keys
unfoldable pub verdict_on : (IntegrityAlgorithm → List ℕ) → List ℕ → Shown
    → Result IntegrityAlgorithm ValidateError
verdict_on key d x = verdict_on_by (λ algorithm c. hmac algorithm (key algorithm) c) d x

-- what validation returns: the verdict on the last integrity attribute of a wanted type
unfoldable pub verdict : (ℕ → Bool) → (IntegrityAlgorithm → List ℕ) → List ℕ
    → Result IntegrityAlgorithm ValidateError
verdict wanted key d = verdict_on_last (verdict_on key d) wanted d

-- for the bytes that the last integrity attribute of a wanted type covers, the HMAC under the key
-- is given
abbrev pub GivesHmac : (ℕ → Bool) → (IntegrityAlgorithm → List ℕ)
    → (IntegrityAlgorithm → List ℕ → List ℕ) → List ℕ → Type 0
GivesHmac wanted key given d =
    IfSome (last_shown wanted d) (λ x.
    let algorithm = algorithm_of x.type in
    let c = covered_bytes d x.offset (length x.value) in
    given algorithm c ≡ hmac algorithm (key algorithm) c)

-- the bytes that the last integrity attribute of a wanted type covers
abbrev pub covered : (ℕ → Bool) → List ℕ → Option (List ℕ)
covered wanted d = option_map (λ x. covered_bytes d x.offset (length x.value)) (last_shown wanted d)

-- d validates with an algorithm, and c are the covered bytes
pub record Validates (made_for : Option IntegrityAlgorithm) (key : IntegrityAlgorithm → List ℕ)
    (d c : List ℕ) (algorithm : IntegrityAlgorithm) : Type 0 where
  pub answers : verdict (is_checked_type made_for) key d ≡ Ok algorithm
  pub covers : covered (is_checked_type made_for) d ≡ Some c
