-- What a step that signs appends, and what the bytes that it covers determine.
use Rattle.std.proofs.Common.{◌≡◌, ℕ, ◌+◌, ◌-◌, ◌%◌, ◌^◌, ◌<◌, ◌≤◌, Bool, false, true, List, [], ◌∷◌, ◌++◌, length, take, drop, Some, None, Ok, refl, sym, ap, ◌∙◌, arith}
use Rattle.std.specs.Prelude.{find, reverse}
use Rattle.std.specs.List.{AllByRecursion, list_any}
use Rattle.std.proofs.lemmas.List.{take_all}
use Rattle.std.proofs.lemmas.Slice.Eq.{slice_eq-Decides}
use Rattle.std.proofs.lemmas.Bool.Decides.{Decides-eqb}
use Rattle.stun_grammar.specs.declared.integrity_algorithm.IntegrityAlgorithm.{IntegrityAlgorithm}
use Rattle.stun_grammar.specs.declared.integrity_algorithm.IntegrityAlgorithm.TheVariants.{Sha1, Sha256}
use Rattle.stun_grammar.specs.Numbers.{number, padded_length}
use Rattle.stun_grammar.specs.Attributes.{Attribute, IsAttribute, canonical, encodings, types}
use Rattle.stun_grammar.specs.Chains.{Shown, chain, placed}
use Rattle.stun_grammar.specs.AttributeTypes.{FINGERPRINT}
use Rattle.stun_grammar.specs.Fingerprints.{fingerprint_value}
use Rattle.stun_grammar.specs.Hmac.{digest_length, hmac}
use Rattle.stun_grammar.specs.Verdicts.{type_of_algorithm, algorithm_of, last_shown, hmac_fault, covered_bytes, verdict}
use Rattle.stun_grammar.specs.Authentic.{stated_hmac_length, checked, authentic}
use Rattle.stun_grammar.specs.Writing.{message_encoding, IsWritable}
use Rattle.stun_grammar.specs.Steps.{Step, add, sign, sign_given, finger, appended_by, with_step, IsEncodable, value_length, integrity_value, SignsAs}
use Rattle.stun_grammar.proofs.ChainsLemmas.{chain-encodings}
use Rattle.stun_grammar.proofs.ParsingLemmas.{placed-append}
use Rattle.stun_grammar.proofs.HmacLemmas.{hmac_has_length}
use Rattle.stun_grammar.proofs.WritingLemmas.{canonical_is, length-message, behind-header, type-message, id-message, shown-message, encoding_same}
use Rattle.stun_grammar.proofs.ShowingLemmas.{shown_as, at_type, last_at}
use Rattle.stun_grammar.proofs.VerdictsLemmas.{covered-parts, stated-is, verdict_ok, value_test}
use Rattle.stun_grammar.proofs.AuthenticContentLemmas.{content_of, same_content}

digest_is : (a : IntegrityAlgorithm) → (type_of_algorithm a < 2 ^ 16) × (digest_length a % 4 ≡ 0) × (digest_length a ≤ 32)
digest_is Sha1 = (omega arith, refl, omega arith)
digest_is Sha256 = (omega arith, refl, omega arith)

digest_lawful : (a : IntegrityAlgorithm) → (hmac_fault a (digest_length a) ≡ None) × (algorithm_of (type_of_algorithm a) ≡ a)
unfolding hmac_fault
digest_lawful Sha1 = (refl, refl)
digest_lawful Sha256 = (refl, refl)

length-fingerprint : (d : List ℕ) (o : ℕ) → length (fingerprint_value d o) ≡ 4
unfolding fingerprint_value
length-fingerprint d o = refl

-- the length of the value that a step appends
pub value_is : (step : Step) (message : List ℕ) → length (appended_by step message).value ≡ value_length step
unfolding appended_by
value_is (add type value) message = refl
value_is (sign a key) message = hmac_has_length a key (covered_bytes message (length message) (digest_length a))
value_is (sign_given a given) message = refl
value_is finger message = length-fingerprint message (length message)

-- what a step appends is an attribute
pub appended_is : (step : Step) (message : List ℕ) → IsEncodable step → IsAttribute (appended_by step message)
unfolding appended_by
appended_is (add type value) message ok = canonical_is type value ok.0 ok.1
appended_is (sign a key) message ok =
    let c = covered_bytes message (length message) (digest_length a) in
    canonical_is (type_of_algorithm a) (hmac a key c) (digest_is a).0 (omega (arith, hmac_has_length a key c, (digest_is a).2))
appended_is (sign_given a given) message ok = canonical_is (type_of_algorithm a) given (digest_is a).0 (omega (arith, ok, (digest_is a).2))
appended_is finger message ok = canonical_is FINGERPRINT (fingerprint_value message (length message)) (omega arith) (omega (arith, length-fingerprint message (length message)))

-- covered bytes determine the message in which they were signed, through the attribute that signed
-- them
pub authentic_encoding : (type id : ℕ) (before : List Attribute) (a : IntegrityAlgorithm) (key : List ℕ) → type < 2 ^ 14 → id < 2 ^ 96 → AllByRecursion IsAttribute before
    → (let message = message_encoding type id before in
    authentic (covered_bytes message (length message) (digest_length a)) key a ≡ content_of type id (placed 20 (with_step type id before (sign a key))))
unfolding authentic appended_by
authentic_encoding type id before a key type_fits id_fits each =
    let message = message_encoding type id before in
    let o : ℕ = length message in
    let n : ℕ = digest_length a in
    let c = covered_bytes message o n in
    let whole = length-message type id before in
    let is = covered-parts message o n (omega (arith, whole)) (omega arith) in
    let d = digest_is a in
    let stated : stated_hmac_length c ≡ n = stated-is message o n (omega (arith, whole)) (omega arith) d.1 d.2 in
    let prefix-is : drop 20 c ≡ encodings before = is.1 ∙ ap (take (o - 20)) (behind-header type id before) ∙ take_all (o - 20) (encodings before) (omega (arith, whole)) in
    let chain-is : chain (drop 20 c) ≡ before = ap chain prefix-is ∙ (chain-encodings before each).0 in
    let value : take (stated_hmac_length c) (hmac a key c) ≡ hmac a key c = take_all (stated_hmac_length c) (hmac a key c) (omega (arith, stated, hmac_has_length a key c)) in
    same_content _ _ _ _ _ _ (ap number is.2 ∙ type-message type id before type_fits) (ap number is.3 ∙ id-message type id before id_fits)
    (ap (λ (xs : List Attribute). placed 20 xs ++ placed (length c) (checked c key a ∷ [])) chain-is
    ∙ ap (λ (k : ℕ). placed 20 before ++ placed k (checked c key a ∷ [])) (is.0 ∙ whole)
    ∙ ap (λ (v : List ℕ). placed 20 before ++ placed (20 + length (encodings before)) (canonical (type_of_algorithm a) v ∷ [])) value
    ∙ sym (placed-append 20 before (canonical (type_of_algorithm a) (hmac a key c) ∷ [])))

-- a message validates in which a step signed, if no wanted integrity attribute follows
pub signed_validates : (type id : ℕ) (before behind : List Attribute) (a : IntegrityAlgorithm) (key : IntegrityAlgorithm → List ℕ) (wanted : ℕ → Bool)
    → (let all = before ++ appended_by (sign a (key a)) (message_encoding type id before) ∷ behind in
    IsWritable type id all → wanted (type_of_algorithm a) ≡ true → list_any wanted (types behind) ≡ false
    → verdict wanted key (message_encoding type id all) ≡ Ok a)
unfolding appended_by
signed_validates type id before behind a key wanted w asked none =
    let message = message_encoding type id before in
    let c = covered_bytes message (length message) (digest_length a) in
    let value = hmac a (key a) c in
    let one = canonical (type_of_algorithm a) value in
    let all = before ++ one ∷ behind in
    let d = message_encoding type id all in
    let o : ℕ = 20 + length (encodings before) in
    let x : Shown = shown_as o (type_of_algorithm a) value in
    let n : length value ≡ digest_length a = hmac_has_length a (key a) c in
    let last : last_shown wanted d ≡ Some x = ap (λ (xs : List Shown). find (at_type wanted) (reverse xs)) (shown-message type id all w) ∙ last_at wanted 20 before one behind asked none in
    let same : algorithm_of (type_of_algorithm a) ≡ a = (digest_lawful a).1 in
    let lawful : hmac_fault (algorithm_of (type_of_algorithm a)) (length value) ≡ None = rw (same, n) (digest_lawful a).0 in
    let right : value ≡ take (length value) (hmac (algorithm_of (type_of_algorithm a)) (key (algorithm_of (type_of_algorithm a))) (covered_bytes d o (length value))) =
    sym (ap (λ (b : IntegrityAlgorithm). take (length value) (hmac b (key b) (covered_bytes d o (length value)))) same
    ∙ ap (λ (m : ℕ). take (length value) (hmac a (key a) (covered_bytes d o m))) n
    ∙ ap (λ (t : List ℕ). take (length value) (hmac a (key a) t)) (encoding_same type id before (one ∷ behind) (4 + padded_length (digest_length a)))
    ∙ take_all (length value) value (omega arith)) in
    let test : value_test key d x ≡ true = (slice_eq-Decides Decides-eqb value (take (length value) (hmac (algorithm_of (type_of_algorithm a)) (key (algorithm_of (type_of_algorithm a))) (covered_bytes d o (length value)))) _ refl).1 right in
    verdict_ok wanted key d x last lawful test ∙ ap Ok same

-- a step that is given the HMAC under a key signs as one with that key
pub given_signs : (a : IntegrityAlgorithm) (key message given : List ℕ) → given ≡ integrity_value message key a → SignsAs (sign_given a given) message a key
unfolding appended_by
given_signs a key message given is = ap (canonical (type_of_algorithm a)) is
