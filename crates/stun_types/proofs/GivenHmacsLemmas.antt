-- Lemmas on HMACs that a caller computes.
use Rattle.std.proofs.Common.{◌≡◌, ℕ, Bool, true, false, List, length, take, Option, Some, None, Ok, Err, refl, sym, ap, subst, ◌∙◌, ◌-◌, ◌++◌, append_assoc, drop}
use Rattle.std.specs.Prelude.{nat_eq}
use Rattle.std.specs.Option.{option_map}
use Rattle.std.specs.Cmp.Lexicographic.{pointwise}
use Rattle.stun_grammar.specs.Numbers.{be16}
use Rattle.stun_grammar.specs.Fingerprints.{ending_length_field, message_before}
use Rattle.stun_grammar.specs.Chains.{Shown}
use Rattle.stun_grammar.specs.declared.attribute_type.AttributeType.{AttributeType}
use Rattle.stun_grammar.specs.declared.error.StunParseError.{StunParseError}
use Rattle.stun_grammar.specs.declared.error.StunParseError.TheVariants.{MissingAttribute}
use Rattle.stun_grammar.specs.declared.error.ValidateError.TheVariants.{Parse, IntegrityFailed}
use Rattle.stun_grammar.specs.declared.integrity_algorithm.IntegrityAlgorithm.{IntegrityAlgorithm}
use Rattle.stun_grammar.specs.Hmac.{hmac}
use Rattle.stun_grammar.specs.Verdicts.{algorithm_of, hmac_fault, covered_bytes, verdict, verdict_by, verdict_on_by, last_shown, is_checked_type, GivesHmac}
use Rattle.stun_grammar.proofs.VerdictsLemmas.{verdict_given}
use Rattle.stun_types.specs.declared.message.hmac.Hmac.{Hmac}
use Rattle.stun_types.specs.declared.message.covered.CoveredText.{CoveredText}
use Rattle.stun_types.specs.declared.message.validate.check.IntegrityCheck.{IntegrityCheck}
use Rattle.stun_types.specs.Validating.{shown_integrity, IsChecked}
use Rattle.stun_types.specs.GivenHmacs.{given, given_for, text_algorithm, text_bytes, checked_text, IsCheckOf}
use Rattle.stun_types.proofs.ValidatingLemmas.{own_algorithm}

-- ---- The verdict if no HMAC is compared

pub missing_by : (wanted : ℕ → Bool) (hmacs : IntegrityAlgorithm → List ℕ → List ℕ) (d : List ℕ) (reported : AttributeType) → reported.0 ≡ 0x0008 → last_shown wanted d ≡ None → verdict_by wanted hmacs d ≡ Err (Parse (MissingAttribute reported))
unfolding verdict_by
missing_by wanted hmacs d reported type-is none = rw none (ap (λ (n : ℕ). Err (Parse (MissingAttribute (record { 0 = n })))) (sym type-is))

pub unlawful_by : (wanted : ℕ → Bool) (hmacs : IntegrityAlgorithm → List ℕ → List ℕ) (d : List ℕ) (x : Shown) (algorithm : IntegrityAlgorithm) (reported : StunParseError) → last_shown wanted d ≡ Some x → algorithm ≡ algorithm_of x.type → hmac_fault algorithm (length x.value) ≡ Some reported
    → verdict_by wanted hmacs d ≡ Err (Parse reported)
unfolding verdict_by
unlawful_by wanted hmacs d x algorithm reported last algorithm-is fault =
    let at : hmac_fault (algorithm_of x.type) (length x.value) ≡ Some reported = rw algorithm-is at fault in
    rw (last, at) refl

-- ---- The verdict on the attribute that is checked

abbrev pub is_given : (IntegrityAlgorithm → List ℕ → List ℕ) → IntegrityAlgorithm → List ℕ → ℕ → List ℕ → Bool
is_given hmacs algorithm d offset value = pointwise nat_eq value (take (length value) (hmacs algorithm (covered_bytes d offset (length value))))

pub failed_by : (hmacs : IntegrityAlgorithm → List ℕ → List ℕ) (d : List ℕ) (x : Shown) (algorithm : IntegrityAlgorithm) → algorithm ≡ algorithm_of x.type → hmac_fault algorithm (length x.value) ≡ None → is_given hmacs algorithm d x.offset x.value ≡ false
    → verdict_on_by hmacs d x ≡ Err IntegrityFailed
failed_by hmacs d x algorithm algorithm-is lawful-is test =
    let lawful-at : hmac_fault (algorithm_of x.type) (length x.value) ≡ None = rw algorithm-is at lawful-is in
    let tested : is_given hmacs (algorithm_of x.type) d x.offset x.value ≡ false = rw algorithm-is at test in
    rw (lawful-at, tested) refl

pub ok_by : (hmacs : IntegrityAlgorithm → List ℕ → List ℕ) (d : List ℕ) (x : Shown) (algorithm : IntegrityAlgorithm) → algorithm ≡ algorithm_of x.type → hmac_fault algorithm (length x.value) ≡ None → is_given hmacs algorithm d x.offset x.value ≡ true
    → verdict_on_by hmacs d x ≡ Ok algorithm
ok_by hmacs d x algorithm algorithm-is lawful-is test =
    let lawful-at : hmac_fault (algorithm_of x.type) (length x.value) ≡ None = rw algorithm-is at lawful-is in
    let tested : is_given hmacs (algorithm_of x.type) d x.offset x.value ≡ true = rw algorithm-is at test in
    rw (lawful-at, tested, algorithm-is) refl

pub by_last : (wanted : ℕ → Bool) (hmacs : IntegrityAlgorithm → List ℕ → List ℕ) (d : List ℕ) (x : Shown) → last_shown wanted d ≡ Some x → verdict_on_by hmacs d x ≡ verdict_by wanted hmacs d
unfolding verdict_by
by_last wanted hmacs d x last = rw last refl

-- ---- The covered text

pub joined : (d beginning : List ℕ) (offset size : ℕ) → beginning ≡ take 2 d ++ be16 (ending_length_field offset size) → beginning ++ take (offset - 4) (drop 4 d) ≡ message_before d offset size
unfolding message_before
joined d beginning offset size e = rw e (append_assoc (take 2 d) (be16 (ending_length_field offset size)) (take (offset - 4) (drop 4 d)))

pub check_of : (m : Option IntegrityAlgorithm) (d : List ℕ) (check : IntegrityCheck) → IsChecked m d (shown_integrity check.found) → text_algorithm check.text ≡ check.found.algorithm
    → text_bytes check.text ≡ covered_bytes d check.found.offset (length check.found.value.now) → IsCheckOf m d check
check_of m d check checked is covers = record {
  checked = checked;
  algorithm = is;
  covers = ap (option_map (λ (x : Shown). covered_bytes d x.offset (length x.value))) checked.last_is ∙ ap Some (sym covers);
}

some_is : {A : Type 0} (x y : A) → Some x ≡ Some y → x ≡ y
some_is x y e = cc

-- the HMAC of the text is that of the bytes that the attribute covers
pub gives : (m : Option IntegrityAlgorithm) (d : List ℕ) (check : IntegrityCheck) (h : Hmac) (keys : IntegrityAlgorithm → List ℕ) → IsCheckOf m d check
    → given_for h (text_algorithm check.text) ≡ hmac (text_algorithm check.text) (keys (text_algorithm check.text)) (text_bytes check.text) → GivesHmac (is_checked_type m) keys (given h) d
gives m d check h keys t is =
    let x = shown_integrity check.found in
    let bytes : covered_bytes d x.offset (length x.value) ≡ text_bytes check.text =
    some_is _ _ (sym (ap (option_map (λ (y : Shown). covered_bytes d y.offset (length y.value))) t.checked.last_is) ∙ t.covers) in
    let own : given_for h (algorithm_of x.type) ≡ hmac (algorithm_of x.type) (keys (algorithm_of x.type)) (text_bytes check.text) =
    subst (λ (a : IntegrityAlgorithm). given_for h a ≡ hmac a (keys a) (text_bytes check.text)) (t.algorithm ∙ own_algorithm check.found.algorithm) is in
    let at : given_for h (algorithm_of x.type) ≡ hmac (algorithm_of x.type) (keys (algorithm_of x.type)) (covered_bytes d x.offset (length x.value)) =
    own ∙ ap (hmac (algorithm_of x.type) (keys (algorithm_of x.type))) (sym bytes) in
    rw t.checked.last_is at

-- so the verdict by it is the verdict by the key
pub by_key : (m : Option IntegrityAlgorithm) (d : List ℕ) (check : IntegrityCheck) (text : CoveredText) (h : Hmac) (keys : IntegrityAlgorithm → List ℕ) → IsCheckOf m d check → text ≡ checked_text check
    → given_for h (text_algorithm text) ≡ hmac (text_algorithm text) (keys (text_algorithm text)) (text_bytes text) → verdict_by (is_checked_type m) (given h) d ≡ verdict (is_checked_type m) keys d
by_key m d check text h keys t same is =
    let at : given_for h (text_algorithm check.text) ≡ hmac (text_algorithm check.text) (keys (text_algorithm check.text)) (text_bytes check.text) =
    subst (λ (s : CoveredText). given_for h (text_algorithm s) ≡ hmac (text_algorithm s) (keys (text_algorithm s)) (text_bytes s)) same is in
    verdict_given (is_checked_type m) keys (given h) d (gives m d check h keys t at)
