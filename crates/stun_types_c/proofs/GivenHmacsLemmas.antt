-- Lemmas on HMACs that C's own code computes.
use Rattle.std.proofs.Common.{◌≡◌, ℕ, ◌+◌, ◌-◌, ◌≤◌, true, List, [], ◌++◌, length, take, drop, Option, Some, None, Result, Ok, Err, refl, sym, ap, subst, ◌∙◌, arith, append_assoc, length-append, length-drop, inl, inr}
use Rattle.std.specs.Prelude.{nat_eq}
use Rattle.std.specs.Option.{option_or, option_map}
use Rattle.std.proofs.lemmas.Bool.{cases_lt, lt-ltb, le-ltb}
use Rattle.std.specs.Cmp.Lexicographic.{pointwise, bytes_decides}
use Rattle.std.proofs.Math.Seq.{take-length}
use Rattle.std.proofs.lemmas.List.{length-take, length-take-le, take-take, take_min, take_at, drop-take}
use Rattle.stun_grammar.specs.declared.error.StunParseError.{StunParseError}
use Rattle.stun_grammar.specs.declared.error.StunParseError.TheVariants as Parsing
use Rattle.stun_grammar.specs.declared.error.StunWriteError.{StunWriteError}
use Rattle.stun_grammar.specs.declared.error.ValidateError.{ValidateError}
use Rattle.stun_grammar.specs.declared.error.ValidateError.TheVariants.{Parse}
use Rattle.stun_grammar.specs.declared.integrity_algorithm.IntegrityAlgorithm.{IntegrityAlgorithm}
use Rattle.stun_grammar.specs.declared.integrity_algorithm.IntegrityAlgorithm.TheVariants.{Sha1, Sha256}
use Rattle.stun_grammar.specs.Numbers.{IsBytes, be16, padded_length}
use Rattle.stun_grammar.specs.Chains.{Shown}
use Rattle.stun_grammar.specs.Fingerprints.{ending_length_field, message_before}
use Rattle.stun_grammar.specs.Showing.{frame_fault}
use Rattle.stun_grammar.proofs.HeadersLemmas.{header_there, frame_there}
use Rattle.stun_grammar.proofs.VerdictsLemmas.{stands}
use Rattle.stun_grammar.specs.Hmac.{digest_length}
use Rattle.stun_grammar.specs.Steps.{sign, signed_bytes, integrity_value}
use Rattle.stun_grammar.specs.Adding.{room_refusal, grown_length}
use Rattle.stun_grammar.proofs.AddingRefusedLemmas.{signing_barred}
use Rattle.stun_grammar.specs.Verdicts.{algorithm_of, hmac_fault, covered, covered_bytes, is_checked_type, last_shown, verdict_by, verdict_on_by}
use Rattle.stun_types.specs.declared.message.validate.check.IntegrityCheck.{IntegrityCheck}
use Rattle.stun_types.specs.declared.message.hmac.Hmac.{Hmac}
use Rattle.stun_types.specs.GivenHmacs.{hmac_algorithm, hmac_bytes, text_algorithm, text_bytes, checked_text, IsCheckOf}
use Rattle.stun_types.specs.Validating.{shown_integrity}
use Rattle.stun_types.specs.Resuming.{resume_fault, whole_fault, message_types}
use Rattle.stun_types_c.specs.declared.call_result.CResult.{CResult}
use Rattle.stun_types_c.specs.declared.given_hmacs.CCovered.{CCovered}
use Rattle.stun_types_c.specs.declared.given_hmacs.CHmac.{CHmac}
use Rattle.stun_types_c.specs.CResults.{validate_result, write_result}
use Rattle.stun_types_c.specs.GivenHmacs.{not_covered, covered_by, hashed, hmac_named, ReportsLast, AddsValueOf, AddsHmac, SignsGiven}
use Rattle.stun_types_c.specs.Keys.{number_of}
use Rattle.stun_types_c.specs.Writing.{Written, step_answer}

-- ---- What is reported

-- the four bytes that are reported, and the message after them, are what is covered
four_and_rest : (x y e : List ℕ) (k : ℕ) → length x ≡ 4 → y ≡ take k e → take 4 (x ++ y) ++ take (length (x ++ y) - 4) e ≡ x ++ y
four_and_rest x y e k four is =
    let front : take 4 (x ++ y) ≡ x = take_at x y 4 four in
    let size : length (x ++ y) - 4 ≡ length y = omega (arith, length-append x y) in
    let all : take (length y) e ≡ y = ap (λ (z : List ℕ). take (length z) e) is ∙ (ap (λ (n : ℕ). take n e) (length-take k e) ∙ (take_min k e ∙ sym is)) in
    rw (front, size, all) refl

-- the first four bytes that are covered
abbrev begins : List ℕ → ℕ → ℕ → List ℕ
begins d offset size = take 2 d ++ be16 (ending_length_field offset size)

four : (d : List ℕ) (offset size : ℕ) → 20 ≤ length d → length (begins d offset size) ≡ 4
four d offset size long = length-append (take 2 d) (be16 (ending_length_field offset size)) ∙ ap (λ (n : ℕ). n + 2) (length-take-le 2 d (omega arith))

joined : (d : List ℕ) (offset size : ℕ) → begins d offset size ++ take (offset - 4) (drop 4 d) ≡ message_before d offset size
unfolding message_before
joined d offset size = append_assoc (take 2 d) (be16 (ending_length_field offset size)) (take (offset - 4) (drop 4 d))

pub hashed_is : (a : IntegrityAlgorithm) (d : List ℕ) (offset n : ℕ) → 20 ≤ length d → hashed (covered_by a (covered_bytes d offset n)) d ≡ covered_bytes d offset n
hashed_is a d offset n long =
    let size = 4 + padded_length n in
    let is : begins d offset size ++ take (offset - 4) (drop 4 d) ≡ covered_bytes d offset n = joined d offset size in
    subst (λ (c : List ℕ). take 4 c ++ take (length c - 4) (drop 4 d) ≡ c) is
    (four_and_rest (begins d offset size) (take (offset - 4) (drop 4 d)) (drop 4 d) (offset - 4) (four d offset size long) refl)

-- the same of a message that is the first bytes of a slice
front_of : (slice : List ℕ) (count k : ℕ) → 20 ≤ count → take k (drop 4 (take count slice)) ≡ take k (take (count - 4) (drop 4 slice))
front_of slice count k long =
    let more : count ≡ 4 + (count - 4) = omega arith in
    ap (λ (n : ℕ). take k (drop 4 (take n slice))) more ∙ ap (take k) (drop-take 4 (count - 4) slice)

-- ---- The integrity attribute that is checked

some_is : {A : Type 0} (x y : A) → Some x ≡ Some y → x ≡ y
some_is x y e = cc

covers : (m : Option IntegrityAlgorithm) (d : List ℕ) (check : IntegrityCheck) → IsCheckOf m d check → covered_bytes d check.found.offset (length check.found.value.now) ≡ text_bytes (checked_text check)
covers m d check is = some_is _ _ (sym (ap (λ (o : Option Shown). covered_of d o) is.checked.last_is) ∙ is.covers)
  where
    covered_of : List ℕ → Option Shown → Option (List ℕ)
    covered_of d None = None
    covered_of d (Some x) = Some (covered_bytes d x.offset (length x.value))

-- what C then computes the HMAC of is what the attribute covers
pub hashes_check : (m : Option IntegrityAlgorithm) (d : List ℕ) (check : IntegrityCheck) (new : CCovered) → IsBytes d → IsCheckOf m d check
    → new ≡ covered_by (text_algorithm (checked_text check)) (text_bytes (checked_text check)) → covered (is_checked_type m) d ≡ Some (hashed new d)
hashes_check m d check new bytes is reported =
    let x = shown_integrity check.found in
    let there = stands (is_checked_type m) d x bytes is.checked.last_is in
    let text = text_bytes (checked_text check) in
    let all : hashed (covered_by (text_algorithm (checked_text check)) text) d ≡ text =
    subst (λ (c : List ℕ). hashed (covered_by (text_algorithm (checked_text check)) c) d ≡ c) (covers m d check is) (hashed_is (text_algorithm (checked_text check)) d x.offset (length x.value) (omega (arith, there.header, there.within))) in
    is.covers ∙ ap Some (sym (ap (λ (r : CCovered). hashed r d) reported ∙ all))

-- an attribute whose value has a lawful length is right by some HMAC: by its own value
own_value : (d : List ℕ) (x : Shown) → hmac_fault (algorithm_of x.type) (length x.value) ≡ None → verdict_on_by (λ a c. x.value) d x ≡ Ok (algorithm_of x.type)
own_value d x lawful =
    let same : pointwise nat_eq x.value (take (length x.value) x.value) ≡ true = (bytes_decides x.value (take (length x.value) x.value)).1 (sym (take-length x.value)) in
    rw (lawful, same) refl

-- an error that no HMAC avoids: there is no such attribute, or its value has another length
pub reports_error : (m : Option IntegrityAlgorithm) (d : List ℕ) (e : ValidateError) (result : CResult) (new : CCovered)
    → ((given : IntegrityAlgorithm → List ℕ → List ℕ) → verdict_by (is_checked_type m) given d ≡ Err e) → result ≡ validate_result e → new ≡ not_covered → ReportsLast m d result new
unfolding verdict_by
reports_error m d e result new always is none = go (last_shown (is_checked_type m) d) refl
  where
    none_given : IntegrityAlgorithm → List ℕ → List ℕ
    none_given a c = []

    err_is : (x y : ValidateError) → ◌≡◌ {A = Result IntegrityAlgorithm ValidateError} (Err x) (Err y) → x ≡ y
    err_is x y same = cc

    of_length : (x : Shown) (fault : Option StunParseError) → last_shown (is_checked_type m) d ≡ Some x → hmac_fault (algorithm_of x.type) (length x.value) ≡ fault → ReportsLast m d result new
    of_length x (Some f) last at =
        let reported : Parse f ≡ e = err_is _ _ (rw (last, at) at always none_given) in
        rw (last, at) (is ∙ ap validate_result (sym reported), none)
    of_length x None last at =
        absurd (cc (own_value d x at, rw last at always (λ a c. x.value)))

    go : (last : Option Shown) → last_shown (is_checked_type m) d ≡ last → ReportsLast m d result new
    go None last =
        let reported : Parse (Parsing.MissingAttribute (record { 0 = 0x0008 })) ≡ e = err_is _ _ (rw last at always none_given) in
        rw last (is ∙ ap validate_result (sym reported), none)
    go (Some x) last = of_length x (hmac_fault (algorithm_of x.type) (length x.value)) last refl

-- ---- The attribute that is added next

none_first : (x y : Option StunParseError) → option_or x y ≡ None → x ≡ None
none_first None y e = refl
none_first (Some x) y e = absurd (cc e)

-- a message that a writer resumes is within the slice, and has a header
pub there : (slice : List ℕ) (count : ℕ) → resume_fault slice count ≡ None → (count ≤ length slice) × (20 ≤ count)
unfolding resume_fault whole_fault
there slice count e = elim (cases_lt (length slice) count) [
  | inl few ↦ absurd (cc (rw (lt-ltb (length slice) count few) at e))
  | inr enough ↦
      let framed : frame_fault (take count slice) ≡ None = none_first _ _ (rw (le-ltb (length slice) count enough) at e) in
      let long : 20 ≤ length (take count slice) = (header_there (take count slice) (frame_there (take count slice) framed)).0 in
      (enough, omega (arith, long, length-take-le count slice enough))
]

pub hashes_next : (a : IntegrityAlgorithm) (slice : List ℕ) (count : ℕ) (new : CCovered) → 20 ≤ count → count ≤ length slice
    → new ≡ covered_by a (signed_bytes (take count slice) a) → hashed new slice ≡ signed_bytes (take count slice) a
hashes_next a slice count new long within reported =
    let message = take count slice in
    let long-too : length message ≡ count = length-take-le count slice within in
    let size = 4 + padded_length (digest_length a) in
    let x = begins message (length message) size in
    let k = length message - 4 in
    let is : x ++ take k (drop 4 message) ≡ signed_bytes message a = joined message (length message) size in
    let y : take k (drop 4 message) ≡ take k (drop 4 slice) = front_of slice count k long ∙ take-take k (count - 4) (drop 4 slice) (omega (arith, long-too)) in
    ap (λ (r : CCovered). hashed r slice) reported
    ∙ subst (λ (c : List ℕ). take 4 c ++ take (length c - 4) (drop 4 slice) ≡ c) is
    (four_and_rest x (take k (drop 4 message)) (drop 4 slice) k (four message (length message) size (omega (arith, long-too))) y)

-- what C's numbers are of it
pub reported_at_end : (message : List ℕ) (a : IntegrityAlgorithm) (number n : ℕ) (first : List ℕ) → 20 ≤ length message → number ≡ number_of a → n ≡ digest_length a
    → first ≡ take 2 message ++ be16 (ending_length_field (length message) (4 + n)) → record { algorithm = number; first = first; length = length message } ≡ covered_by a (signed_bytes message a)
reported_at_end message a number n first long number-is n-is first-is =
    let size = 4 + padded_length (digest_length a) in
    let x = begins message (length message) size in
    let y = take (length message - 4) (drop 4 message) in
    let is : x ++ y ≡ signed_bytes message a = joined message (length message) size in
    let four-is : length x ≡ 4 = four message (length message) size long in
    let front : take 4 (signed_bytes message a) ≡ x = ap (take 4) (sym is) ∙ take_at x y 4 four-is in
    let counted : length (signed_bytes message a) ≡ length message = ap length (sym is) ∙ (length-append x y ∙ omega (arith, four-is, length-take (length message - 4) (drop 4 message), length-drop 4 message)) in
    let same : first ≡ x = first-is ∙ ap (λ (m : ℕ). begins message (length message) (4 + m)) (n-is ∙ padded a) in
    cc (number-is, same, front, counted)
  where
    padded : (b : IntegrityAlgorithm) → digest_length b ≡ padded_length (digest_length b)
    padded Sha1 = refl
    padded Sha256 = refl

signs_given : (covered : CCovered) (a : IntegrityAlgorithm) (hmac key : List ℕ) (result : CResult) (old new : Written)
    → hmac ≡ integrity_value (take old.count old.slice) key a → AddsValueOf covered a [] (λ _. hmac) result old new → SignsGiven covered key a result old new
signs_given covered a hmac key result old new is adds =
    let message = take old.count old.slice in
    let types = message_types message in
    let room = room_refusal (length message) (Some (length old.slice)) (grown_length (length message) (digest_length a)) in
    let barred : step_answer (length old.slice) (sign a []) message ≡ step_answer (length old.slice) (sign a key) message =
    ap (λ (o : Option StunWriteError). option_map write_result (option_or o room)) (signing_barred a key types) in
    rw (← barred, ← is) adds

-- an HMAC that is given is added as a signature with the key that it is by
pub signs_by : (covered : CCovered) (reported : CHmac) (hmac : Hmac) (key : List ℕ) (result : CResult) (old new : Written)
    → resume_fault old.slice old.count ≡ None → hmac_named reported ≡ Some hmac → hmac_bytes hmac ≡ integrity_value (take old.count old.slice) key (hmac_algorithm hmac)
    → AddsHmac covered reported result old new → SignsGiven covered key (hmac_algorithm hmac) result old new
signs_by covered reported hmac key result old new whole named is adds =
    signs_given covered (hmac_algorithm hmac) (hmac_bytes hmac) key result old new is (rw whole (rw (whole, named) at adds))
