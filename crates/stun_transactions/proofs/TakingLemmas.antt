-- What is taken is a right response.
use Rattle.std.proofs.Common.{◌≡◌, ℕ, ◌⊎◌, Bool, true, false, List, Option, None, Some, refl, sym, ap, subst, ◌∙◌, inl, inr}
use Rattle.std.specs.Prelude.{Result, Ok, Err, is_some, not, ◌&&◌, if◌then◌else◌}
use Rattle.std.specs.Option.{option_map_or}
use Rattle.stun_grammar.specs.declared.attribute_type.AttributeType.{AttributeType}
use Rattle.stun_grammar.specs.declared.error.StunParseError.{StunParseError}
use Rattle.stun_grammar.specs.declared.error.ValidateError.{ValidateError}
use Rattle.stun_grammar.specs.declared.integrity_algorithm.IntegrityAlgorithm.{IntegrityAlgorithm}
use Rattle.stun_grammar.specs.Headers.{type_field}
use Rattle.stun_grammar.specs.Numbers.{IsBytes}
use Rattle.stun_grammar.specs.Parsing.{parse_fault}
use Rattle.stun_grammar.proofs.AcceptingLemmas.{is_authentic_through}
use Rattle.stun_base.specs.declared.message_class.MessageClass.{MessageClass}
use Rattle.stun_base.specs.declared.message_class.MessageClass.TheVariants as Class
use Rattle.stun_base.specs.declared.transport.TransportType.{TransportType}
use Rattle.stun_base.specs.declared.transport.TransportType.TheVariants.{Udp, Tcp}
use Rattle.stun_base.specs.MessageTypes.{class_of}
use Rattle.stun_keys.specs.declared.keys.integrity_key.IntegrityKey.{IntegrityKey}
use Rattle.stun_keys.specs.Keys.{key_bytes, key_algorithm}
use Rattle.stun_authentication.specs.Challenges.{is_bid_down}
use Rattle.stun_authentication.specs.Codes.{is_challenge, shown_code}
use Rattle.stun_authentication.specs.Policies.{has_least_length, proved_at}
use Rattle.stun_transactions.specs.declared.parts.Mechanism.{Mechanism}
use Rattle.stun_transactions.specs.declared.parts.Mechanism.TheVariants.{ShortTerm, FirstLongTerm, LongTerm}
use Rattle.stun_transactions.specs.declared.parts.TransactionParts.{TransactionParts}
use Rattle.stun_transactions.specs.declared.guard.Signed.{Signed}
use Rattle.stun_transactions.specs.declared.received.Claim.{Claim}
use Rattle.stun_transactions.specs.declared.received.Discard.{Discard}
use Rattle.stun_transactions.specs.declared.received.Discard.TheVariants.{NotAuthentic, OtherAlgorithm, BidDown, UnsignedBadRequest, NoFingerprint}
use Rattle.stun_transactions.specs.declared.received.Failure.TheVariants.{UnknownAttribute, NoErrorCode}
use Rattle.stun_transactions.specs.declared.received.Outcome.{Outcome}
use Rattle.stun_transactions.specs.declared.received.Outcome.TheVariants.{NotForThis, Failed, Error}
use Rattle.stun_transactions.specs.declared.response_policy.ResponsePolicy.{ResponsePolicy}
use Rattle.stun_transactions.specs.Guards.{guard_fault, mechanism_fault, proof_of, matched_by, signed_by, is_signed, have_common, signs_by, validated, is_unsigned_bad_request}
use Rattle.stun_transactions.specs.Outcomes.{is_open}
use Rattle.stun_transactions.specs.Parts.{pending}
use Rattle.stun_transactions.specs.Receiving.{is_answer, judged, received_outcome, claim_of, discarded, content, content_by_class}
use Rattle.stun_transactions.specs.Responses.{first_unknown}
use Rattle.stun_transactions.specs.Taking.{is_taken, proof_in, IsAuthenticBy, IsProved, IsFit, IsFitBy, IsRightResponse}
use Rattle.stun_transactions.specs.Usages.{lacks_fingerprint}

-- ---- What is authentic

-- what validates, with enough bytes, is authentic
long_enough : (min_hmac_length : ℕ) (d : List ℕ) (b a : IntegrityAlgorithm) (long : Bool) → (if long then Some b else None) ≡ Some a → (b ≡ a) × (long ≡ true)
long_enough min_hmac_length d b a true e = (cc, refl)
long_enough min_hmac_length d b a false e = absurd cc

proved : (min_hmac_length : ℕ) (key : IntegrityKey) (d : List ℕ) (r : Result IntegrityAlgorithm ValidateError) (a : IntegrityAlgorithm) → IsBytes d → parse_fault d ≡ None → validated key d ≡ r
    → proved_at min_hmac_length d r ≡ Some a → IsAuthenticBy min_hmac_length key d a
proved min_hmac_length key d (Ok b) a bytes parses e is =
    let both = long_enough min_hmac_length d b a (has_least_length min_hmac_length b d) is in
    let right : validated key d ≡ Ok a = e ∙ ap (λ (x : IntegrityAlgorithm). Ok x) both.0 in
    record {
      authentic = is_authentic_through (key_algorithm key) (λ _. key_bytes key) d a bytes parses right;
      long = sym (ap (λ (x : IntegrityAlgorithm). has_least_length min_hmac_length x d) both.0) ∙ both.1;
    }
proved min_hmac_length key d (Err x) a bytes parses e is = absurd cc

-- one that matches is one, by which the request is signed
by_signed : (signed : Signed) (b a : IntegrityAlgorithm) (there : Bool) → signs_by signed b ≡ there → (if there then Some b else None) ≡ Some a → (Some b ≡ Some a) × (signs_by signed a ≡ true)
by_signed signed b a true there e = let same : b ≡ a = cc in (e, sym (ap (signs_by signed) same) ∙ there)
by_signed signed b a false there e = absurd cc

matched : (signed : Signed) (found : Option IntegrityAlgorithm) (a : IntegrityAlgorithm) → matched_by signed found ≡ Some a → (found ≡ Some a) × (signs_by signed a ≡ true)
matched signed None a e = absurd cc
matched signed (Some b) a e = by_signed signed b a (signs_by signed b) refl e

-- ---- What isn't kept out

either_is_some : (b : Bool) (x y : Discard) → (if b then Some x else Some y) ≡ None → ⊥
either_is_some true x y e = absurd cc
either_is_some false x y e = absurd cc

-- by a short-term credential it is authentic
short : (min_hmac_length : ℕ) (key : IntegrityKey) (signed : Signed) (d : List ℕ) (other : Bool) (found proof : Option IntegrityAlgorithm) → IsBytes d → parse_fault d ≡ None
    → proved_at min_hmac_length d (validated key d) ≡ found → matched_by signed found ≡ proof
    → (if is_some proof then None else (if other then Some OtherAlgorithm else Some NotAuthentic)) ≡ None → IsProved (Some ShortTerm) (Some key) min_hmac_length signed d proof
short min_hmac_length key signed d other found None bytes parses is matches passes = absurd (either_is_some other OtherAlgorithm NotAuthentic passes)
short min_hmac_length key signed d other found (Some a) bytes parses is matches passes =
    let both = matched signed found a matches in
    (both.1, proved min_hmac_length key d (validated key d) a bytes parses refl (is ∙ both.0))

-- by a long-term one it is, or it is a challenge
long : (min_hmac_length : ℕ) (key : IntegrityKey) (signed : Signed) (d : List ℕ) (asks bid bad : Bool) (proof : Option IntegrityAlgorithm) → IsBytes d → parse_fault d ≡ None
    → is_challenge d ≡ asks → proved_at min_hmac_length d (validated key d) ≡ proof
    → (if asks then None else (if bid then Some BidDown else (if bad then Some UnsignedBadRequest else (if is_some proof then None else Some NotAuthentic)))) ≡ None
    → IsProved (Some LongTerm) (Some key) min_hmac_length signed d proof
long min_hmac_length key signed d asks bid bad (Some a) bytes parses asked is passes = proved min_hmac_length key d (validated key d) a bytes parses refl is
long min_hmac_length key signed d true bid bad None bytes parses asked is passes = asked
long min_hmac_length key signed d false true bad None bytes parses asked is passes = absurd cc
long min_hmac_length key signed d false false true None bytes parses asked is passes = absurd cc
long min_hmac_length key signed d false false false None bytes parses asked is passes = absurd cc

-- and it is fit
fit : (d : List ℕ) (authentic asks bid bad : Bool) → is_challenge d ≡ asks → is_bid_down d ≡ bid → is_unsigned_bad_request d ≡ bad
    → (if asks then None else (if bid then Some BidDown else (if bad then Some UnsignedBadRequest else (if authentic then None else Some NotAuthentic)))) ≡ None
    → (is_challenge d ≡ true) ⊎ IsFit d
fit d authentic true bid bad asked p q passes = inl asked
fit d authentic false true bad asked p q passes = absurd cc
fit d authentic false false true asked p q passes = absurd cc
fit d authentic false false false asked p q passes = inr (record { promised = p; not_bad = q })

fit_by : (mechanism : Option Mechanism) (authentic : Bool) (signed : Signed) (d : List ℕ) → mechanism_fault mechanism authentic signed d ≡ None → IsFitBy mechanism d
fit_by None authentic signed d passes = tt
fit_by (Some FirstLongTerm) authentic signed d passes = fit d true (is_challenge d) (is_bid_down d) (is_unsigned_bad_request d) refl refl refl passes
fit_by (Some ShortTerm) authentic signed d passes = tt
fit_by (Some LongTerm) authentic signed d passes = fit d authentic (is_challenge d) (is_bid_down d) (is_unsigned_bad_request d) refl refl refl passes

-- without a key a long-term response is a challenge
unkeyed : (asks bid bad : Bool) → (if asks then None else (if bid then Some BidDown else (if bad then Some UnsignedBadRequest else Some NotAuthentic))) ≡ None → asks ≡ true
unkeyed true bid bad passes = refl
unkeyed false true bad passes = absurd cc
unkeyed false false true passes = absurd cc
unkeyed false false false passes = absurd cc

proved_as : (mechanism : Option Mechanism) (key : Option IntegrityKey) (usage : ResponsePolicy) (signed : Signed) (d : List ℕ) → IsBytes d → parse_fault d ≡ None → mechanism_fault mechanism (is_some (proof_of mechanism key usage signed d)) signed d ≡ None
    → IsProved mechanism key usage.min_hmac_length signed d (proof_of mechanism key usage signed d)
proved_as None key usage signed d bytes parses passes = refl
proved_as (Some FirstLongTerm) key usage signed d bytes parses passes = refl
proved_as (Some ShortTerm) None usage signed d bytes parses passes = absurd (either_is_some (is_signed (signed_by d) && not (have_common signed (signed_by d))) OtherAlgorithm NotAuthentic passes)
proved_as (Some LongTerm) None usage signed d bytes parses passes = unkeyed (is_challenge d) (is_bid_down d) (is_unsigned_bad_request d) passes
proved_as (Some ShortTerm) (Some key) usage signed d bytes parses passes =
    short usage.min_hmac_length key signed d (is_signed (signed_by d) && not (have_common signed (signed_by d))) (proved_at usage.min_hmac_length d (validated key d)) (proof_of (Some ShortTerm) (Some key) usage signed d) bytes parses refl refl passes
proved_as (Some LongTerm) (Some key) usage signed d bytes parses passes =
    long usage.min_hmac_length key signed d (is_challenge d) (is_bid_down d) (is_unsigned_bad_request d) (proof_of (Some LongTerm) (Some key) usage signed d) bytes parses refl refl passes

-- it shows a FINGERPRINT if one must be there
shown : (lacks : Bool) (fault : Option Discard) → (if lacks then Some NoFingerprint else fault) ≡ None → (lacks ≡ false) × (fault ≡ None)
shown true fault e = absurd cc
shown false fault e = (refl, e)

-- ---- What is taken

-- the algorithm that is sent is the one that authenticates it
by_code : (proof : Option IntegrityAlgorithm) (code : Option ℕ) → is_taken (option_map_or (λ n. Error n proof) code (Failed NoErrorCode)) ≡ true → proof_in (option_map_or (λ n. Error n proof) code (Failed NoErrorCode)) ≡ proof
by_code proof None taken = absurd cc
by_code proof (Some n) taken = refl

by_class : (proof : Option IntegrityAlgorithm) (class : MessageClass) (d : List ℕ) → is_taken (content_by_class proof class d) ≡ true → proof_in (content_by_class proof class d) ≡ proof
by_class proof Class.Request d taken = refl
by_class proof Class.Indication d taken = refl
by_class proof Class.Success d taken = refl
by_class proof Class.Error d taken = by_code proof (shown_code d) taken

by_types : (proof : Option IntegrityAlgorithm) (beyond : Option AttributeType) (class : MessageClass) (d : List ℕ) → is_taken (option_map_or (λ t. Failed (UnknownAttribute t)) beyond (content_by_class proof class d)) ≡ true
    → proof_in (option_map_or (λ t. Failed (UnknownAttribute t)) beyond (content_by_class proof class d)) ≡ proof
by_types proof None class d taken = by_class proof class d taken
by_types proof (Some t) class d taken = absurd cc

-- what is taken answers, and isn't kept out
record Passed (answers : Bool) (kept : Option Discard) (reported is : Outcome) : Type 0 where
  right : answers ≡ true
  kept_in : kept ≡ None
  is_reported : is ≡ reported

passed : (answers : Bool) (kept : Option Discard) (transport : TransportType) (claim : Claim) (reported : Outcome) → is_taken (if answers then option_map_or (discarded transport claim) kept reported else NotForThis) ≡ true
    → Passed answers kept reported (if answers then option_map_or (discarded transport claim) kept reported else NotForThis)
passed true None transport claim reported taken = record { right = refl; kept_in = refl; is_reported = refl }
passed true (Some NotAuthentic) Udp claim reported taken = absurd cc
passed true (Some NotAuthentic) Tcp claim reported taken = absurd cc
passed true (Some OtherAlgorithm) Udp claim reported taken = absurd cc
passed true (Some OtherAlgorithm) Tcp claim reported taken = absurd cc
passed true (Some BidDown) Udp claim reported taken = absurd cc
passed true (Some BidDown) Tcp claim reported taken = absurd cc
passed true (Some UnsignedBadRequest) Udp claim reported taken = absurd cc
passed true (Some UnsignedBadRequest) Tcp claim reported taken = absurd cc
passed true (Some NoFingerprint) Udp claim reported taken = absurd cc
passed true (Some NoFingerprint) Tcp claim reported taken = absurd cc
passed false kept transport claim reported taken = absurd cc

-- a message that a pending request takes
pub judged_right : (parts : TransactionParts) (key : Option IntegrityKey) (understood : List AttributeType) (d : List ℕ) → IsBytes d → parse_fault d ≡ None → is_taken (judged (pending parts) key understood d) ≡ true
    → IsRightResponse parts key d (proof_in (judged (pending parts) key understood d))
judged_right parts key understood d bytes parses taken =
    let proof = proof_of parts.mechanism key parts.usage parts.signed d in
    let p = passed (is_answer parts d) (guard_fault parts.mechanism key parts.usage parts.signed d) parts.plan.transport (claim_of d) (content proof understood d) taken in
    let kept = shown (lacks_fingerprint parts.usage d) (mechanism_fault parts.mechanism (is_some proof) parts.signed d) p.kept_in in
    let there : is_taken (content proof understood d) ≡ true = sym (ap is_taken p.is_reported) ∙ taken in
    let same : proof_in (judged (pending parts) key understood d) ≡ proof = ap proof_in p.is_reported ∙ by_types proof (first_unknown understood d) (class_of (type_field d)) d there in
    record {
      parses = parses;
      answers = p.right;
      fingerprint = kept.0;
      fit = fit_by parts.mechanism (is_some proof) parts.signed d kept.1;
      proved = subst (IsProved parts.mechanism key parts.usage.min_hmac_length parts.signed d) (sym same) (proved_as parts.mechanism key parts.usage parts.signed d bytes parses kept.1);
    }

-- what a transaction takes parses, and its pending request takes it
in_progress : (ongoing : Bool) (fault : Option StunParseError) (reported : Outcome) → is_taken (if ongoing && not (is_some fault) then reported else NotForThis) ≡ true
    → (fault ≡ None) × ((if ongoing && not (is_some fault) then reported else NotForThis) ≡ reported)
in_progress true None reported taken = (refl, refl)
in_progress true (Some e) reported taken = absurd cc
in_progress false fault reported taken = absurd cc

pub right : (parts : TransactionParts) (key : Option IntegrityKey) (understood : List AttributeType) (d : List ℕ) → IsBytes d → is_taken (received_outcome parts key understood d) ≡ true
    → IsRightResponse parts key d (proof_in (received_outcome parts key understood d))
right parts key understood d bytes taken =
    let both = in_progress (is_open parts.state) (parse_fault d) (judged (pending parts) key understood d) taken in
    subst (λ (o : Outcome). IsRightResponse parts key d (proof_in o)) (sym both.1) (judged_right parts key understood d bytes both.0 (sym (ap is_taken both.1) ∙ taken))
