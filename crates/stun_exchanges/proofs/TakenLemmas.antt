-- A signed reply is taken.
use Rattle.std.proofs.Common.{◌≡◌, ℕ, Bool, true, false, eqb, List, Option, Some, None, Result, refl, ap, ◌∙◌}
use Rattle.std.specs.Prelude.{◌&&◌, is_some, not, if◌then◌else◌}
use Rattle.std.specs.List.{list_any}
use Rattle.std.specs.Option.{option_map_or}
use Rattle.std.proofs.lemmas.Bool.{ne_eqb}
use Rattle.stun_grammar.specs.declared.attribute_type.AttributeType.{AttributeType}
use Rattle.stun_grammar.specs.declared.error.StunParseError.{StunParseError}
use Rattle.stun_grammar.specs.declared.error.ValidateError.{ValidateError}
use Rattle.stun_grammar.specs.declared.integrity_algorithm.IntegrityAlgorithm.{IntegrityAlgorithm}
use Rattle.stun_grammar.specs.declared.integrity_algorithm.IntegrityAlgorithm.TheVariants.{Sha1, Sha256}
use Rattle.stun_grammar.specs.Attributes.{Attribute, types}
use Rattle.stun_grammar.specs.AttributeTypes.{NONCE, FINGERPRINT, is_ending}
use Rattle.stun_grammar.specs.Parsing.{parse_fault}
use Rattle.stun_grammar.specs.ScannedOrder.{has}
use Rattle.stun_grammar.specs.Verdicts.{type_of_algorithm, is_checked_type}
use Rattle.stun_grammar.specs.Writing.{message_encoding}
use Rattle.stun_grammar.proofs.WritingLemmas.{parse-message, shown-message}
use Rattle.stun_keys.specs.declared.keys.integrity_key.IntegrityKey.{IntegrityKey}
use Rattle.stun_types.specs.Replies.{is_answer_to}
use Rattle.stun_authentication.specs.Challenges.{list_of, is_bid_down}
use Rattle.stun_authentication.specs.Codes.{is_challenge, is_code, response_code}
use Rattle.stun_authentication.specs.Cookies.{promises_algorithms}
use Rattle.stun_authentication.specs.Identities.{value_of}
use Rattle.stun_transactions.specs.declared.guard.Signed.{Signed}
use Rattle.stun_transactions.specs.declared.parts.Mechanism.{Mechanism}
use Rattle.stun_transactions.specs.declared.parts.Mechanism.TheVariants as M
use Rattle.stun_transactions.specs.declared.plan.Plan.{Plan}
use Rattle.stun_transactions.specs.declared.received.Discard.{Discard}
use Rattle.stun_transactions.specs.declared.received.Discard.TheVariants.{BidDown, UnsignedBadRequest, NoFingerprint}
use Rattle.stun_transactions.specs.declared.received.Outcome.{Outcome}
use Rattle.stun_transactions.specs.declared.received.Outcome.TheVariants.{NotForThis}
use Rattle.stun_transactions.specs.declared.retransmission.RetransmissionState.{RetransmissionState}
use Rattle.stun_transactions.specs.declared.response_policy.ResponsePolicy.{ResponsePolicy}
use Rattle.stun_transactions.specs.Usages.{lacks_fingerprint}
use Rattle.stun_authentication.specs.Policies.{proved_at}
use Rattle.stun_transactions.specs.Guards.{guard_fault, signed_by, is_signed, signs_by, is_unsigned_bad_request, validated, matched_by, proof_of, short_term_fault, long_term_fault, mechanism_fault}
use Rattle.stun_transactions.specs.Outcomes.{is_open}
use Rattle.stun_transactions.specs.Receiving.{content, claim_of, discarded, received_outcome}
use Rattle.stun_transactions.specs.Beginning.{request_parts}
use Rattle.stun_exchanges.specs.Premises.{IsOwn, IsOpen, IsNamed, HasRoom, Suits, WorksAs, checked}
use Rattle.stun_authentication.specs.Requests.{short_term_attributes, short_term_request}
use Rattle.stun_authentication.specs.Writing.{signed, finished, signed_reply}
use Rattle.stun_exchanges.proofs.EndedLemmas.{IsFirst, IsMissing, ended_none, ended_signed, ended_finished, value_missing, signs_here, signs_finished, HasHmac, signs_found, no_print, print_kept}
use Rattle.stun_exchanges.proofs.ProofLemmas.{is_signed_by, signs_is, long_enough}
use Rattle.stun_exchanges.proofs.ShortTermLemmas.{once_writable, kept_validates, signed_unprinted, is_request}
use Rattle.stun_exchanges.proofs.LoginsWritableLemmas.{any-append}
use Rattle.stun_authentication.proofs.TypesLemmas.{weaker}

own_ending : (a : IntegrityAlgorithm) → is_ending (type_of_algorithm a) ≡ true
own_ending Sha1 = refl
own_ending Sha256 = refl

-- ordinary attributes have no ending type
no_own : (a : IntegrityAlgorithm) (ts : List ℕ) → list_any is_ending ts ≡ false → has (type_of_algorithm a) ts ≡ false
no_own a ts none = weaker is_ending (λ t. eqb t (type_of_algorithm a)) ts (λ t e. ne_eqb t (type_of_algorithm a) (λ is. absurd (cc (e, own_ending a, ap is_ending is)))) none

-- what a signed reply shows
pub reply_found : IsFirst → (print : Bool) (kind id : ℕ) (xs : List Attribute) (a : IntegrityAlgorithm) (key : List ℕ) → IsOpen kind id xs → HasRoom kind id (finished print kind id (signed kind id xs a key)) → HasHmac (signed_reply print kind id xs a key) a
reply_found first print kind id xs a key plain room =
    signs_found first kind id (finished print kind id (signed kind id xs a key)) (λ _. false) a key (once_writable print kind id xs a key plain.writable plain.ordinary room)
    (signs_finished print kind id (signed kind id xs a key) (λ _. false) a key refl (signs_here kind id xs (λ _. false) a key (no_own a (types xs) plain.ordinary)))

no_nonce : IsMissing → (print : Bool) (kind id : ℕ) (xs : List Attribute) (a : IntegrityAlgorithm) (key : List ℕ) → IsOpen kind id xs → HasRoom kind id (finished print kind id (signed kind id xs a key)) → has NONCE (types xs) ≡ false
    → value_of (signed_reply print kind id xs a key) NONCE ≡ None
no_nonce missing print kind id xs a key plain room none =
    let all = finished print kind id (signed kind id xs a key) in
    let ended = ended_finished print kind id xs (signed kind id xs a key) (ended_signed kind id xs xs a key (ended_none xs)) in
    value_missing missing (message_encoding kind id all) NONCE all (shown-message kind id all (once_writable print kind id xs a key plain.writable plain.ordinary room))
    (ap (λ (l : List Attribute). has NONCE (types l)) ended.whole ∙ any-append (λ t. eqb t NONCE) xs ended.more none (ended.ending NONCE refl))

and_not : (x y : Bool) → y ≡ true → (x && not y) ≡ false
and_not true true e = refl
and_not false true e = refl
and_not x false e = absurd cc

-- ---- What a client takes

-- a response is kept, and authenticated by an algorithm
pub record IsTaken (mechanism : Mechanism) (key : IntegrityKey) (usage : ResponsePolicy) (by : Signed) (d : List ℕ) (a : IntegrityAlgorithm) : Type 0 where
  pub kept : guard_fault (Some mechanism) (Some key) usage by d ≡ None
  pub proof : proof_of (Some mechanism) (Some key) usage by d ≡ Some a

taken_of : (asks bid bad : Bool) → bid ≡ false → bad ≡ false → (if asks then None else (if bid then Some BidDown else (if bad then Some UnsignedBadRequest else None))) ≡ None
taken_of true bid bad x y = refl
taken_of false true bad x y = absurd cc
taken_of false false true x y = absurd cc
taken_of false false false x y = refl

unprinted : (kind id : ℕ) (xs : List Attribute) (a : IntegrityAlgorithm) (key : List ℕ) → IsOpen kind id xs → has FINGERPRINT (types (signed kind id xs a key)) ≡ false
unprinted kind id xs a key plain = signed_unprinted kind id xs a key (no_print (types xs) plain.ordinary)

-- no FINGERPRINT is missing
none_lacks : IsFirst → (print : Bool) (kind id : ℕ) (xs : List Attribute) (a : IntegrityAlgorithm) (key : List ℕ) (usage : ResponsePolicy) → IsOpen kind id xs → HasRoom kind id (finished print kind id (signed kind id xs a key)) → Suits usage print
    → lacks_fingerprint usage (signed_reply print kind id xs a key) ≡ false
none_lacks first print kind id xs a key usage plain room suits =
    print_kept first usage.fingerprint print kind id (signed kind id xs a key) (once_writable print kind id xs a key plain.writable plain.ordinary room) (unprinted kind id xs a key plain) suits.printed

-- the reply's HMAC is right, and long enough
proves : IsFirst → (print : Bool) (kind id : ℕ) (xs : List Attribute) (a : IntegrityAlgorithm) (key : List ℕ) (kept : IntegrityKey) (usage : ResponsePolicy) → WorksAs key a kept → IsOpen kind id xs
    → HasRoom kind id (finished print kind id (signed kind id xs a key)) → Suits usage print → proved_at usage.min_hmac_length (signed_reply print kind id xs a key) (validated kept (signed_reply print kind id xs a key)) ≡ Some a
proves first print kind id xs a key kept usage works plain room suits =
    let d = signed_reply print kind id xs a key in
    ap (λ (r : Result IntegrityAlgorithm ValidateError). proved_at usage.min_hmac_length d r) (kept_validates print kind id xs a key kept plain room works)
    ∙ ap (λ (b : Bool). if b then Some a else None) (long_enough usage.min_hmac_length a d (reply_found first print kind id xs a key plain room) suits.min_hmac_length)

pub long_taken : IsFirst → IsMissing → (a : IntegrityAlgorithm) (print : Bool) (kind id : ℕ) (xs : List Attribute) (key : List ℕ) (kept : IntegrityKey) (usage : ResponsePolicy) (by : Signed) → WorksAs key a kept → IsOpen kind id xs → has NONCE (types xs) ≡ false
    → HasRoom kind id (finished print kind id (signed kind id xs a key)) → Suits usage print → IsTaken M.LongTerm kept usage by (signed_reply print kind id xs a key) a
long_taken first missing a print kind id xs key kept usage by works plain none room suits =
    let d = signed_reply print kind id xs a key in
    let right = proves first print kind id xs a key kept usage works plain room suits in
    record {
      kept = ap (λ (b : Bool). if b then Some NoFingerprint else mechanism_fault (Some M.LongTerm) (is_some (proof_of (Some M.LongTerm) (Some kept) usage by d)) by d) (none_lacks first print kind id xs a key usage plain room suits)
          ∙ ap (λ (o : Option IntegrityAlgorithm). long_term_fault (is_some o) d) right
          ∙ taken_of (is_challenge d) (is_bid_down d) (is_unsigned_bad_request d)
          (ap (λ (o : Option (List ℕ)). option_map_or (λ (n : List ℕ). promises_algorithms n) o false && not (is_some (list_of d))) (no_nonce missing print kind id xs a key plain room none))
          (and_not (is_code 400 (response_code d)) (is_signed (signed_by d)) (is_signed_by a d (reply_found first print kind id xs a key plain room)));
      proof = right;
    }

-- by a short-term credential, of a request that has the integrity attribute of the algorithm
pub short_taken : IsFirst → (a : IntegrityAlgorithm) (print : Bool) (kind id : ℕ) (xs : List Attribute) (key : List ℕ) (kept : IntegrityKey) (usage : ResponsePolicy) (by : Signed) → signs_by by a ≡ true → WorksAs key a kept → IsOpen kind id xs
    → HasRoom kind id (finished print kind id (signed kind id xs a key)) → Suits usage print → IsTaken M.ShortTerm kept usage by (signed_reply print kind id xs a key) a
short_taken first a print kind id xs key kept usage by asked works plain room suits =
    let d = signed_reply print kind id xs a key in
    let right : proof_of (Some M.ShortTerm) (Some kept) usage by d ≡ Some a =
    ap (matched_by by) (proves first print kind id xs a key kept usage works plain room suits) ∙ ap (λ (b : Bool). if b then Some a else None) asked in
    record {
      kept = ap (λ (b : Bool). if b then Some NoFingerprint else mechanism_fault (Some M.ShortTerm) (is_some (proof_of (Some M.ShortTerm) (Some kept) usage by d)) by d) (none_lacks first print kind id xs a key usage plain room suits)
          ∙ ap (λ (o : Option IntegrityAlgorithm). short_term_fault (is_some o) by d) right;
      proof = right;
    }

-- the same of the request that `accepted` speaks of
pub taken : IsFirst → (sent counts : Option IntegrityAlgorithm) (a : IntegrityAlgorithm) (fingerprint print : Bool) (kind id other : ℕ) (before answer : List Attribute) (name key : List ℕ) (kept : IntegrityKey) (usage : ResponsePolicy)
    → IsOwn kind id before → IsNamed name → HasRoom kind id (short_term_attributes fingerprint sent kind id before name key) → checked counts sent ≡ Some a → WorksAs key a kept
    → IsOpen other id answer → HasRoom other id (finished print other id (signed other id answer a key)) → Suits usage print
    → IsTaken M.ShortTerm kept usage (signed_by (short_term_request fingerprint sent kind id before name key)) (signed_reply print other id answer a key) a
taken first sent counts a fingerprint print kind id other before answer name key kept usage own named room which works plain fits suits =
    let all = short_term_attributes fingerprint sent kind id before name key in
    let d = message_encoding kind id all in
    let r = is_request fingerprint sent counts a kind id before name key own named room which in
    short_taken first a print other id answer key kept usage (signed_by d) (signs_is a d (signs_found first kind id all (is_checked_type counts) a key r.writable r.signs)) works plain fits suits

-- ---- What is reported to the transaction

reported_of : (ongoing parses answers : Bool) (kept : Option Discard) (out : Discard → Outcome) (taken : Outcome) → ongoing ≡ true → parses ≡ true → answers ≡ true → kept ≡ None
    → (if ongoing && parses then (if answers then option_map_or out kept taken else NotForThis) else NotForThis) ≡ taken
reported_of true true true None out taken o p a k = refl
reported_of true true true (Some reason) out taken o p a k = absurd cc
reported_of true true false kept out taken o p a k = absurd cc
reported_of true false answers kept out taken o p a k = absurd cc
reported_of false parses answers kept out taken o p a k = absurd cc

heard_as : (r d : List ℕ) (plan : Plan) (mechanism : Mechanism) (key : IntegrityKey) (usage : ResponsePolicy) (state : RetransmissionState) (understood : List AttributeType) (a : IntegrityAlgorithm) → is_open state ≡ true → parse_fault d ≡ None → is_answer_to r d ≡ true
    → IsTaken mechanism key usage (signed_by r) d a → received_outcome (request_parts r plan (Some mechanism) usage state) (Some key) understood d ≡ content (Some a) understood d
heard_as r d plan mechanism key usage state understood a ongoing parses answers it =
    reported_of (is_open state) (not (is_some (parse_fault d))) (is_answer_to r d) (guard_fault (Some mechanism) (Some key) usage (signed_by r) d) (discarded plan.transport (claim_of d)) (content (proof_of (Some mechanism) (Some key) usage (signed_by r) d) understood d) ongoing
    (ap (λ (o : Option StunParseError). not (is_some o)) parses)
    answers
    it.kept
    ∙ ap (λ (o : Option IntegrityAlgorithm). content o understood d) it.proof

pub long_heard : IsFirst → IsMissing → (a : IntegrityAlgorithm) (print : Bool) (kind id : ℕ) (xs : List Attribute) (r key : List ℕ) (k : IntegrityKey) (plan : Plan) (usage : ResponsePolicy) (state : RetransmissionState) (understood : List AttributeType)
    → WorksAs key a k → is_open state ≡ true → IsOpen kind id xs → has NONCE (types xs) ≡ false → HasRoom kind id (finished print kind id (signed kind id xs a key)) → Suits usage print
    → is_answer_to r (signed_reply print kind id xs a key) ≡ true
    → received_outcome (request_parts r plan (Some M.LongTerm) usage state) (Some k) understood (signed_reply print kind id xs a key) ≡ content (Some a) understood (signed_reply print kind id xs a key)
long_heard first missing a print kind id xs r key k plan usage state understood works ongoing plain none room suits answers =
    let d = signed_reply print kind id xs a key in
    heard_as r d plan M.LongTerm k usage state understood a ongoing (parse-message kind id (finished print kind id (signed kind id xs a key)) (once_writable print kind id xs a key plain.writable plain.ordinary room)) answers
    (long_taken first missing a print kind id xs key k usage (signed_by r) works plain none room suits)

-- the same of a short-term key, which is kept as it is
pub short_heard : (a : IntegrityAlgorithm) (print : Bool) (kind id : ℕ) (xs : List Attribute) (r key : List ℕ) (k : IntegrityKey) (plan : Plan) (usage : ResponsePolicy) (state : RetransmissionState) (understood : List AttributeType)
    → is_open state ≡ true → IsOpen kind id xs → HasRoom kind id (finished print kind id (signed kind id xs a key)) → is_answer_to r (signed_reply print kind id xs a key) ≡ true
    → IsTaken M.ShortTerm k usage (signed_by r) (signed_reply print kind id xs a key) a
    → received_outcome (request_parts r plan (Some M.ShortTerm) usage state) (Some k) understood (signed_reply print kind id xs a key) ≡ content (Some a) understood (signed_reply print kind id xs a key)
short_heard a print kind id xs r key k plan usage state understood ongoing plain room answers it =
    heard_as r (signed_reply print kind id xs a key) plan M.ShortTerm k usage state understood a ongoing (parse-message kind id (finished print kind id (signed kind id xs a key)) (once_writable print kind id xs a key plain.writable plain.ordinary room)) answers it
