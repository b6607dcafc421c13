-- Which responses are discarded, by how the request was protected (RFC 8489, sections 6.3, 9.1.4
-- and 9.2.5).
use Rattle.std.specs.Prelude.{◌≡◌, ℕ, Bool, true, false, not, ◌||◌, ◌&&◌, List, Option, None, Some, is_some, Result, if◌then◌else◌}
use Rattle.stun_grammar.specs.declared.error.ValidateError.{ValidateError}
use Rattle.stun_grammar.specs.declared.integrity_algorithm.IntegrityAlgorithm.{IntegrityAlgorithm}
use Rattle.stun_grammar.specs.declared.integrity_algorithm.IntegrityAlgorithm.TheVariants.{Sha1, Sha256}
use Rattle.stun_grammar.specs.Verdicts.{is_checked_type, verdict}
use Rattle.stun_keys.specs.declared.keys.integrity_key.IntegrityKey.{IntegrityKey}
use Rattle.stun_keys.specs.Keys.{key_bytes, key_algorithm, serves, is_prepared, IsKey}
use Rattle.stun_authentication.specs.Challenges.{is_bid_down}
use Rattle.stun_authentication.specs.Codes.{response_code, is_code, is_challenge}
use Rattle.stun_authentication.specs.Policies.{shows_integrity, proved_at}
use Rattle.stun_transactions.specs.declared.guard.Protection.{Protection}
use Rattle.stun_transactions.specs.declared.guard.Protection.TheVariants.{Unprotected, FirstLongTerm as ByNone, ShortTerm as ByShortTerm, LongTerm as ByLongTerm}
use Rattle.stun_transactions.specs.declared.guard.Signed.{Signed}
use Rattle.stun_transactions.specs.declared.parts.Mechanism.{Mechanism}
use Rattle.stun_transactions.specs.declared.parts.Mechanism.TheVariants.{ShortTerm, FirstLongTerm, LongTerm}
use Rattle.stun_transactions.specs.declared.received.Discard.{Discard}
use Rattle.stun_transactions.specs.declared.received.Discard.TheVariants.{NotAuthentic, OtherAlgorithm, BidDown, UnsignedBadRequest, NoFingerprint}
use Rattle.stun_transactions.specs.declared.response_policy.ResponsePolicy.{ResponsePolicy}
use Rattle.stun_transactions.specs.Usages.{lacks_fingerprint}

-- ---- How a request is protected

-- which integrity attributes d shows
abbrev pub signed_by : List ℕ → Signed
signed_by d =
    record {
      sha1 = shows_integrity Sha1 d;
      sha256 = shows_integrity Sha256 d;
    }

-- whether there is one
abbrev pub is_signed : Signed → Bool
is_signed signed = signed.sha1 || signed.sha256

-- whether there is that of an algorithm
abbrev pub signs_by : Signed → IntegrityAlgorithm → Bool
signs_by signed Sha1 = signed.sha1
signs_by signed Sha256 = signed.sha256

-- whether there is one that both show
abbrev pub have_common : Signed → Signed → Bool
have_common one other = (one.sha1 && other.sha1) || (one.sha256 && other.sha256)

-- by which mechanism a request is protected, and with which key
abbrev pub mechanism_of : Protection → Option Mechanism
mechanism_of Unprotected = None
mechanism_of ByNone = Some FirstLongTerm
mechanism_of (ByShortTerm key) = Some ShortTerm
mechanism_of (ByLongTerm key) = Some LongTerm

abbrev pub key_of : Protection → Option IntegrityKey
key_of Unprotected = None
key_of ByNone = None
key_of (ByShortTerm key) = Some key
key_of (ByLongTerm key) = Some key

-- whether a credential protects the request: the first one by the long-term mechanism has none
-- (section 9.2.3.1)
abbrev pub signs : Option Mechanism → Bool
signs None = false
signs (Some FirstLongTerm) = false
signs (Some ShortTerm) = true
signs (Some LongTerm) = true

-- whether there is one that a key made for an algorithm, or for both, works with
abbrev pub is_signed_for : Option IntegrityAlgorithm → Signed → Bool
is_signed_for algorithm signed =
    (signed.sha1 && serves algorithm Sha1) || (signed.sha256 && serves algorithm Sha256)

-- the same key, if there is one: of the same bytes, made for the same algorithm
abbrev pub HasSameKey : Option IntegrityKey → Option IntegrityKey → Type 0
HasSameKey None other = other ≡ None
HasSameKey (Some key) None = ⊥
HasSameKey (Some key) (Some other) = IsKey (key_algorithm key) (key_bytes key) other

-- whether the key, if there is one, keeps what its HMACs begin with
abbrev pub has_prepared_key : Option IntegrityKey → Bool
has_prepared_key None = true
has_prepared_key (Some key) = is_prepared key

-- ---- Which attribute authenticates a response

-- what a validation of d with the key answers
abbrev pub validated : IntegrityKey → List ℕ → Result IntegrityAlgorithm ValidateError
validated key d = verdict (is_checked_type (key_algorithm key)) (λ _. key_bytes key) d

-- the algorithm that authenticates d, where the request was signed by it (section 9.1.4)
abbrev pub matched_by : Signed → Option IntegrityAlgorithm → Option IntegrityAlgorithm
matched_by signed None = None
matched_by signed (Some algorithm) = if signs_by signed algorithm then Some algorithm else None

-- the algorithm of the attribute that authenticates d, as a response to a request that a mechanism
-- protects with a key, if one does
abbrev pub proof_of : Option Mechanism → Option IntegrityKey → ResponsePolicy → Signed → List ℕ
    → Option IntegrityAlgorithm
proof_of (Some ShortTerm) (Some key) usage signed d =
    matched_by signed (proved_at usage.min_hmac_length d (validated key d))
proof_of (Some LongTerm) (Some key) usage signed d =
    proved_at usage.min_hmac_length d (validated key d)
proof_of _ _ usage signed d = None

-- ---- Which responses are discarded

-- by a short-term credential what isn't authentic, by an algorithm of the request: one that is
-- signed, and by none of these, is distinguished (section 9.1.4)
abbrev pub short_term_fault : (authentic : Bool) → Signed → List ℕ → Option Discard
short_term_fault authentic signed d =
    if authentic then None
    else (if is_signed (signed_by d) && not (have_common signed (signed_by d))
    then Some OtherAlgorithm else Some NotAuthentic)

-- whether d says that the request is bad, and is not signed
abbrev pub is_unsigned_bad_request : List ℕ → Bool
is_unsigned_bad_request d = is_code 400 (response_code d) && not (is_signed (signed_by d))

-- by the long-term mechanism a challenge is taken, signed or not; discarded are then a response
-- whose nonce promises PASSWORD-ALGORITHMS and that shows none, an unsigned 400, and what isn't
-- authentic (section 9.2.5)
abbrev pub long_term_fault : (authentic : Bool) → List ℕ → Option Discard
long_term_fault authentic d =
    if is_challenge d then None
    else (if is_bid_down d then Some BidDown
    else (if is_unsigned_bad_request d then Some UnsignedBadRequest
    else (if authentic then None else Some NotAuthentic)))

-- by the mechanism in use: if the first request has no key, nothing is to be authenticated
abbrev pub mechanism_fault : Option Mechanism → (authentic : Bool) → Signed → List ℕ → Option Discard
mechanism_fault None authentic signed d = None
mechanism_fault (Some FirstLongTerm) authentic signed d = long_term_fault true d
mechanism_fault (Some ShortTerm) authentic signed d = short_term_fault authentic signed d
mechanism_fault (Some LongTerm) authentic signed d = long_term_fault authentic d

-- why d is discarded as a response to a request that a mechanism protects: a FINGERPRINT is missing
-- if the usage sends them (section 6.3), or the mechanism keeps it out
abbrev pub response_fault : Option Mechanism → (authentic : Bool) → ResponsePolicy → Signed → List ℕ
    → Option Discard
response_fault mechanism authentic usage signed d =
    if lacks_fingerprint usage d then Some NoFingerprint
    else mechanism_fault mechanism authentic signed d

-- the same, where it is authentic if an attribute authenticates it with the key
abbrev pub guard_fault : Option Mechanism → Option IntegrityKey → ResponsePolicy → Signed → List ℕ
    → Option Discard
guard_fault mechanism key usage signed d =
    response_fault mechanism (is_some (proof_of mechanism key usage signed d)) usage signed d
