-- Which integrity attribute counts, and that it is right.
use Rattle.std.proofs.Common.{◌≡◌, ℕ, ◌≤◌, Bool, true, false, ◌||◌, List, length, Option, Some, None, Result, Ok, inl, inr, refl, sym, ap, subst, ◌∙◌}
use Rattle.std.specs.Prelude.{◌⊎◌, is_some, nat_le, if◌then◌else◌, option_and_then}
use Rattle.std.specs.Option.{option_map_or}
use Rattle.std.proofs.lemmas.Bool.{le-leb}
use Rattle.stun_grammar.specs.declared.error.ValidateError.{ValidateError}
use Rattle.stun_grammar.specs.declared.integrity_algorithm.IntegrityAlgorithm.{IntegrityAlgorithm}
use Rattle.stun_grammar.specs.declared.integrity_algorithm.IntegrityAlgorithm.TheVariants.{Sha1, Sha256}
use Rattle.stun_grammar.specs.AttributeTypes.{MESSAGE_INTEGRITY, MESSAGE_INTEGRITY_SHA256}
use Rattle.stun_grammar.specs.Chains.{Shown}
use Rattle.stun_grammar.specs.Verdicts.{type_of_algorithm, is_checked_type, verdict}
use Rattle.stun_keys.specs.Keys.{serves}
use Rattle.stun_types.specs.LookingUp.{nth}
use Rattle.stun_authentication.specs.declared.policy.Policy.{Policy}
use Rattle.stun_authentication.specs.Lookups.{UserKey}
use Rattle.stun_authentication.specs.Policies.{shows_served, has_least_length, common, counted, is_signed_for, validated, proved_by, proof_of}
use Rattle.stun_transactions.specs.Guards.{signed_by, is_signed, signs_by}
use Rattle.stun_exchanges.specs.Premises.{same_algorithm, checked}
use Rattle.stun_exchanges.proofs.EndedLemmas.{HasHmac}

-- an algorithm counts if both do, or it is the one that does
abbrev pub Counts : Option IntegrityAlgorithm → IntegrityAlgorithm → Type 0
Counts counts a = (counts ≡ None) ⊎ (counts ≡ Some a)

pub some_is : (x a : IntegrityAlgorithm) → Some x ≡ Some a → x ≡ a
some_is x a e = cc

pub same_is : (b c a : IntegrityAlgorithm) → (if same_algorithm b c then Some b else None) ≡ Some a → (b ≡ a) × (c ≡ a)
same_is Sha1 Sha1 a e = (some_is Sha1 a e, some_is Sha1 a e)
same_is Sha1 Sha256 a e = absurd cc
same_is Sha256 Sha1 a e = absurd cc
same_is Sha256 Sha256 a e = (some_is Sha256 a e, some_is Sha256 a e)

pub checked_counts : (counts sent : Option IntegrityAlgorithm) (a : IntegrityAlgorithm) → checked counts sent ≡ Some a → Counts counts a
checked_counts None sent a e = inl refl
checked_counts (Some b) None a e = inr e
checked_counts (Some b) (Some c) a e = inr (ap (λ (x : IntegrityAlgorithm). Some x) (same_is b c a e).0)

own_checked : (a : IntegrityAlgorithm) → (is_checked_type None (type_of_algorithm a) ≡ true) × (is_checked_type (Some a) (type_of_algorithm a) ≡ true)
own_checked Sha1 = (refl, refl)
own_checked Sha256 = (refl, refl)

pub is_wanted : (counts : Option IntegrityAlgorithm) (a : IntegrityAlgorithm) → Counts counts a → is_checked_type counts (type_of_algorithm a) ≡ true
is_wanted counts a (inl e) = ap (λ (o : Option IntegrityAlgorithm). is_checked_type o (type_of_algorithm a)) e ∙ (own_checked a).0
is_wanted counts a (inr e) = ap (λ (o : Option IntegrityAlgorithm). is_checked_type o (type_of_algorithm a)) e ∙ (own_checked a).1

or_left : (a b : Bool) → a ≡ true → (a || b) ≡ true
or_left true b e = refl
or_left false b e = absurd cc

or_right : (a b : Bool) → b ≡ true → (a || b) ≡ true
or_right true b e = refl
or_right false b e = e

both_served : (a : IntegrityAlgorithm) (d : List ℕ) → is_some (nth d (type_of_algorithm a) 0) ≡ true → shows_served None d ≡ true
both_served Sha1 d e = or_left (is_some (nth d MESSAGE_INTEGRITY 0)) (is_some (nth d MESSAGE_INTEGRITY_SHA256 0)) e
both_served Sha256 d e = or_right (is_some (nth d MESSAGE_INTEGRITY 0)) (is_some (nth d MESSAGE_INTEGRITY_SHA256 0)) e

pub is_served : (counts : Option IntegrityAlgorithm) (a : IntegrityAlgorithm) (d : List ℕ) → Counts counts a → HasHmac d a → shows_served counts d ≡ true
is_served counts a d (inl e) h = ap (λ (o : Option IntegrityAlgorithm). shows_served o d) e ∙ both_served a d (ap (λ (o : Option Shown). is_some o) h.found)
is_served counts a d (inr e) h = ap (λ (o : Option IntegrityAlgorithm). shows_served o d) e ∙ ap (λ (o : Option Shown). is_some o) h.found

pub long_enough : (min_hmac_length : ℕ) (a : IntegrityAlgorithm) (d : List ℕ) → HasHmac d a → min_hmac_length ≤ 32 → has_least_length min_hmac_length a d ≡ true
long_enough min_hmac_length Sha1 d h short = refl
long_enough min_hmac_length Sha256 d h short =
    ap (λ (o : Option Shown). option_map_or (λ (x : Shown). nat_le min_hmac_length (length x.value)) o false) h.found
    ∙ ap (λ (n : ℕ). nat_le min_hmac_length n) h.size ∙ le-leb min_hmac_length 32 short

pub key_counts : (made_for : Option IntegrityAlgorithm) (a : IntegrityAlgorithm) → serves made_for a ≡ true → Counts made_for a
key_counts None a e = inl refl
key_counts (Some Sha1) Sha1 e = inr refl
key_counts (Some Sha1) Sha256 e = absurd cc
key_counts (Some Sha256) Sha1 e = absurd cc
key_counts (Some Sha256) Sha256 e = inr refl

pub proof_is : (policy : Policy) (a : IntegrityAlgorithm) (d : List ℕ) (key : UserKey) (served : Option IntegrityAlgorithm) → counted policy key.made_for ≡ Some served → HasHmac d a → policy.min_hmac_length ≤ 32 → verdict (is_checked_type served) (λ _. key.bytes) d ≡ Ok a → proof_of policy key d ≡ Some a
proof_is policy a d key served which h short ok =
    ap (λ (o : Option (Option IntegrityAlgorithm)). option_and_then (λ (m : Option IntegrityAlgorithm). proved_by policy d (validated m key.bytes d)) o) which
    ∙ ap (λ (r : Result IntegrityAlgorithm ValidateError). proved_by policy d r) ok
    ∙ ap (λ (b : Bool). if b then Some a else None) (long_enough policy.min_hmac_length a d h short)

-- a message shows an integrity attribute that counts with a key
pub signed_for : (policy : Policy) (made_for served : Option IntegrityAlgorithm) (a : IntegrityAlgorithm) (d : List ℕ) → counted policy made_for ≡ Some served → Counts served a → HasHmac d a → is_signed_for policy made_for d ≡ true
signed_for policy made_for served a d which counts h =
    ap (λ (o : Option (Option IntegrityAlgorithm)). option_map_or (λ (m : Option IntegrityAlgorithm). shows_served m d) o false) which ∙ is_served served a d counts h

-- what two choices have in common counts for each
pub one_counts : (one other served : Option IntegrityAlgorithm) (a : IntegrityAlgorithm) → common one other ≡ Some served → Counts served a → Counts one a
one_counts None other served a e counts = inl refl
one_counts (Some b) other served a e counts = by_test (serves other b) e
  where
    by_test : (works : Bool) → (if works then Some (Some b) else None) ≡ Some served → Counts (Some b) a
    by_test true found = let same : Some b ≡ served = cc in subst (λ (m : Option IntegrityAlgorithm). Counts m a) (sym same) counts
    by_test false found = absurd cc

-- an algorithm that counts for a choice, and that a key works with, counts for what they have in
-- common
pub record InCommon (one other : Option IntegrityAlgorithm) (a : IntegrityAlgorithm) : Type 0 where
  pub served : Option IntegrityAlgorithm
  pub which : common one other ≡ Some served
  pub counts : Counts served a

pub in_common : (one other : Option IntegrityAlgorithm) (a : IntegrityAlgorithm) → Counts one a → serves other a ≡ true → InCommon one other a
in_common one other a (inl e) works = subst (λ (m : Option IntegrityAlgorithm). InCommon m other a) (sym e) (record { served = other; which = refl; counts = key_counts other a works })
in_common one other a (inr e) works = subst (λ (m : Option IntegrityAlgorithm). InCommon m other a) (sym e) (record { served = Some a; which = ap (λ (b : Bool). if b then Some (Some a) else None) works; counts = inr refl })

-- ---- For a client

pub signs_is : (a : IntegrityAlgorithm) (d : List ℕ) → HasHmac d a → signs_by (signed_by d) a ≡ true
signs_is Sha1 d h = ap (λ (o : Option Shown). is_some o) h.found
signs_is Sha256 d h = ap (λ (o : Option Shown). is_some o) h.found

pub is_signed_by : (a : IntegrityAlgorithm) (d : List ℕ) → HasHmac d a → is_signed (signed_by d) ≡ true
is_signed_by a d h = both_served a d (ap (λ (o : Option Shown). is_some o) h.found)
