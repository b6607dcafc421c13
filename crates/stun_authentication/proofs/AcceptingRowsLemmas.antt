-- What holds if the rows of a table accept, and of the short-term credential mechanism.
use Rattle.std.proofs.Common.{◌≡◌, ℕ, Bool, true, false, List, [], ◌∷◌, Option, Some, None, Result, Ok, Err, refl, sym, ap, subst, ◌∙◌}
use Rattle.std.specs.Prelude.{◌≢◌, not, is_some, IfOk, if◌then◌else◌, option_and_then}
use Rattle.std.specs.List.{AllByRecursion}
use Rattle.std.specs.Option.{option_map, option_map_or}
use Rattle.stun_grammar.specs.declared.error.ValidateError.{ValidateError}
use Rattle.stun_grammar.specs.declared.integrity_algorithm.IntegrityAlgorithm.{IntegrityAlgorithm}
use Rattle.stun_grammar.specs.declared.integrity_algorithm.IntegrityAlgorithm.TheVariants.{Sha1}
use Rattle.stun_grammar.specs.AttributeTypes.{USERNAME}
use Rattle.stun_grammar.specs.Headers.{type_field}
use Rattle.stun_grammar.specs.Verdicts.{is_checked_type, verdict}
use Rattle.stun_base.specs.declared.message_class.MessageClass.{MessageClass}
use Rattle.stun_base.specs.declared.message_class.MessageClass.TheVariants.{Request, Indication, Success, Error as ErrorClass}
use Rattle.stun_base.specs.MessageTypes.{class_of}
use Rattle.stun_authentication.specs.declared.answer.Refusal.{Refusal}
use Rattle.stun_authentication.specs.declared.answer.Refusal.TheVariants.{BadRequest, Unauthenticated, StaleNonce}
use Rattle.stun_authentication.specs.declared.answer.Authentication.{Authentication}
use Rattle.stun_authentication.specs.declared.answer.Authentication.TheVariants.{Refused}
use Rattle.stun_authentication.specs.declared.policy.Policy.{Policy}
use Rattle.stun_authentication.specs.Answers.{Decision, accept, refuse, discard, not_a_request, rejected, Tells, Row, accepted}
use Rattle.stun_authentication.specs.Accepted.{IsUsers}
use Rattle.stun_authentication.specs.Identities.{Who, named, value_of, named_in}
use Rattle.stun_authentication.specs.Lists.{both}
use Rattle.stun_authentication.specs.Lookups.{UserKey, key_made}
use Rattle.stun_authentication.specs.Policies.{is_taken, is_signed_for, is_long_enough, counted, validated, proved_by, proof_of, proof_with}
use Rattle.stun_authentication.specs.ShortTerm as short
use Rattle.stun_keys.specs.Keys.{serves}
use Rattle.stun_authentication.proofs.CountedLemmas.{answers_served, common_serves}
use Rattle.stun_authentication.proofs.DecidedLemmas.{none_decides}

-- a validation that proves
ok_of : (policy : Policy) (d : List ℕ) (r : Result IntegrityAlgorithm ValidateError) (a : IntegrityAlgorithm) → proved_by policy d r ≡ Some a → r ≡ Ok a
ok_of policy d (Ok b) a e = ok_if (is_long_enough policy b d) b a e
  where
    ok_if : (long : Bool) (b a : IntegrityAlgorithm) → (if long then Some b else None) ≡ Some a → (let r : Result IntegrityAlgorithm ValidateError = Ok b in r) ≡ Ok a
    ok_if true b a e = cc
    ok_if false b a e = absurd cc
ok_of policy d (Err f) a e = absurd cc

-- the HMAC was right under the key that was answered, by the algorithm that was answered, which is one
-- of those that serve the policy and the key
pub record Proved (policy : Policy) (d : List ℕ) (key : UserKey) (a : IntegrityAlgorithm) : Type 0 where
  pub served : Option IntegrityAlgorithm
  pub counts : counted policy key.made_for ≡ Some served
  pub proof : proved_by policy d (validated served key.bytes d) ≡ Some a
  pub answer : validated served key.bytes d ≡ Ok a

pub proved : (policy : Policy) (d : List ℕ) (key : UserKey) (a : IntegrityAlgorithm) → proof_of policy key d ≡ Some a → Proved policy d key a
proved policy d key a e = by_choice (counted policy key.made_for) refl e
  where
    by_choice : (o : Option (Option IntegrityAlgorithm)) → counted policy key.made_for ≡ o → option_and_then (λ (served : Option IntegrityAlgorithm). proved_by policy d (validated served key.bytes d)) o ≡ Some a → Proved policy d key a
    by_choice None is found = absurd cc
    by_choice (Some served) is found = record { served = served; counts = is; proof = found; answer = ok_of policy d (validated served key.bytes d) a found }

-- the algorithm that was answered serves the policy and the key
pub works_with : (policy : Policy) (d : List ℕ) (key : UserKey) (a : IntegrityAlgorithm) → Proved policy d key a → (serves policy.algorithm a ≡ true) × (serves key.made_for a ≡ true)
works_with policy d key a by = common_serves policy.algorithm key.made_for by.served a by.counts (answers_served by.served (λ _. key.bytes) d a by.answer)

-- a decision that accepts has one user, one key and one algorithm
user_in : Decision → Who
user_in (accept user key algorithm reply) = user
user_in (refuse refusal) = named []
user_in discard = named []
user_in not_a_request = named []

no_key : UserKey
no_key = key_made None []

key_in : Decision → UserKey
key_in (accept user key algorithm reply) = key
key_in (refuse refusal) = no_key
key_in discard = no_key
key_in not_a_request = no_key

algorithm_in : Decision → IntegrityAlgorithm
algorithm_in (accept user key algorithm reply) = algorithm
algorithm_in (refuse refusal) = Sha1
algorithm_in discard = Sha1
algorithm_in not_a_request = Sha1

reply_in : Decision → IntegrityAlgorithm
reply_in (accept user key algorithm reply) = reply
reply_in (refuse refusal) = Sha1
reply_in discard = Sha1
reply_in not_a_request = Sha1

-- what an acceptance has
pub accepted_parts : (u : Option Who) (k : Option UserKey) (o : Option IntegrityAlgorithm) (reply_by : IntegrityAlgorithm → IntegrityAlgorithm) (user : Who) (key : UserKey) (a reply : IntegrityAlgorithm) → accepted u k o reply_by ≡ accept user key a reply
    → (k ≡ Some key) × ((o ≡ Some a) × ((reply_by a ≡ reply) × (u ≡ Some user)))
unfolding user_in key_in algorithm_in reply_in
accepted_parts None k o reply_by user key a reply e = absurd cc
accepted_parts (Some v) None o reply_by user key a reply e = absurd cc
accepted_parts (Some v) (Some k) None reply_by user key a reply e = absurd cc
accepted_parts (Some v) (Some k) (Some b) reply_by user key a reply e =
    let same : b ≡ a = ap algorithm_in e in
    (ap (λ (x : UserKey). Some x) (ap key_in e), (ap (λ (x : IntegrityAlgorithm). Some x) same, (ap reply_by (sym same) ∙ ap reply_in e, ap (λ (x : Who). Some x) (ap user_in e))))

pub found_by : {A : Type 0} (o : Option A) (find : A → Option UserKey) (key : UserKey) → option_and_then find o ≡ Some key → (x : A) × ((o ≡ Some x) × (find x ≡ Some key))
found_by None find key e = absurd cc
found_by (Some x) find key e = (x, (refl, e))

pub kept_true : (b : Bool) → not b ≡ false → b ≡ true
kept_true true e = refl
kept_true false e = absurd cc

-- if both algorithms serve, by a validation that looks at both
pub proved_by_both : (policy : Policy) (d : List ℕ) (key : UserKey) (a : IntegrityAlgorithm) → counted policy key.made_for ≡ Some None → proof_of policy key d ≡ Some a → verdict (is_checked_type None) (λ _. key.bytes) d ≡ Ok a
proved_by_both policy d key a both e =
    let by = proved policy d key a e in
    ap (λ (m : Option IntegrityAlgorithm). verdict (is_checked_type m) (λ _. key.bytes) d) (same_choice None by.served (sym both ∙ by.counts)) ∙ by.answer
  where
    same_choice : (m n : Option IntegrityAlgorithm) → Some m ≡ Some n → m ≡ n
    same_choice m n is = cc

not_rejected : (class : MessageClass) (refusal : Refusal) (user : Who) (key : UserKey) (a s : IntegrityAlgorithm) → rejected class refusal ≡ accept user key a s → ⊥
not_rejected Request refusal user key a s e = cc
not_rejected Indication refusal user key a s e = cc
not_rejected Success refusal user key a s e = cc
not_rejected ErrorClass refusal user key a s e = cc

-- the rows that need the key, under short-term credentials
abbrev key_rows : Policy → Option UserKey → List ℕ → List Row
key_rows policy key d =
    (not (is_some key), short.reject d Unauthenticated) ∷ (not (option_map_or (λ (k : UserKey). is_signed_for policy k.made_for d) key false), short.reject d BadRequest)
    ∷ (not (is_some (proof_with policy key d)), short.reject d Unauthenticated) ∷ []

-- what a message that is accepted by short-term credentials passes: no row before a key is looked up
-- decides, nor one after it
record PassesShort (policy : Policy) (keys : List ℕ → Option UserKey) (d : List ℕ) (user : Who) (key : UserKey) (a : IntegrityAlgorithm) : Type 0 where
  message : AllByRecursion (λ (row : Row). row.0 ≡ false) (short.rows_of_message policy d)
  is_named : named_in d ≡ Some user
  found : short.key_of_username keys d ≡ Some key
  proof : proof_of policy key d ≡ Some a

passes_short : (policy : Policy) (keys : List ℕ → Option UserKey) (d : List ℕ) (user : Who) (key : UserKey) (a reply : IntegrityAlgorithm) → short.short_term policy keys d ≡ accept user key a reply → PassesShort policy keys d user key a
passes_short policy keys d user key a reply e =
    let goal : Decision = accept user key a reply in
    let bad = not_rejected (class_of (type_field d)) BadRequest user key a reply in
    let unknown = not_rejected (class_of (type_field d)) Unauthenticated user key a reply in
    let k = short.key_of_username keys d in
    let one = none_decides (short.rows_of_message policy d) (short.by_key policy k d) goal ((λ f. cc), ((λ f. cc), (bad, tt))) e in
    let two = none_decides (key_rows policy k d) (accepted (named_in d) k (proof_with policy k d) (λ b. b)) goal (unknown, (bad, (unknown, tt))) one.1 in
    let parts = accepted_parts (named_in d) k (proof_with policy k d) (λ b. b) user key a reply two.1 in
    record {
      message = one.0;
      is_named = parts.1.1.1;
      found = parts.0;
      proof = ap (λ (o : Option UserKey). proof_with policy o d) (sym parts.0) ∙ parts.1.0;
    }

pub short_term_proof : (policy : Policy) (keys : List ℕ → Option UserKey) (d : List ℕ) (user : Who) (key : UserKey) (a reply : IntegrityAlgorithm) → short.short_term policy keys d ≡ accept user key a reply → proof_of policy key d ≡ Some a
short_term_proof policy keys d user key a reply e = (passes_short policy keys d user key a reply e).proof

-- short-term credentials have no nonces: nothing is refused for a stale one
bad_not_stale : (class : MessageClass) → rejected class BadRequest ≡ refuse StaleNonce → ⊥
bad_not_stale Request e = cc
bad_not_stale Indication e = cc
bad_not_stale Success e = cc
bad_not_stale ErrorClass e = cc

unknown_not_stale : (class : MessageClass) → rejected class Unauthenticated ≡ refuse StaleNonce → ⊥
unknown_not_stale Request e = cc
unknown_not_stale Indication e = cc
unknown_not_stale Success e = cc
unknown_not_stale ErrorClass e = cc

accepts_not_stale : (u : Option Who) (k : Option UserKey) (o : Option IntegrityAlgorithm) → accepted u k o (λ b. b) ≡ refuse StaleNonce → ⊥
accepts_not_stale None k o e = cc
accepts_not_stale (Some v) None o e = cc
accepts_not_stale (Some v) (Some k) None e = cc
accepts_not_stale (Some v) (Some k) (Some b) e = cc

never_stale : (policy : Policy) (keys : List ℕ → Option UserKey) (d : List ℕ) → short.short_term policy keys d ≡ refuse StaleNonce → ⊥
never_stale policy keys d e =
    let goal : Decision = refuse StaleNonce in
    let bad = bad_not_stale (class_of (type_field d)) in
    let unknown = unknown_not_stale (class_of (type_field d)) in
    let k = short.key_of_username keys d in
    let one = none_decides (short.rows_of_message policy d) (short.by_key policy k d) goal ((λ f. cc), ((λ f. cc), (bad, tt))) e in
    let two = none_decides (key_rows policy k d) (accepted (named_in d) k (proof_with policy k d) (λ b. b)) goal (unknown, (bad, (unknown, tt))) one.1 in
    accepts_not_stale (named_in d) k (proof_with policy k d) two.1

reports_stale : (x : Decision) → Tells x (Refused StaleNonce) → x ≡ refuse StaleNonce
reports_stale (accept user key a s) reported = absurd reported
reports_stale (refuse refusal) reported = ap refuse (sym reported)
reports_stale discard reported = absurd reported
reports_stale not_a_request reported = absurd reported

none_stale : (policy : Policy) (keys : List ℕ → Option UserKey) (d : List ℕ) → Tells (short.short_term policy keys d) (Refused StaleNonce) → ⊥
none_stale policy keys d reported = never_stale policy keys d (reports_stale (short.short_term policy keys d) reported)

pub no_nonce : {E : Type 0} (policy : Policy) (keys : List ℕ → Option UserKey) (d : List ℕ) (r : Result Authentication E) → IfOk r (Tells (short.short_term policy keys d)) → IfOk r (λ answer. answer ≢ Refused StaleNonce)
no_nonce policy keys d (Ok reported) h = λ e. none_stale policy keys d (subst (Tells (short.short_term policy keys d)) e h)
no_nonce policy keys d (Err e) h = tt

-- ---- What an acceptance says

enough_if : (long : Bool) (b a : IntegrityAlgorithm) → (if long then Some b else None) ≡ Some a → (long ≡ true) × (b ≡ a)
enough_if true b a e = (refl, cc)
enough_if false b a e = absurd cc

enough_of : (policy : Policy) (d : List ℕ) (r : Result IntegrityAlgorithm ValidateError) (a : IntegrityAlgorithm) → proved_by policy d r ≡ Some a → is_long_enough policy a d ≡ true
enough_of policy d (Ok b) a e =
    let both = enough_if (is_long_enough policy b d) b a e in subst (λ (x : IntegrityAlgorithm). is_long_enough policy x d ≡ true) both.1 both.0
enough_of policy d (Err f) a e = absurd cc

pub enough : (policy : Policy) (d : List ℕ) (key : UserKey) (a : IntegrityAlgorithm) → Proved policy d key a → is_long_enough policy a d ≡ true
enough policy d key a by = enough_of policy d (validated by.served key.bytes d) a by.proof

pub users_login : (policy : Policy) (keys : List ℕ → Option UserKey) (d : List ℕ) (user : Who) (key : UserKey) (a reply : IntegrityAlgorithm) → short.short_term policy keys d ≡ accept user key a reply → IsUsers policy keys d user key a
users_login policy keys d user key a reply e =
    let p = passes_short policy keys d user key a reply e in
    let by = proved policy d key a p.proof in
    let name = found_by (value_of d USERNAME) keys key p.found in
    let same : Some (named name.0) ≡ Some user = sym (ap (option_map (λ (x : List ℕ). named x)) name.1.0) ∙ p.is_named in
    record {
      name = name.0;
      shown = name.1.0;
      is_named = cc;
      known = name.1.1;
      works = (works_with policy d key a by).1;
      counts = (works_with policy d key a by).0;
      long_enough = enough policy d key a by;
      taken = kept_true (is_taken policy d) p.message.0;
    }
