-- What is answered where a user has a key.
use Rattle.std.proofs.Common.{◌≡◌, ℕ, Bool, true, false, List, [], ◌∷◌, Option, Some, None, refl, sym, ap, subst, ◌∙◌}
use Rattle.std.specs.Prelude.{◌&&◌, not, is_some, unwrap_or, option_and_then}
use Rattle.std.specs.Borrow.{Bor}
use Rattle.std.specs.Option.{option_map}
use Rattle.stun_grammar.specs.declared.integrity_algorithm.IntegrityAlgorithm.{IntegrityAlgorithm}
use Rattle.stun_grammar.specs.AttributeTypes.{USERNAME}
use Rattle.stun_grammar.specs.Headers.{type_field}
use Rattle.stun_grammar.specs.Verdicts.{is_checked_type, verdict}
use Rattle.stun_base.specs.MessageTypes.{class_of, is_response}
use Rattle.stun_keys.specs.declared.keys.integrity_key.IntegrityKey.{IntegrityKey}
use Rattle.stun_keys.specs.Keys.{key_algorithm, key_bytes, IsKey}
use Rattle.stun_values.specs.declared.algorithm.PasswordAlgorithmValue.{PasswordAlgorithmValue}
use Rattle.stun_values.specs.declared.algorithm.PasswordAlgorithmValue.TheVariants.{MD5}
use Rattle.stun_authentication.specs.declared.answer.Authentication.{Authentication}
use Rattle.stun_authentication.specs.declared.answer.Authentication.TheVariants.{Accepted as AcceptedBy}
use Rattle.stun_authentication.specs.declared.answer.Refusal.TheVariants.{BadRequest, Unauthenticated}
use Rattle.stun_authentication.specs.declared.identity.Identity.{Identity}
use Rattle.stun_authentication.specs.declared.identity.Identity.TheVariants.{Name}
use Rattle.stun_authentication.specs.declared.policy.Policy.{Policy}
use Rattle.stun_authentication.specs.Answers.{Decision, refuse, discard, Tells, decided, accepted}
use Rattle.stun_authentication.specs.Identities.{Who, named, who, value_of, named_in, identity_of}
use Rattle.stun_authentication.specs.Lookups.{UserKey, key_made, key_held, IsKeyOf, Known, valid}
use Rattle.stun_authentication.specs.Policies.{is_taken, is_signed, is_signed_for, counted, proved_at, validated, proof_of, Proves}
use Rattle.stun_authentication.specs.ShortTerm as short
use Rattle.stun_authentication.specs.LongTerm as long
use Rattle.stun_authentication.proofs.DecidedLemmas.{none_holds, passed, settled}

-- ---- The proof of a message under a key

proof_as : (policy : Policy) (d : List ℕ) (key : UserKey) (served : Option IntegrityAlgorithm) → counted policy key.made_for ≡ Some served → proof_of policy key d ≡ proved_at policy.min_hmac_length d (validated served key.bytes d)
proof_as policy d key served which = ap (λ (o : Option (Option IntegrityAlgorithm)). option_and_then (λ (m : Option IntegrityAlgorithm). proved_at policy.min_hmac_length d (validated m key.bytes d)) o) which

-- no algorithm counts
pub none_counts : (policy : Policy) (d : List ℕ) (key : UserKey) → counted policy key.made_for ≡ None → Proves key (proof_of policy key d) None
none_counts policy d key which =
    subst (λ (o : Option IntegrityAlgorithm). Proves key o None) (sym (ap (λ (o : Option (Option IntegrityAlgorithm)). option_and_then (λ (m : Option IntegrityAlgorithm). proved_at policy.min_hmac_length d (validated m key.bytes d)) o) which)) refl

as_made : (policy : Policy) (d : List ℕ) (key : UserKey) (served : Option IntegrityAlgorithm) (made : IntegrityKey) → counted policy key.made_for ≡ Some served → IsKey served key.bytes made
    → proof_of policy key d ≡ proved_at policy.min_hmac_length d (verdict (is_checked_type (key_algorithm made)) (λ _. key_bytes made) d)
as_made policy d key served made which is =
    proof_as policy d key served which
    ∙ ap (λ (m : Option IntegrityAlgorithm). proved_at policy.min_hmac_length d (validated m key.bytes d)) (sym is.algorithm_is)
    ∙ ap (λ (b : List ℕ). proved_at policy.min_hmac_length d (validated (key_algorithm made) b d)) (sym is.bytes_are)

-- nothing is proved
pub none_proved : (policy : Policy) (d : List ℕ) (key : UserKey) (served : Option IntegrityAlgorithm) (made : IntegrityKey) → counted policy key.made_for ≡ Some served → IsKey served key.bytes made
    → proved_at policy.min_hmac_length d (verdict (is_checked_type (key_algorithm made)) (λ _. key_bytes made) d) ≡ None → Proves key (proof_of policy key d) None
none_proved policy d key served made which is none =
    subst (λ (o : Option IntegrityAlgorithm). Proves key o None) (sym (as_made policy d key served made which is ∙ none)) refl

-- an algorithm is proved, and the key is given back
pub one_proved : (policy : Policy) (d : List ℕ) (key : UserKey) (served : Option IntegrityAlgorithm) (made back : IntegrityKey) (a : IntegrityAlgorithm) → counted policy key.made_for ≡ Some served → IsKey served key.bytes made
    → proved_at policy.min_hmac_length d (verdict (is_checked_type (key_algorithm made)) (λ _. key_bytes made) d) ≡ Some a → IsKey key.made_for (key_bytes made) back → Proves key (proof_of policy key d) (Some (back, a))
one_proved policy d key served made back a which is one same =
    subst (λ (o : Option IntegrityAlgorithm). Proves key o (Some (back, a))) (sym (as_made policy d key served made which is ∙ one))
    (record { algorithm_is = same.algorithm_is; bytes_are = same.bytes_are ∙ is.bytes_are }, refl)

-- ---- What is answered

short_accepts : (signed : Bool) (bad wrong : Decision) (u : Option Who) (user : Identity) (key : UserKey) (o : Option IntegrityAlgorithm) (k : IntegrityKey) (a : IntegrityAlgorithm) → signed ≡ true → u ≡ Some (who user) → Proves key o (Some (k, a))
    → Tells (decided ((not signed, bad) ∷ (not (is_some o), wrong) ∷ []) (accepted u (Some key) o (λ b. b))) (AcceptedBy (record { user = user; key = k; algorithm = a; reply_algorithm = a }))
short_accepts false bad wrong u user key o k a s n p = absurd cc
short_accepts true bad wrong None user key o k a s n p = absurd cc
short_accepts true bad wrong (Some v) user key None k a s n p = absurd cc
short_accepts true bad wrong (Some v) user key (Some b) k a s n p = record { user_is = cc; key_is = p.0; algorithm_is = p.1; reply_is = p.1 }

pub short_accepted : (policy : Policy) (d : List ℕ) (name : Bor (List ℕ)) (key : UserKey) (k : IntegrityKey) (a : IntegrityAlgorithm) → value_of d USERNAME ≡ Some name.now → is_signed_for policy key.made_for d ≡ true → Proves key (proof_of policy key d) (Some (k, a))
    → Tells (short.by_key policy (Some key) d) (AcceptedBy (record { user = Name name; key = k; algorithm = a; reply_algorithm = a }))
short_accepted policy d name key k a n s p =
    short_accepts (is_signed_for policy key.made_for d) (short.reject d BadRequest) (short.reject d Unauthenticated) (named_in d) (Name name) key (proof_of policy key d) k a s (ap (option_map (λ (x : List ℕ). named x)) n) p

long_accepts : (u : Option Who) (user : Identity) (key : UserKey) (o : Option IntegrityAlgorithm) (k : IntegrityKey) (a s : IntegrityAlgorithm) → u ≡ Some (who user) → Proves key o (Some (k, a))
    → Tells (decided ((not (is_some o), refuse Unauthenticated) ∷ []) (accepted u (Some key) o (λ _. s))) (AcceptedBy (record { user = user; key = k; algorithm = a; reply_algorithm = s }))
long_accepts None user key o k a s n p = absurd cc
long_accepts (Some v) user key None k a s n p = absurd cc
long_accepts (Some v) user key (Some b) k a s n p = record { user_is = cc; key_is = p.0; algorithm_is = p.1; reply_is = refl }

pub long_accepted : (policy : Policy) (d : List ℕ) (sent : List PasswordAlgorithmValue) (algorithm : Option PasswordAlgorithmValue) (user : Identity) (key : UserKey) (k : IntegrityKey) (a : IntegrityAlgorithm) → identity_of d ≡ Some (who user) → Proves key (proof_of policy key d) (Some (k, a))
    → Tells (long.by_key policy (valid sent) algorithm (Some key) d) (AcceptedBy (record { user = user; key = k; algorithm = a; reply_algorithm = long.reply_algorithm algorithm }))
long_accepted policy d sent algorithm user key k a n p = long_accepts (identity_of d) user key (proof_of policy key d) k a (long.reply_algorithm algorithm) n p

-- ---- The key that a look-up finds

made_as : (m : Option IntegrityAlgorithm) (b : List ℕ) (key : UserKey) → m ≡ key.made_for → b ≡ key.bytes → key_made m b ≡ key
made_as m b key one two = ap (λ (n : Option IntegrityAlgorithm). key_made n b) one ∙ ap (λ (c : List ℕ). key_made key.made_for c) two

found_key : (o : Option UserKey) (found : IntegrityKey) → IsKeyOf o (Some found) → o ≡ Some (key_held found)
found_key None found is = absurd cc
found_key (Some key) found is = ap (λ (k : UserKey). Some k) (sym (made_as (key_algorithm found) (key_bytes found) key is.algorithm_is is.bytes_are))

-- no row decides before the key is looked up
short_passed : (policy : Policy) (keys : List ℕ → Option UserKey) (user d : List ℕ) (key : Option UserKey)
    → is_taken policy d ≡ true → is_response (class_of (type_field d)) ≡ false → is_signed policy d ≡ true → value_of d USERNAME ≡ Some user → keys user ≡ key
    → short.short_term policy keys d ≡ short.by_key policy key d
short_passed policy keys user d key taken class signed shown is =
    let there : not (is_signed policy d && is_some (value_of d USERNAME)) ≡ false =
    ap (λ (b : Bool). not (b && is_some (value_of d USERNAME))) signed ∙ ap (λ (o : Option (List ℕ)). not (is_some o)) shown in
    none_holds (short.rows_of_message policy d) (short.by_key policy (short.key_of_username keys d) d) (ap not taken, (class, (there, tt)))
    ∙ ap (λ (o : Option (List ℕ)). short.by_key policy (option_and_then keys o) d) shown ∙ ap (λ (o : Option UserKey). short.by_key policy o d) is

pub short_user : (policy : Policy) (keys : List ℕ → Option UserKey) (user d : List ℕ) (found : IntegrityKey) (answer : Authentication)
    → is_taken policy d ≡ true → is_response (class_of (type_field d)) ≡ false → is_signed policy d ≡ true → value_of d USERNAME ≡ Some user
    → IsKeyOf (keys user) (Some found) → Tells (short.by_key policy (Some (key_held found)) d) answer → Tells (short.short_term policy keys d) answer
short_user policy keys user d found answer taken class signed shown is reported =
    subst (λ (x : Decision). Tells x answer) (sym (short_passed policy keys user d (Some (key_held found)) taken class signed shown (found_key (keys user) found is))) reported

not_true : (b : Bool) → not b ≡ true → b ≡ false
not_true true e = absurd cc
not_true false e = refl

not_false : (b : Bool) → not b ≡ false → b ≡ true
not_false true e = refl
not_false false e = absurd cc

-- no row decides before the key is looked up
pub long_passed : (policy : Policy) (realm : List ℕ) (nonces : List ℕ → Known) (keys : Who → List ℕ → PasswordAlgorithmValue → Option UserKey) (d : List ℕ)
    (user : Who) (state : Known) (chosen : Option PasswordAlgorithmValue) (algorithm : PasswordAlgorithmValue) (key : Option UserKey)
    → long.needs_key policy nonces d ≡ true → long.IsAskedFor nonces d user state chosen → algorithm ≡ unwrap_or chosen MD5 → keys user realm algorithm ≡ key
    → long.long_term policy realm nonces keys d ≡ long.by_key policy state chosen key d
long_passed policy realm nonces keys d user state chosen algorithm key needs asked by is =
    let rows = long.rows_of_message policy (long.nonce_of nonces d) d in
    let key_is : long.key_of_user realm keys d ≡ key =
    ap (λ (o : Option Who). option_and_then (λ (u : Who). keys u realm (unwrap_or (long.chosen d) MD5)) o) asked.user_is
    ∙ ap (λ (o : Option PasswordAlgorithmValue). keys user realm (unwrap_or o MD5)) (sym asked.algorithm_is)
    ∙ ap (λ (a : PasswordAlgorithmValue). keys user realm a) (sym by) ∙ is in
    passed rows (long.by_key policy (long.nonce_of nonces d) (long.chosen d) (long.key_of_user realm keys d) d) (not_true _ needs)
    ∙ ap (λ (s : Known). long.by_key policy s (long.chosen d) (long.key_of_user realm keys d) d) (sym asked.state_is)
    ∙ ap (λ (o : Option PasswordAlgorithmValue). long.by_key policy state o (long.key_of_user realm keys d) d) (sym asked.algorithm_is)
    ∙ ap (λ (o : Option UserKey). long.by_key policy state chosen o d) key_is

-- and there is one
pub long_user : (policy : Policy) (realm : List ℕ) (nonces : List ℕ → Known) (keys : Who → List ℕ → PasswordAlgorithmValue → Option UserKey) (d : List ℕ)
    (user : Who) (state : Known) (chosen : Option PasswordAlgorithmValue) (algorithm : PasswordAlgorithmValue) (found : IntegrityKey) (answer : Authentication)
    → long.needs_key policy nonces d ≡ true → long.IsAskedFor nonces d user state chosen → algorithm ≡ unwrap_or chosen MD5
    → IsKeyOf (keys user realm algorithm) (Some found) → Tells (long.by_key policy state chosen (Some (key_held found)) d) answer
    → Tells (long.long_term policy realm nonces keys d) answer
long_user policy realm nonces keys d user state chosen algorithm found answer needs asked by is reported =
    subst (λ (x : Decision). Tells x answer)
    (sym (long_passed policy realm nonces keys d user state chosen algorithm (Some (key_held found)) needs asked by (found_key (keys user realm algorithm) found is))) reported

no_key : (o : Option UserKey) → IsKeyOf o None → o ≡ None
no_key None is = refl
no_key (Some key) is = absurd is

-- or none
pub long_stranger : (policy : Policy) (realm : List ℕ) (nonces : List ℕ → Known) (keys : Who → List ℕ → PasswordAlgorithmValue → Option UserKey) (d : List ℕ)
    (user : Who) (state : Known) (chosen : Option PasswordAlgorithmValue) (algorithm : PasswordAlgorithmValue)
    → long.needs_key policy nonces d ≡ true → long.IsAskedFor nonces d user state chosen → algorithm ≡ unwrap_or chosen MD5
    → IsKeyOf (keys user realm algorithm) None → long.long_term policy realm nonces keys d ≡ refuse Unauthenticated
long_stranger policy realm nonces keys d user state chosen algorithm needs asked by is =
    long_passed policy realm nonces keys d user state chosen algorithm None needs asked by (no_key (keys user realm algorithm) is)

-- a row decides before
pub long_settled : (policy : Policy) (realm : List ℕ) (nonces : List ℕ → Known) (keys : Who → List ℕ → PasswordAlgorithmValue → Option UserKey) (d : List ℕ) (answer : Authentication)
    → long.needs_key policy nonces d ≡ false → Tells (decided (long.rows_of_message policy (long.nonce_of nonces d) d) discard) answer
    → Tells (long.long_term policy realm nonces keys d) answer
long_settled policy realm nonces keys d answer needs reported =
    subst (λ (x : Decision). Tells x answer)
    (settled (long.rows_of_message policy (long.nonce_of nonces d) d) discard (long.by_key policy (long.nonce_of nonces d) (long.chosen d) (long.key_of_user realm keys d) d) (not_false _ needs)) reported
