-- A request that answers the challenge of a response by which it was refused.
use Rattle.std.proofs.Common.{◌≡◌, ℕ, ◌^◌, ◌<◌, Bool, true, List, [], ◌∷◌, length, Option, None, Some, Result, Ok, refl, sym, ap, subst, ◌∙◌, arith}
use Rattle.std.specs.Prelude.{◌≢◌, ◌==◌, find, option_and_then, if◌then◌else◌}
use Rattle.std.specs.Option.{option_map}
use Rattle.std.proofs.lemmas.Bool.{ne_eqb}
use Rattle.stun_grammar.specs.Attributes.{Attribute}
use Rattle.stun_base.specs.declared.message_class.MessageClass.TheVariants.{Request, Error as ErrorClass}
use Rattle.stun_base.specs.MessageTypes.{class_of}
use Rattle.stun_keys.specs.declared.keys.long_term.LongTermCredentials.{LongTermCredentials}
use Rattle.stun_keys.specs.Keys.{login_username, login_password, long_term_key}
use Rattle.stun_values.specs.declared.algorithm.PasswordAlgorithmValue.{PasswordAlgorithmValue}
use Rattle.stun_values.specs.Algorithms.{integrity_of}
use Rattle.stun_authentication.specs.declared.answer.Refusal.{Refusal}
use Rattle.stun_authentication.specs.declared.retry.NoRetry.{NoRetry}
use Rattle.stun_authentication.specs.declared.logins.Logins.{Logins}
use Rattle.stun_authentication.specs.declared.policy.Policy.{Policy}
use Rattle.stun_authentication.specs.Answers.{accept}
use Rattle.stun_authentication.specs.Asking.{Asked}
use Rattle.stun_authentication.specs.Challenges.{Retry, retry_with, challenge_of, signing_algorithm}
use Rattle.stun_authentication.specs.Identities.{Who, named}
use Rattle.stun_authentication.specs.Logins.{is_login, users_of, with_password, long_term_key_of, short_term_key_of}
use Rattle.stun_authentication.specs.LongTerm.{long_term}
use Rattle.stun_authentication.specs.Lookups.{UserKey, key_made, Known}
use Rattle.stun_exchanges.specs.Offers.{IsOffered, IsLawful, Takes, IsShort, Retries, asks, refused, refused_attributes}
use Rattle.stun_exchanges.specs.Premises.{IsOwn, HasRoom, Serves, Works}
use Rattle.stun_authentication.specs.Requests.{User, user_of, asked_identity, user_key, retried_attributes, retried_request}
use Rattle.stun_exchanges.proofs.ChallengeLemmas.{challenge_read, text_short}
use Rattle.stun_exchanges.proofs.EndedLemmas.{IsFirst, IsMissing}
use Rattle.stun_exchanges.proofs.LongTermLemmas.{accepted}

ok_is : (a b : Retry) (r : Result Retry NoRetry) → r ≡ Ok a → r ≡ Ok b → a ≡ b
ok_is a b r one two =
    let same : (let x : Result Retry NoRetry = Ok a in x) ≡ Ok b = sym one ∙ two in cc

-- however the request is sent again, if it is by what the server asks for
of_asked : IsFirst → IsMissing → (policy : Policy) (nonces : List ℕ → Known) (keys : Who → List ℕ → PasswordAlgorithmValue → Option UserKey) (asked : Asked) (algorithms : List PasswordAlgorithmValue) (supported : List PasswordAlgorithmValue) (algorithm : PasswordAlgorithmValue) (retry : Retry) (user : User) (key : UserKey) (fingerprint : Bool) (kind id : ℕ) (before : List Attribute)
    → retry_with asked algorithm ≡ retry → IsOffered nonces asked algorithms → Takes supported asked algorithm → IsShort asked user.name → class_of kind ≡ Request → IsOwn kind id before → HasRoom kind id (retried_attributes fingerprint retry user kind id before)
    → keys (asked_identity retry.asked user.name) retry.asked.realm retry.algorithm ≡ Some key → Works (user_key retry user) (signing_algorithm retry) key → Serves policy (signing_algorithm retry) fingerprint
    → long_term policy asked.realm nonces keys (retried_request fingerprint retry user kind id before) ≡ accept (asked_identity retry.asked user.name) key (signing_algorithm retry) (signing_algorithm retry)
of_asked first missing policy nonces keys asked algorithms supported algorithm retry user key fingerprint kind id before same offered takes short class own =
    subst (λ (x : Retry). HasRoom kind id (retried_attributes fingerprint x user kind id before) → keys (asked_identity x.asked user.name) x.asked.realm x.algorithm ≡ Some key → Works (user_key x user) (signing_algorithm x) key → Serves policy (signing_algorithm x) fingerprint
    → long_term policy asked.realm nonces keys (retried_request fingerprint x user kind id before) ≡ accept (asked_identity x.asked user.name) key (signing_algorithm x) (signing_algorithm x)) same
    (accepted first missing policy nonces keys asked algorithms supported algorithm user key fingerprint kind id before offered takes short class own)

pub retried : IsFirst → IsMissing → (policy : Policy) (nonces : List ℕ → Known) (keys : Who → List ℕ → PasswordAlgorithmValue → Option UserKey) (refusal : Refusal) (asked : Asked) (algorithms : List PasswordAlgorithmValue) (supported : List PasswordAlgorithmValue) (algorithm : PasswordAlgorithmValue) (tried : Option (List ℕ)) (had_algorithms : Bool) (print : Bool) (other number : ℕ) (retry : Retry) (user : User) (key : UserKey) (fingerprint : Bool) (kind id : ℕ) (before : List Attribute)
    → (asks refusal ≡ true → other < 2 ^ 14 → number < 2 ^ 96 → class_of other ≡ ErrorClass → IsLawful asked → IsOffered nonces asked algorithms → Takes supported asked algorithm → Retries tried had_algorithms refusal asked → HasRoom other number (refused_attributes print other number refusal asked)
    → challenge_of supported tried had_algorithms (refused print other number refusal asked) ≡ Ok retry → length user.name < 2 ^ 16 → class_of kind ≡ Request → IsOwn kind id before → HasRoom kind id (retried_attributes fingerprint retry user kind id before)
    → keys (asked_identity retry.asked user.name) retry.asked.realm retry.algorithm ≡ Some key → Works (user_key retry user) (signing_algorithm retry) key → Serves policy (signing_algorithm retry) fingerprint
    → long_term policy asked.realm nonces keys (retried_request fingerprint retry user kind id before) ≡ accept (asked_identity retry.asked user.name) key (signing_algorithm retry) (signing_algorithm retry))
retried first missing policy nonces keys refusal asked algorithms supported algorithm tried had_algorithms print other number retry user key fingerprint kind id before asking kind_fits id_fits error lawful offered takes retries fits read name_fits class own =
    let same : retry_with asked algorithm ≡ retry = ok_is (retry_with asked algorithm) retry (challenge_of supported tried had_algorithms (refused print other number refusal asked))
    (challenge_read first missing refusal asked supported algorithm tried had_algorithms print other number asking kind_fits id_fits error lawful offered.agrees takes retries fits) read in
    of_asked first missing policy nonces keys asked algorithms supported algorithm retry user key fingerprint kind id before same offered takes
    (record { realm_fits = text_short asked.realm lawful.realm_is; nonce_fits = text_short asked.nonce lawful.nonce_is; list_fits = lawful.list_fits; name_fits = name_fits }) class own

-- ---- The keys that users by name and password have

-- a user with a password that isn't empty has one
has_password : (password : List ℕ) (user : LongTermCredentials) → password ≢ [] → (if length password == 0 then None else Some user) ≡ Some user
has_password [] user there = absurd (there refl)
has_password (c ∷ password) user there = rw (ne_eqb (length (c ∷ password)) 0 (λ e. omega (arith, e))) refl

pub long_keys : (logins : Logins) (login : LongTermCredentials) (retry : Retry)
    → (let user = user_of login in
    let who = asked_identity retry.asked user.name in
    find (is_login who retry.asked.realm) (users_of logins) ≡ Some login → user.password ≢ [] → long_term_key_of logins who retry.asked.realm retry.algorithm ≡ Some (key_made None (user_key retry user)))
long_keys logins login retry e there =
    ap (λ (o : Option LongTermCredentials). option_map (λ (user : LongTermCredentials). key_made None (long_term_key (integrity_of retry.algorithm) (login_username user) retry.asked.realm (login_password user))) (option_and_then with_password o)) e
    ∙ ap (option_map (λ (user : LongTermCredentials). key_made None (long_term_key (integrity_of retry.algorithm) (login_username user) retry.asked.realm (login_password user)))) (has_password (login_password login) login there)

pub short_keys : (logins : Logins) (login : LongTermCredentials) → (let user = user_of login in find (is_login (named user.name) []) (users_of logins) ≡ Some login → user.password ≢ [] → short_term_key_of logins user.name ≡ Some (key_made None user.password))
short_keys logins login e there =
    ap (λ (o : Option LongTermCredentials). option_map (λ (user : LongTermCredentials). key_made None (login_password user)) (option_and_then with_password o)) e
    ∙ ap (option_map (λ (user : LongTermCredentials). key_made None (login_password user))) (has_password (login_password login) login there)
