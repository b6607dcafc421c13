-- A login by long-term credentials.
use Rattle.std.proofs.Common.{◌≡◌, ℕ, ◌^◌, ◌<◌, Bool, true, false, eqb, List, [], ◌∷◌, ◌++◌, length, Option, Some, None, Ok, refl, sym, ap, subst, ◌∙◌, append_assoc, lit<, arith}
use Rattle.std.specs.Prelude.{◌&&◌, ◌||◌, not, is_some, unwrap_or, option_and_then, if◌then◌else◌}
use Rattle.std.specs.Cmp.Lexicographic.{bytes_decides}
use Rattle.std.specs.List.{AllByRecursion, list_any}
use Rattle.std.specs.Option.{option_map_or}
use Rattle.stun_grammar.specs.declared.integrity_algorithm.IntegrityAlgorithm.{IntegrityAlgorithm}
use Rattle.stun_grammar.specs.declared.integrity_algorithm.IntegrityAlgorithm.TheVariants.{Sha1, Sha256}
use Rattle.stun_grammar.specs.Attributes.{Attribute, canonical, types}
use Rattle.stun_grammar.specs.AttributeTypes.{USERNAME, USERHASH, REALM, NONCE, PASSWORD_ALGORITHM, PASSWORD_ALGORITHMS, is_ending}
use Rattle.stun_grammar.specs.Chains.{placed}
use Rattle.stun_grammar.specs.Headers.{type_field}
use Rattle.stun_grammar.specs.ScannedOrder.{has}
use Rattle.stun_grammar.specs.Showing.{shown}
use Rattle.stun_grammar.specs.Verdicts.{type_of_algorithm, is_checked_type, verdict}
use Rattle.stun_grammar.specs.Writing.{message_encoding, IsWritable}
use Rattle.stun_grammar.proofs.HmacLemmas.{digest_has_length}
use Rattle.stun_grammar.proofs.WritingLemmas.{shown-message, type-message}
use Rattle.stun_base.specs.declared.message_class.MessageClass.{MessageClass}
use Rattle.stun_base.specs.declared.message_class.MessageClass.TheVariants.{Request}
use Rattle.stun_base.specs.MessageTypes.{class_of}
use Rattle.stun_values.specs.declared.algorithm.PasswordAlgorithmValue.{PasswordAlgorithmValue}
use Rattle.stun_values.specs.declared.algorithm.PasswordAlgorithmValue.TheVariants.{MD5, SHA256}
use Rattle.stun_values.specs.Algorithms.{algorithm_encoding, algorithms_encoding}
use Rattle.stun_authentication.specs.declared.answer.Refusal.TheVariants.{Unauthenticated}
use Rattle.stun_authentication.specs.declared.policy.Policy.{Policy}
use Rattle.stun_authentication.specs.Answers.{accept, refuse, decided, accepted as accepted_with}
use Rattle.stun_authentication.specs.Asking.{Asked, listed, asks_userhash, signing_by}
use Rattle.stun_authentication.specs.Challenges.{retry_with, signing_algorithm, selected}
use Rattle.stun_authentication.specs.Cookies.{promises_algorithms}
use Rattle.stun_authentication.specs.Identities.{Who, named, hashed, value_of, one_of, identity_of}
use Rattle.stun_authentication.specs.Lookups.{UserKey, Known, valid, unknown}
use Rattle.stun_authentication.specs.LongTerm.{is_request, is_sent, is_listed, promised, chosen, key_of_user, reply_algorithm, lacks_credentials, shows_one_alone, shows_other_list, chooses_none_listed, rows_of_message, by_key, long_term}
use Rattle.stun_authentication.specs.Lists.{both, sole_named}
use Rattle.stun_authentication.specs.Policies.{is_taken, is_signed, proof_of}
use Rattle.stun_exchanges.specs.Offers.{IsOffered, Takes, IsShort}
use Rattle.stun_exchanges.specs.Premises.{IsOwn, HasRoom, Serves, Works, is_reserved}
use Rattle.stun_authentication.specs.Requests.{User, identity, asked_identity, identity_attribute, algorithm_attributes, credentials, user_key, retried_attributes, retried_request}
use Rattle.stun_authentication.specs.Writing.{signed}
use Rattle.stun_exchanges.proofs.EndedLemmas.{IsFirst, IsMissing, Ended, ended_none, ended_signed, ended_finished, value_there, value_missing, Signs, signs_here, signs_finished, print_unchecked, signs_validate, signs_found, no_print, print_taken}
use Rattle.stun_exchanges.proofs.ListsLemmas.{listed_one, named_one, unlisted_is}
use Rattle.stun_authentication.proofs.DecidedLemmas.{none_holds}
use Rattle.stun_exchanges.proofs.ProofLemmas.{is_wanted, is_served, proof_is, in_common}
use Rattle.stun_exchanges.proofs.ShortTermLemmas.{once_writable, own_missing, signed_unprinted}
use Rattle.stun_exchanges.proofs.LoginsWritableLemmas.{none_ends, lacks_reserved, any-append, IsAdded, adds, room_down}

-- ---- The credentials of a request

-- the same as `credentials`, by the parts of a challenge
abbrev pub parts : Who → (realm nonce : List ℕ) → Option (List ℕ) → PasswordAlgorithmValue → List Attribute
parts who realm nonce list a = identity_attribute who ∷ canonical REALM realm ∷ canonical NONCE nonce ∷ algorithm_attributes list a

-- none of them is an ending one
parts_plain : (who : Who) (realm nonce : List ℕ) (list : Option (List ℕ)) (a : PasswordAlgorithmValue) → list_any is_ending (types (parts who realm nonce list a)) ≡ false
parts_plain (named name) realm nonce None a = refl
parts_plain (named name) realm nonce (Some list) a = refl
parts_plain (hashed hash) realm nonce None a = refl
parts_plain (hashed hash) realm nonce (Some list) a = refl

parts_unsigned : (b : IntegrityAlgorithm) (who : Who) (realm nonce : List ℕ) (list : Option (List ℕ)) (a : PasswordAlgorithmValue) → has (type_of_algorithm b) (types (parts who realm nonce list a)) ≡ false
parts_unsigned Sha1 (named name) realm nonce None a = refl
parts_unsigned Sha1 (named name) realm nonce (Some list) a = refl
parts_unsigned Sha1 (hashed hash) realm nonce None a = refl
parts_unsigned Sha1 (hashed hash) realm nonce (Some list) a = refl
parts_unsigned Sha256 (named name) realm nonce None a = refl
parts_unsigned Sha256 (named name) realm nonce (Some list) a = refl
parts_unsigned Sha256 (hashed hash) realm nonce None a = refl
parts_unsigned Sha256 (hashed hash) realm nonce (Some list) a = refl

added : (type : ℕ) (value : List ℕ) → type < 2 ^ 16 → length value < 2 ^ 16 → is_ending type ≡ false → IsAdded (canonical type value)
added type value t v plain = record { written = refl; type_fits = t; value_fits = v; plain = plain }

-- the length of what names the user
abbrev FitsWho : Who → Type 0
FitsWho (named name) = length name < 2 ^ 16
FitsWho (hashed hash) = length hash < 2 ^ 16

who_fits : (anonymous : Bool) (realm name : List ℕ) → length name < 2 ^ 16 → FitsWho (identity anonymous realm name)
who_fits false realm name fits = fits
who_fits true realm name fits = omega (arith, digest_has_length Sha256 (name ++ (0x3A ∷ realm)))

who_added : (who : Who) → FitsWho who → IsAdded (identity_attribute who)
who_added (named name) fits = added USERNAME name (lit< tt) fits refl
who_added (hashed hash) fits = added USERHASH hash (lit< tt) fits refl

one_added : (a : PasswordAlgorithmValue) → IsAdded (canonical PASSWORD_ALGORITHM (algorithm_encoding a))
one_added MD5 = added PASSWORD_ALGORITHM (algorithm_encoding MD5) (lit< tt) (lit< tt) refl
one_added SHA256 = added PASSWORD_ALGORITHM (algorithm_encoding SHA256) (lit< tt) (lit< tt) refl

algorithms_added : (list : Option (List ℕ)) (a : PasswordAlgorithmValue) → ((value : List ℕ) → list ≡ Some value → length value < 2 ^ 16) → AllByRecursion IsAdded (algorithm_attributes list a)
algorithms_added None a fits = tt
algorithms_added (Some value) a fits = (added PASSWORD_ALGORITHMS value (lit< tt) (fits value refl) refl, (one_added a, tt))

parts_added : (who : Who) (realm nonce : List ℕ) (list : Option (List ℕ)) (a : PasswordAlgorithmValue) → FitsWho who → length realm < 2 ^ 16 → length nonce < 2 ^ 16 → ((value : List ℕ) → list ≡ Some value → length value < 2 ^ 16)
    → AllByRecursion IsAdded (parts who realm nonce list a)
parts_added who realm nonce list a w r n l = (who_added who w, (added REALM realm (lit< tt) r refl, (added NONCE nonce (lit< tt) n refl, algorithms_added list a l)))

-- ---- What a server finds of them

-- a message shows the caller's attributes, then these, and then ending ones
record Shows (d : List ℕ) (before credits : List Attribute) : Type 0 where
  more : List Attribute
  shows : shown d ≡ placed 20 ((before ++ credits) ++ more)
  own : list_any is_reserved (types before) ≡ false
  ending : (c : ℕ) → is_ending c ≡ false → has c (types more) ≡ false

there : IsFirst → (d : List ℕ) (before l r : List Attribute) (x : Attribute) → Shows d before (l ++ x ∷ r) → is_reserved x.type ≡ true → has x.type (types l) ≡ false → value_of d x.type ≡ Some x.value
there first d before l r x s one none =
    let is : (before ++ (l ++ x ∷ r)) ++ s.more ≡ (before ++ l) ++ x ∷ (r ++ s.more) =
    ap (λ (t : List Attribute). t ++ s.more) (sym (append_assoc before l (x ∷ r))) ∙ append_assoc (before ++ l) (x ∷ r) s.more in
    value_there first d (before ++ l) (r ++ s.more) x (s.shows ∙ ap (placed 20) is) (any-append (λ t. eqb t x.type) before l (lacks_reserved x.type (types before) one s.own) none)

absent : IsMissing → (d : List ℕ) (before credits : List Attribute) (c : ℕ) → Shows d before credits → is_reserved c ≡ true → is_ending c ≡ false → has c (types credits) ≡ false → value_of d c ≡ None
absent missing d before credits c s one plain none =
    value_missing missing d c ((before ++ credits) ++ s.more) s.shows
    (any-append (λ t. eqb t c) (before ++ credits) s.more (any-append (λ t. eqb t c) before credits (lacks_reserved c (types before) one s.own) none) (s.ending c plain))

-- who it comes from
who_there : IsFirst → IsMissing → (d : List ℕ) (before : List Attribute) (who : Who) (realm nonce : List ℕ) (list : Option (List ℕ)) (a : PasswordAlgorithmValue) → Shows d before (parts who realm nonce list a) → identity_of d ≡ Some who
who_there first missing d before (named name) realm nonce None a s =
    ap (λ (o : Option (List ℕ)). one_of o (value_of d USERHASH)) (there first d before [] _ (canonical USERNAME name) s refl refl)
    ∙ ap (λ (o : Option (List ℕ)). one_of (Some name) o) (absent missing d before _ USERHASH s refl refl refl)
who_there first missing d before (named name) realm nonce (Some list) a s =
    ap (λ (o : Option (List ℕ)). one_of o (value_of d USERHASH)) (there first d before [] _ (canonical USERNAME name) s refl refl)
    ∙ ap (λ (o : Option (List ℕ)). one_of (Some name) o) (absent missing d before _ USERHASH s refl refl refl)
who_there first missing d before (hashed hash) realm nonce None a s =
    ap (λ (o : Option (List ℕ)). one_of o (value_of d USERHASH)) (absent missing d before _ USERNAME s refl refl refl)
    ∙ ap (λ (o : Option (List ℕ)). one_of None o) (there first d before [] _ (canonical USERHASH hash) s refl refl)
who_there first missing d before (hashed hash) realm nonce (Some list) a s =
    ap (λ (o : Option (List ℕ)). one_of o (value_of d USERHASH)) (absent missing d before _ USERNAME s refl refl refl)
    ∙ ap (λ (o : Option (List ℕ)). one_of None o) (there first d before [] _ (canonical USERHASH hash) s refl refl)

realm_there : IsFirst → (d : List ℕ) (before : List Attribute) (who : Who) (realm nonce : List ℕ) (list : Option (List ℕ)) (a : PasswordAlgorithmValue) → Shows d before (parts who realm nonce list a) → value_of d REALM ≡ Some realm
realm_there first d before (named name) realm nonce list a s = there first d before (canonical USERNAME name ∷ []) _ (canonical REALM realm) s refl refl
realm_there first d before (hashed hash) realm nonce list a s = there first d before (canonical USERHASH hash ∷ []) _ (canonical REALM realm) s refl refl

nonce_there : IsFirst → (d : List ℕ) (before : List Attribute) (who : Who) (realm nonce : List ℕ) (list : Option (List ℕ)) (a : PasswordAlgorithmValue) → Shows d before (parts who realm nonce list a) → value_of d NONCE ≡ Some nonce
nonce_there first d before (named name) realm nonce list a s = there first d before (canonical USERNAME name ∷ canonical REALM realm ∷ []) _ (canonical NONCE nonce) s refl refl
nonce_there first d before (hashed hash) realm nonce list a s = there first d before (canonical USERHASH hash ∷ canonical REALM realm ∷ []) _ (canonical NONCE nonce) s refl refl

list_there : IsFirst → (d : List ℕ) (before : List Attribute) (who : Who) (realm nonce list : List ℕ) (a : PasswordAlgorithmValue) → Shows d before (parts who realm nonce (Some list) a) → value_of d PASSWORD_ALGORITHMS ≡ Some list
list_there first d before (named name) realm nonce list a s = there first d before (canonical USERNAME name ∷ canonical REALM realm ∷ canonical NONCE nonce ∷ []) _ (canonical PASSWORD_ALGORITHMS list) s refl refl
list_there first d before (hashed hash) realm nonce list a s = there first d before (canonical USERHASH hash ∷ canonical REALM realm ∷ canonical NONCE nonce ∷ []) _ (canonical PASSWORD_ALGORITHMS list) s refl refl

one_there : IsFirst → (d : List ℕ) (before : List Attribute) (who : Who) (realm nonce list : List ℕ) (a : PasswordAlgorithmValue) → Shows d before (parts who realm nonce (Some list) a) → value_of d PASSWORD_ALGORITHM ≡ Some (algorithm_encoding a)
one_there first d before (named name) realm nonce list a s = there first d before (canonical USERNAME name ∷ canonical REALM realm ∷ canonical NONCE nonce ∷ canonical PASSWORD_ALGORITHMS list ∷ []) _ (canonical PASSWORD_ALGORITHM (algorithm_encoding a)) s refl refl
one_there first d before (hashed hash) realm nonce list a s = there first d before (canonical USERHASH hash ∷ canonical REALM realm ∷ canonical NONCE nonce ∷ canonical PASSWORD_ALGORITHMS list ∷ []) _ (canonical PASSWORD_ALGORITHM (algorithm_encoding a)) s refl refl

-- ---- By which algorithm it is processed

-- the request is processed by the algorithm that the client took, and the reply is signed as the
-- request was
record IsProcessed (state : Known) (d : List ℕ) (list : Option (List ℕ)) (a : PasswordAlgorithmValue) : Type 0 where
  both_shown : shows_one_alone d ≡ false
  sent : shows_other_list state d ≡ false
  chooses : chooses_none_listed d ≡ false
  key_by : unwrap_or (chosen d) MD5 ≡ a
  reply_by : reply_algorithm (chosen d) ≡ signing_by list

-- the same of a promise, and of the two attributes
by_values : (promise : Bool) (one list : Option (List ℕ)) (d : List ℕ) → option_map_or promises_algorithms (value_of d NONCE) false ≡ promise → value_of d PASSWORD_ALGORITHM ≡ one → value_of d PASSWORD_ALGORITHMS ≡ list
    → (promised PASSWORD_ALGORITHM d ≡ (if promise then one else None)) × (promised PASSWORD_ALGORITHMS d ≡ (if promise then list else None))
by_values promise one list d p o l = (
  ap (λ (b : Bool). if b then value_of d PASSWORD_ALGORITHM else None) p ∙ ap (λ (x : Option (List ℕ)). if promise then x else None) o,
  ap (λ (b : Bool). if b then value_of d PASSWORD_ALGORITHMS else None) p ∙ ap (λ (x : Option (List ℕ)). if promise then x else None) l,
)

abbrev alone : (one list : Option (List ℕ)) → Bool
alone one list = (is_some one || is_some list) && not (is_some one && is_some list)

abbrev none_listed : (choice : Option PasswordAlgorithmValue) (list : Option (List ℕ)) → Bool
none_listed choice list = option_map_or (λ (l : List ℕ). not (option_map_or (λ (a : PasswordAlgorithmValue). is_listed l a) choice false)) list false

processed : IsFirst → (supported : List PasswordAlgorithmValue) (d : List ℕ) (before : List Attribute) (who : Who) (realm nonce : List ℕ) (algorithms : List PasswordAlgorithmValue) (a : PasswordAlgorithmValue)
    → Shows d before (parts who realm nonce (listed algorithms) a) → promises_algorithms nonce ≡ is_some (listed algorithms) → selected supported (listed algorithms) ≡ Some a
    → IsProcessed (valid algorithms) d (listed algorithms) a
processed first supported d before who realm nonce [] a s agrees takes =
    let promise : option_map_or promises_algorithms (value_of d NONCE) false ≡ false = ap (λ (o : Option (List ℕ)). option_map_or promises_algorithms o false) (nonce_there first d before who realm nonce None a s) ∙ agrees in
    let values = by_values false (value_of d PASSWORD_ALGORITHM) (value_of d PASSWORD_ALGORITHMS) d promise refl refl in
    let choice : chosen d ≡ None = ap (λ (o : Option (List ℕ)). option_and_then (λ (v : List ℕ). sole_named both v) o) values.0 in
    record {
      both_shown = ap (λ (o : Option (List ℕ)). alone o (promised PASSWORD_ALGORITHMS d)) values.0 ∙ ap (λ (o : Option (List ℕ)). alone None o) values.1;
      sent = ap (λ (o : Option (List ℕ)). option_map_or (λ (l : List ℕ). not (is_sent (valid []) l)) o false) values.1;
      chooses = ap (λ (o : Option (List ℕ)). none_listed (chosen d) o) values.1;
      key_by = ap (λ (o : Option PasswordAlgorithmValue). unwrap_or o MD5) choice ∙ sym (unlisted_is supported a takes);
      reply_by = ap reply_algorithm choice;
    }
processed first supported d before who realm nonce (x ∷ xs) a s agrees takes =
    let list = algorithms_encoding (x ∷ xs) in
    let promise : option_map_or promises_algorithms (value_of d NONCE) false ≡ true = ap (λ (o : Option (List ℕ)). option_map_or promises_algorithms o false) (nonce_there first d before who realm nonce (Some list) a s) ∙ agrees in
    let values = by_values true (Some (algorithm_encoding a)) (Some list) d promise (one_there first d before who realm nonce list a s) (list_there first d before who realm nonce list a s) in
    let choice : chosen d ≡ Some a = ap (λ (o : Option (List ℕ)). option_and_then (λ (v : List ℕ). sole_named both v) o) values.0 ∙ named_one a in
    record {
      both_shown = ap (λ (o : Option (List ℕ)). alone o (promised PASSWORD_ALGORITHMS d)) values.0 ∙ ap (λ (o : Option (List ℕ)). alone (Some (algorithm_encoding a)) o) values.1;
      sent = ap (λ (o : Option (List ℕ)). option_map_or (λ (l : List ℕ). not (is_sent (valid (x ∷ xs)) l)) o false) values.1 ∙ ap not ((bytes_decides list list).1 refl);
      chooses = ap (λ (o : Option (List ℕ)). none_listed (chosen d) o) values.1 ∙ ap (λ (o : Option PasswordAlgorithmValue). none_listed o (Some list)) choice
          ∙ ap (λ (o : Option PasswordAlgorithmValue). not (is_some o)) (listed_one supported (x ∷ xs) a takes);
      key_by = ap (λ (o : Option PasswordAlgorithmValue). unwrap_or o MD5) choice;
      reply_by = ap reply_algorithm choice;
    }

-- the same of a list that is these algorithms
processed_as : IsFirst → (supported : List PasswordAlgorithmValue) (d : List ℕ) (before : List Attribute) (who : Who) (realm nonce : List ℕ) (list : Option (List ℕ)) (algorithms : List PasswordAlgorithmValue) (a : PasswordAlgorithmValue)
    → list ≡ listed algorithms → Shows d before (parts who realm nonce list a) → promises_algorithms nonce ≡ is_some list → selected supported list ≡ Some a → IsProcessed (valid algorithms) d list a
processed_as first supported d before who realm nonce list algorithms a is =
    subst (λ (l : Option (List ℕ)). Shows d before (parts who realm nonce l a) → promises_algorithms nonce ≡ is_some l → selected supported l ≡ Some a → IsProcessed (valid algorithms) d l a) (sym is)
    (processed first supported d before who realm nonce algorithms a)

-- ---- The rows of the server

-- a message that names one user
one_user : (name hash : Option (List ℕ)) (who : Who) → one_of name hash ≡ Some who → ((is_some name || is_some hash) ≡ true) × ((is_some name && is_some hash) ≡ false)
one_user None None who e = absurd cc
one_user None (Some hash) who e = (refl, refl)
one_user (Some name) None who e = (refl, refl)
one_user (Some name) (Some hash) who e = absurd cc

rows : (policy : Policy) (realm : List ℕ) (nonces : List ℕ → Known) (keys : Who → List ℕ → PasswordAlgorithmValue → Option UserKey) (d : List ℕ) (who : Who) (reported nonce : List ℕ) (key : UserKey) (xs : List PasswordAlgorithmValue) (list : Option (List ℕ)) (algorithm : PasswordAlgorithmValue) (a : IntegrityAlgorithm)
    → is_taken policy d ≡ true → class_of (type_field d) ≡ Request → is_signed policy d ≡ true → identity_of d ≡ Some who → value_of d REALM ≡ Some reported → value_of d NONCE ≡ Some nonce → nonces nonce ≡ valid xs
    → IsProcessed (valid xs) d list algorithm → keys who realm algorithm ≡ Some key → proof_of policy key d ≡ Some a
    → long_term policy realm nonces keys d ≡ accept who key a (reply_algorithm (chosen d))
rows policy realm nonces keys d who reported nonce key xs list algorithm a taken class shows user realm-is nonce-is state how known right =
    let names = one_user (value_of d USERNAME) (value_of d USERHASH) who user in
    let credentials-are : lacks_credentials d ≡ false =
    ap (λ (b : Bool). not (b && (is_some (value_of d REALM) && is_some (value_of d NONCE)))) names.0
    ∙ ap (λ (o : Option (List ℕ)). not (is_some o && is_some (value_of d NONCE))) realm-is ∙ ap (λ (o : Option (List ℕ)). not (is_some o)) nonce-is in
    let found : key_of_user realm keys d ≡ Some key =
    ap (λ (o : Option Who). option_and_then (λ (u : Who). keys u realm (unwrap_or (chosen d) MD5)) o) user
    ∙ ap (λ (x : PasswordAlgorithmValue). keys who realm x) how.key_by ∙ known in
    ap (λ (s : Known). decided (rows_of_message policy s d) (by_key policy s (chosen d) (key_of_user realm keys d) d)) (ap (λ (o : Option (List ℕ)). option_map_or nonces o unknown) nonce-is ∙ state)
    ∙ none_holds (rows_of_message policy (valid xs) d) (by_key policy (valid xs) (chosen d) (key_of_user realm keys d) d)
    (ap not taken, (ap (λ (c : MessageClass). not (is_request c)) class, (ap not shows, (credentials-are, (names.1, (how.both_shown, (how.sent, (how.chooses, tt))))))))
    ∙ ap (λ (o : Option UserKey). by_key policy (valid xs) (chosen d) o d) found
    ∙ ap (λ (o : Option IntegrityAlgorithm). decided ((not (is_some o), refuse Unauthenticated) ∷ []) (accepted_with (identity_of d) (Some key) o (λ _. reply_algorithm (chosen d)))) right
    ∙ ap (λ (o : Option Who). accepted_with o (Some key) (Some a) (λ _. reply_algorithm (chosen d))) user

-- ---- The request may be written

pub retried_writable : (asked : Asked) (algorithm : PasswordAlgorithmValue) (user : User) (fingerprint : Bool) (kind id : ℕ) (before : List Attribute)
    → (let retry = retry_with asked algorithm in
    IsShort asked user.name → IsOwn kind id before → HasRoom kind id (retried_attributes fingerprint retry user kind id before) → IsWritable kind id (retried_attributes fingerprint retry user kind id before))
retried_writable asked algorithm user fingerprint kind id before short own room =
    let retry = retry_with asked algorithm in
    let bytes = user_key retry user in
    let a = signing_algorithm retry in
    let who = asked_identity asked user.name in
    let list = asked.list in
    let credits = credentials retry user.name in
    let xs = before ++ credits in
    let none = none_ends (types before) own.own in
    let plain : list_any is_ending (types xs) ≡ false = any-append is_ending before credits none (parts_plain who asked.realm asked.nonce list algorithm) in
    let ended = ended_finished fingerprint kind id xs (signed kind id xs a bytes) (ended_signed kind id xs xs a bytes (ended_none xs)) in
    let so : IsWritable kind id xs = adds kind id before credits own.writable none
    (parts_added who asked.realm asked.nonce list algorithm (who_fits (asks_userhash asked) asked.realm user.name short.name_fits) short.realm_fits short.nonce_fits short.list_fits)
    (room_down kind id xs ended.more (subst (HasRoom kind id) ended.whole room)) in
    once_writable fingerprint kind id xs a bytes so plain room

-- ---- It is accepted

pub accepted : IsFirst → IsMissing → (policy : Policy) (nonces : List ℕ → Known) (keys : Who → List ℕ → PasswordAlgorithmValue → Option UserKey) (asked : Asked) (algorithms : List PasswordAlgorithmValue) (supported : List PasswordAlgorithmValue) (algorithm : PasswordAlgorithmValue) (user : User) (key : UserKey) (fingerprint : Bool) (kind id : ℕ) (before : List Attribute)
    → (let retry = retry_with asked algorithm in
    IsOffered nonces asked algorithms → Takes supported asked algorithm → IsShort asked user.name → class_of kind ≡ Request → IsOwn kind id before → HasRoom kind id (retried_attributes fingerprint retry user kind id before)
    → keys (asked_identity asked user.name) asked.realm algorithm ≡ Some key → Works (user_key retry user) (signing_algorithm retry) key → Serves policy (signing_algorithm retry) fingerprint
    → long_term policy asked.realm nonces keys (retried_request fingerprint retry user kind id before) ≡ accept (asked_identity asked user.name) key (signing_algorithm retry) (signing_algorithm retry))
accepted first missing policy nonces keys asked algorithms supported algorithm user key fingerprint kind id before offered takes short class own room known works served =
    let retry = retry_with asked algorithm in
    let bytes = user_key retry user in
    let a = signing_algorithm retry in
    let who = asked_identity asked user.name in
    let list = asked.list in
    let credits = credentials retry user.name in
    let xs = before ++ credits in
    let all = retried_attributes fingerprint retry user kind id before in
    let d = message_encoding kind id all in
    let none = none_ends (types before) own.own in
    let plain : list_any is_ending (types xs) ≡ false = any-append is_ending before credits none (parts_plain who asked.realm asked.nonce list algorithm) in
    let ended : Ended xs all = ended_finished fingerprint kind id xs (signed kind id xs a bytes) (ended_signed kind id xs xs a bytes (ended_none xs)) in
    let writable : IsWritable kind id all = retried_writable asked algorithm user fingerprint kind id before short own room in
    let shows : Shows d before credits = record { more = ended.more; shows = shown-message kind id all writable ∙ ap (placed 20) ended.whole; own = own.own; ending = ended.ending } in
    let unsigned : has (type_of_algorithm a) (types xs) ≡ false = any-append (λ t. eqb t (type_of_algorithm a)) before credits (own_missing a (types before) own.own) (parts_unsigned a who asked.realm asked.nonce list algorithm) in
    let both = in_common policy.algorithm key.made_for a served.counts works.works in
    let wanted = is_checked_type both.served in
    let signs : Signs kind id all wanted a bytes = signs_finished fingerprint kind id (signed kind id xs a bytes) wanted a bytes (print_unchecked both.served) (signs_here kind id xs wanted a bytes unsigned) in
    let hmac = signs_found first kind id all wanted a bytes writable signs in
    let right : verdict wanted (λ _. key.bytes) d ≡ Ok a = ap (λ (k : List ℕ). verdict wanted (λ _. k) d) works.bytes_are ∙ signs_validate kind id all wanted a bytes writable (is_wanted both.served a both.counts) signs in
    let how = processed_as first supported d before who asked.realm asked.nonce list algorithms algorithm offered.list_is shows offered.agrees takes in
    rows policy asked.realm nonces keys d who asked.realm asked.nonce key algorithms list algorithm a
    (print_taken first policy.fingerprint fingerprint kind id (signed kind id xs a bytes) writable (signed_unprinted kind id xs a bytes (no_print (types xs) plain)) served.printed)
    (ap class_of (type-message kind id all writable.type_fits) ∙ class) (is_served policy.algorithm a d served.counts hmac)
    (who_there first missing d before who asked.realm asked.nonce list algorithm shows) (realm_there first d before who asked.realm asked.nonce list algorithm shows) (nonce_there first d before who asked.realm asked.nonce list algorithm shows)
    offered.known how known
    (proof_is policy a d key both.served both.which hmac served.min_hmac_length right)
    ∙ ap (λ (r : IntegrityAlgorithm). accept who key a r) how.reply_by
