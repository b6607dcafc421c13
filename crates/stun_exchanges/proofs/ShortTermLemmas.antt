-- A login by short-term credentials.
use Rattle.std.proofs.Common.{◌≡◌, ℕ, ◌≤◌, Bool, true, false, List, [], ◌∷◌, ◌++◌, eqb, Option, Some, None, Ok, refl, ap, subst, ◌∙◌, append_assoc, lit<}
use Rattle.std.specs.Prelude.{◌&&◌, not, is_some, option_and_then}
use Rattle.std.specs.List.{list_any}
use Rattle.std.proofs.lemmas.Bool.{or_from}
use Rattle.std.proofs.lemmas.List.Folds.{list_any-append}
use Rattle.std.specs.Option.{option_map}
use Rattle.stun_grammar.specs.declared.integrity_algorithm.IntegrityAlgorithm.{IntegrityAlgorithm}
use Rattle.stun_grammar.specs.declared.integrity_algorithm.IntegrityAlgorithm.TheVariants.{Sha1, Sha256}
use Rattle.stun_grammar.specs.Adding.{first_of}
use Rattle.stun_grammar.specs.Attributes.{Attribute, canonical, types}
use Rattle.stun_grammar.specs.AttributeTypes.{USERNAME, MESSAGE_INTEGRITY_SHA256, FINGERPRINT, is_ending}
use Rattle.stun_grammar.specs.Chains.{placed}
use Rattle.stun_grammar.specs.Headers.{type_field}
use Rattle.stun_grammar.specs.ScannedOrder.{has}
use Rattle.stun_grammar.specs.Steps.{sign, finger, appended_by, barring_types}
use Rattle.stun_grammar.specs.Verdicts.{type_of_algorithm, is_checked_type, verdict}
use Rattle.stun_grammar.specs.Writing.{message_encoding, IsWritable}
use Rattle.stun_grammar.proofs.WritingLemmas.{shown-message, type-message}
use Rattle.stun_base.specs.MessageTypes.{class_of, is_response}
use Rattle.stun_keys.specs.declared.keys.integrity_key.IntegrityKey.{IntegrityKey}
use Rattle.stun_keys.specs.Keys.{key_algorithm}
use Rattle.stun_authentication.specs.declared.answer.Refusal.TheVariants.{BadRequest, Unauthenticated}
use Rattle.stun_authentication.specs.declared.policy.Policy.{Policy}
use Rattle.stun_authentication.specs.Answers.{accept, decided, accepted as accepted_with}
use Rattle.stun_authentication.specs.Identities.{named as by_name, value_of, named_in}
use Rattle.stun_authentication.specs.Lookups.{UserKey}
use Rattle.stun_authentication.specs.Policies.{is_taken, is_signed, is_signed_for, counted, proof_of}
use Rattle.stun_authentication.specs.ShortTerm.{reject, key_of_username, rows_of_message, by_key, short_term}
use Rattle.stun_transactions.specs.Guards.{validated}
use Rattle.stun_exchanges.specs.Premises.{IsOwn, IsOpen, IsNamed, IsPrinted, HasRoom, WorksAs, checked, is_reserved}
use Rattle.stun_authentication.specs.Requests.{signed_by_each, short_term_attributes, short_term_request}
use Rattle.stun_authentication.specs.Writing.{signed, finished, signed_reply}
use Rattle.stun_exchanges.proofs.EndedLemmas.{IsFirst, Ended, ended_none, ended_signed, ended_finished, value_there, Signs, signs_here, signs_signed, signs_finished, print_unchecked, signs_validate, signs_found, reply_validates, no_print, print_taken}
use Rattle.stun_exchanges.proofs.ProofLemmas.{some_is, same_is, checked_counts, is_wanted, is_served, proof_is, signed_for, one_counts, key_counts}
use Rattle.stun_exchanges.proofs.LoginsWritableLemmas.{none_ends, lacks_reserved, any-append, types-append, one_more, adds, room_down}
use Rattle.stun_authentication.proofs.DecidedLemmas.{none_holds}
use Rattle.stun_authentication.proofs.TypesLemmas.{free, free_append}

-- ---- Signing keeps a message writable

own_free : (a : IntegrityAlgorithm) → first_of (barring_types finger) (type_of_algorithm a ∷ []) ≡ None
own_free Sha1 = refl
own_free Sha256 = refl

-- what is written after ordinary attributes
pub signed_writable : (kind id : ℕ) (xs : List Attribute) (a : IntegrityAlgorithm) (key : List ℕ) → IsWritable kind id xs → first_of (barring_types (sign a key)) (types xs) ≡ None → HasRoom kind id (signed kind id xs a key)
    → IsWritable kind id (signed kind id xs a key)
signed_writable kind id xs a key so none room = one_more kind id xs (sign a key) so none tt tt room

signed_types : (kind id : ℕ) (xs : List Attribute) (a : IntegrityAlgorithm) (key : List ℕ) → types (signed kind id xs a key) ≡ types xs ++ type_of_algorithm a ∷ []
unfolding appended_by
signed_types kind id xs a key = types-append xs _

signed_free : (bars : List ℕ) (kind id : ℕ) (xs : List Attribute) (a : IntegrityAlgorithm) (key : List ℕ) → first_of bars (types xs) ≡ None → first_of bars (type_of_algorithm a ∷ []) ≡ None → first_of bars (types (signed kind id xs a key)) ≡ None
signed_free bars kind id xs a key one two = ap (first_of bars) (signed_types kind id xs a key) ∙ free_append bars (types xs) (type_of_algorithm a ∷ []) one two

finished_room : (fingerprint : Bool) (kind id : ℕ) (xs : List Attribute) → HasRoom kind id (finished fingerprint kind id xs) → HasRoom kind id xs
finished_room false kind id xs room = room
finished_room true kind id xs room = room_down kind id xs _ room

pub finished_writable : (fingerprint : Bool) (kind id : ℕ) (xs : List Attribute) → IsWritable kind id xs → first_of (barring_types finger) (types xs) ≡ None → HasRoom kind id (finished fingerprint kind id xs)
    → IsWritable kind id (finished fingerprint kind id xs)
finished_writable false kind id xs so none room = so
finished_writable true kind id xs so none room = one_more kind id xs finger so none tt tt room

-- signed once, and finished
pub once_writable : (fingerprint : Bool) (kind id : ℕ) (xs : List Attribute) (a : IntegrityAlgorithm) (key : List ℕ) → IsWritable kind id xs → list_any is_ending (types xs) ≡ false
    → HasRoom kind id (finished fingerprint kind id (signed kind id xs a key)) → IsWritable kind id (finished fingerprint kind id (signed kind id xs a key))
once_writable fingerprint kind id xs a key so none room =
    let one = signed kind id xs a key in
    finished_writable fingerprint kind id one (signed_writable kind id xs a key so (free (sign a key) (types xs) none) (finished_room fingerprint kind id one room))
    (signed_free (barring_types finger) kind id xs a key (free finger (types xs) none) (own_free a)) room

twice_writable : (fingerprint : Bool) (kind id : ℕ) (xs : List Attribute) (key : List ℕ) → IsWritable kind id xs → list_any is_ending (types xs) ≡ false
    → HasRoom kind id (finished fingerprint kind id (signed_by_each None kind id xs key)) → IsWritable kind id (finished fingerprint kind id (signed_by_each None kind id xs key))
twice_writable fingerprint kind id xs key so none room =
    let one = signed kind id xs Sha1 key in
    let two = signed kind id one Sha256 key in
    let room-two = finished_room fingerprint kind id two room in
    let so-one = signed_writable kind id xs Sha1 key so (free (sign Sha1 key) (types xs) none) (room_down kind id one _ room-two) in
    let so-two = signed_writable kind id one Sha256 key so-one (signed_free (barring_types (sign Sha256 key)) kind id xs Sha1 key (free (sign Sha256 key) (types xs) none) refl) room-two in
    finished_writable fingerprint kind id two so-two
    (signed_free (barring_types finger) kind id one Sha256 key (signed_free (barring_types finger) kind id xs Sha1 key (free finger (types xs) none) refl) refl) room

pub each_writable : (fingerprint : Bool) (sent : Option IntegrityAlgorithm) (kind id : ℕ) (xs : List Attribute) (key : List ℕ) → IsWritable kind id xs → list_any is_ending (types xs) ≡ false
    → HasRoom kind id (finished fingerprint kind id (signed_by_each sent kind id xs key)) → IsWritable kind id (finished fingerprint kind id (signed_by_each sent kind id xs key))
each_writable fingerprint (Some a) kind id xs key so none room = once_writable fingerprint kind id xs a key so none room
each_writable fingerprint None kind id xs key so none room = twice_writable fingerprint kind id xs key so none room

-- ---- The attributes after USERNAME

pub each_ended : (fingerprint : Bool) (sent : Option IntegrityAlgorithm) (kind id : ℕ) (xs : List Attribute) (key : List ℕ) → Ended xs (finished fingerprint kind id (signed_by_each sent kind id xs key))
each_ended fingerprint (Some a) kind id xs key = ended_finished fingerprint kind id xs (signed kind id xs a key) (ended_signed kind id xs xs a key (ended_none xs))
each_ended fingerprint None kind id xs key =
    let one = signed kind id xs Sha1 key in
    ended_finished fingerprint kind id xs (signed kind id one Sha256 key) (ended_signed kind id xs one Sha256 key (ended_signed kind id xs xs Sha1 key (ended_none xs)))

pub own_missing : (a : IntegrityAlgorithm) (ts : List ℕ) → list_any is_reserved ts ≡ false → has (type_of_algorithm a) ts ≡ false
own_missing Sha1 ts none = lacks_reserved (type_of_algorithm Sha1) ts refl none
own_missing Sha256 ts none = lacks_reserved (type_of_algorithm Sha256) ts refl none

has_signed : (c : ℕ) (kind id : ℕ) (xs : List Attribute) (b : IntegrityAlgorithm) (key : List ℕ) → has c (types xs) ≡ false → eqb (type_of_algorithm b) c ≡ false → has c (types (signed kind id xs b key)) ≡ false
has_signed c kind id xs b key one two =
    ap (has c) (signed_types kind id xs b key) ∙ list_any-append (λ t. eqb t c) (types xs) (type_of_algorithm b ∷ []) ∙ or_from (has c (types xs)) (has c (type_of_algorithm b ∷ [])) one (or_from (eqb (type_of_algorithm b) c) false two refl)

-- no FINGERPRINT before the last
pub signed_unprinted : (kind id : ℕ) (xs : List Attribute) (b : IntegrityAlgorithm) (key : List ℕ) → has FINGERPRINT (types xs) ≡ false → has FINGERPRINT (types (signed kind id xs b key)) ≡ false
signed_unprinted kind id xs Sha1 key none = has_signed FINGERPRINT kind id xs Sha1 key none refl
signed_unprinted kind id xs Sha256 key none = has_signed FINGERPRINT kind id xs Sha256 key none refl

each_unprinted : (sent : Option IntegrityAlgorithm) (kind id : ℕ) (xs : List Attribute) (key : List ℕ) → has FINGERPRINT (types xs) ≡ false → has FINGERPRINT (types (signed_by_each sent kind id xs key)) ≡ false
each_unprinted (Some a) kind id xs key none = signed_unprinted kind id xs a key none
each_unprinted None kind id xs key none = signed_unprinted kind id (signed kind id xs Sha1 key) Sha256 key (signed_unprinted kind id xs Sha1 key none)

-- the attribute that is checked
each_signs : (sent counts : Option IntegrityAlgorithm) (a : IntegrityAlgorithm) (kind id : ℕ) (xs : List Attribute) (key : List ℕ) → ((b : IntegrityAlgorithm) → has (type_of_algorithm b) (types xs) ≡ false) → checked counts sent ≡ Some a
    → Signs kind id (signed_by_each sent kind id xs key) (is_checked_type counts) a key
each_signs (Some s) None a kind id xs key none e =
    subst (λ (b : IntegrityAlgorithm). Signs kind id (signed kind id xs s key) (is_checked_type None) b key) (some_is s a e) (signs_here kind id xs (is_checked_type None) s key (none s))
each_signs (Some s) (Some b) a kind id xs key none e =
    subst (λ (b' : IntegrityAlgorithm). Signs kind id (signed kind id xs s key) (is_checked_type (Some b)) b' key) (same_is b s a e).1 (signs_here kind id xs (is_checked_type (Some b)) s key (none s))
each_signs None None a kind id xs key none e =
    subst (λ (b : IntegrityAlgorithm). Signs kind id (signed_by_each None kind id xs key) (is_checked_type None) b key) (some_is Sha256 a e)
    (signs_here kind id (signed kind id xs Sha1 key) (is_checked_type None) Sha256 key (has_signed MESSAGE_INTEGRITY_SHA256 kind id xs Sha1 key (none Sha256) refl))
each_signs None (Some Sha1) a kind id xs key none e =
    subst (λ (b : IntegrityAlgorithm). Signs kind id (signed_by_each None kind id xs key) (is_checked_type (Some Sha1)) b key) (some_is Sha1 a e)
    (signs_signed kind id (signed kind id xs Sha1 key) (is_checked_type (Some Sha1)) Sha1 Sha256 key key refl (signs_here kind id xs (is_checked_type (Some Sha1)) Sha1 key (none Sha1)))
each_signs None (Some Sha256) a kind id xs key none e =
    subst (λ (b : IntegrityAlgorithm). Signs kind id (signed_by_each None kind id xs key) (is_checked_type (Some Sha256)) b key) (some_is Sha256 a e)
    (signs_here kind id (signed kind id xs Sha1 key) (is_checked_type (Some Sha256)) Sha256 key (has_signed MESSAGE_INTEGRITY_SHA256 kind id xs Sha1 key (none Sha256) refl))

-- ---- The request

-- what holds of a request with short-term credentials, whichever integrity attribute counts
pub record IsRequest (fingerprint : Bool) (sent counts : Option IntegrityAlgorithm) (a : IntegrityAlgorithm) (kind id : ℕ) (before : List Attribute) (name key : List ℕ) : Type 0 where
  pub writable : IsWritable kind id (short_term_attributes fingerprint sent kind id before name key)
  pub signs : Signs kind id (short_term_attributes fingerprint sent kind id before name key) (is_checked_type counts) a key
  pub behind : List Attribute
  pub whole : short_term_attributes fingerprint sent kind id before name key ≡ before ++ canonical USERNAME name ∷ behind

pub is_request : (fingerprint : Bool) (sent counts : Option IntegrityAlgorithm) (a : IntegrityAlgorithm) (kind id : ℕ) (before : List Attribute) (name key : List ℕ) → IsOwn kind id before → IsNamed name
    → HasRoom kind id (short_term_attributes fingerprint sent kind id before name key) → checked counts sent ≡ Some a → IsRequest fingerprint sent counts a kind id before name key
is_request fingerprint sent counts a kind id before name key own named room which =
    let user = canonical USERNAME name in
    let xs = before ++ user ∷ [] in
    let none = none_ends (types before) own.own in
    let plain : list_any is_ending (types xs) ≡ false = any-append is_ending before (user ∷ []) none refl in
    let ended = each_ended fingerprint sent kind id xs key in
    let so : IsWritable kind id xs = adds kind id before (user ∷ []) own.writable none (record { written = refl; type_fits = lit< tt; value_fits = named; plain = refl }, tt)
    (room_down kind id xs ended.more (subst (HasRoom kind id) ended.whole room)) in
    let missing : (b : IntegrityAlgorithm) → has (type_of_algorithm b) (types xs) ≡ false = λ b. any-append (λ t. eqb t (type_of_algorithm b)) before (user ∷ []) (own_missing b (types before) own.own) (not_user b) in
    record {
      writable = each_writable fingerprint sent kind id xs key so plain room;
      signs = signs_finished fingerprint kind id (signed_by_each sent kind id xs key) (is_checked_type counts) a key (print_unchecked counts) (each_signs sent counts a kind id xs key missing which);
      behind = ended.more;
      whole = ended.whole ∙ append_assoc before (user ∷ []) ended.more;
    }
  where
    not_user : (b : IntegrityAlgorithm) → has (type_of_algorithm b) (USERNAME ∷ []) ≡ false
    not_user Sha1 = refl
    not_user Sha256 = refl

pub rows : (policy : Policy) (keys : List ℕ → Option UserKey) (d name : List ℕ) (key : UserKey) (a : IntegrityAlgorithm) → is_taken policy d ≡ true → is_response (class_of (type_field d)) ≡ false → is_signed policy d ≡ true → value_of d USERNAME ≡ Some name → keys name ≡ Some key
    → is_signed_for policy key.made_for d ≡ true → proof_of policy key d ≡ Some a → short_term policy keys d ≡ accept (by_name name) key a a
rows policy keys d name key a taken response shows user known signs right =
    let there : not (is_signed policy d && is_some (value_of d USERNAME)) ≡ false =
    ap (λ (b : Bool). not (b && is_some (value_of d USERNAME))) shows ∙ ap (λ (o : Option (List ℕ)). not (is_some o)) user in
    none_holds (rows_of_message policy d) (by_key policy (key_of_username keys d) d) (ap not taken, (response, (there, tt)))
    ∙ ap (λ (o : Option (List ℕ)). by_key policy (option_and_then keys o) d) user ∙ ap (λ (o : Option UserKey). by_key policy o d) known
    ∙ ap (λ (b : Bool). decided ((not b, reject d BadRequest) ∷ (not (is_some (proof_of policy key d)), reject d Unauthenticated) ∷ []) (accepted_with (named_in d) (Some key) (proof_of policy key d) (λ b. b))) signs
    ∙ ap (λ (o : Option IntegrityAlgorithm). decided ((not (is_some o), reject d Unauthenticated) ∷ []) (accepted_with (named_in d) (Some key) o (λ b. b))) right
    ∙ ap (λ (o : Option (List ℕ)). accepted_with (option_map (λ (x : List ℕ). by_name x) o) (Some key) (Some a) (λ b. b)) user

pub accepted : IsFirst → (policy : Policy) (keys : List ℕ → Option UserKey) (sent served : Option IntegrityAlgorithm) (a : IntegrityAlgorithm) (fingerprint : Bool) (kind id : ℕ) (before : List Attribute) (name : List ℕ) (key : UserKey)
    → is_response (class_of kind) ≡ false → IsOwn kind id before → IsNamed name → HasRoom kind id (short_term_attributes fingerprint sent kind id before name key.bytes)
    → keys name ≡ Some key → counted policy key.made_for ≡ Some served → checked served sent ≡ Some a → policy.min_hmac_length ≤ 32 → IsPrinted policy.fingerprint fingerprint
    → short_term policy keys (short_term_request fingerprint sent kind id before name key.bytes) ≡ accept (by_name name) key a a
accepted first policy keys sent served a fingerprint kind id before name key response own named room known common which short printed =
    let bytes = key.bytes in
    let all = short_term_attributes fingerprint sent kind id before name bytes in
    let d = message_encoding kind id all in
    let user = canonical USERNAME name in
    let r = is_request fingerprint sent served a kind id before name bytes own named room which in
    let counts = checked_counts served sent a which in
    let hmac = signs_found first kind id all (is_checked_type served) a bytes r.writable r.signs in
    rows policy keys d name key a (print_taken first policy.fingerprint fingerprint kind id (signed_by_each sent kind id (before ++ user ∷ []) bytes) r.writable (each_unprinted sent kind id (before ++ user ∷ []) bytes (no_print (types (before ++ user ∷ [])) (any-append is_ending before (user ∷ []) (none_ends (types before) own.own) refl))) printed)
    (ap (λ (t : ℕ). is_response (class_of t)) (type-message kind id all r.writable.type_fits) ∙ response) (is_served policy.algorithm a d (one_counts policy.algorithm key.made_for served a common counts) hmac)
    (value_there first d before r.behind user (shown-message kind id all r.writable ∙ ap (placed 20) r.whole) (lacks_reserved USERNAME (types before) refl own.own)) known
    (signed_for policy key.made_for served a d common counts hmac)
    (proof_is policy a d key served common hmac short (signs_validate kind id all (is_checked_type served) a bytes r.writable (is_wanted served a counts) r.signs))

-- ---- The reply

-- a key that works with an algorithm validates what is signed by that algorithm and its bytes
pub kept_validates : (print : Bool) (kind id : ℕ) (xs : List Attribute) (a : IntegrityAlgorithm) (key : List ℕ) (kept : IntegrityKey) → IsOpen kind id xs → HasRoom kind id (finished print kind id (signed kind id xs a key))
    → WorksAs key a kept → validated kept (signed_reply print kind id xs a key) ≡ Ok a
kept_validates print kind id xs a key kept plain room works =
    ap (λ (k : List ℕ). verdict (is_checked_type (key_algorithm kept)) (λ _. k) (signed_reply print kind id xs a key)) works.bytes_are
    ∙ reply_validates print kind id xs a key (is_checked_type (key_algorithm kept)) (once_writable print kind id xs a key plain.writable plain.ordinary room)
    (is_wanted (key_algorithm kept) a (key_counts (key_algorithm kept) a works.works)) (print_unchecked (key_algorithm kept))
