-- A challenge is read as it was written.
use Rattle.std.proofs.Common.{◌≡◌, ℕ, zero, suc, ◌^◌, ◌<◌, ◌≤◌, Bool, true, false, eqb, ltb, ltb-true, inl, inr, List, [], ◌∷◌, ◌++◌, length, nat_eq, Option, Some, None, Ok, Err, refl, sym, ap, subst, ◌∙◌, lit<, arith}
use Rattle.std.specs.Prelude.{◌||◌, ◌&&◌, codes, is_some, not, option_and_then, nat_lt, if◌then◌else◌}
use Rattle.std.specs.Cmp.Lexicographic.{pointwise}
use Rattle.std.specs.List.{AllByRecursion, list_any}
use Rattle.std.specs.Option.{option_map_or, option_or}
use Rattle.std.specs.Str.{IsAscii, is_utf8}
use Rattle.std.proofs.lemmas.Str.{IsUtf8-from_ascii, is_utf8-from_IsUtf8}
use Rattle.std.proofs.lemmas.Bool.{cases_lt, lt-ltb}
use Rattle.stun_grammar.specs.declared.error.StunParseError.{StunParseError}
use Rattle.stun_grammar.specs.declared.error.StunParseError.TheVariants.{InvalidAttributeData}
use Rattle.stun_grammar.specs.Attributes.{Attribute, canonical, types}
use Rattle.stun_grammar.specs.AttributeTypes.{ERROR_CODE, REALM, NONCE, PASSWORD_ALGORITHMS, is_ending}
use Rattle.stun_grammar.specs.Chains.{Shown, placed}
use Rattle.stun_grammar.specs.Headers.{type_field}
use Rattle.stun_grammar.specs.ScannedOrder.{has}
use Rattle.stun_grammar.specs.Showing.{shown}
use Rattle.stun_grammar.specs.Steps.{finger}
use Rattle.stun_grammar.specs.Writing.{message_encoding, IsWritable}
use Rattle.stun_grammar.proofs.StepsLemmas.{none_writable}
use Rattle.stun_grammar.proofs.WritingLemmas.{shown-message, type-message}
use Rattle.stun_base.specs.declared.message_class.MessageClass.{MessageClass}
use Rattle.stun_base.specs.declared.message_class.MessageClass.TheVariants.{Error as ErrorClass}
use Rattle.stun_base.specs.MessageTypes.{class_of}
use Rattle.stun_values.specs.declared.algorithm.PasswordAlgorithmValue.{PasswordAlgorithmValue}
use Rattle.stun_values.specs.ErrorValues.{error_value}
use Rattle.stun_values.specs.TextValues.{text_max, text_fault}
use Rattle.stun_authentication.specs.declared.answer.Refusal.{Refusal}
use Rattle.stun_authentication.specs.declared.answer.Refusal.TheVariants.{BadRequest, Unauthenticated, StaleNonce}
use Rattle.stun_authentication.specs.Refusing.{list_attributes, refusal_attributes}
use Rattle.stun_authentication.specs.declared.retry.NoRetry.TheVariants.{NotAChallenge, BidDown, Incomplete, NoAlgorithm, SameCredentials}
use Rattle.stun_authentication.specs.Asking.{Asked, asked_for}
use Rattle.stun_authentication.specs.Answers.{refusal_code, refusal_reason}
use Rattle.stun_authentication.specs.Challenges.{retry_with, list_of, is_bid_down, lost_list, text_in, text_of, selected, repeats, by_credentials, by_algorithm, by_texts, by_list, challenge_of}
use Rattle.stun_authentication.specs.Codes.{value_code, code_by_class, response_code, is_code, is_challenge}
use Rattle.stun_authentication.specs.Cookies.{promises_algorithms}
use Rattle.stun_authentication.specs.Identities.{value_of}
use Rattle.stun_exchanges.specs.Offers.{Takes, IsLawful, Retries, asks, refused, refused_attributes}
use Rattle.stun_exchanges.specs.Premises.{HasRoom}
use Rattle.stun_authentication.specs.Writing.{finished}
use Rattle.stun_exchanges.proofs.EndedLemmas.{IsFirst, IsMissing, Ended, ended_none, ended_finished, value_there, value_missing}
use Rattle.stun_exchanges.proofs.ShortTermLemmas.{finished_writable}
use Rattle.stun_exchanges.proofs.LoginsWritableLemmas.{any-append, IsAdded, adds, room_down}
use Rattle.stun_authentication.proofs.TypesLemmas.{free}

-- ---- The code

unfoldable pub small : List ℕ → Bool
small [] = true
small (b ∷ bs) = ltb b 128 && small bs

first_true : (a b : Bool) → (a && b) ≡ true → (a ≡ true) × (b ≡ true)
first_true true b e = (refl, e)
first_true false b e = absurd cc

ascii : (bs : List ℕ) → small bs ≡ true → IsAscii bs
unfolding small
ascii [] e i = omega arith
ascii (b ∷ bs) e zero = ltb-true b 128 (first_true (ltb b 128) (small bs) e).0
ascii (b ∷ bs) e (suc i) = ascii bs (first_true (ltb b 128) (small bs) e).1 i

-- the value of an ERROR-CODE has the code of the refusal
pub code_value : Refusal → List ℕ
code_value refusal = error_value (refusal_code refusal) (refusal_reason refusal)

pub utf8_of : (bs : List ℕ) → small bs ≡ true → is_utf8 bs ≡ true
utf8_of bs e = is_utf8-from_IsUtf8 bs (IsUtf8-from_ascii bs (ascii bs e))

pub code_reported : (refusal : Refusal) → asks refusal ≡ true → value_code (code_value refusal) ≡ Some (refusal_code refusal)
unfolding code_value small
code_reported BadRequest e = absurd cc
code_reported Unauthenticated e = ap (λ (b : Bool). if is_some (option_or None (if true && b then None else Some InvalidAttributeData)) then None else Some 401) (utf8_of (codes "Unauthenticated") refl)
code_reported StaleNonce e = ap (λ (b : Bool). if is_some (option_or None (if true && b then None else Some InvalidAttributeData)) then None else Some 438) (utf8_of (codes "Stale Nonce") refl)

code_short : (refusal : Refusal) → asks refusal ≡ true → length (code_value refusal) < 2 ^ 16
unfolding code_value
code_short BadRequest e = absurd cc
code_short Unauthenticated e = lit< tt
code_short StaleNonce e = lit< tt

pub challenges : (refusal : Refusal) (code : Option ℕ) → asks refusal ≡ true → code ≡ Some (refusal_code refusal) → (is_code 401 code || is_code 438 code) ≡ true
challenges BadRequest code e is = absurd cc
challenges Unauthenticated code e is = ap (λ (o : Option ℕ). is_code 401 o || is_code 438 o) is
challenges StaleNonce code e is = ap (λ (o : Option ℕ). is_code 401 o || is_code 438 o) is

-- ---- What is written

abbrev pub written : (code realm nonce : List ℕ) → Option (List ℕ) → List Attribute
written code realm nonce list = canonical ERROR_CODE code ∷ canonical REALM realm ∷ canonical NONCE nonce ∷ list_attributes list

written_plain : (code realm nonce : List ℕ) (list : Option (List ℕ)) → list_any is_ending (types (written code realm nonce list)) ≡ false
written_plain code realm nonce None = refl
written_plain code realm nonce (Some value) = refl

added : (type : ℕ) (value : List ℕ) → type < 2 ^ 16 → length value < 2 ^ 16 → is_ending type ≡ false → IsAdded (canonical type value)
added type value t v plain = record { written = refl; type_fits = t; value_fits = v; plain = plain }

list_added : (list : Option (List ℕ)) → ((value : List ℕ) → list ≡ Some value → length value < 2 ^ 16) → AllByRecursion IsAdded (list_attributes list)
list_added None fits = tt
list_added (Some value) fits = (added PASSWORD_ALGORITHMS value (lit< tt) (fits value refl) refl, tt)

-- a text is not longer than its attribute may be
short_step : (most n : ℕ) (b : Bool) (x y : StunParseError) → option_or (if nat_lt n 0 then Some x else (if nat_lt most n then Some y else None)) (if b then None else Some InvalidAttributeData) ≡ None → n ≤ most
short_step most n b x y e = elim (cases_lt most n) [
  | inl long ↦ absurd (longer (nat_lt n 0) (nat_lt most n) b (lt-ltb most n long) e)
  | inr fits ↦ fits
]
  where
    longer : (s t b : Bool) → t ≡ true → option_or (if s then Some x else (if t then Some y else None)) (if b then None else Some InvalidAttributeData) ≡ None → ⊥
    longer true t b is none = cc
    longer false true b is none = cc
    longer false false b is none = cc

pub text_short : (value : List ℕ) → text_fault text_max value ≡ None → length value < 2 ^ 16
text_short value e = omega (arith, short_step text_max (length value) (is_utf8 value) _ _ e)

-- what `refuse_long_term` writes is this
pub same_written : (refusal : Refusal) (asked : Asked) → asks refusal ≡ true → refusal_attributes refusal (Some asked) ≡ written (code_value refusal) asked.realm asked.nonce asked.list
unfolding code_value
same_written BadRequest asked e = absurd cc
same_written Unauthenticated asked e = refl
same_written StaleNonce asked e = refl

-- ---- What is read

-- a message shows these, and then ending ones
record Shows (d code realm nonce : List ℕ) (list : Option (List ℕ)) : Type 0 where
  more : List Attribute
  shows : shown d ≡ placed 20 (written code realm nonce list ++ more)
  ending : (c : ℕ) → is_ending c ≡ false → has c (types more) ≡ false

list_there : IsFirst → IsMissing → (d code realm nonce : List ℕ) (list : Option (List ℕ)) → Shows d code realm nonce list → list_of d ≡ list
list_there first missing d code realm nonce (Some value) s =
    value_there first d (canonical ERROR_CODE code ∷ canonical REALM realm ∷ canonical NONCE nonce ∷ []) s.more (canonical PASSWORD_ALGORITHMS value) s.shows refl
list_there first missing d code realm nonce None s =
    value_missing missing d PASSWORD_ALGORITHMS (written code realm nonce None ++ s.more) s.shows (any-append (λ t. eqb t PASSWORD_ALGORITHMS) (written code realm nonce None) s.more refl (s.ending PASSWORD_ALGORITHMS refl))

-- nothing is missing that was promised
not_down : (list : Option (List ℕ)) (promised : Bool) → promised ≡ is_some list → (promised && not (is_some list)) ≡ false
not_down None true e = absurd cc
not_down None false e = refl
not_down (Some value) true e = refl
not_down (Some value) false e = refl

or_both : (a b : Bool) → a ≡ false → b ≡ false → (a || b) ≡ false
or_both false b x y = y
or_both true b x y = absurd (cc x)

kept_list : (tried : Option (List ℕ)) (had_algorithms : Bool) (refusal : Refusal) (asked : Asked) → Retries tried had_algorithms refusal asked → (had_algorithms && not (is_some asked.list)) ≡ false
kept_list tried had_algorithms refusal asked r = by_lists had_algorithms asked.list r.listed
  where
    by_lists : (had : Bool) (list : Option (List ℕ)) → (had ≡ true → is_some list ≡ true) → (had && not (is_some list)) ≡ false
    by_lists false list h = refl
    by_lists true (Some value) h = refl
    by_lists true None h = absurd (cc (h refl))

and_false : (x : Bool) → (x && false) ≡ false
and_false true = refl
and_false false = refl

no_repeat : (tried : Option (List ℕ)) (had_algorithms : Bool) (refusal : Refusal) (asked : Asked) (code : Option ℕ) → asks refusal ≡ true → code ≡ Some (refusal_code refusal) → Retries tried had_algorithms refusal asked
    → (is_code 401 code && option_map_or (λ (before : List ℕ). pointwise nat_eq before asked.realm) tried false) ≡ false
no_repeat tried had_algorithms BadRequest asked code e is r = absurd cc
no_repeat tried had_algorithms Unauthenticated asked code e is r = ap (λ (b : Bool). is_code 401 code && b) (r.untried refl) ∙ and_false (is_code 401 code)
no_repeat tried had_algorithms StaleNonce asked code e is r = ap (λ (o : Option ℕ). is_code 401 o && option_map_or (λ (before : List ℕ). pointwise nat_eq before asked.realm) tried false) is

reported_text : (value : List ℕ) (o : Option (List ℕ)) → o ≡ Some value → text_fault text_max value ≡ None → option_and_then (λ (v : List ℕ). text_in text_max v) o ≡ Some value
reported_text value o is none =
    ap (λ (p : Option (List ℕ)). option_and_then (λ (v : List ℕ). text_in text_max v) p) is
    ∙ ap (λ (f : Option StunParseError). if is_some f then None else Some value) none

rows : (supported : List PasswordAlgorithmValue) (tried : Option (List ℕ)) (had_algorithms : Bool) (asked : Asked) (a : PasswordAlgorithmValue) (d : List ℕ)
    → is_challenge d ≡ true → (is_bid_down d || lost_list had_algorithms d) ≡ false → text_of text_max REALM d ≡ Some asked.realm → text_of text_max NONCE d ≡ Some asked.nonce → list_of d ≡ asked.list
    → Takes supported asked a → repeats tried asked.realm d ≡ false → challenge_of supported tried had_algorithms d ≡ Ok (retry_with asked a)
rows supported tried had_algorithms asked a d challenged down realm-is nonce-is list-is takes fresh =
    ap (λ (b : Bool). if b then by_list supported tried had_algorithms d else Err NotAChallenge) challenged
    ∙ ap (λ (b : Bool). if b then Err BidDown else by_texts supported tried d) down
    ∙ ap (λ (o : Option (List ℕ)). option_map_or (λ (realm : List ℕ). option_map_or (λ (nonce : List ℕ). by_algorithm supported tried (asked_for realm nonce (list_of d)) d) (text_of text_max NONCE d) (Err Incomplete)) o (Err Incomplete)) realm-is
    ∙ ap (λ (o : Option (List ℕ)). option_map_or (λ (nonce : List ℕ). by_algorithm supported tried (asked_for asked.realm nonce (list_of d)) d) o (Err Incomplete)) nonce-is
    ∙ ap (λ (l : Option (List ℕ)). option_map_or (λ (algorithm : PasswordAlgorithmValue). by_credentials tried (retry_with (asked_for asked.realm asked.nonce l) algorithm) d) (selected supported l) (Err NoAlgorithm)) list-is
    ∙ ap (λ (o : Option PasswordAlgorithmValue). option_map_or (λ (algorithm : PasswordAlgorithmValue). by_credentials tried (retry_with asked algorithm) d) o (Err NoAlgorithm)) takes
    ∙ ap (λ (b : Bool). if b then Err SameCredentials else Ok (retry_with asked a)) fresh

read_of : IsFirst → IsMissing → (refusal : Refusal) (asked : Asked) (supported : List PasswordAlgorithmValue) (a : PasswordAlgorithmValue) (tried : Option (List ℕ)) (had_algorithms : Bool) (d : List ℕ) → asks refusal ≡ true → class_of (type_field d) ≡ ErrorClass → IsLawful asked
    → promises_algorithms asked.nonce ≡ is_some asked.list → Takes supported asked a → Retries tried had_algorithms refusal asked → Shows d (code_value refusal) asked.realm asked.nonce asked.list → challenge_of supported tried had_algorithms d ≡ Ok (retry_with asked a)
read_of first missing refusal asked supported a tried had_algorithms d asking class lawful agrees takes retries s =
    let code = canonical ERROR_CODE (code_value refusal) in
    let list = asked.list in
    let rest = canonical REALM asked.realm ∷ canonical NONCE asked.nonce ∷ list_attributes list in
    let code-is : response_code d ≡ Some (refusal_code refusal) =
    ap (λ (c : MessageClass). code_by_class c d) class
    ∙ ap (λ (o : Option Shown). option_and_then (λ (x : Shown). value_code x.value) o) (first d [] (rest ++ s.more) code s.shows refl)
    ∙ code_reported refusal asking in
    let list-is = list_there first missing d (code_value refusal) asked.realm asked.nonce list s in
    let nonce-is : value_of d NONCE ≡ Some asked.nonce = value_there first d (code ∷ canonical REALM asked.realm ∷ []) (list_attributes list ++ s.more) (canonical NONCE asked.nonce) s.shows refl in
    let realm-is : value_of d REALM ≡ Some asked.realm = value_there first d (code ∷ []) ((canonical NONCE asked.nonce ∷ list_attributes list) ++ s.more) (canonical REALM asked.realm) s.shows refl in
    rows supported tried had_algorithms asked a d (challenges refusal (response_code d) asking code-is)
    (or_both (is_bid_down d) (lost_list had_algorithms d)
    (ap (λ (o : Option (List ℕ)). option_map_or (λ (n : List ℕ). promises_algorithms n) o false && not (is_some (list_of d))) nonce-is
    ∙ ap (λ (l : Option (List ℕ)). promises_algorithms asked.nonce && not (is_some l)) list-is ∙ not_down asked.list (promises_algorithms asked.nonce) agrees)
    (ap (λ (l : Option (List ℕ)). had_algorithms && not (is_some l)) list-is ∙ kept_list tried had_algorithms refusal asked retries))
    (reported_text asked.realm (value_of d REALM) realm-is lawful.realm_is) (reported_text asked.nonce (value_of d NONCE) nonce-is lawful.nonce_is) list-is takes
    (no_repeat tried had_algorithms refusal asked (response_code d) asking code-is retries)

-- it may be written
written_writable : (attributes : List Attribute) (refusal : Refusal) (asked : Asked) (fingerprint : Bool) (kind id : ℕ)
    → attributes ≡ written (code_value refusal) asked.realm asked.nonce asked.list → asks refusal ≡ true → kind < 2 ^ 14 → id < 2 ^ 96 → IsLawful asked → HasRoom kind id (finished fingerprint kind id attributes)
    → IsWritable kind id (finished fingerprint kind id attributes)
written_writable attributes refusal asked fingerprint kind id is asking kind_fits id_fits lawful room =
    let list = asked.list in
    let parts = written (code_value refusal) asked.realm asked.nonce list in
    let plain : list_any is_ending (types attributes) ≡ false = ap (λ (l : List Attribute). list_any is_ending (types l)) is ∙ written_plain (code_value refusal) asked.realm asked.nonce list in
    let ended : Ended attributes (finished fingerprint kind id attributes) = ended_finished fingerprint kind id attributes attributes (ended_none attributes) in
    let fits : HasRoom kind id attributes = room_down kind id attributes ended.more (subst (HasRoom kind id) ended.whole room) in
    let so : IsWritable kind id attributes = subst (IsWritable kind id) (sym is) (adds kind id [] parts (none_writable kind id kind_fits id_fits) refl
    (added ERROR_CODE (code_value refusal) (lit< tt) (code_short refusal asking) refl, (added REALM asked.realm (lit< tt) (text_short asked.realm lawful.realm_is) refl, (added NONCE asked.nonce (lit< tt) (text_short asked.nonce lawful.nonce_is) refl, list_added list lawful.list_fits)))
    (subst (HasRoom kind id) is fits)) in
    finished_writable fingerprint kind id attributes so (free finger (types attributes) plain) room

pub refused_writable : (refusal : Refusal) (asked : Asked) (fingerprint : Bool) (kind id : ℕ) → asks refusal ≡ true → kind < 2 ^ 14 → id < 2 ^ 96 → IsLawful asked → HasRoom kind id (refused_attributes fingerprint kind id refusal asked)
    → IsWritable kind id (refused_attributes fingerprint kind id refusal asked)
refused_writable refusal asked fingerprint kind id asking =
    written_writable (refusal_attributes refusal (Some asked)) refusal asked fingerprint kind id (same_written refusal asked asking) asking

-- for the attributes that `refuse_long_term` writes, under an equation
written_read : IsFirst → IsMissing → (attributes : List Attribute) (refusal : Refusal) (asked : Asked) (supported : List PasswordAlgorithmValue) (a : PasswordAlgorithmValue) (tried : Option (List ℕ)) (had_algorithms : Bool) (fingerprint : Bool) (kind id : ℕ)
    → attributes ≡ written (code_value refusal) asked.realm asked.nonce asked.list → asks refusal ≡ true → kind < 2 ^ 14 → id < 2 ^ 96 → class_of kind ≡ ErrorClass → IsLawful asked
    → promises_algorithms asked.nonce ≡ is_some asked.list → Takes supported asked a → Retries tried had_algorithms refusal asked → HasRoom kind id (finished fingerprint kind id attributes)
    → challenge_of supported tried had_algorithms (message_encoding kind id (finished fingerprint kind id attributes)) ≡ Ok (retry_with asked a)
written_read first missing attributes refusal asked supported a tried had_algorithms fingerprint kind id is asking kind_fits id_fits class lawful agrees takes retries room =
    let all = finished fingerprint kind id attributes in
    let d = message_encoding kind id all in
    let ended : Ended attributes all = ended_finished fingerprint kind id attributes attributes (ended_none attributes) in
    let writable : IsWritable kind id all = written_writable attributes refusal asked fingerprint kind id is asking kind_fits id_fits lawful room in
    read_of first missing refusal asked supported a tried had_algorithms d asking (ap class_of (type-message kind id all kind_fits) ∙ class) lawful agrees takes retries
    (record { more = ended.more; shows = shown-message kind id all writable ∙ ap (placed 20) (ended.whole ∙ ap (λ (l : List Attribute). l ++ ended.more) is); ending = ended.ending })

pub challenge_read : IsFirst → IsMissing → (refusal : Refusal) (asked : Asked) (supported : List PasswordAlgorithmValue) (algorithm : PasswordAlgorithmValue) (tried : Option (List ℕ)) (had_algorithms : Bool) (fingerprint : Bool) (kind id : ℕ)
    → (asks refusal ≡ true → kind < 2 ^ 14 → id < 2 ^ 96 → class_of kind ≡ ErrorClass → IsLawful asked → promises_algorithms asked.nonce ≡ is_some asked.list → Takes supported asked algorithm → Retries tried had_algorithms refusal asked
    → HasRoom kind id (refused_attributes fingerprint kind id refusal asked) → challenge_of supported tried had_algorithms (refused fingerprint kind id refusal asked) ≡ Ok (retry_with asked algorithm))
challenge_read first missing refusal asked supported algorithm tried had_algorithms fingerprint kind id asking =
    written_read first missing (refusal_attributes refusal (Some asked)) refusal asked supported algorithm tried had_algorithms fingerprint kind id (same_written refusal asked asking) asking
