-- Error responses and challenges are judged as they were written.
use Rattle.std.proofs.Common.{◌≡◌, ℕ, ◌^◌, ◌<◌, ◌≤◌, Bool, true, false, List, [], ◌∷◌, ◌++◌, length, Option, None, Some, Ok, inl, inr, refl, sym, ap, subst, ◌∙◌, lit<, lit≤, arith}
use Rattle.std.specs.Prelude.{◌||◌, ◌&&◌, ◌==◌, IfSome, find, is_some, not, option_and_then, if◌then◌else◌}
use Rattle.std.specs.List.{AllByRecursion, list_any}
use Rattle.std.specs.Option.{option_map, option_map_or, option_or}
use Rattle.std.proofs.lemmas.Bool.{cases_Bool, eq-eqb, eqb-true}
use Rattle.stun_grammar.specs.declared.attribute_type.AttributeType.{AttributeType}
use Rattle.stun_grammar.specs.declared.error.StunParseError.TheVariants.{InvalidAttributeData}
use Rattle.stun_grammar.specs.declared.integrity_algorithm.IntegrityAlgorithm.{IntegrityAlgorithm}
use Rattle.stun_grammar.specs.declared.integrity_algorithm.IntegrityAlgorithm.TheVariants.{Sha1, Sha256}
use Rattle.stun_grammar.specs.Attributes.{Attribute, canonical, types}
use Rattle.stun_grammar.specs.AttributeTypes.{ERROR_CODE}
use Rattle.stun_grammar.specs.Chains.{Shown}
use Rattle.stun_grammar.specs.Headers.{id_field, type_field}
use Rattle.stun_grammar.specs.Parsing.{parse_fault}
use Rattle.stun_grammar.specs.ScannedOrder.{has}
use Rattle.stun_base.specs.declared.message_class.MessageClass.{MessageClass}
use Rattle.stun_base.specs.declared.message_class.MessageClass.TheVariants.{Error as ErrorClass}
use Rattle.stun_base.specs.MessageTypes.{class_of, is_response, method_of, type_of}
use Rattle.stun_values.specs.declared.algorithm.PasswordAlgorithmValue.{PasswordAlgorithmValue}
use Rattle.stun_values.specs.ErrorValues.{error_value}
use Rattle.stun_attributes.specs.DefaultReasons.{default_reason}
use Rattle.stun_types.specs.LookingUp.{nth}
use Rattle.stun_types.specs.Replies.{error_attribute}
use Rattle.stun_authentication.specs.declared.answer.Refusal.{Refusal}
use Rattle.stun_authentication.specs.Answers.{refusal_code}
use Rattle.stun_authentication.specs.Asking.{Asked as Challenged}
use Rattle.stun_authentication.specs.Challenges.{challenge_of, retry_with}
use Rattle.stun_authentication.specs.Codes.{code_by_class, is_challenge, is_code, response_code, shown_code, value_code}
use Rattle.stun_authentication.specs.Cookies.{promises_algorithms}
use Rattle.stun_authentication.specs.Policies.{is_fingerprinted}
use Rattle.stun_authentication.specs.Refusing.{refusal_attributes, refusal_of}
use Rattle.stun_authentication.specs.Writing.{signed_reply}
use Rattle.stun_endpoints.specs.declared.endpoints.Endpoint.{Endpoint}
use Rattle.stun_exchanges.specs.Offers.{IsLawful, Retries, Takes, asks, refused as refused_text, refused_attributes}
use Rattle.stun_exchanges.specs.Premises.{HasRoom, WorksAs}
use Rattle.stun_exchanges.proofs.ChallengeLemmas.{challenges, code_reported, code_value, refused_writable, same_written, small, utf8_of, written}
use Rattle.stun_exchanges.proofs.EndedLemmas.{IsFirst, IsMissing}
use Rattle.stun_exchanges.proofs.TakenLemmas.{long_taken}
use Rattle.stun_transactions.specs.declared.received.Failure.TheVariants.{NoErrorCode, UnknownAttribute}
use Rattle.stun_transactions.specs.declared.received.Outcome.TheVariants.{Error, Failed, NotForThis}
use Rattle.stun_transactions.specs.Guards.{guard_fault, proof_of}
use Rattle.stun_transactions.specs.Receiving.{claim_of, content_by_class, discarded}
use Rattle.stun_transactions.specs.Responses.{first_unknown, own_types}
use Rattle.turn_client_machine.specs.declared.requests.Answer.TheVariants.{Redirected, Refused}
use Rattle.turn_client_machine.specs.declared.requests.Kind.{Kind}
use Rattle.turn_client_machine.specs.declared.requests.Kind.TheVariants.{Allocate, Refresh, Delete, Permit, Bind}
use Rattle.turn_client_messages.specs.Judging.{by_challenge, by_class, by_outcome, challenge, error, judge, other_error, response, stray}
use Rattle.turn_client_messages.specs.Pending.{is_authentic, key_of, mechanism_of, realm_tried, signed_with, turn_policy}
use Rattle.turn_client_messages.specs.Requests.{id_of, method_for}
use Rattle.turn_client_messages.specs.Understood.{understood}
use Rattle.turn_client_messages.specs.Values.{alternate_in}
use Rattle.turn_client_messages.specs.Views.{Asked, Dealing}
use Rattle.turn_machine.specs.Events.{refused}
use Rattle.turn_requests.specs.Requests.{Credentials}
use Rattle.turn_server.specs.Answers.{ANSWER_CODES, answer_text, software_attributes}
use Rattle.turn_sessions.specs.Answers.{IsOf}
use Rattle.turn_sessions.specs.Sides.{Fits}
use Rattle.turn_sessions.proofs.AnswersLemmas.{AreFew, all_known, has_room, open_of, proved, read_signed, software_few, software_size}
use Rattle.turn_sessions.proofs.JudgingLemmas.{hears_is}
use Rattle.turn_sessions.proofs.ShownLemmas.{IsRead, ended_open, ending_types, is_other, none_unknown, one_size, print_types, read_message, value_is}

-- ---- What an error response is to a request

both : (a b : Bool) → a ≡ true → b ≡ true → (a && b) ≡ true
both true b e f = f
both false b e f = absurd cc

abbrev error_type : Asked → ℕ
error_type r = type_of ErrorClass (method_for r.request.kind)

record HasMethod (k : Kind) : Type 0 where
  fits : type_of ErrorClass (method_for k) < 2 ^ 14
  class_is : class_of (type_of ErrorClass (method_for k)) ≡ ErrorClass
  method_is : method_of (type_of ErrorClass (method_for k)) ≡ method_for k

method_is : (k : Kind) → HasMethod k
method_is Allocate = record { fits = lit< tt; class_is = refl; method_is = refl }
method_is Refresh = record { fits = lit< tt; class_is = refl; method_is = refl }
method_is Delete = record { fits = lit< tt; class_is = refl; method_is = refl }
method_is (Permit peer) = record { fits = lit< tt; class_is = refl; method_is = refl }
method_is (Bind channel peer) = record { fits = lit< tt; class_is = refl; method_is = refl }

-- it is one with this code, and not discarded
record IsError (r : Asked) (d : List ℕ) (code : ℕ) : Type 0 where
  parses : parse_fault d ≡ None
  type_is : type_field d ≡ error_type r
  id_is : id_field d ≡ id_of r.request
  kept : guard_fault (Some (mechanism_of r.login)) (key_of r.login) turn_policy (signed_with r.login) d ≡ None
  known : first_unknown understood d ≡ None
  code_is : shown_code d ≡ Some code

error_heard : (dealing : Dealing) (r : Asked) (d : List ℕ) (code : ℕ) → IsError r d code → judge dealing (Some r) d ≡ error dealing r (is_authentic r d) code d
error_heard dealing r d code e =
    let m = method_is r.request.kind in
    let class : class_of (type_field d) ≡ ErrorClass = ap class_of e.type_is ∙ m.class_is in
    let proof = proof_of (Some (mechanism_of r.login)) (key_of r.login) turn_policy (signed_with r.login) d in
    let own : (is_response (class_of (type_field d)) && ((method_of (type_field d) == method_for r.request.kind) && (id_field d == id_of r.request))) ≡ true =
    both (is_response (class_of (type_field d))) _ (ap is_response class)
    (both (method_of (type_field d) == method_for r.request.kind) _ (eq-eqb _ _ (ap method_of e.type_is ∙ m.method_is)) (eq-eqb _ _ e.id_is)) in
    hears_is dealing (Some r) d e.parses
    ∙ (λ i. if is_some (e.parses i) then stray else by_class dealing (Some r) (class i) d)
    ∙ (λ i. by_outcome dealing r d (if own i then option_map_or (discarded dealing.transport (claim_of d)) (e.kept i)
    (option_map_or (λ (type : AttributeType). Failed (UnknownAttribute type)) (e.known i) (content_by_class proof (class i) d)) else NotForThis))
    ∙ ap (λ (o : Option ℕ). by_outcome dealing r d (option_map_or (λ (n : ℕ). Error n proof) o (Failed NoErrorCode))) e.code_is

-- ---- The code

code_of : (o : Option Shown) → option_and_then (λ (a : Shown). value_code a.value) o ≡ option_and_then value_code (option_map (λ (a : Shown). a.value) o)
code_of None = refl
code_of (Some a) = refl

code_there : (kind id : ℕ) (value : List ℕ) (xs : List Attribute) (ends d : List ℕ) → IsRead kind id (canonical ERROR_CODE value ∷ xs) ends d → has ERROR_CODE ends ≡ false → shown_code d ≡ value_code value
code_there kind id value xs ends d r clear = code_of (nth d ERROR_CODE 0) ∙ ap (option_and_then value_code) (value_is ERROR_CODE kind id (canonical ERROR_CODE value ∷ xs) ends d r clear)

-- ---- A refusal, signed

-- a code of an answer, with its reason
record Holds (code : ℕ) : Type 0 where
  back : value_code (error_value code (default_reason code)) ≡ Some code
  short : length (default_reason code) ≤ 100
  no_challenge : (is_code 401 (Some code) || is_code 438 (Some code)) ≡ false
  stays : (code == 300) ≡ false

each : (P : ℕ → Type 0) (xs : List ℕ) → AllByRecursion P xs → (code : ℕ) → has code xs ≡ true → P code
each P [] all code e = absurd cc
each P (x ∷ xs) all code e = elim (cases_Bool (x == code)) [
  | inl is ↦ subst P (eqb-true x code is) all.0
  | inr other ↦ each P xs all.1 code (sym (ap (λ (b : Bool). b || has code xs) other) ∙ e)
]

all_hold : AllByRecursion Holds ANSWER_CODES
unfolding small
all_hold = (
  record {
    back = ap (λ (b : Bool). if is_some (option_or None (if true && b then None else Some InvalidAttributeData)) then None else Some 400) (utf8_of (default_reason 400) refl);
    short = lit≤ tt;
    no_challenge = refl;
    stays = refl;
  },
  (
    record {
      back = ap (λ (b : Bool). if is_some (option_or None (if true && b then None else Some InvalidAttributeData)) then None else Some 403) (utf8_of (default_reason 403) refl);
      short = lit≤ tt;
      no_challenge = refl;
      stays = refl;
    },
    (
      record {
        back = ap (λ (b : Bool). if is_some (option_or None (if true && b then None else Some InvalidAttributeData)) then None else Some 437) (utf8_of (default_reason 437) refl);
        short = lit≤ tt;
        no_challenge = refl;
        stays = refl;
      },
      (
        record {
          back = ap (λ (b : Bool). if is_some (option_or None (if true && b then None else Some InvalidAttributeData)) then None else Some 440) (utf8_of (default_reason 440) refl);
          short = lit≤ tt;
          no_challenge = refl;
          stays = refl;
        },
        (
          record {
            back = ap (λ (b : Bool). if is_some (option_or None (if true && b then None else Some InvalidAttributeData)) then None else Some 441) (utf8_of (default_reason 441) refl);
            short = lit≤ tt;
            no_challenge = refl;
            stays = refl;
          },
          (
            record {
              back = ap (λ (b : Bool). if is_some (option_or None (if true && b then None else Some InvalidAttributeData)) then None else Some 442) (utf8_of (default_reason 442) refl);
              short = lit≤ tt;
              no_challenge = refl;
              stays = refl;
            },
            (
              record {
                back = ap (λ (b : Bool). if is_some (option_or None (if true && b then None else Some InvalidAttributeData)) then None else Some 443) (utf8_of (default_reason 443) refl);
                short = lit≤ tt;
                no_challenge = refl;
                stays = refl;
              },
              (
                record {
                  back = ap (λ (b : Bool). if is_some (option_or None (if true && b then None else Some InvalidAttributeData)) then None else Some 486) (utf8_of (default_reason 486) refl);
                  short = lit≤ tt;
                  no_challenge = refl;
                  stays = refl;
                },
                (
                  record {
                    back = ap (λ (b : Bool). if is_some (option_or None (if true && b then None else Some InvalidAttributeData)) then None else Some 508) (utf8_of (default_reason 508) refl);
                    short = lit≤ tt;
                    no_challenge = refl;
                    stays = refl;
                  },
                  tt,
                ),
              ),
            ),
          ),
        ),
      ),
    ),
  ),
)

refused_few : (code : ℕ) (software : Option (List ℕ)) → Holds code → IfSome software (λ name. length name ≤ 763) → AreFew (error_attribute code (default_reason code) ∷ software_attributes software)
refused_few code software h short =
    let s = software_few software short in
    let value = error_value code (default_reason code) in
    record {
      added = (record { written = refl; type_fits = lit< tt; value_fits = omega (arith, h.short); plain = refl }, s.added);
      ordinary = s.ordinary;
      no_nonce = s.no_nonce;
      known = s.known;
      few = omega (arith, h.short, software_size software short, one_size ERROR_CODE value (software_attributes software) (lit< tt) (omega (arith, h.short)));
    }

clear : (a : IntegrityAlgorithm) (print : Bool) → has ERROR_CODE (ending_types a print) ≡ false
clear Sha1 true = refl
clear Sha1 false = refl
clear Sha256 true = refl
clear Sha256 false = refl

pub refused_heard : IsFirst → IsMissing → (dealing : Dealing) (r : Asked) (login : Credentials) (software : Option (List ℕ)) (client : Endpoint) (q : List ℕ) (code : ℕ) (key : List ℕ) (a : IntegrityAlgorithm)
    → IsOf r q → r.login ≡ Some login → WorksAs key a login.key → IfSome software (λ name. length name ≤ 763) → has code ANSWER_CODES ≡ true
    → judge dealing (Some r) (answer_text software client q (refused code) None key a) ≡ response (id_of r.request) true (Refused code)
refused_heard first missing dealing r login software client q code key a of has_login works short own =
    let id = id_field q in
    let print = is_fingerprinted q in
    let kind = error_type r in
    let m = method_is r.request.kind in
    let h = each Holds ANSWER_CODES all_hold code own in
    let xs = error_attribute code (default_reason code) ∷ software_attributes software in
    let f = refused_few code software h short in
    let small_id : id < 2 ^ 96 = subst (λ (n : ℕ). n < 2 ^ 96) (sym of.id_is) (omega arith) in
    let d = signed_reply print kind id xs a key in
    let shows = read_signed print kind id xs a key m.fits small_id f in
    let code_is : shown_code d ≡ Some code = code_there kind id (error_value code (default_reason code)) (software_attributes software) (ending_types a print) d shows (clear a print) ∙ h.back in
    let class : class_of (type_field d) ≡ ErrorClass = ap class_of shows.type_is ∙ m.class_is in
    let signed_by = signed_with (Some login) in
    let taken = long_taken first missing a print kind id xs key login.key turn_policy signed_by works (open_of kind id xs m.fits small_id f) f.no_nonce (has_room print kind id xs a key f.few)
    (record { min_hmac_length = lit≤ tt; printed = λ e. absurd cc }) in
    let e : IsError r d code = record {
      parses = shows.parses;
      type_is = shows.type_is;
      id_is = shows.id_is ∙ of.id_is;
      kept = ap (λ (o : Option Credentials). guard_fault (Some (mechanism_of o)) (key_of o) turn_policy (signed_with o) d) has_login ∙ taken.kept;
      known = all_known print kind id xs a d f shows;
      code_is = code_is;
    } in
    let no_challenge : is_challenge d ≡ false = (λ i. is_code 401 (code_by_class (class i) d) || is_code 438 (code_by_class (class i) d)) ∙ ap (λ (o : Option ℕ). is_code 401 o || is_code 438 o) code_is ∙ h.no_challenge in
    ap (λ (n : ℕ). judge dealing (Some r) (signed_reply print (type_of ErrorClass n) id xs a key)) of.method_is
    ∙ error_heard dealing r d code e
    ∙ ap (λ (b : Bool). if b then by_challenge (id_field d) (is_authentic r d) code (challenge_of dealing.algorithms (realm_tried r.login) dealing.had_algorithms d) else response (id_field d) (is_authentic r d) (other_error dealing code d)) no_challenge
    ∙ (λ i. response (e.id_is i) (proved first missing print kind id xs a key r login m.fits small_id f has_login works i) (if h.stays i then option_map_or (λ (server : Endpoint). Redirected server) (alternate_in dealing.server.ip.family d) (Refused code) else Refused code))

-- ---- A challenge, which isn't signed

print_known : (print : Bool) → list_any (is_other understood) (print_types print) ≡ false
print_known true = refl
print_known false = refl

print_clear : (print : Bool) → has ERROR_CODE (print_types print) ≡ false
print_clear true = refl
print_clear false = refl

written_known : (code realm nonce : List ℕ) (list : Option (List ℕ)) → list_any (is_other understood) (types (written code realm nonce list)) ≡ false
written_known code realm nonce None = refl
written_known code realm nonce (Some value) = refl

taken_in : (login : Option Credentials) (d : List ℕ) → is_challenge d ≡ true → guard_fault (Some (mechanism_of login)) (key_of login) turn_policy (signed_with login) d ≡ None
taken_in None d e = rw e refl
taken_in (Some login) d e = rw e refl

-- what the law of challenges says
abbrev pub AreRead : Type 0
AreRead = (refusal : Refusal) (asked : Challenged) (supported : List PasswordAlgorithmValue) (algorithm : PasswordAlgorithmValue) (tried : Option (List ℕ)) (had_algorithms : Bool) (fingerprint : Bool) (kind id : ℕ)
    → asks refusal ≡ true → kind < 2 ^ 14 → id < 2 ^ 96 → class_of kind ≡ ErrorClass → IsLawful asked → promises_algorithms asked.nonce ≡ is_some asked.list → Takes supported asked algorithm → Retries tried had_algorithms refusal asked
    → HasRoom kind id (refused_attributes fingerprint kind id refusal asked) → challenge_of supported tried had_algorithms (refused_text fingerprint kind id refusal asked) ≡ Ok (retry_with asked algorithm)

pub challenge_heard : AreRead → (dealing : Dealing) (r : Asked) (q : List ℕ) (refusal : Refusal) (asked : Challenged) (algorithm : PasswordAlgorithmValue) → IsOf r q → asks refusal ≡ true → IsLawful asked → promises_algorithms asked.nonce ≡ is_some asked.list
    → Takes dealing.algorithms asked algorithm → Retries (realm_tried r.login) dealing.had_algorithms refusal asked → Fits (refusal_of q refusal (Some asked))
    → judge dealing (Some r) (refusal_of q refusal (Some asked)) ≡ challenge (id_of r.request) (is_authentic r (refusal_of q refusal (Some asked))) (refusal_code refusal) (retry_with asked algorithm)
challenge_heard reads dealing r q refusal asked algorithm of asking lawful agrees takes retries fits =
    let id = id_field q in
    let print = is_fingerprinted q in
    let kind = error_type r in
    let m = method_is r.request.kind in
    let small_id : id < 2 ^ 96 = subst (λ (n : ℕ). n < 2 ^ 96) (sym of.id_is) (omega arith) in
    let same : refusal_of q refusal (Some asked) ≡ refused_text print kind id refusal asked = ap (λ (n : ℕ). refused_text print (type_of ErrorClass n) id refusal asked) of.method_is in
    let d = refused_text print kind id refusal asked in
    let room : HasRoom kind id (refused_attributes print kind id refusal asked) = subst Fits same fits in
    let xs = written (code_value refusal) asked.realm asked.nonce asked.list in
    let all = refused_attributes print kind id refusal asked in
    let ended = ended_open print kind id (refusal_attributes refusal (Some asked)) in
    let shows : IsRead kind id xs (print_types print) d =
    read_message kind id xs all (print_types print) (record { more = ended.more; whole = ended.whole ∙ ap (λ (l : List Attribute). l ++ ended.more) (same_written refusal asked asking); ends_are = ended.ends_are })
    (refused_writable refusal asked print kind id asking m.fits small_id lawful room) in
    let class : class_of (type_field d) ≡ ErrorClass = ap class_of shows.type_is ∙ m.class_is in
    let code_is : shown_code d ≡ Some (refusal_code refusal) =
    code_there kind id (code_value refusal) _ (print_types print) d shows (print_clear print) ∙ code_reported refusal asking in
    let asked_for : is_challenge d ≡ true = challenges refusal (response_code d) asking (ap (λ (c : MessageClass). code_by_class c d) class ∙ code_is) in
    let e : IsError r d (refusal_code refusal) = record {
      parses = shows.parses;
      type_is = shows.type_is;
      id_is = shows.id_is ∙ of.id_is;
      kept = taken_in r.login d asked_for;
      known = ap (find (λ (type : AttributeType). not (has type.0 own_types))) (none_unknown understood kind id xs (print_types print) d shows (written_known (code_value refusal) asked.realm asked.nonce asked.list) (print_known print));
      code_is = code_is;
    } in
    let retry = reads refusal asked dealing.algorithms algorithm (realm_tried r.login) dealing.had_algorithms print kind id asking m.fits small_id m.class_is lawful agrees takes retries room in
    ap (λ (t : List ℕ). judge dealing (Some r) t) same
    ∙ error_heard dealing r d (refusal_code refusal) e
    ∙ ap (λ (b : Bool). if b then by_challenge (id_field d) (is_authentic r d) (refusal_code refusal) (challenge_of dealing.algorithms (realm_tried r.login) dealing.had_algorithms d) else response (id_field d) (is_authentic r d) (other_error dealing (refusal_code refusal) d)) asked_for
    ∙ (λ i. by_challenge (e.id_is i) (is_authentic r d) (refusal_code refusal) (retry i))
    ∙ ap (λ (t : List ℕ). challenge (id_of r.request) (is_authentic r t) (refusal_code refusal) (retry_with asked algorithm)) (sym same)
