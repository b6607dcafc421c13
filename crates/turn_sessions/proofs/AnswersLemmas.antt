-- A success response is judged as it was written.
use Rattle.std.proofs.Common.{◌≡◌, ℕ, ◌^◌, ◌<◌, ◌≤◌, Bool, true, false, List, [], ◌∷◌, ◌++◌, length, Option, None, Some, inl, inr, refl, sym, ap, subst, ◌∙◌, lit<, lit≤, arith}
use Rattle.std.specs.Prelude.{◌⊎◌, ◌&&◌, IfSome, find, is_some, not, option_and_then}
use Rattle.std.specs.List.{AllByRecursion, list_any}
use Rattle.std.specs.Option.{option_map, option_map_or}
use Rattle.stun_grammar.specs.declared.attribute_type.AttributeType.{AttributeType}
use Rattle.stun_grammar.specs.declared.integrity_algorithm.IntegrityAlgorithm.{IntegrityAlgorithm}
use Rattle.stun_grammar.specs.declared.integrity_algorithm.IntegrityAlgorithm.TheVariants.{Sha1, Sha256}
use Rattle.stun_grammar.specs.Attributes.{Attribute, encodings, types}
use Rattle.stun_grammar.specs.AttributeTypes.{NONCE, SOFTWARE, XOR_MAPPED_ADDRESS, is_ending}
use Rattle.stun_grammar.specs.Headers.{id_field, type_field}
use Rattle.stun_grammar.specs.Numbers.{be32, number}
use Rattle.stun_grammar.specs.ScannedOrder.{has}
use Rattle.stun_grammar.specs.Steps.{finger, sign}
use Rattle.stun_grammar.proofs.StepsLemmas.{length-with_step, none_writable}
use Rattle.stun_grammar.proofs.WritingLemmas.{length-message}
use Rattle.stun_base.specs.declared.message_class.MessageClass.TheVariants.{Success as SuccessClass}
use Rattle.stun_base.specs.MessageTypes.{class_of, method_of, type_of}
use Rattle.stun_values.specs.Addresses.{xored_value}
use Rattle.stun_authentication.specs.Challenges.{list_of}
use Rattle.stun_authentication.specs.Cookies.{promises_algorithms}
use Rattle.stun_authentication.specs.Identities.{value_of}
use Rattle.stun_authentication.specs.Policies.{is_fingerprinted}
use Rattle.stun_authentication.specs.Writing.{finished, signed, signed_reply}
use Rattle.stun_endpoints.specs.Conversions.{socket_of}
use Rattle.stun_endpoints.specs.declared.endpoints.Endpoint.{Endpoint}
use Rattle.stun_exchanges.specs.Premises.{HasRoom, IsOpen, WorksAs}
use Rattle.stun_exchanges.proofs.EndedLemmas.{IsFirst, IsMissing}
use Rattle.stun_exchanges.proofs.LoginsWritableLemmas.{IsAdded, adds}
use Rattle.stun_exchanges.proofs.ShortTermLemmas.{once_writable}
use Rattle.stun_exchanges.proofs.TakenLemmas.{long_taken}
use Rattle.stun_transactions.specs.Guards.{proof_of}
use Rattle.stun_transactions.specs.Responses.{first_unknown, own_types}
use Rattle.turn_attrs.specs.Turn.{LIFETIME, XOR_RELAYED_ADDRESS}
use Rattle.turn_client_machine.specs.declared.requests.Answer.{Answer as Heard}
use Rattle.turn_client_machine.specs.declared.requests.Answer.TheVariants.{Opened, Extended, Done, Refused}
use Rattle.turn_client_machine.specs.declared.requests.Kind.{Kind}
use Rattle.turn_client_machine.specs.declared.requests.Kind.TheVariants.{Allocate, Refresh, Delete, Permit, Bind}
use Rattle.turn_client_messages.specs.Judging.{judge, response, success}
use Rattle.turn_client_messages.specs.Origins.{IsFit}
use Rattle.turn_client_messages.specs.Pending.{is_authentic, key_of, mechanism_of, signed_with, turn_policy}
use Rattle.turn_client_messages.specs.Requests.{id_of, method_for}
use Rattle.turn_client_messages.specs.Understood.{understood}
use Rattle.turn_client_messages.specs.Values.{read_seconds, read_xored}
use Rattle.turn_client_messages.specs.Views.{Asked, Dealing}
use Rattle.turn_machine.specs.Events.{Answer, Given, allocated, done, refreshed, refused}
use Rattle.turn_requests.specs.Requests.{Credentials}
use Rattle.turn_server.specs.Answers.{address_attribute, answer_text, lifetime_attribute, relayed_attributes, software_attributes}
use Rattle.turn_sessions.specs.Answers.{IsOf, IsSuccess, says}
use Rattle.turn_sessions.specs.Sides.{IsTransport}
use Rattle.turn_sessions.proofs.AddressesLemmas.{AreOfEndpoints, transport_added, transport_read, transport_size}
use Rattle.turn_sessions.proofs.ShownLemmas.{IsRead, ended_signed, ending_types, is_other, no_value, none_unknown, one_size, read_message, value_is}

-- what the law of fit responses says
abbrev pub AreHeard : Type 0
AreHeard = (dealing : Dealing) (r : Asked) (d : List ℕ) → IsFit r d → judge dealing (Some r) d ≡ response (id_of r.request) true (success r.request.kind d)

-- ---- A signed response of few bytes

pub has_room : (print : Bool) (kind id : ℕ) (xs : List Attribute) (a : IntegrityAlgorithm) (key : List ℕ) → length (encodings xs) ≤ 1_400 → HasRoom kind id (finished print kind id (signed kind id xs a key))
has_room true kind id xs Sha1 key short = omega (arith, short, length-message kind id xs, length-with_step kind id xs (sign Sha1 key) tt, length-with_step kind id (signed kind id xs Sha1 key) finger tt)
has_room true kind id xs Sha256 key short = omega (arith, short, length-message kind id xs, length-with_step kind id xs (sign Sha256 key) tt, length-with_step kind id (signed kind id xs Sha256 key) finger tt)
has_room false kind id xs Sha1 key short = omega (arith, short, length-message kind id xs, length-with_step kind id xs (sign Sha1 key) tt)
has_room false kind id xs Sha256 key short = omega (arith, short, length-message kind id xs, length-with_step kind id xs (sign Sha256 key) tt)

-- the attributes of a response, before it is signed
pub record AreFew (xs : List Attribute) : Type 0 where
  pub added : AllByRecursion IsAdded xs
  pub ordinary : list_any is_ending (types xs) ≡ false
  pub no_nonce : has NONCE (types xs) ≡ false
  pub known : list_any (is_other understood) (types xs) ≡ false
  pub few : length (encodings xs) ≤ 1_400

pub open_of : (kind id : ℕ) (xs : List Attribute) → kind < 2 ^ 14 → id < 2 ^ 96 → AreFew xs → IsOpen kind id xs
open_of kind id xs k i f = record {
  writable = adds kind id [] xs (none_writable kind id k i) refl f.added (omega (arith, f.few, length-message kind id xs));
  ordinary = f.ordinary;
}

ends_known : (a : IntegrityAlgorithm) (print : Bool) → list_any (is_other understood) (ending_types a print) ≡ false
ends_known Sha1 true = refl
ends_known Sha1 false = refl
ends_known Sha256 true = refl
ends_known Sha256 false = refl

pub no_nonce_ends : (a : IntegrityAlgorithm) (print : Bool) → has NONCE (ending_types a print) ≡ false
no_nonce_ends Sha1 true = refl
no_nonce_ends Sha1 false = refl
no_nonce_ends Sha256 true = refl
no_nonce_ends Sha256 false = refl

-- what it shows
pub read_signed : (print : Bool) (kind id : ℕ) (xs : List Attribute) (a : IntegrityAlgorithm) (key : List ℕ) → kind < 2 ^ 14 → id < 2 ^ 96 → AreFew xs → IsRead kind id xs (ending_types a print) (signed_reply print kind id xs a key)
read_signed print kind id xs a key k i f =
    let all = finished print kind id (signed kind id xs a key) in
    read_message kind id xs all (ending_types a print) (ended_signed print kind id xs a key)
    (once_writable print kind id xs a key (open_of kind id xs k i f).writable f.ordinary (has_room print kind id xs a key f.few))

pub all_known : (print : Bool) (kind id : ℕ) (xs : List Attribute) (a : IntegrityAlgorithm) (d : List ℕ) → AreFew xs → IsRead kind id xs (ending_types a print) d → first_unknown understood d ≡ None
all_known print kind id xs a d f r = ap (find (λ (type : AttributeType). not (has type.0 own_types))) (none_unknown understood kind id xs (ending_types a print) d r f.known (ends_known a print))

-- its HMAC is right
pub proved : IsFirst → IsMissing → (print : Bool) (kind id : ℕ) (xs : List Attribute) (a : IntegrityAlgorithm) (key : List ℕ) (r : Asked) (login : Credentials) → kind < 2 ^ 14 → id < 2 ^ 96 → AreFew xs → r.login ≡ Some login → WorksAs key a login.key
    → is_authentic r (signed_reply print kind id xs a key) ≡ true
proved first missing print kind id xs a key r login k i f has_login works =
    let d = signed_reply print kind id xs a key in
    ap (λ (o : Option Credentials). is_some (proof_of (Some (mechanism_of o)) (key_of o) turn_policy (signed_with o) d)) has_login
    ∙ ap (λ (o : Option IntegrityAlgorithm). is_some o)
    (long_taken first missing a print kind id xs key login.key turn_policy (signed_with (Some login)) works (open_of kind id xs k i f) f.no_nonce (has_room print kind id xs a key f.few)
    (record { min_hmac_length = lit≤ tt; printed = λ e. absurd cc })).proof

-- ---- A success response

record HasMethod (k : Kind) : Type 0 where
  small : type_of SuccessClass (method_for k) < 2 ^ 14
  class_is : class_of (type_of SuccessClass (method_for k)) ≡ SuccessClass
  method_is : method_of (type_of SuccessClass (method_for k)) ≡ method_for k

method_is : (k : Kind) → HasMethod k
method_is Allocate = record { small = lit< tt; class_is = refl; method_is = refl }
method_is Refresh = record { small = lit< tt; class_is = refl; method_is = refl }
method_is Delete = record { small = lit< tt; class_is = refl; method_is = refl }
method_is (Permit peer) = record { small = lit< tt; class_is = refl; method_is = refl }
method_is (Bind channel peer) = record { small = lit< tt; class_is = refl; method_is = refl }

abbrev success_type : Asked → ℕ
success_type r = type_of SuccessClass (method_for r.request.kind)

fit : IsFirst → IsMissing → (print : Bool) (id : ℕ) (xs : List Attribute) (a : IntegrityAlgorithm) (key : List ℕ) (r : Asked) (login : Credentials) → id ≡ id_of r.request → id < 2 ^ 96 → AreFew xs → r.login ≡ Some login → WorksAs key a login.key
    → IsFit r (signed_reply print (success_type r) id xs a key)
fit first missing print id xs a key r login id_is small f has_login works =
    let kind = success_type r in
    let m = method_is r.request.kind in
    let d = signed_reply print kind id xs a key in
    let shows = read_signed print kind id xs a key m.small small f in
    let no_nonce : value_of d NONCE ≡ None = value_is NONCE kind id xs (ending_types a print) d shows (no_nonce_ends a print) ∙ no_value NONCE xs f.no_nonce in
    record {
      parses = shows.parses;
      succeeds = ap class_of shows.type_is ∙ m.class_is;
      method_is = ap method_of shows.type_is ∙ m.method_is;
      id_is = shows.id_is ∙ id_is;
      signed = proved first missing print kind id xs a key r login m.small small f has_login works;
      promised = ap (λ (o : Option (List ℕ)). option_map_or (λ (n : List ℕ). promises_algorithms n) o false && not (is_some (list_of d))) no_nonce;
      known = all_known print kind id xs a d f shows;
    }

-- ---- What each of them says

pub software_few : (software : Option (List ℕ)) → IfSome software (λ name. length name ≤ 763) → AreFew (software_attributes software)
software_few None short = record { added = tt; ordinary = refl; no_nonce = refl; known = refl; few = lit≤ tt }
software_few (Some name) short = record {
  added = (record { written = refl; type_fits = lit< tt; value_fits = omega (arith, short); plain = refl }, tt);
  ordinary = refl;
  no_nonce = refl;
  known = refl;
  few = omega (arith, short, one_size SOFTWARE name [] (lit< tt) (omega (arith, short)));
}

pub software_size : (software : Option (List ℕ)) → IfSome software (λ name. length name ≤ 763) → length (encodings (software_attributes software)) ≤ 768
software_size None short = lit≤ tt
software_size (Some name) short = omega (arith, short, one_size SOFTWARE name [] (lit< tt) (omega (arith, short)))

lasting_few : (lifetime : ℕ) (software : Option (List ℕ)) → IfSome software (λ name. length name ≤ 763) → AreFew (lifetime_attribute lifetime ∷ software_attributes software)
lasting_few lifetime software short =
    let s = software_few software short in
    record {
      added = (record { written = refl; type_fits = lit< tt; value_fits = lit< tt; plain = refl }, s.added);
      ordinary = s.ordinary;
      no_nonce = s.no_nonce;
      known = s.known;
      few = omega (arith, software_size software short, one_size LIFETIME (be32 lifetime) (software_attributes software) (lit< tt) (lit< tt));
    }

abbrev opening : (id : ℕ) → (relayed client : Endpoint) → (lifetime : ℕ) → (software : Option (List ℕ)) → List Attribute
opening id relayed client lifetime software =
    address_attribute XOR_RELAYED_ADDRESS id relayed ∷ lifetime_attribute lifetime ∷ address_attribute XOR_MAPPED_ADDRESS id client ∷ software_attributes software

opening_few : (id : ℕ) (relayed client : Endpoint) (lifetime : ℕ) (software : Option (List ℕ)) → IsTransport relayed → IsTransport client → IfSome software (λ name. length name ≤ 763) → AreFew (opening id relayed client lifetime software)
opening_few id relayed client lifetime software is its short =
    let s = software_few software short in
    let mapped = address_attribute XOR_MAPPED_ADDRESS id client ∷ software_attributes software in
    let lasts = lifetime_attribute lifetime ∷ mapped in
    let one = transport_size id relayed is in
    let two = transport_size id client its in
    record {
      added = (
        transport_added XOR_RELAYED_ADDRESS id relayed is (lit< tt) refl,
        (record { written = refl; type_fits = lit< tt; value_fits = lit< tt; plain = refl }, (transport_added XOR_MAPPED_ADDRESS id client its (lit< tt) refl, s.added)),
      );
      ordinary = s.ordinary;
      no_nonce = s.no_nonce;
      known = s.known;
      few = omega (
        arith,
        one,
        two,
        software_size software short,
        one_size XOR_RELAYED_ADDRESS (xored_value id (socket_of relayed)) lasts (lit< tt) (omega (arith, one)),
        one_size LIFETIME (be32 lifetime) mapped (lit< tt) (lit< tt),
        one_size XOR_MAPPED_ADDRESS (xored_value id (socket_of client)) (software_attributes software) (lit< tt) (omega (arith, two)),
      );
    }

-- the ending types hold none of a success
clear : (a : IntegrityAlgorithm) (print : Bool) → (has LIFETIME (ending_types a print) ≡ false) × ((has XOR_RELAYED_ADDRESS (ending_types a print) ≡ false) × (has XOR_MAPPED_ADDRESS (ending_types a print) ≡ false))
clear Sha1 true = (refl, (refl, refl))
clear Sha1 false = (refl, (refl, refl))
clear Sha256 true = (refl, (refl, refl))
clear Sha256 false = (refl, (refl, refl))

seconds_read : (lifetime : ℕ) → lifetime < 2 ^ 32 → read_seconds (be32 lifetime) ≡ Some lifetime
seconds_read lifetime small = ap (λ (n : ℕ). Some n) (back lifetime small)
  where
    back : (n : ℕ) → n < 2 ^ 32 → number (be32 n) ≡ n
    back n h = omega arith

opened_is : AreOfEndpoints → (kind id : ℕ) (relayed client : Endpoint) (lifetime : ℕ) (software : Option (List ℕ)) (a : IntegrityAlgorithm) (print : Bool) (d : List ℕ) → IsTransport relayed → IsTransport client → lifetime < 2 ^ 32
    → IsRead kind id (opening id relayed client lifetime software) (ending_types a print) d → success Allocate d ≡ Opened relayed client lifetime
opened_is sockets kind id relayed client lifetime software a print d is its small r =
    let xs = opening id relayed client lifetime software in
    let ends = ending_types a print in
    let c = clear a print in
    let one : value_of d XOR_RELAYED_ADDRESS ≡ Some (xored_value id (socket_of relayed)) = value_is XOR_RELAYED_ADDRESS kind id xs ends d r c.1.0 in
    let two : value_of d LIFETIME ≡ Some (be32 lifetime) = value_is LIFETIME kind id xs ends d r c.0 in
    let three : value_of d XOR_MAPPED_ADDRESS ≡ Some (xored_value id (socket_of client)) = value_is XOR_MAPPED_ADDRESS kind id xs ends d r c.1.1 in
    (λ i. option_map_or (λ (x : Heard). x) (option_and_then (λ (relayed : Endpoint). option_and_then (λ (mapped : Endpoint). option_map (λ (seconds : ℕ). Opened relayed mapped seconds) (option_and_then read_seconds (two i)))
    (option_and_then (read_xored (r.id_is i)) (three i))) (option_and_then (read_xored (r.id_is i)) (one i))) (Refused 0))
    ∙ (λ i. option_map_or (λ (x : Heard). x) (option_and_then (λ (relayed : Endpoint). option_and_then (λ (mapped : Endpoint). option_map (λ (seconds : ℕ). Opened relayed mapped seconds) (seconds_read lifetime small i))
    (transport_read sockets id client its i)) (transport_read sockets id relayed is i)) (Refused 0))

extended_is : (kind id lifetime : ℕ) (software : Option (List ℕ)) (a : IntegrityAlgorithm) (print : Bool) (d : List ℕ) → lifetime < 2 ^ 32
    → IsRead kind id (lifetime_attribute lifetime ∷ software_attributes software) (ending_types a print) d → success Refresh d ≡ Extended lifetime
extended_is kind id lifetime software a print d small r =
    let one : value_of d LIFETIME ≡ Some (be32 lifetime) = value_is LIFETIME kind id (lifetime_attribute lifetime ∷ software_attributes software) (ending_types a print) d r (clear a print).0 in
    ap (λ (o : Option (List ℕ)). option_map_or (λ (x : Heard). x) (option_map (λ (seconds : ℕ). Extended seconds) (option_and_then read_seconds o)) (Refused 0)) one
    ∙ ap (λ (o : Option ℕ). option_map_or (λ (x : Heard). x) (option_map (λ (seconds : ℕ). Extended seconds) o) (Refused 0)) (seconds_read lifetime small)

relayed_one : (id : ℕ) (one : Given) → (one.family ≡ 1) ⊎ (one.family ≡ 2) → relayed_attributes id (one ∷ []) ≡ address_attribute XOR_RELAYED_ADDRESS id one.address ∷ []
relayed_one id one (inl e) = rw e refl
relayed_one id one (inr e) = rw e refl

-- ---- It is judged

-- a fit success response to a request, and what it says
pub record IsSaid (r : Asked) (heard : Heard) (d : List ℕ) : Type 0 where
  pub fits : IsFit r d
  pub says_so : success r.request.kind d ≡ heard

pub success_said : AreOfEndpoints → IsFirst → IsMissing → (r : Asked) (login : Credentials) (software : Option (List ℕ)) (client : Endpoint) (q : List ℕ) (answer : Answer) (key : List ℕ) (a : IntegrityAlgorithm)
    → IsOf r q → r.login ≡ Some login → WorksAs key a login.key → IsTransport client → IfSome software (λ name. length name ≤ 763) → IsSuccess r.request.kind answer
    → IsSaid r (says client answer) (answer_text software client q answer None key a)
success_said sockets first missing r login software client q answer key a of has_login works its short is = by r.request.kind refl answer is
  where
    id : ℕ
    id = id_field q

    print : Bool
    print = is_fingerprinted q

    kind : ℕ
    kind = success_type r

    small : id < 2 ^ 96
    small = subst (λ (n : ℕ). n < 2 ^ 96) (sym of.id_is) (omega arith)

    text : List Attribute → List ℕ
    text xs = signed_reply print kind id xs a key

    -- as the server writes it
    written : List Attribute → List ℕ
    written xs = signed_reply print (type_of SuccessClass (method_of (type_field q))) id xs a key

    same : (xs : List Attribute) → written xs ≡ text xs
    same xs = ap (λ (m : ℕ). signed_reply print (type_of SuccessClass m) id xs a key) of.method_is

    shows : (xs : List Attribute) → AreFew xs → IsRead kind id xs (ending_types a print) (text xs)
    shows xs f = read_signed print kind id xs a key (method_is r.request.kind).small small f

    judged : (k : Kind) (xs : List Attribute) (h : Heard) → r.request.kind ≡ k → AreFew xs → success k (text xs) ≡ h → IsSaid r h (written xs)
    judged k xs h e f it = subst (IsSaid r h) (sym (same xs)) (record {
      fits = fit first missing print id xs a key r login of.id_is small f has_login works;
      says_so = ap (λ (j : Kind). success j (text xs)) e ∙ it;
    })

    lasting : (k : Kind) (lifetime : ℕ) → r.request.kind ≡ k → lifetime < 2 ^ 32 → success k (text (lifetime_attribute lifetime ∷ software_attributes software)) ≡ success Refresh (text (lifetime_attribute lifetime ∷ software_attributes software))
        → IsSaid r (Extended lifetime) (written (lifetime_attribute lifetime ∷ software_attributes software))
    lasting k lifetime e fits it =
        let xs = lifetime_attribute lifetime ∷ software_attributes software in
        let f = lasting_few lifetime software short in
        judged k xs (Extended lifetime) e f (it ∙ extended_is kind id lifetime software a print (text xs) fits (shows xs f))

    by : (k : Kind) → r.request.kind ≡ k → (answer : Answer) → IsSuccess k answer → IsSaid r (says client answer) (answer_text software client q answer None key a)
    by Allocate e (allocated given lifetime missing) is =
        let relayed = is.one.address in
        let xs = opening id relayed client lifetime software in
        let f = opening_few id relayed client lifetime software is.address its short in
        subst (IsSaid r (says client (allocated given lifetime missing))) (sym ((λ i. answer_text software client q (allocated (is.given_is i) lifetime (is.none_missing i)) None key a)
        ∙ ap (λ (ys : List Attribute). written ((ys ++ (lifetime_attribute lifetime ∷ address_attribute XOR_MAPPED_ADDRESS id client ∷ [])) ++ software_attributes software)) (relayed_one id is.one is.of_family)))
        (subst (λ (g : List Given). IsSaid r (says client (allocated g lifetime missing)) (written xs)) (sym is.given_is)
        (judged Allocate xs (Opened relayed client lifetime) e f (opened_is sockets kind id relayed client lifetime software a print (text xs) is.address its is.seconds (shows xs f))))
    by Allocate e (refreshed lifetime) is = absurd is
    by Allocate e done is = absurd is
    by Allocate e (refused code) is = absurd is
    by Refresh e (allocated given lifetime missing) is = absurd is
    by Refresh e (refreshed lifetime) is = lasting Refresh lifetime e is refl
    by Refresh e done is = absurd is
    by Refresh e (refused code) is = absurd is
    by Delete e (allocated given lifetime missing) is = absurd is
    by Delete e (refreshed lifetime) is = lasting Delete lifetime e is refl
    by Delete e done is = absurd is
    by Delete e (refused code) is = absurd is
    by (Permit peer) e (allocated given lifetime missing) is = absurd is
    by (Permit peer) e (refreshed lifetime) is = absurd is
    by (Permit peer) e done is = judged (Permit peer) (software_attributes software) Done e (software_few software short) refl
    by (Permit peer) e (refused code) is = absurd is
    by (Bind channel peer) e (allocated given lifetime missing) is = absurd is
    by (Bind channel peer) e (refreshed lifetime) is = absurd is
    by (Bind channel peer) e done is = judged (Bind channel peer) (software_attributes software) Done e (software_few software short) refl
    by (Bind channel peer) e (refused code) is = absurd is

pub success_heard : AreOfEndpoints → IsFirst → IsMissing → AreHeard → (dealing : Dealing) (r : Asked) (login : Credentials) (software : Option (List ℕ)) (client : Endpoint) (q : List ℕ) (answer : Answer) (key : List ℕ) (a : IntegrityAlgorithm)
    → IsOf r q → r.login ≡ Some login → WorksAs key a login.key → IsTransport client → IfSome software (λ name. length name ≤ 763) → IsSuccess r.request.kind answer
    → judge dealing (Some r) (answer_text software client q answer None key a) ≡ response (id_of r.request) true (says client answer)
success_heard sockets first missing heard dealing r login software client q answer key a of has_login works its short is =
    let said = success_said sockets first missing r login software client q answer key a of has_login works its short is in
    heard dealing r (answer_text software client q answer None key a) said.fits ∙ ap (response (id_of r.request) true) said.says_so
