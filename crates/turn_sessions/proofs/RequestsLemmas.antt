-- A request is judged as it was written.
use Rattle.std.proofs.Common.{◌≡◌, ℕ, ◌^◌, ◌<◌, ◌≤◌, Bool, true, false, eqb, List, [], ◌∷◌, ◌++◌, length, map, Option, None, Some, refl, sym, ap, subst, ◌∙◌, lit<, arith}
use Rattle.std.specs.Prelude.{◌||◌, ◌==◌, is_some, not, IfSome, if◌then◌else◌}
use Rattle.std.specs.List.{AllByRecursion, list_all, list_any}
use Rattle.std.specs.Option.{option_to_list}
use Rattle.std.proofs.lemmas.Bool.{and_parts, ne_eqb, or_from}
use Rattle.std.proofs.lemmas.List.Folds.{list_any-append}
use Rattle.stun_grammar.specs.declared.attribute_type.AttributeType.{AttributeType}
use Rattle.stun_grammar.specs.declared.integrity_algorithm.IntegrityAlgorithm.{IntegrityAlgorithm}
use Rattle.stun_grammar.specs.declared.integrity_algorithm.IntegrityAlgorithm.TheVariants.{Sha1, Sha256}
use Rattle.stun_grammar.specs.Attributes.{Attribute, types}
use Rattle.stun_grammar.specs.Chains.{Shown}
use Rattle.stun_grammar.specs.Headers.{type_field}
use Rattle.stun_grammar.specs.Names.{BINDING}
use Rattle.stun_grammar.specs.ScannedOrder.{has}
use Rattle.stun_grammar.specs.Steps.{finger}
use Rattle.stun_grammar.specs.Verdicts.{type_of_algorithm}
use Rattle.stun_grammar.specs.Writing.{IsWritable, message_encoding}
use Rattle.stun_base.specs.declared.message_class.MessageClass.{MessageClass}
use Rattle.stun_base.specs.declared.message_class.MessageClass.TheVariants.{Request as RequestClass}
use Rattle.stun_base.specs.declared.transport.AddressFamily.{AddressFamily}
use Rattle.stun_base.specs.MessageTypes.{class_of, method_of}
use Rattle.stun_values.specs.declared.algorithm.PasswordAlgorithmValue.{PasswordAlgorithmValue}
use Rattle.stun_authentication.specs.declared.policy.Policy.{Policy}
use Rattle.stun_authentication.specs.declared.answer.Refusal.TheVariants.{BadRequest, Unauthenticated}
use Rattle.stun_authentication.specs.Answers.{Decision, Row, accept, decided, discard, not_a_request, refuse}
use Rattle.stun_authentication.specs.Asking.{Asked as Challenged}
use Rattle.stun_authentication.specs.Challenges.{Retry, retry_with, signing_algorithm}
use Rattle.stun_authentication.specs.Identities.{Who, named, hashed}
use Rattle.stun_authentication.specs.LongTerm.{by_key, chooses_none_listed, chosen, has_two_names, is_request, key_of_user, lacks_credentials, long_term, nonce_of, shows_one_alone, shows_other_list}
use Rattle.stun_authentication.specs.Lookups.{Known, UserKey}
use Rattle.stun_authentication.specs.Policies.{is_signed, is_taken, shows_integrity, shows_served}
use Rattle.stun_authentication.specs.Writing.{finished}
use Rattle.stun_authentication.proofs.TypesLemmas.{free}
use Rattle.stun_authentication.specs.Requests.{User, answering_attributes, asked_identity, credentials, retried_attributes, retried_request, user_key}
use Rattle.stun_types.specs.Replies.{unknown_types}
use Rattle.stun_exchanges.specs.Offers.{IsOffered, IsShort, Takes}
use Rattle.stun_exchanges.specs.Premises.{HasRoom, IsOwn, IsPrinted, Serves, Works, is_reserved}
use Rattle.stun_exchanges.proofs.EndedLemmas.{IsFirst, IsMissing, no_print, nth_missing, print_taken}
use Rattle.stun_exchanges.proofs.LoginsWritableLemmas.{IsAdded, any-append, lacks_reserved, none_ends, room_down}
use Rattle.stun_exchanges.proofs.ShortTermLemmas.{finished_writable}
use Rattle.stun_exchanges.proofs.LongTermLemmas.{parts, retried_writable}
use Rattle.stun_endpoints.specs.declared.endpoints.Endpoint.{Endpoint}
use Rattle.turn_client_machine.specs.declared.requests.Kind.{Kind}
use Rattle.turn_client_machine.specs.declared.requests.Kind.TheVariants.{Allocate, Refresh, Delete, Permit, Bind}
use Rattle.turn_client_machine.specs.declared.requests.Request.{Request}
use Rattle.turn_client_messages.specs.Requests.{asked as asked_attributes, attributes_of, id_of, method_for, text_of, type_for}
use Rattle.turn_client_messages.specs.Views.{Asked, Content}
use Rattle.turn_attrs.specs.Turn.{XOR_PEER_ADDRESS}
use Rattle.turn_requests.specs.declared.request.RelayedPort.{RelayedPort}
use Rattle.turn_requests.specs.declared.request.RelayedPort.TheVariants.{Any, Even, Reserved}
use Rattle.turn_requests.specs.Requests.{Credentials, allocate_attributes, ended, family_attribute, family_beside, lifetime_attribute, named_peer, port_attributes, relay_attributes, software_attributes, transport_attribute, whole_attributes}
use Rattle.turn_server.specs.Accounts.{account_of}
use Rattle.turn_server.specs.Comprehended.{comprehended}
use Rattle.turn_server.specs.Judging.{Site, asked, binding, by_class, decided_as, dropped, judge, refused, unknown}
use Rattle.turn_server.specs.Requests.{asks_table, request_of}
use Rattle.turn_server.specs.Wanted.{Wanted, other}
use Rattle.turn_sessions.specs.Answers.{IsOf}
use Rattle.turn_sessions.specs.Requests.{wanted_as, wanted_by}
use Rattle.turn_sessions.specs.Sides.{Admits, Fits, IsInFields, IsKnown, IsLogin, IsNamed, IsTransport}
use Rattle.turn_sessions.proofs.AddressesLemmas.{AreOfEndpoints, transport_added}
use Rattle.turn_sessions.proofs.AskingLemmas.{allocate_read, bind_read, found_in, peers_in, permit_read, refresh_read}
use Rattle.turn_sessions.proofs.JudgingLemmas.{judge_is}
use Rattle.turn_sessions.proofs.ShownLemmas.{IsEnded, IsRead, ended_after, ended_open, ended_signed, ending_types, is_other, none_unknown, print_types, read_message, writable}

-- what the law of logins says
abbrev pub Accepts : Type 0
Accepts = (policy : Policy) (nonces : List ℕ → Known) (keys : Who → List ℕ → PasswordAlgorithmValue → Option UserKey) (asked : Challenged) (algorithms supported : List PasswordAlgorithmValue)
    (algorithm : PasswordAlgorithmValue) (user : User) (key : UserKey) (fingerprint : Bool) (kind id : ℕ) (before : List Attribute)
    → (let retry = retry_with asked algorithm in
    IsOffered nonces asked algorithms → Takes supported asked algorithm → IsShort asked user.name → class_of kind ≡ RequestClass → IsOwn kind id before
    → HasRoom kind id (retried_attributes fingerprint retry user kind id before) → keys (asked_identity asked user.name) asked.realm algorithm ≡ Some key
    → Works (user_key retry user) (signing_algorithm retry) key → Serves policy (signing_algorithm retry) fingerprint
    → long_term policy asked.realm nonces keys (retried_request fingerprint retry user kind id before) ≡ accept (asked_identity asked user.name) key (signing_algorithm retry) (signing_algorithm retry))

-- ---- What follows the client's attributes

unreserved : (c : ℕ) (ts : List ℕ) → list_all is_reserved ts ≡ true → is_reserved c ≡ false → has c ts ≡ false
unreserved c [] all plain = refl
unreserved c (t ∷ ts) all plain =
    let both = and_parts (is_reserved t) (list_all is_reserved ts) all in
    or_from (eqb t c) (has c ts) (ne_eqb t c (λ e. absurd (cc (both.0, plain, ap is_reserved e)))) (unreserved c ts both.1 plain)

parts_reserved : (who : Who) (realm nonce : List ℕ) (list : Option (List ℕ)) (a : PasswordAlgorithmValue) → list_all is_reserved (types (parts who realm nonce list a)) ≡ true
parts_reserved (named name) realm nonce None a = refl
parts_reserved (named name) realm nonce (Some list) a = refl
parts_reserved (hashed hash) realm nonce None a = refl
parts_reserved (hashed hash) realm nonce (Some list) a = refl

ends_reserved : (a : IntegrityAlgorithm) (fingerprint : Bool) → list_all is_reserved (ending_types a fingerprint) ≡ true
ends_reserved Sha1 true = refl
ends_reserved Sha1 false = refl
ends_reserved Sha256 true = refl
ends_reserved Sha256 false = refl

parts_known : (sets_df : Bool) (who : Who) (realm nonce : List ℕ) (list : Option (List ℕ)) (a : PasswordAlgorithmValue) → list_any (is_other (comprehended sets_df)) (types (parts who realm nonce list a)) ≡ false
parts_known true (named name) realm nonce None a = refl
parts_known true (named name) realm nonce (Some list) a = refl
parts_known true (hashed hash) realm nonce None a = refl
parts_known true (hashed hash) realm nonce (Some list) a = refl
parts_known false (named name) realm nonce None a = refl
parts_known false (named name) realm nonce (Some list) a = refl
parts_known false (hashed hash) realm nonce None a = refl
parts_known false (hashed hash) realm nonce (Some list) a = refl

ends_known : (sets_df : Bool) (a : IntegrityAlgorithm) (fingerprint : Bool) → list_any (is_other (comprehended sets_df)) (ending_types a fingerprint) ≡ false
ends_known true Sha1 true = refl
ends_known true Sha1 false = refl
ends_known true Sha256 true = refl
ends_known true Sha256 false = refl
ends_known false Sha1 true = refl
ends_known false Sha1 false = refl
ends_known false Sha256 true = refl
ends_known false Sha256 false = refl

any_both : (p : ℕ → Bool) (xs ys : List ℕ) → list_any p xs ≡ false → list_any p ys ≡ false → list_any p (xs ++ ys) ≡ false
any_both p xs ys one two = list_any-append p xs ys ∙ or_from (list_any p xs) (list_any p ys) one two

-- ---- The client's attributes

allocate_own : (lifetime : Option ℕ) (family : Option AddressFamily) (port : RelayedPort) (whole : Bool) → list_any is_reserved (types (allocate_attributes lifetime family port whole)) ≡ false
allocate_own None None Any true = refl
allocate_own None None Any false = refl
allocate_own None None (Even reserves) true = refl
allocate_own None None (Even reserves) false = refl
allocate_own None None (Reserved token) true = refl
allocate_own None None (Reserved token) false = refl
allocate_own None (Some f) Any true = refl
allocate_own None (Some f) Any false = refl
allocate_own None (Some f) (Even reserves) true = refl
allocate_own None (Some f) (Even reserves) false = refl
allocate_own None (Some f) (Reserved token) true = refl
allocate_own None (Some f) (Reserved token) false = refl
allocate_own (Some n) None Any true = refl
allocate_own (Some n) None Any false = refl
allocate_own (Some n) None (Even reserves) true = refl
allocate_own (Some n) None (Even reserves) false = refl
allocate_own (Some n) None (Reserved token) true = refl
allocate_own (Some n) None (Reserved token) false = refl
allocate_own (Some n) (Some f) Any true = refl
allocate_own (Some n) (Some f) Any false = refl
allocate_own (Some n) (Some f) (Even reserves) true = refl
allocate_own (Some n) (Some f) (Even reserves) false = refl
allocate_own (Some n) (Some f) (Reserved token) true = refl
allocate_own (Some n) (Some f) (Reserved token) false = refl

unset : (true ≡ true → false ≡ true) → ⊥
unset is = cc (is refl)

-- DONT-FRAGMENT is known to a server that sets the DF bit
allocate_known : (sets_df : Bool) (lifetime : Option ℕ) (family : Option AddressFamily) (port : RelayedPort) (whole : Bool) → (whole ≡ true → sets_df ≡ true)
    → list_any (is_other (comprehended sets_df)) (types (allocate_attributes lifetime family port whole)) ≡ false
allocate_known true None None Any true is = refl
allocate_known false None None Any true is = absurd (unset is)
allocate_known true None None Any false is = refl
allocate_known false None None Any false is = refl
allocate_known true None None (Even reserves) true is = refl
allocate_known false None None (Even reserves) true is = absurd (unset is)
allocate_known true None None (Even reserves) false is = refl
allocate_known false None None (Even reserves) false is = refl
allocate_known true None None (Reserved token) true is = refl
allocate_known false None None (Reserved token) true is = absurd (unset is)
allocate_known true None None (Reserved token) false is = refl
allocate_known false None None (Reserved token) false is = refl
allocate_known true None (Some f) Any true is = refl
allocate_known false None (Some f) Any true is = absurd (unset is)
allocate_known true None (Some f) Any false is = refl
allocate_known false None (Some f) Any false is = refl
allocate_known true None (Some f) (Even reserves) true is = refl
allocate_known false None (Some f) (Even reserves) true is = absurd (unset is)
allocate_known true None (Some f) (Even reserves) false is = refl
allocate_known false None (Some f) (Even reserves) false is = refl
allocate_known true None (Some f) (Reserved token) true is = refl
allocate_known false None (Some f) (Reserved token) true is = absurd (unset is)
allocate_known true None (Some f) (Reserved token) false is = refl
allocate_known false None (Some f) (Reserved token) false is = refl
allocate_known true (Some n) None Any true is = refl
allocate_known false (Some n) None Any true is = absurd (unset is)
allocate_known true (Some n) None Any false is = refl
allocate_known false (Some n) None Any false is = refl
allocate_known true (Some n) None (Even reserves) true is = refl
allocate_known false (Some n) None (Even reserves) true is = absurd (unset is)
allocate_known true (Some n) None (Even reserves) false is = refl
allocate_known false (Some n) None (Even reserves) false is = refl
allocate_known true (Some n) None (Reserved token) true is = refl
allocate_known false (Some n) None (Reserved token) true is = absurd (unset is)
allocate_known true (Some n) None (Reserved token) false is = refl
allocate_known false (Some n) None (Reserved token) false is = refl
allocate_known true (Some n) (Some f) Any true is = refl
allocate_known false (Some n) (Some f) Any true is = absurd (unset is)
allocate_known true (Some n) (Some f) Any false is = refl
allocate_known false (Some n) (Some f) Any false is = refl
allocate_known true (Some n) (Some f) (Even reserves) true is = refl
allocate_known false (Some n) (Some f) (Even reserves) true is = absurd (unset is)
allocate_known true (Some n) (Some f) (Even reserves) false is = refl
allocate_known false (Some n) (Some f) (Even reserves) false is = refl
allocate_known true (Some n) (Some f) (Reserved token) true is = refl
allocate_known false (Some n) (Some f) (Reserved token) true is = absurd (unset is)
allocate_known true (Some n) (Some f) (Reserved token) false is = refl
allocate_known false (Some n) (Some f) (Reserved token) false is = refl

all_added : (xs ys : List Attribute) → AllByRecursion IsAdded xs → AllByRecursion IsAdded ys → AllByRecursion IsAdded (xs ++ ys)
all_added [] ys one two = two
all_added (x ∷ xs) ys one two = (one.0, all_added xs ys one.1 two)

seconds_added : (lifetime : Option ℕ) → AllByRecursion IsAdded (map lifetime_attribute (option_to_list lifetime))
seconds_added None = tt
seconds_added (Some n) = (record { written = refl; type_fits = lit< tt; value_fits = lit< tt; plain = refl }, tt)

family_added : (family : Option AddressFamily) → AllByRecursion IsAdded (map family_attribute (option_to_list family))
family_added None = tt
family_added (Some f) = (record { written = refl; type_fits = lit< tt; value_fits = lit< tt; plain = refl }, tt)

port_added : (port : RelayedPort) → AllByRecursion IsAdded (port_attributes port)
port_added Any = tt
port_added (Even reserves) = (record { written = refl; type_fits = lit< tt; value_fits = lit< tt; plain = refl }, tt)
port_added (Reserved token) = (record { written = refl; type_fits = lit< tt; value_fits = lit< tt; plain = refl }, tt)

whole_added : (whole : Bool) → AllByRecursion IsAdded (whole_attributes whole)
whole_added false = tt
whole_added true = (record { written = refl; type_fits = lit< tt; value_fits = lit< tt; plain = refl }, tt)

allocate_added : (lifetime : Option ℕ) (family : Option AddressFamily) (port : RelayedPort) (whole : Bool) → AllByRecursion IsAdded (allocate_attributes lifetime family port whole)
allocate_added lifetime family port whole =
    all_added (map lifetime_attribute (option_to_list lifetime)) (transport_attribute ∷ relay_attributes family port whole) (seconds_added lifetime) (
      record { written = refl; type_fits = lit< tt; value_fits = lit< tt; plain = refl },
      all_added (map family_attribute (option_to_list (family_beside port family))) (port_attributes port ++ whole_attributes whole) (family_added (family_beside port family))
          (all_added (port_attributes port) (whole_attributes whole) (port_added port) (whole_added whole)),
    )

refresh_own : (lifetime : Option ℕ) → list_any is_reserved (types (map lifetime_attribute (option_to_list lifetime))) ≡ false
refresh_own None = refl
refresh_own (Some n) = refl

refresh_known : (sets_df : Bool) (lifetime : Option ℕ) → list_any (is_other (comprehended sets_df)) (types (map lifetime_attribute (option_to_list lifetime))) ≡ false
refresh_known true None = refl
refresh_known true (Some n) = refl
refresh_known false None = refl
refresh_known false (Some n) = refl

refresh_added : (lifetime : Option ℕ) → AllByRecursion IsAdded (map lifetime_attribute (option_to_list lifetime))
refresh_added None = tt
refresh_added (Some n) = (record { written = refl; type_fits = lit< tt; value_fits = lit< tt; plain = refl }, tt)

-- peers alone
peers_own : (id : ℕ) (peers : List Endpoint) → list_any is_reserved (types (map (named_peer id) peers)) ≡ false
peers_own id [] = refl
peers_own id (peer ∷ peers) = peers_own id peers

peers_known : (sets_df : Bool) (id : ℕ) (peers : List Endpoint) → list_any (is_other (comprehended sets_df)) (types (map (named_peer id) peers)) ≡ false
peers_known sets_df id [] = refl
peers_known true id (peer ∷ peers) = peers_known true id peers
peers_known false id (peer ∷ peers) = peers_known false id peers

peers_added : (id : ℕ) (peers : List Endpoint) → AllByRecursion IsTransport peers → AllByRecursion IsAdded (map (named_peer id) peers)
peers_added id [] all = tt
peers_added id (peer ∷ peers) all = (transport_added XOR_PEER_ADDRESS id peer all.0 (lit< tt) refl, peers_added id peers all.1)

asked_own : (content : Content) (id : ℕ) (others : List Endpoint) (k : Kind) → list_any is_reserved (types (asked_attributes content id others k)) ≡ false
asked_own content id others Allocate = allocate_own content.lifetime content.family content.port content.dont_fragment
asked_own content id others Refresh = refresh_own content.lifetime
asked_own content id others Delete = refl
asked_own content id others (Permit peer) = peers_own id (peer ∷ others)
asked_own content id others (Bind channel peer) = refl

asked_known : (sets_df : Bool) (content : Content) (id : ℕ) (others : List Endpoint) (k : Kind) → IsKnown sets_df content → list_any (is_other (comprehended sets_df)) (types (asked_attributes content id others k)) ≡ false
asked_known sets_df content id others Allocate is = allocate_known sets_df content.lifetime content.family content.port content.dont_fragment is
asked_known sets_df content id others Refresh is = refresh_known sets_df content.lifetime
asked_known true content id others Delete is = refl
asked_known true content id others (Permit peer) is = peers_known true id (peer ∷ others)
asked_known true content id others (Bind channel peer) is = refl
asked_known false content id others Delete is = refl
asked_known false content id others (Permit peer) is = peers_known false id (peer ∷ others)
asked_known false content id others (Bind channel peer) is = refl

asked_added : (content : Content) (id : ℕ) (others : List Endpoint) (k : Kind) → IsNamed others k → AllByRecursion IsAdded (asked_attributes content id others k)
asked_added content id others Allocate is = allocate_added content.lifetime content.family content.port content.dont_fragment
asked_added content id others Refresh is = refresh_added content.lifetime
asked_added content id others Delete is = refresh_added (Some 0)
asked_added content id others (Permit peer) is = peers_added id (peer ∷ others) is
asked_added content id others (Bind channel peer) is =
    (record { written = refl; type_fits = lit< tt; value_fits = lit< tt; plain = refl }, (transport_added XOR_PEER_ADDRESS id peer is.1 (lit< tt) refl, tt))

software_own : (software : Option (List ℕ)) → list_any is_reserved (types (software_attributes software)) ≡ false
software_own None = refl
software_own (Some name) = refl

software_known : (sets_df : Bool) (software : Option (List ℕ)) → list_any (is_other (comprehended sets_df)) (types (software_attributes software)) ≡ false
software_known true None = refl
software_known true (Some name) = refl
software_known false None = refl
software_known false (Some name) = refl

software_added : (software : Option (List ℕ)) (ys : List Attribute) → IfSome software (λ name. length name ≤ 763) → AllByRecursion IsAdded ys → AllByRecursion IsAdded (software_attributes software ++ ys)
software_added None ys few all = all
software_added (Some name) ys few all = (record { written = refl; type_fits = lit< tt; value_fits = omega (arith, few); plain = refl }, all)

-- ---- What they ask for

record HasMethod (k : Kind) : Type 0 where
  small : type_for k < 2 ^ 14
  class_is : class_of (type_for k) ≡ RequestClass
  no_binding : (method_of (type_for k) == BINDING) ≡ false
  asks : asks_table (method_of (type_for k)) ≡ true
  method_is : method_of (type_for k) ≡ method_for k

method_is : (k : Kind) → HasMethod k
method_is Allocate = record { small = lit< tt; class_is = refl; no_binding = refl; asks = refl; method_is = refl }
method_is Refresh = record { small = lit< tt; class_is = refl; no_binding = refl; asks = refl; method_is = refl }
method_is Delete = record { small = lit< tt; class_is = refl; no_binding = refl; asks = refl; method_is = refl }
method_is (Permit peer) = record { small = lit< tt; class_is = refl; no_binding = refl; asks = refl; method_is = refl }
method_is (Bind channel peer) = record { small = lit< tt; class_is = refl; no_binding = refl; asks = refl; method_is = refl }

wanted_is : AreOfEndpoints → (site : Site) (content : Content) (id : ℕ) (others : List Endpoint) (k : Kind) (ends d : List ℕ) → IsInFields content → IsNamed others k
    → IsRead (type_for k) id (software_attributes content.software ++ asked_attributes content id others k) ends d → ((type : ℕ) → is_reserved type ≡ false → has type ends ≡ false)
    → request_of site.client site.sockets (method_of (type_for k)) d ≡ wanted_as site content id others k
wanted_is sockets site content id others Allocate ends d fields is r plain =
    allocate_read site.client site.sockets id content d (found_in content.software (type_for Allocate) id _ ends d r plain) r.id_is fields.lifetime fields.token
wanted_is sockets site content id others Refresh ends d fields is r plain =
    ap (λ (q : _). other q) (refresh_read content.lifetime d (found_in content.software (type_for Refresh) id _ ends d r plain) fields.lifetime)
wanted_is sockets site content id others Delete ends d fields is r plain =
    ap (λ (q : _). other q) (refresh_read (Some 0) d (found_in content.software (type_for Delete) id _ ends d r plain) (lit< tt))
wanted_is sockets site content id others (Permit peer) ends d fields is r plain =
    ap (λ (q : _). other q) (permit_read sockets id peer others d is (peers_in content.software (type_for (Permit peer)) id _ ends d r plain) r.id_is)
wanted_is sockets site content id others (Bind channel peer) ends d fields is r plain =
    ap (λ (q : _). other q) (bind_read sockets id channel peer d (omega (arith, is.0.most)) is.1 (found_in content.software (type_for (Bind channel peer)) id _ ends d r plain) r.id_is)

-- ---- What it shows

own_is : (content : Content) (others : List Endpoint) (request : Request) → IsInFields content → IsNamed others request.kind → HasRoom (type_for request.kind) (id_of request) (attributes_of content others request)
    → IsOwn (type_for request.kind) (id_of request) (attributes_of content others request)
own_is content others request fields is room =
    let own_ones = asked_attributes content (id_of request) others request.kind in
    record {
      writable = writable (type_for request.kind) (id_of request) (attributes_of content others request) (method_is request.kind).small (omega arith)
          (software_added content.software own_ones fields.software (asked_added content (id_of request) others request.kind is)) room;
      own = any-append is_reserved (software_attributes content.software) own_ones (software_own content.software) (asked_own content (id_of request) others request.kind);
    }

before_known : (sets_df : Bool) (content : Content) (others : List Endpoint) (request : Request) → IsKnown sets_df content → list_any (is_other (comprehended sets_df)) (types (attributes_of content others request)) ≡ false
before_known sets_df content others request is =
    any-append (is_other (comprehended sets_df)) (software_attributes content.software) (asked_attributes content (id_of request) others request.kind) (software_known sets_df content.software) (asked_known sets_df content (id_of request) others request.kind is)

abbrev signed_ends : Retry → (name : List ℕ) → (fingerprint : Bool) → List ℕ
signed_ends retry name fingerprint = types (credentials retry name) ++ ending_types (signing_algorithm retry) fingerprint

abbrev signed_text : Content → (others : List Endpoint) → Retry → User → Request → List ℕ
signed_text content others retry user request = retried_request content.fingerprint retry user (type_for request.kind) (id_of request) (attributes_of content others request)

-- a request that answers a challenge
record IsSigned (content : Content) (others : List Endpoint) (retry : Retry) (user : User) (request : Request) : Type 0 where
  own : IsOwn (type_for request.kind) (id_of request) (attributes_of content others request)
  shows : IsRead (type_for request.kind) (id_of request) (attributes_of content others request) (signed_ends retry user.name content.fingerprint) (signed_text content others retry user request)

signed_is : (content : Content) (others : List Endpoint) (retry : Retry) (user : User) (request : Request) → IsShort retry.asked user.name → IsInFields content → IsNamed others request.kind → Fits (signed_text content others retry user request) → IsSigned content others retry user request
signed_is content others retry user request short fields is room =
    let kind = type_for request.kind in
    let id = id_of request in
    let before = attributes_of content others request in
    let fingerprint = content.fingerprint in
    let a = signing_algorithm retry in
    let credits = credentials retry user.name in
    let all = retried_attributes fingerprint retry user kind id before in
    let e : IsEnded before all (signed_ends retry user.name fingerprint) = ended_after before credits all (ending_types a fingerprint) (ended_signed fingerprint kind id (before ++ credits) a (user_key retry user)) in
    let own = own_is content others request fields is (room_down kind id before e.more (subst (HasRoom kind id) e.whole room)) in
    record { own = own; shows = read_message kind id before all (signed_ends retry user.name fingerprint) e (retried_writable retry.asked retry.algorithm user fingerprint kind id before short own room) }

abbrev open_text : Content → (others : List Endpoint) → Request → List ℕ
open_text content others request = message_encoding (type_for request.kind) (id_of request) (finished content.fingerprint (type_for request.kind) (id_of request) (attributes_of content others request))

-- one without credentials
open_is : (content : Content) (others : List Endpoint) (request : Request) → IsInFields content → IsNamed others request.kind → Fits (open_text content others request)
    → IsWritable (type_for request.kind) (id_of request) (finished content.fingerprint (type_for request.kind) (id_of request) (attributes_of content others request))
open_is content others request fields is room =
    let kind = type_for request.kind in
    let id = id_of request in
    let before = attributes_of content others request in
    let e = ended_open content.fingerprint kind id before in
    let own = own_is content others request fields is (room_down kind id before e.more (subst (HasRoom kind id) e.whole room)) in
    finished_writable content.fingerprint kind id before own.writable (free finger (types before) (none_ends (types before) own.own)) room

-- ---- It is judged

-- the steps to a decision
decided_is : (last_channel : ℕ) (sets_df : Bool) (site : Site) (k : Kind) (id : ℕ) (xs : List Attribute) (ends d : List ℕ) (decision : Decision) → IsRead (type_for k) id xs ends d → long_term site.policy site.realm site.nonces site.keys d ≡ decision
    → judge last_channel sets_df site d ≡ decided_as sets_df site (method_of (type_for k)) d decision
decided_is last_channel sets_df site k id xs ends d decision r decides =
    let m = method_of (type_for k) in
    let has_method = method_is k in
    judge_is last_channel sets_df site d r.parses
    ∙ (λ i. if is_some (r.parses i) then dropped else by_class sets_df site (class_of (r.type_is i)) (method_of (r.type_is i)) d)
    ∙ ap (λ (c : MessageClass). by_class sets_df site c m d) has_method.class_is
    ∙ (λ i. if has_method.no_binding i then binding else (if has_method.asks i then decided_as sets_df site m d (decides i) else dropped))

request_read : AreOfEndpoints → Accepts → (last_channel : ℕ) (sets_df : Bool) (site : Site) (content : Content) (others : List Endpoint) (request : Request) (login : Credentials) (user : User) (key : UserKey)
    → Admits site login user key content.fingerprint → IsInFields content → IsKnown sets_df content → IsNamed others request.kind → Fits (signed_text content others login.retry user request)
    → judge last_channel sets_df site (signed_text content others login.retry user request)
    ≡ asked (account_of site.realm (asked_identity login.retry.asked user.name)) (wanted_by site content others request) key (signing_algorithm login.retry)
request_read sockets accepts last_channel sets_df site content others request login user key admits fields known is room =
    let k = request.kind in
    let kind = type_for k in
    let id = id_of request in
    let m = method_of kind in
    let fingerprint = content.fingerprint in
    let retry = login.retry in
    let a = signing_algorithm retry in
    let who = asked_identity retry.asked user.name in
    let before = attributes_of content others request in
    let credits = credentials retry user.name in
    let d = signed_text content others retry user request in
    let ends = signed_ends retry user.name fingerprint in
    let it = signed_is content others retry user request admits.short fields is room in
    let plain : (type : ℕ) → is_reserved type ≡ false → has type ends ≡ false =
    λ type clear. any_both (λ t. eqb t type) (types credits) (ending_types a fingerprint)
    (unreserved type (types credits) (parts_reserved who retry.asked.realm retry.asked.nonce retry.asked.list retry.algorithm) clear) (unreserved type (ending_types a fingerprint) (ends_reserved a fingerprint) clear) in
    let none : unknown_types (comprehended sets_df) d ≡ [] =
    none_unknown (comprehended sets_df) kind id before ends d it.shows (before_known sets_df content others request known)
    (any_both (is_other (comprehended sets_df)) (types credits) (ending_types a fingerprint) (parts_known sets_df who retry.asked.realm retry.asked.nonce retry.asked.list retry.algorithm) (ends_known sets_df a fingerprint)) in
    let accepted : long_term site.policy site.realm site.nonces site.keys d ≡ accept who key a a =
    ap (λ (realm : List ℕ). long_term site.policy realm site.nonces site.keys d) (sym admits.realm_is)
    ∙ accepts site.policy site.nonces site.keys retry.asked admits.algorithms admits.supported retry.algorithm user key fingerprint kind id before admits.offered admits.takes admits.short (method_is k).class_is it.own room admits.known admits.works admits.serves in
    decided_is last_channel sets_df site k id before ends d (accept who key a a) it.shows accepted
    ∙ ap (λ (ts : List AttributeType). if length ts == 0 then asked (account_of site.realm who) (request_of site.client site.sockets m d) key a else unknown key a) none
    ∙ ap (λ (w : Wanted). asked (account_of site.realm who) w key a) (wanted_is sockets site content id others k ends d fields is it.shows plain)

-- the text of a request with these credentials
text_is : (content : Content) (others : List Endpoint) (r : Asked) (login : Credentials) (user : User) → r.login ≡ Some login → IsLogin login user → text_of content others r ≡ signed_text content others login.retry user r.request
text_is content others r login user has_login is =
    let kind = type_for r.request.kind in
    let id = id_of r.request in
    let before = attributes_of content others r.request in
    (λ i. message_encoding kind id (ended (has_login i) content.fingerprint kind id before))
    ∙ (λ i. message_encoding kind id (answering_attributes content.fingerprint login.retry (is.name_is i) (is.key_is i) kind id before))

pub requests_read : AreOfEndpoints → Accepts → (last_channel : ℕ) (sets_df : Bool) (site : Site) (content : Content) (others : List Endpoint) (r : Asked) (login : Credentials) (user : User) (key : UserKey)
    → r.login ≡ Some login → IsLogin login user → Admits site login user key content.fingerprint → IsInFields content → IsKnown sets_df content → IsNamed others r.request.kind → Fits (text_of content others r)
    → judge last_channel sets_df site (text_of content others r)
    ≡ asked (account_of site.realm (asked_identity login.retry.asked user.name)) (wanted_by site content others r.request) key (signing_algorithm login.retry)
requests_read sockets accepts last_channel sets_df site content others r login user key has_login is admits fields known names room =
    let text = text_is content others r login user has_login is in
    ap (judge last_channel sets_df site) text
    ∙ request_read sockets accepts last_channel sets_df site content others r.request login user key admits fields known names (subst Fits text room)

-- ---- Which request it is

of_read : (content : Content) (others : List Endpoint) (r : Asked) (ends d : List ℕ) → IsRead (type_for r.request.kind) (id_of r.request) (attributes_of content others r.request) ends d → IsOf r d
of_read content others r ends d shows = record { method_is = ap method_of shows.type_is ∙ (method_is r.request.kind).method_is; id_is = shows.id_is }

pub signed_of : (content : Content) (others : List Endpoint) (r : Asked) (login : Credentials) (user : User) → r.login ≡ Some login → IsLogin login user → IsShort login.retry.asked user.name → IsInFields content → IsNamed others r.request.kind → Fits (text_of content others r) → IsOf r (text_of content others r)
signed_of content others r login user has_login is short fields names room =
    let text = text_is content others r login user has_login is in
    let it = signed_is content others login.retry user r.request short fields names (subst Fits text room) in
    subst (IsOf r) (sym text) (of_read content others r (signed_ends login.retry user.name content.fingerprint) (signed_text content others login.retry user r.request) it.shows)

-- ---- A request without credentials

open_text_is : (content : Content) (others : List Endpoint) (r : Asked) → r.login ≡ None → text_of content others r ≡ open_text content others r.request
open_text_is content others r no_login =
    λ i. message_encoding (type_for r.request.kind) (id_of r.request) (ended (no_login i) content.fingerprint (type_for r.request.kind) (id_of r.request) (attributes_of content others r.request))

open_read : (content : Content) (others : List Endpoint) (request : Request) → IsInFields content → IsNamed others request.kind → Fits (open_text content others request)
    → IsRead (type_for request.kind) (id_of request) (attributes_of content others request) (print_types content.fingerprint) (open_text content others request)
open_read content others request fields is room =
    let kind = type_for request.kind in
    let id = id_of request in
    let before = attributes_of content others request in
    read_message kind id before (finished content.fingerprint kind id before) (print_types content.fingerprint) (ended_open content.fingerprint kind id before) (open_is content others request fields is room)

pub open_of : (content : Content) (others : List Endpoint) (r : Asked) → r.login ≡ None → IsInFields content → IsNamed others r.request.kind → Fits (text_of content others r) → IsOf r (text_of content others r)
open_of content others r no_login fields names room =
    let text = open_text_is content others r no_login in
    subst (IsOf r) (sym text) (of_read content others r (print_types content.fingerprint) (open_text content others r.request) (open_read content others r.request fields names (subst Fits text room)))

-- no integrity attribute is there
unsigned_ends : (a : IntegrityAlgorithm) (fingerprint : Bool) → has (type_of_algorithm a) (print_types fingerprint) ≡ false
unsigned_ends Sha1 true = refl
unsigned_ends Sha1 false = refl
unsigned_ends Sha256 true = refl
unsigned_ends Sha256 false = refl

own_reserved : (a : IntegrityAlgorithm) → is_reserved (type_of_algorithm a) ≡ true
own_reserved Sha1 = refl
own_reserved Sha256 = refl

shows_none : IsMissing → (content : Content) (others : List Endpoint) (request : Request) (d : List ℕ) (a : IntegrityAlgorithm) → IsRead (type_for request.kind) (id_of request) (attributes_of content others request) (print_types content.fingerprint) d → shows_integrity a d ≡ false
shows_none missing content others request d a r =
    let before = attributes_of content others request in
    let none : has (type_of_algorithm a) (types before) ≡ false =
    lacks_reserved (type_of_algorithm a) (types before) (own_reserved a)
    (any-append is_reserved (software_attributes content.software) (asked_attributes content (id_of request) others request.kind) (software_own content.software) (asked_own content (id_of request) others request.kind)) in
    ap (λ (o : Option Shown). is_some o) (nth_missing missing d (type_of_algorithm a) (before ++ r.more) r.shows
    (any-append (λ t. eqb t (type_of_algorithm a)) before r.more none (ap (has (type_of_algorithm a)) r.ends_are ∙ unsigned_ends a content.fingerprint)))

none_served : IsMissing → (counts : Option IntegrityAlgorithm) (content : Content) (others : List Endpoint) (request : Request) (d : List ℕ) → IsRead (type_for request.kind) (id_of request) (attributes_of content others request) (print_types content.fingerprint) d → shows_served counts d ≡ false
none_served missing None content others request d r = (λ i. shows_none missing content others request d Sha1 r i || shows_none missing content others request d Sha256 r i)
none_served missing (Some a) content others request d r = shows_none missing content others request d a r

third : (a b c : Bool) (x y z : Decision) (rows : List Row) (otherwise : Decision) → a ≡ false → b ≡ false → c ≡ true → decided ((a, x) ∷ (b, y) ∷ (c, z) ∷ rows) otherwise ≡ z
third a b c x y z rows otherwise e f g = λ i. decided ((e i, x) ∷ (f i, y) ∷ (g i, z) ∷ rows) otherwise

pub open_refused : IsFirst → IsMissing → (last_channel : ℕ) (sets_df : Bool) (site : Site) (content : Content) (others : List Endpoint) (r : Asked) → r.login ≡ None → IsPrinted site.policy.fingerprint content.fingerprint → IsInFields content → IsNamed others r.request.kind
    → Fits (text_of content others r) → judge last_channel sets_df site (text_of content others r) ≡ refused Unauthenticated
open_refused first missing last_channel sets_df site content others r no_login printed fields names room =
    let request = r.request in
    let kind = type_for request.kind in
    let id = id_of request in
    let before = attributes_of content others request in
    let d = open_text content others request in
    let text = open_text_is content others r no_login in
    let fits : Fits d = subst Fits text room in
    let shows = open_read content others request fields names fits in
    let e = ended_open content.fingerprint kind id before in
    let own = own_is content others request fields names (room_down kind id before e.more (subst (HasRoom kind id) e.whole fits)) in
    let taken : is_taken site.policy d ≡ true = print_taken first site.policy.fingerprint content.fingerprint kind id before (open_is content others request fields names fits) (no_print (types before) (none_ends (types before) own.own)) printed in
    let class : class_of (type_field d) ≡ RequestClass = ap class_of shows.type_is ∙ (method_is request.kind).class_is in
    let state = nonce_of site.nonces d in
    let denied : long_term site.policy site.realm site.nonces site.keys d ≡ refuse Unauthenticated =
    third (not (is_taken site.policy d)) (not (is_request (class_of (type_field d)))) (not (is_signed site.policy d)) discard not_a_request (refuse Unauthenticated)
    ((lacks_credentials d, refuse BadRequest) ∷ (has_two_names d, refuse BadRequest) ∷ (shows_one_alone d, refuse BadRequest) ∷ (shows_other_list state d, refuse BadRequest) ∷ (chooses_none_listed d, refuse BadRequest) ∷ [])
    (by_key site.policy state (chosen d) (key_of_user site.realm site.keys d) d)
    (ap not taken) (ap (λ (c : MessageClass). not (is_request c)) class) (ap not (none_served missing site.policy.algorithm content others request d shows)) in
    ap (judge last_channel sets_df site) text
    ∙ decided_is last_channel sets_df site request.kind id before (print_types content.fingerprint) d (refuse Unauthenticated) shows denied
