-- A fit request is granted, and the client hears so.
use Rattle.std.proofs.Common.{◌≡◌, ◌+◌, ◌≤◌, ◌<◌, ◌^◌, ℕ, Bool, true, false, List, [], ◌∷◌, ◌++◌, length, Option, None, Some, inl, inr, refl, sym, ap, subst, ◌∙◌, arith, lit<, ltb-true}
use Rattle.std.specs.Prelude.{◌⊎◌, ◌==◌, max, min, nat_lt, is_some, option_and_then, if◌then◌else◌}
use Rattle.std.specs.Option.{option_map}
use Rattle.std.proofs.Math.Nat.{mod-eq_of_lt}
use Rattle.stun_base.specs.declared.message_class.MessageClass.{MessageClass}
use Rattle.stun_base.specs.MessageTypes.{class_of}
use Rattle.stun_grammar.specs.declared.error.StunParseError.{StunParseError}
use Rattle.stun_grammar.specs.Headers.{type_field}
use Rattle.stun_grammar.proofs.ParsingLemmas.{parsed_header}
use Rattle.std.proofs.lemmas.Bool.{cond_both, cond-false, cases_Bool}
use Rattle.stun_authentication.specs.Challenges.{signing_algorithm}
use Rattle.stun_authentication.specs.Lookups.{UserKey}
use Rattle.stun_grammar.specs.declared.integrity_algorithm.IntegrityAlgorithm.{IntegrityAlgorithm}
use Rattle.stun_endpoints.specs.declared.endpoints.Endpoint.{Endpoint}
use Rattle.stun_exchanges.proofs.EndedLemmas.{IsFirst, IsMissing}
use Rattle.turn_allocations.specs.Requests.{has_numbers, wants_in, wants_of as wants_there}
use Rattle.turn_allocations.specs.declared.families.Families.{Families}
use Rattle.turn_allocations.specs.declared.request.Want.{Want as WantIs}
use Rattle.turn_allocations.specs.declared.request.Want.TheVariants.{No, Ready, Unready}
use Rattle.turn_client_machine.specs.declared.requests.Answer.{Answer as Heard}
use Rattle.turn_client_machine.specs.declared.requests.Answer.TheVariants.{Done, Extended, Opened}
use Rattle.turn_client_machine.specs.declared.requests.Kind.{Kind}
use Rattle.turn_client_machine.specs.declared.requests.Kind.TheVariants.{Allocate, Bind, Permit, Refresh}
use Rattle.turn_client_machine.specs.declared.requests.Request.{Request}
use Rattle.turn_client_machine.specs.Events.{responds as responds_to}
use Rattle.turn_client_machine.specs.Warrants.{IsPartOf}
use Rattle.turn_machine.specs.Lists.{SomeOf}
use Rattle.turn_client_messages.specs.Judging.{event_of as event_heard, id_by_class, judge as hears, response, response_id}
use Rattle.turn_client_messages.specs.Requests.{id_of, method_for}
use Rattle.turn_client_messages.specs.Views.{Asked}
use Rattle.turn_client_state.specs.States.{request_with}
use Rattle.turn_client.specs.Clients.{Client}
use Rattle.turn_client.specs.Receiving.{asked_by, awaited, dealing, event_at, free_number}
use Rattle.turn_machine.specs.Events.{Answer, Offer, Request as RequestThere, Want, allocate, allocated, answers, asks, bind, done, permit, permit_request, refresh, refreshed, refused, unfit, unfit_allocate}
use Rattle.turn_machine.specs.Granting.{CanBind, CanPermit, IsFit, IsOwn, given_of}
use Rattle.turn_machine.specs.Opening.{opened}
use Rattle.turn_machine.specs.Relays.{seconds}
use Rattle.turn_machine.specs.Steps.{Step, step}
use Rattle.turn_machine.specs.Times.{granted_for, refreshed_for}
use Rattle.turn_machine.proofs.GrantedLemmas.{bind_granted, permit_granted, refresh_granted}
use Rattle.turn_machine.proofs.GrantingLemmas.{one_granted}
use Rattle.turn_peers.specs.Tunnels.{is_tunnelled}
use Rattle.turn_server.specs.Acting.{act, acted, answer_act, opened_in, responds, used_by}
use Rattle.turn_server.specs.Judging.{asked, judge}
use Rattle.turn_server.specs.Wanted.{Wanted, opening, other}
use Rattle.turn_sessions.specs.Answers.{IsSuccess, says}
use Rattle.turn_sessions.specs.Hearing.{Host, IsAnswered, IsMet, Sent, account_at, response_text, state_there, text_sent}
use Rattle.turn_sessions.specs.Requests.{even_in, is_plain, token_in, wanted_as, wanted_of, wants_of}
use Rattle.turn_requests.specs.declared.request.RelayedPort.{RelayedPort}
use Rattle.turn_requests.specs.declared.request.RelayedPort.TheVariants.{Any, Even, Reserved}
use Rattle.turn_requests.specs.Requests.{family_beside}
use Rattle.turn_attrs.specs.Turn.{family_byte}
use Rattle.stun_base.specs.declared.transport.AddressFamily.{AddressFamily}
use Rattle.turn_server.specs.Allocating.{wanted_for, wants_for}
use Rattle.turn_server.specs.declared.sockets.Sockets.{Sockets}
use Rattle.turn_sessions.specs.Sides.{IsTransport}
use Rattle.turn_sessions.proofs.AddressesLemmas.{AreOfEndpoints}
use Rattle.turn_sessions.proofs.AnswersLemmas.{AreHeard, IsSaid, success_said}
use Rattle.turn_sessions.proofs.CrossingLemmas.{heard_at}
use Rattle.turn_sessions.proofs.RequestsLemmas.{Accepts, requests_read, signed_of}

-- the laws of both sides
pub record Laws : Type 0 where
  pub sockets : AreOfEndpoints
  pub first : IsFirst
  pub missing : IsMissing
  pub accepted : Accepts
  pub heard : AreHeard

-- ---- What the server does

abbrev algorithm_of : Sent → IntegrityAlgorithm
algorithm_of sent = signing_algorithm sent.login.retry

judged_as : Laws → (sent : Sent) (host : Host) (key : UserKey) → IsMet sent host key → (kind : Kind) → sent.asked.request.kind ≡ kind
    → judge host.setup.last_channel host.setup.supports_dont_fragment host.site (text_sent sent) ≡ asked (account_at host sent) (wanted_as host.site sent.content (id_of sent.asked.request) sent.others kind) key (algorithm_of sent)
judged_as laws sent host key met kind is =
    requests_read laws.sockets laws.accepted host.setup.last_channel host.setup.supports_dont_fragment host.site sent.content sent.others sent.asked sent.login sent.user key met.has_login met.login met.admitted met.in_fields met.known met.named met.fits
    ∙ ap (λ (k : Kind). asked (account_at host sent) (wanted_as host.site sent.content (id_of sent.asked.request) sent.others k) key (algorithm_of sent)) is

-- a request without a token, by its output
asked_acts : (sent : Sent) (host : Host) (key : UserKey) (wanted : Wanted) (request : RequestThere) (answer : Answer)
    → judge host.setup.last_channel host.setup.supports_dont_fragment host.site (text_sent sent) ≡ asked (account_at host sent) wanted key (algorithm_of sent)
    → acted host.setup host.rules host.tuple host.numbers host.held host.now (asked (account_at host sent) wanted key (algorithm_of sent))
    ≡ answer_act host.held.state.next None key (algorithm_of sent) None (step host.setup host.rules host.held.state host.now (asks host.tuple (account_at host sent) request)).output
    → (step host.setup host.rules host.held.state host.now (asks host.tuple (account_at host sent) request)).output ≡ answers host.tuple answer
    → act host.site host.setup host.rules host.tuple host.numbers host.held host.now (text_sent sent) ≡ responds answer None (used_by None None (opened_in host.held.state.next answer)) key (algorithm_of sent)
asked_acts sent host key wanted request answer judged does output =
    ap (acted host.setup host.rules host.tuple host.numbers host.held host.now) judged
    ∙ does
    ∙ ap (answer_act host.held.state.next None key (algorithm_of sent) None) output

-- ---- What the client hears

-- a request for a peer that another one names is answered as that is
record IsAlike (first r : Request) : Type 0 where
  ids : id_of r ≡ id_of first
  methods : method_for r.kind ≡ method_for first.kind
  successes : (answer : Answer) → IsSuccess first.kind answer → IsSuccess r.kind answer

permitted_alike : (peer next : Endpoint) (answer : Answer) → IsSuccess (Permit peer) answer → IsSuccess (Permit next) answer
permitted_alike peer next (allocated given lifetime missing) is = absurd is
permitted_alike peer next (refreshed lifetime) is = absurd is
permitted_alike peer next done is = tt
permitted_alike peer next (refused code) is = absurd is

along_alike : (first r : Request) (peer : Endpoint) → first.kind ≡ Permit peer → (others : List Endpoint) → SomeOf (λ (next : Endpoint). r ≡ record first { kind = Permit next }) others → IsAlike first r
along_alike first r peer kind [] named = absurd named
along_alike first r peer kind (next ∷ others) named = elim named [
  | inl e ↦ record {
    ids = ap id_of e;
    methods = ap (λ (x : Request). method_for x.kind) e ∙ sym (ap method_for kind);
    successes = λ answer is. subst (λ (x : Request). IsSuccess x.kind answer) (sym e) (permitted_alike peer next answer (subst (λ (k : Kind). IsSuccess k answer) kind is));
  }
  | inr more ↦ along_alike first r peer kind others more
]

part_alike : (first r : Request) (others : List Endpoint) → IsPartOf first others r → IsAlike first r
part_alike first r others (inl e) = record {
  ids = ap id_of e;
  methods = ap (λ (x : Request). method_for x.kind) e;
  successes = λ answer is. subst (λ (x : Request). IsSuccess x.kind answer) (sym e) is;
}
part_alike first r others (inr along) = along_alike first r along.peer along.kind others along.named

-- from a fit response
heard_from : AreHeard → (client : Client) (r : Request) (id : ℕ) (d : List ℕ) (answer : Heard) → request_with id client.held.state ≡ Some r → id_of r ≡ id → IsSaid (asked_by client r) answer d
    → let server = client.held.settings.server in event_at client server d ≡ responds_to server id true answer
heard_from heard client r id d answer waits same said =
    let server = client.held.settings.server in
    let shown : response_id d ≡ Some id =
    ap (λ (o : Option StunParseError). if is_some o then None else id_by_class (class_of (type_field d)) d) (parsed_header d said.fits.parses)
    ∙ ap (λ (c : MessageClass). id_by_class c d) said.fits.succeeds
    ∙ ap (λ (n : ℕ). Some n) (said.fits.id_is ∙ same) in
    let awaited_is : awaited client d ≡ Some (asked_by client r) =
    ap (λ (o : Option ℕ). option_map (asked_by client) (option_and_then (λ n. request_with n client.held.state) o)) shown
    ∙ ap (option_map (asked_by client)) waits in
    let judged : hears (dealing client) (awaited client d) d ≡ response id true answer =
    ap (λ (o : Option Asked). hears (dealing client) o d) awaited_is
    ∙ heard (dealing client) (asked_by client r) d said.fits
    ∙ (λ i. response (same i) true (said.says_so i)) in
    heard_at client server d refl ∙ ap (event_heard server (free_number client.kept)) judged

heard_as : Laws → (sent : Sent) (host : Host) (key : UserKey) → IsMet sent host key → (kind : Kind) → sent.asked.request.kind ≡ kind → (wanted : Wanted) (request : RequestThere) (answer : Answer)
    → wanted_as host.site sent.content (id_of sent.asked.request) sent.others kind ≡ wanted
    → acted host.setup host.rules host.tuple host.numbers host.held host.now (asked (account_at host sent) wanted key (algorithm_of sent))
    ≡ answer_act host.held.state.next None key (algorithm_of sent) None (step host.setup host.rules host.held.state host.now (asks host.tuple (account_at host sent) request)).output
    → (step host.setup host.rules host.held.state host.now (asks host.tuple (account_at host sent) request)).output ≡ answers host.tuple answer
    → IsSuccess kind answer → IsAnswered sent host key (says host.tuple.client answer)
heard_as laws sent host key met kind is wanted request answer wants does output success =
    let of = signed_of sent.content sent.others sent.asked sent.login sent.user met.has_login met.login met.admitted.short met.in_fields met.named met.fits in record {
      answer = answer;
      used = used_by None None (opened_in host.held.state.next answer);
      acts = asked_acts sent host key wanted request answer
          (judged_as laws sent host key met kind is ∙ ap (λ (w : Wanted). asked (account_at host sent) w key (algorithm_of sent)) wants) does output;
      hears = λ client awaits.
          let alike = part_alike sent.asked.request awaits.request sent.others awaits.part in
          heard_from laws.heard client awaits.request sent.asked.request.id (response_text sent host key answer) (says host.tuple.client answer) awaits.waits (alike.ids ∙ mod-eq_of_lt met.id)
          (success_said laws.sockets laws.first laws.missing (asked_by client awaits.request) sent.login host.software host.tuple.client (text_sent sent) answer key.bytes (algorithm_of sent)
          (record { method_is = of.method_is ∙ sym alike.methods; id_is = of.id_is ∙ sym alike.ids }) awaits.login met.works met.client met.software
          (alike.successes answer (subst (λ (k : Kind). IsSuccess k answer) (sym is) success)));
    }

-- ---- Lifetimes have 32 bits

granted_small : (wanted : Option ℕ) (greatest : ℕ) → greatest < 2 ^ 32 → granted_for wanted greatest < 2 ^ 32
granted_small None greatest small = lit< tt
granted_small (Some n) greatest small = omega (arith, small)

refreshed_small : (wanted : Option ℕ) (greatest : ℕ) → greatest < 2 ^ 32 → refreshed_for wanted greatest < 2 ^ 32
refreshed_small None greatest small = lit< tt
refreshed_small (Some n) greatest small =
    cond_both {A = ℕ} (n == 0) 0 (max 600 (min n greatest)) (λ (x : ℕ). x < 2 ^ 32) (λ _. lit< tt) (λ _. omega (arith, small))

-- ---- By the kind

pub refresh_heard : Laws → (sent : Sent) (host : Host) (key : UserKey) → IsMet sent host key → sent.asked.request.kind ≡ Refresh → IsOwn host.tuple (account_at host sent) (state_there host)
    → IsAnswered sent host key (Extended (refreshed_for sent.content.lifetime host.setup.greatest_lifetime))
refresh_heard laws sent host key met is own =
    let request = refresh None sent.content.lifetime in
    heard_as laws sent host key met Refresh is (other request) request (refreshed (refreshed_for sent.content.lifetime host.setup.greatest_lifetime)) refl refl
    (refresh_granted host.setup host.rules (state_there host) host.tuple (account_at host sent) None sent.content.lifetime own tt).output
    (refreshed_small sent.content.lifetime host.setup.greatest_lifetime met.lifetimes)

few_peers : (peers : List Endpoint) → length peers ≤ 64 → permit_request peers ≡ permit peers
few_peers peers few = cond-false (nat_lt 64 (length peers)) (unfit 508) (permit peers) (elim (cases_Bool (nat_lt 64 (length peers))) [
  | inl many ↦ let more = ltb-true 64 (length peers) many in absurd (omega (arith, more, few))
  | inr fits ↦ fits
])

pub permit_heard : Laws → (sent : Sent) (host : Host) (key : UserKey) (peer : Endpoint) → IsMet sent host key → sent.asked.request.kind ≡ Permit peer → length (peer ∷ sent.others) ≤ 64
    → CanPermit host.setup host.rules host.tuple (account_at host sent) (peer ∷ sent.others) (state_there host) → IsAnswered sent host key Done
permit_heard laws sent host key peer met is few can =
    let request = permit (peer ∷ sent.others) in
    heard_as laws sent host key met (Permit peer) is (other request) request done (ap other (few_peers (peer ∷ sent.others) few)) refl
    (permit_granted host.setup host.rules (state_there host) host.tuple (account_at host sent) (peer ∷ sent.others) can).output
    tt

pub bind_heard : Laws → (sent : Sent) (host : Host) (key : UserKey) (number : ℕ) (peer : Endpoint) → IsMet sent host key → sent.asked.request.kind ≡ Bind number peer
    → CanBind host.setup host.rules host.tuple (account_at host sent) number peer (state_there host) → IsAnswered sent host key Done
bind_heard laws sent host key number peer met is can =
    let request = bind number peer in
    heard_as laws sent host key met (Bind number peer) is (other request) request done refl refl
    (bind_granted host.setup host.rules (state_there host) host.tuple (account_at host sent) number peer can).output
    tt

-- what is asked for is of IPv4 or of IPv6
family_in : (family number : ℕ) (spare : Bool) (w : WantIs) (ws : List Want) (want : Want) → wants_in spare family number w ++ ws ≡ want ∷ [] → (want.family ≡ family) ⊎ (ws ≡ want ∷ [])
family_in family number spare No ws want is = inr is
family_in family number spare Unready ws want is = inl (sym (head_family is))
  where
    head_family : {x y : Want} {xs ys : List Want} → x ∷ xs ≡ y ∷ ys → x.family ≡ y.family
    head_family e = cc
family_in family number spare (Ready address) ws want is = inl (sym (head_family is))
  where
    head_family : {x y : Want} {xs ys : List Want} → x ∷ xs ≡ y ∷ ys → x.family ≡ y.family
    head_family e = cc

no_more : (xs : List Want) → xs ++ [] ≡ xs
no_more [] = refl
no_more (x ∷ xs) = ap (λ (ys : List Want). x ∷ ys) (no_more xs)

want_family : (spare : Bool) (numbers : Families ℕ) (wants : Families WantIs) (want : Want) → wants_there spare numbers wants ≡ want ∷ [] → (want.family ≡ 1) ⊎ (want.family ≡ 2)
want_family spare numbers wants want is = elim (family_in 1 numbers.ipv4 spare wants.ipv4 (wants_in spare 2 numbers.ipv6 wants.ipv6) want is) [
  | inl one ↦ inl one
  | inr more ↦ elim (family_in 2 numbers.ipv6 spare wants.ipv6 [] want (no_more (wants_in spare 2 numbers.ipv6 wants.ipv6) ∙ more)) [
    | inl two ↦ inr two
    | inr none ↦ absurd cc
  ]
]

-- a request that reserves nothing asks for sockets that are ready
plainly : (sockets : Sockets) (id : ℕ) (lifetime : Option ℕ) (family : Option AddressFamily) (port : RelayedPort) → is_plain port ≡ true
    → wanted_for sockets id (record { lifetime = lifetime; family = option_map family_byte (family_beside port family); even = even_in port; token = token_in port; additional = None })
    ≡ opening id lifetime (wants_for sockets (record { lifetime = lifetime; family = option_map family_byte (family_beside port family); even = even_in port; token = token_in port; additional = None }))
plainly sockets id lifetime family Any plain = refl
plainly sockets id lifetime family (Even true) plain = absurd cc
plainly sockets id lifetime family (Even false) plain = refl
plainly sockets id lifetime family (Reserved token) plain = absurd cc

pub open_heard : Laws → (sent : Sent) (host : Host) (key : UserKey) (want : Want) (offer : Offer) → IsMet sent host key → sent.asked.request.kind ≡ Allocate → is_tunnelled host.site.client ≡ false → is_plain sent.content.port ≡ true
    → wants_there (has_numbers (state_there host)) host.numbers (wants_of host.site.sockets sent.content) ≡ want ∷ [] → IsFit host.setup host.tuple (account_at host sent) want offer (state_there host) → IsTransport offer.address
    → IsAnswered sent host key (Opened offer.address host.tuple.client (granted_for sent.content.lifetime host.setup.greatest_lifetime))
open_heard laws sent host key want offer met is direct plain one fit its =
    let id = id_of sent.asked.request in
    let wants = wants_of host.site.sockets sent.content in
    let s = state_there host in
    let lifetime = granted_for sent.content.lifetime host.setup.greatest_lifetime in
    let account = account_at host sent in
    let relay = opened host.tuple account id (s.clock + seconds lifetime) want.family s offer in
    let answer = allocated (given_of relay ∷ []) lifetime [] in
    let wanted = opening id sent.content.lifetime wants in
    heard_as laws sent host key met Allocate is wanted (allocate id sent.content.lifetime (want ∷ [])) answer
    (cond-false (is_tunnelled host.site.client) (other (unfit_allocate 403)) (wanted_of host.site.sockets id sent.content) direct ∙ plainly host.site.sockets id sent.content.lifetime sent.content.family sent.content.port plain)
    (ap (λ (ws : List Want). answer_act host.held.state.next None key (algorithm_of sent) None (step host.setup host.rules host.held.state host.now (asks host.tuple account (allocate id sent.content.lifetime ws))).output) one)
    (ap (λ (x : Step). x.output) (one_granted host.setup host.rules s host.tuple account id sent.content.lifetime want offer fit))
    (record {
      one = given_of relay;
      given_is = refl;
      of_family = want_family (has_numbers s) host.numbers wants want one;
      address = its;
      seconds = granted_small sent.content.lifetime host.setup.greatest_lifetime met.lifetimes;
      none_missing = refl;
    })
