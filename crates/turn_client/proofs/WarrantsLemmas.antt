-- What the machine's warrants are in datagrams.
use Rattle.std.proofs.Common.{◌≡◌, ◌∙◌, ℕ, true, inl, inr, List, [], ◌∷◌, Option, None, Some, refl, sym, ap, subst, find}
use Rattle.std.specs.List.{AllByRecursion}
use Rattle.std.specs.Option.{option_map, option_map_or}
use Rattle.std.proofs.lemmas.Bool.{true≢false}
use Rattle.stun_grammar.specs.Numbers.{IsBytes}
use Rattle.stun_authentication.specs.Requests.{User, user_key}
use Rattle.stun_keys.specs.Keys.{IsKey}
use Rattle.turn_machine.specs.Lists.{SomeOf}
use Rattle.turn_client_machine.specs.declared.requests.Answer.{Answer}
use Rattle.turn_client_machine.specs.declared.requests.Answer.TheVariants.{Opened, Extended, Done, Refused, Challenged, Redirected, Violated}
use Rattle.stun_endpoints.specs.declared.endpoints.Ip.{Ip}
use Rattle.stun_endpoints.specs.declared.endpoints.Endpoint.{Endpoint}
use Rattle.turn_client_machine.specs.declared.requests.Kind.{Kind}
use Rattle.turn_client_machine.specs.declared.requests.Request.{Request}
use Rattle.stun_endpoints.specs.Endpoints.{is_endpoint}
use Rattle.turn_client_machine.specs.declared.requests.Kind.TheVariants.{Allocate, Refresh, Delete, Permit, Bind}
use Rattle.turn_client_machine.specs.Clients.{Setup}
use Rattle.turn_client_machine.specs.Events.{Event, permits, binds, sends, responds, polls, Output, asks, send_to, send_on, shows, nothing}
use Rattle.turn_client_machine.specs.Identified.{AreDistinct as AreDistinctThere, AreOneRequest, IsUnderWay}
use Rattle.turn_client_machine.specs.Joined.{is_success}
use Rattle.turn_client_machine.specs.Runs.{Timed, Happened, Happening, happening, history, run}
use Rattle.turn_client_machine.specs.Steps.{at}
use Rattle.turn_client_machine.specs.Warrants.{Asks, AsksFor, Binds, Confirmed, IsAskedFor as IsAskedThere, IsBound as IsBoundThere, IsPartOf, IsPermitted as IsPermittedThere, IsRight, Lasts, NamesPeer as NamesThere, Permits, lifetime_of}
use Rattle.turn_client_messages.specs.Judging.{success}
use Rattle.turn_client_messages.specs.Origins.{IsSigned}
use Rattle.turn_client_messages.specs.Requests.{method_for}
use Rattle.turn_client_state.specs.States.{Held, output_at, setup_of}
use Rattle.turn_client_state.specs.declared.settings.Settings.{Settings}
use Rattle.turn_requests.specs.Requests.{Credentials}
use Rattle.turn_client.specs.Clients.{Client, Kept, credentials_by, has_number, kept_with, login_for}
use Rattle.turn_client.specs.Receiving.{event_at}
use Rattle.turn_client.specs.Runs.{Call, calls, takes, Moment, after_all, event_in, timed_at, timed_all}
use Rattle.turn_client.specs.Histories.{Came, is_of_network, IsCall, IsHistory, past}
use Rattle.turn_client.specs.Warrants.{Granted, Grants, IsAskedFor, IsBound, IsPermitted, IsSent, IsShown, IsSignedFor, NamesPeer, Writes}
use Rattle.turn_client.proofs.RunsLemmas.{held_run}
use Rattle.turn_client.proofs.HistoriesLemmas.{IsOfUser, came, distinct_timed, found_has, happened_is, history_before, kept_of_user, settings_stay, user_call, user_stays}
use Rattle.turn_client.proofs.RespondingLemmas.{JudgedAlone, JudgedSo, Responding, RespondingBy, responding, shown_id}

-- ---- The laws of the machine

abbrev pub AllRight : Type 0
AllRight = (setup : Setup) (earlier : List Timed) (timed : Timed)
    → IsRight setup (history setup earlier) (happening setup (run setup earlier) timed).moment (happening setup (run setup earlier) timed).event (happening setup (run setup earlier) timed).output

abbrev pub WasSent : Type 0
WasSent = (setup : Setup) (events : List Timed) (r : Request) → IsUnderWay (run setup events) r → Happened (Asks r) (history setup events)

abbrev pub IsOne : Type 0
IsOne = (setup : Setup) (events : List Timed) (r other : Request) → AreDistinctThere events → Happened (Asks r) (history setup events) → Happened (Asks other) (history setup events) → r.id ≡ other.id → AreOneRequest r other

pub record Laws : Type 0 where
  pub so : JudgedSo
  pub alone : JudgedAlone
  pub right : AllRight
  pub sent : WasSent
  pub one : IsOne

-- ---- Keys

some_same : {X : Type 0} (x y : X) → Some x ≡ Some y → x ≡ y
some_same x y is = cc

mapped_has : {X Y : Type 0} (P : Y → Type 0) (f : X → Y) (y : Y) (o : Option X) → ((x : X) → o ≡ Some x → P (f x)) → option_map f o ≡ Some y → P y
mapped_has P f y None each is = absurd cc
mapped_has P f y (Some x) each is = subst P (some_same (f x) y is) (each x refl)

chosen_has : {X Y : Type 0} (P : Y → Type 0) (f : X → Option Y) (y : Y) (o : Option X) → ((x : X) → f x ≡ Some y → P y) → option_map_or f o None ≡ Some y → P y
chosen_has P f y None each is = absurd cc
chosen_has P f y (Some x) each is = each x is

abbrev HasKeyOf : User → Credentials → Type 0
HasKeyOf user it = IsKey None (user_key it.retry user) it.key

login_key : (client : Client) (it : Credentials) (o : Option ℕ) → AllByRecursion (IsOfUser client.user) client.kept → option_map_or (kept_with client) o None ≡ Some it → HasKeyOf client.user it
login_key client it o each is =
    chosen_has (HasKeyOf client.user) (kept_with client) it o
    (λ number some. mapped_has (HasKeyOf client.user) (credentials_by client.user) it (find (has_number number) client.kept)
    (λ k found. found_has (IsOfUser client.user) (has_number number) k client.kept each found) some) is

signed_for : (user : User) (login : Option Credentials) (d : List ℕ) → ((it : Credentials) → login ≡ Some it → HasKeyOf user it) → IsSigned login d → IsSignedFor user d
signed_for user None d f signed = absurd signed
signed_for user (Some it) d f signed = record { retry = it.retry; key = it.key; is_key = f it refl; algorithm = signed.0; authentic = signed.1 }

pub signed_by_user : (client : Client) (moments : List Moment) (r : Request) (d : List ℕ) → IsHistory client moments → IsSigned (login_for (after_all client moments) r) d → IsSignedFor client.user d
signed_by_user client moments r d h signed =
    let now = after_all client moments in
    let same = user_stays client moments in
    subst (λ (u : User). IsSignedFor u d) same
    (signed_for now.user (login_for now r) d
    (λ it is. login_key now it r.challenge (subst (λ (u : User). AllByRecursion (IsOfUser u) now.kept) (sym same) (kept_of_user client moments h)) is) signed)

-- ---- Requests

-- a request is an output at polls alone
asked_polls : (setup : Setup) (hs : List Happening) (now : ℕ) (event : Event) (r : Request) (o : Output) → AsksFor r o → IsRight setup hs now event o → event ≡ polls
asked_polls setup hs now event r (asks first others) asked right = right.0
asked_polls setup hs now event r (send_to peer bytes) asked right = absurd asked
asked_polls setup hs now event r (send_on number bytes) asked right = absurd asked
asked_polls setup hs now event r (shows peer bytes) asked right = absurd asked
asked_polls setup hs now event r nothing asked right = absurd asked

-- what is the same of all permissions is the same of all that one request asks for
module _ {X : Type 0} (f : Kind → X) (each : (p q : Endpoint) → f (Permit p) ≡ f (Permit q)) where
  along_same : (first r : Request) (peer : Endpoint) (others : List Endpoint) → first.kind ≡ Permit peer → SomeOf (λ other. r ≡ record first { kind = Permit other }) others → f r.kind ≡ f first.kind
  along_same first r peer [] is some = absurd some
  along_same first r peer (o ∷ os) is (inl e) = ap (λ (x : Request). f x.kind) e ∙ each o peer ∙ sym (ap f is)
  along_same first r peer (o ∷ os) is (inr more) = along_same first r peer os is more

  part_same : (first r : Request) (others : List Endpoint) → IsPartOf first others r → f r.kind ≡ f first.kind
  part_same first r others (inl e) = ap (λ (x : Request). f x.kind) e
  part_same first r others (inr a) = along_same first r a.peer others a.kind a.named

  one_same : (r other : Request) → AreOneRequest r other → f r.kind ≡ f other.kind
  one_same r other o = part_same o.first r o.others o.one ∙ sym (part_same o.first other o.others o.two)

module _ (laws : Laws) where
  writes : (client : Client) (r : Request) (earlier : List Moment) (m : Moment) → IsHistory client (m ∷ earlier)
      → Asks r (happening (setup_of client.held.settings) (run (setup_of client.held.settings) (timed_all client earlier)) (timed_at (after_all client earlier) m)) → Writes client r earlier m
  writes client r earlier m h a =
      let setup = setup_of client.held.settings in
      let timed = timed_at (after_all client earlier) m in
      let it = happening setup (run setup (timed_all client earlier)) timed in
      let poll = asked_polls setup (history setup (timed_all client earlier)) it.moment it.event r it.output a.asked (laws.right setup (timed_all client earlier) timed) in
      record {
        polled = user_call (after_all client earlier) m.call polls refl poll;
        sent = subst (Asks r) (happened_is client earlier m h.begun) a;
      }

  pub all_written : (client : Client) (moments : List Moment) (r : Request) → IsHistory client moments → Happened (Asks r) (history (setup_of client.held.settings) (timed_all client moments)) → Came (Writes client r) moments
  all_written client moments r h some = came (Asks r) (Writes client r) client moments h (writes client r) some

  names_it : (client : Client) (peer : Endpoint) (earlier : List Moment) (m : Moment) → IsHistory client (m ∷ earlier)
      → NamesThere peer (happening (setup_of client.held.settings) (run (setup_of client.held.settings) (timed_all client earlier)) (timed_at (after_all client earlier) m)) → NamesPeer peer earlier m
  names_it client peer earlier m h (inl is) = inl (user_call (after_all client earlier) m.call (permits peer) refl is)
  names_it client peer earlier m h (inr is) = inr (user_call (after_all client earlier) m.call (binds peer) refl is)

  pub all_named : (client : Client) (moments : List Moment) (peer : Endpoint) → IsHistory client moments → Happened (NamesThere peer) (history (setup_of client.held.settings) (timed_all client moments)) → Came (NamesPeer peer) moments
  all_named client moments peer h some = came (NamesThere peer) (NamesPeer peer) client moments h (names_it client peer) some

  -- ---- Success responses

  by_response : (client : Client) (P : Request → Answer → Type 0) (earlier : List Moment) (m : Moment) (from : Endpoint) (d : List ℕ) (brought : List Kept) (request : Request) (answer : Answer)
      → IsHistory client (m ∷ earlier) → m.call ≡ takes from d brought → is_success answer ≡ true → P request answer
      → Happened (Asks request) (history (setup_of client.held.settings) (timed_all client earlier)) → Responding (after_all client earlier) from d request.id true answer → Grants client P earlier m
  by_response client P earlier m from d brought request answer h call good holds sent r =
      let before = after_all client earlier in
      let setup = setup_of client.held.settings in
      let hist = history_before client m earlier h in
      let under_way : IsUnderWay (run setup (timed_all client earlier)) r.request = subst (λ (x : Held). IsUnderWay x.state r.request) (held_run client earlier h.begun) r.under_way in
      let one : AreOneRequest r.request request = laws.one setup (timed_all client earlier) r.request request (distinct_timed client earlier hist.distinct) (laws.sent setup (timed_all client earlier) r.request under_way) sent r.id_is in
      let granted = r.granted good in
      record {
        from = from;
        datagram = d;
        brought = brought;
        came = call;
        is_server = subst (λ (s : Settings). is_endpoint from s.server ≡ true) (settings_stay client earlier) r.is_server;
        request = request;
        written = all_written client earlier request hist sent;
        responds = record {
          parses = r.answers.parses;
          succeeds = granted.0;
          method_is = r.answers.method_is ∙ one_same method_for (λ p q. refl) r.request request one;
          id_is = shown_id request.id d r.answers.responds;
          signed = signed_by_user client earlier r.request d hist (r.trusted refl good);
        };
        granted = subst (P request) (granted.1 ∙ one_same (λ kind. success kind d) (λ p q. refl) r.request request one) holds;
      }

  by_call : (client : Client) (P : Request → Answer → Type 0) (earlier : List Moment) (m : Moment) (from : Endpoint) (request : Request) (answer : Answer) (call : Call)
      → IsHistory client (m ∷ earlier) → m.call ≡ call → IsCall (after_all client earlier) call → event_in (after_all client earlier) call ≡ responds from request.id true answer → is_success answer ≡ true → P request answer
      → Happened (Asks request) (history (setup_of client.held.settings) (timed_all client earlier)) → Grants client P earlier m
  by_call client P earlier m from request answer (calls event) h call is event_is good holds sent = absurd (true≢false (sym (ap is_of_network event_is) ∙ is))
  by_call client P earlier m from request answer (takes f d brought) h call is event_is good holds sent =
      by_response client P earlier m f d brought request answer h call good holds sent
      (subst (RespondingBy (after_all client earlier) f d) event_is (responding laws.so laws.alone (after_all client earlier) f d is.0))

  -- what an authentic success response granted, a datagram granted
  pub all_granted : (client : Client) (P : Request → Answer → Type 0) → ((r : Request) (a : Answer) → P r a → is_success a ≡ true) → (moments : List Moment) → IsHistory client moments
      → Confirmed client.held.settings.server P (history (setup_of client.held.settings) (timed_all client moments)) → Granted client P moments
  all_granted client P good [] h some = absurd some
  all_granted client P good (m ∷ earlier) h (inl c) = inl (by_call client P earlier m c.from c.request c.answer m.call h refl h.calls.0 c.responded (good c.request c.answer c.holds) c.holds c.sent)
  all_granted client P good (m ∷ earlier) h (inr some) = inr (all_granted client P good earlier (history_before client m earlier h) some)

  -- ---- Permissions and channels

  lasts_good : (kind : Kind) (answer : Answer) (lifetime : ℕ) → lifetime_of kind answer ≡ Some lifetime → is_success answer ≡ true
  lasts_good kind (Opened relayed mapped n) lifetime is = refl
  lasts_good kind (Extended n) lifetime is = refl
  lasts_good kind Done lifetime is = refl
  lasts_good Allocate (Refused code) lifetime is = absurd cc
  lasts_good Refresh (Refused code) lifetime is = absurd cc
  lasts_good Delete (Refused code) lifetime is = absurd cc
  lasts_good (Permit peer) (Refused code) lifetime is = absurd cc
  lasts_good (Bind number peer) (Refused code) lifetime is = absurd cc
  lasts_good Allocate (Challenged code n) lifetime is = absurd cc
  lasts_good Refresh (Challenged code n) lifetime is = absurd cc
  lasts_good Delete (Challenged code n) lifetime is = absurd cc
  lasts_good (Permit peer) (Challenged code n) lifetime is = absurd cc
  lasts_good (Bind number peer) (Challenged code n) lifetime is = absurd cc
  lasts_good Allocate (Redirected server) lifetime is = absurd cc
  lasts_good Refresh (Redirected server) lifetime is = absurd cc
  lasts_good Delete (Redirected server) lifetime is = absurd cc
  lasts_good (Permit peer) (Redirected server) lifetime is = absurd cc
  lasts_good (Bind number peer) (Redirected server) lifetime is = absurd cc
  lasts_good Allocate Violated lifetime is = absurd cc
  lasts_good Refresh Violated lifetime is = absurd cc
  lasts_good Delete Violated lifetime is = absurd cc
  lasts_good (Permit peer) Violated lifetime is = absurd cc
  lasts_good (Bind number peer) Violated lifetime is = absurd cc

  lasting : (client : Client) (clock : ℕ) (moments : List Moment) → IsHistory client moments → Confirmed client.held.settings.server (Lasts clock) (history (setup_of client.held.settings) (timed_all client moments)) → Granted client (Lasts clock) moments
  lasting client clock moments h some = all_granted client (Lasts clock) (λ r a l. lasts_good r.kind a l.lifetime l.granted) moments h some

  permitted : (client : Client) (ip : Ip) (clock : ℕ) (moments : List Moment) → IsHistory client moments → IsPermittedThere client.held.settings.server ip clock (history (setup_of client.held.settings) (timed_all client moments))
      → IsPermitted client ip clock moments
  permitted client ip clock moments h p = record {
    peer = p.peer;
    ip_is = p.ip_is;
    named = all_named client moments p.peer h p.named;
    permitted = all_granted client (Permits ip clock) (λ r a l. ap is_success l.success) moments h p.permitted;
  }

  bound : (client : Client) (number : ℕ) (peer : Endpoint) (clock : ℕ) (moments : List Moment) → IsHistory client moments → IsBoundThere client.held.settings.server number peer clock (history (setup_of client.held.settings) (timed_all client moments))
      → IsBound client number peer clock moments
  bound client number peer clock moments h b = record {
    named = all_named client moments peer h b.named;
    bound = all_granted client (Binds number peer clock) (λ r a l. ap is_success l.success) moments h b.bound;
  }

  asked_for : (client : Client) (number : ℕ) (peer : Endpoint) (moments : List Moment) → IsHistory client moments → IsAskedThere number peer (history (setup_of client.held.settings) (timed_all client moments)) → IsAskedFor client number peer moments
  asked_for client number peer moments h a = record {
    named = all_named client moments peer h a.named;
    request = a.request;
    kind = a.kind;
    written = all_written client moments a.request h a.sent;
  }

  -- ---- What is shown and sent

  right_at : (client : Client) (earlier : List Moment) (now fresh : ℕ) (event : Event) → IsHistory client earlier → let before = after_all client earlier in
      IsRight (setup_of client.held.settings) (history (setup_of client.held.settings) (timed_all client earlier)) (at now before.held.state).clock event (output_at now fresh event before.held)
  right_at client earlier now fresh event h =
      let setup = setup_of client.held.settings in
      subst (λ (x : Held). IsRight setup (history setup (timed_all client earlier)) (at now x.state).clock event (output_at now fresh event x))
      (sym (held_run client earlier h.begun))
      (laws.right setup (timed_all client earlier) (record { now = now; fresh = fresh; event = event }))

  pub all_shown : (client : Client) (earlier : List Moment) (now : ℕ) (from : Endpoint) (d : List ℕ) (peer : Endpoint) (bytes : List ℕ) → IsHistory client earlier → IsBytes d → let before = after_all client earlier in
      output_at now 0 (event_at before from d) before.held ≡ shows peer bytes → IsShown client earlier (at now before.held.state).clock from d peer bytes
  all_shown client earlier now from d peer bytes h is shown =
      let before = after_all client earlier in
      let setup = setup_of client.held.settings in
      let hs = history setup (timed_all client earlier) in
      let clock = (at now before.held.state).clock in
      let event = event_at before from d in
      let right = subst (IsRight setup hs clock event) shown (right_at client earlier now 0 event h) in
      let it = responding laws.so laws.alone before from d is in
      let same = settings_stay client earlier in
      elim right.2 [
        | inl given ↦ let data_is = subst (RespondingBy before from d) given.0 it in record {
          is_server = subst (λ (s : Settings). is_endpoint from s.server ≡ true) same data_is.0;
          by = inl (data_is.1, permitted client peer.ip clock earlier h given.1);
        }
        | inr on ↦ let data_is = subst (RespondingBy before from d) on.1 it in record {
          is_server = subst (λ (s : Settings). is_endpoint from s.server ≡ true) same data_is.0;
          by = inr (
            on.0,
            data_is.1,
            elim on.2 [
              | inl b ↦ inl (bound client on.0 peer clock earlier h b)
              | inr a ↦ inr (asked_for client on.0 peer earlier h a.0, permitted client peer.ip clock earlier h a.1)
            ],
          );
        }
      ]

  -- data to a peer is the user's, to that peer
  same_bytes : (to peer : Endpoint) (more bytes : List ℕ) → sends to more ≡ sends peer bytes → (peer ≡ to) × (bytes ≡ more)
  same_bytes to peer more bytes is = (cc, cc)

  pub all_sent : (client : Client) (earlier : List Moment) (now : ℕ) (to peer : Endpoint) (more bytes : List ℕ) → IsHistory client earlier → let before = after_all client earlier in
      output_at now 0 (sends to more) before.held ≡ send_to peer bytes → (peer ≡ to) × (bytes ≡ more) × IsSent client earlier (at now before.held.state).clock to
  all_sent client earlier now to peer more bytes h sent =
      let before = after_all client earlier in
      let setup = setup_of client.held.settings in
      let clock = (at now before.held.state).clock in
      let right = subst (IsRight setup (past client earlier) clock (sends to more)) sent (right_at client earlier now 0 (sends to more) h) in
      let same = same_bytes to peer more bytes right.0 in (
        same.0,
        same.1,
        record {
          lasts = lasting client clock earlier h right.1;
          permitted = subst (λ (x : Endpoint). IsPermitted client x.ip clock earlier) same.0 (permitted client peer.ip clock earlier h right.2);
        },
      )

  pub all_sent_on : (client : Client) (earlier : List Moment) (now number : ℕ) (to : Endpoint) (more bytes : List ℕ) → IsHistory client earlier → let before = after_all client earlier in
      output_at now 0 (sends to more) before.held ≡ send_on number bytes → (bytes ≡ more) × IsSent client earlier (at now before.held.state).clock to × IsBound client number to (at now before.held.state).clock earlier
  all_sent_on client earlier now number to more bytes h sent =
      let before = after_all client earlier in
      let setup = setup_of client.held.settings in
      let clock = (at now before.held.state).clock in
      let right = subst (IsRight setup (past client earlier) clock (sends to more)) sent (right_at client earlier now 0 (sends to more) h) in
      let same = same_bytes to right.0 more bytes right.1 in (
        same.1,
        record {
          lasts = lasting client clock earlier h right.2;
          permitted = subst (λ (x : Endpoint). IsPermitted client x.ip clock earlier) same.0 (permitted client right.0.ip clock earlier h right.3);
        },
        subst (λ (x : Endpoint). IsBound client number x clock earlier) same.0 (bound client number right.0 clock earlier h right.4),
      )
