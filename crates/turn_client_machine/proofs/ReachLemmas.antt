-- What a client with an allocation relies on, lets the server relay.
use Rattle.std.proofs.Common.{◌≡◌, ℕ, ◌+◌, ◌<◌, ◌≤◌, inl, inr, true, false, List, [], ◌∷◌, ◌++◌, Option, Some, refl, sym, ap, subst, ◌∙◌, arith, le_of_eq}
use Rattle.std.specs.List.{AllByRecursion}
use Rattle.stun_endpoints.specs.declared.endpoints.FiveTuple.{FiveTuple}
use Rattle.turn_machine.specs.Lists.{SomeOf}
use Rattle.turn_machine.specs.Relays.{Setup as ServerSetup}
use Rattle.turn_machine.specs.Events.{Want, Given, Missing, Request as ServerRequest, allocate as s_allocate, bind as s_bind, asks as s_asks, Answer as ServerAnswer, allocated as s_allocated, refreshed as s_refreshed, done as s_done, refused as s_refused, answers as s_answers}
use Rattle.turn_machine.specs.Times.{granted_for}
use Rattle.turn_machine.specs.Runs.{Timed as ServerTimed, Happening as ServerHappening, run as s_run, history as s_history}
use Rattle.turn_machine.specs.Warrants.{Opens, Permits as PermitsThere, Binds as BindsThere, ArePermitting, AreBinding, end_of}
use Rattle.turn_machine.specs.Works.{Lasted, IsDue}
use Rattle.turn_machine.proofs.ListsLemmas.{some_both, some_map}
use Rattle.turn_client_machine.specs.Clients.{Ip, Endpoint, seconds, Setup, Kind, Allocate, Refresh, Delete, Permit, Bind, Request, is_allocated}
use Rattle.turn_client_machine.specs.Events.{Answer, Opened}
use Rattle.turn_client_machine.specs.Responses.{is_allocate, is_delete}
use Rattle.turn_client_machine.specs.Runs.{Timed, Happening, run, history}
use Rattle.turn_client_machine.specs.Warrants.{Confirmed, lifetime_of, Permits, Binds, IsPermitted, IsBound}
use Rattle.turn_client_machine.specs.Joined.{request_of, answer_of, Answers, is_success, IsLinked, granted_there}
use Rattle.turn_client_machine.specs.Reach.{happened_since, IsOwn, IsAlone, IsSteady, IsJoined, Arrives, IsSocket}
use Rattle.turn_client_machine.proofs.Backed.{LastsUntil, sends_asks}
use Rattle.turn_client_machine.proofs.BackedLemmas.{run_kept}
use Rattle.turn_client_machine.proofs.ListsLemmas.{each_map}
use Rattle.turn_client_machine.proofs.JoinedLemmas.{picked, part_named, part_binds, done_there, lasts_there, done_succeeds, grant_succeeds, part_binds}
use Rattle.turn_client_machine.proofs.ServerSound.{IsPast, run_past, named_allowed}
use Rattle.turn_client_machine.proofs.AskingLemmas.{IsFit, EachAsked, AskedFit, run_fit, run_since}
use Rattle.turn_client_machine.proofs.ServerEnds.{Succeeds, given_one, least_lifetime, some_out}
use Rattle.turn_client_machine.proofs.ServerOwn.{Tells, IsKnown}
use Rattle.turn_client_machine.proofs.AddressLemmas.{TellsIt, run_told}
use Rattle.turn_client_machine.proofs.ServerStory.{Fits, IsOrderly, Granted, succeeded, AllPassed, Fails, IsOpened, Story, history_since, run_story}

-- ---- Both clocks

pub long_span : (wanted : Option ℕ) (greatest : ℕ) → seconds 600 ≤ seconds (granted_for wanted greatest)
long_span wanted greatest = let least = least_lifetime wanted greatest in omega (arith, least)

pub sent_by_now : (setup : Setup) (events : List Timed) (clock : ℕ) → (run setup events).clock ≤ clock → EachAsked (λ r. r.since ≤ clock) (history setup events)
sent_by_now setup events clock later r sent = let before = run_since setup events r sent in omega (arith, before, later)

-- what ends later at the client than the data was sent, by the slack, ends later at the server than it comes
outlasts : (shown : ℕ → ℕ) (drift span slack clock moment since expires_at here : ℕ) → IsSteady shown drift span → Arrives shown drift slack clock moment → since ≤ clock → expires_at ≤ span → clock + slack < since + expires_at → shown since ≤ here → moment < here + expires_at
outlasts shown drift span slack clock moment since expires_at here steady arrives le short less after =
    let even = steady.even since clock le (omega (arith, short, less)) in
    omega (arith, even, arrives, less, after)

-- ---- What the client asks for is orderly

fits_of : (shown : ℕ → ℕ) (drift span begin : ℕ) (wanted : Option ℕ) (moment : ℕ) (r : Request) (id : ℕ) (want : Want) (others : List Endpoint) (kind : Kind) → IsSteady shown drift span → drift < seconds 20 → seconds 600 ≤ span → r.kind ≡ kind → IsFit begin r → shown r.since ≤ moment
    → (r.kind ≡ Allocate → moment < shown r.since + seconds 540) → Fits (shown begin) wanted moment (request_of wanted id want others kind)
fits_of shown drift span begin wanted moment r id want others Allocate steady small long is fit after soon =
    let one = fit.after (ap is_allocate is) in
    let two = fit.soon (ap is_allocate is) in
    let three = soon is in
    let later = steady.later begin r.since one in
    let even = steady.even begin r.since one (omega (arith, two, long)) in
    (refl, omega (arith, later, after), omega (arith, two, three, even, small), record { want = want; same = refl })
fits_of shown drift span begin wanted moment r id want others Refresh steady small long is fit after soon = (refl, refl)
fits_of shown drift span begin wanted moment r id want others Delete steady small long is fit after soon = let lasts : is_delete r.kind ≡ false = fit.lasts in let ends : is_delete r.kind ≡ true = ap is_delete is in absurd cc
fits_of shown drift span begin wanted moment r id want others (Permit peer) steady small long is fit after soon = tt
fits_of shown drift span begin wanted moment r id want others (Bind number peer) steady small long is fit after soon = tt

orderly_of : (shown : ℕ → ℕ) (drift span : ℕ) (hs : List Happening) (f : AskedFit hs) (wanted : Option ℕ) (tuple : FiveTuple) (user : ℕ) (there : List ServerHappening) → IsSteady shown drift span → drift < seconds 20 → seconds 600 ≤ span → IsAlone shown wanted hs there tuple user
    → AllByRecursion (IsOrderly (shown f.begin) wanted tuple user) there
orderly_of shown drift span hs f wanted tuple user there steady small long = each_map (λ (h : ServerHappening). (request : ServerRequest) → h.event ≡ s_asks tuple user request → IsOwn shown wanted hs h.moment request) (IsOrderly (shown f.begin) wanted tuple user)
    (λ h own request asked. let o = own request asked in
    subst (Fits (shown f.begin) wanted h.moment) (sym o.same) (fits_of shown drift span f.begin wanted h.moment o.r o.r.id o.want o.others o.r.kind steady small long refl (f.each o.r (sends_asks o.r o.others hs o.sent)) o.after o.soon)) there

-- ---- What the client was granted

-- the server granted a lifetime that isn't over; if it is no longer than the longest
record Gives (tuple : FiveTuple) (user longest moment : ℕ) (h : ServerHappening) : Type 0 where
  lifetime : ℕ
  granted : Granted tuple user h lifetime
  ends : lifetime ≤ longest → moment < h.moment + seconds lifetime

grant_there : (shown : ℕ → ℕ) (drift longest slack clock moment : ℕ) (setup : Setup) (hs : List Happening) (there : List ServerHappening) (tuple : FiveTuple) (user expires_at : ℕ) → IsSteady shown drift (seconds longest) → Arrives shown drift slack clock moment
    → EachAsked (λ r. r.since ≤ clock) hs → clock + slack < expires_at → IsLinked shown setup hs there tuple user → Confirmed setup.server (LastsUntil expires_at) hs → SomeOf (Gives tuple user longest moment) there
grant_there shown drift longest slack clock moment setup hs there tuple user expires_at steady arrives sent less linked confirmed =
    let p = picked setup.server (LastsUntil expires_at) hs confirmed in
    some_map (Answers shown tuple user p.request p.answer) (Gives tuple user longest moment)
    (λ h a. record {
      lifetime = p.holds.lifetime;
      granted = record {
        request = request_of a.wanted a.first.id a.want a.others a.first.kind;
        given = a.given;
        asked = a.asked;
        answered = a.answered;
        granted = lasts_there a.mapped p.request.kind a.given p.holds.lifetime (subst (λ (b : Answer). lifetime_of p.request.kind b ≡ Some p.holds.lifetime) a.same p.holds.granted);
      };
      ends = λ short. outlasts shown drift (seconds longest) slack clock moment p.request.since (seconds p.holds.lifetime) h.moment steady arrives (sent p.request p.sent) (omega (arith, short)) (let ends = p.holds.ends in omega (arith, ends, less)) a.after;
    }) there (linked p.request p.answer (grant_succeeds p.request.kind p.answer p.holds.lifetime p.holds.granted) p.it)

permission_there : (shown : ℕ → ℕ) (drift span slack clock moment : ℕ) (setup : Setup) (hs : List Happening) (there : List ServerHappening) (tuple : FiveTuple) (user : ℕ) (ip : Ip) → IsSteady shown drift span → seconds 600 ≤ span → Arrives shown drift slack clock moment
    → EachAsked (λ r. r.since ≤ clock) hs → AllByRecursion (IsPast moment) there → IsLinked shown setup hs there tuple user → IsPermitted setup.server ip (clock + slack) hs → SomeOf (PermitsThere tuple user ip moment) there
permission_there shown drift span slack clock moment setup hs there tuple user ip steady long arrives sent past linked permitted =
    let p = picked setup.server (Permits ip (clock + slack)) hs permitted.permitted in
    some_both (IsPast moment) (Answers shown tuple user p.request p.answer) (PermitsThere tuple user ip moment)
    (λ h past a.
    let named = part_named ip a.wanted a.first.id a.want a.first a.others p.request a.part p.holds.named in
    let succeeded = a.answered ∙ ap (s_answers tuple) (done_there a.mapped a.given (sym p.holds.success ∙ a.same)) in
    record {
      request = request_of a.wanted a.first.id a.want a.others a.first.kind;
      asked = a.asked;
      named = named;
      allowed = named_allowed ip h.rules (request_of a.wanted a.first.id a.want a.others a.first.kind) (past.sound tuple user (request_of a.wanted a.first.id a.want a.others a.first.kind) a.asked succeeded) named;
      succeeded = succeeded;
      came = past.came;
      lasts = outlasts shown drift span slack clock moment p.request.since (seconds 300) h.moment steady arrives (sent p.request p.sent) (omega (arith, long)) p.holds.in_time a.after;
    }) there past (linked p.request p.answer (done_succeeds p.answer p.holds.success) p.it)

pub channel_there : (shown : ℕ → ℕ) (drift span slack clock moment : ℕ) (setup : Setup) (hs : List Happening) (there : List ServerHappening) (tuple : FiveTuple) (user number : ℕ) (peer : Endpoint) → IsSteady shown drift span → seconds 600 ≤ span → Arrives shown drift slack clock moment
    → EachAsked (λ r. r.since ≤ clock) hs → AllByRecursion (IsPast moment) there → IsLinked shown setup hs there tuple user → IsBound setup.server number peer (clock + slack) hs → SomeOf (BindsThere tuple user number peer moment) there
channel_there shown drift span slack clock moment setup hs there tuple user number peer steady long arrives sent past linked bound =
    let p = picked setup.server (Binds number peer (clock + slack)) hs bound.bound in
    some_both (IsPast moment) (Answers shown tuple user p.request p.answer) (BindsThere tuple user number peer moment)
    (λ h past a.
    let asked = a.asked ∙ ap (λ (k : Kind). s_asks tuple user (request_of a.wanted a.first.id a.want a.others k)) (part_binds number peer a.first a.others p.request a.part p.holds.kind) in
    let succeeded = a.answered ∙ ap (s_answers tuple) (done_there a.mapped a.given (sym p.holds.success ∙ a.same)) in
    record {
      asked = asked;
      allowed = (past.sound tuple user (s_bind number peer) asked succeeded).1;
      succeeded = succeeded;
      came = past.came;
      lasts = outlasts shown drift span slack clock moment p.request.since (seconds 600) h.moment steady arrives (sent p.request p.sent) long p.holds.in_time a.after;
    }) there past (linked p.request p.answer (done_succeeds p.answer p.holds.success) p.it)

-- what has happened since the client began
each_first : (P : ServerHappening → Type 0) (hs old : List ServerHappening) → AllByRecursion P (hs ++ old) → AllByRecursion P hs
each_first P [] old each = tt
each_first P (h ∷ hs) old each = (each.0, each_first P hs old each.1)

pub past_since : (server : ServerSetup) (since earlier : List ServerTimed) (moment : ℕ) → (s_run server (since ++ earlier)).clock ≤ moment → AllByRecursion (IsPast moment) (happened_since server since earlier)
past_since server since earlier moment le =
    each_first (IsPast moment) (happened_since server since earlier) (s_history server earlier) (subst (AllByRecursion (IsPast moment)) (history_since server since earlier) (run_past server (since ++ earlier) moment le))

-- ---- What has succeeded, has since the opening

never_before : (tuple : FiveTuple) (user : ℕ) (P : ServerHappening → Type 0) (R : Type 0) → ((h : ServerHappening) → P h → Succeeds tuple user h) → (before : List ServerHappening) → AllByRecursion (Fails tuple user) before → SomeOf P before → R
never_before tuple user P R f [] none some = absurd some
never_before tuple user P R f (h ∷ before) none (inl p) = absurd (none.0 (f h p))
never_before tuple user P R f (h ∷ before) none (inr some) = never_before tuple user P R f before none.1 some

in_since : (tuple : FiveTuple) (user : ℕ) (P : ServerHappening → Type 0) → ((h : ServerHappening) → P h → Succeeds tuple user h) → (opening : ServerHappening) → (P opening → ⊥) → (before : List ServerHappening) → AllByRecursion (Fails tuple user) before
    → (since : List ServerHappening) → SomeOf P (since ++ opening ∷ before) → SomeOf P since
in_since tuple user P f opening not before none [] (inl p) = absurd (not p)
in_since tuple user P f opening not before none [] (inr some) = never_before tuple user P ⊥ f before none some
in_since tuple user P f opening not before none (h ∷ since) (inl p) = inl p
in_since tuple user P f opening not before none (h ∷ since) (inr some) = inr (in_since tuple user P f opening not before none since some)

-- from the grant on the end only rises, and until then the allocation lived whenever a request succeeded
lasts_until : (tuple : FiveTuple) (user family number longest first moment : ℕ) (opening : ServerHappening) (before : List ServerHappening) → (Gives tuple user longest moment opening → moment < first) → AllByRecursion (Fails tuple user) before
    → (since : List ServerHappening) → AllPassed tuple user family number longest first since → AllByRecursion (λ (h : ServerHappening). h.moment ≤ moment) since → SomeOf (Gives tuple user longest moment) (since ++ opening ∷ before)
    → (moment < end_of tuple user family number first since) × Lasted tuple user family number first since
lasts_until tuple user family number longest first moment opening before begins none [] passed by_now (inl g) = (begins g, tt)
lasts_until tuple user family number longest first moment opening before begins none [] passed by_now (inr some) = never_before tuple user (Gives tuple user longest moment) _ (λ h g. succeeded tuple user h g.lifetime g.granted) before none some
lasts_until tuple user family number longest first moment opening before begins none (h ∷ since) passed by_now (inl g) =
    let gives = passed.0.gives g.lifetime g.granted in
    let ends = g.ends gives.0 in
    let expires_at = gives.1 in
    (omega (arith, expires_at, ends), passed.0.lasted (succeeded tuple user h g.lifetime g.granted))
lasts_until tuple user family number longest first moment opening before begins none (h ∷ since) passed by_now (inr some) =
    let more = lasts_until tuple user family number longest first moment opening before begins none since passed.1 by_now.1 some in
    let ends = more.0 in let rises = passed.0.rises in let sooner = by_now.0 in
    (omega (arith, ends, rises), (omega (arith, ends, sooner), more.1))

opening_gives : (tuple : FiveTuple) (user family number longest moment : ℕ) (opening : ServerHappening) (o : Opens tuple user family number opening) → o.granted ≡ longest → Gives tuple user longest moment opening → moment < opening.moment + seconds o.granted
opening_gives tuple user family number longest moment opening o is g =
    let answered : s_answers tuple g.granted.given ≡ s_answers tuple (s_allocated o.given o.granted o.missing) = sym g.granted.answered ∙ o.answered in
    let given : g.granted.given ≡ s_allocated o.given o.granted o.missing = cc in
    let told : granted_there (s_allocated o.given o.granted o.missing) ≡ Some g.lifetime = ap granted_there (sym given) ∙ g.granted.granted in
    let same : o.granted ≡ g.lifetime = cc in
    let ends = g.ends (le_of_eq (sym same ∙ is)) in omega (arith, same, ends)

-- ---- The server's history

regroup : (since : List ServerHappening) (opening : ServerHappening) (before old : List ServerHappening) → (since ++ opening ∷ before) ++ old ≡ since ++ opening ∷ (before ++ old)
regroup [] opening before old = refl
regroup (h ∷ since) opening before old = ap (λ (l : List ServerHappening). h ∷ l) (regroup since opening before old)

-- ---- The socket

-- a response to an Allocate request of this user reports this address
record TellsThere (tuple : FiveTuple) (user : ℕ) (relayed : Endpoint) (h : ServerHappening) : Type 0 where
  request : ServerRequest
  given : List Given
  granted : ℕ
  missing : List Missing
  asked : h.event ≡ s_asks tuple user request
  answered : h.output ≡ s_answers tuple (s_allocated given granted missing)
  has : SomeOf (λ g. g.address ≡ relayed) given

record OpensThere (relayed : Endpoint) (answer : ServerAnswer) : Type 0 where
  given : List Given
  granted : ℕ
  missing : List Missing
  is : answer ≡ s_allocated given granted missing
  has : SomeOf (λ g. g.address ≡ relayed) given

opens_there : (mapped relayed seen : Endpoint) (lifetime : ℕ) (given : ServerAnswer) → Opened relayed seen lifetime ≡ answer_of mapped given → OpensThere relayed given
opens_there mapped relayed seen lifetime (s_allocated [] n missing) is = absurd cc
opens_there mapped relayed seen lifetime (s_allocated (g ∷ given) n missing) is = let same : relayed ≡ g.address = cc in record { given = g ∷ given; granted = n; missing = missing; is = refl; has = inl (sym same) }
opens_there mapped relayed seen lifetime (s_refreshed n) is = absurd cc
opens_there mapped relayed seen lifetime s_done is = absurd cc
opens_there mapped relayed seen lifetime (s_refused code) is = absurd cc

told_there : (shown : ℕ → ℕ) (setup : Setup) (hs : List Happening) (there : List ServerHappening) (tuple : FiveTuple) (user : ℕ) (relayed : Endpoint) → IsLinked shown setup hs there tuple user → Confirmed setup.server (TellsIt relayed) hs → SomeOf (TellsThere tuple user relayed) there
told_there shown setup hs there tuple user relayed linked confirmed =
    let p = picked setup.server (TellsIt relayed) hs confirmed in
    some_map (Answers shown tuple user p.request p.answer) (TellsThere tuple user relayed)
    (λ h a.
    let o = opens_there a.mapped relayed p.holds.mapped p.holds.lifetime a.given (sym p.holds.answer_is ∙ a.same) in
    record {
      request = request_of a.wanted a.first.id a.want a.others a.first.kind;
      given = o.given;
      granted = o.granted;
      missing = o.missing;
      asked = a.asked;
      answered = a.answered ∙ ap (s_answers tuple) o.is;
      has = o.has;
    }) there (linked p.request p.answer (subst (λ (b : Answer). is_success b ≡ true) (sym p.holds.answer_is) refl) p.it)

told_address : (tuple : FiveTuple) (user family : ℕ) (relayed address : Endpoint) (there : List ServerHappening) → AllByRecursion (Tells tuple user family address) there → SomeOf (TellsThere tuple user relayed) there → relayed ≡ address
told_address tuple user family relayed address there tells some =
    some_out (λ (h : ServerHappening). relayed ≡ address) (relayed ≡ address) (λ _ e. e) there
    (some_both (Tells tuple user family address) (TellsThere tuple user relayed) (λ (h : ServerHappening). relayed ≡ address)
    (λ h tells t. some_out (λ (g : Given). relayed ≡ address) (relayed ≡ address) (λ _ e. e) t.given
    (some_both (λ (g : Given). g.address ≡ address) (λ (g : Given). g.address ≡ relayed) (λ (g : Given). relayed ≡ address) (λ g one two. sym two ∙ one) t.given
    (tells.addresses t.request t.given t.granted t.missing t.asked t.answered) t.has)) there tells some)

-- what was permitted, has the allocation's family
told_family : (tuple : FiveTuple) (user family moment : ℕ) (address : Endpoint) (ip : Ip) (there : List ServerHappening) → AllByRecursion (Tells tuple user family address) there → SomeOf (PermitsThere tuple user ip moment) there → family ≡ ip.family
told_family tuple user family moment address ip there tells some =
    some_out (λ (h : ServerHappening). family ≡ ip.family) (family ≡ ip.family) (λ _ e. e) there
    (some_both (Tells tuple user family address) (PermitsThere tuple user ip moment) (λ (h : ServerHappening). family ≡ ip.family) (λ h tells p. sym (tells.named p.request ip p.asked p.succeeded p.named)) there tells some)

opens_succeeds : (tuple : FiveTuple) (user family number : ℕ) (h : ServerHappening) → Opens tuple user family number h → Succeeds tuple user h
opens_succeeds tuple user family number h o = record { request = s_allocate o.id o.lifetime o.wants; answer = s_allocated o.given o.granted o.missing; asked = o.asked; answered = o.answered; success = refl }

-- ---- The server has to relay

-- the server's law applies; this is the client's socket; and the channels that the client has
pub record Reachable (server : ServerSetup) (since earlier : List ServerTimed) (tuple : FiveTuple) (user : ℕ) (relayed : Endpoint) (moment : ℕ) (peer : Endpoint) : Type 0 where
  pub family : ℕ
  pub number : ℕ
  pub due : IsDue (s_history server (since ++ earlier)) moment tuple number peer (ArePermitting server tuple peer moment)
  pub bound : (channel : ℕ) → SomeOf (BindsThere tuple user channel peer moment) (happened_since server since earlier) → IsDue (s_history server (since ++ earlier)) moment tuple number peer (AreBinding tuple channel peer moment)
  pub socket : IsSocket tuple user number relayed (happened_since server since earlier)
  pub only : socket.opens.given ≡ given_one socket.family number relayed ∷ []
  pub known : IsKnown tuple user family number relayed (happened_since server since earlier) (s_run server (since ++ earlier))

abbrev Known : ServerSetup → (since earlier : List ServerTimed) → FiveTuple → (user family number : ℕ) → Endpoint → Type 0
Known server since earlier tuple user family number address = IsKnown tuple user family number address (happened_since server since earlier) (s_run server (since ++ earlier))

-- of an allocation of one family
record IsKept (tuple : FiveTuple) (user number moment : ℕ) (opening : ServerHappening) (since : List ServerHappening) (family : ℕ) : Type 0 where
  opens : Opens tuple user family number opening
  lasted : Lasted tuple user family number (opening.moment + seconds opens.granted) since
  kept : moment < end_of tuple user family number (opening.moment + seconds opens.granted) since

opened_reach : (server : ServerSetup) (since earlier : List ServerTimed) (tuple : FiveTuple) (user : ℕ) (relayed : Endpoint) (begin granted moment : ℕ) (peer : Endpoint) (end : ℕ)
    → IsOpened tuple user begin granted (happened_since server since earlier) (s_history server earlier) (s_run server (since ++ earlier)).clock end (Known server since earlier tuple user) → (s_run server (since ++ earlier)).clock ≤ moment
    → SomeOf (Gives tuple user granted moment) (happened_since server since earlier) → SomeOf (TellsThere tuple user relayed) (happened_since server since earlier) → SomeOf (PermitsThere tuple user peer.ip moment) (happened_since server since earlier)
    → Reachable server since earlier tuple user relayed moment peer
opened_reach server since earlier tuple user relayed begin granted moment peer end o le gives tells permits =
    let there = happened_since server since earlier in
    let clock = (s_run server (since ++ earlier)).clock in
    let first = o.opening.moment + seconds o.opens.granted in
    let l = lasts_until tuple user o.family o.number granted first moment o.opening o.before (opening_gives tuple user o.family o.number granted moment o.opening o.opens o.seconds_are) o.none o.since o.passed
    (each_map (λ (h : ServerHappening). h.moment ≤ clock) (λ (h : ServerHappening). h.moment ≤ moment) (λ h before. omega (arith, le, before)) o.since o.by_now)
    (subst (SomeOf (Gives tuple user granted moment)) o.split gives) in
    let ends = l.0 in
    let same = o.ends in
    let lives : clock < end = omega (arith, le, ends, same) in
    let known = o.kept lives in
    let address = told_address tuple user o.family relayed o.address there known.told tells in
    let family_is = told_family tuple user o.family moment o.address peer.ip there known.told permits in
    let kept : IsKept tuple user o.number moment o.opening o.since peer.ip.family =
    subst (IsKept tuple user o.number moment o.opening o.since) family_is (record { opens = o.opens; lasted = l.1; kept = ends }) in
    let split = history_since server since earlier ∙ (ap (λ (l : List ServerHappening). l ++ s_history server earlier) o.split ∙ regroup o.since o.opening o.before (s_history server earlier)) in
    record {
      family = o.family;
      number = o.number;
      due = record {
        user = user;
        since = o.since;
        opening = o.opening;
        before = o.before ++ s_history server earlier;
        split = split;
        opens = kept.opens;
        first = o.fresh;
        lasted = kept.lasted;
        kept = kept.kept;
        asked = inl (in_since tuple user (PermitsThere tuple user peer.ip moment)
            (λ h p. record { request = p.request; answer = s_done; asked = p.asked; answered = p.succeeded; success = refl }) o.opening
            (λ p. let one = p.succeeded in let two = o.opens.answered in absurd cc) o.before o.none o.since (subst (SomeOf (PermitsThere tuple user peer.ip moment)) o.split permits));
      };
      bound = λ channel binds. record {
        user = user;
        since = o.since;
        opening = o.opening;
        before = o.before ++ s_history server earlier;
        split = split;
        opens = kept.opens;
        first = o.fresh;
        lasted = kept.lasted;
        kept = kept.kept;
        asked = in_since tuple user (BindsThere tuple user channel peer moment)
            (λ h p. record { request = _; answer = s_done; asked = p.asked; answered = p.succeeded; success = refl }) o.opening
            (λ p. let one = p.succeeded in let two = o.opens.answered in absurd cc) o.before o.none o.since (subst (SomeOf (BindsThere tuple user channel peer moment)) o.split binds);
      };
      socket = record {
        family = o.family;
        since = o.since;
        opening = o.opening;
        before = o.before;
        split = o.split;
        opens = o.opens;
        address = subst (SomeOf (λ (g : Given). (g.number ≡ o.number) × (g.address ≡ relayed))) (sym o.given_is) (inl (refl, sym address));
        first = each_map (Fails tuple user) (λ (h : ServerHappening). (f n : ℕ) → Opens tuple user f n h → ⊥) (λ h never f n it. never (opens_succeeds tuple user f n h it)) o.before o.none;
      };
      only = o.given_is ∙ ap (λ (e : Endpoint). given_one o.family o.number e ∷ []) (sym address);
      known = subst (Known server since earlier tuple user o.family o.number) (sym address) known;
    }

story_reach : (server : ServerSetup) (since earlier : List ServerTimed) (tuple : FiveTuple) (user : ℕ) (relayed : Endpoint) (begin granted moment : ℕ) (peer : Endpoint) (end : ℕ)
    → Story tuple user begin granted (happened_since server since earlier) (s_history server earlier) (s_run server (since ++ earlier)).clock end (Known server since earlier tuple user) → (s_run server (since ++ earlier)).clock ≤ moment
    → SomeOf (Gives tuple user granted moment) (happened_since server since earlier) → SomeOf (TellsThere tuple user relayed) (happened_since server since earlier) → SomeOf (PermitsThere tuple user peer.ip moment) (happened_since server since earlier)
    → Reachable server since earlier tuple user relayed moment peer
story_reach server since earlier tuple user relayed begin granted moment peer end (inl closed) le gives tells permits =
    never_before tuple user (Gives tuple user granted moment) (Reachable server since earlier tuple user relayed moment peer) (λ h g. succeeded tuple user h g.lifetime g.granted) (happened_since server since earlier) closed.none gives
story_reach server since earlier tuple user relayed begin granted moment peer end (inr o) le gives tells permits =
    opened_reach server since earlier tuple user relayed begin granted moment peer end o le gives tells permits

-- until the client's own end, with a permission that isn't over
pub reachable : (setup : Setup) (events : List Timed) (server : ServerSetup) (since earlier : List ServerTimed) (tuple : FiveTuple) (user slack clock moment : ℕ) (peer : Endpoint) (j : IsJoined setup (history setup events) server since earlier tuple user)
    → is_allocated (run setup events).phase ≡ true → (s_run server (since ++ earlier)).clock ≤ moment → (run setup events).clock ≤ clock → Arrives j.shown j.drift slack clock moment → clock + slack < (run setup events).expires_at
    → IsPermitted setup.server peer.ip (clock + slack) (history setup events) → Reachable server since earlier tuple user (run setup events).relayed moment peer
reachable setup events server since earlier tuple user slack clock moment peer j allocated le later arrives less permitted =
    let hs = history setup events in
    let there = happened_since server since earlier in
    let longest = granted_for j.wanted server.greatest_lifetime in
    let f = run_fit setup events allocated in
    let long = long_span j.wanted server.greatest_lifetime in
    let s = run_story server tuple user (j.shown f.begin) j.wanted since earlier j.is_lifetime j.unknown (orderly_of j.shown j.drift (seconds longest) hs f j.wanted tuple user there j.steady j.small long j.alone) j.spared in
    let k = run_kept setup events in
    let sent = sent_by_now setup events clock later in
    story_reach server since earlier tuple user (run setup events).relayed (j.shown f.begin) longest moment peer s.end s.story le
    (grant_there j.shown j.drift longest slack clock moment setup hs there tuple user (run setup events).expires_at j.steady arrives sent less j.linked (k.main.lasts (omega (arith, less))))
    (told_there j.shown setup hs there tuple user (run setup events).relayed j.linked (run_told setup events allocated))
    (permission_there j.shown j.drift (seconds longest) slack clock moment setup hs there tuple user peer.ip j.steady long arrives sent (past_since server since earlier moment le) j.linked permitted)
