-- Each output is warranted, if the state rests on what has happened.
use Rattle.std.proofs.Common.{lt_of_lt_of_le, ◌≡◌, ℕ, ◌+◌, ◌<◌, ◌≤◌, ◌⊎◌, inl, inr, Bool, true, false, not, List, [], ◌∷◌, ◌++◌, find, refl, sym, subst, eqb-true, ltb-true, arith}
use Rattle.std.specs.List.{AllByRecursion, list_any}
use Rattle.std.specs.Option.{option_map_or}
use Rattle.std.specs.Prelude.{◌==◌, ◌&&◌, ◌||◌, max, nat_lt}
use Rattle.std.proofs.lemmas.Bool.{cond_both, and_parts, or_cases, false≢true}
use Rattle.stun_endpoints.specs.declared.endpoints.Ip.{Ip}
use Rattle.stun_endpoints.specs.declared.endpoints.Endpoint.{Endpoint}
use Rattle.stun_endpoints.specs.declared.endpoints.FiveTuple.{FiveTuple}
use Rattle.stun_endpoints.specs.Endpoints.{is_ip, is_endpoint}
use Rattle.turn_machine.specs.Lists.{SomeOf, SomeSince}
use Rattle.turn_machine.specs.Relays.{seconds, Permission, Channel, Relay, Setup, Rules, State, is_owned, is_live, is_of, is_for, is_at, is_permission, is_permitted, is_channel, is_channel_of}
use Rattle.turn_machine.specs.Events.{Icmp, Request, allocate, unfit_allocate, refresh, permit, bind, unfit, refreshed, done, refused, Event, asks, sends, sends_on, arrives, bounces, ends, ends_user, ticks, Answer, Output, answers, to_peer, to_client, to_client_icmp, nothing}
use Rattle.turn_machine.specs.Times.{at, refreshed_for, left_of}
use Rattle.turn_machine.specs.Opening.{allocation_answer}
use Rattle.turn_machine.specs.Data.{allows, sent, sent_by, sent_on, has_channel, by_channel, received, is_passed, bounced}
use Rattle.turn_machine.specs.Steps.{changed, closing, is_wanted, lasting, keeping, fulfils, is_again, answers_again, serves, step}
use Rattle.turn_machine.specs.Runs.{Timed, Happening, run, happening, history}
use Rattle.turn_machine.specs.Warrants.{Opens, end_of, Permits, Binds, BindsTo, Renews, ArePermitting, AreBinding, IsWarranted, IsRight}
use Rattle.stun_endpoints.proofs.AddressesLemmas.{ip_same, endpoint_same, tuple_same}
use Rattle.turn_machine.proofs.ListsLemmas.{each_map, each_filtered, found, some_both, since_both}
use Rattle.turn_machine.proofs.Backed.{Installs, Attaches, AttachesTo, AreInstalling, IsInstalled, IsAttached, IsBacked}
use Rattle.turn_machine.proofs.BackedLemmas.{run_backed}
use Rattle.turn_machine.proofs.KeepingLemmas.{Keeps, Anyone, happens_keeps, by_anyone}
use Rattle.turn_machine.proofs.CasesLemmas.{serve_cases}

-- ---- Moments

pub later_kept : (setup : Setup) (m : ℕ) → Keeps setup Anyone (λ state. m ≤ state.clock)
later_kept setup m = record {
  time = λ now state le. omega (arith, le);
  opened = λ _ _ _ _ _ _ _ _ _ _ le. le;
  ended = λ _ _ le. le;
  lasted = λ _ _ _ _ _ _ le. le;
  permitted = λ _ _ _ _ _ _ le. le;
  bound = λ _ _ _ _ _ _ _ le. le;
}

pub moments_before : (setup : Setup) (events : List Timed) → AllByRecursion (λ h. h.moment ≤ (run setup events).clock) (history setup events)
moments_before setup [] = tt
moments_before setup (t ∷ events) =
    let state = run setup events in
    let m = max state.clock t.now in
    let le : m ≤ (run setup (t ∷ events)).clock = happens_keeps setup Anyone (λ s. m ≤ s.clock) (later_kept setup m) t.rules (at t.now state) t.event (by_anyone t.event) (omega arith) in (
      le,
      each_map (λ h. h.moment ≤ state.clock) (λ h. h.moment ≤ (run setup (t ∷ events)).clock) (λ h before. omega (arith, before, le)) (history setup events) (moments_before setup events),
    )

split_all : (P : Happening → Type 0) (since : List Happening) (h : Happening) (before : List Happening) → AllByRecursion P (since ++ h ∷ before) → AllByRecursion P since × P h
split_all P [] h before each = (tt, each.0)
split_all P (x ∷ since) h before each = let more = split_all P since h before each.1 in ((each.0, more.0), more.1)

-- ---- What has not expired is still in time

permits_on : (tuple : FiveTuple) (user : ℕ) (ip : Ip) (n expires_at : ℕ) → n < expires_at → (h : Happening) → h.moment ≤ n → Installs tuple user ip expires_at h → Permits tuple user ip n h
permits_on tuple user ip n expires_at lasts h came g = record {
  request = g.request;
  asked = g.asked;
  named = g.named;
  allowed = g.allowed;
  succeeded = g.succeeded;
  came = came;
  lasts = subst (λ (m : ℕ). n < m) (sym g.ends) lasts;
}

binds_on : (tuple : FiveTuple) (user number : ℕ) (peer : Endpoint) (n expires_at : ℕ) → n < expires_at → (h : Happening) → h.moment ≤ n → Attaches tuple user number peer expires_at h → Binds tuple user number peer n h
binds_on tuple user number peer n expires_at lasts h came g = record { asked = g.asked; allowed = g.allowed; succeeded = g.succeeded; came = came; lasts = subst (λ (m : ℕ). n < m) (sym g.ends) lasts }

binds_to : (tuple : FiveTuple) (user : ℕ) (ip : Ip) (n expires_at : ℕ) → n < expires_at → (h : Happening) → h.moment ≤ n → AttachesTo tuple user ip expires_at h → BindsTo tuple user ip n h
binds_to tuple user ip n expires_at lasts h came g = record { channel = g.channel; peer = g.peer; ip_is = g.ip_is; binds = binds_on tuple user g.channel g.peer n expires_at lasts h came g.attaches }

-- `ArePermitting`, for an IP address
abbrev AreLetting : Setup → FiveTuple → (user : ℕ) → Ip → (n : ℕ) → List Happening → Type 0
AreLetting setup tuple user ip n since =
    SomeOf (Permits tuple user ip n) since ⊎ ((setup.channel_permits ≡ true) × SomeSince (BindsTo tuple user ip n) (λ h. ¬ (Renews tuple user ip h)) since)

are_letting : (setup : Setup) (tuple : FiveTuple) (user : ℕ) (ip : Ip) (n expires_at : ℕ) (since : List Happening) → n < expires_at → AllByRecursion (λ h. h.moment ≤ n) since → AreInstalling setup tuple user ip expires_at since → AreLetting setup tuple user ip n since
are_letting setup tuple user ip n expires_at since lasts came by = elim by [
  | inl some ↦ inl (some_both (λ h. h.moment ≤ n) (Installs tuple user ip expires_at) (Permits tuple user ip n) (λ h c g. permits_on tuple user ip n expires_at lasts h c g) since came some)
  | inr long ↦ inr (long.0, since_both (λ h. h.moment ≤ n) (AttachesTo tuple user ip expires_at) (BindsTo tuple user ip n) (λ h. ¬ (Renews tuple user ip h)) (λ h c g. binds_to tuple user ip n expires_at lasts h c g) since came long.1)
]

-- what is asked for, and of the relayed address's family
record IsLetIn (setup : Setup) (since : List Happening) (tuple : FiveTuple) (user family n : ℕ) (ip : Ip) : Type 0 where
  asked : AreLetting setup tuple user ip n since
  family_is : ip.family ≡ family

permitted : (setup : Setup) (since : List Happening) (tuple : FiveTuple) (user family n : ℕ) (ip : Ip) (ps : List Permission) → AllByRecursion (λ h. h.moment ≤ n) since → AllByRecursion (IsInstalled setup since tuple user family) ps
    → list_any (is_permission n ip) ps ≡ true → IsLetIn setup since tuple user family n ip
permitted setup since tuple user family n ip [] came each any = absurd (false≢true any)
permitted setup since tuple user family n ip (p ∷ ps) came each any =
    elim (or_cases (is_permission n ip p) (list_any (is_permission n ip) ps) any) [
      | inl first ↦
          let both = and_parts (is_ip ip p.ip) (nat_lt n p.expires_at) first in
          subst (IsLetIn setup since tuple user family n) (sym (ip_same ip p.ip both.0))
          (record {
            asked = are_letting setup tuple user p.ip n p.expires_at since (ltb-true n p.expires_at both.1) came each.0.by;
            family_is = each.0.family_is;
          })
      | inr more ↦ permitted setup since tuple user family n ip ps came each.1 more
    ]

bound_by : (since : List Happening) (tuple : FiveTuple) (user family n : ℕ) (c : Channel) → AllByRecursion (λ h. h.moment ≤ n) since → IsAttached since tuple user family c → nat_lt n c.expires_at ≡ true → SomeOf (Binds tuple user c.number c.peer n) since
bound_by since tuple user family n c came is lasts =
    some_both (λ h. h.moment ≤ n) (Attaches tuple user c.number c.peer c.expires_at) (Binds tuple user c.number c.peer n) (λ h m g. binds_on tuple user c.number c.peer n c.expires_at (ltb-true n c.expires_at lasts) h m g) since came is.by

-- ---- A warrant

-- what is kept at a moment, with what has happened before
record IsGood (setup : Setup) (hs : List Happening) (n : ℕ) (a : Relay) : Type 0 where
  backed : IsBacked setup hs a
  live : n < a.expires_at

since_of : (setup : Setup) (hs : List Happening) (n : ℕ) (a : Relay) → AllByRecursion (λ h. h.moment ≤ n) hs → (b : IsBacked setup hs a) → AllByRecursion (λ h. h.moment ≤ n) b.since × (b.opening.moment ≤ n)
since_of setup hs n a came b = split_all (λ h. h.moment ≤ n) b.since b.opening b.before (subst (AllByRecursion (λ h. h.moment ≤ n)) b.split came)

warranted : (setup : Setup) (hs : List Happening) (n : ℕ) (tuple : FiveTuple) (number : ℕ) (peer : Endpoint) (Asked : (user : ℕ) → List Happening → Type 0) (a : Relay) (came : AllByRecursion (λ h. h.moment ≤ n) hs) (g : IsGood setup hs n a)
    → tuple ≡ a.tuple → number ≡ a.number → peer.ip.family ≡ a.family → Asked a.user g.backed.since → IsWarranted hs n tuple number peer Asked
warranted setup hs n tuple number peer Asked a came g t m f asked =
    let b = g.backed in
    let pair = subst (λ (k : ℕ). (o : Opens a.tuple a.user k a.number b.opening) × (n < end_of a.tuple a.user k a.number (b.opening.moment + seconds o.granted) b.since)) (sym f) (b.opens, lt_of_lt_of_le g.live b.kept) in
    subst (λ (x : FiveTuple). IsWarranted hs n x number peer Asked) (sym t)
    (subst (λ (k : ℕ). IsWarranted hs n a.tuple k peer Asked) (sym m)
    (record { user = a.user; since = b.since; opening = b.opening; before = b.before; split = b.split; opens = pair.0; came = (since_of setup hs n a came b).1; kept = pair.1; asked = asked }))

-- ---- Data from a client

let_in : (setup : Setup) (hs : List Happening) (n : ℕ) (a : Relay) (ip : Ip) → AllByRecursion (λ h. h.moment ≤ n) hs → (g : IsGood setup hs n a) → is_permitted n ip a ≡ true → IsLetIn setup g.backed.since a.tuple a.user a.family n ip
let_in setup hs n a ip came g any = permitted setup g.backed.since a.tuple a.user a.family n ip a.permissions (since_of setup hs n a came g.backed).0 g.backed.permissions any

-- what a permission asks for is of the client whose 5-tuple this is
asked_as : (setup : Setup) (tuple : FiveTuple) (a : Relay) (n user : ℕ) (peer : Endpoint) (since : List Happening) → tuple ≡ a.tuple → ArePermitting setup a.tuple peer n user since → ArePermitting setup tuple peer n user since
asked_as setup tuple a n user peer since t some = subst (λ (x : FiveTuple). ArePermitting setup x peer n user since) (sym t) some

whole_kept : (dont_fragment keeps : Bool) → (not dont_fragment || keeps) ≡ true → dont_fragment ≡ true → keeps ≡ true
whole_kept true keeps e is = e
whole_kept false keeps e is = absurd (false≢true is)

sent_right : (setup : Setup) (hs : List Happening) (n : ℕ) (rules : Rules) (tuple : FiveTuple) (peer : Endpoint) (dont_fragment : Bool) (bytes : List ℕ) (a : Relay) → AllByRecursion (λ h. h.moment ≤ n) hs → is_for tuple peer.ip.family a ≡ true → IsGood setup hs n a
    → IsRight setup hs n rules (sends tuple peer dont_fragment bytes) (sent setup rules n peer dont_fragment bytes a)
sent_right setup hs n rules tuple peer dont_fragment bytes a came for g =
    let both = and_parts (is_of tuple a) (a.family == peer.ip.family) for in
    let same = tuple_same tuple a.tuple both.0 in
    cond_both (is_permitted n peer.ip a && (allows rules peer && (not dont_fragment || setup.supports_dont_fragment))) (to_peer a.number peer dont_fragment bytes) nothing (IsRight setup hs n rules (sends tuple peer dont_fragment bytes))
    (λ so.
    let one = and_parts (is_permitted n peer.ip a) (allows rules peer && (not dont_fragment || setup.supports_dont_fragment)) so in
    let two = and_parts (allows rules peer) (not dont_fragment || setup.supports_dont_fragment) one.1 in
    let l = let_in setup hs n a peer.ip came g one.0 in (
      tuple,
      two.0,
      inl (refl, whole_kept dont_fragment setup.supports_dont_fragment two.1, warranted setup hs n tuple a.number peer (ArePermitting setup tuple peer n) a came g same refl l.family_is (asked_as setup tuple a n a.user peer g.backed.since same l.asked)),
    ))
    (λ _. tt)

sent_by_right : (setup : Setup) (hs : List Happening) (n : ℕ) (rules : Rules) (tuple : FiveTuple) (number : ℕ) (bytes : List ℕ) (a : Relay) → AllByRecursion (λ h. h.moment ≤ n) hs → is_of tuple a ≡ true → (g : IsGood setup hs n a) → (c : Channel) → is_channel n number c ≡ true
    → IsAttached g.backed.since a.tuple a.user a.family c → IsRight setup hs n rules (sends_on tuple number bytes) (sent_by rules bytes a c)
sent_by_right setup hs n rules tuple number bytes a came of g c test attached =
    let both = and_parts (c.number == number) (nat_lt n c.expires_at) test in
    let same = tuple_same tuple a.tuple of in
    cond_both (allows rules c.peer) (to_peer a.number c.peer false bytes) nothing (IsRight setup hs n rules (sends_on tuple number bytes))
    (λ allowed. (
      tuple,
      allowed,
      inr (
        number,
        refl,
        refl,
        warranted setup hs n tuple a.number c.peer (AreBinding tuple number c.peer n) a came g same refl attached.family_is
            (subst (λ (x : FiveTuple). AreBinding x number c.peer n a.user g.backed.since) (sym same)
            (subst (λ (k : ℕ). AreBinding a.tuple k c.peer n a.user g.backed.since) (eqb-true c.number number both.0)
            (bound_by g.backed.since a.tuple a.user a.family n c (since_of setup hs n a came g.backed).0 attached both.1))),
      ),
    ))
    (λ _. tt)

sent_on_right : (setup : Setup) (hs : List Happening) (n : ℕ) (rules : Rules) (tuple : FiveTuple) (number : ℕ) (bytes : List ℕ) (a : Relay) → AllByRecursion (λ h. h.moment ≤ n) hs → has_channel n tuple number a ≡ true → IsGood setup hs n a
    → IsRight setup hs n rules (sends_on tuple number bytes) (sent_on rules n number bytes a)
sent_on_right setup hs n rules tuple number bytes a came has g =
    found (IsAttached g.backed.since a.tuple a.user a.family) (is_channel n number) (λ o. IsRight setup hs n rules (sends_on tuple number bytes) (option_map_or (sent_by rules bytes a) o nothing)) tt a.channels
    (λ c test attached. sent_by_right setup hs n rules tuple number bytes a came (and_parts (is_of tuple a) (list_any (is_channel n number) a.channels) has).0 g c test attached) g.backed.channels

-- ---- Data from a peer

received_right : (setup : Setup) (hs : List Happening) (n : ℕ) (rules : Rules) (number : ℕ) (peer : Endpoint) (bytes : List ℕ) (a : Relay) → AllByRecursion (λ h. h.moment ≤ n) hs → is_at number a ≡ true → IsGood setup hs n a
    → IsRight setup hs n rules (arrives number peer bytes) (received rules n peer bytes a)
received_right setup hs n rules number peer bytes a came at_it g =
    let here = sym (eqb-true a.number number at_it) in
    cond_both (is_permitted n peer.ip a && rules.allows_ip peer.ip) (option_map_or (by_channel peer bytes a) (find (is_channel_of n peer) a.channels) (to_client a.tuple peer bytes)) nothing (IsRight setup hs n rules (arrives number peer bytes))
    (λ so.
    let one = and_parts (is_permitted n peer.ip a) (rules.allows_ip peer.ip) so in
    let l = let_in setup hs n a peer.ip came g one.0 in
    found (IsAttached g.backed.since a.tuple a.user a.family) (is_channel_of n peer)
    (λ o. IsRight setup hs n rules (arrives number peer bytes) (option_map_or (by_channel peer bytes a) o (to_client a.tuple peer bytes)))
    (number, refl, one.1, warranted setup hs n a.tuple number peer (ArePermitting setup a.tuple peer n) a came g refl here l.family_is l.asked)
    a.channels
    (λ c test attached.
    let both = and_parts (is_endpoint c.peer peer) (nat_lt n c.expires_at) test in (
      number,
      peer,
      refl,
      one.1,
      warranted setup hs n a.tuple number peer (λ user since. ArePermitting setup a.tuple peer n user since × AreBinding a.tuple c.number peer n user since) a came g refl here l.family_is
          (l.asked, subst (λ (e : Endpoint). AreBinding a.tuple c.number e n a.user g.backed.since) (endpoint_same c.peer peer both.0) (bound_by g.backed.since a.tuple a.user a.family n c (since_of setup hs n a came g.backed).0 attached both.1)),
    )) g.backed.channels)
    (λ _. tt)

bounced_right : (setup : Setup) (hs : List Happening) (n : ℕ) (rules : Rules) (number : ℕ) (peer : Endpoint) (icmp : Icmp) (a : Relay) → AllByRecursion (λ h. h.moment ≤ n) hs → is_at number a ≡ true → IsGood setup hs n a
    → IsRight setup hs n rules (bounces number peer icmp) (bounced setup rules n peer icmp a)
bounced_right setup hs n rules number peer icmp a came at_it g =
    cond_both (is_permitted n peer.ip a && (rules.allows_ip peer.ip && (setup.passes_icmp && is_passed peer.ip.family icmp))) (to_client_icmp a.tuple peer icmp) nothing (IsRight setup hs n rules (bounces number peer icmp))
    (λ so.
    let one = and_parts (is_permitted n peer.ip a) (rules.allows_ip peer.ip && (setup.passes_icmp && is_passed peer.ip.family icmp)) so in
    let two = and_parts (rules.allows_ip peer.ip) (setup.passes_icmp && is_passed peer.ip.family icmp) one.1 in
    let three = and_parts setup.passes_icmp (is_passed peer.ip.family icmp) two.1 in
    let l = let_in setup hs n a peer.ip came g one.0 in
    (number, refl, two.0, three.0, three.1, warranted setup hs n a.tuple number peer (ArePermitting setup a.tuple peer n) a came g refl (sym (eqb-true a.number number at_it)) l.family_is l.asked))
    (λ _. tt)

-- ---- Responses

-- a step whose output is an answer to this client
pub record Answers (tuple : FiveTuple) (o : Output) : Type 0 where
  pub answer : Answer
  pub is : o ≡ answers tuple answer

again_answers : (setup : Setup) (tuple : FiveTuple) (user : ℕ) (request : Request) (state : State) → is_again tuple user request state ≡ true → Answers tuple (answers_again setup tuple request state)
again_answers setup tuple user (allocate id lifetime wants) state is = record { answer = allocation_answer setup tuple (left_of tuple state) wants state; is = refl }
again_answers setup tuple user (unfit_allocate code) state is = absurd (false≢true is)
again_answers setup tuple user (refresh family lifetime) state is = absurd (false≢true is)
again_answers setup tuple user (permit peers) state is = absurd (false≢true is)
again_answers setup tuple user (bind number peer) state is = absurd (false≢true is)
again_answers setup tuple user (unfit code) state is = absurd (false≢true is)

fulfil_answers : (setup : Setup) (tuple : FiveTuple) (user : ℕ) (request : Request) (state : State) → Answers tuple (fulfils setup tuple user request state).output
fulfil_answers setup tuple user (allocate id lifetime wants) state = record { answer = _; is = refl }
fulfil_answers setup tuple user (unfit_allocate code) state = record { answer = done; is = refl }
fulfil_answers setup tuple user (refresh family lifetime) state =
    let granted = refreshed_for lifetime setup.greatest_lifetime in
    cond_both (granted == 0) (closing (λ a. is_owned tuple user a && is_wanted family a) (answers tuple (refreshed granted)) state)
    (keeping (changed tuple user (lasting family (state.clock + seconds granted)) state) (answers tuple (refreshed granted))) (λ s. Answers tuple s.output)
    (λ _. record { answer = refreshed granted; is = refl }) (λ _. record { answer = refreshed granted; is = refl })
fulfil_answers setup tuple user (permit peers) state = record { answer = done; is = refl }
fulfil_answers setup tuple user (bind number peer) state = record { answer = done; is = refl }
fulfil_answers setup tuple user (unfit code) state = record { answer = done; is = refl }

pub serve_answers : (setup : Setup) (rules : Rules) (tuple : FiveTuple) (user : ℕ) (request : Request) (state : State) → Answers tuple (serves setup rules tuple user request state).output
serve_answers setup rules tuple user request state =
    serve_cases setup rules tuple user request state (λ s. Answers tuple s.output) (λ code _ _. record { answer = refused code; is = refl }) (λ again. again_answers setup tuple user request state again) (λ _ _. fulfil_answers setup tuple user request state)

-- ---- The step

all_good : (setup : Setup) (events : List Timed) (now : ℕ) → AllByRecursion (IsGood setup (history setup events) (max (run setup events).clock now)) (at now (run setup events)).relays
all_good setup events now =
    let n = max (run setup events).clock now in
    each_filtered (IsBacked setup (history setup events)) (IsGood setup (history setup events) n) (is_live n) (λ a live b. record { backed = b; live = ltb-true n a.expires_at live }) (run setup events).relays (run_backed setup events)

came_by : (setup : Setup) (events : List Timed) (now : ℕ) → AllByRecursion (λ h. h.moment ≤ max (run setup events).clock now) (history setup events)
came_by setup events now = each_map (λ h. h.moment ≤ (run setup events).clock) (λ h. h.moment ≤ max (run setup events).clock now) (λ h le. omega (arith, le)) (history setup events) (moments_before setup events)

event_right : (setup : Setup) (earlier : List Timed) (now : ℕ) (rules : Rules) (event : Event)
    → IsRight setup (history setup earlier) (max (run setup earlier).clock now) rules event (step setup rules (run setup earlier) now event).output
event_right setup earlier now rules (asks tuple user request) =
    let hs = history setup earlier in
    let n = max (run setup earlier).clock now in
    let a = serve_answers setup rules tuple user request (at now (run setup earlier)) in
    subst (IsRight setup hs n rules (asks tuple user request)) (sym a.is) (user, request, refl)
event_right setup earlier now rules (sends tuple peer dont_fragment bytes) =
    let hs = history setup earlier in
    let n = max (run setup earlier).clock now in
    found (IsGood setup hs n) (is_for tuple peer.ip.family) (λ o. IsRight setup hs n rules (sends tuple peer dont_fragment bytes) (option_map_or (sent setup rules n peer dont_fragment bytes) o nothing)) tt (at now (run setup earlier)).relays
    (λ a for g. sent_right setup hs n rules tuple peer dont_fragment bytes a (came_by setup earlier now) for g) (all_good setup earlier now)
event_right setup earlier now rules (sends_on tuple number bytes) =
    let hs = history setup earlier in
    let n = max (run setup earlier).clock now in
    found (IsGood setup hs n) (has_channel n tuple number) (λ o. IsRight setup hs n rules (sends_on tuple number bytes) (option_map_or (sent_on rules n number bytes) o nothing)) tt (at now (run setup earlier)).relays
    (λ a has g. sent_on_right setup hs n rules tuple number bytes a (came_by setup earlier now) has g) (all_good setup earlier now)
event_right setup earlier now rules (arrives number peer bytes) =
    let hs = history setup earlier in
    let n = max (run setup earlier).clock now in
    found (IsGood setup hs n) (is_at number) (λ o. IsRight setup hs n rules (arrives number peer bytes) (option_map_or (received rules n peer bytes) o nothing)) tt (at now (run setup earlier)).relays
    (λ a it g. received_right setup hs n rules number peer bytes a (came_by setup earlier now) it g) (all_good setup earlier now)
event_right setup earlier now rules (bounces number peer icmp) =
    let hs = history setup earlier in
    let n = max (run setup earlier).clock now in
    found (IsGood setup hs n) (is_at number) (λ o. IsRight setup hs n rules (bounces number peer icmp) (option_map_or (bounced setup rules n peer icmp) o nothing)) tt (at now (run setup earlier)).relays
    (λ a it g. bounced_right setup hs n rules number peer icmp a (came_by setup earlier now) it g) (all_good setup earlier now)
event_right setup earlier now rules (ends number) = tt
event_right setup earlier now rules (ends_user user) = tt
event_right setup earlier now rules ticks = tt

pub run_right : (setup : Setup) (earlier : List Timed) (t : Timed)
    → let h = happening setup (run setup earlier) t in IsRight setup (history setup earlier) h.moment h.rules h.event h.output
run_right setup earlier t = event_right setup earlier t.now t.rules t.event
