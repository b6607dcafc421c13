-- Each step leaves the state resting on what has happened.
use Rattle.std.proofs.Common.{◌≡◌, ℕ, ◌+◌, ◌≤◌, inl, inr, ◌⊎◌, Bool, true, false, not, cond, List, [], ◌∷◌, map, filter, Option, None, Some, refl, sym, ap, ◌∙◌, subst, eqb-true, eq-eqb, le_of_eq}
use Rattle.std.specs.List.{AllByRecursion, list_any}
use Rattle.std.specs.Option.{option_map_or}
use Rattle.std.specs.Prelude.{◌==◌, ◌&&◌, nat_lt, max}
use Rattle.std.proofs.lemmas.Bool.{cond_both, cond-true, cond-false, and_parts, and_from, or_from, or_left, or_right, false≢true}
use Rattle.stun_endpoints.specs.declared.endpoints.Ip.{Ip}
use Rattle.stun_endpoints.specs.declared.endpoints.Endpoint.{Endpoint}
use Rattle.stun_endpoints.specs.declared.endpoints.FiveTuple.{FiveTuple}
use Rattle.stun_endpoints.specs.Endpoints.{is_ip, is_tuple}
use Rattle.turn_machine.specs.Lists.{SomeOf}
use Rattle.turn_machine.specs.Relays.{seconds, Permission, Relay, Setup, Rules, State, is_live, is_of, is_users, is_owned, is_at, bound_for}
use Rattle.turn_machine.specs.Events.{Want, Request, allocate, unfit_allocate, refresh, permit, bind, unfit, Event, asks, sends, sends_on, arrives, bounces, ends, ends_user, ticks, allocated, refreshed, done, Output, answers, refused}
use Rattle.turn_machine.specs.Times.{at, granted_for, refreshed_for}
use Rattle.turn_machine.specs.Opening.{opens, given_to, missing_to}
use Rattle.turn_machine.specs.Rows.{is_other_permission, with_permissions, peers_of, permissions_after, is_other_channel, fault}
use Rattle.turn_machine.specs.Data.{allows}
use Rattle.turn_machine.specs.Steps.{Step, changed, without, closing, is_wanted, lasting, permitting, binding, keeping, refreshes, fulfils, serves, happens, step}
use Rattle.turn_machine.specs.Runs.{Timed, Happening, run, happening, history}
use Rattle.turn_machine.specs.Warrants.{is_refresh, refreshed_in, refreshed_to, is_ended, end_of, names, Renews}
use Rattle.stun_endpoints.proofs.AddressesLemmas.{tuple_same, tuple_is_itself, ip_same, ip_is_itself}
use Rattle.turn_machine.specs.Granting.{given_of}
use Rattle.turn_machine.proofs.ListsLemmas.{each_map, each_both, each_filter, each_filtered, each_mapped, all_each, left_false, right_false}
use Rattle.turn_machine.proofs.RowsLemmas.{not_true, not_yes, permit_none, bind_none}
use Rattle.turn_machine.proofs.CasesLemmas.{serve_cases}
use Rattle.turn_machine.proofs.KeepingLemmas.{opens_keep, granted_least, later}
use Rattle.turn_machine.proofs.KeptLemmas.{bound_after, each_changed}
use Rattle.turn_machine.proofs.HoldingLemmas.{among}
use Rattle.turn_machine.proofs.WorksLemmas.{again_idle}
use Rattle.turn_machine.proofs.Backed.{AreInstalling, IsInstalled, IsAttached, IsBacked, installed_on, permissions_on, channels_on, end_on, backed_on, not_refreshed, not_refresh}

abbrev AreBacked : Setup → List Happening → State → Type 0
AreBacked setup hs state = AllByRecursion (IsBacked setup hs) state.relays

-- it is no CreatePermission request of the client and its user that succeeds
abbrev NeverRenews : Happening → Relay → Type 0
NeverRenews h a = (ip : Ip) → ¬ (Renews a.tuple a.user ip h)

-- all stay so, if nothing is refreshed, ended or permitted
all_on : (setup : Setup) (h : Happening) (hs : List Happening) → ((a : Relay) → is_ended a.user a.number h.event ≡ false) → ((a : Relay) → refreshed_to a.tuple a.user a.family h ≡ None) → ((a : Relay) → NeverRenews h a) → (all : List Relay) → AllByRecursion (IsBacked setup hs) all → AllByRecursion (IsBacked setup (h ∷ hs)) all
all_on setup h hs not_ended quiet never all = each_map (IsBacked setup hs) (IsBacked setup (h ∷ hs)) (λ a b. backed_on setup h hs a (not_ended a) (quiet a) (never a) b) all

-- ---- A request of this client and this user is one of the relayed address's

record Says (h : Happening) (now : ℕ) (rules : Rules) (tuple : FiveTuple) (user : ℕ) (request : Request) (output : Output) : Type 0 where
  moment : h.moment ≡ now
  rules_are : h.rules ≡ rules
  asked : h.event ≡ asks tuple user request
  reply : h.output ≡ output

same_asked : (tuple : FiveTuple) (user : ℕ) (a : Relay) (request : Request) → is_owned tuple user a ≡ true → asks tuple user request ≡ asks a.tuple a.user request
same_asked tuple user a request his =
    let both = and_parts (is_of tuple a) (is_users user a) his in
    ap (λ (t : FiveTuple). asks t user request) (tuple_same tuple a.tuple both.0) ∙ ap (λ (u : ℕ). asks a.tuple u request) (sym (eqb-true a.user user both.1))

same_told : (tuple : FiveTuple) (user : ℕ) (a : Relay) → is_owned tuple user a ≡ true → answers tuple done ≡ answers a.tuple done
same_told tuple user a his = ap (λ (t : FiveTuple). answers t done) (tuple_same tuple a.tuple (and_parts (is_of tuple a) (is_users user a) his).0)

-- ---- Permissions

-- installed now; or before, and for none of these peers
abbrev IsRenewed : Setup → Happening → List Happening → FiveTuple → (user family : ℕ) → List Endpoint → Permission → Type 0
IsRenewed setup h since tuple user family peers p =
    IsInstalled setup (h ∷ since) tuple user family p ⊎ (IsInstalled setup since tuple user family p × (list_any (λ (q : Endpoint). is_ip p.ip q.ip) peers ≡ false))

-- the test is symmetric
apart_ip : (ip new : Ip) → is_ip new ip ≡ false → is_ip ip new ≡ false
apart_ip ip new apart = not_true (is_ip ip new) (λ same. false≢true (sym apart ∙ subst (λ (i : Ip). is_ip i ip ≡ true) (ip_same ip new same) (ip_is_itself ip)))

-- each permission after a CreatePermission request is renewed, or is for none of its peers
renewed_all : (setup : Setup) (h : Happening) (since : List Happening) (tuple : FiveTuple) (user family now : ℕ) (request : Request) (peers : List Endpoint) (ps : List Permission)
    → h.moment ≡ now → h.event ≡ asks tuple user request → h.output ≡ answers tuple done
    → AllByRecursion (λ peer. (names peer.ip request ≡ true) × (h.rules.allows_ip peer.ip ≡ true) × (peer.ip.family ≡ family)) peers
    → AllByRecursion (IsInstalled setup since tuple user family) ps → AllByRecursion (IsRenewed setup h since tuple user family peers) (with_permissions now peers ps)
renewed_all setup h since tuple user family now request [] ps moment asked reply fit each =
    each_map (IsInstalled setup since tuple user family) (IsRenewed setup h since tuple user family []) (λ p is. inr (is, refl)) ps each
renewed_all setup h since tuple user family now request (peer ∷ peers) ps moment asked reply fit each = (
  inl (record { by = inl (inl (record { request = request; asked = asked; named = fit.0.0; allowed = fit.0.1; succeeded = reply; ends = ap (λ (m : ℕ). m + seconds 300) moment })); family_is = fit.0.2 }),
  each_filtered (IsRenewed setup h since tuple user family peers) (IsRenewed setup h since tuple user family (peer ∷ peers)) (is_other_permission now peer.ip)
      (λ p other renewed. elim renewed [
        | inl new ↦ inl new
        | inr old ↦ inr (
          old.0,
          or_from (is_ip p.ip peer.ip) (list_any (λ (q : Endpoint). is_ip p.ip q.ip) peers) (apart_ip p.ip peer.ip (not_yes (is_ip peer.ip p.ip) (and_parts (not (is_ip peer.ip p.ip)) (nat_lt now p.expires_at) other).0)) old.1,
        )
      ]) (with_permissions now peers ps) (renewed_all setup h since tuple user family now request peers ps moment asked reply fit.1 each),
)

-- a CreatePermission request installs for the peers that it names, and leaves the others
installed_all : (setup : Setup) (h : Happening) (since : List Happening) (tuple : FiveTuple) (user now : ℕ) (peers : List Endpoint) (a : Relay)
    → h.moment ≡ now → h.event ≡ asks tuple user (permit peers) → h.output ≡ answers tuple done
    → AllByRecursion (λ peer. (names peer.ip (permit peers) ≡ true) × (h.rules.allows_ip peer.ip ≡ true) × (peer.ip.family ≡ a.family)) (peers_of a peers)
    → AllByRecursion (IsInstalled setup since tuple user a.family) a.permissions → AllByRecursion (IsInstalled setup (h ∷ since) tuple user a.family) (permissions_after now peers a)
installed_all setup h since tuple user now peers a moment asked reply fit each =
    each_map (IsRenewed setup h since tuple user a.family (peers_of a peers)) (IsInstalled setup (h ∷ since) tuple user a.family)
    (λ p renewed. elim renewed [
      | inl new ↦ new
      | inr old ↦ installed_on setup h since tuple user a.family p
          (λ r.
          let e : asks tuple user (permit r.peers) ≡ asks tuple user (permit peers) = sym r.asked ∙ asked in
          let same : r.peers ≡ peers = cc in
          false≢true (sym old.1 ∙ among p.ip a peers old.0.family_is (subst (λ (l : List Endpoint). list_any (λ (q : Endpoint). is_ip p.ip q.ip) l ≡ true) same r.named))) old.0
    ]) (permissions_after now peers a) (renewed_all setup h since tuple user a.family now (permit peers) (peers_of a peers) a.permissions moment asked reply fit each)

-- a ChannelBind request installs for its peer, as long as the setup says
bound_installing : (setup : Setup) (h : Happening) (since : List Happening) (tuple : FiveTuple) (user now number : ℕ) (peer : Endpoint) → h.moment ≡ now → h.event ≡ asks tuple user (bind number peer) → h.output ≡ answers tuple done → allows h.rules peer ≡ true
    → AreInstalling setup tuple user peer.ip (now + seconds (bound_for setup)) (h ∷ since)
bound_installing setup h since tuple user now number peer moment asked reply allowed =
    cond_both setup.channel_permits 600 300 (λ (n : ℕ). AreInstalling setup tuple user peer.ip (now + seconds n) (h ∷ since))
    (λ on. inr (on, inl (record { channel = number; peer = peer; ip_is = refl; attaches = record { asked = asked; allowed = allowed; succeeded = reply; ends = ap (λ (m : ℕ). m + seconds 600) moment } })))
    (λ _. inl (inl (record { request = bind number peer; asked = asked; named = ip_is_itself peer.ip; allowed = (and_parts (h.rules.allows_ip peer.ip) (h.rules.allows_port peer) allowed).0; succeeded = reply; ends = ap (λ (m : ℕ). m + seconds 300) moment })))

each_any : {X : Type 0} (R : X → X → Bool) → ((x : X) → R x x ≡ true) → (xs : List X) → AllByRecursion (λ x. list_any (R x) xs ≡ true) xs
each_any R same [] = tt
each_any R same (x ∷ xs) = (
  or_left (R x x) (list_any (R x) xs) (same x),
  each_map (λ y. list_any (R y) xs ≡ true) (λ y. list_any (R y) (x ∷ xs) ≡ true) (λ y is. or_right (R y x) (list_any (R y) xs) is) xs (each_any R same xs),
)

-- the peers that a request names, of a relayed address
named_of : (rules : Rules) (request : Request) (a : Relay) (peers : List Endpoint) → AllByRecursion (λ peer. names peer.ip request ≡ true) peers → AllByRecursion (λ peer. rules.allows_ip peer.ip ≡ true) peers
    → AllByRecursion (λ peer. (names peer.ip request ≡ true) × (rules.allows_ip peer.ip ≡ true) × (peer.ip.family ≡ a.family)) (peers_of a peers)
named_of rules request a peers named allowed =
    each_filtered (λ peer. (names peer.ip request ≡ true) × (rules.allows_ip peer.ip ≡ true)) (λ peer. (names peer.ip request ≡ true) × (rules.allows_ip peer.ip ≡ true) × (peer.ip.family ≡ a.family)) (λ peer. peer.ip.family == a.family)
    (λ peer of both. (both.0, both.1, eqb-true peer.ip.family a.family of)) peers
    (each_both (λ peer. names peer.ip request ≡ true) (λ peer. rules.allows_ip peer.ip ≡ true) (λ peer. (names peer.ip request ≡ true) × (rules.allows_ip peer.ip ≡ true)) (λ peer one other. (one, other)) peers named allowed)

permitting_backed : (setup : Setup) (h : Happening) (hs : List Happening) (now : ℕ) (rules : Rules) (tuple : FiveTuple) (user : ℕ) (peers : List Endpoint) (a : Relay) → Says h now rules tuple user (permit peers) (answers tuple done)
    → AllByRecursion (λ peer. rules.allows_ip peer.ip ≡ true) peers → is_owned tuple user a ≡ true → IsBacked setup hs a → IsBacked setup (h ∷ hs) (permitting now peers a)
permitting_backed setup h hs now rules tuple user peers a says allowed his b = record {
  since = h ∷ b.since;
  opening = b.opening;
  before = b.before;
  split = ap (λ (l : List Happening). h ∷ l) b.split;
  opens = b.opens;
  kept = end_on setup h hs a b (ap (is_ended a.user a.number) says.asked) (not_refreshed a.tuple a.user a.family h (ap refreshed_in says.reply));
  permissions = installed_all setup h b.since a.tuple a.user now peers a says.moment (says.asked ∙ same_asked tuple user a (permit peers) his) (says.reply ∙ same_told tuple user a his)
      (subst (λ (r : Rules). AllByRecursion (λ peer. (names peer.ip (permit peers) ≡ true) × (r.allows_ip peer.ip ≡ true) × (peer.ip.family ≡ a.family)) (peers_of a peers)) (sym says.rules_are)
      (named_of rules (permit peers) a peers (each_any (λ p q. is_ip p.ip q.ip) (λ p. ip_is_itself p.ip) peers) allowed))
      b.permissions;
  channels = channels_on h b.since a.tuple a.user a.family a.channels b.channels;
}

binding_backed : (setup : Setup) (h : Happening) (hs : List Happening) (now : ℕ) (rules : Rules) (tuple : FiveTuple) (user number : ℕ) (peer : Endpoint) (a : Relay) → Says h now rules tuple user (bind number peer) (answers tuple done)
    → rules.allows_ip peer.ip ≡ true → rules.allows_port peer ≡ true → is_owned tuple user a ≡ true → (peer.ip.family == a.family) ≡ true → IsBacked setup hs a → IsBacked setup (h ∷ hs) (bound_after (bound_for setup) now number peer a)
binding_backed setup h hs now rules tuple user number peer a says allowed port his of b =
    let asked = says.asked ∙ same_asked tuple user a (bind number peer) his in
    let reply = says.reply ∙ same_told tuple user a his in
    let fits = subst (λ (r : Rules). allows r peer ≡ true) (sym says.rules_are) (and_from (rules.allows_ip peer.ip) (rules.allows_port peer) allowed port) in
    let same = eqb-true peer.ip.family a.family of in record {
      since = h ∷ b.since;
      opening = b.opening;
      before = b.before;
      split = ap (λ (l : List Happening). h ∷ l) b.split;
      opens = b.opens;
      kept = end_on setup h hs a b (ap (is_ended a.user a.number) says.asked) (not_refreshed a.tuple a.user a.family h (ap refreshed_in says.reply));
      permissions = (
        record { by = bound_installing setup h b.since a.tuple a.user now number peer says.moment asked reply fits; family_is = same },
        each_filter (IsInstalled setup (h ∷ b.since) a.tuple a.user a.family) (is_other_permission now peer.ip) a.permissions
            (permissions_on setup h b.since a.tuple a.user a.family a.permissions (λ ip r. let e : asks a.tuple a.user (bind number peer) ≡ asks a.tuple a.user (permit r.peers) = sym asked ∙ r.asked in absurd cc) b.permissions),
      );
      channels = (
        record {
          by = inl (record {
            asked = asked;
            allowed = fits;
            succeeded = reply;
            ends = ap (λ (m : ℕ). m + seconds 600) says.moment;
          });
          family_is = same;
        },
        each_filter (IsAttached (h ∷ b.since) a.tuple a.user a.family) (is_other_channel now number) a.channels (channels_on h b.since a.tuple a.user a.family a.channels b.channels),
      );
    }

-- ---- Refresh

lasting_backed : (setup : Setup) (h : Happening) (hs : List Happening) (now : ℕ) (rules : Rules) (tuple : FiveTuple) (user granted : ℕ) (wanted lifetime : Option ℕ) (a : Relay) → Says h now rules tuple user (refresh wanted lifetime) (answers tuple (refreshed granted))
    → IsBacked setup hs a → IsBacked setup (h ∷ hs) (cond (is_owned tuple user a) (lasting wanted (now + seconds granted) a) a)
lasting_backed setup h hs now rules tuple user granted wanted lifetime a says b =
    let never : NeverRenews h a = λ ip r. let e : answers tuple (refreshed granted) ≡ answers a.tuple done = sym says.reply ∙ r.succeeded in absurd cc in
    let test = is_owned tuple user a && is_wanted wanted a in
    let is : is_refresh a.tuple a.user a.family h.event ≡ test = ap (is_refresh a.tuple a.user a.family) says.asked in
    let calm : is_ended a.user a.number h.event ≡ false = ap (is_ended a.user a.number) says.asked in
    let after : Relay = record a { expires_at = now + seconds granted } in
    let same : test ≡ false → IsBacked setup (h ∷ hs) a = λ off. backed_on setup h hs a calm (not_refresh a.tuple a.user a.family h (is ∙ off)) never b in
    cond_both (is_owned tuple user a) (lasting wanted (now + seconds granted) a) a (IsBacked setup (h ∷ hs))
    (λ his. cond_both (is_wanted wanted a) after a (IsBacked setup (h ∷ hs))
    (λ of.
    let rest = end_of a.tuple a.user a.family a.number (b.opening.moment + seconds b.opens.granted) b.since in
    let refreshed_is : refreshed_to a.tuple a.user a.family h ≡ Some granted =
    cond-true (is_refresh a.tuple a.user a.family h.event) (refreshed_in h.output) None (is ∙ and_from (is_owned tuple user a) (is_wanted wanted a) his of) ∙ ap refreshed_in says.reply in
    let later_is : IsBacked setup (h ∷ hs) after = record {
      since = h ∷ b.since;
      opening = b.opening;
      before = b.before;
      split = ap (λ (l : List Happening). h ∷ l) b.split;
      opens = b.opens;
      kept = le_of_eq (ap (λ (m : ℕ). m + seconds granted) (sym says.moment)
          ∙ sym (cond-false (is_ended a.user a.number h.event) 0 (option_map_or (λ l. h.moment + seconds l) (refreshed_to a.tuple a.user a.family h) rest) calm
          ∙ ap (λ (o : Option ℕ). option_map_or (λ l. h.moment + seconds l) o rest) refreshed_is));
      permissions = permissions_on setup h b.since a.tuple a.user a.family a.permissions never b.permissions;
      channels = channels_on h b.since a.tuple a.user a.family a.channels b.channels;
    } in later_is)
    (λ off. same (right_false (is_owned tuple user a) (is_wanted wanted a) off)))
    (λ off. same (left_false (is_owned tuple user a) (is_wanted wanted a) off))

-- what ends leaves the state; the rest stays so
without_backed : (setup : Setup) (h : Happening) (hs : List Happening) (test : Relay → Bool) (state : State) → ((a : Relay) → test a ≡ false → IsBacked setup hs a → IsBacked setup (h ∷ hs) a) → AreBacked setup hs state → AreBacked setup (h ∷ hs) (without test state)
without_backed setup h hs test state on each =
    each_filtered (IsBacked setup hs) (IsBacked setup (h ∷ hs)) (λ a. not (test a)) (λ a kept b. on a (not_yes (test a) kept) b) state.relays each

-- ---- Allocate

-- backed, or new
record IsNew (tuple : FiveTuple) (user expires_at : ℕ) (a : Relay) : Type 0 where
  tuple_is : a.tuple ≡ tuple
  user_is : a.user ≡ user
  until_is : a.expires_at ≡ expires_at
  no_permissions : a.permissions ≡ []
  no_channels : a.channels ≡ []

abbrev IsEither : Setup → Happening → List Happening → FiveTuple → (user expires_at : ℕ) → Relay → Type 0
IsEither setup h hs tuple user expires_at a = IsBacked setup (h ∷ hs) a ⊎ IsNew tuple user expires_at a

-- each relayed address of the client is among those that it is given
each_given : (tuple : FiveTuple) (all : List Relay) → AllByRecursion (λ a. is_of tuple a ≡ true → SomeOf (λ g. (g.family ≡ a.family) × (g.number ≡ a.number)) (map given_of (filter (is_of tuple) all))) all
each_given tuple [] = tt
each_given tuple (x ∷ all) = (
  λ is. subst (λ (l : List Relay). SomeOf (λ g. (g.family ≡ x.family) × (g.number ≡ x.number)) (map given_of l)) (sym (cond-true (is_of tuple x) (x ∷ filter (is_of tuple) all) (filter (is_of tuple) all) is)) (inl (refl, refl)),
  each_map (λ a. is_of tuple a ≡ true → SomeOf (λ g. (g.family ≡ a.family) × (g.number ≡ a.number)) (map given_of (filter (is_of tuple) all)))
      (λ a. is_of tuple a ≡ true → SomeOf (λ g. (g.family ≡ a.family) × (g.number ≡ a.number)) (map given_of (filter (is_of tuple) (x ∷ all))))
      (λ a here is. cond_both (is_of tuple x) (x ∷ filter (is_of tuple) all) (filter (is_of tuple) all) (λ (l : List Relay). SomeOf (λ g. (g.family ≡ a.family) × (g.number ≡ a.number)) (map given_of l)) (λ _. inr (here is)) (λ _. here is)) all (each_given tuple all),
)

empty : {X : Type 0} (P : X → Type 0) (xs : List X) → xs ≡ [] → AllByRecursion P xs
empty P xs none = subst (AllByRecursion P) (sym none) tt

new_backed : (h : Happening) (hs : List Happening) (setup : Setup) (now : ℕ) (rules : Rules) (tuple : FiveTuple) (user id granted : ℕ) (lifetime : Option ℕ) (wants : List Want) (after : State) (a : Relay)
    → Says h now rules tuple user (allocate id lifetime wants) (answers tuple (allocated (given_to tuple after) granted (missing_to setup tuple wants after)))
    → (is_of tuple a ≡ true → SomeOf (λ g. (g.family ≡ a.family) × (g.number ≡ a.number)) (given_to tuple after)) → IsNew tuple user (now + seconds granted) a → IsBacked setup (h ∷ hs) a
new_backed h hs setup now rules tuple user id granted lifetime wants after a says among new = record {
  since = [];
  opening = h;
  before = hs;
  split = refl;
  opens = record {
    id = id;
    lifetime = lifetime;
    wants = wants;
    asked = says.asked ∙ (ap (λ (t : FiveTuple). asks t user (allocate id lifetime wants)) (sym new.tuple_is) ∙ ap (λ (u : ℕ). asks a.tuple u (allocate id lifetime wants)) (sym new.user_is));
    given = given_to tuple after;
    granted = granted;
    missing = missing_to setup tuple wants after;
    answered = says.reply ∙ ap (λ (t : FiveTuple). answers t (allocated (given_to tuple after) granted (missing_to setup tuple wants after))) (sym new.tuple_is);
    has = among (subst (λ (t : FiveTuple). is_tuple tuple t ≡ true) (sym new.tuple_is) (tuple_is_itself tuple));
  };
  kept = le_of_eq (new.until_is ∙ ap (λ (m : ℕ). m + seconds granted) (sym says.moment));
  permissions = empty (IsInstalled setup [] a.tuple a.user a.family) a.permissions new.no_permissions;
  channels = empty (IsAttached [] a.tuple a.user a.family) a.channels new.no_channels;
}

allocate_backed : (h : Happening) (hs : List Happening) (setup : Setup) (rules : Rules) (tuple : FiveTuple) (user id granted : ℕ) (lifetime : Option ℕ) (wants : List Want) (state : State)
    → let after = opens setup tuple user id (state.clock + seconds granted) wants state in 600 ≤ granted
    → Says h state.clock rules tuple user (allocate id lifetime wants) (answers tuple (allocated (given_to tuple after) granted (missing_to setup tuple wants after)))
    → AreBacked setup hs state → AreBacked setup (h ∷ hs) after
allocate_backed h hs setup rules tuple user id granted lifetime wants state least says each =
    let expires_at = state.clock + seconds granted in
    let after = opens setup tuple user id expires_at wants state in
    let on : AllByRecursion (IsEither setup h hs tuple user expires_at) state.relays = each_map (IsBacked setup hs) (IsEither setup h hs tuple user expires_at)
    (λ a b. inl (backed_on setup h hs a (ap (is_ended a.user a.number) says.asked) (not_refreshed a.tuple a.user a.family h (ap refreshed_in says.reply))
    (λ ip r. let e : asks tuple user (allocate id lifetime wants) ≡ asks a.tuple a.user (permit r.peers) = sym says.asked ∙ r.asked in absurd cc) b)) state.relays each in
    let either : AllByRecursion (IsEither setup h hs tuple user expires_at) after.relays = opens_keep setup (λ s. AllByRecursion (IsEither setup h hs tuple user expires_at) s.relays) tuple user id expires_at
    (λ want offer s _ _ _ q. (inr (record { tuple_is = refl; user_is = refl; until_is = refl; no_permissions = refl; no_channels = refl }), q)) wants state (later state.clock granted least) on in
    each_both (IsEither setup h hs tuple user expires_at) (λ a. is_of tuple a ≡ true → SomeOf (λ g. (g.family ≡ a.family) × (g.number ≡ a.number)) (given_to tuple after)) (IsBacked setup (h ∷ hs))
    (λ a one among. elim one [
      | inl b ↦ b
      | inr new ↦ new_backed h hs setup state.clock rules tuple user id granted lifetime wants after a says among new
    ]) after.relays either (each_given tuple after.relays)

-- ---- The step

abbrev AfterBacked : Setup → Happening → List Happening → Step → Type 0
AfterBacked setup h hs s = h.output ≡ s.output → AreBacked setup (h ∷ hs) s.state

asked_calm : (h : Happening) (tuple : FiveTuple) (user : ℕ) (request : Request) → h.event ≡ asks tuple user request → (a : Relay) → is_ended a.user a.number h.event ≡ false
asked_calm h tuple user request asked a = ap (is_ended a.user a.number) asked

refresh_backed : (setup : Setup) (h : Happening) (hs : List Happening) (rules : Rules) (tuple : FiveTuple) (user granted : ℕ) (wanted lifetime : Option ℕ) (state : State) → h.moment ≡ state.clock → h.rules ≡ rules → h.event ≡ asks tuple user (refresh wanted lifetime)
    → AreBacked setup hs state → AfterBacked setup h hs (refreshes tuple user wanted granted state)
refresh_backed setup h hs rules tuple user granted wanted lifetime state moment rules_are asked each =
    let never : (a : Relay) → NeverRenews h a = λ a ip r. let e : asks tuple user (refresh wanted lifetime) ≡ asks a.tuple a.user (permit r.peers) = sym asked ∙ r.asked in absurd cc in
    let test = λ (a : Relay). is_owned tuple user a && is_wanted wanted a in
    cond_both (granted == 0) (closing test (answers tuple (refreshed granted)) state) (keeping (changed tuple user (lasting wanted (state.clock + seconds granted)) state) (answers tuple (refreshed granted)))
    (AfterBacked setup h hs)
    (λ _ reply. without_backed setup h hs test state (λ a off b. backed_on setup h hs a (asked_calm h tuple user (refresh wanted lifetime) asked a) (not_refresh a.tuple a.user a.family h (ap (is_refresh a.tuple a.user a.family) asked ∙ off)) (never a) b) each)
    (λ _ reply. each_mapped (IsBacked setup hs) (IsBacked setup (h ∷ hs)) (λ a. cond (is_owned tuple user a) (lasting wanted (state.clock + seconds granted) a) a)
    (λ a b. lasting_backed setup h hs state.clock rules tuple user granted wanted lifetime a (record { moment = moment; rules_are = rules_are; asked = asked; reply = reply }) b) state.relays each)

fulfil_backed : (h : Happening) (hs : List Happening) (setup : Setup) (rules : Rules) (tuple : FiveTuple) (user : ℕ) (request : Request) (state : State) → h.moment ≡ state.clock → h.rules ≡ rules → h.event ≡ asks tuple user request
    → fault setup rules state tuple user request ≡ None → AreBacked setup hs state → AfterBacked setup h hs (fulfils setup tuple user request state)
fulfil_backed h hs setup rules tuple user (allocate id lifetime wants) state moment rules_are asked fit each reply =
    allocate_backed h hs setup rules tuple user id (granted_for lifetime setup.greatest_lifetime) lifetime wants state (granted_least lifetime setup.greatest_lifetime) (record { moment = moment; rules_are = rules_are; asked = asked; reply = reply }) each
fulfil_backed h hs setup rules tuple user (unfit_allocate code) state moment rules_are asked fit each reply =
    all_on setup h hs (asked_calm h tuple user (unfit_allocate code) asked) (λ a. not_refreshed a.tuple a.user a.family h (ap refreshed_in reply))
    (λ a ip r. let e : asks tuple user (unfit_allocate code) ≡ asks a.tuple a.user (permit r.peers) = sym asked ∙ r.asked in absurd cc) state.relays each
fulfil_backed h hs setup rules tuple user (refresh wanted lifetime) state moment rules_are asked fit each reply =
    refresh_backed setup h hs rules tuple user (refreshed_for lifetime setup.greatest_lifetime) wanted lifetime state moment rules_are asked each reply
fulfil_backed h hs setup rules tuple user (permit peers) state moment rules_are asked fit each reply =
    let fits = permit_none setup rules tuple user peers state fit in
    each_mapped (IsBacked setup hs) (IsBacked setup (h ∷ hs)) (λ a. cond (is_owned tuple user a) (permitting state.clock peers a) a)
    (λ a b. cond_both (is_owned tuple user a) (permitting state.clock peers a) a (IsBacked setup (h ∷ hs))
    (λ his. permitting_backed setup h hs state.clock rules tuple user peers a (record { moment = moment; rules_are = rules_are; asked = asked; reply = reply }) (all_each (λ peer. rules.allows_ip peer.ip) peers fits.allowed) his b)
    (λ other. backed_on setup h hs a (asked_calm h tuple user (permit peers) asked a) (not_refreshed a.tuple a.user a.family h (ap refreshed_in reply))
    (λ ip r.
    let e : asks tuple user (permit peers) ≡ asks a.tuple a.user (permit r.peers) = sym asked ∙ r.asked in
    let t : tuple ≡ a.tuple = cc in
    let u : a.user ≡ user = cc in
    false≢true (sym other ∙ and_from (is_of tuple a) (is_users user a) (subst (λ (x : FiveTuple). is_tuple tuple x ≡ true) t (tuple_is_itself tuple)) (eq-eqb a.user user u))) b)) state.relays each
fulfil_backed h hs setup rules tuple user (bind number peer) state moment rules_are asked fit each reply =
    let fits = bind_none setup rules tuple user number peer state fit in
    let on = λ (a : Relay) (b : IsBacked setup hs a). backed_on setup h hs a (asked_calm h tuple user (bind number peer) asked a) (not_refreshed a.tuple a.user a.family h (ap refreshed_in reply))
    (λ ip r. let e : asks tuple user (bind number peer) ≡ asks a.tuple a.user (permit r.peers) = sym asked ∙ r.asked in absurd cc) b in
    each_changed (IsBacked setup hs) (IsBacked setup (h ∷ hs)) tuple user (binding (bound_for setup) state.clock number peer) state on
    (λ a his b. cond_both (peer.ip.family == a.family) (bound_after (bound_for setup) state.clock number peer a) a (IsBacked setup (h ∷ hs))
    (λ of. binding_backed setup h hs state.clock rules tuple user number peer a (record { moment = moment; rules_are = rules_are; asked = asked; reply = reply }) fits.allowed fits.port his of b) (λ _. on a b)) each
fulfil_backed h hs setup rules tuple user (unfit code) state moment rules_are asked fit each reply =
    all_on setup h hs (asked_calm h tuple user (unfit code) asked) (λ a. not_refreshed a.tuple a.user a.family h (ap refreshed_in reply))
    (λ a ip r. let e : asks tuple user (unfit code) ≡ asks a.tuple a.user (permit r.peers) = sym asked ∙ r.asked in absurd cc) state.relays each

serve_backed : (h : Happening) (hs : List Happening) (setup : Setup) (rules : Rules) (tuple : FiveTuple) (user : ℕ) (request : Request) (state : State) → h.moment ≡ state.clock → h.rules ≡ rules → h.event ≡ asks tuple user request
    → AreBacked setup hs state → AfterBacked setup h hs (serves setup rules tuple user request state)
serve_backed h hs setup rules tuple user request state moment rules_are asked each =
    serve_cases setup rules tuple user request state (AfterBacked setup h hs)
    (λ code _ _ reply. all_on setup h hs (asked_calm h tuple user request asked) (λ a. not_refreshed a.tuple a.user a.family h (ap refreshed_in reply))
    (λ a ip r. let e : answers tuple (refused code) ≡ answers a.tuple done = sym reply ∙ r.succeeded in absurd cc) state.relays each)
    (λ again reply. all_on setup h hs (asked_calm h tuple user request asked) (λ a. not_refreshed a.tuple a.user a.family h (ap refreshed_in reply ∙ (again_idle setup tuple tuple user request state again).0))
    (λ a ip r. (again_idle setup tuple a.tuple user request state again).1 (sym reply ∙ r.succeeded)) state.relays each)
    (λ _ fit. fulfil_backed h hs setup rules tuple user request state moment rules_are asked fit each)

-- a datagram, or time
data_backed : (setup : Setup) (h : Happening) (hs : List Happening) (state : State) → ((a : Relay) → is_ended a.user a.number h.event ≡ false) → ((a : Relay) → is_refresh a.tuple a.user a.family h.event ≡ false) → ((t : FiveTuple) (u : ℕ) (r : Request) → h.event ≡ asks t u r → ⊥) → AreBacked setup hs state → AreBacked setup (h ∷ hs) state
data_backed setup h hs state calm quiet never each = all_on setup h hs calm (λ a. not_refresh a.tuple a.user a.family h (quiet a)) (λ a ip r. never a.tuple a.user (permit r.peers) r.asked) state.relays each

abbrev Now : Setup → State → ℕ → Rules → Event → Happening
Now setup state now rules event = happening setup state (record { now = now; rules = rules; event = event })

happens_backed : (setup : Setup) (hs : List Happening) (state : State) (now : ℕ) (rules : Rules) (event : Event) → AreBacked setup hs (at now state)
    → AreBacked setup (Now setup state now rules event ∷ hs) (happens setup rules (at now state) event).state
happens_backed setup hs state now rules (asks tuple user request) each = serve_backed (Now setup state now rules (asks tuple user request)) hs setup rules tuple user request (at now state) refl refl refl each refl
happens_backed setup hs state now rules (sends tuple peer dont_fragment bytes) each = data_backed setup (Now setup state now rules (sends tuple peer dont_fragment bytes)) hs (at now state) (λ _. refl) (λ _. refl) (λ _ _ _ e. absurd cc) each
happens_backed setup hs state now rules (sends_on tuple number bytes) each = data_backed setup (Now setup state now rules (sends_on tuple number bytes)) hs (at now state) (λ _. refl) (λ _. refl) (λ _ _ _ e. absurd cc) each
happens_backed setup hs state now rules (arrives number peer bytes) each = data_backed setup (Now setup state now rules (arrives number peer bytes)) hs (at now state) (λ _. refl) (λ _. refl) (λ _ _ _ e. absurd cc) each
happens_backed setup hs state now rules (bounces number peer icmp) each = data_backed setup (Now setup state now rules (bounces number peer icmp)) hs (at now state) (λ _. refl) (λ _. refl) (λ _ _ _ e. absurd cc) each
happens_backed setup hs state now rules (ends number) each =
    let h = Now setup state now rules (ends number) in
    without_backed setup h hs (is_at number) (at now state) (λ a off b. backed_on setup h hs a off (not_refresh a.tuple a.user a.family h refl) (λ ip r. absurd (let e = r.asked in cc)) b) each
happens_backed setup hs state now rules (ends_user user) each =
    let h = Now setup state now rules (ends_user user) in
    without_backed setup h hs (is_users user) (at now state) (λ a off b. backed_on setup h hs a off (not_refresh a.tuple a.user a.family h refl) (λ ip r. absurd (let e = r.asked in cc)) b) each
happens_backed setup hs state now rules ticks each = data_backed setup (Now setup state now rules ticks) hs (at now state) (λ _. refl) (λ _. refl) (λ _ _ _ e. absurd cc) each

step_backed : (setup : Setup) (hs : List Happening) (state : State) (now : ℕ) (rules : Rules) (event : Event) → AreBacked setup hs state
    → AreBacked setup (happening setup state (record { now = now; rules = rules; event = event }) ∷ hs) (step setup rules state now event).state
step_backed setup hs state now rules event each =
    happens_backed setup hs state now rules event (each_filter (IsBacked setup hs) (is_live (max state.clock now)) state.relays each)

pub run_backed : (setup : Setup) (events : List Timed) → AreBacked setup (history setup events) (run setup events)
run_backed setup [] = tt
run_backed setup (t ∷ events) = step_backed setup (history setup events) (run setup events) t.now t.rules t.event (run_backed setup events)
