-- What is permitted is relayed, and by the channel if one is bound.
use Rattle.std.proofs.Common.{◌≡◌, ℕ, ◌+◌, ◌≤◌, inl, inr, Bool, true, false, not, List, [], ◌∷◌, ◌++◌, find, Option, None, Some, refl, sym, ap, ◌∙◌, subst, eq-eqb, arith}
use Rattle.std.specs.List.{list_any}
use Rattle.std.specs.Option.{option_map_or}
use Rattle.std.specs.Prelude.{◌==◌, ◌&&◌, ◌||◌, max, nat_lt, count_by}
use Rattle.std.proofs.lemmas.Bool.{cond_both, cond-true, and_parts, and_from}
use Rattle.stun_endpoints.specs.declared.endpoints.Endpoint.{Endpoint}
use Rattle.stun_endpoints.specs.declared.endpoints.FiveTuple.{FiveTuple}
use Rattle.stun_endpoints.specs.Endpoints.{is_endpoint}
use Rattle.turn_machine.specs.Lists.{SomeOf}
use Rattle.turn_machine.specs.Relays.{seconds, Channel, Relay, Setup, Rules, is_live, is_of, is_for, is_at, is_permitted, is_channel, is_channel_of}
use Rattle.turn_machine.specs.Events.{sends, sends_on, arrives, bounces}
use Rattle.turn_machine.specs.Times.{at}
use Rattle.turn_machine.specs.Runs.{Timed, Happening, run, history}
use Rattle.turn_machine.specs.Warrants.{Binds}
use Rattle.stun_endpoints.proofs.AddressesLemmas.{endpoint_is_itself, tuple_same}
use Rattle.turn_machine.proofs.ListsLemmas.{find_true, count_filter, some_any}
use Rattle.turn_machine.proofs.GrantedLemmas.{found_is}
use Rattle.turn_machine.specs.Events.{Icmp, to_peer, to_client, to_client_on, to_client_icmp, nothing}
use Rattle.turn_machine.specs.Data.{allows, sent, sent_by, sent_on, has_channel, by_channel, received, is_passed, bounced}
use Rattle.turn_machine.specs.Warrants.{ArePermitting, AreBinding, IsRight}
use Rattle.turn_machine.specs.Works.{IsDue, output_of, Reaches, IsBoundTo}
use Rattle.turn_machine.proofs.ListsLemmas.{some_map}
use Rattle.turn_machine.proofs.NumbersLemmas.{run_once}
use Rattle.turn_machine.proofs.RightLemmas.{run_right}
use Rattle.turn_machine.proofs.GrantedLemmas.{some_found}
use Rattle.turn_machine.proofs.HoldingLemmas.{OuterStep, held_at}
use Rattle.turn_machine.proofs.ChannelsLemmas.{run_channels_once}
use Rattle.turn_machine.proofs.WorksLemmas.{has_found}
use Rattle.turn_machine.proofs.StayingLemmas.{only_one, run_held}

-- what is found is there
pub found_some : {X : Type 0} (test : X → Bool) (xs : List X) (a : X) → find test xs ≡ Some a → SomeOf (λ x. x ≡ a) xs
found_some test [] a is = absurd cc
found_some test (x ∷ xs) a is =
    cond_both (test x) (Some x) (find test xs) (λ o. o ≡ Some a → SomeOf (λ y. y ≡ a) (x ∷ xs)) (λ _ e. inl (cc)) (λ _ e. inr (found_some test xs a e)) is

-- it is the one that another test finds, if at most one passes that
pub found_too : {X : Type 0} (test other : X → Bool) (xs : List X) (a : X) → find test xs ≡ Some a → other a ≡ true → count_by other xs ≤ 1 → find other xs ≡ Some a
found_too test other xs a is passes one =
    let some = some_map (λ x. x ≡ a) (λ x. (other x ≡ true) × (x ≡ a)) (λ x same. (subst (λ y. other y ≡ true) (sym same) passes, same)) xs (found_some test xs a is) in
    let here = some_found other xs (some_any other xs (some_map (λ x. (other x ≡ true) × (x ≡ a)) (λ x. other x ≡ true) (λ x b. b.0) xs some)) in
    here.1 ∙ ap (λ x. Some x) (only_one (λ x. x ≡ a) other xs here.0 one here.1 some)

abbrev Moment : Setup → List Timed → ℕ → ℕ
Moment setup earlier now = max (run setup earlier).clock now

abbrev HeldFor : (setup : Setup) (earlier : List Timed) (now : ℕ) (tuple : FiveTuple) (number : ℕ) (peer : Endpoint) (Asked : (user : ℕ) → List Happening → Type 0) → IsDue (history setup earlier) (Moment setup earlier now) tuple number peer Asked → Type 0
HeldFor setup earlier now tuple number peer Asked due =
    OuterStep setup tuple due.user number (due.opening.moment + seconds due.opens.granted) peer (Moment setup earlier now) due.since (at now (run setup earlier))

held_for : (setup : Setup) (earlier : List Timed) (now : ℕ) (tuple : FiveTuple) (number : ℕ) (peer : Endpoint) (Asked : (user : ℕ) → List Happening → Type 0) (due : IsDue (history setup earlier) (Moment setup earlier now) tuple number peer Asked) → HeldFor setup earlier now tuple number peer Asked due
held_for setup earlier now tuple number peer Asked due =
    let first = due.opening.moment + seconds due.opens.granted in
    let kept = due.kept in
    held_at setup tuple due.user number first peer (Moment setup earlier now) due.since (run setup earlier) now due.kept
    (run_held setup tuple due.user number peer (Moment setup earlier now) earlier due.since due.opening due.before due.split due.opens due.first (omega arith) due.lasted (omega (arith, kept)))

-- and the peer is permitted
permitted_by : (setup : Setup) (earlier : List Timed) (now : ℕ) (tuple : FiveTuple) (number : ℕ) (peer : Endpoint) (Asked : (user : ℕ) → List Happening → Type 0) (due : IsDue (history setup earlier) (Moment setup earlier now) tuple number peer Asked)
    (held : HeldFor setup earlier now tuple number peer Asked due) → ArePermitting setup tuple peer (Moment setup earlier now) due.user due.since → is_permitted (Moment setup earlier now) peer.ip held.a ≡ true
permitted_by setup earlier now tuple number peer Asked due held asked = elim asked [
  | inl some ↦ held.permits some
  | inr long ↦ held.permits_long long.0 long.1
]

-- at its socket
at_socket : (setup : Setup) (earlier : List Timed) (now : ℕ) (tuple : FiveTuple) (number : ℕ) (peer : Endpoint) (Asked : (user : ℕ) → List Happening → Type 0) (due : IsDue (history setup earlier) (Moment setup earlier now) tuple number peer Asked)
    (held : HeldFor setup earlier now tuple number peer Asked due) → find (is_at number) (at now (run setup earlier)).relays ≡ Some held.a
at_socket setup earlier now tuple number peer Asked due held =
    let state = run setup earlier in
    let once = (run_once setup earlier).once number in
    let fewer = count_filter (is_at number) (is_live (max state.clock now)) state.relays in
    found_too (is_for tuple peer.ip.family) (is_at number) (at now state).relays held.a held.found (eq-eqb held.a.number number held.number_is) (omega (arith, once, fewer))

-- and its client's
his_tuple : (setup : Setup) (earlier : List Timed) (now : ℕ) (tuple : FiveTuple) (number : ℕ) (peer : Endpoint) (Asked : (user : ℕ) → List Happening → Type 0) (due : IsDue (history setup earlier) (Moment setup earlier now) tuple number peer Asked)
    (held : HeldFor setup earlier now tuple number peer Asked due) → held.a.tuple ≡ tuple
his_tuple setup earlier now tuple number peer Asked due held =
    sym (tuple_same tuple held.a.tuple (and_parts (is_of tuple held.a) (held.a.family == peer.ip.family) (has_found tuple peer.ip.family (at now (run setup earlier)) held.a held.found)).0)

may_keep : (dont_fragment keeps : Bool) → (dont_fragment ≡ true → keeps ≡ true) → (not dont_fragment || keeps) ≡ true
may_keep true keeps f = f refl
may_keep false keeps f = refl

-- ---- From the client

pub goes_out : (setup : Setup) (earlier : List Timed) (now : ℕ) (rules : Rules) (tuple : FiveTuple) (number : ℕ) (peer : Endpoint) (dont_fragment : Bool) (bytes : List ℕ)
    → IsDue (history setup earlier) (Moment setup earlier now) tuple number peer (ArePermitting setup tuple peer (Moment setup earlier now)) → allows rules peer ≡ true → (dont_fragment ≡ true → setup.supports_dont_fragment ≡ true)
    → output_of setup earlier now rules (sends tuple peer dont_fragment bytes) ≡ to_peer number peer dont_fragment bytes
goes_out setup earlier now rules tuple number peer dont_fragment bytes due allowed can =
    let n = Moment setup earlier now in
    let held = held_for setup earlier now tuple number peer (ArePermitting setup tuple peer n) due in
    ap (λ (o : Option Relay). option_map_or (sent setup rules n peer dont_fragment bytes) o nothing) held.found
    ∙ (cond-true (is_permitted n peer.ip held.a && (allows rules peer && (not dont_fragment || setup.supports_dont_fragment))) (to_peer held.a.number peer dont_fragment bytes) nothing
    (and_from (is_permitted n peer.ip held.a) (allows rules peer && (not dont_fragment || setup.supports_dont_fragment)) (permitted_by setup earlier now tuple number peer (ArePermitting setup tuple peer n) due held due.asked) (and_from (allows rules peer) (not dont_fragment || setup.supports_dont_fragment) allowed (may_keep dont_fragment setup.supports_dont_fragment can)))
    ∙ ap (λ (k : ℕ). to_peer k peer dont_fragment bytes) held.number_is)

any_found : (n channel : ℕ) (cs : List Channel) (c : Channel) → find (is_channel n channel) cs ≡ Some c → list_any (is_channel n channel) cs ≡ true
any_found n channel cs c is = some_any (is_channel n channel) cs (some_map (λ d. d ≡ c) (λ d. is_channel n channel d ≡ true) (λ d same. subst (λ (x : Channel). is_channel n channel x ≡ true) (sym same) (find_true (is_channel n channel) cs c is)) cs (found_some (is_channel n channel) cs c is))

pub goes_on_channel : (setup : Setup) (earlier : List Timed) (now : ℕ) (rules : Rules) (tuple : FiveTuple) (number : ℕ) (peer : Endpoint) (channel : ℕ) (bytes : List ℕ)
    → IsDue (history setup earlier) (Moment setup earlier now) tuple number peer (AreBinding tuple channel peer (Moment setup earlier now)) → allows rules peer ≡ true
    → output_of setup earlier now rules (sends_on tuple channel bytes) ≡ to_peer number peer false bytes
goes_on_channel setup earlier now rules tuple number peer channel bytes due allowed =
    let n = Moment setup earlier now in
    let state = run setup earlier in
    let held = held_for setup earlier now tuple number peer (AreBinding tuple channel peer n) due in
    let has = held.bound channel due.asked in
    let of = (and_parts (is_of tuple held.a) (held.a.family == peer.ip.family) (has_found tuple peer.ip.family (at now state) held.a held.found)).0 in
    let once = (run_channels_once setup earlier).once tuple n channel (omega arith) in
    let fewer = count_filter (has_channel n tuple channel) (is_live n) state.relays in
    let found = found_too (is_for tuple peer.ip.family) (has_channel n tuple channel) (at now state).relays held.a held.found
    (and_from (is_of tuple held.a) (list_any (is_channel n channel) held.a.channels) of (any_found n channel held.a.channels has.c has.found)) (omega (arith, once, fewer)) in
    ap (λ (o : Option Relay). option_map_or (sent_on rules n channel bytes) o nothing) found
    ∙ (ap (λ (o : Option Channel). option_map_or (sent_by rules bytes held.a) o nothing) has.found
    ∙ (cond-true (allows rules has.c.peer) (to_peer held.a.number has.c.peer false bytes) nothing (subst (λ (e : Endpoint). allows rules e ≡ true) (sym has.is_dest) allowed)
    ∙ (ap (λ (e : Endpoint). to_peer held.a.number e false bytes) has.is_dest ∙ ap (λ (k : ℕ). to_peer k peer false bytes) held.number_is)))

-- ---- From the peer

reaches_by : (tuple : FiveTuple) (peer : Endpoint) (bytes : List ℕ) (a : Relay) → a.tuple ≡ tuple → (o : Option Channel) → Reaches tuple peer bytes (option_map_or (by_channel peer bytes a) o (to_client a.tuple peer bytes))
reaches_by tuple peer bytes a his None = inl (ap (λ (t : FiveTuple). to_client t peer bytes) his)
reaches_by tuple peer bytes a his (Some c) = inr (c.number, ap (λ (t : FiveTuple). to_client_on t c.number bytes) his)

-- what is done for it, by the channels
received_is : (setup : Setup) (earlier : List Timed) (now : ℕ) (rules : Rules) (tuple : FiveTuple) (number : ℕ) (peer : Endpoint) (bytes : List ℕ) (Asked : (user : ℕ) → List Happening → Type 0) (due : IsDue (history setup earlier) (Moment setup earlier now) tuple number peer Asked)
    (held : HeldFor setup earlier now tuple number peer Asked due) → is_permitted (Moment setup earlier now) peer.ip held.a ≡ true → rules.allows_ip peer.ip ≡ true
    → output_of setup earlier now rules (arrives number peer bytes) ≡ option_map_or (by_channel peer bytes held.a) (find (is_channel_of (Moment setup earlier now) peer) held.a.channels) (to_client held.a.tuple peer bytes)
received_is setup earlier now rules tuple number peer bytes Asked due held permitted allowed =
    let n = Moment setup earlier now in
    ap (λ (o : Option Relay). option_map_or (received rules n peer bytes) o nothing) (at_socket setup earlier now tuple number peer Asked due held)
    ∙ cond-true (is_permitted n peer.ip held.a && rules.allows_ip peer.ip) (option_map_or (by_channel peer bytes held.a) (find (is_channel_of n peer) held.a.channels) (to_client held.a.tuple peer bytes)) nothing
    (and_from (is_permitted n peer.ip held.a) (rules.allows_ip peer.ip) permitted allowed)

pub comes_back : (setup : Setup) (earlier : List Timed) (now : ℕ) (rules : Rules) (tuple : FiveTuple) (number : ℕ) (peer : Endpoint) (bytes : List ℕ)
    → IsDue (history setup earlier) (Moment setup earlier now) tuple number peer (ArePermitting setup tuple peer (Moment setup earlier now)) → rules.allows_ip peer.ip ≡ true
    → Reaches tuple peer bytes (output_of setup earlier now rules (arrives number peer bytes))
comes_back setup earlier now rules tuple number peer bytes due allowed =
    let n = Moment setup earlier now in
    let held = held_for setup earlier now tuple number peer (ArePermitting setup tuple peer n) due in
    subst (Reaches tuple peer bytes) (sym (received_is setup earlier now rules tuple number peer bytes (ArePermitting setup tuple peer n) due held (permitted_by setup earlier now tuple number peer (ArePermitting setup tuple peer n) due held due.asked) allowed))
    (reaches_by tuple peer bytes held.a (his_tuple setup earlier now tuple number peer (ArePermitting setup tuple peer n) due held) (find (is_channel_of n peer) held.a.channels))

pub news_comes : (setup : Setup) (earlier : List Timed) (now : ℕ) (rules : Rules) (tuple : FiveTuple) (number : ℕ) (peer : Endpoint) (icmp : Icmp)
    → IsDue (history setup earlier) (Moment setup earlier now) tuple number peer (ArePermitting setup tuple peer (Moment setup earlier now)) → rules.allows_ip peer.ip ≡ true → setup.passes_icmp ≡ true → is_passed peer.ip.family icmp ≡ true
    → output_of setup earlier now rules (bounces number peer icmp) ≡ to_client_icmp tuple peer icmp
news_comes setup earlier now rules tuple number peer icmp due allowed on passed =
    let n = Moment setup earlier now in
    let held = held_for setup earlier now tuple number peer (ArePermitting setup tuple peer n) due in
    ap (λ (o : Option Relay). option_map_or (bounced setup rules n peer icmp) o nothing) (at_socket setup earlier now tuple number peer (ArePermitting setup tuple peer n) due held)
    ∙ (cond-true (is_permitted n peer.ip held.a && (rules.allows_ip peer.ip && (setup.passes_icmp && is_passed peer.ip.family icmp))) (to_client_icmp held.a.tuple peer icmp) nothing
    (and_from (is_permitted n peer.ip held.a) (rules.allows_ip peer.ip && (setup.passes_icmp && is_passed peer.ip.family icmp)) (permitted_by setup earlier now tuple number peer (ArePermitting setup tuple peer n) due held due.asked)
    (and_from (rules.allows_ip peer.ip) (setup.passes_icmp && is_passed peer.ip.family icmp) allowed (and_from setup.passes_icmp (is_passed peer.ip.family icmp) on passed)))
    ∙ ap (λ (t : FiveTuple). to_client_icmp t peer icmp) (his_tuple setup earlier now tuple number peer (ArePermitting setup tuple peer n) due held))

-- ---- By the channel

abbrev Both : Setup → FiveTuple → (channel : ℕ) → Endpoint → (n user : ℕ) → List Happening → Type 0
Both setup tuple channel peer n user since = ArePermitting setup tuple peer n user since × AreBinding tuple channel peer n user since

pub comes_by_channel : (setup : Setup) (earlier : List Timed) (now : ℕ) (rules : Rules) (tuple : FiveTuple) (number : ℕ) (peer : Endpoint) (channel : ℕ) (bytes : List ℕ)
    → IsDue (history setup earlier) (Moment setup earlier now) tuple number peer (λ user since. ArePermitting setup tuple peer (Moment setup earlier now) user since × AreBinding tuple channel peer (Moment setup earlier now) user since) → rules.allows_ip peer.ip ≡ true
    → output_of setup earlier now rules (arrives number peer bytes) ≡ to_client_on tuple channel bytes
comes_by_channel setup earlier now rules tuple number peer channel bytes due allowed =
    let n = Moment setup earlier now in
    let held = held_for setup earlier now tuple number peer (Both setup tuple channel peer n) due in
    let has = held.bound channel due.asked.1 in
    let test = and_parts (has.c.number == channel) (nat_lt n has.c.expires_at) (find_true (is_channel n channel) held.a.channels has.c has.found) in
    let of_peer : is_channel_of n peer has.c ≡ true = and_from (is_endpoint has.c.peer peer) (nat_lt n has.c.expires_at) (subst (λ (e : Endpoint). is_endpoint e peer ≡ true) (sym has.is_dest) (endpoint_is_itself peer)) test.1 in
    let some = some_found (is_channel_of n peer) held.a.channels (some_any (is_channel_of n peer) held.a.channels (some_map (λ d. d ≡ has.c) (λ d. is_channel_of n peer d ≡ true) (λ d same. subst (λ (x : Channel). is_channel_of n peer x ≡ true) (sym same) of_peer) held.a.channels (found_some (is_channel n channel) held.a.channels has.c has.found))) in
    let number_is : some.0.number ≡ channel = found_is (λ d. is_channel_of n peer d ≡ true → d.number ≡ channel) (is_channel_of n peer) held.a.channels some.0 some.1 has.only (find_true (is_channel_of n peer) held.a.channels some.0 some.1) in
    received_is setup earlier now rules tuple number peer bytes (Both setup tuple channel peer n) due held (permitted_by setup earlier now tuple number peer (Both setup tuple channel peer n) due held due.asked.0) allowed
    ∙ (ap (λ (o : Option Channel). option_map_or (by_channel peer bytes held.a) o (to_client held.a.tuple peer bytes)) some.1
    ∙ (ap (λ (t : FiveTuple). to_client_on t some.0.number bytes) (his_tuple setup earlier now tuple number peer (Both setup tuple channel peer n) due held) ∙ ap (λ (k : ℕ). to_client_on tuple k bytes) number_is))

within : (P : Happening → Type 0) (since : List Happening) (rest : List Happening) → SomeOf P since → SomeOf P (since ++ rest)
within P [] rest some = absurd some
within P (h ∷ since) rest (inl is) = inl is
within P (h ∷ since) rest (inr more) = inr (within P since rest more)

bound_then : (setup : Setup) (earlier : List Timed) (now : ℕ) (rules : Rules) (tuple : FiveTuple) (number : ℕ) (peer : Endpoint) (bytes : List ℕ) (channel : ℕ) → output_of setup earlier now rules (arrives number peer bytes) ≡ to_client_on tuple channel bytes
    → (IsBoundTo tuple peer (Moment setup earlier now) (history setup earlier) → ⊥) → ⊥
bound_then setup earlier now rules tuple number peer bytes channel is never =
    let n = Moment setup earlier now in
    let right = subst (IsRight setup (history setup earlier) n rules (arrives number peer bytes)) is (run_right setup earlier (record { now = now; rules = rules; event = arrives number peer bytes })) in
    let e : arrives number peer bytes ≡ arrives right.0 right.1 bytes = right.2 in
    let same : right.1 ≡ peer = cc in
    let w = right.4 in
    let some = subst (λ (x : Endpoint). AreBinding tuple channel x n w.user w.since) same w.asked.1 in
    let all = some_map (λ h. Binds tuple w.user channel peer n h) (λ h. (user : ℕ) × (c : ℕ) × Binds tuple user c peer n h) (λ h b. (w.user, channel, b)) w.since some in
    never (subst (IsBoundTo tuple peer n) (sym w.split) (within (λ h. (user : ℕ) × (c : ℕ) × Binds tuple user c peer n h) w.since (w.opening ∷ w.before) all))

pub comes_by_indication : (setup : Setup) (earlier : List Timed) (now : ℕ) (rules : Rules) (tuple : FiveTuple) (number : ℕ) (peer : Endpoint) (bytes : List ℕ)
    → IsDue (history setup earlier) (Moment setup earlier now) tuple number peer (ArePermitting setup tuple peer (Moment setup earlier now)) → (IsBoundTo tuple peer (Moment setup earlier now) (history setup earlier) → ⊥) → rules.allows_ip peer.ip ≡ true
    → output_of setup earlier now rules (arrives number peer bytes) ≡ to_client tuple peer bytes
comes_by_indication setup earlier now rules tuple number peer bytes due never allowed =
    elim (comes_back setup earlier now rules tuple number peer bytes due allowed) [
      | inl is ↦ is
      | inr other ↦ absurd (bound_then setup earlier now rules tuple number peer bytes other.0 other.1 never)
    ]
