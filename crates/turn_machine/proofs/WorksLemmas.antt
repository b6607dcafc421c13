-- What each event leaves of what was granted.
use Rattle.std.proofs.Common.{◌≡◌, ℕ, ◌+◌, ◌<◌, ◌≤◌, inl, inr, Bool, true, false, not, cond, List, [], ◌∷◌, filter, find, None, Some, refl, sym, ap, ◌∙◌, subst, eqb-true, eq-eqb, ltb-true, arith}
use Rattle.std.specs.List.{AllByRecursion, list_any}
use Rattle.std.specs.Prelude.{◌==◌, ◌&&◌, nat_lt}
use Rattle.std.proofs.lemmas.Bool.{cond_both, cond-true, cond-false, and_parts, and_from, or_left, or_right, false≢true, lt-ltb}
use Rattle.stun_endpoints.specs.declared.endpoints.Ip.{Ip}
use Rattle.stun_endpoints.specs.declared.endpoints.Endpoint.{Endpoint}
use Rattle.stun_endpoints.specs.declared.endpoints.FiveTuple.{FiveTuple}
use Rattle.stun_endpoints.specs.Endpoints.{is_ip, is_endpoint, is_tuple}
use Rattle.turn_machine.specs.Lists.{SomeOf}
use Rattle.turn_machine.specs.Relays.{seconds, Channel, Relay, Setup, State, is_of, is_for, is_users, is_owned, is_channel, is_channel_of, bound_for}
use Rattle.turn_machine.specs.Events.{Request, allocate, unfit_allocate, refresh, permit, bind, unfit, asks, done, Output, answers}
use Rattle.turn_machine.specs.Rows.{is_of_another, has_of_another, peers_of, clashes, is_bound_otherwise, is_other_channel, with_channel}
use Rattle.turn_machine.specs.Steps.{Step, changed, permitting, binding, is_again, answers_again}
use Rattle.turn_machine.specs.Runs.{Happening}
use Rattle.turn_machine.specs.Granting.{relay_of}
use Rattle.turn_machine.specs.Warrants.{refreshed_in, is_ended, end_of, names, Permits, Binds, BindsTo}
use Rattle.stun_endpoints.proofs.AddressesLemmas.{ip_same, ip_is_itself, endpoint_same, endpoint_is_itself}
use Rattle.turn_machine.proofs.ListsLemmas.{each_map, each_filter, any_none, find_true, left_false, any_filter}
use Rattle.turn_machine.proofs.Backed.{not_refreshed}
use Rattle.turn_machine.proofs.KeptLemmas.{his_same, binding_same, bound_after}
use Rattle.turn_machine.proofs.GrantedLemmas.{find_mapped, found_is, not_true, exactly_for, exactly_300}
use Rattle.turn_machine.proofs.HoldingLemmas.{HasChannel, IsLong, OuterStep, Grants_nothing, end_same, only_older, only_longer, find_kept, one_stays, all_stay, all_left, among, same_number, same_peer}

-- ---- A request of the client

abbrev pub After : (setup : Setup) (tuple : FiveTuple) (user number first : ℕ) (dest : Endpoint) (n : ℕ) (h : Happening) (since : List Happening) → Step → Type 0
After setup tuple user number first dest n h since s = h.output ≡ s.output → s.state.clock < end_of tuple user dest.ip.family number first (h ∷ since) → OuterStep setup tuple user number first dest n (h ∷ since) s.state

-- what is answered other than with `done`, and isn't refreshed, grants nothing
pub idle : (tuple other : FiveTuple) (user number owner : ℕ) (dest : Endpoint) (n : ℕ) (h : Happening) (request : Request) (output : Output) → h.event ≡ asks other owner request → h.output ≡ output → refreshed_in output ≡ None → (output ≡ answers tuple done → ⊥) → Grants_nothing tuple user number dest n h
idle tuple other user number owner dest n h request output asked reply quiet never = record {
  calm = ap (is_ended user number) asked;
  lifetime = not_refreshed tuple user dest.ip.family h (ap refreshed_in reply ∙ quiet);
  permits = λ p. never (sym reply ∙ p.succeeded);
  binds = λ p. never (sym reply ∙ p.binds.succeeded);
}

pub again_idle : (setup : Setup) (tuple other : FiveTuple) (user : ℕ) (request : Request) (state : State) → is_again tuple user request state ≡ true → (refreshed_in (answers_again setup tuple request state) ≡ None) × (answers_again setup tuple request state ≡ answers other done → ⊥)
again_idle setup tuple other user (allocate id lifetime wants) state is = (refl, λ e. absurd cc)
again_idle setup tuple other user (unfit_allocate code) state is = absurd (false≢true is)
again_idle setup tuple other user (refresh family lifetime) state is = absurd (false≢true is)
again_idle setup tuple other user (permit peers) state is = absurd (false≢true is)
again_idle setup tuple other user (bind number peer) state is = absurd (false≢true is)
again_idle setup tuple other user (unfit code) state is = absurd (false≢true is)

pub has_found : (tuple : FiveTuple) (family : ℕ) (state : State) (a : Relay) → relay_of tuple family state ≡ Some a → is_for tuple family a ≡ true
has_found tuple family state a is = find_true (is_for tuple family) state.relays a is

pub any_of : (tuple : FiveTuple) (family : ℕ) (all : List Relay) (a : Relay) → find (is_for tuple family) all ≡ Some a → list_any (is_of tuple) all ≡ true
any_of tuple family [] a is = absurd cc
any_of tuple family (x ∷ all) a is =
    cond_both (is_for tuple family x) (Some x) (find (is_for tuple family) all) (λ o. o ≡ Some a → list_any (is_of tuple) (x ∷ all) ≡ true)
    (λ so _. or_left (is_of tuple x) (list_any (is_of tuple) all) (and_parts (is_of tuple x) (x.family == family) so).0)
    (λ _ e. or_right (is_of tuple x) (list_any (is_of tuple) all) (any_of tuple family all a e)) is

mine : (of his : Bool) → (of && not his) ≡ false → of ≡ true → his ≡ true
mine true true none is = refl
mine true false none is = absurd (false≢true (sym none))
mine false his none is = absurd (false≢true is)

-- the request is its owner's, if it has no fault
pub is_mine : (tuple : FiveTuple) (owner family : ℕ) (state : State) (a : Relay) → relay_of tuple family state ≡ Some a → has_of_another tuple owner state ≡ false → is_owned tuple owner a ≡ true
is_mine tuple owner family state a is none =
    let of = (and_parts (is_of tuple a) (a.family == family) (has_found tuple family state a is)).0 in
    and_from (is_of tuple a) (is_users owner a) of (mine (is_of tuple a) (is_users owner a) (found_is (λ b. is_of_another tuple owner b ≡ false) (is_for tuple family) state.relays a is (any_none (is_of_another tuple owner) state.relays none)) of)

pub family_of : (tuple : FiveTuple) (family : ℕ) (state : State) (a : Relay) → relay_of tuple family state ≡ Some a → a.family ≡ family
family_of tuple family state a is = eqb-true a.family family (and_parts (is_of tuple a) (a.family == family) (has_found tuple family state a is)).1

pub found_changed : (tuple : FiveTuple) (owner family : ℕ) (change : Relay → Relay) (state : State) (a : Relay) → ((b : Relay) → (change b).tuple ≡ b.tuple) → ((b : Relay) → (change b).family ≡ b.family) → is_owned tuple owner a ≡ true
    → relay_of tuple family state ≡ Some a → relay_of tuple family (changed tuple owner change state) ≡ Some (change a)
found_changed tuple owner family change state a tuples families his is =
    find_mapped (is_for tuple family) (λ b. cond (is_owned tuple owner b) (change b) b)
    (λ b. ap (λ (t : FiveTuple). is_tuple tuple t && ((cond (is_owned tuple owner b) (change b) b).family == family)) (his_same (λ c. c.tuple) tuple owner change tuples b)
    ∙ ap (λ (f : ℕ). is_of tuple b && (f == family)) (his_same (λ c. c.family) tuple owner change families b)) state.relays a is
    ∙ ap (λ (b : Relay). Some b) (cond-true (is_owned tuple owner a) (change a) a his)

-- CreatePermission
pub permit_on : (setup : Setup) (tuple : FiveTuple) (user number first : ℕ) (dest : Endpoint) (n : ℕ) (h : Happening) (since : List Happening) (owner : ℕ) (peers : List Endpoint) (state : State) → state.clock ≤ n → h.moment ≡ state.clock → h.event ≡ asks tuple owner (permit peers) → h.output ≡ answers tuple done
    → has_of_another tuple owner state ≡ false → OuterStep setup tuple user number first dest n since state → OuterStep setup tuple user number first dest n (h ∷ since) (changed tuple owner (permitting state.clock peers) state)
permit_on setup tuple user number first dest n h since owner peers state le moment asked reply none held =
    let c = state.clock in
    let family = dest.ip.family in
    let a = held.a in
    let same : dest.ip.family ≡ a.family = sym (family_of tuple family state a held.found) in
    let his = is_mine tuple owner family state a held.found none in
    let owner_is : owner ≡ user = sym (eqb-true a.user owner (and_parts (is_of tuple a) (is_users owner a) his).1) ∙ held.user_is in
    let longer = λ (some : IsLong tuple user dest.ip n (h ∷ since)). only_longer tuple user dest.ip n h since
    (λ b. let e : asks tuple owner (permit peers) ≡ asks tuple user (bind b.channel b.peer) = sym asked ∙ b.binds.asked in absurd cc) some in
    let older = λ (channel : ℕ) (some : SomeOf (Binds tuple user channel dest n) (h ∷ since)). only_older (Binds tuple user channel dest n) h since
    (λ p. let e : asks tuple owner (permit peers) ≡ asks tuple user (bind channel dest) = sym asked ∙ p.asked in absurd cc) some in
    record {
      a = permitting c peers a;
      found = found_changed tuple owner family (permitting c peers) state a (λ _. refl) (λ _. refl) his held.found;
      user_is = held.user_is;
      number_is = held.number_is;
      ends = subst (λ (m : ℕ). m ≤ a.expires_at) (sym (end_same tuple user family number first h since (ap (is_ended user number) asked) (not_refreshed tuple user family h (ap refreshed_in reply)))) held.ends;
      permits = λ some. elim some [
        | inl p ↦
            let e : asks tuple owner (permit peers) ≡ asks tuple user p.request = sym asked ∙ p.asked in
            let r : p.request ≡ permit peers = cc in
            let named : list_any (λ (q : Endpoint). is_ip dest.ip q.ip) peers ≡ true = subst (λ (x : Request). names dest.ip x ≡ true) r p.named in
            exactly_300 c n dest.ip (peers_of a peers) a.permissions le (among dest.ip a peers same named) ∙ lt-ltb n (c + seconds 300) (subst (λ (m : ℕ). n < m + seconds 300) moment p.lasts)
        | inr more ↦ all_stay c n dest.ip (peers_of a peers) a.permissions le (held.soon more) (held.permits more)
      ];
      soon = λ some. elim some [
        | inl p ↦ subst (λ (m : ℕ). n < m + seconds 300) moment p.lasts
        | inr more ↦ held.soon more
      ];
      permits_long = λ on some. elim some [
        | inl b ↦ absurd (let e : asks tuple owner (permit peers) ≡ asks tuple user (bind b.channel b.peer) = sym asked ∙ b.binds.asked in cc)
        | inr more ↦
            let unnamed : list_any (λ (q : Endpoint). is_ip dest.ip q.ip) (peers_of a peers) ≡ false = not_true (list_any (λ (q : Endpoint). is_ip dest.ip q.ip) (peers_of a peers))
            (λ named. more.0 (record {
              peers = peers;
              asked = asked ∙ ap (λ (u : ℕ). asks tuple u (permit peers)) owner_is;
              named = any_filter (λ (q : Endpoint). is_ip dest.ip q.ip) (λ (q : Endpoint). q.ip.family == a.family) peers named;
              succeeded = reply;
            })) in
            all_left c n dest.ip (peers_of a peers) a.permissions le unnamed ∙ held.permits_long on more.1
      ];
      long_soon = λ some. held.long_soon (longer some);
      bound = λ channel some. held.bound channel (older channel some);
      bound_soon = λ channel some. held.bound_soon channel (older channel some);
    }

same_cond : (b : Bool) → b ≡ cond b true false
same_cond true = refl
same_cond false = refl

-- ChannelBind
after_bind : (c n number channel : ℕ) (peer dest : Endpoint) (cs : List Channel) → c ≤ n → n < c + seconds 600 → AllByRecursion (λ d. clashes c number peer d ≡ false) cs → HasChannel dest n channel cs → HasChannel dest n channel (with_channel c number peer cs)
after_bind c n number channel peer dest cs le soon free has =
    let new : Channel = record { number = number; peer = peer; expires_at = c + seconds 600 } in
    let test = find_true (is_channel n channel) cs has.c has.found in
    let parts = and_parts (has.c.number == channel) (nat_lt n has.c.expires_at) test in
    let clash = found_is (λ d. clashes c number peer d ≡ false) (is_channel n channel) cs has.c has.found free in
    let only = each_filter (λ d. is_channel_of n dest d ≡ true → d.number ≡ channel) (is_other_channel c number) cs has.only in
    let head : is_channel_of n dest new ≡ true → number ≡ channel = λ is.
    let at : peer ≡ dest = endpoint_same peer dest (and_parts (is_endpoint peer dest) (nat_lt n (c + seconds 600)) is).0 in
    let p : is_endpoint has.c.peer peer ≡ true = subst (λ (x : Endpoint). is_endpoint x peer ≡ true) (at ∙ sym has.is_dest) (endpoint_is_itself peer) in
    sym (eqb-true has.c.number number (same_peer c n number peer has.c le clash parts.1 p)) ∙ eqb-true has.c.number channel parts.0 in
    cond_both (number == channel) true false (λ (b : Bool). (number == channel) ≡ b → HasChannel dest n channel (with_channel c number peer cs))
    (λ _ is.
    let m : number ≡ channel = eqb-true number channel is in
    let mine_too : (has.c.number == number) ≡ true = eq-eqb has.c.number number (eqb-true has.c.number channel parts.0 ∙ sym m) in
    record {
      c = new;
      found = cond-true (is_channel n channel new) (Some new) (find (is_channel n channel) (filter (is_other_channel c number) cs)) (and_from (number == channel) (nat_lt n (c + seconds 600)) is (lt-ltb n (c + seconds 600) soon));
      is_dest = sym (endpoint_same has.c.peer peer (same_number c n number peer has.c le clash parts.1 mine_too)) ∙ has.is_dest;
      only = (head, only);
    })
    (λ _ isnt.
    let lasts = ltb-true n has.c.expires_at parts.1 in
    let not_it : (has.c.number == number) ≡ false = not_true (has.c.number == number) (λ it. false≢true (sym isnt ∙ eq-eqb number channel (sym (eqb-true has.c.number number it) ∙ eqb-true has.c.number channel parts.0))) in
    record {
      c = has.c;
      found = cond-false (is_channel n channel new) (Some new) (find (is_channel n channel) (filter (is_other_channel c number) cs)) (left_false (number == channel) (nat_lt n (c + seconds 600)) isnt)
          ∙ find_kept (is_channel n channel) (is_other_channel c number) cs has.c has.found (and_from (not (has.c.number == number)) (nat_lt c has.c.expires_at) (ap not not_it) (lt-ltb c has.c.expires_at (omega (arith, le, lasts))));
      is_dest = has.is_dest;
      only = (head, only);
    })
    (same_cond (number == channel))

new_bind : (c n number : ℕ) (dest : Endpoint) (cs : List Channel) → c ≤ n → n < c + seconds 600 → AllByRecursion (λ d. clashes c number dest d ≡ false) cs → HasChannel dest n number (with_channel c number dest cs)
new_bind c n number dest cs le soon free =
    let new : Channel = record { number = number; peer = dest; expires_at = c + seconds 600 } in record {
      c = new;
      found = cond-true (is_channel n number new) (Some new) (find (is_channel n number) (filter (is_other_channel c number) cs)) (and_from (number == number) (nat_lt n (c + seconds 600)) (eq-eqb number number refl) (lt-ltb n (c + seconds 600) soon));
      is_dest = refl;
      only = (
        λ _. refl,
        each_filter (λ d. is_channel_of n dest d ≡ true → d.number ≡ number) (is_other_channel c number) cs
            (each_map (λ d. clashes c number dest d ≡ false) (λ d. is_channel_of n dest d ≡ true → d.number ≡ number)
            (λ d clash is. let both = and_parts (is_endpoint d.peer dest) (nat_lt n d.expires_at) is in eqb-true d.number number (same_peer c n number dest d le clash both.1 both.0)) cs free),
      );
    }

no_clash : (of any : Bool) → (of && any) ≡ false → of ≡ true → any ≡ false
no_clash true any none is = none
no_clash false any none is = absurd (false≢true is)

-- it is at least the 300 seconds of other permissions
least_300 : (setup : Setup) → 300 ≤ bound_for setup
least_300 setup = cond_both setup.channel_permits 600 300 (λ (n : ℕ). 300 ≤ n) (λ _. omega arith) (λ _. omega arith)

pub bind_on : (setup : Setup) (tuple : FiveTuple) (user number first : ℕ) (dest : Endpoint) (n : ℕ) (h : Happening) (since : List Happening) (owner channel : ℕ) (peer : Endpoint) (state : State) → state.clock ≤ n → h.moment ≡ state.clock → h.event ≡ asks tuple owner (bind channel peer) → h.output ≡ answers tuple done
    → has_of_another tuple owner state ≡ false → list_any (is_bound_otherwise state.clock tuple channel peer) state.relays ≡ false → OuterStep setup tuple user number first dest n since state → OuterStep setup tuple user number first dest n (h ∷ since) (changed tuple owner (binding (bound_for setup) state.clock channel peer) state)
bind_on setup tuple user number first dest n h since owner channel peer state le moment asked reply none free held =
    let c = state.clock in
    let family = dest.ip.family in
    let a = held.a in
    let his = is_mine tuple owner family state a held.found none in
    let of = (and_parts (is_of tuple a) (is_users owner a) his).0 in
    let same : dest.ip.family ≡ a.family = sym (family_of tuple family state a held.found) in
    let clash : AllByRecursion (λ d. clashes c channel peer d ≡ false) a.channels = any_none (clashes c channel peer) a.channels
    (no_clash (is_of tuple a) (list_any (clashes c channel peer) a.channels) (found_is (λ b. is_bound_otherwise c tuple channel peer b ≡ false) (is_for tuple family) state.relays a held.found (any_none (is_bound_otherwise c tuple channel peer) state.relays free)) of) in
    let found = found_changed tuple owner family (binding (bound_for setup) c channel peer) state a (binding_same (λ b. b.tuple) (bound_for setup) c channel peer (λ _. refl)) (binding_same (λ b. b.family) (bound_for setup) c channel peer (λ _. refl)) his held.found in
    let ends = subst (λ (m : ℕ). m ≤ a.expires_at) (sym (end_same tuple user family number first h since (ap (is_ended user number) asked) (not_refreshed tuple user family h (ap refreshed_in reply)))) held.ends in
    let soon : SomeOf (Permits tuple user dest.ip n) (h ∷ since) → n < c + seconds 300 = λ some. elim some [
      | inl p ↦ subst (λ (m : ℕ). n < m + seconds 300) moment p.lasts
      | inr more ↦ held.soon more
    ] in
    let long_soon : IsLong tuple user dest.ip n (h ∷ since) → n < c + seconds 600 = λ some. elim some [
      | inl b ↦ subst (λ (m : ℕ). n < m + seconds 600) moment b.binds.lasts
      | inr more ↦ held.long_soon more.1
    ] in
    let at_least = least_300 setup in
    let at_once : IsLong tuple user dest.ip n (h ∷ since) → setup.channel_permits ≡ true → n < c + seconds (bound_for setup) = λ some on. subst (λ (k : ℕ). n < c + seconds k) (sym (cond-true setup.channel_permits 600 300 on)) (long_soon some) in
    let bound_soon : (k : ℕ) → SomeOf (Binds tuple user k dest n) (h ∷ since) → n < c + seconds 600 = λ k some. elim some [
      | inl p ↦ subst (λ (m : ℕ). n < m + seconds 600) moment p.lasts
      | inr more ↦ held.bound_soon k more
    ] in
    let named : (p : Permits tuple user dest.ip n h) → is_ip dest.ip peer.ip ≡ true = λ p.
    let e : asks tuple owner (bind channel peer) ≡ asks tuple user p.request = sym asked ∙ p.asked in
    let r : p.request ≡ bind channel peer = cc in
    subst (λ (x : Request). names dest.ip x ≡ true) r p.named in
    let named_long : (b : BindsTo tuple user dest.ip n h) → is_ip dest.ip peer.ip ≡ true = λ b.
    let e : asks tuple owner (bind channel peer) ≡ asks tuple user (bind b.channel b.peer) = sym asked ∙ b.binds.asked in
    let p : b.peer ≡ peer = cc in
    subst (λ (i : Ip). is_ip dest.ip i ≡ true) (sym b.ip_is ∙ ap (λ (x : Endpoint). x.ip) p) (ip_is_itself dest.ip) in
    cond_both (peer.ip.family == a.family) (bound_after (bound_for setup) c channel peer a) a (λ (b : Relay). relay_of tuple family (changed tuple owner (binding (bound_for setup) c channel peer) state) ≡ Some b → OuterStep setup tuple user number first dest n (h ∷ since) (changed tuple owner (binding (bound_for setup) c channel peer) state))
    (λ it is. record {
      a = bound_after (bound_for setup) c channel peer a;
      found = is;
      user_is = held.user_is;
      number_is = held.number_is;
      ends = ends;
      permits = λ some. elim some [
        | inl p ↦ exactly_for (bound_for setup) c n dest.ip peer.ip a.permissions (named p) ∙ lt-ltb n (c + seconds (bound_for setup)) (let s = soon (inl p) in omega (arith, s, at_least))
        | inr more ↦ one_stays (bound_for setup) c n dest.ip peer.ip a.permissions le (let s = soon (inr more) in omega (arith, s, at_least)) (held.permits more)
      ];
      soon = soon;
      permits_long = λ on some. elim some [
        | inl b ↦ exactly_for (bound_for setup) c n dest.ip peer.ip a.permissions (named_long b) ∙ lt-ltb n (c + seconds (bound_for setup)) (at_once (inl b) on)
        | inr more ↦ one_stays (bound_for setup) c n dest.ip peer.ip a.permissions le (at_once (inr more) on) (held.permits_long on more.1)
      ];
      long_soon = long_soon;
      bound = λ k some. elim some [
        | inl p ↦
            let e : asks tuple owner (bind channel peer) ≡ asks tuple user (bind k dest) = sym asked ∙ p.asked in
            let m : channel ≡ k = cc in
            let d : peer ≡ dest = cc in
            subst (λ (x : ℕ). HasChannel dest n x (with_channel c channel peer a.channels)) m
            (subst (λ (x : Endpoint). HasChannel dest n channel (with_channel c channel x a.channels)) (sym d)
            (new_bind c n channel dest a.channels le (subst (λ (x : ℕ). n < x + seconds 600) moment p.lasts) (subst (λ (x : Endpoint). AllByRecursion (λ q. clashes c channel x q ≡ false) a.channels) d clash)))
        | inr more ↦ after_bind c n channel k peer dest a.channels le (held.bound_soon k more) clash (held.bound k more)
      ];
      bound_soon = bound_soon;
    })
    (λ other is. record {
      a = a;
      found = is;
      user_is = held.user_is;
      number_is = held.number_is;
      ends = ends;
      permits = λ some. elim some [
        | inl p ↦ absurd (false≢true (sym other ∙ eq-eqb peer.ip.family a.family (ap (λ (i : Ip). i.family) (sym (ip_same dest.ip peer.ip (named p))) ∙ same)))
        | inr more ↦ held.permits more
      ];
      soon = soon;
      permits_long = λ on some. elim some [
        | inl b ↦ absurd (false≢true (sym other ∙ eq-eqb peer.ip.family a.family (ap (λ (i : Ip). i.family) (sym (ip_same dest.ip peer.ip (named_long b))) ∙ same)))
        | inr more ↦ held.permits_long on more.1
      ];
      long_soon = long_soon;
      bound = λ k some. elim some [
        | inl p ↦
            let e : asks tuple owner (bind channel peer) ≡ asks tuple user (bind k dest) = sym asked ∙ p.asked in
            let d : peer ≡ dest = cc in
            absurd (false≢true (sym other ∙ eq-eqb peer.ip.family a.family (ap (λ (x : Endpoint). x.ip.family) d ∙ same)))
        | inr more ↦ held.bound k more
      ];
      bound_soon = bound_soon;
    }) found
