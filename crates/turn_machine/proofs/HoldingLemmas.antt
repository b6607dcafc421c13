-- What was granted is still in the state.
use Rattle.std.proofs.Common.{◌≡◌, ℕ, ◌+◌, ◌<◌, ◌≤◌, inl, inr, Bool, true, false, not, cond, List, [], ◌∷◌, filter, find, Option, None, Some, refl, sym, ap, ◌∙◌, subst, eqb-true, eq-eqb, ltb-true, zero-le, arith}
use Rattle.std.specs.List.{AllByRecursion, list_any}
use Rattle.std.specs.Option.{option_map_or}
use Rattle.std.specs.Prelude.{◌==◌, ◌&&◌, ◌||◌, max, nat_lt, count_by}
use Rattle.std.proofs.lemmas.Bool.{cond_both, cond-true, cond-false, and_parts, or_left, or_right, or_cases, or_parts, false≢true, lt-ltb}
use Rattle.stun_endpoints.specs.declared.endpoints.Ip.{Ip}
use Rattle.stun_endpoints.specs.declared.endpoints.Endpoint.{Endpoint}
use Rattle.stun_endpoints.specs.declared.endpoints.FiveTuple.{FiveTuple}
use Rattle.stun_endpoints.specs.Endpoints.{is_ip, is_endpoint, is_tuple}
use Rattle.turn_machine.specs.Lists.{SomeOf, SomeSince}
use Rattle.turn_machine.specs.Relays.{seconds, Permission, Channel, Relay, Setup, State, is_live, is_of, is_for, is_owned, is_permission, is_permitted, is_channel, is_channel_of, bound_for}
use Rattle.turn_machine.specs.Times.{at}
use Rattle.turn_machine.specs.Opening.{opened}
use Rattle.turn_machine.specs.Rows.{is_other_permission, with_permission_for, with_permissions, peers_of, clashes}
use Rattle.turn_machine.specs.Steps.{changed, lasting, permitting, binding}
use Rattle.turn_machine.specs.Runs.{Timed, Happening, run}
use Rattle.turn_machine.specs.Granting.{relay_of}
use Rattle.turn_machine.specs.Warrants.{refreshed_to, is_ended, end_of, Permits, Binds, BindsTo, Renews}
use Rattle.stun_endpoints.proofs.AddressesLemmas.{ip_same, tuple_same}
use Rattle.turn_machine.proofs.ListsLemmas.{count_cons, count_none, count_map, count_filter}
use Rattle.turn_machine.proofs.RowsLemmas.{can_parts}
use Rattle.turn_machine.proofs.KeepingLemmas.{Keeps, Anyone, run_keeps}
use Rattle.turn_machine.proofs.KeptLemmas.{his_same, lasting_same, binding_same}
use Rattle.turn_machine.proofs.GrantedLemmas.{others_left}

-- ---- One relayed address of a client and a family

abbrev pub IsSingle : State → Type 0
IsSingle state = (tuple : FiveTuple) (family : ℕ) → count_by (is_for tuple family) state.relays ≤ 1

single_changed : (tuple : FiveTuple) (user : ℕ) (change : Relay → Relay) (state : State) → ((a : Relay) → (change a).tuple ≡ a.tuple) → ((a : Relay) → (change a).family ≡ a.family) → IsSingle state → IsSingle (changed tuple user change state)
single_changed tuple user change state tuples families single other family =
    subst (λ (n : ℕ). n ≤ 1)
    (sym (count_map (is_for other family) (is_for other family) (λ a. cond (is_owned tuple user a) (change a) a)
    (λ a. ap (λ (t : FiveTuple). is_tuple other t && ((cond (is_owned tuple user a) (change a) a).family == family)) (his_same (λ b. b.tuple) tuple user change tuples a)
    ∙ ap (λ (f : ℕ). is_of other a && (f == family)) (his_same (λ b. b.family) tuple user change families a)) state.relays)) (single other family)

one_or : (b : Bool) (n : ℕ) → (b ≡ true → n ≡ 0) → n ≤ 1 → cond b 1 0 + n ≤ 1
one_or true n none le = let e = none refl in omega (arith, e)
one_or false n none le = omega (arith, le)

pub single_kept : (setup : Setup) → Keeps setup Anyone IsSingle
single_kept setup = record {
  time = λ now state single tuple family. let fewer = count_filter (is_for tuple family) (is_live (max state.clock now)) state.relays in let s = single tuple family in omega (arith, s, fewer);
  opened = λ tuple user id expires_at want offer state _ _ can single other family.
      let a = opened tuple user id expires_at want.family state offer in
      let none = (can_parts setup tuple user want state can).free in
      subst (λ (n : ℕ). n ≤ 1) (sym (count_cons (is_for other family) a state.relays))
      (one_or (is_for other family a) (count_by (is_for other family) state.relays)
      (λ is.
      let both = and_parts (is_of other a) (a.family == family) is in
      let t = tuple_same other tuple both.0 in
      let f = eqb-true want.family family both.1 in
      count_none (is_for other family) state.relays
      (subst (λ (x : FiveTuple). list_any (is_for x family) state.relays ≡ false) (sym t) (subst (λ (k : ℕ). list_any (is_for tuple k) state.relays ≡ false) f none)))
      (single other family));
  ended = λ test state single tuple family. let fewer = count_filter (is_for tuple family) (λ a. not (test a)) state.relays in let s = single tuple family in omega (arith, s, fewer);
  lasted = λ tuple user family expires_at state _ single. single_changed tuple user (lasting family expires_at) state (lasting_same (λ b. b.tuple) family expires_at (λ _. refl)) (lasting_same (λ b. b.family) family expires_at (λ _. refl)) single;
  permitted = λ rules tuple user peers state _ single. single_changed tuple user (permitting state.clock peers) state (λ _. refl) (λ _. refl) single;
  bound = λ rules tuple user number peer state _ single. single_changed tuple user (binding (bound_for setup) state.clock number peer) state (binding_same (λ b. b.tuple) (bound_for setup) state.clock number peer (λ _. refl)) (binding_same (λ b. b.family) (bound_for setup) state.clock number peer (λ _. refl)) single;
}

pub run_single : (setup : Setup) (events : List Timed) → IsSingle (run setup events)
run_single setup events = run_keeps setup IsSingle (single_kept setup) (λ tuple family. zero-le) events

-- a permission that lasts as long as a channel, and that no CreatePermission request has set anew
abbrev pub IsLong : FiveTuple → (user : ℕ) → Ip → (n : ℕ) → List Happening → Type 0
IsLong tuple user ip n since = SomeSince (BindsTo tuple user ip n) (λ h. ¬ (Renews tuple user ip h)) since

-- ---- What is held, for a moment n at which the client or the peer will send

-- a channel of the peer, at that moment: by its number, and the only one of the peer
pub record HasChannel (dest : Endpoint) (n channel : ℕ) (cs : List Channel) : Type 0 where
  pub c : Channel
  pub found : find (is_channel n channel) cs ≡ Some c
  pub is_dest : c.peer ≡ dest
  pub only : AllByRecursion (λ d. is_channel_of n dest d ≡ true → d.number ≡ channel) cs

pub record OuterStep (setup : Setup) (tuple : FiveTuple) (user number first : ℕ) (dest : Endpoint) (n : ℕ) (since : List Happening) (state : State) : Type 0 where
  pub a : Relay
  pub found : relay_of tuple dest.ip.family state ≡ Some a
  pub user_is : a.user ≡ user
  pub number_is : a.number ≡ number
  pub ends : end_of tuple user dest.ip.family number first since ≤ a.expires_at
  pub permits : SomeOf (Permits tuple user dest.ip n) since → is_permitted n dest.ip a ≡ true
  pub soon : SomeOf (Permits tuple user dest.ip n) since → n < state.clock + seconds 300
  pub permits_long : setup.channel_permits ≡ true → IsLong tuple user dest.ip n since → is_permitted n dest.ip a ≡ true
  pub long_soon : IsLong tuple user dest.ip n since → n < state.clock + seconds 600
  pub bound : (channel : ℕ) → SomeOf (Binds tuple user channel dest n) since → HasChannel dest n channel a.channels
  pub bound_soon : (channel : ℕ) → SomeOf (Binds tuple user channel dest n) since → n < state.clock + seconds 600

-- what a happening that grants nothing leaves
pub record Grants_nothing (tuple : FiveTuple) (user number : ℕ) (dest : Endpoint) (n : ℕ) (h : Happening) : Type 0 where
  pub calm : is_ended user number h.event ≡ false
  pub lifetime : refreshed_to tuple user dest.ip.family h ≡ None
  pub permits : Permits tuple user dest.ip n h → ⊥
  pub binds : BindsTo tuple user dest.ip n h → ⊥

pub end_same : (tuple : FiveTuple) (user family number first : ℕ) (h : Happening) (since : List Happening) → is_ended user number h.event ≡ false → refreshed_to tuple user family h ≡ None → end_of tuple user family number first (h ∷ since) ≡ end_of tuple user family number first since
end_same tuple user family number first h since calm none =
    cond-false (is_ended user number h.event) 0 (option_map_or (λ l. h.moment + seconds l) (refreshed_to tuple user family h) (end_of tuple user family number first since)) calm
    ∙ ap (λ (o : Option ℕ). option_map_or (λ l. h.moment + seconds l) o (end_of tuple user family number first since)) none

pub only_older : (P : Happening → Type 0) (h : Happening) (since : List Happening) → (P h → ⊥) → SomeOf P (h ∷ since) → SomeOf P since
only_older P h since never (inl p) = absurd (never p)
only_older P h since never (inr some) = some

-- if no channel is bound now, it was before
pub only_longer : (tuple : FiveTuple) (user : ℕ) (ip : Ip) (n : ℕ) (h : Happening) (since : List Happening) → (BindsTo tuple user ip n h → ⊥) → IsLong tuple user ip n (h ∷ since) → IsLong tuple user ip n since
only_longer tuple user ip n h since never (inl b) = absurd (never b)
only_longer tuple user ip n h since never (inr more) = more.1

pub held_on : (setup : Setup) (tuple : FiveTuple) (user number first : ℕ) (dest : Endpoint) (n : ℕ) (h : Happening) (since : List Happening) (state after : State) → Grants_nothing tuple user number dest n h → state.clock ≤ after.clock
    → relay_of tuple dest.ip.family after ≡ relay_of tuple dest.ip.family state → OuterStep setup tuple user number first dest n since state → OuterStep setup tuple user number first dest n (h ∷ since) after
held_on setup tuple user number first dest n h since state after g le same held =
    let never = λ (channel : ℕ) (b : Binds tuple user channel dest n h). g.binds (record { channel = channel; peer = dest; ip_is = refl; binds = b }) in record {
      a = held.a;
      found = same ∙ held.found;
      user_is = held.user_is;
      number_is = held.number_is;
      ends = subst (λ (m : ℕ). m ≤ held.a.expires_at) (sym (end_same tuple user dest.ip.family number first h since g.calm g.lifetime)) held.ends;
      permits = λ some. held.permits (only_older (Permits tuple user dest.ip n) h since g.permits some);
      soon = λ some. let s = held.soon (only_older (Permits tuple user dest.ip n) h since g.permits some) in omega (arith, le, s);
      permits_long = λ on some. held.permits_long on (only_longer tuple user dest.ip n h since g.binds some);
      long_soon = λ some. let s = held.long_soon (only_longer tuple user dest.ip n h since g.binds some) in omega (arith, le, s);
      bound = λ channel some. held.bound channel (only_older (Binds tuple user channel dest n) h since (never channel) some);
      bound_soon = λ channel some. let s = held.bound_soon channel (only_older (Binds tuple user channel dest n) h since (never channel) some) in omega (arith, le, s);
    }

-- what is found and kept is found
pub find_kept : {X : Type 0} (test keep : X → Bool) (xs : List X) (a : X) → find test xs ≡ Some a → keep a ≡ true → find test (filter keep xs) ≡ Some a
find_kept test keep [] a is kept = absurd cc
find_kept test keep (x ∷ xs) a is kept =
    cond_both (test x) (Some x) (find test xs) (λ o. o ≡ Some a → find test (filter keep (x ∷ xs)) ≡ Some a)
    (λ so e.
    let same : x ≡ a = cc in
    ap (λ l. find test l) (cond-true (keep x) (x ∷ filter keep xs) (filter keep xs) (subst (λ y. keep y ≡ true) (sym same) kept)) ∙ (cond-true (test x) (Some x) (find test (filter keep xs)) so ∙ e))
    (λ other e.
    let more = find_kept test keep xs a e kept in
    cond_both (keep x) (x ∷ filter keep xs) (filter keep xs) (λ l. find test l ≡ Some a) (λ _. cond-false (test x) (Some x) (find test (filter keep xs)) other ∙ more) (λ _. more)) is

-- time goes on
pub held_at : (setup : Setup) (tuple : FiveTuple) (user number first : ℕ) (dest : Endpoint) (n : ℕ) (since : List Happening) (state : State) (now : ℕ) → max state.clock now < end_of tuple user dest.ip.family number first since → OuterStep setup tuple user number first dest n since state
    → OuterStep setup tuple user number first dest n since (at now state)
held_at setup tuple user number first dest n since state now kept held =
    let ends = held.ends in record {
      a = held.a;
      found = find_kept (is_for tuple dest.ip.family) (is_live (max state.clock now)) state.relays held.a held.found (lt-ltb (max state.clock now) held.a.expires_at (omega (arith, kept, ends)));
      user_is = held.user_is;
      number_is = held.number_is;
      ends = held.ends;
      permits = held.permits;
      soon = λ some. let s = held.soon some in omega (arith, s);
      permits_long = held.permits_long;
      long_soon = λ some. let s = held.long_soon some in omega (arith, s);
      bound = held.bound;
      bound_soon = λ channel some. let s = held.bound_soon channel some in omega (arith, s);
    }

-- ---- Permissions and channels that stay

by_ip : (same lasts rest : Bool) → lasts ≡ true → (same ≡ false → rest ≡ true) → ((same && lasts) || rest) ≡ true
by_ip true true rest e f = refl
by_ip true false rest e f = absurd (false≢true e)
by_ip false lasts rest e f = f refl

-- what is permitted stays so beside a permission that lasts
pub one_stays : (lifetime c n : ℕ) (ip new : Ip) (ps : List Permission) → c ≤ n → n < c + seconds lifetime → list_any (is_permission n ip) ps ≡ true → list_any (is_permission n ip) (with_permission_for lifetime c new ps) ≡ true
one_stays lifetime c n ip new ps le soon any =
    by_ip (is_ip ip new) (nat_lt n (c + seconds lifetime)) (list_any (is_permission n ip) (filter (is_other_permission c new) ps)) (lt-ltb n (c + seconds lifetime) soon) (λ differ. others_left c n ip new ps le differ ∙ any)

pub all_stay : (c n : ℕ) (ip : Ip) (peers : List Endpoint) (ps : List Permission) → c ≤ n → n < c + seconds 300 → list_any (is_permission n ip) ps ≡ true → list_any (is_permission n ip) (with_permissions c peers ps) ≡ true
all_stay c n ip [] ps le soon any = any
all_stay c n ip (peer ∷ peers) ps le soon any = one_stays 300 c n ip peer.ip (with_permissions c peers ps) le soon (all_stay c n ip peers ps le soon any)

-- what is permitted for none of these peers is as it was
pub all_left : (c n : ℕ) (ip : Ip) (peers : List Endpoint) (ps : List Permission) → c ≤ n → list_any (λ p. is_ip ip p.ip) peers ≡ false → list_any (is_permission n ip) (with_permissions c peers ps) ≡ list_any (is_permission n ip) ps
all_left c n ip [] ps le none = refl
all_left c n ip (peer ∷ peers) ps le none =
    let parts = or_parts (is_ip ip peer.ip) (list_any (λ p. is_ip ip p.ip) peers) none in
    ap (λ (b : Bool). (b && nat_lt n (c + seconds 300)) || list_any (is_permission n ip) (filter (is_other_permission c peer.ip) (with_permissions c peers ps))) parts.0
    ∙ (others_left c n ip peer.ip (with_permissions c peers ps) le parts.0 ∙ all_left c n ip peers ps le parts.1)

-- who is named is among the peers of the family
pub among : (ip : Ip) (a : Relay) (peers : List Endpoint) → ip.family ≡ a.family → list_any (λ p. is_ip ip p.ip) peers ≡ true → list_any (λ p. is_ip ip p.ip) (peers_of a peers) ≡ true
among ip a [] same any = any
among ip a (peer ∷ peers) same any =
    elim (or_cases (is_ip ip peer.ip) (list_any (λ p. is_ip ip p.ip) peers) any) [
      | inl first ↦
          let of : (peer.ip.family == a.family) ≡ true = eq-eqb peer.ip.family a.family (ap (λ (i : Ip). i.family) (sym (ip_same ip peer.ip first)) ∙ same) in
          subst (λ (l : List Endpoint). list_any (λ p. is_ip ip p.ip) l ≡ true) (sym (cond-true (peer.ip.family == a.family) (peer ∷ peers_of a peers) (peers_of a peers) of)) (or_left (is_ip ip peer.ip) (list_any (λ p. is_ip ip p.ip) (peers_of a peers)) first)
      | inr more ↦
          let rest = among ip a peers same more in
          cond_both (peer.ip.family == a.family) (peer ∷ peers_of a peers) (peers_of a peers) (λ (l : List Endpoint). list_any (λ p. is_ip ip p.ip) l ≡ true) (λ _. or_right (is_ip ip peer.ip) (list_any (λ p. is_ip ip p.ip) (peers_of a peers)) rest) (λ _. rest)
    ]

-- a channel that clashes with none is the same as a live one of its number, and of its peer
clash_number : (lives number peer : Bool) → lives ≡ true → number ≡ true → (lives && ((number && not peer) || (peer && not number))) ≡ false → peer ≡ true
clash_number true true true a b c = refl
clash_number true true false a b c = absurd (false≢true (sym c))
clash_number false number peer a b c = absurd (false≢true a)
clash_number lives false peer a b c = absurd (false≢true b)

clash_peer : (lives number peer : Bool) → lives ≡ true → peer ≡ true → (lives && ((number && not peer) || (peer && not number))) ≡ false → number ≡ true
clash_peer true true true a b c = refl
clash_peer true false true a b c = absurd (false≢true (sym c))
clash_peer false number peer a b c = absurd (false≢true a)
clash_peer lives number false a b c = absurd (false≢true b)

pub same_number : (c n number : ℕ) (peer : Endpoint) (d : Channel) → c ≤ n → clashes c number peer d ≡ false → nat_lt n d.expires_at ≡ true → (d.number == number) ≡ true → is_endpoint d.peer peer ≡ true
same_number c n number peer d le free lives same =
    let lasts = ltb-true n d.expires_at lives in
    clash_number (nat_lt c d.expires_at) (d.number == number) (is_endpoint d.peer peer) (lt-ltb c d.expires_at (omega (arith, le, lasts))) same free

pub same_peer : (c n number : ℕ) (peer : Endpoint) (d : Channel) → c ≤ n → clashes c number peer d ≡ false → nat_lt n d.expires_at ≡ true → is_endpoint d.peer peer ≡ true → (d.number == number) ≡ true
same_peer c n number peer d le free lives same =
    let lasts = ltb-true n d.expires_at lives in
    clash_peer (nat_lt c d.expires_at) (d.number == number) (is_endpoint d.peer peer) (lt-ltb c d.expires_at (omega (arith, le, lasts))) same free
