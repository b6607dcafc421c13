-- Whatever is done is right.
use Rattle.std.proofs.Common.{◌≡◌, ℕ, ◌<◌, inl, inr, ◌⊎◌, Bool, true, false, ◌&&◌, ◌||◌, ◌∙◌, List, [], ◌∷◌, Option, None, Some, refl, sym, ap, subst, arith, find, eqb-true, ltb-true, ◌+◌}
use mathlib.Core.Logic.{⊎_elim}
use Rattle.std.specs.List.{AllByRecursion, list_any}
use Rattle.std.specs.Option.{option_map_or}
use Rattle.std.specs.Prelude.{◌==◌, nat_lt, if◌then◌else◌}
use Rattle.std.proofs.lemmas.Bool.{cond_both, and_parts, and_from, or_cases, true≢false}
use Rattle.stun_endpoints.proofs.AddressesLemmas.{endpoint_same, ip_same}
use Rattle.turn_client_machine.specs.Clients.{Ip, Endpoint, is_ip, is_endpoint, Setup, Kind, Allocate, Refresh, Delete, Permit, Bind, Pending, Phase, Task, Peer, State, is_allocated, is_active, is_peer, is_permitted, has_channel, is_bind, is_binding, hears, seconds, Request}
use Rattle.turn_client_machine.specs.Events.{Event, allocates, permits, binds, drops, sends, closes, responds, gives, gives_on, strays, polls, send_to, send_on, shows, nothing, Output, asks}
use Rattle.turn_client_machine.specs.Tasks.{request_now, may_send, is_due, is_expired, turn_output}
use Rattle.turn_client_machine.specs.Steps.{Step, keeps, at, is_ready, sent_by, kind_in, kind_of, turns_peer, polled, happens, is_next, is_free, takes_along, others_at, own_task, most_others, turned_first}
use Rattle.turn_client_machine.specs.Runs.{Timed, Happening, run, happening, history, Happened}
use Rattle.turn_client_machine.specs.Warrants.{Confirmed, Lasts, Permits, Binds, NamesPeer, IsPermitted, IsBound, IsAskedFor, IsWanted, IsRight, AsksFor}
use Rattle.turn_client_machine.proofs.ListsLemmas.{found, each_map}
use Rattle.turn_client_machine.proofs.Backed.{LastsUntil, PermitsUntil, BindsUntil, IsPending, IsBacked, is_main, WasSent, IsBackedMain, confirmed_map}
use Rattle.turn_client_machine.proofs.BackedLemmas.{kind_is, main_kind, IsKept, run_kept}
use Rattle.turn_client_machine.proofs.JoiningLemmas.{own_pending, others_each, IfOn, turned_each}

-- some element passes
pub any_of : {X : Type 0} (P : X → Type 0) (test : X → Bool) (R : Type 0) → (xs : List X) → ((x : X) → test x ≡ true → P x → R) → list_any test xs ≡ true → AllByRecursion P xs → R
any_of P test R [] f some each = absurd cc
any_of P test R (x ∷ xs) f some each = ⊎_elim (λ here. f x here each.0) (λ more. any_of P test R xs f more each.1) (or_cases (test x) (list_any test xs) some)

pub lasting : (setup : Setup) (hs : List Happening) (now : ℕ) (phase : Phase) (t : Task) (expires_at : ℕ) → IsBackedMain setup.server hs phase t expires_at → now < expires_at → Confirmed setup.server (Lasts now) hs
lasting setup hs now phase t expires_at b less =
    confirmed_map setup.server (LastsUntil expires_at) (Lasts now) (λ r a l. record { lifetime = l.lifetime; granted = l.granted; in_time = let ends = l.ends in omega (arith, ends, less) }) hs (b.lasts (omega (arith, less)))

pub permitted_by : (setup : Setup) (hs : List Happening) (now : ℕ) (ip : Ip) (p : Peer) → is_permitted now ip p ≡ true → IsBacked setup.server hs p → IsPermitted setup.server ip now hs
permitted_by setup hs now ip p is b =
    let both = and_parts (is_ip ip p.address.ip) (nat_lt now p.expires_at) is in
    let less = ltb-true now p.expires_at both.1 in
    record {
      peer = p.address;
      ip_is = both.0;
      named = b.named;
      permitted = subst (λ (i : Ip). Confirmed setup.server (Permits i now) hs) (sym (ip_same ip p.address.ip both.0))
          (confirmed_map setup.server (PermitsUntil p.address.ip p.expires_at) (Permits p.address.ip now)
          (λ r a l. record { named = l.named; success = l.success; in_time = let ends = l.ends in omega (arith, ends, less) }) hs (b.permitted (omega (arith, less))));
    }

pub bound_at : (setup : Setup) (hs : List Happening) (now : ℕ) (p : Peer) → now < p.channel_expires_at → IsBacked setup.server hs p → IsBound setup.server p.number p.address now hs
bound_at setup hs now p less b = record {
  named = b.named;
  bound = confirmed_map setup.server (BindsUntil p.number p.address p.channel_expires_at) (Binds p.number p.address now)
      (λ r a l. record { kind = l.kind; success = l.success; in_time = let ends = l.ends in omega (arith, ends, less) }) hs (b.bound (omega (arith, less)));
}

-- ---- Data

sends_right : (setup : Setup) (hs : List Happening) (address : Endpoint) (bytes : List ℕ) (state : State) → IsKept setup hs state → Confirmed setup.server (Lasts state.clock) hs → IsRight setup hs state.clock (sends address bytes) (sent_by address bytes state)
sends_right setup hs address bytes state k there =
    found (IsBacked setup.server hs) (has_channel state.clock address)
    (λ o. IsRight setup hs state.clock (sends address bytes) (option_map_or (λ (p : Peer). send_on p.number bytes) o
    (if list_any (is_permitted state.clock address.ip) state.peers then send_to address bytes else nothing)))
    (cond_both (list_any (is_permitted state.clock address.ip) state.peers) _ _ (IsRight setup hs state.clock (sends address bytes))
    (λ some. any_of (IsBacked setup.server hs) (is_permitted state.clock address.ip) _ state.peers (λ p is b. (refl, there, permitted_by setup hs state.clock address.ip p is b)) some k.each)
    (λ _. tt))
    state.peers
    (λ p is b.
    let one = and_parts (is_peer address p) (nat_lt state.clock p.expires_at && nat_lt (state.clock + seconds 20) p.channel_expires_at) is in
    let two = and_parts (nat_lt state.clock p.expires_at) (nat_lt (state.clock + seconds 20) p.channel_expires_at) one.1 in
    let same = endpoint_same address p.address one.0 in
    let ips = and_parts (is_ip address.ip p.address.ip) (address.port == p.address.port) one.0 in (
      address,
      refl,
      there,
      permitted_by setup hs state.clock address.ip p (and_from (is_ip address.ip p.address.ip) (nat_lt state.clock p.expires_at) ips.0 two.0) b,
      subst (λ (e : Endpoint). IsBound setup.server p.number e state.clock hs) (sym same) (bound_at setup hs state.clock p (let less = ltb-true (state.clock + seconds 20) p.channel_expires_at two.1 in omega (arith, less)) b),
    ))
    k.each

given_right : (setup : Setup) (hs : List Happening) (from peer : Endpoint) (bytes : List ℕ) (state : State) → IsKept setup hs state → IsRight setup hs state.clock (gives from peer bytes) (happens setup 0 state (gives from peer bytes)).output
given_right setup hs from peer bytes state k =
    cond_both (is_endpoint from setup.server && (is_allocated state.phase && list_any (is_permitted state.clock peer.ip) state.peers)) _ _ (IsRight setup hs state.clock (gives from peer bytes))
    (λ yes. let one = and_parts (is_endpoint from setup.server) (is_allocated state.phase && list_any (is_permitted state.clock peer.ip) state.peers) yes in
    let two = and_parts (is_allocated state.phase) (list_any (is_permitted state.clock peer.ip) state.peers) one.1 in
    any_of (IsBacked setup.server hs) (is_permitted state.clock peer.ip) (IsRight setup hs state.clock (gives from peer bytes) (shows peer bytes)) state.peers
    (λ p is b. (from, one.0, inl (refl, permitted_by setup hs state.clock peer.ip p is b))) two.1 k.each)
    (λ _. tt)

asked_for : (hs : List Happening) (address : Endpoint) (number : ℕ) (o : Option Pending) → IsPending hs address number o → option_map_or (λ (q : Pending). is_bind q.request.kind) o false ≡ true → Happened (NamesPeer address) hs → IsAskedFor number address hs
asked_for hs address number None is of_bind named = absurd cc
asked_for hs address number (Some q) is of_bind named = elim is.kind [
  | inl of_permit ↦ absurd (true≢false (sym of_bind ∙ ap is_bind of_permit))
  | inr kind ↦ record { named = named; request = q.request; kind = kind; sent = is.sent }
]

given_on_right : (setup : Setup) (hs : List Happening) (from : Endpoint) (number : ℕ) (bytes : List ℕ) (state : State) → IsKept setup hs state → IsRight setup hs state.clock (gives_on from number bytes) (happens setup 0 state (gives_on from number bytes)).output
given_on_right setup hs from number bytes state k =
    cond_both (is_endpoint from setup.server && is_allocated state.phase) _ _ (IsRight setup hs state.clock (gives_on from number bytes))
    (λ yes. let one = and_parts (is_endpoint from setup.server) (is_allocated state.phase) yes in
    found (IsBacked setup.server hs) (hears state.clock number state.peers)
    (λ o. IsRight setup hs state.clock (gives_on from number bytes) (option_map_or (λ (p : Peer). shows p.address bytes) o nothing)) tt state.peers
    (λ p is b.
    let permitted = list_any (is_permitted state.clock p.address.ip) state.peers in
    let both = and_parts (p.number == number) (nat_lt state.clock p.channel_expires_at || (is_binding p && permitted)) is in (
      from,
      one.0,
      inr (
        p.number,
        ap (λ (n : ℕ). gives_on from n bytes) (sym (eqb-true p.number number both.0)),
        elim (or_cases (nat_lt state.clock p.channel_expires_at) (is_binding p && permitted) both.1) [
          | inl bound ↦ inl (bound_at setup hs state.clock p (ltb-true state.clock p.channel_expires_at bound) b)
          | inr asked ↦
              let two = and_parts (is_binding p) permitted asked in
              inr (asked_for hs p.address p.number p.task.pending b.pending two.0 b.named, any_of (IsBacked setup.server hs) (is_permitted state.clock p.address.ip) (IsPermitted setup.server p.address.ip state.clock hs) state.peers (permitted_by setup hs state.clock p.address.ip) two.1 k.each)
        ],
      ),
    ))
    k.each)
    (λ _. tt)

-- ---- Time

turn_right : (setup : Setup) (hs : List Happening) (now clock fresh : ℕ) (kind : Kind) (challenge : Option ℕ) (others : List Endpoint) (t : Task) → IsWanted hs (request_now clock fresh kind challenge t).kind → AllByRecursion (λ e. Happened (NamesPeer e) hs) others → IsRight setup hs now polls (turn_output setup clock fresh kind challenge others t)
turn_right setup hs now clock fresh kind challenge others t wanted each = cond_both (may_send setup t) _ _ (IsRight setup hs now polls) (λ _. (refl, wanted, each)) (λ _. tt)

wanted_of : (hs : List Happening) (address : Endpoint) (number : ℕ) (kind : Kind) → (kind ≡ Permit address) ⊎ (kind ≡ Bind number address) → Happened (NamesPeer address) hs → IsWanted hs kind
wanted_of hs address number kind (inl is) named = subst (IsWanted hs) (sym is) named
wanted_of hs address number kind (inr is) named = subst (IsWanted hs) (sym is) named

wanted_now : (hs : List Happening) (clock fresh : ℕ) (address : Endpoint) (number : ℕ) (kind : Kind) (challenge : Option ℕ) (o : Option Pending) → (kind ≡ Permit address) ⊎ (kind ≡ Bind number address) → Happened (NamesPeer address) hs → IsPending hs address number o
    → IsWanted hs (option_map_or (λ (q : Pending). q.request) o (record { id = fresh; kind = kind; challenge = challenge; since = clock })).kind
wanted_now hs clock fresh address number kind challenge None is named pending = wanted_of hs address number kind is named
wanted_now hs clock fresh address number kind challenge (Some q) is named pending = wanted_of hs address number q.request.kind pending.kind named

main_wanted : (hs : List Happening) (kind : Kind) → is_main kind ≡ true → IsWanted hs kind
main_wanted hs Allocate is = tt
main_wanted hs Refresh is = tt
main_wanted hs Delete is = tt
main_wanted hs (Permit peer) is = absurd cc
main_wanted hs (Bind number peer) is = absurd cc

main_wanted_now : (hs : List Happening) (clock fresh : ℕ) (kind : Kind) (challenge : Option ℕ) (o : Option Pending) → is_main kind ≡ true → WasSent hs o
    → IsWanted hs (option_map_or (λ (q : Pending). q.request) o (record { id = fresh; kind = kind; challenge = challenge; since = clock })).kind
main_wanted_now hs clock fresh kind challenge None is sent = main_wanted hs kind is
main_wanted_now hs clock fresh kind challenge (Some q) is sent = main_wanted hs q.request.kind sent.1

peer_right : (setup : Setup) (hs : List Happening) (now fresh : ℕ) (state : State) → IsKept setup hs state → IsRight setup hs now polls (option_map_or (turns_peer setup fresh (is_free state.peers) state) (find (is_next (is_free state.peers) state.clock) state.peers) (keeps state)).output
peer_right setup hs now fresh state k = found (IsBacked setup.server hs) (is_next (is_free state.peers) state.clock) (λ o. IsRight setup hs now polls (option_map_or (turns_peer setup fresh (is_free state.peers) state) o (keeps state)).output) tt state.peers
    (λ p is b. cond_both (is_expired state.clock p.task) _ _ (IsRight setup hs now polls) (λ _. tt)
    (λ _. let along = takes_along setup state.clock state.peers p in
    let Named = λ (e : Endpoint). Happened (NamesPeer e) hs in
    turn_right setup hs now state.clock fresh (kind_of p) state.challenge (others_at setup fresh (is_free state.peers) along state) (own_task p)
    (wanted_now hs state.clock fresh p.address p.number (kind_of p) state.challenge (own_task p).pending (kind_is p) b.named (own_pending (IsPending hs p.address p.number) p tt b.pending))
    (others_each Named setup state.clock fresh state.challenge (most_others setup along) (turned_first setup fresh (is_free state.peers) along state)
    (turned_each Named along setup state.clock fresh state.challenge (is_next (is_free state.peers) state.clock) state.peers (each_map (IsBacked setup.server hs) (IfOn Named) (λ q backed _. backed.named) state.peers k.each))))) k.each

polled_right : (setup : Setup) (hs : List Happening) (now fresh : ℕ) (state : State) → IsKept setup hs state → IsRight setup hs now polls (polled setup fresh state).output
polled_right setup hs now fresh state k =
    cond_both (is_active state.phase && is_due state.clock state.task) _ _ (λ (s : Step). IsRight setup hs now polls s.output)
    (λ _. cond_both (is_expired state.clock state.task) _ _ (λ (s : Step). IsRight setup hs now polls s.output) (λ _. tt)
    (λ _. turn_right setup hs now state.clock fresh (kind_in state.phase) state.challenge [] state.task
    (main_wanted_now hs state.clock fresh (kind_in state.phase) state.challenge state.task.pending (main_kind state.phase) k.main.pending) tt))
    (λ _. cond_both (is_allocated state.phase) _ _ (λ (s : Step). IsRight setup hs now polls s.output)
    (λ _. peer_right setup hs now fresh state k) (λ _. tt))

happens_right : (setup : Setup) (fresh : ℕ) (hs : List Happening) (state : State) (event : Event) → IsKept setup hs state → IsRight setup hs state.clock event (happens setup fresh state event).output
happens_right setup fresh hs state allocates k = tt
happens_right setup fresh hs state (permits peer) k = tt
happens_right setup fresh hs state (binds peer) k = tt
happens_right setup fresh hs state (drops peer) k = tt
happens_right setup fresh hs state (sends peer bytes) k = cond_both (is_ready state) _ _ (IsRight setup hs state.clock (sends peer bytes))
    (λ ready. sends_right setup hs peer bytes state k
    (lasting setup hs state.clock state.phase state.task state.expires_at k.main (ltb-true state.clock state.expires_at (and_parts (is_allocated state.phase) (nat_lt state.clock state.expires_at) ready).1)))
    (λ _. tt)
happens_right setup fresh hs state closes k = tt
happens_right setup fresh hs state (responds from id authentic answer) k = tt
happens_right setup fresh hs state (gives from peer bytes) k = given_right setup hs from peer bytes state k
happens_right setup fresh hs state (gives_on from number bytes) k = given_on_right setup hs from number bytes state k
happens_right setup fresh hs state (strays from) k = tt
happens_right setup fresh hs state polls k = polled_right setup hs state.clock fresh state k

pub run_right : (setup : Setup) (earlier : List Timed) (timed : Timed)
    → IsRight setup (history setup earlier) (happening setup (run setup earlier) timed).moment (happening setup (run setup earlier) timed).event (happening setup (run setup earlier) timed).output
run_right setup earlier timed = let k = run_kept setup earlier in
    happens_right setup timed.fresh (history setup earlier) (at timed.now (run setup earlier)) timed.event (record { main = k.main; each = k.each })

-- only polls ask for something
pub asked_polls : (setup : Setup) (hs : List Happening) (now : ℕ) (event : Event) (o : Output) (r : Request) → IsRight setup hs now event o → AsksFor r o → event ≡ polls
asked_polls setup hs now event (asks first others) r right asked = right.0
asked_polls setup hs now event (send_to peer bytes) r right asked = absurd asked
asked_polls setup hs now event (send_on number bytes) r right asked = absurd asked
asked_polls setup hs now event (shows peer bytes) r right asked = absurd asked
asked_polls setup hs now event nothing r right asked = absurd asked
