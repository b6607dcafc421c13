-- What a punctual client's user sends, the client sends, and it comes in time.
use Rattle.std.proofs.Common.{◌≡◌, ℕ, ◌+◌, ◌<◌, ◌≤◌, inl, inr, true, false, ◌&&◌, List, [], ◌∷◌, ◌++◌, Option, sym, subst, arith}
use Rattle.std.specs.List.{AllByRecursion, list_any}
use Rattle.std.specs.Option.{option_map_or}
use Rattle.std.specs.Prelude.{◌==◌, nat_lt, if◌then◌else◌}
use Rattle.std.proofs.lemmas.Bool.{cond-true, and_parts, and_from, or_left, or_right, or_cases, lt-ltb}
use Rattle.stun_endpoints.specs.declared.endpoints.FiveTuple.{FiveTuple}
use Rattle.turn_machine.specs.Relays.{Setup as ServerSetup, Rules}
use Rattle.turn_machine.specs.Times.{at as s_at}
use Rattle.turn_machine.specs.Runs.{Timed as ServerTimed, run as s_run}
use Rattle.stun_endpoints.proofs.AddressesLemmas.{ip_same}
use Rattle.turn_client_machine.specs.Clients.{Ip, Endpoint, is_ip, seconds, Setup, Peer, State, is_allocated, is_peer, is_permitted, has_channel}
use Rattle.turn_client_machine.specs.Events.{sends, Output, send_to, send_on, nothing}
use Rattle.turn_client_machine.specs.Steps.{at, is_ready, sent_by, step}
use Rattle.turn_client_machine.specs.Runs.{Timed, run, history}
use Rattle.turn_client_machine.specs.Reach.{IsJoined, Arrives, IsRelayed, IsUsable, IsPunctual}
use Rattle.turn_client_machine.proofs.ListsLemmas.{found}
use Rattle.turn_client_machine.proofs.Backed.{IsBacked}
use Rattle.turn_client_machine.proofs.BackedLemmas.{run_kept}
use Rattle.turn_client_machine.proofs.RightLemmas.{any_of}
use Rattle.turn_client_machine.proofs.SoundLemmas.{IsSound, run_sound}
use Rattle.turn_client_machine.proofs.ReachLemmas.{Reachable}
use Rattle.turn_client_machine.proofs.RelayedLemmas.{Out, OnChannel, reach_by, relayed_to, relayed_on, channel_parts}

-- all that is known of a peer
record IsGood (setup : Setup) (events : List Timed) (late slack clock : ℕ) (named peer : Endpoint) (p : Peer) : Type 0 where
  backed : IsBacked setup.server (history setup events) p
  sound : IsSound p
  usable : IsUsable named p
  in_time : p.over ≡ false → clock ≤ p.task.due + late

all_good : (setup : Setup) (events : List Timed) (late slack clock : ℕ) (named peer : Endpoint) (ps : List Peer) → AllByRecursion (IsBacked setup.server (history setup events)) ps → AllByRecursion IsSound ps → AllByRecursion (IsUsable named) ps
    → AllByRecursion (λ p. p.over ≡ false → clock ≤ p.task.due + late) ps → AllByRecursion (IsGood setup events late slack clock named peer) ps
all_good setup events late slack clock named peer [] backed sound usable in_time = tt
all_good setup events late slack clock named peer (p ∷ ps) backed sound usable in_time =
    (record { backed = backed.0; sound = sound.0; usable = usable.0; in_time = in_time.0 }, all_good setup events late slack clock named peer ps backed.1 sound.1 usable.1 in_time.1)

-- its permission lasts, and beyond the slack
lasts_on : (setup : Setup) (events : List Timed) (late slack clock : ℕ) (named peer : Endpoint) (p : Peer) → late + slack < seconds 20 → is_ip peer.ip named.ip ≡ true → is_peer named p ≡ true → IsGood setup events late slack clock named peer p → (is_permitted clock peer.ip p ≡ true) × (is_permitted (clock + slack) peer.ip p ≡ true)
lasts_on setup events late slack clock named peer p soon same is g =
    let u = g.usable is in
    let order = g.sound.order in
    let spare = g.sound.spare u.0 u.1 in
    let due = g.in_time u.0 in
    let ips = and_parts (is_ip named.ip p.address.ip) (named.port == p.address.port) is in
    let its = subst (λ (i : Ip). is_ip i p.address.ip ≡ true) (sym (ip_same peer.ip named.ip same)) ips.0 in (
      and_from (is_ip peer.ip p.address.ip) (nat_lt clock p.expires_at) its (lt-ltb clock p.expires_at (omega (arith, order, spare, due, soon))),
      and_from (is_ip peer.ip p.address.ip) (nat_lt (clock + slack) p.expires_at) its (lt-ltb (clock + slack) p.expires_at (omega (arith, order, spare, due, soon))),
    )

any_permitted : (setup : Setup) (events : List Timed) (late slack clock : ℕ) (named peer : Endpoint) (ps : List Peer) → late + slack < seconds 20 → is_ip peer.ip named.ip ≡ true → AllByRecursion (IsGood setup events late slack clock named peer) ps → list_any (is_peer named) ps ≡ true → list_any (is_permitted clock peer.ip) ps ≡ true
any_permitted setup events late slack clock named peer [] soon same good some = some
any_permitted setup events late slack clock named peer (p ∷ ps) soon same good some = elim (or_cases (is_peer named p) (list_any (is_peer named) ps) some) [
  | inl is ↦ or_left (is_permitted clock peer.ip p) (list_any (is_permitted clock peer.ip) ps) (lasts_on setup events late slack clock named peer p soon same is good.0).0
  | inr more ↦ or_right (is_permitted clock peer.ip p) (list_any (is_permitted clock peer.ip) ps) (any_permitted setup events late slack clock named peer ps soon same good.1 more)
]

-- what is known of a punctual client
record Known (setup : Setup) (events : List Timed) (late slack : ℕ) (named peer : Endpoint) (st : State) : Type 0 where
  expires_at : st.clock + slack < st.expires_at
  good : AllByRecursion (IsGood setup events late slack st.clock named peer) st.peers

known_of : (setup : Setup) (events : List Timed) (now late slack : ℕ) (named peer : Endpoint) → IsPunctual late slack named peer (at now (run setup events)) → Known setup events late slack named peer (at now (run setup events))
known_of setup events now late slack named peer c =
    let st = at now (run setup events) in
    let k = run_kept setup events in
    let s = run_sound setup events in
    let main = s.allocation c.allocation in
    let order = main.0 in
    let spare = main.1 in
    let due = c.in_time.allocation in
    let soon = c.soon in
    record {
      expires_at = omega (arith, order, spare, due, soon);
      good = all_good setup events late slack st.clock named peer st.peers k.each s.each c.usable c.in_time.peers;
    }

peer_reach : (setup : Setup) (events : List Timed) (server : ServerSetup) (since earlier : List ServerTimed) (tuple : FiveTuple) (user now there late slack : ℕ) (named peer : Endpoint) (j : IsJoined setup (history setup events) server since earlier tuple user)
    → Arrives j.shown j.drift slack (at now (run setup events)).clock (s_at there (s_run server (since ++ earlier))).clock → IsPunctual late slack named peer (at now (run setup events))
    → (p : Peer) → is_peer named p ≡ true → IsGood setup events late slack (at now (run setup events)).clock named peer p → Reachable server since earlier tuple user (run setup events).relayed (s_at there (s_run server (since ++ earlier))).clock peer
peer_reach setup events server since earlier tuple user now there late slack named peer j arrives c p is g =
    let clock = (at now (run setup events)).clock in
    reach_by setup events server since earlier tuple user slack clock there peer p j c.allocation (omega arith) arrives (known_of setup events now late slack named peer c).expires_at
    (lasts_on setup events late slack clock named peer p c.soon c.same is g).1 g.backed

-- the server has to relay for a punctual client
pub punctual_reach : (setup : Setup) (events : List Timed) (server : ServerSetup) (since earlier : List ServerTimed) (tuple : FiveTuple) (user now there late slack : ℕ) (named peer : Endpoint) (j : IsJoined setup (history setup events) server since earlier tuple user)
    → Arrives j.shown j.drift slack (at now (run setup events)).clock (s_at there (s_run server (since ++ earlier))).clock → IsPunctual late slack named peer (at now (run setup events))
    → Reachable server since earlier tuple user (run setup events).relayed (s_at there (s_run server (since ++ earlier))).clock peer
punctual_reach setup events server since earlier tuple user now there late slack named peer j arrives c =
    let st = at now (run setup events) in
    any_of (IsGood setup events late slack st.clock named peer) (is_peer named) (Reachable server since earlier tuple user st.relayed (s_at there (s_run server (since ++ earlier))).clock peer) st.peers
    (peer_reach setup events server since earlier tuple user now there late slack named peer j arrives c) c.known (known_of setup events now late slack named peer c).good

-- a punctual client has a permission of the peer
pub punctual_permitted : (setup : Setup) (events : List Timed) (now late slack : ℕ) (named peer : Endpoint) → IsPunctual late slack named peer (at now (run setup events)) → list_any (is_permitted (at now (run setup events)).clock peer.ip) (run setup events).peers ≡ true
punctual_permitted setup events now late slack named peer c = any_permitted setup events late slack (at now (run setup events)).clock named peer (run setup events).peers c.soon c.same (known_of setup events now late slack named peer c).good c.known

pub punctual_relayed : Out → OnChannel → (setup : Setup) (events : List Timed) (server : ServerSetup) (since earlier : List ServerTimed) (rules : Rules) (tuple : FiveTuple) (user now fresh there late slack : ℕ) (named peer : Endpoint) (bytes : List ℕ) (j : IsJoined setup (history setup events) server since earlier tuple user)
    → (rules.allows_ip peer.ip && rules.allows_port peer) ≡ true → Arrives j.shown j.drift slack (at now (run setup events)).clock (s_at there (s_run server (since ++ earlier))).clock → IsPunctual late slack named peer (at now (run setup events))
    → IsRelayed server since earlier rules tuple user (run setup events).relayed there peer bytes (step setup (run setup events) now fresh (sends peer bytes)).output
punctual_relayed both on setup events server since earlier rules tuple user now fresh there late slack named peer bytes j port arrives c =
    let st = at now (run setup events) in
    let known = known_of setup events now late slack named peer c in
    let expires_at = known.expires_at in
    subst (λ (o : Output). IsRelayed server since earlier rules tuple user st.relayed there peer bytes o)
    (sym (cond-true (is_ready st) (sent_by peer bytes st) nothing (and_from (is_allocated st.phase) (nat_lt st.clock st.expires_at) c.allocation (lt-ltb st.clock st.expires_at (omega (arith, expires_at))))))
    (found (IsGood setup events late slack st.clock named peer) (has_channel st.clock peer)
    (λ (o : Option Peer). IsRelayed server since earlier rules tuple user st.relayed there peer bytes (option_map_or (λ (p : Peer). send_on p.number bytes) o (if list_any (is_permitted st.clock peer.ip) st.peers then send_to peer bytes else nothing)))
    (subst (λ (o : Output). IsRelayed server since earlier rules tuple user st.relayed there peer bytes o)
    (sym (cond-true (list_any (is_permitted st.clock peer.ip) st.peers) (send_to peer bytes) nothing (punctual_permitted setup events now late slack named peer c)))
    (relayed_to both server since earlier rules tuple user there st.relayed peer bytes port (punctual_reach setup events server since earlier tuple user now there late slack named peer j arrives c)))
    st.peers
    (λ p is g.
    let parts = channel_parts st.clock peer p is in
    relayed_on on setup events server since earlier rules tuple user slack st.clock there st.relayed peer bytes p j port (omega arith) arrives parts.0 (let lasts = parts.2 in let soon = c.soon in omega (arith, lasts, soon)) g.backed
    (punctual_reach setup events server since earlier tuple user now there late slack named peer j arrives c))
    known.good)
