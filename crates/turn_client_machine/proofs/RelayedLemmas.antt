-- What the client sends, the server relays.
use Rattle.std.proofs.Common.{◌≡◌, ℕ, ◌+◌, ◌<◌, ◌≤◌, Bool, true, false, ◌&&◌, List, ◌++◌, Option, refl, sym, subst, arith, ltb-true}
use Rattle.std.specs.List.{list_any}
use Rattle.std.specs.Option.{option_map_or}
use Rattle.std.specs.Prelude.{◌==◌, nat_lt, if◌then◌else◌}
use Rattle.std.proofs.lemmas.Bool.{cond_both, and_parts, and_from, false≢true}
use Rattle.stun_endpoints.specs.declared.endpoints.FiveTuple.{FiveTuple}
use Rattle.turn_machine.specs.Relays.{Setup as ServerSetup, Rules}
use Rattle.turn_machine.specs.Events.{sends as s_sends, sends_on as s_sends_on, arrives as s_arrives, to_peer}
use Rattle.turn_machine.specs.Times.{granted_for, at as s_at}
use Rattle.turn_machine.specs.Runs.{Timed as ServerTimed, run as s_run, history as s_history}
use Rattle.turn_machine.specs.Warrants.{ArePermitting, AreBinding}
use Rattle.turn_machine.specs.Works.{IsDue, Reaches, output_of as output_there}
use Rattle.stun_endpoints.proofs.AddressesLemmas.{endpoint_same}
use Rattle.turn_client_machine.specs.Clients.{Endpoint, is_ip, seconds, Setup, Peer, is_allocated, is_peer, is_permitted, has_channel}
use Rattle.turn_client_machine.specs.Events.{sends, Output, send_to, send_on, nothing}
use Rattle.turn_client_machine.specs.Steps.{at, is_ready, sent_by, step}
use Rattle.turn_client_machine.specs.Runs.{Timed, run, history}
use Rattle.turn_client_machine.specs.Warrants.{IsBound}
use Rattle.turn_client_machine.specs.Reach.{happened_since, IsJoined, Arrives, IsRelayed}
use Rattle.turn_client_machine.proofs.ListsLemmas.{found}
use Rattle.turn_client_machine.proofs.Backed.{IsBacked}
use Rattle.turn_client_machine.proofs.BackedLemmas.{run_kept}
use Rattle.turn_client_machine.proofs.RightLemmas.{any_of, permitted_by, bound_at}
use Rattle.turn_client_machine.proofs.ReachLemmas.{Reachable, reachable, channel_there, past_since, long_span, sent_by_now}

-- the server's own law, `what_is_permitted_works`
abbrev pub Out : Type 0
Out = (setup : ServerSetup) (earlier : List ServerTimed) (now : ℕ) (rules : Rules) (tuple : FiveTuple) (number : ℕ) (peer : Endpoint) (dont_fragment : Bool) (bytes : List ℕ)
    → IsDue (s_history setup earlier) (s_at now (s_run setup earlier)).clock tuple number peer (ArePermitting setup tuple peer (s_at now (s_run setup earlier)).clock) → (rules.allows_ip peer.ip && rules.allows_port peer) ≡ true
    → (dont_fragment ≡ true → setup.supports_dont_fragment ≡ true) → output_there setup earlier now rules (s_sends tuple peer dont_fragment bytes) ≡ to_peer number peer dont_fragment bytes

abbrev pub OnChannel : Type 0
OnChannel = (setup : ServerSetup) (earlier : List ServerTimed) (now : ℕ) (rules : Rules) (tuple : FiveTuple) (number : ℕ) (peer : Endpoint) (channel : ℕ) (bytes : List ℕ)
    → IsDue (s_history setup earlier) (s_at now (s_run setup earlier)).clock tuple number peer (AreBinding tuple channel peer (s_at now (s_run setup earlier)).clock) → (rules.allows_ip peer.ip && rules.allows_port peer) ≡ true
    → output_there setup earlier now rules (s_sends_on tuple channel bytes) ≡ to_peer number peer false bytes

abbrev pub Back : Type 0
Back = (setup : ServerSetup) (earlier : List ServerTimed) (now : ℕ) (rules : Rules) (tuple : FiveTuple) (number : ℕ) (peer : Endpoint) (bytes : List ℕ)
    → IsDue (s_history setup earlier) (s_at now (s_run setup earlier)).clock tuple number peer (ArePermitting setup tuple peer (s_at now (s_run setup earlier)).clock) → rules.allows_ip peer.ip ≡ true
    → Reaches tuple peer bytes (output_there setup earlier now rules (s_arrives number peer bytes))

-- beyond the slack the client's allocation lasts, and so does its permission of the peer
pub reach_by : (setup : Setup) (events : List Timed) (server : ServerSetup) (since earlier : List ServerTimed) (tuple : FiveTuple) (user slack clock there : ℕ) (peer : Endpoint) (p : Peer) (j : IsJoined setup (history setup events) server since earlier tuple user)
    → is_allocated (run setup events).phase ≡ true → (run setup events).clock ≤ clock → Arrives j.shown j.drift slack clock (s_at there (s_run server (since ++ earlier))).clock → clock + slack < (run setup events).expires_at
    → is_permitted (clock + slack) peer.ip p ≡ true → IsBacked setup.server (history setup events) p → Reachable server since earlier tuple user (run setup events).relayed (s_at there (s_run server (since ++ earlier))).clock peer
reach_by setup events server since earlier tuple user slack clock there peer p j allocated later arrives less permitted b =
    reachable setup events server since earlier tuple user slack clock (s_at there (s_run server (since ++ earlier))).clock peer j allocated (omega arith) later arrives less
    (permitted_by setup (history setup events) (clock + slack) peer.ip p permitted b)

pub relayed_to : Out → (server : ServerSetup) (since earlier : List ServerTimed) (rules : Rules) (tuple : FiveTuple) (user there : ℕ) (relayed peer : Endpoint) (bytes : List ℕ) → (rules.allows_ip peer.ip && rules.allows_port peer) ≡ true
    → Reachable server since earlier tuple user relayed (s_at there (s_run server (since ++ earlier))).clock peer → IsRelayed server since earlier rules tuple user relayed there peer bytes (send_to peer bytes)
relayed_to law server since earlier rules tuple user there relayed peer bytes allowed r = record {
  number = r.number;
  socket = r.socket;
  sent = law server (since ++ earlier) there rules tuple r.number peer false bytes r.due allowed (λ e. absurd (false≢true e));
}

pub relayed_on : OnChannel → (setup : Setup) (events : List Timed) (server : ServerSetup) (since earlier : List ServerTimed) (rules : Rules) (tuple : FiveTuple) (user slack clock there : ℕ) (relayed peer : Endpoint) (bytes : List ℕ) (p : Peer) (j : IsJoined setup (history setup events) server since earlier tuple user)
    → (rules.allows_ip peer.ip && rules.allows_port peer) ≡ true → (run setup events).clock ≤ clock → Arrives j.shown j.drift slack clock (s_at there (s_run server (since ++ earlier))).clock → p.address ≡ peer → clock + slack < p.channel_expires_at → IsBacked setup.server (history setup events) p
    → Reachable server since earlier tuple user relayed (s_at there (s_run server (since ++ earlier))).clock peer → IsRelayed server since earlier rules tuple user relayed there peer bytes (send_on p.number bytes)
relayed_on law setup events server since earlier rules tuple user slack clock there relayed peer bytes p j allowed later arrives is less b r =
    let moment = (s_at there (s_run server (since ++ earlier))).clock in
    let hs = history setup events in
    let binds = channel_there j.shown j.drift (seconds (granted_for j.wanted server.greatest_lifetime)) slack clock moment setup hs (happened_since server since earlier) tuple user p.number peer j.steady (long_span j.wanted server.greatest_lifetime) arrives
    (sent_by_now setup events clock later) (past_since server since earlier moment (omega arith)) j.linked (subst (λ (e : Endpoint). IsBound setup.server p.number e (clock + slack) hs) is (bound_at setup hs (clock + slack) p less b)) in
    record {
      number = r.number;
      socket = r.socket;
      sent = law server (since ++ earlier) there rules tuple r.number peer p.number bytes (r.bound p.number binds) allowed;
    }

-- what is permitted at a channel's peer
pub channel_parts : (moment : ℕ) (peer : Endpoint) (p : Peer) → has_channel moment peer p ≡ true → (p.address ≡ peer) × (is_permitted moment peer.ip p ≡ true) × (moment + seconds 20 < p.channel_expires_at)
channel_parts moment peer p is =
    let one = and_parts (is_peer peer p) (nat_lt moment p.expires_at && nat_lt (moment + seconds 20) p.channel_expires_at) is in
    let two = and_parts (nat_lt moment p.expires_at) (nat_lt (moment + seconds 20) p.channel_expires_at) one.1 in
    let ips = and_parts (is_ip peer.ip p.address.ip) (peer.port == p.address.port) one.0 in
    (sym (endpoint_same peer p.address one.0), and_from (is_ip peer.ip p.address.ip) (nat_lt moment p.expires_at) ips.0 two.0, ltb-true (moment + seconds 20) p.channel_expires_at two.1)

-- ---- Whatever the client sends

pub sent_relayed : Out → OnChannel → (setup : Setup) (events : List Timed) (server : ServerSetup) (since earlier : List ServerTimed) (rules : Rules) (tuple : FiveTuple) (user now fresh there : ℕ) (peer : Endpoint) (bytes : List ℕ) (j : IsJoined setup (history setup events) server since earlier tuple user)
    → (rules.allows_ip peer.ip && rules.allows_port peer) ≡ true → Arrives j.shown j.drift 0 (at now (run setup events)).clock (s_at there (s_run server (since ++ earlier))).clock → ((step setup (run setup events) now fresh (sends peer bytes)).output ≡ nothing → ⊥)
    → IsRelayed server since earlier rules tuple user (run setup events).relayed there peer bytes (step setup (run setup events) now fresh (sends peer bytes)).output
sent_relayed both on setup events server since earlier rules tuple user now fresh there peer bytes j port arrives =
    let st = at now (run setup events) in
    let moment = (s_at there (s_run server (since ++ earlier))).clock in
    let k = run_kept setup events in
    let later : (run setup events).clock ≤ st.clock = omega arith in
    let zero_slack : st.clock + 0 ≡ st.clock = omega arith in
    cond_both (is_ready st) (sent_by peer bytes st) nothing (λ (o : Output). (o ≡ nothing → ⊥) → IsRelayed server since earlier rules tuple user st.relayed there peer bytes o)
    (λ ready.
    let parts = and_parts (is_allocated st.phase) (nat_lt st.clock st.expires_at) ready in
    let expires_at = ltb-true st.clock st.expires_at parts.1 in
    let less : st.clock + 0 < st.expires_at = omega (arith, expires_at) in
    let reached : (p : Peer) → is_permitted st.clock peer.ip p ≡ true → IsBacked setup.server (history setup events) p → Reachable server since earlier tuple user st.relayed moment peer
    = λ (p : Peer) (is : is_permitted st.clock peer.ip p ≡ true) (b : IsBacked setup.server (history setup events) p).
    reach_by setup events server since earlier tuple user 0 st.clock there peer p j parts.0 later arrives less (subst (λ (m : ℕ). is_permitted m peer.ip p ≡ true) (sym zero_slack) is) b in
    found (IsBacked setup.server (history setup events)) (has_channel st.clock peer)
    (λ (o : Option Peer). (option_map_or (λ (p : Peer). send_on p.number bytes) o (if list_any (is_permitted st.clock peer.ip) st.peers then send_to peer bytes else nothing) ≡ nothing → ⊥)
    → IsRelayed server since earlier rules tuple user st.relayed there peer bytes (option_map_or (λ (p : Peer). send_on p.number bytes) o (if list_any (is_permitted st.clock peer.ip) st.peers then send_to peer bytes else nothing)))
    (cond_both (list_any (is_permitted st.clock peer.ip) st.peers) (send_to peer bytes) nothing (λ (o : Output). (o ≡ nothing → ⊥) → IsRelayed server since earlier rules tuple user st.relayed there peer bytes o)
    (λ some _. relayed_to both server since earlier rules tuple user there st.relayed peer bytes port
    (any_of (IsBacked setup.server (history setup events)) (is_permitted st.clock peer.ip) (Reachable server since earlier tuple user st.relayed moment peer) st.peers reached some k.each))
    (λ _ never. absurd (never refl)))
    st.peers
    (λ p is b _.
    let c = channel_parts st.clock peer p is in
    let lasts = c.2 in
    relayed_on on setup events server since earlier rules tuple user 0 st.clock there st.relayed peer bytes p j port later arrives c.0 (omega (arith, lasts)) b (reached p c.1 b))
    k.each)
    (λ _ never. absurd (never refl))
