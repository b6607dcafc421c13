-- A peer that the user names is known, if it is of the family and there is room.
use Rattle.std.proofs.Common.{◌≡◌, ℕ, ◌<◌, Bool, true, false, not, ◌&&◌, ◌||◌, List, [], ◌∷◌, refl, sym, ap, subst, ◌∙◌, eq-eqb, length}
use Rattle.std.specs.List.{list_any}
use Rattle.std.specs.Prelude.{◌==◌, nat_lt, min}
use Rattle.std.proofs.lemmas.Bool.{cond_both, cond-true, and_parts, and_from, or_left, or_right, lt-ltb, true≢false}
use Rattle.stun_endpoints.proofs.AddressesLemmas.{ip_is_itself, endpoint_is_itself}
use Rattle.turn_client_machine.specs.Clients.{Endpoint, is_ip, is_endpoint, Setup, Peer, State, is_peer, is_rested}
use Rattle.turn_client_machine.specs.Events.{permits, binds}
use Rattle.turn_client_machine.specs.Responses.{changed_first, restarted}
use Rattle.turn_client_machine.specs.Steps.{at, covers, has_room, can_name, new_peer, replaced, placed, with_new, wanting, step}
use Rattle.turn_client_machine.specs.Bounds.{has_named, has_wanted}

changed_some : {X : Type 0} (test good : X → Bool) (change : X → X) → ((x : X) → test x ≡ true → good (change x) ≡ true) → (xs : List X) → list_any test xs ≡ true → list_any good (changed_first test change xs) ≡ true
changed_some test good change f [] any = absurd cc
changed_some test good change f (x ∷ xs) any =
    cond_both (test x) (change x ∷ xs) (x ∷ changed_first test change xs) (λ ys. list_any good ys ≡ true)
    (λ here. or_left (good (change x)) (list_any good xs) (f x here))
    (λ isnt. or_right (good x) (list_any good (changed_first test change xs)) (changed_some test good change f xs (subst (λ (b : Bool). (b || list_any test xs) ≡ true) isnt any)))

-- there is room for one more
pub with_room : (setup : Setup) (clock : ℕ) (peers : List Peer) → length peers < min setup.most_peers 4096 → has_room setup clock peers ≡ true
with_room setup clock peers less = or_right (list_any (is_rested clock) peers) (nat_lt (length peers) (min setup.most_peers 4096)) (lt-ltb (length peers) (min setup.most_peers 4096) less)

can_be_named : (setup : Setup) (clock : ℕ) (address : Endpoint) (peers : List Peer) → address.ip.family ≡ setup.family → has_room setup clock peers ≡ true → can_name setup clock address peers ≡ true
can_be_named setup clock address peers family room = and_from (address.ip.family == setup.family) (has_room setup clock peers) (eq-eqb address.ip.family setup.family family) room

grown_by : (good : Peer → Bool) (setup : Setup) (clock : ℕ) (wants : Bool) (address : Endpoint) (peers : List Peer) → good (new_peer clock wants address peers) ≡ true → ((p : Peer) → good (replaced clock wants address p) ≡ true) → can_name setup clock address peers ≡ true
    → list_any good (with_new setup clock wants address peers) ≡ true
grown_by good setup clock wants address peers new other can =
    subst (λ (ps : List Peer). list_any good ps ≡ true) (sym (cond-true (can_name setup clock address peers) (placed clock wants address peers) peers can))
    (cond_both (list_any (is_rested clock) peers) _ _ (λ (ps : List Peer). list_any good ps ≡ true)
    (λ some. changed_some (is_rested clock) good (replaced clock wants address) (λ p _. other p) peers some)
    (λ _. or_left (good (new_peer clock wants address peers)) (list_any good peers) new))

pub permits_named : (setup : Setup) (state : State) (now fresh : ℕ) (peer : Endpoint) → peer.ip.family ≡ setup.family → has_room setup (at now state).clock state.peers ≡ true → list_any (has_named peer.ip) (step setup state now fresh (permits peer)).state.peers ≡ true
permits_named setup state now fresh peer family room =
    let st = at now state in
    cond_both (list_any (covers peer.ip) st.peers) _ _ (λ (ps : List Peer). list_any (has_named peer.ip) ps ≡ true) (λ any. any)
    (λ _. cond_both (list_any (is_peer peer) st.peers) _ _ (λ (ps : List Peer). list_any (has_named peer.ip) ps ≡ true)
    (λ any. changed_some (is_peer peer) (has_named peer.ip) (restarted st.clock) (λ p is. (and_parts (is_ip peer.ip p.address.ip) (peer.port == p.address.port) is).0) st.peers any)
    (λ _. grown_by (has_named peer.ip) setup st.clock false peer st.peers (ip_is_itself peer.ip) (λ p. ip_is_itself peer.ip) (can_be_named setup st.clock peer st.peers family room)))

wanting_wanted : (peer : Endpoint) (clock : ℕ) (p : Peer) → is_peer peer p ≡ true → has_wanted peer (wanting clock p) ≡ true
wanting_wanted peer clock p is =
    cond_both p.over _ _ (λ (q : Peer). has_wanted peer q ≡ true) (λ _. and_from (is_peer peer p) true is refl)
    (λ on. cond_both p.wants _ _ (λ (q : Peer). has_wanted peer q ≡ true)
    (λ wants. and_from (is_peer peer p) (not p.over && p.wants) is (and_from (not p.over) p.wants (ap not on) wants))
    (λ _. and_from (is_peer peer p) (not p.over && true) is (and_from (not p.over) true (ap not on) refl)))

pub binds_named : (setup : Setup) (state : State) (now fresh : ℕ) (peer : Endpoint) → peer.ip.family ≡ setup.family → has_room setup (at now state).clock state.peers ≡ true → list_any (has_wanted peer) (step setup state now fresh (binds peer)).state.peers ≡ true
binds_named setup state now fresh peer family room =
    let st = at now state in
    cond_both (list_any (is_peer peer) st.peers) _ _ (λ (ps : List Peer). list_any (has_wanted peer) ps ≡ true)
    (λ any. changed_some (is_peer peer) (has_wanted peer) (wanting st.clock) (wanting_wanted peer st.clock) st.peers any)
    (λ _. grown_by (has_wanted peer) setup st.clock true peer st.peers (and_from (is_endpoint peer peer) true (endpoint_is_itself peer) refl) (λ p. and_from (is_endpoint peer peer) true (endpoint_is_itself peer) refl) (can_be_named setup st.clock peer st.peers family room))

-- one that is known is kept up again
pub known_named : (setup : Setup) (state : State) (now fresh : ℕ) (peer : Endpoint) → list_any (is_peer peer) state.peers ≡ true
    → (list_any (has_named peer.ip) (step setup state now fresh (permits peer)).state.peers ≡ true) × (list_any (has_wanted peer) (step setup state now fresh (binds peer)).state.peers ≡ true)
known_named setup state now fresh peer known =
    let st = at now state in (
      cond_both (list_any (covers peer.ip) st.peers) _ _ (λ (ps : List Peer). list_any (has_named peer.ip) ps ≡ true) (λ any. any)
          (λ _. cond_both (list_any (is_peer peer) st.peers) _ _ (λ (ps : List Peer). list_any (has_named peer.ip) ps ≡ true)
          (λ any. changed_some (is_peer peer) (has_named peer.ip) (restarted st.clock) (λ p is. (and_parts (is_ip peer.ip p.address.ip) (peer.port == p.address.port) is).0) st.peers any)
          (λ no. absurd (true≢false (sym known ∙ no)))),
      cond_both (list_any (is_peer peer) st.peers) _ _ (λ (ps : List Peer). list_any (has_wanted peer) ps ≡ true)
          (λ any. changed_some (is_peer peer) (has_wanted peer) (wanting st.clock) (wanting_wanted peer st.clock) st.peers any)
          (λ no. absurd (true≢false (sym known ∙ no))),
    )
