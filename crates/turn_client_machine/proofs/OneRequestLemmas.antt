-- Of the requests that name several peers, one is under way at a time.
use Rattle.std.proofs.Common.{◌≡◌, ℕ, Bool, true, false, ◌||◌, ◌&&◌, List, [], ◌∷◌, Option, None, Some, map, refl, sym, ap, ◌∙◌, find, eq-eqb}
use Rattle.std.specs.List.{AllByRecursion, list_any}
use Rattle.std.specs.Option.{option_map_or}
use Rattle.std.specs.Prelude.{◌==◌, is_some, if◌then◌else◌}
use Rattle.std.proofs.lemmas.Bool.{cond_both, and_parts, or_parts, false≢true, true≢false}
use Rattle.turn_client_machine.specs.Clients.{Endpoint, Setup, Pending, Peer, State, Task, is_rested}
use Rattle.turn_client_machine.specs.Events.{Event, allocates, permits, binds, drops, sends, closes, responds, gives, gives_on, strays, polls}
use Rattle.turn_client_machine.specs.Tasks.{is_expired, may_send, request_now, sent_task, turned}
use Rattle.turn_client_machine.specs.Responses.{awaits_of, changed_first, given_up}
use Rattle.turn_client_machine.specs.Steps.{at, happens, keeps, replaced, dropped, is_listed, is_together, is_free, is_next, is_fit, kind_of, own_task, turned_of, takes_along, most_others, joined, turned_first, turns_peer}
use Rattle.turn_client_machine.specs.Runs.{Timed, run}
use Rattle.turn_client_machine.specs.Sharing.{SharesOne}
use Rattle.turn_client_machine.proofs.ListsLemmas.{each_changed, each_changed_each, each_mapped}
use Rattle.turn_client_machine.proofs.JoiningLemmas.{fit_free, joined_some, takes_parts}
use Rattle.turn_client_machine.proofs.NumbersLemmas.{IsCalm, NamesKeep, PeersChange, changes_peers, polls_peers}

-- all of them have one transaction ID
abbrev AreOne : List Peer → Type 0
AreOne peers = (id : ℕ) × AllByRecursion (SharesOne id) peers

-- a peer for which no request is under way, or one that is for it alone
rests : (id : ℕ) (p : Peer) → is_together p ≡ false → SharesOne id p
rests id p isnt = λ is. absurd (false≢true (sym isnt ∙ is))

none_together : (id : ℕ) (ps : List Peer) → list_any is_together ps ≡ false → AllByRecursion (SharesOne id) ps
none_together id [] none = tt
none_together id (p ∷ ps) none =
    let both = or_parts (is_together p) (list_any is_together ps) none in
    (rests id p both.0, none_together id ps both.1)

calm_shares : (id : ℕ) (p q : Peer) → IsCalm p q → SharesOne id p → SharesOne id q
calm_shares id p q calm shares = λ is.
    let before = calm.1 is in
    ap (λ (o : Option Pending). option_map_or (λ (x : Pending). x.request.id == id) o false) before.1 ∙ shares before.0

-- ---- What is not a poll

one_change : PeersChange AreOne
one_change = record {
  mapped = λ change same calm ps one. (one.0, each_mapped (SharesOne one.0) (SharesOne one.0) change (λ p. calm_shares one.0 p (change p) (calm p)) ps one.1);
  changed = λ test change same calm ps one. (one.0, each_changed (SharesOne one.0) test change ps (λ p _ _. calm_shares one.0 p (change p) (calm p)) one.1);
  changed_all = λ test change same calm ps one. (one.0, each_changed_each (SharesOne one.0) test change ps (λ p _ _. calm_shares one.0 p (change p) (calm p)) one.1);
}

one_named : (setup : Setup) (state : State) (event : Event) → NamesKeep setup state event AreOne
one_named setup state event = record {
  grown = λ wants address named unknown can none one. (one.0, (λ is. absurd (false≢true is), one.1));
  replaced_by = λ wants address named unknown can one. (one.0, each_changed (SharesOne one.0) (is_rested state.clock) (replaced state.clock wants address) state.peers (λ p _ _ _ is. absurd (false≢true is)) one.1);
  dropped_by = λ address is one. (one.0, each_changed (SharesOne one.0) (is_listed address) (dropped state.clock) state.peers (λ p _ _ _ is. absurd (false≢true is)) one.1);
}

-- ---- Polls

-- a request for it alone
alone_shares : (setup : Setup) (clock fresh : ℕ) (challenge : Option ℕ) (id : ℕ) (p : Peer) → SharesOne id (turned_of false setup clock fresh challenge p)
alone_shares setup clock fresh challenge id p = cond_both (is_expired clock p.task) (given_up 0 p) (record p { task = turned setup clock fresh (kind_of p) challenge (own_task p); shared = false }) (SharesOne id)
    (λ _ is. absurd (false≢true is))
    (λ _ is. absurd (false≢true (and_parts (is_some (turned setup clock fresh (kind_of p) challenge (own_task p)).pending) false is).1))

-- a new one for several
fit_shares : (setup : Setup) (clock fresh : ℕ) (challenge : Option ℕ) (p : Peer) → is_fit clock p ≡ true → SharesOne fresh (turned_of true setup clock fresh challenge p)
fit_shares setup clock fresh challenge p fit =
    let own = own_task p in
    let free = fit_free clock p fit in
    cond_both (is_expired clock p.task) (given_up 0 p) (record p { task = turned setup clock fresh (kind_of p) challenge own; shared = true }) (SharesOne fresh)
    (λ _ is. absurd (false≢true is))
    (λ _. cond_both (may_send setup own) (sent_task setup clock (request_now clock fresh (kind_of p) challenge own) own) (record own { due = own.deadline }) (λ (t : Task). SharesOne fresh (record p { task = t; shared = true }))
    (λ _ _. ap (λ (o : Option Pending). (option_map_or (λ (q : Pending). q.request) o (record { id = fresh; kind = kind_of p; challenge = challenge; since = clock })).id == fresh) free ∙ eq-eqb fresh fresh refl)
    (λ _. rests fresh (record p { task = record own { due = own.deadline }; shared = true }) (ap (λ (o : Option Pending). is_some o && true) free)))

same_some : (p q : Peer) → Some p ≡ Some q → p ≡ q
same_some p q is = cc

turned_one : (setup : Setup) (fresh : ℕ) (state : State) (p : Peer) (along : Bool) → (along ≡ true → (is_fit state.clock p ≡ true) × (list_any is_together state.peers ≡ false)) → find (is_next (is_free state.peers) state.clock) state.peers ≡ Some p
    → AreOne state.peers → AreOne (joined setup state.clock fresh state.challenge (most_others setup along) (turned_first setup fresh (is_free state.peers) along state))
turned_one setup fresh state p true takes here one =
    let parts = takes refl in (
      fresh,
      joined_some (SharesOne fresh) setup state.clock fresh state.challenge (most_others setup true) (turned_first setup fresh (is_free state.peers) true state)
          (λ q fit _ _. fit_shares setup state.clock fresh state.challenge q fit)
          (each_changed (SharesOne fresh) (is_next (is_free state.peers) state.clock) (turned_of true setup state.clock fresh state.challenge) state.peers
          (λ q _ found _. fit_shares setup state.clock fresh state.challenge q (ap (is_fit state.clock) (same_some q p (sym found ∙ here)) ∙ parts.0))
          (none_together fresh state.peers parts.1)),
    )
turned_one setup fresh state p false takes here one =
    (one.0, each_changed (SharesOne one.0) (is_next (is_free state.peers) state.clock) (turned_of false setup state.clock fresh state.challenge) state.peers (λ q _ _ _. alone_shares setup state.clock fresh state.challenge one.0 q) one.1)

turn_one : (setup : Setup) (fresh : ℕ) (state : State) (o : Option Peer) → find (is_next (is_free state.peers) state.clock) state.peers ≡ o → AreOne state.peers → AreOne (option_map_or (turns_peer setup fresh (is_free state.peers) state) o (keeps state)).state.peers
turn_one setup fresh state None here one = one
turn_one setup fresh state (Some p) here one =
    turned_one setup fresh state p (takes_along setup state.clock state.peers p) (λ taken. let parts = takes_parts setup state.clock state.peers p taken in (parts.fit, parts.none)) here one

happens_one : (setup : Setup) (fresh : ℕ) (state : State) (event : Event) → AreOne state.peers → AreOne (happens setup fresh state event).state.peers
happens_one setup fresh state polls one = polls_peers AreOne setup fresh state one (turn_one setup fresh state (find (is_next (is_free state.peers) state.clock) state.peers) refl one)
happens_one setup fresh state allocates one = changes_peers AreOne setup one_change fresh state allocates (one_named setup state allocates) (λ is. absurd cc) one
happens_one setup fresh state (permits address) one = changes_peers AreOne setup one_change fresh state (permits address) (one_named setup state (permits address)) (λ is. absurd cc) one
happens_one setup fresh state (binds address) one = changes_peers AreOne setup one_change fresh state (binds address) (one_named setup state (binds address)) (λ is. absurd cc) one
happens_one setup fresh state (drops peer) one = changes_peers AreOne setup one_change fresh state (drops peer) (one_named setup state (drops peer)) (λ is. absurd cc) one
happens_one setup fresh state (sends peer bytes) one = changes_peers AreOne setup one_change fresh state (sends peer bytes) (one_named setup state (sends peer bytes)) (λ is. absurd cc) one
happens_one setup fresh state closes one = changes_peers AreOne setup one_change fresh state closes (one_named setup state closes) (λ is. absurd cc) one
happens_one setup fresh state (responds from id authentic answer) one = changes_peers AreOne setup one_change fresh state (responds from id authentic answer) (one_named setup state (responds from id authentic answer)) (λ is. absurd cc) one
happens_one setup fresh state (gives from peer bytes) one = changes_peers AreOne setup one_change fresh state (gives from peer bytes) (one_named setup state (gives from peer bytes)) (λ is. absurd cc) one
happens_one setup fresh state (gives_on from number bytes) one = changes_peers AreOne setup one_change fresh state (gives_on from number bytes) (one_named setup state (gives_on from number bytes)) (λ is. absurd cc) one
happens_one setup fresh state (strays from) one = changes_peers AreOne setup one_change fresh state (strays from) (one_named setup state (strays from)) (λ is. absurd cc) one

pub run_one : (setup : Setup) (events : List Timed) → AreOne (run setup events).peers
run_one setup [] = (0, tt)
run_one setup (timed ∷ earlier) = happens_one setup timed.fresh (at timed.now (run setup earlier)) timed.event (run_one setup earlier)
