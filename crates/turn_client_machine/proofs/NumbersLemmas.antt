-- A property of the list of peers holds after each step, if each change of a peer that keeps its number and
-- address keeps it, and so does a new peer. So each peer's number is its place.
use Rattle.std.proofs.Common.{◌≡◌, ◌<◌, inl, inr, ◌⊎◌, ℕ, zero, suc, Bool, true, false, ◌&&◌, List, [], ◌∷◌, Option, None, Some, map, refl, ap, subst, sym, ◌∙◌, arith, ltb-true, eqb-true, find, length}
use mathlib.Core.Logic.{⊎_elim}
use Rattle.std.specs.List.{AllByRecursion, list_any}
use Rattle.std.specs.Option.{option_map_or}
use Rattle.std.specs.Prelude.{◌==◌, nat_lt, min, is_some, if◌then◌else◌}
use Rattle.std.proofs.lemmas.Bool.{cond_both, and_parts, or_cases, false≢true, true≢false}
use Rattle.turn_client_machine.specs.Clients.{Endpoint, is_endpoint, Setup, Kind, Allocate, Refresh, Delete, Permit, Bind, Request, Pending, Phase, Quiet, Asking, Allocated, Closing, Ended, Peer, State, is_allocated, is_active, is_peer, is_rested, Useless}
use Rattle.turn_client_machine.specs.Events.{Answer, Opened, Extended, Done, Refused, Challenged, Redirected, Violated, Event, allocates, permits, binds, drops, sends, closes, responds, gives, gives_on, strays, polls}
use Rattle.turn_client_machine.specs.Tasks.{awaits, may_retry, is_due, is_expired}
use Rattle.turn_client_machine.specs.Responses.{asks_instead, changed_first, changed_each, is_allocate, opened, extended, extended_by, answered, restarted, reopened, granted_by, granted, turned_down, challenged, awaits_of, answered_peer, deletes, is_long, is_useful, violated_by}
use Rattle.turn_client_machine.specs.Steps.{Step, keeps, at, covers, has_room, can_name, new_peer, replaced, with_new, wanting, dropped, is_listed, begins, closes_from, turned_of, turns_peer, turned_first, takes_along, most_others, joined, happens, is_next, is_fit, is_free, is_single, is_together}
use Rattle.turn_client_machine.specs.Runs.{Timed, run}
use Rattle.turn_client_machine.specs.Bounds.{AreNumbered}

-- ---- No change changes the number or the address

-- nor forgets that a channel was wanted, nor makes a number rest
abbrev pub IsSame : Peer → Peer → Type 0
IsSame p q = (q.number ≡ p.number) × (q.address ≡ p.address) × (p.wanted ≡ true → q.wanted ≡ true) × ((until : ℕ) → q.rests_until ≡ Some until → p.rests_until ≡ Some until)

granted_by_same : (r : Request) (kind : Kind) (p : Peer) → IsSame p (granted_by r kind p)
granted_by_same r Allocate p = (refl, refl, λ w. w, λ u e. e)
granted_by_same r Refresh p = (refl, refl, λ w. w, λ u e. e)
granted_by_same r Delete p = (refl, refl, λ w. w, λ u e. e)
granted_by_same r (Permit peer) p = (refl, refl, λ w. w, λ u e. e)
granted_by_same r (Bind number peer) p = (refl, refl, λ w. w, λ u e. e)

granted_same_of : (p : Peer) (o : Option Pending) → IsSame p (option_map_or (λ (q : Pending). granted_by q.request q.request.kind p) o p)
granted_same_of p None = (refl, refl, λ w. w, λ u e. e)
granted_same_of p (Some q) = granted_by_same q.request q.request.kind p

pub granted_same : (p : Peer) → IsSame p (granted p)
granted_same p = granted_same_of p p.task.pending

pub turned_down_same : (clock code : ℕ) (p : Peer) → IsSame p (turned_down clock code p)
turned_down_same clock code p = cond_both (asks_instead code p) _ _ (IsSame p) (λ _. (refl, refl, λ w. w, λ u e. e)) (λ _. (refl, refl, λ w. w, λ u e. e))

pub challenged_same : (setup : Setup) (challenge : Option ℕ) (clock code : ℕ) (p : Peer) → IsSame p (challenged setup challenge clock code p)
challenged_same setup challenge clock code p = cond_both (may_retry setup challenge code p.task) _ _ (IsSame p) (λ _. (refl, refl, λ w. w, λ u e. e)) (λ _. (refl, refl, λ w. w, λ u e. e))

pub violated_same : (setup : Setup) (p : Peer) → IsSame p (violated_by setup p)
violated_same setup p = cond_both setup.is_reliable _ _ (IsSame p) (λ _. (refl, refl, λ w. w, λ u e. e)) (λ _. (refl, refl, λ w. w, λ u e. e))

pub wanting_same : (clock : ℕ) (p : Peer) → IsSame p (wanting clock p)
wanting_same clock p = cond_both p.over _ _ (IsSame p) (λ _. (refl, refl, λ _. refl, λ u e. absurd cc)) (λ _. cond_both p.wants _ _ (IsSame p) (λ _. (refl, refl, λ w. w, λ u e. e)) (λ _. (refl, refl, λ _. refl, λ u e. e)))

pub turned_same : (along : Bool) (setup : Setup) (clock fresh : ℕ) (challenge : Option ℕ) (p : Peer) → IsSame p (turned_of along setup clock fresh challenge p)
turned_same along setup clock fresh challenge p = cond_both (is_expired clock p.task) _ _ (IsSame p) (λ _. (refl, refl, λ w. w, λ u e. e)) (λ _. (refl, refl, λ w. w, λ u e. e))

-- ---- None but a poll makes a new request for a peer, alone or with others

abbrev pub IsCalm : Peer → Peer → Type 0
IsCalm p q = (is_single q ≡ true → is_single p ≡ true) × (is_together q ≡ true → (is_together p ≡ true) × (q.task.pending ≡ p.task.pending))

granted_by_calm : (r : Request) (kind : Kind) (p : Peer) → IsCalm p (granted_by r kind p)
granted_by_calm r Allocate p = (λ is. is, λ is. (is, refl))
granted_by_calm r Refresh p = (λ is. is, λ is. (is, refl))
granted_by_calm r Delete p = (λ is. is, λ is. (is, refl))
granted_by_calm r (Permit peer) p = (λ is. absurd (false≢true is), λ is. absurd (false≢true is))
granted_by_calm r (Bind number peer) p = (λ is. absurd (false≢true is), λ is. absurd (false≢true is))

granted_calm_of : (p : Peer) (o : Option Pending) → IsCalm p (option_map_or (λ (q : Pending). granted_by q.request q.request.kind p) o p)
granted_calm_of p None = (λ is. is, λ is. (is, refl))
granted_calm_of p (Some q) = granted_by_calm q.request q.request.kind p

pub granted_calm : (p : Peer) → IsCalm p (granted p)
granted_calm p = granted_calm_of p p.task.pending

turned_down_calm : (clock code : ℕ) (p : Peer) → IsCalm p (turned_down clock code p)
turned_down_calm clock code p = cond_both (asks_instead code p) _ _ (IsCalm p) (λ _. (λ is. absurd (false≢true is), λ is. absurd (false≢true is))) (λ _. (λ is. absurd (false≢true is), λ is. absurd (false≢true is)))

challenged_calm : (setup : Setup) (challenge : Option ℕ) (clock code : ℕ) (p : Peer) → IsCalm p (challenged setup challenge clock code p)
challenged_calm setup challenge clock code p = cond_both (may_retry setup challenge code p.task) _ _ (IsCalm p) (λ _. (λ is. absurd (false≢true is), λ is. absurd (false≢true is))) (λ _. (λ is. absurd (false≢true is), λ is. absurd (false≢true is)))

violated_calm : (setup : Setup) (p : Peer) → IsCalm p (violated_by setup p)
violated_calm setup p = cond_both setup.is_reliable _ _ (IsCalm p) (λ _. (λ is. absurd (false≢true is), λ is. absurd (false≢true is))) (λ _. (λ is. is, λ is. (is, refl)))

wanting_calm : (clock : ℕ) (p : Peer) → IsCalm p (wanting clock p)
wanting_calm clock p = cond_both p.over _ _ (IsCalm p) (λ _. (λ is. absurd (false≢true is), λ is. absurd (false≢true is))) (λ _. cond_both p.wants _ _ (IsCalm p) (λ _. (λ is. is, λ is. (is, refl))) (λ _. (λ is. absurd (false≢true is), λ is. absurd (false≢true is))))

-- ---- States

-- what a step that names or drops a peer keeps of the list
pub record NamesKeep (setup : Setup) (state : State) (event : Event) (L : List Peer → Type 0) : Type 0 where
  pub grown : (wants : Bool) (address : Endpoint) → (event ≡ permits address) ⊎ (event ≡ binds address) → list_any (is_peer address) state.peers ≡ false → can_name setup state.clock address state.peers ≡ true → list_any (is_rested state.clock) state.peers ≡ false → L state.peers
      → L (new_peer state.clock wants address state.peers ∷ state.peers)
  pub replaced_by : (wants : Bool) (address : Endpoint) → (event ≡ permits address) ⊎ (event ≡ binds address) → list_any (is_peer address) state.peers ≡ false → can_name setup state.clock address state.peers ≡ true → L state.peers
      → L (changed_first (is_rested state.clock) (replaced state.clock wants address) state.peers)
  pub dropped_by : (address : Endpoint) → event ≡ drops address → L state.peers → L (changed_first (is_listed address) (dropped state.clock) state.peers)

-- other steps name and drop none
pub no_names : (setup : Setup) (state : State) (event : Event) (L : List Peer → Type 0) → ((address : Endpoint) → event ≡ permits address → ⊥) → ((address : Endpoint) → event ≡ binds address → ⊥) → ((address : Endpoint) → event ≡ drops address → ⊥) → NamesKeep setup state event L
no_names setup state event L one two three = record {
  grown = λ wants address named unknown can none are. absurd (⊎_elim (one address) (two address) named);
  replaced_by = λ wants address named unknown can are. absurd (⊎_elim (one address) (two address) named);
  dropped_by = λ address is are. absurd (three address is);
}

-- what the change of a peer keeps of the list
pub record PeersChange (L : List Peer → Type 0) : Type 0 where
  pub mapped : (change : Peer → Peer) → ((p : Peer) → IsSame p (change p)) → ((p : Peer) → IsCalm p (change p)) → (ps : List Peer) → L ps → L (map {B = Peer} change ps)
  pub changed : (test : Peer → Bool) (change : Peer → Peer) → ((p : Peer) → IsSame p (change p)) → ((p : Peer) → IsCalm p (change p)) → (ps : List Peer) → L ps → L (changed_first test change ps)
  pub changed_all : (test : Peer → Bool) (change : Peer → Peer) → ((p : Peer) → IsSame p (change p)) → ((p : Peer) → IsCalm p (change p)) → (ps : List Peer) → L ps → L (changed_each test change ps)

-- and a poll
pub record PeersKeep (setup : Setup) (L : List Peer → Type 0) : Type 0 where
  pub mapped : (change : Peer → Peer) → ((p : Peer) → IsSame p (change p)) → ((p : Peer) → IsCalm p (change p)) → (ps : List Peer) → L ps → L (map {B = Peer} change ps)
  pub changed : (test : Peer → Bool) (change : Peer → Peer) → ((p : Peer) → IsSame p (change p)) → ((p : Peer) → IsCalm p (change p)) → (ps : List Peer) → L ps → L (changed_first test change ps)
  pub changed_all : (test : Peer → Bool) (change : Peer → Peer) → ((p : Peer) → IsSame p (change p)) → ((p : Peer) → IsCalm p (change p)) → (ps : List Peer) → L ps → L (changed_each test change ps)
  pub turned : (along : Bool) (clock fresh : ℕ) (challenge : Option ℕ) (ps : List Peer) → L ps → L (changed_first (is_next (is_free ps) clock) (turned_of along setup clock fresh challenge) ps)
  pub joins : (clock fresh : ℕ) (challenge : Option ℕ) (ps : List Peer) → L ps → L (changed_first (is_fit clock) (turned_of true setup clock fresh challenge) ps)

changes_of : (L : List Peer → Type 0) (setup : Setup) → PeersKeep setup L → PeersChange L
changes_of L setup c = record { mapped = c.mapped; changed = c.changed; changed_all = c.changed_all }

with_new_peers : (L : List Peer → Type 0) (setup : Setup) (state : State) (event : Event) → NamesKeep setup state event L → (wants : Bool) (address : Endpoint) → (event ≡ permits address) ⊎ (event ≡ binds address) → list_any (is_peer address) state.peers ≡ false → L state.peers → L (with_new setup state.clock wants address state.peers)
with_new_peers L setup state event n wants address named unknown are = cond_both (can_name setup state.clock address state.peers) _ _ L
    (λ can. cond_both (list_any (is_rested state.clock) state.peers) _ _ L (λ _. n.replaced_by wants address named unknown can are) (λ none. n.grown wants address named unknown can none are)) (λ _. are)

extended_peers : (kind : Kind) (r : Request) (lifetime : ℕ) (state : State) → (extended_by kind r lifetime state).peers ≡ state.peers
extended_peers Allocate r lifetime state = refl
extended_peers Refresh r lifetime state = cond_both (is_long lifetime) (extended r lifetime state) (deletes Useless state) (λ (s : State). s.peers ≡ state.peers) (λ _. refl) (λ _. refl)
extended_peers Delete r lifetime state = refl
extended_peers (Permit peer) r lifetime state = refl
extended_peers (Bind number peer) r lifetime state = refl

answered_peers : (L : List Peer → Type 0) (setup : Setup) → PeersChange L → (authentic : Bool) (answer : Answer) (state : State) (r : Request) → L state.peers → L (answered setup authentic answer state r).peers
answered_peers L setup c authentic (Opened relayed mapped lifetime) state r few = cond_both (authentic && is_allocate r.kind) _ _ (λ (s : State). L s.peers)
    (λ _. cond_both (is_useful setup relayed lifetime) (opened r relayed mapped lifetime state) (deletes Useless state) (λ (s : State). L s.peers)
    (λ _. c.mapped (reopened state.clock) (λ p. (refl, refl, λ w. w, λ u e. e)) (λ p. (λ is. absurd (false≢true is), λ is. absurd (false≢true is))) state.peers few) (λ _. few)) (λ _. few)
answered_peers L setup c authentic (Extended lifetime) state r few = cond_both authentic _ _ (λ (s : State). L s.peers) (λ _. subst L (sym (extended_peers r.kind r lifetime state)) few) (λ _. few)
answered_peers L setup c authentic Done state r few = few
answered_peers L setup c authentic (Refused code) state r few = cond_both authentic _ _ (λ (s : State). L s.peers) (λ _. few) (λ _. few)
answered_peers L setup c authentic (Challenged code challenge) state r few = cond_both (may_retry setup state.challenge code state.task) _ _ (λ (s : State). L s.peers) (λ _. few) (λ _. few)
answered_peers L setup c authentic (Redirected server) state r few = cond_both (authentic && is_allocate r.kind) _ _ (λ (s : State). L s.peers) (λ _. few) (λ _. few)
answered_peers L setup c authentic Violated state r few = cond_both setup.is_reliable _ _ (λ (s : State). L s.peers) (λ _. few) (λ _. few)

peer_peers : (L : List Peer → Type 0) (setup : Setup) → PeersChange L → (id : ℕ) (authentic : Bool) (answer : Answer) (state : State) → L state.peers → L (answered_peer setup id authentic answer state).peers
peer_peers L setup c id authentic (Opened relayed mapped lifetime) state few = few
peer_peers L setup c id authentic (Extended lifetime) state few = few
peer_peers L setup c id authentic Done state few = cond_both authentic _ _ (λ (s : State). L s.peers) (λ _. c.changed_all (awaits_of id) granted granted_same granted_calm state.peers few) (λ _. few)
peer_peers L setup c id authentic (Refused code) state few = cond_both authentic _ _ (λ (s : State). L s.peers)
    (λ _. cond_both (code == 437) _ _ (λ (s : State). L s.peers) (λ _. few) (λ _. c.changed_all (awaits_of id) (turned_down state.clock code) (turned_down_same state.clock code) (turned_down_calm state.clock code) state.peers few)) (λ _. few)
peer_peers L setup c id authentic (Challenged code challenge) state few = c.changed_all (awaits_of id) (challenged setup state.challenge state.clock code) (challenged_same setup state.challenge state.clock code) (challenged_calm setup state.challenge state.clock code) state.peers few
peer_peers L setup c id authentic (Redirected server) state few = few
peer_peers L setup c id authentic Violated state few = c.changed_all (awaits_of id) (violated_by setup) (violated_same setup) (violated_calm setup) state.peers few

task_peers : (L : List Peer → Type 0) (setup : Setup) → PeersChange L → (authentic : Bool) (answer : Answer) (state : State) (o : Option Pending) → L state.peers → L (option_map_or (λ (q : Pending). answered setup authentic answer state q.request) o state).peers
task_peers L setup c authentic answer state None few = few
task_peers L setup c authentic answer state (Some q) few = answered_peers L setup c authentic answer state q.request few

-- what each further peer keeps
pub joined_keeps : (L : List Peer → Type 0) (setup : Setup) (clock fresh : ℕ) (challenge : Option ℕ) → ((ps : List Peer) → L ps → L (changed_first (is_fit clock) (turned_of true setup clock fresh challenge) ps)) → (n : ℕ) (ps : List Peer) → L ps → L (joined setup clock fresh challenge n ps)
joined_keeps L setup clock fresh challenge f zero ps is = is
joined_keeps L setup clock fresh challenge f (suc n) ps is = f (joined setup clock fresh challenge n ps) (joined_keeps L setup clock fresh challenge f n ps is)

turn_peers : (L : List Peer → Type 0) (setup : Setup) → PeersKeep setup L → (fresh : ℕ) (state : State) (o : Option Peer) → L state.peers → L (option_map_or (turns_peer setup fresh (is_free state.peers) state) o (keeps state)).state.peers
turn_peers L setup c fresh state None few = few
turn_peers L setup c fresh state (Some p) few =
    let along = takes_along setup state.clock state.peers p in
    joined_keeps L setup state.clock fresh state.challenge (c.joins state.clock fresh state.challenge) (most_others setup along) (turned_first setup fresh (is_free state.peers) along state) (c.turned along state.clock fresh state.challenge state.peers few)

begins_peers : (L : List Peer → Type 0) → (phase : Phase) (state : State) → L state.peers → L (begins phase state).peers
begins_peers L Quiet state few = few
begins_peers L Asking state few = few
begins_peers L Allocated state few = few
begins_peers L (Closing why) state few = few
begins_peers L (Ended why) state few = few

closes_peers : (L : List Peer → Type 0) → (phase : Phase) (state : State) → L state.peers → L (closes_from phase state).peers
closes_peers L Quiet state few = few
closes_peers L Asking state few = cond_both (is_some state.challenge) _ _ (λ (s : State). L s.peers) (λ _. few) (λ _. few)
closes_peers L Allocated state few = few
closes_peers L (Closing why) state few = few
closes_peers L (Ended why) state few = few

-- each event but a poll
pub changes_peers : (L : List Peer → Type 0) (setup : Setup) → PeersChange L → (fresh : ℕ) (state : State) (event : Event) → NamesKeep setup state event L → (event ≡ polls → ⊥) → L state.peers → L (happens setup fresh state event).state.peers
changes_peers L setup c fresh state allocates n isnt few = begins_peers L state.phase state few
changes_peers L setup c fresh state (permits address) n isnt few = cond_both (list_any (covers address.ip) state.peers) _ _ L (λ _. few)
    (λ _. cond_both (list_any (is_peer address) state.peers) _ _ L
    (λ _. c.changed (is_peer address) (restarted state.clock) (λ p. (refl, refl, λ w. w, λ u e. absurd cc)) (λ p. (λ is. absurd (false≢true is), λ is. absurd (false≢true is))) state.peers few)
    (λ unknown. with_new_peers L setup state (permits address) n false address (inl refl) unknown few))
changes_peers L setup c fresh state (binds address) n isnt few = cond_both (list_any (is_peer address) state.peers) _ _ L
    (λ _. c.changed (is_peer address) (wanting state.clock) (wanting_same state.clock) (wanting_calm state.clock) state.peers few)
    (λ unknown. with_new_peers L setup state (binds address) n true address (inr refl) unknown few)
changes_peers L setup c fresh state (drops peer) n isnt few = n.dropped_by peer refl few
changes_peers L setup c fresh state (sends peer bytes) n isnt few = few
changes_peers L setup c fresh state closes n isnt few = closes_peers L state.phase state few
changes_peers L setup c fresh state (responds from id authentic answer) n isnt few =
    cond_both (is_endpoint from setup.server && is_active state.phase) _ _ (λ (s : State). L s.peers)
    (λ _. cond_both (awaits id state.task) _ _ (λ (s : State). L s.peers) (λ _. task_peers L setup c authentic answer state state.task.pending few)
    (λ _. cond_both (is_allocated state.phase && list_any (awaits_of id) state.peers) _ _ (λ (s : State). L s.peers) (λ _. peer_peers L setup c id authentic answer state few) (λ _. few)))
    (λ _. few)
changes_peers L setup c fresh state (gives from peer bytes) n isnt few = few
changes_peers L setup c fresh state (gives_on from number bytes) n isnt few = few
changes_peers L setup c fresh state (strays from) n isnt few = few
changes_peers L setup c fresh state polls n isnt few = absurd (isnt refl)

-- a poll, if a peer's turn keeps it
pub polls_peers : (L : List Peer → Type 0) (setup : Setup) (fresh : ℕ) (state : State) → L state.peers → L (option_map_or (turns_peer setup fresh (is_free state.peers) state) (find (is_next (is_free state.peers) state.clock) state.peers) (keeps state)).state.peers
    → L (happens setup fresh state polls).state.peers
polls_peers L setup fresh state few after =
    cond_both (is_active state.phase && is_due state.clock state.task) _ _ (λ (s : Step). L s.state.peers)
    (λ _. cond_both (is_expired state.clock state.task) _ _ (λ (s : Step). L s.state.peers) (λ _. few) (λ _. few))
    (λ _. cond_both (is_allocated state.phase) _ _ (λ (s : Step). L s.state.peers) (λ _. after) (λ _. few))

pub happens_peers : (L : List Peer → Type 0) (setup : Setup) → PeersKeep setup L → (fresh : ℕ) (state : State) (event : Event) → NamesKeep setup state event L → L state.peers → L (happens setup fresh state event).state.peers
happens_peers L setup c fresh state polls n few = polls_peers L setup fresh state few (turn_peers L setup c fresh state (find (is_next (is_free state.peers) state.clock) state.peers) few)
happens_peers L setup c fresh state allocates n few = changes_peers L setup (changes_of L setup c) fresh state allocates n (λ is. absurd cc) few
happens_peers L setup c fresh state (permits address) n few = changes_peers L setup (changes_of L setup c) fresh state (permits address) n (λ is. absurd cc) few
happens_peers L setup c fresh state (binds address) n few = changes_peers L setup (changes_of L setup c) fresh state (binds address) n (λ is. absurd cc) few
happens_peers L setup c fresh state (drops peer) n few = changes_peers L setup (changes_of L setup c) fresh state (drops peer) n (λ is. absurd cc) few
happens_peers L setup c fresh state (sends peer bytes) n few = changes_peers L setup (changes_of L setup c) fresh state (sends peer bytes) n (λ is. absurd cc) few
happens_peers L setup c fresh state closes n few = changes_peers L setup (changes_of L setup c) fresh state closes n (λ is. absurd cc) few
happens_peers L setup c fresh state (responds from id authentic answer) n few = changes_peers L setup (changes_of L setup c) fresh state (responds from id authentic answer) n (λ is. absurd cc) few
happens_peers L setup c fresh state (gives from peer bytes) n few = changes_peers L setup (changes_of L setup c) fresh state (gives from peer bytes) n (λ is. absurd cc) few
happens_peers L setup c fresh state (gives_on from number bytes) n few = changes_peers L setup (changes_of L setup c) fresh state (gives_on from number bytes) n (λ is. absurd cc) few
happens_peers L setup c fresh state (strays from) n few = changes_peers L setup (changes_of L setup c) fresh state (strays from) n (λ is. absurd cc) few

-- ---- Numbers

length-map : {X Y : Type 0} (f : X → Y) (xs : List X) → length (map f xs) ≡ length xs
length-map f [] = refl
length-map f (x ∷ xs) = ap suc (length-map f xs)

pub length-changed_first : {X : Type 0} (test : X → Bool) (change : X → X) (xs : List X) → length (changed_first test change xs) ≡ length xs
length-changed_first test change [] = refl
length-changed_first test change (x ∷ xs) =
    let more = length-changed_first test change xs in
    cond_both (test x) (change x ∷ xs) (x ∷ changed_first test change xs) (λ ys. length ys ≡ suc (length xs)) (λ _. refl) (λ _. ap suc more)

pub length-changed_each : {X : Type 0} (test : X → Bool) (change : X → X) (xs : List X) → length (changed_each test change xs) ≡ length xs
length-changed_each test change [] = refl
length-changed_each test change (x ∷ xs) = ap suc (length-changed_each test change xs)

each_numbered : (test : Peer → Bool) (change : Peer → Peer) → ((p : Peer) → (change p).number ≡ p.number) → (ps : List Peer) → AreNumbered ps → AreNumbered (changed_each test change ps)
each_numbered test change same [] are = tt
each_numbered test change same (p ∷ ps) are =
    let size = length-changed_each test change ps in
    let one : (if test p then change p else p).number ≡ p.number = cond_both (test p) (change p) p (λ (q : Peer). q.number ≡ p.number) (λ _. same p) (λ _. refl) in
    let place = are.0 in let few = are.1.0 in
    (omega (arith, size, one, place), (omega (arith, size, few), each_numbered test change same ps are.1.1))

mapped_numbered : (change : Peer → Peer) → ((p : Peer) → IsSame p (change p)) → (ps : List Peer) → AreNumbered ps → AreNumbered (map {B = Peer} change ps)
mapped_numbered change same [] are = tt
mapped_numbered change same (p ∷ ps) are =
    let size : length (map {B = Peer} change ps) ≡ length ps = length-map change ps in
    let one = (same p).0 in let place = are.0 in let few = are.1.0 in
    (omega (arith, size, one, place), (omega (arith, size, few), mapped_numbered change same ps are.1.1))

changed_numbered : (test : Peer → Bool) (change : Peer → Peer) → ((p : Peer) → (change p).number ≡ p.number) → (ps : List Peer) → AreNumbered ps → AreNumbered (changed_first test change ps)
changed_numbered test change same [] are = tt
changed_numbered test change same (p ∷ ps) are =
    cond_both (test p) (change p ∷ ps) (p ∷ changed_first test change ps) AreNumbered
    (λ _. (same p ∙ are.0, are.1))
    (λ _. let size = length-changed_first test change ps in let place = are.0 in let few = are.1.0 in
    (omega (arith, size, place), (omega (arith, size, few), changed_numbered test change same ps are.1.1)))

numbered_keep : (setup : Setup) → PeersKeep setup AreNumbered
numbered_keep setup = record {
  mapped = λ change same calm. mapped_numbered change same;
  changed = λ test change same calm. changed_numbered test change (λ p. (same p).0);
  changed_all = λ test change same calm. each_numbered test change (λ p. (same p).0);
  turned = λ along clock fresh challenge ps. changed_numbered (is_next (is_free ps) clock) (turned_of along setup clock fresh challenge) (λ p. (turned_same along setup clock fresh challenge p).0) ps;
  joins = λ clock fresh challenge ps. changed_numbered (is_fit clock) (turned_of true setup clock fresh challenge) (λ p. (turned_same true setup clock fresh challenge p).0) ps;
}

-- if no number has rested, there is room for one more
pub room_left : (setup : Setup) (clock : ℕ) (address : Endpoint) (peers : List Peer) → can_name setup clock address peers ≡ true → list_any (is_rested clock) peers ≡ false → length peers < min setup.most_peers 4096
room_left setup clock address peers can none =
    elim (or_cases (list_any (is_rested clock) peers) (nat_lt (length peers) (min setup.most_peers 4096)) (and_parts (address.ip.family == setup.family) (has_room setup clock peers) can).1) [
      | inl some ↦ absurd (true≢false (sym some ∙ none))
      | inr less ↦ ltb-true (length peers) (min setup.most_peers 4096) less
    ]

numbers_keep : (setup : Setup) (state : State) (event : Event) → NamesKeep setup state event AreNumbered
numbers_keep setup state event = record {
  grown = λ wants address named unknown can none are. (refl, ((let less = room_left setup state.clock address state.peers can none in omega (arith, less)), are));
  replaced_by = λ wants address named unknown can. changed_numbered (is_rested state.clock) (replaced state.clock wants address) (λ p. refl) state.peers;
  dropped_by = λ address is. changed_numbered (is_listed address) (dropped state.clock) (λ p. refl) state.peers;
}

pub run_numbered : (setup : Setup) (events : List Timed) → AreNumbered (run setup events).peers
run_numbered setup [] = tt
run_numbered setup (timed ∷ earlier) = let s = at timed.now (run setup earlier) in happens_peers AreNumbered setup (numbered_keep setup) timed.fresh s timed.event (numbers_keep setup s timed.event) (run_numbered setup earlier)

-- ---- The family of the peers

abbrev pub AreOfFamily : ℕ → List Peer → Type 0
AreOfFamily family peers = AllByRecursion (λ p. p.address.ip.family ≡ family) peers

mapped_family : (family : ℕ) (change : Peer → Peer) → ((p : Peer) → IsSame p (change p)) → (ps : List Peer) → AreOfFamily family ps → AreOfFamily family (map {B = Peer} change ps)
mapped_family family change same [] are = tt
mapped_family family change same (p ∷ ps) are = (ap (λ (e : Endpoint). e.ip.family) (same p).1 ∙ are.0, mapped_family family change same ps are.1)

changed_family : (family : ℕ) (test : Peer → Bool) (change : Peer → Peer) → ((p : Peer) → p.address.ip.family ≡ family → (change p).address.ip.family ≡ family) → (ps : List Peer) → AreOfFamily family ps → AreOfFamily family (changed_first test change ps)
changed_family family test change same [] are = tt
changed_family family test change same (p ∷ ps) are =
    cond_both (test p) (change p ∷ ps) (p ∷ changed_first test change ps) (AreOfFamily family)
    (λ _. (same p are.0, are.1)) (λ _. (are.0, changed_family family test change same ps are.1))

each_family : (family : ℕ) (test : Peer → Bool) (change : Peer → Peer) → ((p : Peer) → IsSame p (change p)) → (ps : List Peer) → AreOfFamily family ps → AreOfFamily family (changed_each test change ps)
each_family family test change same [] are = tt
each_family family test change same (p ∷ ps) are = (
  cond_both (test p) (change p) p (λ (q : Peer). q.address.ip.family ≡ family) (λ _. ap (λ (e : Endpoint). e.ip.family) (same p).1 ∙ are.0) (λ _. are.0),
  each_family family test change same ps are.1,
)

family_keep : (setup : Setup) → PeersKeep setup (AreOfFamily setup.family)
family_keep setup = record {
  mapped = λ change same calm. mapped_family setup.family change same;
  changed = λ test change same calm. changed_family setup.family test change (λ p is. ap (λ (e : Endpoint). e.ip.family) (same p).1 ∙ is);
  changed_all = λ test change same calm. each_family setup.family test change same;
  turned = λ along clock fresh challenge ps. changed_family setup.family (is_next (is_free ps) clock) (turned_of along setup clock fresh challenge) (λ p is. ap (λ (e : Endpoint). e.ip.family) (turned_same along setup clock fresh challenge p).1 ∙ is) ps;
  joins = λ clock fresh challenge ps. changed_family setup.family (is_fit clock) (turned_of true setup clock fresh challenge) (λ p is. ap (λ (e : Endpoint). e.ip.family) (turned_same true setup clock fresh challenge p).1 ∙ is) ps;
}

named_family : (setup : Setup) (clock : ℕ) (address : Endpoint) (peers : List Peer) → can_name setup clock address peers ≡ true → address.ip.family ≡ setup.family
named_family setup clock address peers can = eqb-true address.ip.family setup.family (and_parts (address.ip.family == setup.family) (has_room setup clock peers) can).0

families_keep : (setup : Setup) (state : State) (event : Event) → NamesKeep setup state event (AreOfFamily setup.family)
families_keep setup state event = record {
  grown = λ wants address named unknown can none are. (named_family setup state.clock address state.peers can, are);
  replaced_by = λ wants address named unknown can. changed_family setup.family (is_rested state.clock) (replaced state.clock wants address) (λ p is. named_family setup state.clock address state.peers can) state.peers;
  dropped_by = λ address is. changed_family setup.family (is_listed address) (dropped state.clock) (λ p is. is) state.peers;
}

pub run_family : (setup : Setup) (events : List Timed) → AreOfFamily setup.family (run setup events).peers
run_family setup [] = tt
run_family setup (timed ∷ earlier) = let s = at timed.now (run setup earlier) in happens_peers (AreOfFamily setup.family) setup (family_keep setup) timed.fresh s timed.event (families_keep setup s timed.event) (run_family setup earlier)
