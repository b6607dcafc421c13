-- No two peers have the same address, a dropped one has nothing, and one for which a channel was asked is known as
-- such.
use Rattle.std.proofs.Common.{◌≡◌, ℕ, Bool, true, false, not, ◌||◌, List, [], ◌∷◌, Option, None, Some, map, refl, sym, ap, subst, ◌∙◌}
use Rattle.std.specs.List.{AllByRecursion, list_any}
use Rattle.std.specs.Option.{option_map_or}
use Rattle.std.specs.Prelude.{◌==◌, if◌then◌else◌}
use Rattle.std.proofs.lemmas.Bool.{cond_both, and_parts, and_from, or_from, or_parts, true≢false, false≢true, false_from_ne_true, not-true}
use Rattle.stun_endpoints.proofs.AddressesLemmas.{endpoint_same, endpoint_is_itself}
use Rattle.turn_client_machine.specs.Clients.{Endpoint, is_endpoint, Setup, Kind, Allocate, Refresh, Delete, Permit, Bind, Request, Pending, Task, Peer, State, is_peer, is_dropped, is_rested, is_bind, is_binding}
use Rattle.turn_client_machine.specs.Events.{Event}
use Rattle.turn_client_machine.specs.Tasks.{may_retry, may_send, is_due, is_expired}
use Rattle.turn_client_machine.specs.Responses.{asks_instead, changed_first, granted_by, given_up, noted, awaits_of, changed_each}
use Rattle.turn_client_machine.specs.Steps.{at, wanting, replaced, dropped, is_listed, is_due_of, is_next, is_free, kind_of, turned_of, is_fit, own_task, is_single}
use Rattle.turn_client_machine.specs.Dropping.{IsGone}
use Rattle.turn_client_machine.specs.Runs.{Timed, run}
use Rattle.turn_client_machine.proofs.JoiningLemmas.{own_pending}
use Rattle.turn_client_machine.proofs.Keeping.{PeerChanges, happens_each}
use Rattle.turn_client_machine.proofs.NumbersLemmas.{turned_same, NamesKeep, PeersKeep, happens_peers}

-- ---- Each address once

abbrev pub AreOnce : List Peer → Type 0
AreOnce [] = Unit {0}
AreOnce (p ∷ ps) = (list_any (is_peer p.address) ps ≡ false) × AreOnce ps

same_known : (address : Endpoint) (p q : Peer) → q.address ≡ p.address → is_peer address q ≡ is_peer address p
same_known address p q same = ap (is_endpoint address) same

known_mapped : (address : Endpoint) (change : Peer → Peer) → ((p : Peer) → (change p).address ≡ p.address) → (ps : List Peer) → list_any (is_peer address) (map {B = Peer} change ps) ≡ list_any (is_peer address) ps
known_mapped address change same [] = refl
known_mapped address change same (p ∷ ps) =
    ap (λ (b : Bool). b || list_any (is_peer address) (map {B = Peer} change ps)) (same_known address p (change p) (same p)) ∙ ap (λ (b : Bool). is_peer address p || b) (known_mapped address change same ps)

known_changed : (address : Endpoint) (test : Peer → Bool) (change : Peer → Peer) → ((p : Peer) → (change p).address ≡ p.address) → (ps : List Peer) → list_any (is_peer address) (changed_first test change ps) ≡ list_any (is_peer address) ps
known_changed address test change same [] = refl
known_changed address test change same (p ∷ ps) =
    cond_both (test p) (change p ∷ ps) (p ∷ changed_first test change ps) (λ (qs : List Peer). list_any (is_peer address) qs ≡ list_any (is_peer address) (p ∷ ps))
    (λ _. ap (λ (b : Bool). b || list_any (is_peer address) ps) (same_known address p (change p) (same p)))
    (λ _. ap (λ (b : Bool). is_peer address p || b) (known_changed address test change same ps))

once_mapped : (change : Peer → Peer) → ((p : Peer) → (change p).address ≡ p.address) → (ps : List Peer) → AreOnce ps → AreOnce (map {B = Peer} change ps)
once_mapped change same [] once = tt
once_mapped change same (p ∷ ps) once =
    (subst (λ (e : Endpoint). list_any (is_peer e) (map {B = Peer} change ps) ≡ false) (sym (same p)) (known_mapped p.address change same ps ∙ once.0), once_mapped change same ps once.1)

once_changed : (test : Peer → Bool) (change : Peer → Peer) → ((p : Peer) → (change p).address ≡ p.address) → (ps : List Peer) → AreOnce ps → AreOnce (changed_first test change ps)
once_changed test change same [] once = tt
once_changed test change same (p ∷ ps) once =
    cond_both (test p) (change p ∷ ps) (p ∷ changed_first test change ps) AreOnce
    (λ _. (subst (λ (e : Endpoint). list_any (is_peer e) ps ≡ false) (sym (same p)) once.0, once.1))
    (λ _. (known_changed p.address test change same ps ∙ once.0, once_changed test change same ps once.1))

known_each : (address : Endpoint) (test : Peer → Bool) (change : Peer → Peer) → ((p : Peer) → (change p).address ≡ p.address) → (ps : List Peer) → list_any (is_peer address) (changed_each test change ps) ≡ list_any (is_peer address) ps
known_each address test change same [] = refl
known_each address test change same (p ∷ ps) =
    ap (λ (b : Bool). b || list_any (is_peer address) (changed_each test change ps)) (cond_both (test p) (change p) p (λ (q : Peer). is_peer address q ≡ is_peer address p) (λ _. same_known address p (change p) (same p)) (λ _. refl))
    ∙ ap (λ (b : Bool). is_peer address p || b) (known_each address test change same ps)

once_each : (test : Peer → Bool) (change : Peer → Peer) → ((p : Peer) → (change p).address ≡ p.address) → (ps : List Peer) → AreOnce ps → AreOnce (changed_each test change ps)
once_each test change same [] once = tt
once_each test change same (p ∷ ps) once =
    let one : (if test p then change p else p).address ≡ p.address = cond_both (test p) (change p) p (λ (q : Peer). q.address ≡ p.address) (λ _. same p) (λ _. refl) in
    (subst (λ (e : Endpoint). list_any (is_peer e) (changed_each test change ps) ≡ false) (sym one) (known_each p.address test change same ps ∙ once.0), once_each test change same ps once.1)

-- a new address is another
other_address : (one address : Endpoint) → is_endpoint address one ≡ false → is_endpoint one address ≡ false
other_address one address isnt = false_from_ne_true (is_endpoint one address)
    (λ is. true≢false (sym (subst (λ (e : Endpoint). is_endpoint address e ≡ true) (sym (endpoint_same one address is)) (endpoint_is_itself address)) ∙ isnt))

known_replaced : (one address : Endpoint) (clock : ℕ) (wants : Bool) (ps : List Peer) → is_endpoint one address ≡ false → list_any (is_peer one) ps ≡ false → list_any (is_peer one) (changed_first (is_rested clock) (replaced clock wants address) ps) ≡ false
known_replaced one address clock wants [] other none = refl
known_replaced one address clock wants (p ∷ ps) other none =
    let both = or_parts (is_peer one p) (list_any (is_peer one) ps) none in
    cond_both (is_rested clock p) _ _ (λ (qs : List Peer). list_any (is_peer one) qs ≡ false)
    (λ _. or_from (is_endpoint one address) (list_any (is_peer one) ps) other both.1)
    (λ _. or_from (is_peer one p) (list_any (is_peer one) (changed_first (is_rested clock) (replaced clock wants address) ps)) both.0 (known_replaced one address clock wants ps other both.1))

once_replaced : (address : Endpoint) (clock : ℕ) (wants : Bool) (ps : List Peer) → list_any (is_peer address) ps ≡ false → AreOnce ps → AreOnce (changed_first (is_rested clock) (replaced clock wants address) ps)
once_replaced address clock wants [] unknown once = tt
once_replaced address clock wants (p ∷ ps) unknown once =
    let both = or_parts (is_peer address p) (list_any (is_peer address) ps) unknown in
    cond_both (is_rested clock p) _ _ AreOnce
    (λ _. (both.1, once.1))
    (λ _. (known_replaced p.address address clock wants ps (other_address p.address address both.0) once.0, once_replaced address clock wants ps both.1 once.1))

once_keep : (setup : Setup) → PeersKeep setup AreOnce
once_keep setup = record {
  mapped = λ change same calm. once_mapped change (λ p. (same p).1);
  changed = λ test change same calm. once_changed test change (λ p. (same p).1);
  changed_all = λ test change same calm. once_each test change (λ p. (same p).1);
  turned = λ along clock fresh challenge ps. once_changed (is_next (is_free ps) clock) (turned_of along setup clock fresh challenge) (λ p. (turned_same along setup clock fresh challenge p).1) ps;
  joins = λ clock fresh challenge ps. once_changed (is_fit clock) (turned_of true setup clock fresh challenge) (λ p. (turned_same true setup clock fresh challenge p).1) ps;
}

once_named : (setup : Setup) (state : State) (event : Event) → NamesKeep setup state event AreOnce
once_named setup state event = record {
  grown = λ wants address named unknown can none once. (unknown, once);
  replaced_by = λ wants address named unknown can once. once_replaced address state.clock wants state.peers unknown once;
  dropped_by = λ address is once. once_changed (is_listed address) (dropped state.clock) (λ p. refl) state.peers once;
}

pub run_once : (setup : Setup) (events : List Timed) → AreOnce (run setup events).peers
run_once setup [] = tt
run_once setup (timed ∷ earlier) = let s = at timed.now (run setup earlier) in happens_peers AreOnce setup (once_keep setup) timed.fresh s timed.event (once_named setup s timed.event) (run_once setup earlier)

-- ---- What is dropped, and what was asked for

pub record IsTidy (p : Peer) : Type 0 where
  pub wants : p.wants ≡ true → p.wanted ≡ true
  pub binds : is_binding p ≡ true → p.wanted ≡ true
  pub gone : is_dropped p ≡ true → IsGone p

-- a peer with a request under way isn't dropped
pub awaits_none : {R : Type 0} (id : ℕ) (p : Peer) → awaits_of id p ≡ true → p.task.pending ≡ None → R
awaits_none id p awaited none = absurd (true≢false (sym awaited ∙ ap (λ (o : Option Pending). option_map_or (λ (q : Pending). q.request.id == id) o false) none))

given_up_tidy : (code : ℕ) (p : Peer) → IsTidy p → IsTidy (given_up code p)
given_up_tidy code p t = record {
  wants = t.wants;
  binds = λ is. absurd (false≢true is);
  gone = λ d. let g = t.gone d in record { dropped = d; over = refl; permission = g.permission; channel = g.channel; free = refl };
}

granted_by_tidy : (r : Request) (kind : Kind) (p : Peer) → (is_dropped p ≡ true → ⊥) → IsTidy p → IsTidy (granted_by r kind p)
granted_by_tidy r Allocate p on t = t
granted_by_tidy r Refresh p on t = t
granted_by_tidy r Delete p on t = t
granted_by_tidy r (Permit peer) p on t = record { wants = t.wants; binds = λ is. absurd (false≢true is); gone = λ d. absurd (on d) }
granted_by_tidy r (Bind number peer) p on t = record { wants = t.wants; binds = λ is. absurd (false≢true is); gone = λ d. absurd (on d) }

granted_tidy : (p : Peer) (o : Option Pending) → (is_dropped p ≡ true → ⊥) → IsTidy p → IsTidy (option_map_or (λ (q : Pending). granted_by q.request q.request.kind p) o p)
granted_tidy p None on t = t
granted_tidy p (Some q) on t = granted_by_tidy q.request q.request.kind p on t

wanting_tidy : (clock : ℕ) (p : Peer) → IsTidy p → IsTidy (wanting clock p)
wanting_tidy clock p t = cond_both p.over _ _ IsTidy
    (λ _. record { wants = λ _. refl; binds = λ is. absurd (false≢true is); gone = λ d. absurd (false≢true d) })
    (λ on. cond_both p.wants _ _ IsTidy (λ _. t)
    (λ _. record { wants = λ _. refl; binds = λ is. absurd (false≢true is); gone = λ d. absurd (true≢false (sym (t.gone d).over ∙ on)) }))

-- a request that is sent now is for a channel only if one is wanted
binds_now : (p : Peer) (clock fresh : ℕ) (challenge : Option ℕ) (sends : ℕ) (o : Option Pending) → (p.wants ≡ true → p.wanted ≡ true) → (option_map_or (λ (q : Pending). is_bind q.request.kind) o false ≡ true → p.wanted ≡ true)
    → is_bind (option_map_or (λ (q : Pending). q.request) o (record { id = fresh; kind = kind_of p; challenge = challenge; since = clock })).kind ≡ true → p.wanted ≡ true
binds_now p clock fresh challenge sends None wants binds =
    cond_both p.wants (Bind p.number p.address) (Permit p.address) (λ (k : Kind). is_bind k ≡ true → p.wanted ≡ true) (λ is _. wants is) (λ _ e. absurd (false≢true e))
binds_now p clock fresh challenge sends (Some q) wants binds = binds

turned_tidy : (along : Bool) (setup : Setup) (clock fresh : ℕ) (challenge : Option ℕ) (p : Peer) → p.over ≡ false → IsTidy p → IsTidy (turned_of along setup clock fresh challenge p)
turned_tidy along setup clock fresh challenge p on t =
    let not_dropped : is_dropped p ≡ true → ⊥ = λ d. true≢false (sym (t.gone d).over ∙ on) in
    cond_both (is_expired clock p.task) _ _ IsTidy (λ _. given_up_tidy 0 p t)
    (λ _. let binds : option_map_or (λ (q : Pending). is_bind q.request.kind) (own_task p).pending false ≡ true → p.wanted ≡ true = own_pending (λ o. option_map_or (λ (q : Pending). is_bind q.request.kind) o false ≡ true → p.wanted ≡ true) p (λ is. absurd (false≢true is)) t.binds in
    cond_both (may_send setup (own_task p)) _ _ (λ (s : Task). IsTidy (record p { task = s; shared = along }))
    (λ _. record { wants = t.wants; binds = binds_now p clock fresh challenge 0 (own_task p).pending t.wants binds; gone = λ d. absurd (not_dropped d) })
    (λ _. record { wants = t.wants; binds = binds; gone = λ d. absurd (not_dropped d) }))

pub next_on : (free : Bool) (clock : ℕ) (p : Peer) → is_next free clock p ≡ true → p.over ≡ false
next_on free clock p next =
    not-true p.over (and_parts (not p.over) (is_due clock p.task) (and_parts (free || (is_single p || is_expired clock p.task)) (is_due_of clock p) next).1).0

tidy_changes : (setup : Setup) (fresh : ℕ) (state : State) (event : Event) → PeerChanges IsTidy setup fresh state event
tidy_changes setup fresh state event = record {
  new = λ wants address peers _ _. record { wants = λ w. w; binds = λ is. absurd (false≢true is); gone = λ d. absurd (false≢true d) };
  replaces = λ wants address p _ _ _ _. record { wants = λ w. w; binds = λ is. absurd (false≢true is); gone = λ d. absurd (false≢true d) };
  drops_it = λ p address _ _ t. record { wants = t.wants; binds = λ is. absurd (false≢true is); gone = λ d. record { dropped = refl; over = refl; permission = refl; channel = refl; free = refl } };
  reopens = λ p q _ _ t. record {
    wants = t.wants;
    binds = λ is. absurd (false≢true is);
    gone = λ d. record { dropped = d; over = and_from p.over (is_dropped p) (t.gone d).over d; permission = refl; channel = refl; free = refl };
  };
  restarts = λ p _ t. record { wants = t.wants; binds = λ is. absurd (false≢true is); gone = λ d. absurd (false≢true d) };
  wants = λ p address _ _ t. wanting_tidy state.clock p t;
  grants = λ p id genuine awaited t. granted_tidy p p.task.pending (λ d. awaits_none id p awaited (t.gone d).free) t;
  turns_down = λ p id code genuine awaited _ t. cond_both (asks_instead code p) _ _ IsTidy
      (λ _. record { wants = λ w. absurd (false≢true w); binds = λ is. absurd (false≢true is); gone = λ d. awaits_none id p awaited (t.gone d).free }) (λ _. given_up_tidy code p t);
  challenges_it = λ p is awaited _ t. cond_both (may_retry setup state.challenge is.code p.task) _ _ IsTidy
      (λ _. record { wants = t.wants; binds = λ b. absurd (false≢true b); gone = λ d. awaits_none is.id p awaited (t.gone d).free }) (λ _. given_up_tidy is.code p t);
  violates_it = λ p is awaited _ t.
      let same : IsTidy (noted p) = record { wants = t.wants; binds = t.binds; gone = λ d. awaits_none is.id p awaited (t.gone d).free } in
      cond_both setup.is_reliable _ _ IsTidy (λ _. given_up_tidy 0 (noted p) same) (λ _. same);
  turns_it = λ p along is on out t. turned_tidy along setup state.clock fresh state.challenge p on t;
}

pub run_tidy : (setup : Setup) (events : List Timed) → AllByRecursion IsTidy (run setup events).peers
run_tidy setup [] = tt
run_tidy setup (timed ∷ earlier) = let s = at timed.now (run setup earlier) in happens_each IsTidy setup timed.fresh s timed.event (tidy_changes setup timed.fresh s timed.event) (run_tidy setup earlier)
