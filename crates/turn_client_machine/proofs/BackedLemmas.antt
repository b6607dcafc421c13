-- Each step keeps what is kept backed.
use Rattle.std.proofs.Common.{◌≡◌, ℕ, ◌+◌, inl, inr, ◌⊎◌, Bool, true, false, List, [], ◌∷◌, Option, None, Some, refl, sym, ap, subst, ◌∙◌, arith, eqb-true}
use Rattle.std.specs.List.{AllByRecursion}
use Rattle.std.specs.Option.{option_map_or}
use Rattle.std.specs.Prelude.{◌==◌}
use Rattle.std.proofs.lemmas.Bool.{cond_both, cond-true}
use Rattle.stun_endpoints.proofs.AddressesLemmas.{ip_is_itself}
use Rattle.turn_client_machine.specs.Clients.{Endpoint, seconds, Setup, Kind, Allocate, Refresh, Delete, Permit, Bind, Request, Pending, Phase, Quiet, Asking, Allocated, Closing, Ended, Task, Peer, State}
use Rattle.turn_client_machine.specs.Events.{Answer, Opened, Extended, Done, Event, permits, binds, responds, asks, nothing}
use Rattle.turn_client_machine.specs.Tasks.{may_retry, is_expired, request_now, may_send, turned, turn_output}
use Rattle.turn_client_machine.specs.Responses.{asks_instead, is_allocate, restarted, granted_by, given_up, noted}
use Rattle.turn_client_machine.specs.Steps.{at, wanting, kind_in, kind_of, own_task, turned_of, happens}
use Rattle.turn_client_machine.specs.Runs.{Timed, Happening, run, happening, history, Happened}
use Rattle.turn_client_machine.specs.Warrants.{Asks, AsksFor, Confirmed, lifetime_of, names, NamesPeer}
use Rattle.turn_client_machine.proofs.ListsLemmas.{each_map}
use Rattle.turn_client_machine.proofs.JoiningLemmas.{own_pending}
use Rattle.turn_client_machine.proofs.Keeping.{Genuine, IsAskedFor, PeerChanges, happens_each, MainChanges, Main, happens_main}
use Rattle.turn_client_machine.proofs.Backed.{LastsUntil, PermitsUntil, BindsUntil, PeerSent, IsPending, IsBacked, is_main, WasSent, IsBackedMain, backed_on, main_on}

-- what happens now
pub record IsNow (setup : Setup) (fresh : ℕ) (state : State) (event : Event) (h : Happening) : Type 0 where
  pub moment : h.moment ≡ state.clock
  pub event_is : h.event ≡ event
  pub output : h.output ≡ (happens setup fresh state event).output

-- a request is not sent for a response
not_now : (setup : Setup) (fresh : ℕ) (state : State) (event : Event) (h : Happening) (from : Endpoint) (id : ℕ) (authentic : Bool) (answer : Answer) (r : Request) → IsNow setup fresh state event h → event ≡ responds from id authentic answer
    → Asks r h → ⊥
not_now setup fresh state event h from id authentic answer r now is a =
    let none : h.output ≡ nothing = now.output ∙ ap (λ (e : Event). (happens setup fresh state e).output) is in
    subst (AsksFor r) none a.asked

sent_before : (setup : Setup) (fresh : ℕ) (state : State) (event : Event) (h : Happening) (hs : List Happening) (from : Endpoint) (id : ℕ) (authentic : Bool) (answer : Answer) (r : Request) → IsNow setup fresh state event h → event ≡ responds from id authentic answer
    → Happened (Asks r) (h ∷ hs) → Happened (Asks r) hs
sent_before setup fresh state event h hs from id authentic answer r now is (inl a) = absurd (not_now setup fresh state event h from id authentic answer r now is a)
sent_before setup fresh state event h hs from id authentic answer r now is (inr some) = some

pub confirms : (setup : Setup) (fresh : ℕ) (state : State) (event : Event) (h : Happening) (hs : List Happening) (id : ℕ) (answer : Answer) (r : Request) (P : Request → Answer → Type 0) → IsNow setup fresh state event h → Genuine setup event id answer
    → id ≡ r.id → Happened (Asks r) (h ∷ hs) → P r answer → Confirmed setup.server P (h ∷ hs)
confirms setup fresh state event h hs id answer r P now g same sent holds = inl (record {
  request = r;
  answer = answer;
  from = g.from;
  is_server = g.is_server;
  sent = sent_before setup fresh state event h hs g.from id true answer r now g.event_is sent;
  responded = now.event_is ∙ (g.event_is ∙ ap (λ (i : ℕ). responds g.from i true answer) same);
  holds = holds;
})

-- ---- Peers

pub kind_is : (p : Peer) → (kind_of p ≡ Permit p.address) ⊎ (kind_of p ≡ Bind p.number p.address)
kind_is p = cond_both p.wants (Bind p.number p.address) (Permit p.address) (λ (k : Kind). (k ≡ Permit p.address) ⊎ (k ≡ Bind p.number p.address)) (λ _. inr refl) (λ _. inl refl)

named_by : (address : Endpoint) (number : ℕ) (k : Kind) → (k ≡ Permit address) ⊎ (k ≡ Bind number address) → names address.ip k ≡ true
named_by address number k (inl is) = subst (λ (k : Kind). names address.ip k ≡ true) (sym is) (ip_is_itself address.ip)
named_by address number k (inr is) = subst (λ (k : Kind). names address.ip k ≡ true) (sym is) (ip_is_itself address.ip)

bound_by : (address peer : Endpoint) (number n : ℕ) (k : Kind) → (k ≡ Permit address) ⊎ (k ≡ Bind number address) → k ≡ Bind n peer → k ≡ Bind number address
bound_by address peer number n k (inl is) bound = absurd cc
bound_by address peer number n k (inr is) bound = is

restarted_backed : (server : Endpoint) (hs : List Happening) (clock : ℕ) (p : Peer) → IsBacked server hs p → IsBacked server hs (restarted clock p)
restarted_backed server hs clock p is = record { named = is.named; permitted = λ some. absurd (omega (arith, some)); bound = λ some. absurd (omega (arith, some)); pending = tt }

given_up_backed : (server : Endpoint) (hs : List Happening) (code : ℕ) (p : Peer) → IsBacked server hs p → IsBacked server hs (given_up code p)
given_up_backed server hs code p is = record { named = is.named; permitted = is.permitted; bound = is.bound; pending = tt }

wanting_backed : (server : Endpoint) (hs : List Happening) (clock : ℕ) (p : Peer) → IsBacked server hs p → IsBacked server hs (wanting clock p)
wanting_backed server hs clock p is = cond_both p.over _ _ (IsBacked server hs)
    (λ _. record { named = is.named; permitted = λ some. absurd (omega (arith, some)); bound = λ some. absurd (omega (arith, some)); pending = tt })
    (λ _. cond_both p.wants _ _ (IsBacked server hs) (λ _. is) (λ _. record { named = is.named; permitted = is.permitted; bound = is.bound; pending = tt }))

granted_backed : (setup : Setup) (fresh : ℕ) (state : State) (event : Event) (h : Happening) (hs : List Happening) (id : ℕ) (p : Peer) (r : Request) (kind : Kind) → IsNow setup fresh state event h → Genuine setup event id Done → id ≡ r.id
    → r.kind ≡ kind → PeerSent (h ∷ hs) p.address p.number r → IsBacked setup.server (h ∷ hs) p → IsBacked setup.server (h ∷ hs) (granted_by r kind p)
granted_backed setup fresh state event h hs id p r Allocate now g same is sent b = b
granted_backed setup fresh state event h hs id p r Refresh now g same is sent b = b
granted_backed setup fresh state event h hs id p r Delete now g same is sent b = b
granted_backed setup fresh state event h hs id p r (Permit peer) now g same is sent b = record {
  named = b.named;
  permitted = λ _. confirms setup fresh state event h hs id Done r (PermitsUntil p.address.ip (r.since + seconds 300)) now g same sent.sent
      (record { named = named_by p.address p.number r.kind sent.kind; success = refl; ends = refl });
  bound = b.bound;
  pending = tt;
}
granted_backed setup fresh state event h hs id p r (Bind number peer) now g same is sent b = record {
  named = b.named;
  permitted = λ _. confirms setup fresh state event h hs id Done r (PermitsUntil p.address.ip (r.since + seconds 300)) now g same sent.sent
      (record { named = named_by p.address p.number r.kind sent.kind; success = refl; ends = refl });
  bound = λ _. confirms setup fresh state event h hs id Done r (BindsUntil p.number p.address (r.since + seconds 600)) now g same sent.sent
      (record { kind = bound_by p.address peer p.number number r.kind sent.kind is; success = refl; ends = refl });
  pending = tt;
}

granted_backed_of : (setup : Setup) (fresh : ℕ) (state : State) (event : Event) (h : Happening) (hs : List Happening) (id : ℕ) (p : Peer) (o : Option Pending) → IsNow setup fresh state event h → Genuine setup event id Done
    → option_map_or (λ (q : Pending). q.request.id == id) o false ≡ true → IsPending (h ∷ hs) p.address p.number o → IsBacked setup.server (h ∷ hs) p
    → IsBacked setup.server (h ∷ hs) (option_map_or (λ (q : Pending). granted_by q.request q.request.kind p) o p)
granted_backed_of setup fresh state event h hs id p None now g is pending b = b
granted_backed_of setup fresh state event h hs id p (Some q) now g is pending b = granted_backed setup fresh state event h hs id p q.request q.request.kind now g (sym (eqb-true q.request.id id is)) refl pending b

-- the request that is sent now was sent
sent_now : (setup : Setup) (clock fresh : ℕ) (h : Happening) (hs : List Happening) (address : Endpoint) (number : ℕ) (kind : Kind) (challenge : Option ℕ) (o : Option Pending) → h.moment ≡ clock → (kind ≡ Permit address) ⊎ (kind ≡ Bind number address)
    → AsksFor (option_map_or (λ (q : Pending). q.request) o (record { id = fresh; kind = kind; challenge = challenge; since = clock })) h.output
    → IsPending (h ∷ hs) address number o → PeerSent (h ∷ hs) address number (option_map_or (λ (q : Pending). q.request) o (record { id = fresh; kind = kind; challenge = challenge; since = clock }))
sent_now setup clock fresh h hs address number kind challenge None moment is out pending = record { sent = inl (record { asked = out; then = sym moment }); kind = is }
sent_now setup clock fresh h hs address number kind challenge (Some q) moment is out pending = pending

turned_backed : (along : Bool) (setup : Setup) (fresh : ℕ) (state : State) (h : Happening) (hs : List Happening) (p : Peer) → h.moment ≡ state.clock → IsAskedFor setup state.clock fresh state.challenge p h.output → IsBacked setup.server (h ∷ hs) p
    → IsBacked setup.server (h ∷ hs) (turned_of along setup state.clock fresh state.challenge p)
turned_backed along setup fresh state h hs p moment out b =
    cond_both (is_expired state.clock p.task) _ _ (IsBacked setup.server (h ∷ hs)) (λ _. given_up_backed setup.server (h ∷ hs) 0 p b)
    (λ fit. let pending = own_pending (IsPending (h ∷ hs) p.address p.number) p tt b.pending in cond_both (may_send setup (own_task p)) _ _ (λ (t : Task). IsBacked setup.server (h ∷ hs) (record p { task = t; shared = along }))
    (λ may. record {
      named = b.named;
      permitted = b.permitted;
      bound = b.bound;
      pending = sent_now setup state.clock fresh h hs p.address p.number (kind_of p) state.challenge (own_task p).pending moment (kind_is p) (out fit may) pending;
    })
    (λ _. record { named = b.named; permitted = b.permitted; bound = b.bound; pending = pending }))

new_named : (address : Endpoint) (event : Event) (h : Happening) → h.event ≡ event → (event ≡ permits address) ⊎ (event ≡ binds address) → NamesPeer address h
new_named address event h is (inl named) = inl (is ∙ named)
new_named address event h is (inr named) = inr (is ∙ named)

backed_changes : (setup : Setup) (fresh : ℕ) (state : State) (event : Event) (h : Happening) (hs : List Happening) → IsNow setup fresh state event h → PeerChanges (IsBacked setup.server (h ∷ hs)) setup fresh state event
backed_changes setup fresh state event h hs now = record {
  new = λ wants address peers is _. record { named = inl (new_named address event h now.event_is is); permitted = λ some. absurd (omega (arith, some)); bound = λ some. absurd (omega (arith, some)); pending = tt };
  replaces = λ wants address p is _ _ _. record { named = inl (new_named address event h now.event_is is); permitted = λ some. absurd (omega (arith, some)); bound = λ some. absurd (omega (arith, some)); pending = tt };
  drops_it = λ p address _ _ b. record { named = b.named; permitted = λ some. absurd (omega (arith, some)); bound = λ some. absurd (omega (arith, some)); pending = tt };
  reopens = λ p q _ _ b. record { named = b.named; permitted = λ some. absurd (omega (arith, some)); bound = λ some. absurd (omega (arith, some)); pending = tt };
  restarts = λ p _ b. restarted_backed setup.server (h ∷ hs) state.clock p b;
  wants = λ p address _ _. wanting_backed setup.server (h ∷ hs) state.clock p;
  grants = λ p id genuine is b. granted_backed_of setup fresh state event h hs id p p.task.pending now genuine is b.pending b;
  turns_down = λ p id code genuine _ _ b. cond_both (asks_instead code p) _ _ (IsBacked setup.server (h ∷ hs))
      (λ _. record { named = b.named; permitted = b.permitted; bound = b.bound; pending = tt }) (λ _. given_up_backed setup.server (h ∷ hs) code p b);
  challenges_it = λ p is _ _ b. cond_both (may_retry setup state.challenge is.code p.task) _ _ (IsBacked setup.server (h ∷ hs))
      (λ _. record { named = b.named; permitted = b.permitted; bound = b.bound; pending = tt }) (λ _. given_up_backed setup.server (h ∷ hs) is.code p b);
  violates_it = λ p is _ _ b. let same : IsBacked setup.server (h ∷ hs) (noted p) = record { named = b.named; permitted = b.permitted; bound = b.bound; pending = b.pending } in cond_both setup.is_reliable _ _ (IsBacked setup.server (h ∷ hs)) (λ _. given_up_backed setup.server (h ∷ hs) 0 (noted p) same) (λ _. same);
  turns_it = λ p along is _ out b. turned_backed along setup fresh state h hs p now.moment (subst (IsAskedFor setup state.clock fresh state.challenge p) (sym (now.output ∙ ap (λ (e : Event). (happens setup fresh state e).output) is)) out) b;
}

-- ---- The allocation

pub allocate_is : (k : Kind) → is_allocate k ≡ true → k ≡ Allocate
allocate_is Allocate is = refl
allocate_is Refresh is = absurd cc
allocate_is Delete is = absurd cc
allocate_is (Permit peer) is = absurd cc
allocate_is (Bind number peer) is = absurd cc

pub awaited_id : (id : ℕ) (q : Pending) (o : Option Pending) → o ≡ Some q → option_map_or (λ (q : Pending). q.request.id == id) o false ≡ true → id ≡ q.request.id
awaited_id id q o is awaited = sym (eqb-true q.request.id id (subst (λ (o : Option Pending). option_map_or (λ (q : Pending). q.request.id == id) o false ≡ true) is awaited))

pub main_kind : (phase : Phase) → is_main (kind_in phase) ≡ true
main_kind Quiet = refl
main_kind Asking = refl
main_kind Allocated = refl
main_kind (Closing why) = refl
main_kind (Ended why) = refl

main_sent : (clock fresh : ℕ) (h : Happening) (hs : List Happening) (kind : Kind) (challenge : Option ℕ) (o : Option Pending) → h.moment ≡ clock → is_main kind ≡ true
    → AsksFor (option_map_or (λ (q : Pending). q.request) o (record { id = fresh; kind = kind; challenge = challenge; since = clock })) h.output
    → WasSent (h ∷ hs) o → WasSent (h ∷ hs) (Some (record { request = option_map_or (λ (q : Pending). q.request) o (record { id = fresh; kind = kind; challenge = challenge; since = clock }); sends = 0 }))
main_sent clock fresh h hs kind challenge None moment main out sent = (inl (record { asked = out; then = sym moment }), main)
main_sent clock fresh h hs kind challenge (Some q) moment main out sent = sent

main_turned : (setup : Setup) (clock fresh : ℕ) (h : Happening) (hs : List Happening) (kind : Kind) (challenge : Option ℕ) (phase : Phase) (t : Task) (expires_at : ℕ) → h.moment ≡ clock → is_main kind ≡ true → h.output ≡ turn_output setup clock fresh kind challenge [] t
    → IsBackedMain setup.server (h ∷ hs) phase t expires_at → IsBackedMain setup.server (h ∷ hs) phase (turned setup clock fresh kind challenge t) expires_at
main_turned setup clock fresh h hs kind challenge phase t expires_at moment main out b =
    cond_both (may_send setup t) _ _ (λ (s : Task). IsBackedMain setup.server (h ∷ hs) phase s expires_at)
    (λ may. record { lasts = b.lasts; pending = main_sent clock fresh h hs kind challenge t.pending moment main (subst (AsksFor (request_now clock fresh kind challenge t)) (sym (out ∙ cond-true (may_send setup t) (asks (request_now clock fresh kind challenge t) []) nothing may)) (inl refl)) b.pending })
    (λ _. record { lasts = b.lasts; pending = b.pending })

backed_main : (setup : Setup) (fresh : ℕ) (state : State) (event : Event) (h : Happening) (hs : List Happening) → IsNow setup fresh state event h → MainChanges (IsBackedMain setup.server (h ∷ hs)) setup fresh state event
backed_main setup fresh state event h hs now = record {
  begins_it = λ b. record { lasts = b.lasts; pending = tt };
  closes_it = λ phase why b. record { lasts = b.lasts; pending = tt };
  ends_it = λ phase why b. record { lasts = b.lasts; pending = b.pending };
  opens_it = λ q id relayed mapped lifetime active genuine is awaited kind le b. record {
    lasts = λ _. confirms setup fresh state event h hs id (Opened relayed mapped lifetime) q.request (LastsUntil (q.request.since + seconds lifetime)) now genuine (awaited_id id q state.task.pending is awaited)
        (subst (WasSent (h ∷ hs)) is b.pending).0
        (record { lifetime = lifetime; granted = subst (λ (k : Kind). lifetime_of k (Opened relayed mapped lifetime) ≡ Some lifetime) (sym (allocate_is q.request.kind kind)) refl; ends = refl });
    pending = tt;
  };
  extends_it = λ q id lifetime genuine is awaited kind le b. record {
    lasts = λ _. confirms setup fresh state event h hs id (Extended lifetime) q.request (LastsUntil (q.request.since + seconds lifetime)) now genuine (awaited_id id q state.task.pending is awaited)
        (subst (WasSent (h ∷ hs)) is b.pending).0
        (record { lifetime = lifetime; granted = subst (λ (k : Kind). lifetime_of k (Extended lifetime) ≡ Some lifetime) (sym kind) refl; ends = refl });
    pending = tt;
  };
  again_it = λ code challenge may b. record { lasts = b.lasts; pending = tt };
  turns_it = λ is fit out b. main_turned setup state.clock fresh h hs (kind_in state.phase) state.challenge state.phase state.task state.expires_at now.moment (main_kind state.phase)
      (now.output ∙ (ap (λ (e : Event). (happens setup fresh state e).output) is ∙ out)) b;
}

pub record IsKept (setup : Setup) (hs : List Happening) (state : State) : Type 0 where
  pub main : Main (IsBackedMain setup.server hs) state
  pub each : AllByRecursion (IsBacked setup.server hs) state.peers

pub run_kept : (setup : Setup) (events : List Timed) → IsKept setup (history setup events) (run setup events)
run_kept setup [] = record { main = record { lasts = λ some. absurd (omega (arith, some)); pending = tt }; each = tt }
run_kept setup (timed ∷ earlier) =
    let k = run_kept setup earlier in
    let s = at timed.now (run setup earlier) in
    let hs = history setup earlier in
    let h = happening setup (run setup earlier) timed in
    let now : IsNow setup timed.fresh s timed.event h = record { moment = refl; event_is = refl; output = refl } in
    record {
      main = happens_main (IsBackedMain setup.server (h ∷ hs)) setup timed.fresh s timed.event (backed_main setup timed.fresh s timed.event h hs now) (main_on setup.server h hs s.phase s.task s.expires_at k.main);
      each = happens_each (IsBacked setup.server (h ∷ hs)) setup timed.fresh s timed.event (backed_changes setup timed.fresh s timed.event h hs now)
          (each_map (IsBacked setup.server hs) (IsBacked setup.server (h ∷ hs)) (backed_on setup.server h hs) s.peers k.each);
    }
