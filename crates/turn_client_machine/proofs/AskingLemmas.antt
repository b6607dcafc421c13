-- What a client asks for its allocation: it sends Allocate requests within 40 seconds only, and nothing that
-- ends the allocation before it closes.
use Rattle.std.proofs.Common.{◌≡◌, ℕ, ◌+◌, ◌<◌, ◌≤◌, inl, inr, ◌⊎◌, Bool, true, false, ◌&&◌, List, [], ◌∷◌, Option, None, Some, refl, sym, ap, subst, ◌∙◌, arith}
use Rattle.std.specs.Option.{option_map_or}
use Rattle.std.proofs.lemmas.Bool.{cond_both, and_parts, leb-false, true≢false}
use Rattle.turn_client_machine.specs.Clients.{seconds, Setup, Kind, Allocate, Refresh, Delete, Permit, Bind, Request, Pending, Phase, Quiet, Asking, Allocated, Closing, Ended, Task, Peer, State, is_allocated, is_active, Endpoint}
use Rattle.turn_client_machine.specs.Events.{Event, Output}
use Rattle.turn_client_machine.specs.Tasks.{kept_task, again_task, request_now, may_send, is_due, is_expired, turned, turn_output}
use Rattle.turn_client_machine.specs.Responses.{is_allocate, is_delete}
use Rattle.turn_client_machine.specs.Steps.{Step, keeps, at, kind_in, kind_of, turns_peer, polled, happens, is_next, is_free, own_task, others_at, most_others, takes_along, turned_first}
use Rattle.turn_client_machine.specs.Runs.{Timed, Happening, run, happening, history, Happened}
use Rattle.turn_client_machine.specs.Warrants.{Asks, AsksFor}
use Rattle.turn_client_machine.proofs.ListsLemmas.{found, each_pair, AnyOf, any_out, among, each_map, some_each_out}
use Rattle.turn_client_machine.proofs.Keeping.{MainChanges, Main, happens_main}
use Rattle.turn_client_machine.proofs.Backed.{IsPending, IsBacked, is_main, WasSent}
use Rattle.turn_client_machine.proofs.BackedLemmas.{IsKept, kind_is, run_kept}
use Rattle.turn_client_machine.proofs.RightLemmas.{run_right, asked_polls}
use Rattle.turn_client_machine.proofs.ClockLemmas.{happens_clock}
use Rattle.std.specs.List.{AllByRecursion}
use Rattle.turn_machine.specs.Lists.{SomeOf}
use Rattle.turn_client_machine.proofs.JoiningLemmas.{turn_parts, Wanted, own_pending, IfOn, others_each, turned_each}

-- ---- The origin of a request

abbrev pub IsForPeer : Kind → Peer → Type 0
IsForPeer kind p = (kind ≡ Permit p.address) ⊎ (kind ≡ Bind p.number p.address)

-- sent before; new, and for the allocation; or for a peer
abbrev pub Origin : List Happening → State → Request → Type 0
Origin hs s r = Happened (Asks r) hs
    ⊎ (((r.kind ≡ kind_in s.phase) × (is_active s.phase ≡ true) × (r.since ≡ s.clock) × (is_expired s.clock s.task ≡ false)) ⊎ AnyOf (IsForPeer r.kind) s.peers)

main_origin : (hs : List Happening) (s : State) (fresh : ℕ) (challenge : Option ℕ) (r : Request) (o : Option Pending) → is_active s.phase ≡ true → is_expired s.clock s.task ≡ false → WasSent hs o
    → option_map_or (λ (q : Pending). q.request) o (record { id = fresh; kind = kind_in s.phase; challenge = challenge; since = s.clock }) ≡ r → Origin hs s r
main_origin hs s fresh challenge r None active fit sent is = inr (inl (ap (λ (x : Request). x.kind) (sym is), active, ap (λ (x : Request). x.since) (sym is), fit))
main_origin hs s fresh challenge r (Some q) active fit sent is = inl (subst (λ (x : Request). Happened (Asks x) hs) is sent.0)

peer_origin : (hs : List Happening) (clock fresh : ℕ) (p : Peer) (challenge : Option ℕ) (r : Request) (o : Option Pending) → IsPending hs p.address p.number o
    → option_map_or (λ (q : Pending). q.request) o (record { id = fresh; kind = kind_of p; challenge = challenge; since = clock }) ≡ r → IsForPeer r.kind p
peer_origin hs clock fresh p challenge r None pending is = subst (λ (x : Request). IsForPeer x.kind p) is (kind_is p)
peer_origin hs clock fresh p challenge r (Some q) pending is = subst (λ (x : Request). IsForPeer x.kind p) is pending.kind

not_main : (kind : Kind) (p : Peer) → IsForPeer kind p → is_main kind ≡ false
not_main kind p (inl is) = ap is_main is
not_main kind p (inr is) = ap is_main is

pub turn_asks : (setup : Setup) (clock fresh : ℕ) (kind : Kind) (challenge : Option ℕ) (t : Task) (r : Request) (R : Type 0) → (request_now clock fresh kind challenge t ≡ r → R) → AsksFor r (turn_output setup clock fresh kind challenge [] t) → R
turn_asks setup clock fresh kind challenge t r R f = cond_both (may_send setup t) _ _ (λ (o : Output). AsksFor r o → R)
    (λ _ part. elim part [
      | inl same ↦ f (sym same)
      | inr along ↦ absurd along.named
    ]) (λ _ none. absurd none)

each_for : (ps : List Peer) → AllByRecursion (λ p. AnyOf (IsForPeer (Permit p.address)) ps) ps
each_for [] = tt
each_for (p ∷ ps) = (inl (inl refl), each_map (λ q. AnyOf (IsForPeer (Permit q.address)) ps) (λ q. AnyOf (IsForPeer (Permit q.address)) (p ∷ ps)) (λ q some. inr some) ps (each_for ps))

-- one that is taken along is a peer too
along_for : (setup : Setup) (fresh : ℕ) (free along : Bool) (s : State) (r : Request) → SomeOf (λ e. r ≡ Wanted s.clock fresh s.challenge e) (others_at setup fresh free along s) → AnyOf (IsForPeer r.kind) s.peers
along_for setup fresh free along s r some =
    let For = λ (e : Endpoint). AnyOf (IsForPeer (Permit e)) s.peers in
    some_each_out For (λ e. r ≡ Wanted s.clock fresh s.challenge e) (AnyOf (IsForPeer r.kind) s.peers) (λ e for is. subst (λ (x : Request). AnyOf (IsForPeer x.kind) s.peers) (sym is) for) (others_at setup fresh free along s)
    (others_each For setup s.clock fresh s.challenge (most_others setup along) (turned_first setup fresh free along s)
    (turned_each For along setup s.clock fresh s.challenge (is_next free s.clock) s.peers (each_map (λ p. AnyOf (IsForPeer (Permit p.address)) s.peers) (IfOn For) (λ p for _. for) s.peers (each_for s.peers)))) some

polled_origin : (setup : Setup) (fresh : ℕ) (hs : List Happening) (s : State) (r : Request) → IsKept setup hs s → AsksFor r (polled setup fresh s).output → Origin hs s r
polled_origin setup fresh hs s r k =
    cond_both (is_active s.phase && is_due s.clock s.task) _ _ (λ (x : Step). AsksFor r x.output → Origin hs s r)
    (λ due. cond_both (is_expired s.clock s.task) _ _ (λ (x : Step). AsksFor r x.output → Origin hs s r) (λ _ e. absurd e)
    (λ fit. turn_asks setup s.clock fresh (kind_in s.phase) s.challenge s.task r (Origin hs s r)
    (main_origin hs s fresh s.challenge r s.task.pending (and_parts (is_active s.phase) (is_due s.clock s.task) due).0 fit k.main.pending)))
    (λ _. cond_both (is_allocated s.phase) _ _ (λ (x : Step). AsksFor r x.output → Origin hs s r)
    (λ _. found (λ p. IsBacked setup.server hs p × (IsForPeer r.kind p → AnyOf (IsForPeer r.kind) s.peers)) (is_next (is_free s.peers) s.clock) (λ o. AsksFor r (option_map_or (turns_peer setup fresh (is_free s.peers) s) o (keeps s)).output → Origin hs s r) (λ e. absurd e) s.peers
    (λ p is b asked. elim (turn_parts setup fresh (is_free s.peers) s p r asked) [
      | inl e ↦ inr (inr (b.1 (peer_origin hs s.clock fresh p s.challenge r (own_task p).pending (own_pending (IsPending hs p.address p.number) p tt b.0.pending) e)))
      | inr some ↦ inr (inr (along_for setup fresh (is_free s.peers) (takes_along setup s.clock s.peers p) s r some))
    ])
    (each_pair (IsBacked setup.server hs) (λ p. IsForPeer r.kind p → AnyOf (IsForPeer r.kind) s.peers) s.peers k.each (among (IsForPeer r.kind) s.peers)))
    (λ _ e. absurd e))

-- ---- Which requests were sent

-- of an Allocate request: within 40 seconds from the beginning; and none to end the allocation
pub record IsFit (begin : ℕ) (r : Request) : Type 0 where
  pub after : is_allocate r.kind ≡ true → begin ≤ r.since
  pub soon : is_allocate r.kind ≡ true → r.since < begin + seconds 40
  pub lasts : is_delete r.kind ≡ false

abbrev pub EachAsked : (Request → Type 0) → List Happening → Type 0
EachAsked P hs = (r : Request) → Happened (Asks r) hs → P r

abbrev IsOfKind : (Kind → Bool) → Option Pending → Type 0
IsOfKind test None = Unit {0}
IsOfKind test (Some q) = test q.request.kind ≡ true

abbrev IsAsking : List Happening → (clock : ℕ) → Phase → Task → (expires_at : ℕ) → Type 0
IsAsking hs clock Quiet t expires_at = EachAsked (λ r. is_main r.kind ≡ false) hs
IsAsking hs clock Asking t expires_at = (begin : ℕ) × (begin ≤ clock) × (t.deadline ≡ begin + seconds 40) × IsOfKind is_allocate t.pending × EachAsked (IsFit begin) hs
IsAsking hs clock Allocated t expires_at = (begin : ℕ) × EachAsked (IsFit begin) hs
IsAsking hs clock (Closing why) t expires_at = IsOfKind is_delete t.pending
IsAsking hs clock (Ended why) t expires_at = Unit {0}

peer_fit : (begin : ℕ) (r : Request) (kind : Kind) → r.kind ≡ kind → is_main kind ≡ false → IsFit begin r
peer_fit begin r Allocate is isnt = absurd cc
peer_fit begin r Refresh is isnt = absurd cc
peer_fit begin r Delete is isnt = absurd cc
peer_fit begin r (Permit peer) is isnt = record { after = λ e. absurd (true≢false (sym e ∙ ap is_allocate is)); soon = λ e. absurd (true≢false (sym e ∙ ap is_allocate is)); lasts = ap is_delete is }
peer_fit begin r (Bind number peer) is isnt = record { after = λ e. absurd (true≢false (sym e ∙ ap is_allocate is)); soon = λ e. absurd (true≢false (sym e ∙ ap is_allocate is)); lasts = ap is_delete is }

allocate_fit : (begin clock : ℕ) (t : Task) (r : Request) → begin ≤ clock → t.deadline ≡ begin + seconds 40 → r.kind ≡ Allocate → r.since ≡ clock → is_expired clock t ≡ false → IsFit begin r
allocate_fit begin clock t r le deadline is since fit = let late = leb-false t.deadline clock fit in
    record { after = λ _. omega (arith, le, since); soon = λ _. omega (arith, since, late, deadline); lasts = ap is_delete is }

refresh_fit : (begin : ℕ) (r : Request) → r.kind ≡ Refresh → IsFit begin r
refresh_fit begin r is = record { after = λ e. absurd (true≢false (sym e ∙ ap is_allocate is)); soon = λ e. absurd (true≢false (sym e ∙ ap is_allocate is)); lasts = ap is_delete is }

-- what is sent now is fit too
each_on : (P : Request → Type 0) (h : Happening) (hs : List Happening) → ((r : Request) → AsksFor r h.output → P r) → EachAsked P hs → EachAsked P (h ∷ hs)
each_on P h hs f each r (inl a) = f r a.asked
each_on P h hs f each r (inr some) = each r some

asking_on : (h : Happening) (hs : List Happening) (s : State) (clock : ℕ) (phase : Phase) → s.phase ≡ phase → clock ≤ s.clock → ((r : Request) → AsksFor r h.output → Origin hs s r) → IsAsking hs clock phase s.task s.expires_at → IsAsking (h ∷ hs) s.clock phase s.task s.expires_at
asking_on h hs s clock Quiet is le from a = each_on (λ (r : Request). is_main r.kind ≡ false) h hs
    (λ r e. elim (from r e) [
      | inl sent ↦ a r sent
      | inr now ↦ elim now [
        | inl new ↦ absurd (true≢false (sym new.1 ∙ ap is_active is))
        | inr peer ↦ any_out (IsForPeer r.kind) (is_main r.kind ≡ false) (λ p. not_main r.kind p) s.peers peer
      ]
    ]) a
asking_on h hs s clock Asking is le from a =
    let begun : a.0 ≤ s.clock = let before = a.1 in omega (arith, before, le) in (
      a.0,
      begun,
      a.2,
      a.3,
      each_on (IsFit a.0) h hs
          (λ r e. elim (from r e) [
            | inl sent ↦ a.4 r sent
            | inr now ↦ elim now [
              | inl new ↦ allocate_fit a.0 s.clock s.task r begun a.2 (new.0 ∙ ap kind_in is) new.2 new.3
              | inr peer ↦ peer_fit a.0 r r.kind refl (any_out (IsForPeer r.kind) (is_main r.kind ≡ false) (λ p. not_main r.kind p) s.peers peer)
            ]
          ]) a.4,
    )
asking_on h hs s clock Allocated is le from a = (
  a.0,
  each_on (IsFit a.0) h hs
      (λ r e. elim (from r e) [
        | inl sent ↦ a.1 r sent
        | inr now ↦ elim now [
          | inl new ↦ refresh_fit a.0 r (new.0 ∙ ap kind_in is)
          | inr peer ↦ peer_fit a.0 r r.kind refl (any_out (IsForPeer r.kind) (is_main r.kind ≡ false) (λ p. not_main r.kind p) s.peers peer)
        ]
      ]) a.1,
)
asking_on h hs s clock (Closing why) is le from a = a
asking_on h hs s clock (Ended why) is le from a = a

-- ---- What a step does to the phase

turned_kind : (test : Kind → Bool) (setup : Setup) (clock fresh : ℕ) (kind : Kind) (challenge : Option ℕ) (o : Option Pending) → test kind ≡ true → IsOfKind test o
    → test (option_map_or (λ (q : Pending). q.request) o (record { id = fresh; kind = kind; challenge = challenge; since = clock })).kind ≡ true
turned_kind test setup clock fresh kind challenge None is pending = is
turned_kind test setup clock fresh kind challenge (Some q) is pending = pending

turned_on : (setup : Setup) (hs : List Happening) (clock fresh : ℕ) (challenge : Option ℕ) (phase : Phase) (t : Task) (expires_at : ℕ) → IsAsking hs clock phase t expires_at → IsAsking hs clock phase (turned setup clock fresh (kind_in phase) challenge t) expires_at
turned_on setup hs clock fresh challenge Quiet t expires_at a = a
turned_on setup hs clock fresh challenge Asking t expires_at a = cond_both (may_send setup t) _ _ (λ (x : Task). IsAsking hs clock Asking x expires_at)
    (λ _. (a.0, a.1, a.2, turned_kind is_allocate setup clock fresh Allocate challenge t.pending refl a.3, a.4)) (λ _. (a.0, a.1, a.2, a.3, a.4))
turned_on setup hs clock fresh challenge Allocated t expires_at a = a
turned_on setup hs clock fresh challenge (Closing why) t expires_at a = cond_both (may_send setup t) _ _ (λ (x : Task). IsAsking hs clock (Closing why) x expires_at)
    (λ _. turned_kind is_delete setup clock fresh Delete challenge t.pending refl a) (λ _. a)
turned_on setup hs clock fresh challenge (Ended why) t expires_at a = tt

again_on : (hs : List Happening) (clock : ℕ) (phase : Phase) (t : Task) (expires_at : ℕ) → IsAsking hs clock phase t expires_at → IsAsking hs clock phase (again_task clock t) expires_at
again_on hs clock Quiet t expires_at a = a
again_on hs clock Asking t expires_at a = (a.0, a.1, a.2, tt, a.4)
again_on hs clock Allocated t expires_at a = a
again_on hs clock (Closing why) t expires_at a = tt
again_on hs clock (Ended why) t expires_at a = tt

both_kinds : {P : Type 0} (k : Kind) → is_allocate k ≡ true → is_delete k ≡ true → P
both_kinds Allocate one other = absurd cc
both_kinds Refresh one other = absurd cc
both_kinds Delete one other = absurd cc
both_kinds (Permit peer) one other = absurd cc
both_kinds (Bind number peer) one other = absurd cc

opened_on : (hs : List Happening) (clock : ℕ) (phase : Phase) (t after : Task) (expires_at later : ℕ) (q : Pending) → is_active phase ≡ true → t.pending ≡ Some q → is_allocate q.request.kind ≡ true → IsAsking hs clock phase t expires_at → IsAsking hs clock Allocated after later
opened_on hs clock Quiet t after expires_at later q active is kind a = absurd cc
opened_on hs clock Asking t after expires_at later q active is kind a = (a.0, a.4)
opened_on hs clock Allocated t after expires_at later q active is kind a = a
opened_on hs clock (Closing why) t after expires_at later q active is kind a = both_kinds q.request.kind kind (subst (IsOfKind is_delete) is a)
opened_on hs clock (Ended why) t after expires_at later q active is kind a = absurd cc

extended_on : (hs : List Happening) (clock : ℕ) (phase : Phase) (t after : Task) (expires_at later : ℕ) (q : Pending) → after.pending ≡ None → t.pending ≡ Some q → q.request.kind ≡ Refresh → IsAsking hs clock phase t expires_at → IsAsking hs clock phase after later
extended_on hs clock Quiet t after expires_at later q none is kind a = a
extended_on hs clock Asking t after expires_at later q none is kind a = absurd (true≢false (sym (subst (IsOfKind is_allocate) is a.3) ∙ ap is_allocate kind))
extended_on hs clock Allocated t after expires_at later q none is kind a = a
extended_on hs clock (Closing why) t after expires_at later q none is kind a = subst (IsOfKind is_delete) (sym none) tt
extended_on hs clock (Ended why) t after expires_at later q none is kind a = tt

asking_main : (setup : Setup) (fresh : ℕ) (hs : List Happening) (s : State) (event : Event) → MainChanges (IsAsking hs s.clock) setup fresh s event
asking_main setup fresh hs s event = record {
  begins_it = λ a. (s.clock, omega arith, refl, tt, λ r sent. peer_fit s.clock r r.kind refl (a r sent));
  closes_it = λ phase why a. tt;
  ends_it = λ phase why a. tt;
  opens_it = λ q id relayed mapped lifetime active genuine is awaited kind le a. opened_on hs s.clock s.phase s.task (kept_task q.request.since lifetime) s.expires_at (q.request.since + seconds lifetime) q active is kind a;
  extends_it = λ q id lifetime genuine is awaited kind le a. extended_on hs s.clock s.phase s.task (kept_task q.request.since lifetime) s.expires_at (q.request.since + seconds lifetime) q refl is kind a;
  again_it = λ code challenge may a. again_on hs s.clock s.phase s.task s.expires_at a;
  turns_it = λ is fit out a. turned_on setup hs s.clock fresh s.challenge s.phase s.task s.expires_at a;
}

-- each request that is sent has one of these origins
pub run_origin : (setup : Setup) (earlier : List Timed) (timed : Timed) (r : Request) → AsksFor r (happening setup (run setup earlier) timed).output → Origin (history setup earlier) (at timed.now (run setup earlier)) r
run_origin setup earlier timed r e =
    let k = run_kept setup earlier in
    let s = at timed.now (run setup earlier) in
    let h = happening setup (run setup earlier) timed in
    let poll = asked_polls setup (history setup earlier) h.moment h.event h.output r (run_right setup earlier timed) e in
    polled_origin setup timed.fresh (history setup earlier) s r (record { main = k.main; each = k.each }) (subst (λ (v : Event). AsksFor r (happens setup timed.fresh s v).output) poll e)

run_asking : (setup : Setup) (events : List Timed) → Main (IsAsking (history setup events) (run setup events).clock) (run setup events)
run_asking setup [] = λ r some. absurd some
run_asking setup (timed ∷ earlier) =
    let a = run_asking setup earlier in
    let s = at timed.now (run setup earlier) in
    let hs = history setup earlier in
    let h = happening setup (run setup earlier) timed in
    let le : (run setup earlier).clock ≤ s.clock = omega arith in
    subst (λ (c : ℕ). Main (IsAsking (h ∷ hs) c) (happens setup timed.fresh s timed.event).state) (sym (happens_clock setup timed.fresh s timed.event))
    (happens_main (IsAsking (h ∷ hs) s.clock) setup timed.fresh s timed.event (asking_main setup timed.fresh (h ∷ hs) s timed.event) (asking_on h hs s (run setup earlier).clock s.phase refl le (run_origin setup earlier timed) a))

pub record AskedFit (hs : List Happening) : Type 0 where
  pub begin : ℕ
  pub each : EachAsked (IsFit begin) hs

fit_in : (hs : List Happening) (clock : ℕ) (phase : Phase) (t : Task) (expires_at : ℕ) → is_allocated phase ≡ true → IsAsking hs clock phase t expires_at → AskedFit hs
fit_in hs clock Quiet t expires_at there a = absurd cc
fit_in hs clock Asking t expires_at there a = absurd cc
fit_in hs clock Allocated t expires_at there a = record { begin = a.0; each = a.1 }
fit_in hs clock (Closing why) t expires_at there a = absurd cc
fit_in hs clock (Ended why) t expires_at there a = absurd cc

-- while a client has an allocation, it has asked for nothing that would end it
pub run_fit : (setup : Setup) (events : List Timed) → is_allocated (run setup events).phase ≡ true → AskedFit (history setup events)
run_fit setup events there = fit_in (history setup events) (run setup events).clock (run setup events).phase (run setup events).task (run setup events).expires_at there (run_asking setup events)

-- ---- When a request was sent

since_on : (h : Happening) (hs : List Happening) (clock after : ℕ) → h.moment ≡ after → clock ≤ after → EachAsked (λ r. r.since ≤ clock) hs → EachAsked (λ r. r.since ≤ after) (h ∷ hs)
since_on h hs clock after is le each r (inl a) = let at_it = a.then in omega (arith, at_it, is)
since_on h hs clock after is le each r (inr some) = let before = each r some in omega (arith, before, le)

pub run_since : (setup : Setup) (events : List Timed) → EachAsked (λ r. r.since ≤ (run setup events).clock) (history setup events)
run_since setup [] = λ r some. absurd some
run_since setup (timed ∷ earlier) =
    let s = at timed.now (run setup earlier) in
    since_on (happening setup (run setup earlier) timed) (history setup earlier) (run setup earlier).clock (happens setup timed.fresh s timed.event).state.clock (sym (happens_clock setup timed.fresh s timed.event))
    (let same = happens_clock setup timed.fresh s timed.event in omega (arith, same)) (run_since setup earlier)
