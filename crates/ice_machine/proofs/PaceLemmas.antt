-- Requests are paced.
use Rattle.std.proofs.Common.{◌≡◌, ℕ, ◌+◌, ◌*◌, ◌≤◌, Bool, true, false, not, ◌||◌, ◌&&◌, List, [], ◌∷◌, Option, None, Some, refl, sym, ap, subst, ◌∙◌, find, arith, zero-le, ◌%◌, ◌^◌}
use Rattle.std.specs.List.{AllByRecursion, list_any}
use Rattle.std.specs.Option.{option_map_or}
use Rattle.std.specs.Prelude.{◌==◌, nat_lt, nat_le, if◌then◌else◌}
use Rattle.std.proofs.lemmas.Bool.{cond_both, and_parts, leb-true}
use Rattle.stun_endpoints.specs.declared.endpoints.Endpoint.{Endpoint}
use Rattle.ice_machine.specs.Roles.{Role, Controlling, Controlled, RoleDecision, keep, switch, refuse, other_role, is_controlling, role_decision}
use Rattle.ice_machine.specs.Agents.{milliseconds, Base, Remote, Pair, Request, Setup, State, pace, is_at, is_succeeded}
use Rattle.ice_machine.specs.Events.{Check, Answer, Accepted, Refused, Event, gathers, learns, meets, ends, checks, responds, strays, arrives, sends, polls, Output, data_to, data_from, nothing}
use Rattle.ice_machine.specs.Pairs.{selected}
use Rattle.ice_machine.specs.Checks.{most_urgent}
use Rattle.ice_machine.specs.Steps.{Step, does_nothing, at, in_role, has_room, is_base, gathered, is_remote, learned, decides, checked, is_request, is_symmetric, without_request, answered, responded, refusal_size, strayed, received, sent, asks_on, is_open, polled, happens}
use Rattle.ice_machine.specs.Runs.{Begin, Timed, Happening, run, happening, history}
use Rattle.ice_machine.specs.Bounds.{is_asking, IsBefore, ArePaced, requests_sent}
use Rattle.ice_machine.proofs.ListsLemmas.{each_map}

-- an event that sends no request and leaves the moment of the next one
abbrev IsSame : State → State → Type 0
IsSame state after = (after.next_request_at ≡ state.next_request_at) × (after.clock ≡ state.clock)

record IsCalm (state : State) (s : Step) : Type 0 where
  same : IsSame state s.state
  calm : is_asking s.output ≡ false

in_role_same : (role : Role) (state : State) → IsSame state (in_role role state)
in_role_same Controlling state = cond_both (is_controlling state.role) _ _ (IsSame state) (λ _. (refl, refl)) (λ _. (refl, refl))
in_role_same Controlled state = cond_both (is_controlling state.role) _ _ (IsSame state) (λ _. (refl, refl)) (λ _. (refl, refl))

decides_calm : (setup : Setup) (b : Base) (c : Check) (state : State) (decision : RoleDecision) → IsCalm state (decides setup b c state decision)
decides_calm setup b c state keep = record { same = (refl, refl); calm = refl }
decides_calm setup b c state switch = record { same = in_role_same (other_role state.role) state; calm = refl }
decides_calm setup b c state refuse = record { same = (refl, refl); calm = refl }

checks_calm : (setup : Setup) (c : Check) (state : State) (known : Option Base) → IsCalm state (option_map_or (checked setup c state) known (does_nothing state))
checks_calm setup c state None = record { same = (refl, refl); calm = refl }
checks_calm setup c state (Some b) = decides_calm setup b c state (role_decision state.role state.tiebreaker c.role c.tiebreaker)

answered_same : (fresh : ℕ) (r : Request) (answer : Answer) (state : State) → IsSame state (answered fresh r answer state)
answered_same fresh r Accepted state = (refl, refl)
answered_same fresh r (Refused code) state = cond_both (code == 487) _ _ (IsSame state) (λ _. in_role_same (other_role r.role) (record state { tiebreaker = fresh % 2 ^ 64 })) (λ _. (refl, refl))

responds_calm : (fresh base : ℕ) (from : Endpoint) (answer : Answer) (state : State) (known : Option Request) → IsCalm state (option_map_or (responded fresh base from answer state) known (does_nothing state))
responds_calm fresh base from answer state None = record { same = (refl, refl); calm = refl }
responds_calm fresh base from answer state (Some r) = record {
  same = cond_both (is_symmetric base from r) _ _ (IsSame state) (λ _. answered_same fresh r answer (without_request r.id state)) (λ _. (refl, refl));
  calm = refl;
}

strays_calm : (base id size : ℕ) (from : Endpoint) (code : Option ℕ) → is_asking (strayed base from id size code) ≡ false
strays_calm base id size from None = refl
strays_calm base id size from (Some code) = cond_both (nat_le refusal_size (3 * size)) _ _ (λ o. is_asking o ≡ false) (λ _. refl) (λ _. refl)

arrives_calm : (bytes : List ℕ) (known : Option Pair) → is_asking (option_map_or (received bytes) known nothing) ≡ false
arrives_calm bytes None = refl
arrives_calm bytes (Some p) = cond_both (p.heard || is_succeeded p.state) (data_from p.component bytes) nothing (λ o. is_asking o ≡ false) (λ _. refl) (λ _. refl)

sends_calm : (now : ℕ) (bytes : List ℕ) (known : Option Pair) → is_asking (option_map_or (sent now bytes) known nothing) ≡ false
sends_calm now bytes None = refl
sends_calm now bytes (Some p) = cond_both (nat_lt now p.expires_at) (data_to p.base p.remote bytes) nothing (λ o. is_asking o ≡ false) (λ _. refl) (λ _. refl)

gathered_same : (setup : Setup) (b : Base) (state : State) → IsSame state (gathered setup b state)
gathered_same setup b state = cond_both (has_room setup state.bases && not (list_any (is_base b.number) state.bases)) _ _ (IsSame state) (λ _. (refl, refl)) (λ _. (refl, refl))

learned_same : (setup : Setup) (r : Remote) (state : State) → IsSame state (learned setup r state)
learned_same setup r state = cond_both (has_room setup state.remotes && not (list_any (is_remote r.component r.address) state.remotes)) _ _ (IsSame state) (λ _. (refl, refl)) (λ _. (refl, refl))

-- ---- What is kept of the pace

pub record IsPaced (setup : Setup) (hs : List Happening) (state : State) : Type 0 where
  pub before : AllByRecursion (IsBefore (pace setup) state.next_request_at) hs
  pub paced : ArePaced (pace setup) hs
  pub few : requests_sent hs * pace setup ≤ state.next_request_at
  pub soon : state.next_request_at ≤ state.clock + pace setup

before_later : (gap now later : ℕ) → now ≤ later → (hs : List Happening) → AllByRecursion (IsBefore gap now) hs → AllByRecursion (IsBefore gap later) hs
before_later gap now later le hs = each_map (IsBefore gap now) (IsBefore gap later) (λ h is asking. let one = is asking in omega (arith, one, le)) hs

count_one : (b : Bool) (n : ℕ) → b ≡ false → (if b then 1 + n else n) ≡ n
count_one true n calm = absurd cc
count_one false n calm = refl

calm_paced : (setup : Setup) (h : Happening) (hs : List Happening) (state after : State) → IsSame state after → is_asking h.output ≡ false → IsPaced setup hs state → IsPaced setup (h ∷ hs) after
calm_paced setup h hs state after same calm p = record {
  before = (λ asking. absurd cc, subst (λ (n : ℕ). AllByRecursion (IsBefore (pace setup) n) hs) (sym same.0) p.before);
  paced = (λ asking. absurd cc, p.paced);
  few = subst (λ (n : ℕ). n * pace setup ≤ after.next_request_at) (sym (count_one (is_asking h.output) (requests_sent hs) calm)) (subst (λ (n : ℕ). requests_sent hs * pace setup ≤ n) (sym same.0) p.few);
  soon = let soon = p.soon in let next = same.0 in let clock = same.1 in omega (arith, soon, next, clock);
}

-- the moment of an event
at_paced : (setup : Setup) (now : ℕ) (hs : List Happening) (state : State) → IsPaced setup hs state → IsPaced setup hs (at setup now state)
at_paced setup now hs state p = record { before = p.before; paced = p.paced; few = p.few; soon = let soon = p.soon in omega (arith, soon) }

asks_paced : (setup : Setup) (h : Happening) (hs : List Happening) (fresh : ℕ) (state : State) (known : Option Pair) → h.moment ≡ state.clock → h.output ≡ (option_map_or (asks_on setup fresh state) known (does_nothing state)).output
    → state.next_request_at ≤ state.clock → IsPaced setup hs state → IsPaced setup (h ∷ hs) (option_map_or (asks_on setup fresh state) known (does_nothing state)).state
asks_paced setup h hs fresh state None moment output free p = calm_paced setup h hs state state (refl, refl) (ap is_asking output) p
asks_paced setup h hs fresh state (Some q) moment output free p = record {
  before = (λ asking. omega (arith, moment), before_later (pace setup) state.next_request_at (state.clock + pace setup) p.soon hs p.before);
  paced = (λ asking. before_later (pace setup) state.next_request_at h.moment (omega (arith, free, moment)) hs p.before, p.paced);
  few = subst (λ (o : Output). (if is_asking o then 1 + requests_sent hs else requests_sent hs) * pace setup ≤ state.clock + pace setup) (sym output) (let few = p.few in omega (arith, few, free));
  soon = omega (arith);
}

polled_paced : (setup : Setup) (h : Happening) (hs : List Happening) (fresh : ℕ) (state : State) → h.moment ≡ state.clock → h.output ≡ (polled setup fresh state).output → IsPaced setup hs state → IsPaced setup (h ∷ hs) (polled setup fresh state).state
polled_paced setup h hs fresh state moment output p =
    cond_both (is_open state) (option_map_or (asks_on setup fresh state) (most_urgent setup state) (does_nothing state)) (does_nothing state) (λ (s : Step). h.output ≡ s.output → IsPaced setup (h ∷ hs) s.state)
    (λ free. λ out. asks_paced setup h hs fresh state (most_urgent setup state) moment out (leb-true state.next_request_at state.clock (and_parts state.ready (nat_le state.next_request_at state.clock) free).1) p)
    (λ _. λ out. calm_paced setup h hs state state (refl, refl) (ap is_asking out) p) output

calm_step : (setup : Setup) (h : Happening) (hs : List Happening) (state : State) (s : Step) → h.output ≡ s.output → IsCalm state s → IsPaced setup hs state → IsPaced setup (h ∷ hs) s.state
calm_step setup h hs state s output c p = calm_paced setup h hs state s.state c.same (ap is_asking output ∙ c.calm) p

happens_paced : (setup : Setup) (h : Happening) (hs : List Happening) (fresh : ℕ) (state : State) (event : Event) → h.moment ≡ state.clock → h.output ≡ (happens setup fresh state event).output → IsPaced setup hs state → IsPaced setup (h ∷ hs) (happens setup fresh state event).state
happens_paced setup h hs fresh state (gathers b) moment output p = calm_step setup h hs state (happens setup fresh state (gathers b)) output (record { same = gathered_same setup b state; calm = refl }) p
happens_paced setup h hs fresh state (learns r) moment output p = calm_step setup h hs state (happens setup fresh state (learns r)) output (record { same = learned_same setup r state; calm = refl }) p
happens_paced setup h hs fresh state meets moment output p = calm_step setup h hs state (happens setup fresh state meets) output (record { same = (refl, refl); calm = refl }) p
happens_paced setup h hs fresh state ends moment output p = calm_step setup h hs state (happens setup fresh state ends) output (record { same = (refl, refl); calm = refl }) p
happens_paced setup h hs fresh state (checks c) moment output p = calm_step setup h hs state (happens setup fresh state (checks c)) output (checks_calm setup c state (find (is_base c.base) state.bases)) p
happens_paced setup h hs fresh state (responds base from id answer) moment output p = calm_step setup h hs state (happens setup fresh state (responds base from id answer)) output (responds_calm fresh base from answer state (find (is_request id) state.requests)) p
happens_paced setup h hs fresh state (strays base from id size code) moment output p = calm_step setup h hs state (happens setup fresh state (strays base from id size code)) output (record { same = (refl, refl); calm = strays_calm base id size from code }) p
happens_paced setup h hs fresh state (arrives base from bytes) moment output p = calm_step setup h hs state (happens setup fresh state (arrives base from bytes)) output (record { same = (refl, refl); calm = arrives_calm bytes (find (is_at base from) state.pairs) }) p
happens_paced setup h hs fresh state (sends component bytes) moment output p = calm_step setup h hs state (happens setup fresh state (sends component bytes)) output (record { same = (refl, refl); calm = sends_calm state.clock bytes (selected component state) }) p
happens_paced setup h hs fresh state polls moment output p = polled_paced setup h hs fresh state moment output p

run_paced : (setup : Setup) (b : Begin) (events : List Timed) → IsPaced setup (history setup b events) (run setup b events)
run_paced setup b [] = record { before = tt; paced = tt; few = omega (arith); soon = zero-le }
run_paced setup b (timed ∷ earlier) =
    happens_paced setup (happening setup (run setup b earlier) timed) (history setup b earlier) timed.fresh (at setup timed.now (run setup b earlier)) timed.event refl refl
    (at_paced setup timed.now (history setup b earlier) (run setup b earlier) (run_paced setup b earlier))

pub run_is_paced : (setup : Setup) (b : Begin) (events : List Timed) → ArePaced (pace setup) (history setup b events)
run_is_paced setup b events = (run_paced setup b events).paced

pub run_sends_few : (setup : Setup) (b : Begin) (events : List Timed) → requests_sent (history setup b events) * pace setup ≤ (run setup b events).clock + pace setup
run_sends_few setup b events = let p = run_paced setup b events in let few = p.few in let soon = p.soon in omega (arith, few, soon)

pub least_pace : (setup : Setup) → milliseconds 5 ≤ pace setup
least_pace setup = omega (arith)
