-- What each event keeps, every run keeps.
use Rattle.std.proofs.Common.{◌≢◌, eq-eqb, ◌&&◌, ◌≡◌, ℕ, ◌+◌, ◌<◌, ◌≤◌, Bool, true, false, List, [], ◌∷◌, Option, None, Some, refl, sym, ◌∙◌, subst, arith}
use Rattle.std.specs.Option.{option_map_or}
use Rattle.std.specs.Prelude.{◌==◌}
use Rattle.std.proofs.lemmas.Bool.{cond_both, false≢true}
use Rattle.stun_endpoints.specs.declared.endpoints.Endpoint.{Endpoint}
use Rattle.stun_endpoints.specs.declared.endpoints.FiveTuple.{FiveTuple}
use Rattle.turn_machine.specs.Relays.{seconds, Relay, Setup, Rules, State, is_users, is_owned, is_at, bound_for}
use Rattle.turn_machine.specs.Events.{Offer, Want, Request, allocate, unfit_allocate, refresh, permit, bind, unfit, Event, asks, sends, sends_on, arrives, bounces, ends, ends_user, ticks, refreshed, answers}
use Rattle.turn_machine.specs.Times.{at, granted_for, refreshed_for}
use Rattle.turn_machine.specs.Opening.{with_relay, can_open, opens_one, opens}
use Rattle.turn_machine.specs.Rows.{fault}
use Rattle.turn_machine.specs.Steps.{Step, changed, without, closing, is_wanted, lasting, permitting, binding, keeping, refreshes, fulfils, happens, step}
use Rattle.turn_machine.specs.Runs.{Timed, initial_state, run}
use Rattle.turn_machine.proofs.CasesLemmas.{serve_cases}
use Rattle.turn_machine.proofs.ListsLemmas.{each_always}
use Rattle.turn_machine.specs.Quotas.{IsBy}
use Rattle.std.specs.List.{AllByRecursion}

pub record Keeps (setup : Setup) (Who : ℕ → Type 0) (Q : State → Type 0) : Type 0 where
  pub time : (now : ℕ) (state : State) → Q state → Q (at now state)
  pub opened : (tuple : FiveTuple) (user id expires_at : ℕ) (want : Want) (offer : Offer) (state : State) → Who user → state.clock < expires_at → can_open setup tuple user want state ≡ true → Q state → Q (with_relay tuple user id expires_at want.family state offer)
  pub ended : (test : Relay → Bool) (state : State) → Q state → Q (without test state)
  pub lasted : (tuple : FiveTuple) (user : ℕ) (family : Option ℕ) (expires_at : ℕ) (state : State) → state.clock < expires_at → Q state → Q (changed tuple user (lasting family expires_at) state)
  pub permitted : (rules : Rules) (tuple : FiveTuple) (user : ℕ) (peers : List Endpoint) (state : State) → fault setup rules state tuple user (permit peers) ≡ None → Q state → Q (changed tuple user (permitting state.clock peers) state)
  pub bound : (rules : Rules) (tuple : FiveTuple) (user number : ℕ) (peer : Endpoint) (state : State) → fault setup rules state tuple user (bind number peer) ≡ None → Q state → Q (changed tuple user (binding (bound_for setup) state.clock number peer) state)

-- ---- Lifetimes

pub granted_least : (lifetime : Option ℕ) (greatest : ℕ) → 600 ≤ granted_for lifetime greatest
granted_least None greatest = omega arith
granted_least (Some wanted) greatest = omega arith

pub later : (clock lifetime : ℕ) → 600 ≤ lifetime → clock < clock + seconds lifetime
later clock lifetime least = omega (arith, least)

pub not_zero : (clock lifetime : ℕ) → (lifetime == 0) ≡ false → clock < clock + seconds lifetime
not_zero clock lifetime e =
    let no : lifetime ≢ 0 = λ is. false≢true (sym e ∙ eq-eqb lifetime 0 is) in
    omega (arith, no)

-- ---- A request

by_ready : (Q : State → Type 0) (f : Offer → State) (state : State) (ready : Option Offer) → Q state → ((offer : Offer) → ready ≡ Some offer → Q (f offer)) → Q (option_map_or f ready state)
by_ready Q f state None q g = q
by_ready Q f state (Some offer) q g = g offer refl

-- a want is met, or nothing is opened for it
pub open_cases : (setup : Setup) (Q : State → Type 0) (tuple : FiveTuple) (user id expires_at : ℕ) (want : Want) (state : State) → Q state
    → ((offer : Offer) → want.ready ≡ Some offer → can_open setup tuple user want state ≡ true → Q (with_relay tuple user id expires_at want.family state offer)) → Q (opens_one setup tuple user id expires_at want state)
open_cases setup Q tuple user id expires_at want state q met =
    cond_both (can_open setup tuple user want state) (option_map_or (with_relay tuple user id expires_at want.family state) want.ready state) state Q
    (λ can. by_ready Q (with_relay tuple user id expires_at want.family state) state want.ready q (λ offer ready. met offer ready can)) (λ _. q)

pub one_clock : (setup : Setup) (tuple : FiveTuple) (user id expires_at : ℕ) (want : Want) (state : State) → (opens_one setup tuple user id expires_at want state).clock ≡ state.clock
one_clock setup tuple user id expires_at want state = open_cases setup (λ s. s.clock ≡ state.clock) tuple user id expires_at want state refl (λ _ _ _. refl)

-- what each opening keeps, all do
pub opens_keep : (setup : Setup) (Q : State → Type 0) (tuple : FiveTuple) (user id expires_at : ℕ)
    → ((want : Want) (offer : Offer) (state : State) → state.clock < expires_at → want.ready ≡ Some offer → can_open setup tuple user want state ≡ true → Q state → Q (with_relay tuple user id expires_at want.family state offer))
    → (wants : List Want) (state : State) → state.clock < expires_at → Q state → Q (opens setup tuple user id expires_at wants state)
opens_keep setup Q tuple user id expires_at met [] state later q = q
opens_keep setup Q tuple user id expires_at met (want ∷ wants) state later q =
    opens_keep setup Q tuple user id expires_at met wants (opens_one setup tuple user id expires_at want state)
    (subst (λ c. c < expires_at) (sym (one_clock setup tuple user id expires_at want state)) later)
    (open_cases setup Q tuple user id expires_at want state q (λ offer ready can. met want offer state later ready can q))

refresh_keeps : (setup : Setup) (Who : ℕ → Type 0) (Q : State → Type 0) → Keeps setup Who Q → (tuple : FiveTuple) (user : ℕ) (family : Option ℕ) (lifetime : ℕ) (state : State) → Q state → Q (refreshes tuple user family lifetime state).state
refresh_keeps setup Who Q keeps tuple user family lifetime state q =
    cond_both (lifetime == 0)
    (closing (λ a. is_owned tuple user a && is_wanted family a) (answers tuple (refreshed lifetime)) state)
    (keeping (changed tuple user (lasting family (state.clock + seconds lifetime)) state) (answers tuple (refreshed lifetime)))
    (λ (s : Step). Q s.state)
    (λ _. keeps.ended (λ a. is_owned tuple user a && is_wanted family a) state q)
    (λ some. keeps.lasted tuple user family (state.clock + seconds lifetime) state (not_zero state.clock lifetime some) q)

fulfil_keeps : (setup : Setup) (Who : ℕ → Type 0) (Q : State → Type 0) → Keeps setup Who Q → (rules : Rules) (tuple : FiveTuple) (user : ℕ) (request : Request) (state : State) → fault setup rules state tuple user request ≡ None → Who user → Q state → Q (fulfils setup tuple user request state).state
fulfil_keeps setup Who Q keeps rules tuple user (allocate id lifetime wants) state fit who q =
    let granted = granted_for lifetime setup.greatest_lifetime in
    opens_keep setup Q tuple user id (state.clock + seconds granted)
    (λ want offer s l ready can. keeps.opened tuple user id (state.clock + seconds granted) want offer s who l can) wants state
    (later state.clock granted (granted_least lifetime setup.greatest_lifetime)) q
fulfil_keeps setup Who Q keeps rules tuple user (unfit_allocate code) state fit who q = q
fulfil_keeps setup Who Q keeps rules tuple user (refresh family lifetime) state fit who q = refresh_keeps setup Who Q keeps tuple user family (refreshed_for lifetime setup.greatest_lifetime) state q
fulfil_keeps setup Who Q keeps rules tuple user (permit peers) state fit who q = keeps.permitted rules tuple user peers state fit q
fulfil_keeps setup Who Q keeps rules tuple user (bind number peer) state fit who q = keeps.bound rules tuple user number peer state fit q
fulfil_keeps setup Who Q keeps rules tuple user (unfit code) state fit who q = q

pub happens_keeps : (setup : Setup) (Who : ℕ → Type 0) (Q : State → Type 0) → Keeps setup Who Q → (rules : Rules) (state : State) (event : Event) → IsBy Who event → Q state → Q (happens setup rules state event).state
happens_keeps setup Who Q keeps rules state (asks tuple user request) by q =
    serve_cases setup rules tuple user request state (λ (s : Step). Q s.state) (λ _ _ _. q) (λ _. q) (λ _ fit. fulfil_keeps setup Who Q keeps rules tuple user request state fit by q)
happens_keeps setup Who Q keeps rules state (ends number) by q = keeps.ended (is_at number) state q
happens_keeps setup Who Q keeps rules state (ends_user user) by q = keeps.ended (is_users user) state q
happens_keeps setup Who Q keeps rules state (sends tuple peer dont_fragment bytes) by q = q
happens_keeps setup Who Q keeps rules state (sends_on tuple number bytes) by q = q
happens_keeps setup Who Q keeps rules state (arrives number peer bytes) by q = q
happens_keeps setup Who Q keeps rules state (bounces number peer icmp) by q = q
happens_keeps setup Who Q keeps rules state ticks by q = q

pub step_keeps : (setup : Setup) (Who : ℕ → Type 0) (Q : State → Type 0) → Keeps setup Who Q → (rules : Rules) (state : State) (now : ℕ) (event : Event) → IsBy Who event → Q state → Q (step setup rules state now event).state
step_keeps setup Who Q keeps rules state now event by q = happens_keeps setup Who Q keeps rules (at now state) event by (keeps.time now state q)

pub run_keeps_by : (setup : Setup) (Who : ℕ → Type 0) (Q : State → Type 0) → Keeps setup Who Q → Q initial_state → (events : List Timed) → AllByRecursion (λ t. IsBy Who t.event) events → Q (run setup events)
run_keeps_by setup Who Q keeps first [] by = first
run_keeps_by setup Who Q keeps first (t ∷ events) by = step_keeps setup Who Q keeps t.rules (run setup events) t.now t.event by.0 (run_keeps_by setup Who Q keeps first events by.1)

abbrev pub Anyone : ℕ → Type 0
Anyone user = Unit {0}

pub by_anyone : (event : Event) → IsBy Anyone event
by_anyone (asks tuple user request) = tt
by_anyone (sends tuple peer dont_fragment bytes) = tt
by_anyone (sends_on tuple number bytes) = tt
by_anyone (arrives number peer bytes) = tt
by_anyone (bounces number peer icmp) = tt
by_anyone (ends number) = tt
by_anyone (ends_user user) = tt
by_anyone ticks = tt

pub run_keeps : (setup : Setup) (Q : State → Type 0) → Keeps setup Anyone Q → Q initial_state → (events : List Timed) → Q (run setup events)
run_keeps setup Q keeps first events = run_keeps_by setup Anyone Q keeps first events (each_always (λ t. IsBy Anyone t.event) (λ t. by_anyone t.event) events)
