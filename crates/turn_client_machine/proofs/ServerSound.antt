-- What has succeeded at the server, its rules allowed; and nothing has happened after its clock.
use Rattle.std.proofs.Common.{◌≡◌, ℕ, ◌≤◌, inl, inr, true, ◌&&◌, List, [], ◌∷◌, sym, subst, arith}
use Rattle.std.specs.List.{AllByRecursion, list_any}
use Rattle.std.proofs.lemmas.Bool.{or_cases, and_from, false≢true}
use Rattle.stun_endpoints.specs.declared.endpoints.Ip.{Ip}
use Rattle.stun_endpoints.specs.declared.endpoints.Endpoint.{Endpoint}
use Rattle.stun_endpoints.specs.declared.endpoints.FiveTuple.{FiveTuple}
use Rattle.stun_endpoints.specs.Endpoints.{is_ip}
use Rattle.turn_machine.specs.Relays.{Setup, Rules, State}
use Rattle.turn_machine.specs.Events.{Request, allocate, unfit_allocate, refresh, permit, bind, unfit, Event, asks, done, answers}
use Rattle.turn_machine.specs.Times.{at}
use Rattle.turn_machine.specs.Steps.{Step, happens, serves}
use Rattle.turn_machine.specs.Runs.{Timed, Happening, run, happening, history}
use Rattle.turn_machine.specs.Warrants.{names}
use Rattle.stun_endpoints.proofs.AddressesLemmas.{ip_same}
use Rattle.turn_machine.proofs.CasesLemmas.{serve_cases}
use Rattle.turn_machine.proofs.ListsLemmas.{all_each, each_both}
use Rattle.turn_machine.proofs.RowsLemmas.{permit_none, bind_none}
use Rattle.turn_machine.proofs.RightLemmas.{moments_before}

-- the rules allow what a request names
abbrev pub Allowed : Rules → Request → Type 0
Allowed rules (allocate id lifetime wants) = Unit {0}
Allowed rules (unfit_allocate code) = Unit {0}
Allowed rules (refresh family lifetime) = Unit {0}
Allowed rules (permit peers) = AllByRecursion (λ peer. rules.allows_ip peer.ip ≡ true) peers
Allowed rules (bind number peer) = (rules.allows_ip peer.ip ≡ true) × ((rules.allows_ip peer.ip && rules.allows_port peer) ≡ true)
Allowed rules (unfit code) = Unit {0}

abbrev pub IsSound : Happening → Type 0
IsSound h = (tuple : FiveTuple) (user : ℕ) (request : Request) → h.event ≡ asks tuple user request → h.output ≡ answers tuple done → Allowed h.rules request

serve_sound : (setup : Setup) (rules : Rules) (tuple : FiveTuple) (user : ℕ) (request : Request) (state : State) → (serves setup rules tuple user request state).output ≡ answers tuple done → Allowed rules request
serve_sound setup rules tuple user (allocate id lifetime wants) state = λ _. tt
serve_sound setup rules tuple user (unfit_allocate code) state = λ _. tt
serve_sound setup rules tuple user (refresh family lifetime) state = λ _. tt
serve_sound setup rules tuple user (permit peers) state =
    serve_cases setup rules tuple user (permit peers) state (λ (s : Step). s.output ≡ answers tuple done → AllByRecursion (λ (peer : Endpoint). rules.allows_ip peer.ip ≡ true) peers)
    (λ code _ _ e. absurd cc) (λ again _. absurd (false≢true again))
    (λ _ fit _. all_each (λ (peer : Endpoint). rules.allows_ip peer.ip) peers (permit_none setup rules tuple user peers state fit).allowed)
serve_sound setup rules tuple user (bind number peer) state =
    serve_cases setup rules tuple user (bind number peer) state (λ (s : Step). s.output ≡ answers tuple done → (rules.allows_ip peer.ip ≡ true) × ((rules.allows_ip peer.ip && rules.allows_port peer) ≡ true))
    (λ code _ _ e. absurd cc) (λ again _. absurd (false≢true again))
    (λ _ fit _. let none = bind_none setup rules tuple user number peer state fit in (none.allowed, and_from (rules.allows_ip peer.ip) (rules.allows_port peer) none.allowed none.port))
serve_sound setup rules tuple user (unfit code) state = λ _. tt

step_sound : (setup : Setup) (state : State) (t : Timed) → IsSound (happening setup state t)
step_sound setup state t tuple user request asked answered =
    serve_sound setup t.rules tuple user request (at t.now state) (subst (λ (e : Event). (happens setup t.rules (at t.now state) e).output ≡ answers tuple done) asked answered)

pub run_sound : (setup : Setup) (events : List Timed) → AllByRecursion IsSound (history setup events)
run_sound setup [] = tt
run_sound setup (t ∷ events) = (step_sound setup (run setup events) t, run_sound setup events)

-- ---- What has happened by a moment

pub record IsPast (now : ℕ) (h : Happening) : Type 0 where
  pub sound : IsSound h
  pub came : h.moment ≤ now

pub run_past : (setup : Setup) (events : List Timed) (now : ℕ) → (run setup events).clock ≤ now → AllByRecursion (IsPast now) (history setup events)
run_past setup events now le =
    each_both IsSound (λ (h : Happening). h.moment ≤ (run setup events).clock) (IsPast now) (λ h sound before. record { sound = sound; came = omega (arith, before, le) }) (history setup events) (run_sound setup events) (moments_before setup events)

named_in : (ip : Ip) (rules : Rules) (peers : List Endpoint) → AllByRecursion (λ peer. rules.allows_ip peer.ip ≡ true) peers → list_any (λ peer. is_ip ip peer.ip) peers ≡ true → rules.allows_ip ip ≡ true
named_in ip rules [] each any = absurd (false≢true any)
named_in ip rules (p ∷ ps) each any = elim (or_cases (is_ip ip p.ip) (list_any (λ (peer : Endpoint). is_ip ip peer.ip) ps) any) [
  | inl first ↦ subst (λ (i : Ip). rules.allows_ip i ≡ true) (sym (ip_same ip p.ip first)) each.0
  | inr more ↦ named_in ip rules ps each.1 more
]

pub named_allowed : (ip : Ip) (rules : Rules) (request : Request) → Allowed rules request → names ip request ≡ true → rules.allows_ip ip ≡ true
named_allowed ip rules (allocate id lifetime wants) sound named = absurd (false≢true named)
named_allowed ip rules (unfit_allocate code) sound named = absurd (false≢true named)
named_allowed ip rules (refresh family lifetime) sound named = absurd (false≢true named)
named_allowed ip rules (permit peers) sound named = named_in ip rules peers sound named
named_allowed ip rules (bind number peer) sound named = subst (λ (i : Ip). rules.allows_ip i ≡ true) (sym (ip_same ip peer.ip named)) sound.0
named_allowed ip rules (unfit code) sound named = absurd (false≢true named)
