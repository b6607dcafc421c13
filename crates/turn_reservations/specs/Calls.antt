-- What callers see of a server's allocations and reservations, and what each call does. A sequence of calls is
-- a run of the machine, so the machine's laws apply to it.
use Rattle.std.specs.Prelude.{◌≡◌, ℕ, ◌+◌, ◌≤◌, ◌^◌, true, not, ◌||◌, ◌==◌, max, List, [], ◌∷◌, map, filter, Option}
use Rattle.std.specs.List.{AllByRecursion, list_any}
use Rattle.turn_machine.specs.Relays.{Setup, Rules}
use Rattle.turn_machine.specs.Events.{Output}
use Rattle.turn_machine.specs.Reserving.{Reservation, OuterState, Outer, is_held, OuterStep, outer_step, OuterTimed, outer_run, inner_run}
use Rattle.turn_machine.specs.Runs.{initial_state, run}
use Rattle.turn_allocations.specs.declared.limits.Limits.{Limits}
use Rattle.turn_allocations.specs.Ending.{AreSame}

-- the machine's state and its reservations, the numbers of the sockets that the last call ended, and
-- the tokens of the reservations that expired in it
pub record Reserving : Type 0 where
  pub limits : Limits
  pub holding : OuterState
  pub ended : List ℕ
  pub over : List ℕ

-- the tokens of the reservations that have expired at a moment
abbrev pub over_at : ℕ → OuterState → List ℕ
over_at now h =
    map (λ r. r.token) (filter (λ r. not (is_held (max h.state.clock now) r)) h.held)

-- A call is a step of the machine with this output, and this token in the response. The numbers that
-- end are in any order. Those that are given grow slowly, so that they last
pub record IsOuterStep (setup : Setup) (rules : Rules) (old : Reserving) (now : ℕ) (outer : Outer)
    (output : Output) (token : Option ℕ) (new : Reserving) : Type 0 where
  pub holding_is : new.holding ≡ (outer_step setup rules old.holding now outer).holding
  pub output_is : output ≡ (outer_step setup rules old.holding now outer).step.output
  pub token_is : token ≡ (outer_step setup rules old.holding now outer).token
  pub ended_are : AreSame new.ended (outer_step setup rules old.holding now outer).step.closes
  pub over_are : new.over ≡ (outer_step setup rules old.holding now outer).over
  pub limits_are : new.limits ≡ old.limits
  pub slow : new.holding.state.next ≤ old.holding.state.next + 2 ^ 26

-- ---- When the next of them expires

-- a reservation expires at this moment, and none before
pub record IsNextOver (due : ℕ) (held : List Reservation) : Type 0 where
  pub some : list_any (λ r. r.expires_at == due) held ≡ true
  pub least : AllByRecursion (λ r. due ≤ r.expires_at) held

-- a relayed address or a reservation expires at this moment, and none before
pub record IsNextDue (due : ℕ) (h : OuterState) : Type 0 where
  pub some : (list_any (λ a. a.expires_at == due) h.state.relays || list_any (λ r. r.expires_at == due) h.held) ≡ true
  pub relays : AllByRecursion (λ a. due ≤ a.expires_at) h.state.relays
  pub reservations : AllByRecursion (λ r. due ≤ r.expires_at) h.held

-- ---- Calls in a row

-- a server that began without allocations is this after calls with these events, the newest first
abbrev pub IsAfter : Setup → Limits → List OuterTimed → Reserving → Type 0
IsAfter setup limits [] s = s ≡ record {
  limits = limits;
  holding = record { state = initial_state; held = [] };
  ended = [];
  over = [];
}
IsAfter setup limits (timed ∷ earlier) s =
    (old : Reserving) × (output : Output) × (token : Option ℕ) × IsAfter setup limits earlier old
    × IsOuterStep setup timed.rules old timed.now timed.outer output token s

-- a call's output and token, and the numbers and the tokens that it ends, are those of a step
pub record IsAt (output : Output) (token : Option ℕ) (s : Reserving) (step : OuterStep) : Type 0 where
  pub output_is : output ≡ step.step.output
  pub token_is : token ≡ step.token
  pub ended_are : AreSame s.ended step.step.closes
  pub over_are : s.over ≡ step.over

-- calls leave what the machine's run with reservations leaves, whose state is that of a run of the machine,
-- and the next call does what the next step does
pub record CallsAreARun : Type 0 where
  pub holding : (setup : Setup) (limits : Limits) (events : List OuterTimed) (s : Reserving)
      → IsAfter setup limits events s → s.holding ≡ outer_run setup events
  pub state : (setup : Setup) (limits : Limits) (events : List OuterTimed) (s : Reserving)
      → IsAfter setup limits events s → s.holding.state ≡ run setup (inner_run setup events)
  pub next : (setup : Setup) (limits : Limits) (events : List OuterTimed) (timed : OuterTimed)
      (old new : Reserving) (output : Output) (token : Option ℕ) → IsAfter setup limits events old
      → IsOuterStep setup timed.rules old timed.now timed.outer output token new
      → IsAt output token new (outer_step setup timed.rules (outer_run setup events) timed.now timed.outer)
