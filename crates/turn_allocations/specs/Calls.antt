-- A sequence of calls is a run of the machine, so the machine's laws apply to it.
use Rattle.std.specs.Prelude.{◌≡◌, List, [], ◌∷◌}
use Rattle.turn_machine.specs.Relays.{Setup}
use Rattle.turn_machine.specs.Events.{Output}
use Rattle.turn_machine.specs.Runs.{Timed, Happening, initial_state, run, happening}
use Rattle.turn_allocations.specs.declared.limits.Limits.{Limits}
use Rattle.turn_allocations.specs.Ending.{AreSame}
use Rattle.turn_allocations.specs.Tables.{Serving, IsStep}

-- a server that began without allocations is this after calls with these events, the newest first
abbrev pub IsAfter : Setup → Limits → List Timed → Serving → Type 0
IsAfter setup limits [] s = s ≡ record { limits = limits; state = initial_state; ended = [] }
IsAfter setup limits (timed ∷ earlier) s =
    (old : Serving) × (output : Output) × IsAfter setup limits earlier old
    × IsStep setup timed.rules old timed.now timed.event output s

-- a call's output and the numbers that it ends are those of a happening
pub record IsAt (output : Output) (s : Serving) (h : Happening) : Type 0 where
  pub output_is : output ≡ h.output
  pub ended_are : AreSame s.ended h.closes

-- calls leave the state that the machine's run leaves, and the next call does what the next step does
pub record CallsAreARun : Type 0 where
  pub state : (setup : Setup) (limits : Limits) (events : List Timed) (s : Serving)
      → IsAfter setup limits events s → s.state ≡ run setup events
  pub next : (setup : Setup) (limits : Limits) (events : List Timed) (timed : Timed)
      (old new : Serving) (output : Output) → IsAfter setup limits events old
      → IsStep setup timed.rules old timed.now timed.event output new
      → IsAt output new (happening setup (run setup events) timed)
