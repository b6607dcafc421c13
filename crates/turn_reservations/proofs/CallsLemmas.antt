-- Calls in a row are a run of the machine with reservations.
use Rattle.std.proofs.Common.{◌≡◌, List, [], ◌∷◌, ap, ◌∙◌}
use Rattle.turn_machine.specs.Relays.{Setup}
use Rattle.turn_machine.specs.Lists.{times}
use Rattle.turn_machine.specs.Runs.{run}
use Rattle.turn_machine.specs.Reserving.{OuterState, outer_step, OuterTimed, outer_run, inner_run}
use Rattle.turn_allocations.specs.declared.limits.Limits.{Limits}
use Rattle.turn_reservations.specs.Calls.{Reserving, IsAfter, CallsAreARun}

run_holding : (setup : Setup) (limits : Limits) (events : List OuterTimed) (s : Reserving) → IsAfter setup limits events s → s.holding ≡ outer_run setup events
run_holding setup limits [] s is = ap (λ (x : Reserving). x.holding) is
run_holding setup limits (timed ∷ earlier) s is =
    is.4.holding_is ∙ ap (λ (x : OuterState). (outer_step setup timed.rules x timed.now timed.outer).holding) (run_holding setup limits earlier is.0 is.3)

-- by the machine's law of runs with reservations
pub calls_run : ((setup : Setup) (events : List OuterTimed) → (outer_run setup events).state ≡ run setup (inner_run setup events)) → CallsAreARun
calls_run law = record {
  holding = run_holding;
  state = λ setup limits events s after. ap (λ (x : OuterState). x.state) (run_holding setup limits events s after) ∙ law setup events;
  next = λ setup limits events timed old new output token after one.
      let same = run_holding setup limits events old after in
      record {
        output_is = one.output_is ∙ ap (λ (x : OuterState). (outer_step setup timed.rules x timed.now timed.outer).step.output) same;
        token_is = one.token_is ∙ ap (λ (x : OuterState). (outer_step setup timed.rules x timed.now timed.outer).token) same;
        ended_are = λ n. one.ended_are n ∙ ap (λ (x : OuterState). times n (outer_step setup timed.rules x timed.now timed.outer).step.closes) same;
        over_are = one.over_are ∙ ap (λ (x : OuterState). (outer_step setup timed.rules x timed.now timed.outer).over) same;
      };
}
