use Rattle.std.proofs.Common.{◌≤◌, sym, subst, length, ◌∙◌}
use Rattle.std.specs.List.{AllByRecursion}
use Rattle.turn_machine.specs.Bounds.{IsWithin}
use Rattle.turn_machine.specs.Relays.{State}
use Rattle.turn_machine.specs.Events.{arrives, bounces}
use Rattle.turn_machine.specs.Reserving.{inner_run}
use Rattle.turn_server.specs.Datagrams.{events_in}
use Rattle.turn_server.proofs.DatagramsLemmas.{kept_is_run, state_is_run, requests_came}
use Rattle.turn_server.proofs.RelayedLemmas.{right_after, relayed}
use Rattle.turn_server.proofs.laws.datagrams_are_warranted.Goals as goal

pub returns-clause-kept : goal.returns-clause-kept
returns-clause-kept c = kept_is_run

pub returns-clause-state : goal.returns-clause-state
returns-clause-state c = state_is_run c.reservations_are_kept.ensures.state

pub returns-clause-calls : goal.returns-clause-calls
returns-clause-calls c = λ setup limits moments s after. c.reserving_calls_are_a_run.ensures.holding setup limits (events_in setup moments) s after ∙ sym (kept_is_run setup moments)

pub returns-clause-relays : goal.returns-clause-relays
returns-clause-relays c = λ setup moments.
    subst (λ (s : State). length s.relays ≤ setup.most_relays) (sym (state_is_run c.reservations_are_kept.ensures.state setup moments)) (c.table_is_bounded.ensures.relays setup (inner_run setup (events_in setup moments)))

pub returns-clause-within : goal.returns-clause-within
returns-clause-within c = λ setup moments.
    subst (λ (s : State). AllByRecursion (IsWithin setup) s.relays) (sym (state_is_run c.reservations_are_kept.ensures.state setup moments)) (c.table_is_bounded.ensures.each setup (inner_run setup (events_in setup moments)))

pub returns-clause-data : goal.returns-clause-data
returns-clause-data c = relayed c.reservations_are_kept.ensures.state c.relaying_is_warranted.ensures

pub returns-clause-back : goal.returns-clause-back
returns-clause-back c = λ setup rules earlier now number peer bytes. right_after c.reservations_are_kept.ensures.state c.relaying_is_warranted.ensures setup rules earlier now (arrives number peer bytes)

pub returns-clause-icmp : goal.returns-clause-icmp
returns-clause-icmp c = λ setup rules earlier now number peer icmp. right_after c.reservations_are_kept.ensures.state c.relaying_is_warranted.ensures setup rules earlier now (bounces number peer icmp)

pub returns-clause-requests : goal.returns-clause-requests
returns-clause-requests c = requests_came c.reservations_are_kept.ensures.state
