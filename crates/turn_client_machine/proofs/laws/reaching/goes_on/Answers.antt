use Rattle.turn_machine.proofs.DueLemmas.{goes_out, goes_on_channel, comes_back}
use Rattle.turn_client_machine.proofs.PunctualLemmas.{punctual_relayed}
use Rattle.turn_client_machine.proofs.BackLemmas.{shown_back}
use Rattle.turn_client_machine.proofs.RoundsLemmas.{opened_calm, stays_punctual, run_punctual}
use Rattle.std.proofs.Common.{[], ◌∷◌, arith}
use Rattle.turn_client_machine.specs.Rounds.{rounds_events}
use Rattle.turn_client_machine.proofs.laws.reaching.goes_on.Goals as goal

pub returns-clause-begun : goal.returns-clause-begun
returns-clause-begun c = opened_calm

pub returns-clause-polled : goal.returns-clause-polled
returns-clause-polled c = stays_punctual

pub returns-clause-reached : goal.returns-clause-reached
returns-clause-reached c = λ setup events server since before rules tuple user lifetime fresh late slack now later there other earlier named peer bytes some useful less calm in_time same known on close soon j port arrives.
    punctual_relayed goes_out goes_on_channel setup (rounds_events setup lifetime fresh (now ∷ earlier) events) server since before rules tuple user later other there late slack named peer bytes j port arrives
    (run_punctual setup events lifetime fresh late slack now later earlier named peer some useful less calm in_time same known on close soon)

pub returns-clause-shown : goal.returns-clause-shown
returns-clause-shown c = λ setup events server since before rules tuple user lifetime fresh late slack now later last there other relay earlier named peer bytes some useful less calm in_time same known on close soon sooner j port arrives socket settled.
    shown_back comes_back setup (rounds_events setup lifetime fresh (now ∷ earlier) events) [] server since before rules tuple user later last other there late slack relay named peer bytes j port arrives
    (run_punctual setup events lifetime fresh late slack now later earlier named peer some useful less calm in_time same known on close soon) socket
    (run_punctual setup events lifetime fresh late 0 now last earlier named peer some useful (omega (arith, less)) calm in_time same known on close sooner) settled
