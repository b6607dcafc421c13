use Rattle.std.proofs.Common.{◌+◌, [], ◌∷◌, ap, arith}
use Rattle.turn_machine.specs.Events.{allocate, asks}
use Rattle.turn_machine.specs.Opening.{opened}
use Rattle.turn_machine.specs.Relays.{seconds}
use Rattle.turn_machine.specs.Runs.{run}
use Rattle.turn_machine.specs.Steps.{Step, step}
use Rattle.turn_machine.specs.Times.{at, granted_for}
use Rattle.turn_machine.proofs.GrantingLemmas.{opening_is, one_granted}
use Rattle.turn_machine.proofs.KeptLemmas.{run_quota}
use Rattle.turn_machine.proofs.QuotasLemmas.{has_places}
use Rattle.turn_machine.proofs.QuotasLemmas.{only_unready}
use Rattle.turn_machine.proofs.laws.granting.quotas_protect.Goals as goal

pub returns-clause-within : goal.returns-clause-within
returns-clause-within c = run_quota

pub returns-clause-places : goal.returns-clause-places
returns-clause-places c = has_places

pub returns-clause-unready : goal.returns-clause-unready
returns-clause-unready c = only_unready

pub returns-clause-granted : goal.returns-clause-granted
returns-clause-granted c = λ setup users events rules now tuple user id lifetime want offer by among fits free below offered ready.
    let s = at now (run setup events) in
    let room = has_places setup users events now user 1 by among fits (omega (arith, below)) in
    let expires_at = s.clock + seconds (granted_for lifetime setup.greatest_lifetime) in
    let is = one_granted setup rules s tuple user id lifetime want offer (record { free = free; quota = below; room = omega (arith, room); offered = offered; ready = ready }) in
    (opened tuple user id expires_at want.family s offer, opening_is tuple user id expires_at want.family s offer (step setup rules (run setup events) now (asks tuple user (allocate id lifetime (want ∷ [])))).state (ap (λ (x : Step). x.state) is), ap (λ (x : Step). x.output) is)
