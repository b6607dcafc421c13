use Rattle.std.proofs.Common.{◌<◌, ap, refl, ltb-true}
use Rattle.std.specs.Prelude.{max}
use Rattle.turn_machine.specs.Relays.{seconds, is_live}
use Rattle.turn_machine.specs.Runs.{run}
use Rattle.turn_machine.proofs.AgainLemmas.{again_granted}
use Rattle.turn_machine.proofs.ListsLemmas.{each_filtered}
use Rattle.turn_machine.proofs.KeptLemmas.{run_live}
use Rattle.turn_machine.specs.Times.{at, over_at, granted_for, refreshed_for}
use Rattle.turn_machine.specs.Steps.{Step, serves, step}
use Rattle.turn_machine.specs.Events.{allocate, refresh, asks}
use Rattle.turn_machine.specs.Opening.{opened, with_relay}
use Rattle.std.specs.Prelude.{[], ◌∷◌, ◌+◌}
use Rattle.turn_machine.proofs.GrantingLemmas.{opening_is, one_granted, two_granted, part_granted, second_granted, refreshed_exactly}
use Rattle.turn_machine.proofs.GrantedLemmas.{refresh_granted, permit_granted, bind_granted, with_closes}
use Rattle.turn_machine.proofs.laws.granting.fit_is_granted.Goals as goal

pub returns-clause-one : goal.returns-clause-one
returns-clause-one c = λ setup rules state now tuple user id lifetime want offer fit.
    let s = at now state in
    let expires_at = s.clock + seconds (granted_for lifetime setup.greatest_lifetime) in
    let is = one_granted setup rules s tuple user id lifetime want offer fit in
    (opened tuple user id expires_at want.family s offer, opening_is tuple user id expires_at want.family s offer (step setup rules state now (asks tuple user (allocate id lifetime (want ∷ [])))).state (ap (λ (x : Step). x.state) is), ap (λ (x : Step). x.output) is)

pub returns-clause-both : goal.returns-clause-both
returns-clause-both c = λ setup rules state now tuple user id lifetime want other offer second fit differ offered ready quota room.
    let s = at now state in
    let expires_at = s.clock + seconds (granted_for lifetime setup.greatest_lifetime) in
    let is = two_granted setup rules s tuple user id lifetime want other offer second fit differ offered ready quota room in
    let between = with_relay tuple user id expires_at want.family s offer in (
      opened tuple user id expires_at want.family s offer,
      opened tuple user id expires_at other.family between second,
      between,
      opening_is tuple user id expires_at want.family s offer between refl,
      opening_is tuple user id expires_at other.family between second (step setup rules state now (asks tuple user (allocate id lifetime (want ∷ other ∷ [])))).state (ap (λ (x : Step). x.state) is),
      ap (λ (x : Step). x.output) is,
    )

pub returns-clause-one_of_two : goal.returns-clause-one_of_two
returns-clause-one_of_two c = λ setup rules state now tuple user id lifetime want other offer fit differ lacks.
    let s = at now state in
    let expires_at = s.clock + seconds (granted_for lifetime setup.greatest_lifetime) in
    let is = part_granted setup rules s tuple user id lifetime want other offer fit differ lacks in
    (opened tuple user id expires_at want.family s offer, opening_is tuple user id expires_at want.family s offer (step setup rules state now (asks tuple user (allocate id lifetime (want ∷ other ∷ [])))).state (ap (λ (x : Step). x.state) is), ap (λ (x : Step). x.output) is)

pub returns-clause-second_of_two : goal.returns-clause-second_of_two
returns-clause-second_of_two c = λ setup rules state now tuple user id lifetime want other offer fit differ lacks.
    let s = at now state in
    let expires_at = s.clock + seconds (granted_for lifetime setup.greatest_lifetime) in
    let is = second_granted setup rules s tuple user id lifetime want other offer fit differ lacks in
    (opened tuple user id expires_at other.family s offer, opening_is tuple user id expires_at other.family s offer (step setup rules state now (asks tuple user (allocate id lifetime (want ∷ other ∷ [])))).state (ap (λ (x : Step). x.state) is), ap (λ (x : Step). x.output) is)

pub returns-clause-refreshed : goal.returns-clause-refreshed
returns-clause-refreshed c = λ setup rules state now tuple user family lifetime own is.
    with_closes tuple family (refreshed_for lifetime setup.greatest_lifetime) (at now state) (serves setup rules tuple user (refresh family lifetime) (at now state)) (over_at now state)
    (refresh_granted setup rules (at now state) tuple user family lifetime own is)

pub returns-clause-permitted : goal.returns-clause-permitted
returns-clause-permitted c = λ setup rules state now tuple user peers can.
    let p = permit_granted setup rules (at now state) tuple user peers can in
    record { output = p.output; each = p.each; others = p.others }

pub returns-clause-bound : goal.returns-clause-bound
returns-clause-bound c = λ setup rules state now tuple user number peer can.
    let p = bind_granted setup rules (at now state) tuple user number peer can in
    record { output = p.output; channel = p.channel; permission = p.permission; others = p.others }

pub returns-clause-again : goal.returns-clause-again
returns-clause-again c = λ setup rules events now tuple user id lifetime wants again.
    let state = run setup events in
    let reply = again_granted setup rules tuple user id lifetime wants (at now state) again
    (each_filtered (λ a. state.clock < a.expires_at) (λ a. max state.clock now < a.expires_at) (is_live (max state.clock now)) (λ a live _. ltb-true (max state.clock now) a.expires_at live) state.relays (run_live setup events)) in
    record { kept = reply.kept; left = reply.left; output = reply.output; none_before = reply.none_before; one_within = reply.one_within }

pub returns-clause-lifetimes : goal.returns-clause-lifetimes
returns-clause-lifetimes c = λ setup wanted greatest. (refl, refl, refl, refl, refl, refl, refreshed_exactly wanted greatest)
