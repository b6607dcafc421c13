use Rattle.std.proofs.Common.{[], ◌∷◌, ◌+◌, None, refl, ap}
use Rattle.turn_machine.specs.Relays.{seconds}
use Rattle.turn_machine.specs.Events.{allocated as s_allocated, refreshed as s_refreshed, done as s_done}
use Rattle.turn_machine.specs.Granting.{given_of}
use Rattle.turn_machine.specs.Opening.{opened}
use Rattle.turn_machine.specs.Steps.{Step}
use Rattle.turn_machine.specs.Times.{at as s_at, granted_for, refreshed_for}
use Rattle.turn_machine.proofs.GrantingLemmas.{one_granted}
use Rattle.turn_machine.proofs.GrantedLemmas.{refresh_granted, permit_granted, bind_granted}
use Rattle.turn_client_machine.proofs.laws.serving.fit_is_heard.Goals as goal

pub returns-clause-opened : goal.returns-clause-opened
returns-clause-opened c = λ server rules state now tuple user id wanted want offer mapped fit.
    let s = s_at now state in
    let expires_at = s.clock + seconds (granted_for wanted server.greatest_lifetime) in
    record {
      given = s_allocated (given_of (opened tuple user id expires_at want.family s offer) ∷ []) (granted_for wanted server.greatest_lifetime) [];
      answered = ap (λ (x : Step). x.output) (one_granted server rules s tuple user id wanted want offer fit);
      heard = refl;
    }

pub returns-clause-refreshed : goal.returns-clause-refreshed
returns-clause-refreshed c = λ server rules state now tuple user id wanted want mapped own. record {
  given = s_refreshed (refreshed_for wanted server.greatest_lifetime);
  answered = (refresh_granted server rules (s_at now state) tuple user None wanted own tt).output;
  heard = refl;
}

pub returns-clause-permitted : goal.returns-clause-permitted
returns-clause-permitted c = λ server rules state now tuple user id wanted want peer mapped others can.
    record { given = s_done; answered = (permit_granted server rules (s_at now state) tuple user (peer ∷ others) can).output; heard = refl }

pub returns-clause-bound : goal.returns-clause-bound
returns-clause-bound c = λ server rules state now tuple user id number wanted want peer mapped can.
    record { given = s_done; answered = (bind_granted server rules (s_at now state) tuple user number peer can).output; heard = refl }
