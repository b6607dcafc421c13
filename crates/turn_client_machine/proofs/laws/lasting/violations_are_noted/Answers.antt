use Rattle.turn_client_machine.proofs.ViolatedLemmas.{reliable_ends, peer_lost, unreliable_notes, noted_ends}
use Rattle.turn_client_machine.proofs.laws.lasting.violations_are_noted.Goals as goal

pub returns-clause-reliable : goal.returns-clause-reliable
returns-clause-reliable c = reliable_ends

pub returns-clause-peer : goal.returns-clause-peer
returns-clause-peer c = peer_lost

pub returns-clause-unreliable : goal.returns-clause-unreliable
returns-clause-unreliable c = unreliable_notes

pub returns-clause-reported : goal.returns-clause-reported
returns-clause-reported c = noted_ends
