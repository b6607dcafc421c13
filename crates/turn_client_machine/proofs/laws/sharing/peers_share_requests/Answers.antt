use Rattle.turn_client_machine.proofs.SharingLemmas.{run_names, run_same, all_granted, all_alone, none_along}
use Rattle.turn_client_machine.proofs.OneRequestLemmas.{run_one}
use Rattle.turn_client_machine.proofs.laws.sharing.peers_share_requests.Goals as goal

pub returns-clause-few : goal.returns-clause-few
returns-clause-few c = run_names

pub returns-clause-one : goal.returns-clause-one
returns-clause-one c = run_one

pub returns-clause-same : goal.returns-clause-same
returns-clause-same c = run_same

pub returns-clause-granted : goal.returns-clause-granted
returns-clause-granted c = all_granted

pub returns-clause-refused : goal.returns-clause-refused
returns-clause-refused c = all_alone

pub returns-clause-alone : goal.returns-clause-alone
returns-clause-alone c = none_along
