use Rattle.turn_machine.specs.Reserving.{inner_run}
use Rattle.turn_server.specs.Datagrams.{events_in}
use Rattle.turn_server.proofs.laws.clients_do_not_meet.Goals as goal

pub returns : goal.returns
returns c = λ setup tuple one other same. c.clients_are_apart.ensures.alike setup tuple (inner_run setup (events_in setup one)) (inner_run setup (events_in setup other)) same
