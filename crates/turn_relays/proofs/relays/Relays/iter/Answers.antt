use Rattle.turn_relays.specs.Relayed.{number_of}
use Rattle.turn_relays.specs.Shown.{relayed_of}
use Rattle.turn_relays.proofs.IteratingLemmas.{shown_permutes}
use Rattle.turn_relays.proofs.relays.Relays.iter.Goals as goal

pub returns-clause-all : goal.returns-clause-all
returns-clause-all g c = shown_permutes number_of relayed_of c.args.self.now.slots
