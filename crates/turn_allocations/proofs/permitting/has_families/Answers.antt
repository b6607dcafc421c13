use Rattle.std.proofs.Common.{rules, tests}
use Rattle.std.proofs.lemmas.Iterator.{YieldsList-from_slice}
use Rattle.std.proofs.lemmas.Iterator.Search.{all_from_yields_List}
use Rattle.turn_machine.specs.Opening.{has_of}
use Rattle.turn_relays.specs.Relayed.{state_of}
use Rattle.turn_allocations.proofs.permitting.has_families.Goals as goal

pub returns : goal.returns
returns c = λ t tuple owns.
    all_from_yields_List (λ peer. has_of tuple peer.ip.family (state_of t)) _ _ _ c.all.ensures.ran (YieldsList-from_slice c.args.peers.now cc) (λ x b q k. search (rules, tests, owns))
