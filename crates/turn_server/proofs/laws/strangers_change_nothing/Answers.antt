use Rattle.turn_server.specs.Judging.{judge}
use Rattle.turn_server.proofs.StrangersLemmas.{unchanged_by, nothing_goes}
use Rattle.turn_server.proofs.laws.strangers_change_nothing.Goals as goal

pub returns-clause-unchanged : goal.returns-clause-unchanged
returns-clause-unchanged c = λ site setup rules tuple numbers h now d. unchanged_by c.strangers_get_little.ensures.unchanged setup rules tuple numbers h now (judge setup.last_channel setup.supports_dont_fragment site d)

pub returns-clause-quiet : goal.returns-clause-quiet
returns-clause-quiet c = λ site setup rules tuple numbers h now d number peer dont_fragment bytes free. nothing_goes c.strangers_get_little.ensures.quiet setup rules tuple numbers h now number peer dont_fragment bytes free (judge setup.last_channel setup.supports_dont_fragment site d)
