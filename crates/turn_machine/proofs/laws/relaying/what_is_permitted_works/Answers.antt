use Rattle.turn_machine.proofs.DueLemmas.{comes_back}
use Rattle.turn_machine.proofs.DueLemmas.{goes_on_channel}
use Rattle.turn_machine.proofs.DueLemmas.{goes_out}
use Rattle.turn_machine.proofs.DueLemmas.{news_comes}
use Rattle.turn_machine.proofs.laws.relaying.what_is_permitted_works.Goals as goal

pub returns-clause-out : goal.returns-clause-out
returns-clause-out c = goes_out

pub returns-clause-on_channel : goal.returns-clause-on_channel
returns-clause-on_channel c = goes_on_channel

pub returns-clause-back : goal.returns-clause-back
returns-clause-back c = comes_back

pub returns-clause-news : goal.returns-clause-news
returns-clause-news c = news_comes
