use Rattle.user_examples.proofs.MyValueLemmas.{read_back}
use Rattle.user_examples.proofs.my_attribute.my_attribute_is_read_back.Goals as goal

pub returns : goal.returns
returns c = read_back
