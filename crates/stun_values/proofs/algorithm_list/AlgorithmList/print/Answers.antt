use Rattle.stun_values.specs.Algorithms.{algorithms_in}
use Rattle.stun_values.specs.TypedValues.{list_bytes}
use Rattle.stun_values.proofs.algorithm_list.AlgorithmList.print.Goals as goal

pub returns : goal.returns
returns g c = c.print_algorithms_in.ensures (algorithms_in (list_bytes c.args.self.now)) c.args.self.now.whole
