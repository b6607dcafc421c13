use Rattle.std.proofs.Common.{◌∙◌, sym}
use Rattle.turn_client.specs.Clients.{kept_of}
use Rattle.turn_client.specs.Receiving.{has_list}
use Rattle.turn_client.proofs.ListsLemmas.{any_mapped}
use Rattle.turn_client.proofs.logins.had_algorithms.Goals as goal

pub returns : goal.returns
returns c = c.any_has_list.ensures ∙ sym (any_mapped has_list kept_of c.args.logins.now)
