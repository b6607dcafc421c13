use Rattle.std.proofs.Common.{◌∙◌, sym, ap}
use Rattle.std.specs.Prelude.{not}
use Rattle.turn_client.specs.Clients.{kept_of, has_number}
use Rattle.turn_client.proofs.ListsLemmas.{any_mapped}
use Rattle.turn_client.proofs.logins.is_free.Goals as goal

pub returns : goal.returns
returns c = ap not (c.any_is_of.ensures ∙ sym (any_mapped (has_number c.args.number) kept_of c.args.logins.now))
