use Rattle.std.proofs.Common.{sym}
use Rattle.turn_allocations.proofs.ClientLemmas.{first_own}
use Rattle.turn_allocations.proofs.client.Client.first_end.Goals as goal

pub returns : goal.returns
returns c = λ t tuple owns. rw (c.earlier.ensures, c.end_of.ensures, c.end_of-2.ensures) (sym (first_own t tuple c.args.self.now owns))
