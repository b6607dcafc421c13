use Rattle.turn_allocations.proofs.ClientLemmas.{opened_own}
use Rattle.turn_allocations.proofs.client.Client.is_opened_by.Goals as goal

pub returns : goal.returns
returns c = λ t tuple owns. rw (c.is_opened_by.ensures, c.is_opened_by-2.ensures) (opened_own t tuple c.args.self.now owns _ c.args.id)
