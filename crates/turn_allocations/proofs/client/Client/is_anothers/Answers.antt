use Rattle.turn_allocations.proofs.ClientLemmas.{anothers_own}
use Rattle.turn_allocations.proofs.client.Client.is_anothers.Goals as goal

pub returns : goal.returns
returns c = λ t tuple owns. rw (c.is_anothers.ensures, c.is_anothers-2.ensures) (anothers_own t tuple c.args.self.now owns _)
