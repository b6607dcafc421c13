use Rattle.std.proofs.Common.{◌∙◌, ap, Bool, not}
use Rattle.std.specs.Prelude.{◌||◌, is_some}
use Rattle.turn_allocations.proofs.ClientLemmas.{none_own}
use Rattle.turn_allocations.proofs.client.Client.is_none.Goals as goal

pub returns : goal.returns
returns c = λ t tuple owns.
    ap (λ (b : Bool). not (b || c.is_some-2.result)) c.is_some.ensures
    ∙ (ap (λ (b : Bool). not (is_some c.args.self.now.ipv4 || b)) c.is_some-2.ensures
    ∙ none_own t tuple c.args.self.now owns)
