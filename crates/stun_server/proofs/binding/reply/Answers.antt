use Rattle.std.proofs.Common.{ℕ, List, Some, sym, ap, ◌∙◌}
use Rattle.stun_server.proofs.binding.reply.Goals as goal

pub returns-clause-made : goal.returns-clause-made
returns-clause-made c =
    c.in-Some.ensures.1 c.args.source ∙ ap (λ (t : List ℕ). Some t) (sym c.to.ensures.reply ∙ sym c.in_ok-to_vector.ensures.ok)
