use Rattle.std.proofs.Common.{sym, ◌∙◌}
use Rattle.stun_grammar.specs.Adding.{numbers}
use Rattle.stun_types.proofs.WrittenTypesLemmas.{none_ends}
use Rattle.stun_types.proofs.writing.types.WrittenTypes.first_of.Goals as goal

pub returns-then-all_end : goal.returns-then-all_end
returns-then-all_end c = rw (← c.self.view_is) (sym (none_ends c.args.asked.now (numbers c.self.inside.types.items) (sym c.self.invariant ∙ c.if-not-self.true) (sym c.all_end.ensures ∙ c.if-all_end.true)))
