use Rattle.std.proofs.Common.{◌∙◌, sym, refl}
use Rattle.stun_types.specs.Listing.{listed_types}
use Rattle.stun_types.proofs.ListedLemmas.{none_listed, none_ending}
use Rattle.stun_types.proofs.writing.listed.Listed.first_of.Goals as goal

pub returns-then-self-eq0 : goal.returns-then-self-eq0
returns-then-self-eq0 c = sym (none_listed c.args.self c.args.message.now c.args.asked.now c.if-self-eq0.true)

pub returns-then-all_end : goal.returns-then-all_end
returns-then-all_end c = sym (none_ending c.args.self c.args.message.now c.args.asked.now c.if-not-self.true (sym c.all_end.ensures ∙ c.if-all_end.true))

pub returns : goal.returns
unfolding listed_types
returns c = c.find_listed.ensures ∙ rw c.within.ensures refl
