use Rattle.std.proofs.Common.{ℕ, ◌∙◌, ap, sym, ne_eqb, find}
use Rattle.turn_machine.specs.Relays.{is_for}
use Rattle.turn_machine.specs.Opening.{has_of}
use Rattle.turn_relays.specs.Relayed.{state_of}
use Rattle.turn_allocations.proofs.ClientLemmas.{find_first, find_second, find_third, has_first, has_second, has_third, none_for}
use Rattle.turn_allocations.proofs.client.Client.of_family.Goals as goal

pub returns-then-family-eq1-clause-relay : goal.returns-then-family-eq1-clause-relay
returns-then-family-eq1-clause-relay c = λ t tuple owns.
    sym (ap (λ (f : ℕ). find (is_for tuple f) (state_of t).relays) c.if-family-eq1.true ∙ find_first t tuple c.args.self.now owns)

pub returns-then-family-eq1-clause-some : goal.returns-then-family-eq1-clause-some
returns-then-family-eq1-clause-some c = λ t tuple owns.
    sym (ap (λ (f : ℕ). has_of tuple f (state_of t)) c.if-family-eq1.true ∙ has_first t tuple c.args.self.now owns)

pub returns-then-family-eq2-clause-relay : goal.returns-then-family-eq2-clause-relay
returns-then-family-eq2-clause-relay c = λ t tuple owns.
    sym (ap (λ (f : ℕ). find (is_for tuple f) (state_of t).relays) c.if-family-eq2.true ∙ find_second t tuple c.args.self.now owns)

pub returns-then-family-eq2-clause-some : goal.returns-then-family-eq2-clause-some
returns-then-family-eq2-clause-some c = λ t tuple owns.
    sym (ap (λ (f : ℕ). has_of tuple f (state_of t)) c.if-family-eq2.true ∙ has_second t tuple c.args.self.now owns)

pub returns-clause-found : goal.returns-clause-found
returns-clause-found c = λ t tuple owns. none_for c.lists_have_slots.ensures t tuple c.args.family
    (has_third t tuple c.args.self.now owns c.args.family (ne_eqb c.args.family 1 c.if-family-eq1.false) (ne_eqb c.args.family 2 c.if-family-eq2.false))

pub returns-clause-relay : goal.returns-clause-relay
returns-clause-relay c = λ t tuple owns.
    sym (find_third t tuple c.args.self.now owns c.args.family (ne_eqb c.args.family 1 c.if-family-eq1.false) (ne_eqb c.args.family 2 c.if-family-eq2.false))

pub returns-clause-some : goal.returns-clause-some
returns-clause-some c = λ t tuple owns.
    sym (has_third t tuple c.args.self.now owns c.args.family (ne_eqb c.args.family 1 c.if-family-eq1.false) (ne_eqb c.args.family 2 c.if-family-eq2.false))
