use Rattle.std.proofs.Common.{◌≡◌, ℕ, Option, IfSome, true, ◌==◌, ◌||◌, sym, subst}
use Rattle.turn_machine.specs.Relays.{is_live, is_of}
use Rattle.turn_allocations.proofs.RelayingLemmas.{family_is}
use Rattle.turn_allocations.proofs.allocations.Allocations.family_of.Goals as goal

pub returns-clause-family : goal.returns-clause-family
returns-clause-family g c =
    let t = c.self.inside.relays in
    subst (λ (o : Option ℕ). IfSome o (λ f. ((f == 1) || (f == 2)) ≡ true)) (sym (c.newest_family.ensures t c.args.tuple.now c.client_of.ensures))
    (family_is t (is_live c.max-now.result) (is_of c.args.tuple.now) c.self.invariant.sound)
