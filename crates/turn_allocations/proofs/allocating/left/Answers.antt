use Rattle.std.proofs.Common.{ℕ, ◌-◌, ◌/◌, ◌∙◌, ap, sym, min}
use Rattle.turn_allocations.proofs.AllocatingLemmas.{left_is}
use Rattle.turn_allocations.proofs.allocating.left.Goals as goal

pub returns-in-Some : goal.returns-in-Some
returns-in-Some g c tuple owns =
    c.min.ensures
    ∙ (ap (λ (n : ℕ). min (n / 1_000_000_000) 4_294_967_295) (c.saturating_sub.ensures ∙ ap (λ (clock : ℕ). c.in-Some.end - clock) c.clock.ensures.clock)
    ∙ left_is tuple c.args.relays.now c.in-Some.end c.requires (sym (c.in-Some.ensures c.args.relays.now tuple owns)))
