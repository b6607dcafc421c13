use Rattle.std.proofs.Common.{ap}
use Rattle.std.proofs.lemmas.Result.{on_err_weaker}
use Rattle.std.specs.Option.{option_map}
use Rattle.stun_types.proofs.show.registry.Registry.add_display_impl.Goals as goal

pub returns-clause-first : goal.returns-clause-first
returns-clause-first g c =
    rw (← c.value.ensures) (on_err_weaker c.set.result (λ none. ap (λ found. option_map (λ printer. printer.imp) found) none) c.set.ensures.first)
