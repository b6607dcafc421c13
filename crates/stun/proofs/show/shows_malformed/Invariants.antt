use Rattle.std.proofs.Common.{◌≡◌, map}
use Rattle.std.specs.List.{list_any}
use Rattle.stun_types.specs.Iterating.{item_view}
use Rattle.stun.specs.Values.{is_malformed}
use Rattle.stun.proofs.show.shows_malformed.Given as goal

-- whether one of the attributes so far is malformed
abbrev pub invariant-loop-offset : goal.invariant-loop-offset
invariant-loop-offset l = l.found ≡ list_any is_malformed (map (λ item. (item_view item).0) l.yielded)
