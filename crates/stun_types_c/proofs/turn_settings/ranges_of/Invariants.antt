use Rattle.std.proofs.Common.{◌≡◌, true, take, map}
use Rattle.std.specs.Prelude.{Some}
use Rattle.stun_types_c.specs.TurnMaking.{range_named, all_named}
use Rattle.stun_types_c.proofs.turn_settings.ranges_of.Given as goal

-- those before are named
abbrev pub invariant-loop-i : goal.invariant-loop-i
invariant-loop-i l =
    (map range_named (take l.i l.named) ≡ map Some l.ranges.items)
    × (all_named range_named (take l.i l.named) ≡ true)
