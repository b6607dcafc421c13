use Rattle.std.proofs.Common.{◌≡◌, true, take, map}
use Rattle.std.specs.Prelude.{Some}
use Rattle.stun_types_c.specs.Addresses.{socket_named}
use Rattle.stun_types_c.specs.TurnMaking.{all_named}
use Rattle.stun_types_c.proofs.turn_settings.addresses_of.Given as goal

-- those before are named
abbrev pub invariant-loop-i : goal.invariant-loop-i
invariant-loop-i l =
    (map socket_named (take l.i l.named) ≡ map Some l.addresses.items)
    × (all_named socket_named (take l.i l.named) ≡ true)
