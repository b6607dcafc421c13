use Rattle.std.proofs.Common.{◌≡◌, ◌*◌, ◌++◌, take, drop}
use Rattle.std.specs.List.{flat_map}
use Rattle.stun_grammar.specs.Numbers.{be16}
use Rattle.stun_types_c.proofs.new_values.write_numbers.Given as goal

abbrev pub invariant-loop-i : goal.invariant-loop-i
invariant-loop-i l = l.dest ≡ flat_map be16 (take l.i l.numbers) ++ drop (2 * l.i) l.initial.dest
