use Rattle.std.proofs.Common.{◌≡◌, true, length, take, map}
use Rattle.std.specs.List.{list_all}
use Rattle.stun_types_c.specs.PasswordAlgorithms.{names_password_algorithm, password_algorithm_named}
use Rattle.stun_types_c.proofs.password_algorithms.algorithms_of.Given as goal

abbrev pub invariant-loop-i : goal.invariant-loop-i
invariant-loop-i l =
    (length l.all ≡ 16)
    × (take l.i l.all ≡ map password_algorithm_named (take l.i l.numbers))
    × (list_all names_password_algorithm (take l.i l.numbers) ≡ true)
