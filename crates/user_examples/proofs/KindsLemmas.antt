-- A flag and its number.
use Rattle.std.proofs.Common.{◌≡◌, ◌<◌, ◌^◌, Bool, true, false, Some, refl, arith}
use Rattle.user_examples.specs.Kinds.{flag_number, flag_of}

pub flag_held : (flag : Bool) → flag_of (flag_number flag) ≡ Some flag
flag_held true = refl
flag_held false = refl

pub flag_fits : (flag : Bool) → flag_number flag < 2 ^ 8
flag_fits true = omega arith
flag_fits false = omega arith
