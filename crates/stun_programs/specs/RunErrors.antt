-- How a run of a program fails, and how the program says so.
use Rattle.std.specs.Prelude.{ℕ, List, [], ◌∷◌, ◌++◌, codes}
use Rattle.stun_programs.specs.declared.input_output.InputError.{InputError}
use Rattle.stun_programs.specs.declared.input_output.InputError.TheVariants as Input
use Rattle.stun_programs.specs.declared.run_error.RunError.{RunError}
use Rattle.stun_programs.specs.declared.run_error.RunError.TheVariants.{Usage, TooLong, ReadFailed, WriteFailed, NoMemory}

-- how a run fails when reading does
abbrev pub run_error_of : InputError → RunError
run_error_of Input.TooLong = TooLong
run_error_of Input.ReadFailed = ReadFailed
run_error_of Input.NoMemory = NoMemory

-- the line that is printed last: none after a failed write
abbrev pub line_of : RunError → (usage : List ℕ) → List ℕ
line_of Usage usage = usage
line_of TooLong usage = codes "input too long" ++ 10 ∷ []
line_of ReadFailed usage = codes "read failed" ++ 10 ∷ []
line_of WriteFailed usage = []
line_of NoMemory usage = codes "out of memory" ++ 10 ∷ []
