-- What a run has read and written, by how it ends. `left` is what the reader has left and `held`
-- what the writer holds, before the run and (with a prime) after it, if those bytes are known.
use Rattle.std.specs.Prelude.{◌≡◌, ℕ, List, Option, Result, Ok, Err}
use Rattle.std.specs.Io.KnownBytes.{Keeps, Appends}
use Rattle.stun_programs.specs.InputOutput.{ReadsAll, ReadsTooMuch, WritesPart}
use Rattle.stun_programs.specs.declared.run_error.RunError.{RunError}
use Rattle.stun_programs.specs.declared.run_error.RunError.TheVariants.{Usage, TooLong, ReadFailed, WriteFailed, NoMemory}
use Rattle.stun_show.specs.declared.report.RunEnd.{RunEnd}
use Rattle.stun_show.specs.Report.{report, end_of}

-- the most bytes that are read
abbrev pub longest_input : ℕ
longest_input = 131072

-- all was read, and its report was written, and nothing else
pub record Reports (password : Option (List ℕ)) (end : RunEnd)
    (left left' held held' : Option (List ℕ)) : Type 0 where
  pub input : List ℕ
  pub all : ReadsAll longest_input left left' input
  pub written : Appends held held' (report input password)
  pub end_is : end ≡ end_of input password

-- all was read, and a prefix of its report was written, but not all of it
pub record ReportsPart (password : Option (List ℕ))
    (left left' held held' : Option (List ℕ)) : Type 0 where
  pub input : List ℕ
  pub all : ReadsAll longest_input left left' input
  pub written : WritesPart held held' (report input password)

-- what a run has read and written, by its end
abbrev pub Ends : Option (List ℕ) → Result RunEnd RunError
    → (left left' held held' : Option (List ℕ)) → Type 0
Ends password (Ok end) left left' held held' = Reports password end left left' held held'
Ends password (Err WriteFailed) left left' held held' =
    ReportsPart password left left' held held'
Ends password (Err TooLong) left left' held held' =
    ReadsTooMuch longest_input left left' × Keeps held held'
Ends password (Err ReadFailed) left left' held held' = Keeps held held'
Ends password (Err NoMemory) left left' held held' = Keeps held held'
Ends password (Err Usage) left left' held held' = ⊥
