-- What a run that asks has written, by how it ends. `held` is what the writer holds, before the run
-- and (with a prime) after it, if those bytes are known.
use Rattle.std.specs.Prelude.{ℕ, List, Option, Result, Ok, Err}
use Rattle.std.specs.Io.KnownBytes.{Keeps, Appends}
use Rattle.stun_programs.specs.InputOutput.{WritesPart}
use Rattle.stun_programs.specs.declared.run_error.RunError.{RunError}
use Rattle.stun_programs.specs.declared.run_error.RunError.TheVariants.{WriteFailed, NoMemory}
use Rattle.stun.specs.declared.query.Query.{Query}
use Rattle.stun.specs.declared.end.RunEnd.{RunEnd}
use Rattle.stun.specs.declared.end.RunEnd.TheVariants.{Asked}
use Rattle.stun.specs.Binding.{request}

-- the request is written, or a prefix of it
abbrev pub EndsAsking : Query → Result RunEnd RunError → (held held' : Option (List ℕ)) → Type 0
EndsAsking query (Ok Asked) held held' = Appends held held' (request query)
EndsAsking query (Err WriteFailed) held held' = WritesPart held held' (request query)
EndsAsking query (Err NoMemory) held held' = Keeps held held'
EndsAsking query _ held held' = ⊥
