-- What is read from an input and written to an output. `left` is what the reader has left, and
-- `held` what the writer holds, before the call and (with a prime) after it, if those bytes are
-- known.
use Rattle.std.specs.Prelude.{ℕ, ◌<◌, ◌≤◌, List, length, take, Option, ⊤}
use Rattle.std.specs.Io.KnownBytes.{Appends, Consumes, IsAtEnd}
use Rattle.stun_programs.specs.declared.input_output.InputError.{InputError}
use Rattle.stun_programs.specs.declared.input_output.InputError.TheVariants.{TooLong, ReadFailed, NoMemory}

-- the input is all that was left, and no longer than may be read
pub record ReadsAll (most : ℕ) (left left' : Option (List ℕ)) (input : List ℕ) : Type 0 where
  pub read : Consumes left left' input
  pub ended : IsAtEnd left'
  pub fits : length input ≤ most

-- more was left than may be read
pub record ReadsTooMuch (most : ℕ) (left left' : Option (List ℕ)) : Type 0 where
  pub input : List ℕ
  pub read : Consumes left left' input
  pub long : most < length input

-- what was read, by the error that stopped the reading
abbrev pub StopsReading : ℕ → InputError → (left left' : Option (List ℕ)) → Type 0
StopsReading most TooLong left left' = ReadsTooMuch most left left'
StopsReading most ReadFailed left left' = ⊤
StopsReading most NoMemory left left' = ⊤

-- a prefix of the bytes was written, but not all of them
pub record WritesPart (held held' : Option (List ℕ)) (bytes : List ℕ) : Type 0 where
  pub count : ℕ
  pub part : count < length bytes
  pub written : Appends held held' (take count bytes)
