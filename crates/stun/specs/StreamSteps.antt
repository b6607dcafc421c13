-- The steps of a run over a stream.
use Rattle.std.specs.Prelude.{◌≡◌, ℕ, ◌<◌, ◌≤◌, List, ◌++◌, length, take, ◌==◌, if◌then◌else◌, Option, Result, Ok, Err}
use Rattle.std.specs.Io.KnownBytes.{Keeps, Appends, Consumes, IsAtEnd}
use Rattle.std.specs.declared.net.socket_addr.SocketAddr.{SocketAddr}
use Rattle.stun_framing.specs.Streams.{Stream, answer, left}
use Rattle.stun_framing.specs.Runs.{message_in, HasCome}
use Rattle.stun_programs.specs.InputOutput.{WritesPart}
use Rattle.stun_programs.specs.declared.run_error.RunError.{RunError}
use Rattle.stun_programs.specs.declared.run_error.RunError.TheVariants.{WriteFailed, NoMemory}
use Rattle.stun.specs.declared.end.StunError.{StunError}
use Rattle.stun.specs.declared.end.StunError.TheVariants.{Cut, NoMessage, Run}
use Rattle.stun.specs.declared.end.RunEnd.{RunEnd}
use Rattle.stun.specs.declared.end.RunEnd.TheVariants.{Complete}
use Rattle.stun.specs.StreamRun.{room, answers_to}

-- what a read gave: bytes, and none only at the end
pub record Gives (left left' : Option (List ℕ)) (count : ℕ) (piece : List ℕ) : Type 0 where
  pub within : count ≤ length piece
  pub read : Consumes left left' (take count piece)
  pub ended : count ≡ 0 → IsAtEnd left'

-- how a run ends if the input does
abbrev pub end_of : Stream → Result RunEnd StunError
end_of stream =
    if length stream.pending == 0 then Ok Complete else Err (Cut stream.offset)

-- why bytes were not written: an allocation failed before, or a write
abbrev pub Fails : RunError → (held held' : Option (List ℕ)) → (bytes : List ℕ) → Type 0
Fails NoMemory held held' bytes = Keeps held held'
Fails WriteFailed held held' bytes = WritesPart held held' bytes
Fails _ held held' bytes = ⊥

-- a call took bytes of a piece, and the message that they complete is answered
pub record Takes (source : SocketAddr) (old new : Stream) (piece : List ℕ) (taken : ℕ)
    (held held' : Option (List ℕ)) : Type 0 where
  pub answer_is : answer old piece ≡ Ok taken
  pub left_is : new ≡ left old piece
  pub within : taken ≤ length piece
  pub some : 0 < length piece → 0 < taken
  pub written : Appends held held' (answers_to source (message_in new.message))

-- a call took bytes of a piece, and the message that they complete is not answered to its end
pub record TakesInVain (source : SocketAddr) (old : Stream) (piece : List ℕ) (error : RunError)
    (held held' : Option (List ℕ)) : Type 0 where
  pub taken : ℕ
  pub answer_is : answer old piece ≡ Ok taken
  pub failed : Fails error held held' (answers_to source (message_in (left old piece).message))

-- why a call did not take a piece: it was refused, or the message that it completes is not answered
abbrev pub Stops : SocketAddr → Stream → (piece : List ℕ) → StunError
    → (held held' : Option (List ℕ)) → Type 0
Stops source old piece (NoMessage error) held held' =
    (answer old piece ≡ Err error) × Keeps held held'
Stops source old piece (Run error) held held' = TakesInVain source old piece error held held'
Stops source old piece _ held held' = ⊥

-- so much of a stream was read and answered: of what was read these bytes are not yet passed on
pub record Serving (source : SocketAddr) (left left' held held' : Option (List ℕ))
    (stream : Stream) (behind : List ℕ) : Type 0 where
  pub bytes : List ℕ
  pub messages : List (List ℕ)
  pub read : Consumes left left' (bytes ++ behind)
  pub come : HasCome room bytes messages stream
  pub written : Appends held held' (answers_to source messages)
