-- What a run that replies to a datagram has read and written, by how it ends. `left` is
-- what the reader has left and `held` what the writer holds, before the run and (with a prime) after
-- it, if those bytes are known.
use Rattle.std.specs.Prelude.{◌≡◌, ℕ, List, Option, None, Some, Result, Ok, Err}
use Rattle.std.specs.Io.KnownBytes.{Keeps, Appends}
use Rattle.std.specs.declared.net.socket_addr.SocketAddr.{SocketAddr}
use Rattle.stun_grammar.specs.Writing.{greatest_length}
use Rattle.stun_programs.specs.InputOutput.{ReadsAll, ReadsTooMuch, WritesPart}
use Rattle.stun_programs.specs.declared.run_error.RunError.{RunError}
use Rattle.stun_programs.specs.declared.run_error.RunError.TheVariants.{TooLong, ReadFailed, WriteFailed, NoMemory}
use Rattle.stun_server.specs.Reply.{reply}
use Rattle.stun.specs.declared.end.RunEnd.{RunEnd}
use Rattle.stun.specs.declared.end.RunEnd.TheVariants.{Replied, NoReply}

-- the whole input is a datagram from an address, to which this is the reply
pub record Answers (source : SocketAddr) (left left' : Option (List ℕ))
    (answer : Option (List ℕ)) : Type 0 where
  pub input : List ℕ
  pub all : ReadsAll greatest_length left left' input
  pub reply_is : reply source input ≡ answer

-- all was read, and the reply to it was written, and nothing else
pub record WritesReply (source : SocketAddr)
    (left left' held held' : Option (List ℕ)) : Type 0 where
  pub text : List ℕ
  pub answers : Answers source left left' (Some text)
  pub written : Appends held held' text

-- all was read, and a prefix of the reply to it was written, but not all of it
pub record WritesPartOfReply (source : SocketAddr)
    (left left' held held' : Option (List ℕ)) : Type 0 where
  pub text : List ℕ
  pub answers : Answers source left left' (Some text)
  pub written : WritesPart held held' text

-- what a run has read and written, by its end
abbrev pub EndsReplying : SocketAddr → Result RunEnd RunError
    → (left left' held held' : Option (List ℕ)) → Type 0
EndsReplying source (Ok Replied) left left' held held' = WritesReply source left left' held held'
EndsReplying source (Ok NoReply) left left' held held' =
    Answers source left left' None × Keeps held held'
EndsReplying source (Err WriteFailed) left left' held held' =
    WritesPartOfReply source left left' held held'
EndsReplying source (Err TooLong) left left' held held' =
    ReadsTooMuch greatest_length left left' × Keeps held held'
EndsReplying source (Err ReadFailed) left left' held held' = Keeps held held'
EndsReplying source (Err NoMemory) left left' held held' = Keeps held held'
EndsReplying source _ left left' held held' = ⊥
