-- What a run over a stream has read and written, by how it ends. `left` is what the reader has left and
-- `held` what the writer holds, before the run and (with a prime) after it, if those bytes are
-- known.
use Rattle.std.specs.Prelude.{◌≡◌, ℕ, ◌<◌, List, [], ◌++◌, length, Option, None, Some, unwrap_or, Result, Ok, Err}
use Rattle.std.specs.List.{All, concat, flat_map}
use Rattle.std.specs.Io.KnownBytes.{Appends, Consumes, IsAtEnd}
use Rattle.std.specs.declared.net.socket_addr.SocketAddr.{SocketAddr}
use Rattle.stun_framing.specs.declared.error.StreamError.{StreamError}
use Rattle.stun_framing.specs.declared.stream_kind.StreamKind.TheVariants.{Messages}
use Rattle.stun_framing.specs.Framing.{Room, room_of, IsMessage, IsCut}
use Rattle.stun_framing.specs.Streams.{offset_of}
use Rattle.stun_framing.specs.Runs.{ending}
use Rattle.stun_programs.specs.InputOutput.{WritesPart}
use Rattle.stun_server.specs.Reply.{reply}
use Rattle.stun_programs.specs.declared.run_error.RunError.TheVariants.{ReadFailed, WriteFailed, NoMemory}
use Rattle.stun.specs.declared.end.StunError.{StunError}
use Rattle.stun.specs.declared.end.StunError.TheVariants.{Cut, NoMessage, Run}
use Rattle.stun.specs.declared.end.RunEnd.{RunEnd}
use Rattle.stun.specs.declared.end.RunEnd.TheVariants.{Complete}

-- a stream carries STUN messages, and there is room for the greatest one
abbrev pub room : Room
room = room_of Messages 65552

-- the reply to a message, or nothing if there is none
abbrev pub answer_to : SocketAddr → List ℕ → List ℕ
answer_to source message = unwrap_or (reply source message) []

-- the replies to messages, in their order
abbrev pub answers_to : SocketAddr → (messages : List (List ℕ)) → List ℕ
answers_to source messages = flat_map (answer_to source) messages

-- what was read is these messages and a rest that none begins, by which the stream ends so or may go
-- on, and all of these are answered
pub record Serves (source : SocketAddr) (left left' held held' : Option (List ℕ))
    (messages : List (List ℕ)) (rest : List ℕ) (error : Option StreamError) : Type 0 where
  pub input : List ℕ
  pub read : Consumes left left' input
  pub cut : IsCut room input messages rest
  pub error_is : error ≡ ending room messages rest
  pub written : Appends held held' (answers_to source messages)

-- what was read begins with these messages
pub record ReadsFirst (left left' : Option (List ℕ)) (messages : List (List ℕ)) : Type 0 where
  pub input : List ℕ
  pub rest : List ℕ
  pub read : Consumes left left' input
  pub joined : input ≡ concat messages ++ rest
  pub each : All (IsMessage room) messages

-- the first messages are answered, and nothing else is written
abbrev pub AnswersFirst : SocketAddr → (left left' held held' : Option (List ℕ)) → Type 0
AnswersFirst source left left' held held' =
    (messages : List (List ℕ)) × ReadsFirst left left' messages
    × Appends held held' (answers_to source messages)

-- the same, but for the end of the answers
abbrev pub AnswersPart : SocketAddr → (left left' held held' : Option (List ℕ)) → Type 0
AnswersPart source left left' held held' =
    (messages : List (List ℕ)) × ReadsFirst left left' messages
    × WritesPart held held' (answers_to source messages)

-- the input ended within the message after these
pub record EndsWithin (source : SocketAddr) (offset : ℕ) (left left' held held' : Option (List ℕ))
    : Type 0 where
  pub messages : List (List ℕ)
  pub rest : List ℕ
  pub serves : Serves source left left' held held' messages rest None
  pub some : 0 < length rest
  pub offset_is : offset ≡ offset_of (length (concat messages))
  pub ended : IsAtEnd left'

-- what a run over a stream has read and written, by its end
abbrev pub EndsStream :
    SocketAddr → Result RunEnd StunError → (left left' held held' : Option (List ℕ)) → Type 0
EndsStream source (Ok Complete) left left' held held' =
    (messages : List (List ℕ)) × Serves source left left' held held' messages [] None
    × IsAtEnd left'
EndsStream source (Err (Cut offset)) left left' held held' =
    EndsWithin source offset left left' held held'
EndsStream source (Err (NoMessage error)) left left' held held' =
    (messages : List (List ℕ)) × (rest : List ℕ)
    × Serves source left left' held held' messages rest (Some error)
EndsStream source (Err (Run ReadFailed)) left left' held held' = AnswersFirst source left left' held held'
EndsStream source (Err (Run NoMemory)) left left' held held' = AnswersFirst source left left' held held'
EndsStream source (Err (Run WriteFailed)) left left' held held' = AnswersPart source left left' held held'
EndsStream source _ left left' held held' = ⊥
