-- A stream of which so much has come, and what a further piece leads to.
use Rattle.std.specs.Prelude.{◌≡◌, ℕ, ◌+◌, ◌-◌, ◌^◌, min, Bool, not, ◌&&◌, List, [], ◌++◌, length, take, nat_le, if◌then◌else◌, Option, None, Some, is_some, IfSome, option_map, Result, Ok, Err}
use Rattle.std.specs.Option.{option_or}
use Rattle.std.specs.Result.{result_map_both}
use Rattle.stun_framing.specs.declared.error.StreamError.{StreamError}
use Rattle.stun_framing.specs.declared.stored_stream.Pushed.{Pushed}
use Rattle.stun_framing.specs.declared.stream_kind.StreamKind.{StreamKind}
use Rattle.stun_framing.specs.Framing.{Room, room_of, stated_length, stream_fault}
use Rattle.stun_framing.specs.Gathering.{wanted_for}

-- what it carries and how many bytes the buffer takes, the offset in the stream of the pending bytes, which are those of a
-- message that isn't complete, the message that the last piece completed, and how the stream ended
pub record Stream : Type 0 where
  pub room : Room
  pub offset : ℕ
  pub pending : List ℕ
  pub message : Option (List ℕ)
  pub error : Option StreamError

-- a stream of which nothing has come
abbrev pub begun : (room : Room) → Stream
begun room = record { room = room; offset = 0; pending = []; message = None; error = None }

-- a stream that resumes these bytes of a message pending, at an offset
abbrev pub resumed : (room : Room) → (offset : ℕ) → (pending : List ℕ) → Stream
resumed room offset pending =
    record { room = room; offset = offset; pending = pending; message = None; error = None }

-- ---- One piece

-- the bytes of a message so far, once a piece has come
abbrev pub joined : Stream → List ℕ → List ℕ
joined stream piece = stream.pending ++ piece

-- b begins with a whole message, if with any
abbrev pub is_whole : List ℕ → Bool
is_whole b = nat_le 4 (length b) && nat_le (stated_length b) (length b)

-- the first bytes of a buffer, so many, can be pending: the buffer takes a header, and they are the
-- beginning of a message that it takes too, and not all of it
abbrev pub can_resume : StreamKind → (buffer : List ℕ) → (held : ℕ) → Bool
can_resume carries buffer held =
    nat_le 20 (length buffer) && nat_le held (length buffer)
    && not (is_some (stream_fault (room_of carries (length buffer)) (take held buffer)))
    && not (is_whole (take held buffer))

-- so many more bytes are read after them, which belong to the message, or to its first four bytes
abbrev pub can_receive : StreamKind → (buffer : List ℕ) → (held count : ℕ) → Bool
can_receive carries buffer held count =
    can_resume carries buffer held && nat_le count (wanted_for (take held buffer) - held)

-- the bytes of b that belong to the message with which it begins
abbrev pub of_first : List ℕ → List ℕ
of_first b = if is_whole b then take (stated_length b) b else b

-- an offset of a stream in 64 bits: the greatest one if it is beyond
abbrev pub offset_of : ℕ → ℕ
offset_of n = min n (2 ^ 64 - 1)

-- how the stream ends with a piece, if it does: as it has ended before, or by the bytes so far
abbrev pub refusal : Stream → List ℕ → Option StreamError
refusal stream piece = option_or stream.error
    (option_map (λ fault. record { offset = stream.offset; fault = fault })
    (stream_fault stream.room (joined stream piece)))

-- the answer to a piece: how many of its bytes are taken, or how the stream ended
abbrev pub answer_of : Option StreamError → (taken : ℕ) → Result ℕ StreamError
answer_of None taken = Ok taken
answer_of (Some error) taken = Err error

abbrev pub answer : Stream → List ℕ → Result ℕ StreamError
answer stream piece =
    answer_of (refusal stream piece)
    (length (of_first (joined stream piece)) - length stream.pending)

-- a stream with these bytes of a message: a whole one is no longer pending
abbrev pub with_bytes : Stream → List ℕ → Stream
with_bytes stream b =
    if is_whole b
    then record stream {
      offset = offset_of (stream.offset + stated_length b);
      pending = [];
      message = Some (of_first b);
    }
    else record stream { pending = b; message = None }

-- the stream that a piece leaves
abbrev pub left_of : Option StreamError → Stream → List ℕ → Stream
left_of None stream b = with_bytes stream b
left_of (Some error) stream b = record stream { message = None; error = Some error }

abbrev pub left : Stream → List ℕ → Stream
left stream piece = left_of (refusal stream piece) stream (joined stream piece)

-- ---- A stream of which the caller keeps the buffer

-- its bytes are at the start of the buffer: those that are pending, and the message that the last
-- piece completed
pub record StandsIn (stream : Stream) (buffer : List ℕ) : Type 0 where
  pub pending : take (length stream.pending) buffer ≡ stream.pending
  pub message : IfSome stream.message (λ message. take (length message) buffer ≡ message)

-- what is reported to the caller of a stream that took so many bytes of a piece
abbrev pub pushed_of : Stream → (taken : ℕ) → Pushed
pushed_of stream taken = record {
  taken = taken;
  offset = stream.offset;
  pending = length stream.pending;
  message = option_map length stream.message;
}

-- the answer to a piece: what is reported of the stream that it leaves, or how the stream ended
abbrev pub pushed : Stream → List ℕ → Result Pushed StreamError
pushed stream piece =
    result_map_both (pushed_of (left stream piece)) (λ error. error) (answer stream piece)
