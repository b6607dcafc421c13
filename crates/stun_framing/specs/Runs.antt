-- Pieces of a stream, one after another: what they yield, and where it stops.
use Rattle.std.specs.Prelude.{◌≡◌, ℕ, ◌⊎◌, false, List, [], ◌∷◌, ◌++◌, length, drop, Option, None, Some, IsSome, option_map, Result, Ok, Err}
use Rattle.std.specs.List.{concat}
use Rattle.stun_framing.specs.declared.error.StreamError.{StreamError}
use Rattle.stun_framing.specs.Framing.{Room, IsCut, stream_fault}
use Rattle.stun_framing.specs.Streams.{Stream, is_whole, offset_of, answer, left}

-- how many bytes of a piece are taken
abbrev pub taken_of : Result ℕ StreamError → ℕ
taken_of (Ok taken) = taken
taken_of (Err error) = 0

-- what is to come of a stream, once what a call takes is gone
abbrev pub untaken : Stream → (piece coming : List ℕ) → List ℕ
untaken stream piece coming = drop (taken_of (answer stream piece)) coming

-- the pieces are passed from a stream: each begins with the first byte that no call has taken,
-- and ends anywhere
abbrev pub IsHandedOver : Stream → (coming : List ℕ) → (pieces : List (List ℕ)) → Type 0
IsHandedOver stream coming [] = Unit {0}
IsHandedOver stream coming (piece ∷ pieces) =
    ((behind : List ℕ) × (coming ≡ piece ++ behind))
    × IsHandedOver (left stream piece) (untaken stream piece coming) pieces

-- the stream that pieces leave
abbrev pub left_by : Stream → (pieces : List (List ℕ)) → Stream
left_by stream [] = stream
left_by stream (piece ∷ pieces) = left_by (left stream piece) pieces

-- what no call has taken
abbrev pub left_over : Stream → (coming : List ℕ) → (pieces : List (List ℕ)) → List ℕ
left_over stream coming [] = coming
left_over stream coming (piece ∷ pieces) =
    left_over (left stream piece) (untaken stream piece coming) pieces

-- the messages that pieces yield
abbrev pub message_in : Option (List ℕ) → List (List ℕ)
message_in None = []
message_in (Some message) = message ∷ []

abbrev pub yielded : Stream → (pieces : List (List ℕ)) → List (List ℕ)
yielded stream [] = []
yielded stream (piece ∷ pieces) =
    message_in (left stream piece).message ++ yielded (left stream piece) pieces

-- nothing more comes of a stream: all of it is taken, or it has ended
abbrev pub IsDone : Stream → (coming : List ℕ) → (pieces : List (List ℕ)) → Type 0
IsDone stream coming pieces =
    (left_over stream coming pieces ≡ []) ⊎ IsSome (left_by stream pieces).error

-- ---- What the bytes of a stream say

-- how a stream ends after these messages, by what follows them
abbrev pub ending : (room : Room) → (messages : List (List ℕ)) → (rest : List ℕ) → Option StreamError
ending room messages rest = option_map
    (λ fault. record { offset = offset_of (length (concat messages)); fault = fault })
    (stream_fault room rest)

-- the bytes of a stream are these messages and a rest, by which it ends so or goes on
pub record Says (room : Room) (bytes : List ℕ) (messages : List (List ℕ)) (error : Option StreamError)
    : Type 0 where
  pub rest : List ℕ
  pub cut : IsCut room bytes messages rest
  pub error_is : error ≡ ending room messages rest

-- so much of a stream has come: these messages, and then the pending bytes of one that isn't whole
pub record HasCome (room : Room) (bytes : List ℕ) (messages : List (List ℕ)) (stream : Stream)
    : Type 0 where
  pub cut : IsCut room bytes messages stream.pending
  pub room_is : stream.room ≡ room
  pub offset_is : stream.offset ≡ offset_of (length (concat messages))
  pub running : stream.error ≡ None
  pub sound : stream_fault room stream.pending ≡ None
  pub part : is_whole stream.pending ≡ false
