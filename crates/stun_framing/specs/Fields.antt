-- A stream as its fields have it: a buffer, what it keeps of a message, where in the stream what comes
-- next begins, and how the stream ended.
use Rattle.std.specs.Prelude.{ℕ, ◌+◌, ◌<◌, ◌≤◌, Bool, List, length, take, ◌==◌, if◌then◌else◌, Option, None, Some, IsSome}
use Rattle.stun_framing.specs.declared.error.StreamError.{StreamError}
use Rattle.stun_framing.specs.declared.stream_kind.StreamKind.{StreamKind}
use Rattle.stun_framing.specs.declared.gather.Gathered.{Gathered}
use Rattle.stun_framing.specs.Framing.{room_of}
use Rattle.stun_framing.specs.Gathering.{IsGathered}
use Rattle.stun_framing.specs.Streams.{Stream, offset_of}

-- all that is wanted is there
abbrev pub is_all : Gathered → Bool
is_all gathered = gathered.held == gathered.wanted

-- what is gathered of a message that isn't whole
abbrev pub pending_of : Gathered → Gathered
pending_of gathered = if is_all gathered then record { held = 0; wanted = 4 } else gathered

-- the offset of what comes next, if what is gathered began at an offset
abbrev pub offset_behind : ℕ → Gathered → ℕ
offset_behind offset gathered = if is_all gathered then offset_of (offset + gathered.held) else offset

abbrev pub stream_of : StreamKind → List ℕ → Gathered → (offset : ℕ) → Option StreamError → Stream
stream_of carries buffer gathered offset error = record {
  room = room_of carries (length buffer);
  offset = offset;
  pending = take (pending_of gathered).held buffer;
  message = if is_all gathered then Some (take gathered.held buffer) else None;
  error = error;
}

-- what is true of the fields
pub record IsStream (carries : StreamKind) (buffer : List ℕ) (gathered : Gathered)
    (error : Option StreamError) : Type 0 where
  pub room : 20 ≤ length buffer
  pub bound : gathered.held ≤ length buffer
  pub sound : IsGathered (room_of carries (length buffer)) (take gathered.held buffer) gathered.wanted
  pub ended : IsSome error → gathered.held < gathered.wanted
