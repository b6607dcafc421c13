-- Streams of messages, as C keeps them between its calls (RFC 8489, section 6.2.2, and RFC 8656,
-- section 12.5).
use Rattle.std.specs.Prelude.{◌≡◌, ℕ, ◌==◌, ◌&&◌, true, false, if◌then◌else◌, List, length, take, Option, None, Some, MatchOption, Result, Ok, Err}
use Rattle.std.specs.Option.{option_map_or}
use Rattle.stun_framing.specs.declared.channel_range.ChannelRange.TheVariants.{Rfc8656, Rfc5766}
use Rattle.stun_framing.specs.declared.stream_kind.StreamKind.{StreamKind}
use Rattle.stun_framing.specs.declared.stream_kind.StreamKind.TheVariants.{Messages, ChannelDataToo}
use Rattle.stun_framing.specs.declared.error.StreamError.{StreamError}
use Rattle.stun_framing.specs.declared.error.StreamFault.{StreamFault}
use Rattle.stun_framing.specs.declared.error.StreamFault.TheVariants.{NotStun, NotPadded, TooLong}
use Rattle.stun_framing.specs.Framing.{room_of}
use Rattle.stun_framing.specs.Streams.{Stream, resumed, can_resume, refusal, answer, left, StandsIn}
use Rattle.stun_types_c.specs.declared.call_result.CResult.{CResult}
use Rattle.stun_types_c.specs.declared.streams.CStream.{CStream}
use Rattle.stun_types_c.specs.Codes.{OK, NOT_STUN, TOO_LARGE, BAD_ARGUMENT, NOT_PADDED}
use Rattle.stun_types_c.specs.CResults.{plain, counted}

-- what a stream carries, by its number for C
abbrev pub kind_numbered : ℕ → Option StreamKind
kind_numbered number =
    if number == 0 then Some Messages else (
    if number == 1 then Some (ChannelDataToo Rfc8656) else (
    if number == 2 then Some (ChannelDataToo Rfc5766) else None))

-- why no message begins after the last one, in a buffer of so many bytes
abbrev pub fault_result : (room : ℕ) → StreamFault → CResult
fault_result room NotStun = plain NOT_STUN
fault_result room (NotPadded field) = counted NOT_PADDED 0 field
fault_result room (TooLong stated) = counted TOO_LARGE room stated

-- the stream that resumes what C keeps: an offset, and as many bytes at the start of its buffer
-- as are pending
abbrev pub stream_kept : StreamKind → CStream → (buffer : List ℕ) → Stream
stream_kept carries kept buffer =
    resumed (room_of carries (length buffer)) kept.offset (take kept.pending buffer)

-- what C keeps of a stream, the number of what it carries, and how long the message is that the last
-- piece completed, or 0
abbrev pub kept_of : (carries : ℕ) → Stream → CStream
kept_of carries stream = record {
  offset = stream.offset;
  pending = length stream.pending;
  message = option_map_or length stream.message 0;
  carries = carries;
  reserved = 0;
}

-- the answer to a piece: OK, or why no message begins after the last one
abbrev pub piece_answer : (room : ℕ) → Option StreamError → CResult
piece_answer room None = plain OK
piece_answer room (Some error) = fault_result room error.fault

-- how many bytes are taken: with a refusal C's count stays
abbrev pub taken_after : ℕ → Result ℕ StreamError → ℕ
taken_after before (Ok taken) = taken
taken_after before (Err error) = before

-- the bytes at the start of a piece that belong to the message that is coming are taken, or no
-- message begins so: C keeps the stream that the piece leaves, whose bytes are in the buffer
abbrev pub TakesPiece : StreamKind → (piece buffer filled : List ℕ) → CResult → (old new : CStream)
    → (before after : ℕ) → Type 0
TakesPiece carries piece buffer filled result old new before after =
    let stream = stream_kept carries old buffer in
    (result ≡ piece_answer (length buffer) (refusal stream piece))
    × (new ≡ kept_of old.carries (left stream piece))
    × (after ≡ taken_after before (answer stream piece))
    × StandsIn (left stream piece) filled

-- what C keeps is no stream's, and all stays
abbrev pub KeepsNoStream : (buffer filled : List ℕ) → CResult → (old new : CStream)
    → (before after : ℕ) → Type 0
KeepsNoStream buffer filled result old new before after =
    (result ≡ plain BAD_ARGUMENT) × (new ≡ old) × (filled ≡ buffer) × (after ≡ before)

-- a piece is pushed to a stream that carries what its number says
abbrev pub PushesPiece : (piece buffer filled : List ℕ) → CResult → (old new : CStream)
    → (before after : ℕ) → Type 0
PushesPiece piece buffer filled result old new before after =
    MatchOption (kind_numbered old.carries)
    (KeepsNoStream buffer filled result old new before after)
    (λ carries. elim ((old.reserved == 0) && can_resume carries buffer old.pending) [
      | false ↦ KeepsNoStream buffer filled result old new before after
      | true ↦ TakesPiece carries piece buffer filled result old new before after
    ])
