-- The bytes of one message, which are gathered in a buffer until it is whole.
use Rattle.std.specs.Prelude.{◌≡◌, ℕ, ◌≤◌, List, ◌++◌, length, take, min, nat_lt, if◌then◌else◌, None, Some}
use Rattle.stun_framing.specs.declared.stream_kind.StreamKind.{StreamKind}
use Rattle.stun_framing.specs.declared.error.StreamFault.{StreamFault}
use Rattle.stun_framing.specs.declared.gather.Gathered.{Gathered}
use Rattle.stun_framing.specs.Framing.{Room, room_of, stated_length, stream_fault}

-- how many bytes are wanted of the message that begins with b: four, and then as many as these state
abbrev pub wanted_for : List ℕ → ℕ
wanted_for b = if nat_lt (length b) 4 then 4 else stated_length b

-- b are bytes of a message, up to its end at most, and so many are wanted, which a buffer of so many
-- bytes takes
pub record IsGathered (room : Room) (b : List ℕ) (wanted : ℕ) : Type 0 where
  pub sound : stream_fault room b ≡ None
  pub wanted_is : wanted ≡ wanted_for b
  pub within : length b ≤ wanted
  pub fits : wanted ≤ room.size

-- a buffer holds the first four bytes of b, as far as they are there
pub record HoldsStart (b : List ℕ) (gathered : Gathered) (buffer : List ℕ) : Type 0 where
  pub bytes : take gathered.held buffer ≡ take 4 b
  pub count : gathered.held ≡ min 4 (length b)
  pub wanted : gathered.wanted ≡ wanted_for b
  pub fits : gathered.wanted ≤ length buffer

-- a buffer holds the bytes that belong to the message with which b begins
pub record HoldsFirst (carries : StreamKind) (b : List ℕ) (gathered : Gathered) (buffer : List ℕ)
    : Type 0 where
  pub sound : stream_fault (room_of carries (length buffer)) b ≡ None
  pub bytes : take gathered.held buffer ≡ take (wanted_for b) b
  pub held : gathered.held ≤ length buffer
  pub wanted : gathered.wanted ≡ wanted_for b

-- no message begins with the bytes that are held and a piece, and those that are held stay
pub record Refuses (carries : StreamKind) (held : ℕ) (piece : List ℕ) (fault : StreamFault)
    (old new : List ℕ) : Type 0 where
  pub fault_is : stream_fault (room_of carries (length old)) (take held old ++ piece) ≡ Some fault
  pub stays : take held new ≡ take held old
