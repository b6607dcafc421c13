-- Framing and the header, as C sees them (RFC 8489, section 5).
use Rattle.std.specs.Prelude.{◌≡◌, ℕ, ◌+◌, ◌%◌, ◌==◌, ◌⊎◌, List, length, slice_range, nat_lt, if◌then◌else◌}
use Rattle.stun_grammar.specs.Headers.{Begins, length_field, type_field}
use Rattle.stun_base.specs.declared.message_class.MessageClass.{MessageClass}
use Rattle.stun_base.specs.declared.message_class.MessageClass.TheVariants.{Request, Indication, Success, Error as ErrorClass}
use Rattle.stun_base.specs.MessageTypes.{class_of, method_of}
use Rattle.stun_types_c.specs.declared.call_result.CResult.{CResult}
use Rattle.stun_types_c.specs.declared.reading.Header.{Header}
use Rattle.stun_types_c.specs.Codes.{OK, NOT_STUN}
use Rattle.stun_types_c.specs.CResults.{plain}

-- how many bytes the message has that begins with these, or 0 if its header isn't whole
abbrev pub whole_length : List ℕ → ℕ
whole_length d = if nat_lt (length d) 20 then 0 else 20 + length_field d

-- what a prefix of a stream says: how long the message is that begins so, or that none does, and
-- then nothing is reported
abbrev pub Frames : List ℕ → CResult → (old new : ℕ) → Type 0
Frames d result old new =
    (Begins d × (result ≡ plain OK) × (new ≡ whole_length d))
    ⊎ (¬ Begins d × (result ≡ plain NOT_STUN) × (new ≡ old))

-- the number of a class
abbrev pub class_number : MessageClass → ℕ
class_number Request = 0
class_number Indication = 1
class_number Success = 2
class_number ErrorClass = 3

-- the class of a number, of which the low two bits count
abbrev pub class_numbered : ℕ → MessageClass
class_numbered number =
    if number % 4 == 0 then Request else (
    if number % 4 == 1 then Indication else (
    if number % 4 == 2 then Success else ErrorClass))

-- the header that d begins with
abbrev pub header_in_c : List ℕ → Header
header_in_c d = record {
  mtype = type_field d;
  method = method_of (type_field d);
  class = class_number (class_of (type_field d));
  length = length_field d;
  id = record { bytes = slice_range d 8 20 };
}
