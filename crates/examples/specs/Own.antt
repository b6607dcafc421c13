-- Attributes of one's own.
use Rattle.std.specs.Prelude.{◌≡◌, ℕ, List, ◌++◌, length, take, drop, Option, Some, Result, nat_lt, if◌then◌else◌}
use Rattle.std.specs.String.{string_bytes}
use Rattle.stun_grammar.specs.declared.error.StunParseError.{StunParseError}
use Rattle.stun_grammar.specs.declared.error.StunParseError.TheVariants.{Truncated}
use Rattle.stun_grammar.specs.Lengths.{exact_fault}
use Rattle.stun_grammar.specs.Numbers.{be16, be32, number}
use Rattle.stun_values.specs.TextValues.{text_fault}
use Rattle.stun_attributes.specs.Reading.{Reads, ReadsInMemory}
use Rattle.examples.specs.declared.own.ticket.Ticket.{Ticket}
use Rattle.examples.specs.declared.own.version.Version.{Version}

abbrev pub SESSION : ℕ
SESSION = 0x8F01

abbrev pub VERSION : ℕ
VERSION = 0x8F02

-- the value of a VERSION: the two numbers, each in two bytes
abbrev pub version_value : Version → List ℕ
version_value version = be16 version.major ++ be16 version.minor

-- what reading such a value returns
abbrev pub ReadsVersion : List ℕ → Result Version StunParseError → Type 0
ReadsVersion value = Reads (exact_fault 4 (length value)) (λ version.
    (version.major ≡ number (take 2 value)) × (version.minor ≡ number (drop 2 value)))

abbrev pub TICKET : ℕ
TICKET = 0x8F03

-- what the private fields of a TICKET hold
abbrev pub ticket_number : Ticket → ℕ
ticket_number ticket = ticket.number

abbrev pub ticket_title : Ticket → List ℕ
ticket_title ticket = string_bytes ticket.title

-- it has this number and this title
abbrev pub IsTicket : ℕ → List ℕ → Ticket → Type 0
IsTicket n title ticket = (ticket_number ticket ≡ n) × (ticket_title ticket ≡ title)

-- the value of a TICKET: its number in four bytes, and then its title
abbrev pub ticket_value : Ticket → List ℕ
ticket_value ticket = be32 (ticket_number ticket) ++ ticket_title ticket

-- why a value isn't that of a TICKET
abbrev pub ticket_fault : List ℕ → Option StunParseError
ticket_fault value =
    if nat_lt (length value) 4 then Some (Truncated 4 (length value))
    else text_fault 128 (drop 4 value)

-- what reading such a value returns
abbrev pub ReadsTicket : List ℕ → Result Ticket StunParseError → Type 0
ReadsTicket value =
    ReadsInMemory (ticket_fault value) (IsTicket (number (take 4 value)) (drop 4 value))
