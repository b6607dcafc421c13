-- Attributes of NAT behaviour discovery (RFC 5780, section 7), MAPPED-ADDRESS (RFC 8489, section
-- 14.1) and TRANSACTION_TRANSMIT_COUNTER (RFC 7982, section 3.1).
use Rattle.std.specs.Prelude.{◌≡◌, ℕ, ◌+◌, ◌*◌, ◌/◌, ◌%◌, Bool, List, ◌++◌, codes, length, take, Option, Some, None, Result, nat_lt, ◌==◌, if◌then◌else◌}
use Rattle.std.specs.Fmt.{decimal}
use Rattle.stun_grammar.specs.declared.error.StunParseError.{StunParseError}
use Rattle.stun_grammar.specs.declared.error.StunParseError.TheVariants.{Truncated, TooLarge}
use Rattle.stun_grammar.specs.Numbers.{be16, number}
use Rattle.stun_attributes.specs.Reading.{Reads}
use Rattle.discovery_attrs.specs.declared.change.Change.{Change}
use Rattle.discovery_attrs.specs.declared.transmissions.Transmissions.{Transmissions}
use Rattle.discovery_attrs.specs.declared.response_port.ResponsePort.{ResponsePort}
use Rattle.stun_types.specs.declared.attribute.known.ValueForm.TheVariants.{PaddedNumber, Octets, Address, Other}
use Rattle.stun_types.specs.KnownTypes.{Known, says}

-- ---- Numbers of types. That of MAPPED-ADDRESS is in `AttributeTypes` of `stun_grammar`

abbrev pub CHANGE_REQUEST : ℕ
CHANGE_REQUEST = 0x0003

abbrev pub PADDING : ℕ
PADDING = 0x0026

abbrev pub RESPONSE_ORIGIN : ℕ
RESPONSE_ORIGIN = 0x802B

abbrev pub OTHER_ADDRESS : ℕ
OTHER_ADDRESS = 0x802C

abbrev pub TRANSACTION_TRANSMIT_COUNTER : ℕ
TRANSACTION_TRANSMIT_COUNTER = 0x8025

abbrev pub RESPONSE_PORT : ℕ
RESPONSE_PORT = 0x0027

-- ---- CHANGE-REQUEST (RFC 5780, section 7.2): the bits 0x4 and 0x2 of four bytes

abbrev pub flag : ℕ → Bool → ℕ
flag bit set = if set then bit else 0

abbrev pub change_number : Change → ℕ
change_number change = flag 4 change.ip + flag 2 change.port

abbrev pub change_of : ℕ → Option Change
change_of n = Some (record { ip = n / 4 % 2 == 1; port = n / 2 % 2 == 1 })

-- which of the two is asked for, as it is printed
abbrev pub change_text : Change → List ℕ
change_text change =
    if change.ip then (if change.port then codes "IP and port" else codes "IP")
    else (if change.port then codes "port" else codes "nothing")

-- ---- TRANSACTION_TRANSMIT_COUNTER (RFC 7982, section 3.1): the last two of four bytes

abbrev pub counts_number : Transmissions → ℕ
counts_number counts = 256 * counts.requests + counts.responses

abbrev pub counts_of : ℕ → Option Transmissions
counts_of n = Some (record { requests = n / 256 % 256; responses = n % 256 })

abbrev pub counts_text : Transmissions → List ℕ
counts_text counts =
    codes "requests " ++ decimal counts.requests ++ codes ", responses " ++ decimal counts.responses

-- ---- RESPONSE-PORT (RFC 5780, section 7.5): the port, and two bytes of padding

abbrev pub port_of : ResponsePort → ℕ
port_of attribute = attribute.port

abbrev pub response_port_value : ResponsePort → List ℕ
response_port_value attribute = be16 (port_of attribute) ++ be16 0

-- two bytes are a port too, since some programs count the padding and others don't
abbrev pub response_port_fault : List ℕ → Option StunParseError
response_port_fault value =
    let n = length value in
    if n == 2 then None else (
    if nat_lt n 4 then Some (Truncated 4 n) else (
    if nat_lt 4 n then Some (TooLarge 4 n) else None))

abbrev pub ReadsResponsePort : List ℕ → Result ResponsePort StunParseError → Type 0
ReadsResponsePort value =
    Reads (response_port_fault value) (λ read. port_of read ≡ number (take 2 value))

-- ---- What the RFCs say of the types

-- CHANGE-REQUEST is bits, and TRANSACTION_TRANSMIT_COUNTER two counts
abbrev pub known_type : ℕ → Option Known
known_type type =
    if type == CHANGE_REQUEST then says 5780 (codes "CHANGE-REQUEST") (Octets 4) else (
    if type == PADDING then says 5780 (codes "PADDING") Other else (
    if type == RESPONSE_PORT then says 5780 (codes "RESPONSE-PORT") (PaddedNumber 2 0 65535) else (
    if type == TRANSACTION_TRANSMIT_COUNTER then says 7982 (codes "TRANSACTION_TRANSMIT_COUNTER") (Octets 4) else (
    if type == RESPONSE_ORIGIN then says 5780 (codes "RESPONSE-ORIGIN") Address else (
    if type == OTHER_ADDRESS then says 5780 (codes "OTHER-ADDRESS") Address else None)))))
