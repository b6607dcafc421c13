-- Candidates as lines of text, as C sees them (RFC 8839, section 5.1).
use Rattle.std.specs.Prelude.{◌≡◌, ℕ, List, [], ◌++◌, length, take, drop, min, replicate, Option, None, Some, MatchOption, option_and_then, unwrap_or, nat_le, nat_lt, ◌==◌, if◌then◌else◌}
use Rattle.std.specs.Option.{option_map}
use Rattle.std.specs.Result.{result_ok}
use Rattle.std.specs.Str.{is_utf8}
use Rattle.std.specs.declared.net.ip_addr.IpAddr.{IpAddr}
use Rattle.stun_text.specs.Slices.{laid_over}
use Rattle.stun_values.specs.Addresses.{plain_socket}
use Rattle.ice_candidates.specs.Candidates.{Protocol, udp, tcp, another_protocol, Place, ip, name, Kind, host, server_reflexive, peer_reflexive, relayed, another_kind, Fields}
use Rattle.ice_candidates.specs.Reading.{read_candidate}
use Rattle.ice_candidates.specs.Texts.{candidate_text, is_in_range}
use Rattle.stun_types_c.specs.declared.address.Address.{Address}
use Rattle.stun_types_c.specs.declared.call_result.CResult.{CResult}
use Rattle.stun_types_c.specs.declared.ice_texts.CIceCandidate.{CIceCandidate}
use Rattle.stun_types_c.specs.Addresses.{Holds, ip_named}
use Rattle.stun_types_c.specs.CResults.{plain, Refuses}
use Rattle.stun_types_c.specs.Codes.{OK, INVALID_DATA, BAD_ARGUMENT}
use Rattle.stun_types_c.specs.Printing.{room_answer, written_of}
use Rattle.stun_types_c.specs.TurnAddresses.{nowhere}

-- ---- Reading

-- 0: another one
abbrev pub transport_number : Protocol → ℕ
transport_number udp = 1
transport_number tcp = 2
transport_number (another_protocol text) = 0

abbrev pub kind_number : Kind → ℕ
kind_number host = 1
kind_number server_reflexive = 2
kind_number peer_reflexive = 3
kind_number relayed = 4
kind_number (another_kind text) = 0

-- no address, and a port
abbrev pub at_port : (port : ℕ) → Address
at_port port = record nowhere { port = port }

-- an IP address; of a name the port alone
abbrev pub HoldsPlace : Place → (port : ℕ) → Address → Type 0
HoldsPlace (ip a) port address = Holds (plain_socket a port) address
HoldsPlace (name text) port address = address ≡ at_port port

abbrev pub HoldsRelated : Option Place → (port : Option ℕ) → Address → Type 0
HoldsRelated None port address = address ≡ at_port (unwrap_or port 0)
HoldsRelated (Some place) port address = HoldsPlace place (unwrap_or port 0) address

-- letters, at most 32, as a foundation has, and zeros
abbrev pub lettered : List ℕ → List ℕ
lettered text =
    if nat_le (length text) 32 then text ++ drop (length text) (replicate 32 0) else replicate 32 0

pub record HoldsCandidate (fields : Fields) (c : CIceCandidate) : Type 0 where
  pub foundation_is : c.foundation ≡ lettered fields.foundation
  pub foundation_length_is : c.foundation_length ≡ min (length fields.foundation) 32
  pub component_is : c.component ≡ fields.component
  pub priority_is : c.priority ≡ fields.priority
  pub address_is : HoldsPlace fields.address fields.port c.address
  pub related_is : HoldsRelated fields.related_address fields.related_port c.related
  pub transport_is : c.transport ≡ transport_number fields.protocol
  pub kind_is : c.kind ≡ kind_number fields.kind

-- the candidate that a line describes, if it is a text and describes one
abbrev pub candidate_in : (line : List ℕ) → Option Fields
candidate_in line = if is_utf8 line then result_ok (read_candidate line) else None

abbrev pub ReadsCandidate : (line : List ℕ) → CResult → (old new : CIceCandidate) → Type 0
ReadsCandidate line result old new =
    MatchOption (candidate_in line) (Refuses (plain INVALID_DATA) result old new)
    (λ fields. (result ≡ plain OK) × HoldsCandidate fields new)

-- ---- Writing

abbrev pub transport_named : ℕ → Option Protocol
transport_named number = if number == 1 then Some udp else (if number == 2 then Some tcp else None)

abbrev pub kind_named : ℕ → Option Kind
kind_named number =
    if number == 1 then Some host else (
    if number == 2 then Some server_reflexive else (
    if number == 3 then Some peer_reflexive else (
    if number == 4 then Some relayed else None)))

-- its letters, if they are a text
abbrev pub foundation_named : CIceCandidate → Option (List ℕ)
foundation_named c =
    if nat_lt 32 c.foundation_length then None else (
    if is_utf8 (take c.foundation_length c.foundation) then Some (take c.foundation_length c.foundation)
    else None)

-- the family 0 says that there is none
abbrev pub related_named : Address → Option (Option IpAddr)
related_named address =
    if address.family == 0 then Some None else option_map (λ a. Some a) (ip_named address)

abbrev pub fields_with : CIceCandidate → (foundation : List ℕ) → Protocol → IpAddr → Kind → Option IpAddr → Fields
fields_with c foundation protocol address kind related = record {
  foundation = foundation;
  component = c.component;
  protocol = protocol;
  priority = c.priority;
  address = ip address;
  port = c.address.port;
  kind = kind;
  related_address = option_map ip related;
  related_port = option_map (λ a. c.related.port) related;
  extensions = [];
}

abbrev pub fields_named : CIceCandidate → Option Fields
fields_named c =
    option_and_then (λ foundation. option_and_then (λ protocol. option_and_then (λ address. option_and_then (λ kind.
    option_map (fields_with c foundation protocol address kind) (related_named c.related))
    (kind_named c.kind)) (ip_named c.address)) (transport_named c.transport)) (foundation_named c)

-- the candidate, if each field is in its range
abbrev pub in_range : Fields → Option Fields
in_range fields = if is_in_range fields then Some fields else None

abbrev pub candidate_named : CIceCandidate → Option Fields
candidate_named c = option_and_then in_range (fields_named c)

-- its text is laid over the slice, as far as it reaches
abbrev pub WritesCandidate : CIceCandidate → CResult → (old new : List ℕ) → (before written : ℕ) → Type 0
WritesCandidate c result old new before written =
    MatchOption (candidate_named c)
    ((result ≡ plain BAD_ARGUMENT) × (new ≡ old) × (written ≡ before))
    (λ fields. (result ≡ room_answer (length (candidate_text fields)) (length old))
    × (new ≡ laid_over (candidate_text fields) old)
    × (written ≡ written_of (length (candidate_text fields)) (length old)))
