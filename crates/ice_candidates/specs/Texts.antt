-- The text of a candidate (RFC 8839, section 5.1).
use Rattle.std.specs.Prelude.{ℕ, ◌≤◌, ⊤, Bool, true, ◌&&◌, not, nat_le, List, [], ◌++◌, codes, decimal, Option, Some, None, IfSome, is_none}
use Rattle.std.specs.List.{flat_map, AllByRecursion}
use Rattle.std.specs.Net.Addr.{IsIpv4Addr, IsIpv6Addr, MatchIp}
use Rattle.std.specs.Net.Text.{ip_text}
use Rattle.ice_candidates.specs.Candidates.{Protocol, udp, tcp, another_protocol, Place, ip, name, Kind, host, server_reflexive, peer_reflexive, relayed, another_kind, Fields}
use Rattle.ice_candidates.specs.Chars.{is_ice_char, is_token, are}
use Rattle.ice_candidates.specs.Fields.{is_word, is_name, ip_of}
use Rattle.ice_candidates.specs.Grammar.{IsExtension}

abbrev pub protocol_text : Protocol → List ℕ
protocol_text udp = codes "UDP"
protocol_text tcp = codes "TCP"
protocol_text (another_protocol token) = token

-- an IPv6 address is in the form of RFC 5952
abbrev pub place_text : Place → List ℕ
place_text (ip a) = ip_text a
place_text (name text) = text

abbrev pub kind_text : Kind → List ℕ
kind_text host = codes "host"
kind_text server_reflexive = codes "srflx"
kind_text peer_reflexive = codes "prflx"
kind_text relayed = codes "relay"
kind_text (another_kind token) = token

abbrev pub related_address_text : Option Place → List ℕ
related_address_text None = []
related_address_text (Some address) = codes " raddr " ++ place_text address

abbrev pub related_port_text : Option ℕ → List ℕ
related_port_text None = []
related_port_text (Some port) = codes " rport " ++ decimal port

abbrev pub extension_text : List ℕ × List ℕ → List ℕ
extension_text extension = codes " " ++ extension.0 ++ codes " " ++ extension.1

-- the four fields before the address
abbrev pub front_text : Fields → List ℕ
front_text c =
    codes "candidate:" ++ c.foundation ++ codes " " ++ decimal c.component ++ codes " "
    ++ protocol_text c.protocol ++ codes " " ++ decimal c.priority

-- candidate-attribute
abbrev pub candidate_text : Fields → List ℕ
candidate_text c =
    front_text c ++ codes " " ++ place_text c.address ++ codes " " ++ decimal c.port ++ codes " typ "
    ++ kind_text c.kind ++ related_address_text c.related_address
    ++ related_port_text c.related_port ++ flat_map extension_text c.extensions

-- ---- What may be written

-- a token that isn't the name of another protocol
abbrev pub is_protocol : Protocol → Bool
is_protocol udp = true
is_protocol tcp = true
is_protocol (another_protocol token) =
    is_token token && (not (is_word (codes "udp") token) && not (is_word (codes "tcp") token))

-- an IP address, or a name that doesn't write one
abbrev pub is_place : Place → Bool
is_place (ip a) = true
is_place (name text) = is_name text && is_none (ip_of text)

abbrev pub is_optional_place : Option Place → Bool
is_optional_place None = true
is_optional_place (Some address) = is_place address

-- a token that isn't the name of another type
abbrev pub is_kind : Kind → Bool
is_kind host = true
is_kind server_reflexive = true
is_kind peer_reflexive = true
is_kind relayed = true
is_kind (another_kind token) =
    is_token token
    && ((not (is_word (codes "host") token) && not (is_word (codes "srflx") token))
    && (not (is_word (codes "prflx") token) && not (is_word (codes "relay") token)))

abbrev pub is_within : (least most n : ℕ) → Bool
is_within least most n = nat_le least n && nat_le n most

-- each field is in its range
abbrev pub is_in_range : Fields → Bool
is_in_range c =
    (are is_ice_char 1 32 c.foundation
    && (is_within 1 256 c.component && is_within 1 2_147_483_647 c.priority))
    && ((is_protocol c.protocol && is_kind c.kind)
    && (is_place c.address && is_optional_place c.related_address))

abbrev pub IsAddress : Place → Type 0
IsAddress (ip a) = MatchIp a IsIpv4Addr IsIpv6Addr
IsAddress (name text) = ⊤

-- what the types of the code guarantee
pub record AreOfTypes (c : Fields) : Type 0 where
  pub address : IsAddress c.address
  pub port : c.port ≤ 65_535
  pub related_address : IfSome c.related_address IsAddress
  pub related_port : IfSome c.related_port (λ port. port ≤ 65_535)
  pub extensions : AllByRecursion IsExtension c.extensions
