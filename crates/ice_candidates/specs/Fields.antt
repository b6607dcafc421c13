-- What a word is, as a field of a candidate (RFC 8839, section 5.1). The quoted words of the grammar are
-- in any case.
use Rattle.std.specs.Prelude.{ℕ, Bool, ◌&&◌, not, List, length, codes, nat_le, ◌==◌, Option, Some, None, if◌then◌else◌}
use Rattle.std.specs.List.{list_all, list_any}
use Rattle.std.specs.Char.{is_ascii_alphabetic, is_ascii_digit}
use Rattle.std.specs.Str.{str_eq_ignore_ascii_case}
use Rattle.std.specs.Str.Parse.{digits_value}
use Rattle.std.specs.Net.Reader.{read_ipv4, read_ipv6, whole_value}
use Rattle.std.specs.declared.net.ip_addr.IpAddr.{IpAddr}
use Rattle.std.specs.declared.net.ip_addr.IpAddr.TheVariants.{V4, V6}
use Rattle.ice_candidates.specs.Chars.{is_ice_char, is_name_char, is_token, are}
use Rattle.ice_candidates.specs.Candidates.{Protocol, udp, tcp, another_protocol, Place, ip, name, Kind, host, server_reflexive, peer_reflexive, relayed, another_kind}

abbrev pub is_word : (quoted word : List ℕ) → Bool
is_word quoted word = str_eq_ignore_ascii_case word quoted

-- foundation = 1*32ice-char
abbrev pub foundation_of : List ℕ → Option (List ℕ)
foundation_of word = if are is_ice_char 1 32 word then Some word else None

-- digits that write a number of this range
abbrev pub number_of : (least most : ℕ) → List ℕ → Option ℕ
number_of least most word =
    if (not (length word == 0) && list_all is_ascii_digit word)
    && (nat_le least (digits_value 10 word) && nat_le (digits_value 10 word) most)
    then Some (digits_value 10 word) else None

-- so many digits at most
abbrev pub short_number_of : (digits least most : ℕ) → List ℕ → Option ℕ
short_number_of digits least most word =
    if nat_le (length word) digits then number_of least most word else None

-- component-id = 1*3DIGIT, which is 1 to 256 (RFC 8445, section 5.1.2.1)
abbrev pub component_of : List ℕ → Option ℕ
component_of = short_number_of 3 1 256

-- priority = 1*10DIGIT, which is 1 to 2^31 - 1 (RFC 8445, section 5.1.2)
abbrev pub priority_of : List ℕ → Option ℕ
priority_of = short_number_of 10 1 (2_147_483_647)

-- port = 1*DIGIT (RFC 8866)
abbrev pub port_of : List ℕ → Option ℕ
port_of = number_of 0 65_535

-- transport = "UDP" / "TCP" / token
abbrev pub protocol_of : List ℕ → Option Protocol
protocol_of word =
    if is_word (codes "udp") word then Some udp else (
    if is_word (codes "tcp") word then Some tcp else (
    if is_token word then Some (another_protocol word) else None))

-- the IP address that a text writes: of IPv4, or else of IPv6
abbrev pub one_ip : Option (List ℕ) → Option (List ℕ) → Option IpAddr
one_ip None None = None
one_ip None (Some s) = Some (V6 (record { segments = s }))
one_ip (Some o) other = Some (V4 (record { octets = o }))

unfoldable pub ip_of : List ℕ → Option IpAddr
ip_of text = one_ip (whole_value (read_ipv4 text)) (whole_value (read_ipv6 text))

-- a host's name: letters, digits, `-` and `.`, 4 to 255 of them, of which one is a letter, since digits
-- and dots alone are no name (RFC 1123, section 2.1)
abbrev pub is_name : List ℕ → Bool
is_name text = are is_name_char 4 255 text && list_any is_ascii_alphabetic text

-- connection-address = IP4-address / IP6-address / FQDN
abbrev pub place_or_name : List ℕ → Option IpAddr → Option Place
place_or_name word None = if is_name word then Some (name word) else None
place_or_name word (Some a) = Some (ip a)

abbrev pub place_of : List ℕ → Option Place
place_of word = place_or_name word (ip_of word)

-- cand-type = "typ" SP candidate-types
-- candidate-types = "host" / "srflx" / "prflx" / "relay" / token
abbrev pub kind_of : List ℕ → Option Kind
kind_of word =
    if is_word (codes "host") word then Some host else (
    if is_word (codes "srflx") word then Some server_reflexive else (
    if is_word (codes "prflx") word then Some peer_reflexive else (
    if is_word (codes "relay") word then Some relayed else (
    if is_token word then Some (another_kind word) else None))))

-- extension-att-name = token. `raddr` and `rport` are none, since they begin rel-addr and rel-port.
abbrev pub is_extension_name : List ℕ → Bool
is_extension_name word =
    is_token word && (not (is_word (codes "raddr") word) && not (is_word (codes "rport") word))
