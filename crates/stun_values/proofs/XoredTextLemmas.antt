-- The text of an IPv4 address that was XORed.
use Rattle.std.proofs.Common.{◌≡◌, ℕ, ◌≤◌, length, refl, ◌∙◌}
use Rattle.std.specs.Net.Addr.{ipv4_octets}
use Rattle.std.specs.Net.Socket.{v4_ip}
use Rattle.std.specs.Net.Text.{socket_text}
use Rattle.std.specs.declared.net.socket_addr.SocketAddrV4.{SocketAddrV4}
use Rattle.std.specs.declared.net.socket_addr.SocketAddr.{SocketAddr}
use Rattle.std.specs.declared.net.socket_addr.SocketAddr.TheVariants.{V4, V6}
use Rattle.stun_grammar.specs.Numbers.{be32}
use Rattle.stun_grammar.specs.Headers.{magic_cookie}
use Rattle.stun_values.specs.Addresses.{xor_bytes, IsXored, xored_text}
use Rattle.stun_values.proofs.XorLemmas.{xor_cookie}

-- whatever the transaction ID, the text is that of the address without the XOR
pub ipv4_text_of : (id : ℕ) (a : SocketAddrV4) (b : SocketAddr) → length (ipv4_octets (v4_ip a)) ≤ 4 → IsXored id (V4 a) b → socket_text b ≡ xored_text (V4 a)
ipv4_text_of id a (V4 b) short xored =
    let bytes : ipv4_octets (v4_ip b) ≡ xor_bytes (ipv4_octets (v4_ip a)) (be32 magic_cookie) =
    xored.octets_are ∙ xor_cookie id (ipv4_octets (v4_ip a)) short in
    rw (bytes, xored.port_is) refl
ipv4_text_of id a (V6 b) short xored = absurd cc
