-- The address in a success response.
use Rattle.std.proofs.Common.{◌≡◌, ℕ, refl}
use Rattle.std.specs.Net.Addr.{is_ipv6}
use Rattle.std.specs.Net.Socket.{socket_ip}
use Rattle.std.specs.declared.net.ip_addr.IpAddr.{IpAddr}
use Rattle.std.specs.declared.net.ip_addr.IpAddr.TheVariants.{V4, V6}
use Rattle.std.specs.declared.net.socket_addr.SocketAddr.{SocketAddr}
use Rattle.stun_values.specs.Addresses.{family, address_value, IsXored, xored_value}

same_family : (x a : IpAddr) → is_ipv6 x ≡ is_ipv6 a → family x ≡ family a
same_family (V4 x) (V4 a) e = refl
same_family (V4 x) (V6 a) e = absurd cc
same_family (V6 x) (V4 a) e = absurd cc
same_family (V6 x) (V6 a) e = refl

-- the value of an address that was XORed
pub xored_spelled : (id : ℕ) (a x : SocketAddr) → IsXored id a x → address_value x ≡ xored_value id a
xored_spelled id a x xored = rw (same_family (socket_ip x) (socket_ip a) xored.family_is, xored.port_is, xored.octets_are) refl
