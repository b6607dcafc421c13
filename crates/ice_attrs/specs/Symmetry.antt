-- Symmetric transport addresses (RFC 8445, section 7.2.5.2.1).
use Rattle.std.specs.Prelude.{◌≡◌}
use Rattle.std.specs.Net.Socket.{socket_ip, socket_port}
use Rattle.std.specs.declared.net.socket_addr.SocketAddr.{SocketAddr}
use Rattle.ice_attrs.specs.declared.symmetry.TransportAddresses.{TransportAddresses}

-- one IP address and one port, whatever flow info and scope ID are
pub record AreSame (one other : SocketAddr) : Type 0 where
  pub ip : socket_ip one ≡ socket_ip other
  pub port : socket_port one ≡ socket_port other

-- the source of the response is the destination of the request, and its destination the source of the
-- request
pub record AreSymmetric (request response : TransportAddresses) : Type 0 where
  pub source : AreSame response.source request.destination
  pub destination : AreSame response.destination request.source
