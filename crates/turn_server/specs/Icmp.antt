-- What a client learns of an ICMP packet about a datagram that went to a peer (RFC 8656, sections 11.5 and
-- 18.13): a Data indication without data.
use Rattle.std.specs.Prelude.{◌≡◌, ℕ, Bool, ◌&&◌, List, [], ◌∷◌, length, nat_lt, Option, None, Some, MatchOption, ◌==◌, if◌then◌else◌}
use Rattle.std.specs.declared.net.socket_addr.SocketAddr.{SocketAddr}
use Rattle.stun_grammar.specs.Attributes.{canonical}
use Rattle.stun_grammar.specs.Numbers.{be32}
use Rattle.stun_grammar.specs.Writing.{message_encoding}
use Rattle.stun_base.specs.declared.message_class.MessageClass.TheVariants.{Indication}
use Rattle.stun_base.specs.MessageTypes.{type_of}
use Rattle.stun_server.specs.InSlice.{slice_after}
use Rattle.turn_attrs.specs.declared.icmp.IcmpError.{IcmpError}
use Rattle.turn_attrs.specs.Heads.{peer_attribute}
use Rattle.turn_attrs.specs.Turn.{ICMP}
use Rattle.stun_endpoints.specs.declared.endpoints.Endpoint.{Endpoint}
use Rattle.stun_endpoints.specs.declared.endpoints.FiveTuple.{FiveTuple}
use Rattle.stun_endpoints.specs.Conversions.{socket_of}
use Rattle.turn_machine.specs.Relays.{Setup, Rules}
use Rattle.turn_machine.specs.Events.{Icmp, bounces}
use Rattle.turn_allocations.specs.Outputs.{bouncing}
use Rattle.turn_machine.specs.Reserving.{plain}
use Rattle.turn_reservations.specs.Calls.{Reserving, IsOuterStep}
use Rattle.turn_server.specs.declared.action.IcmpDelivery.{IcmpDelivery}

-- the datagram was too large for the next hop: by IPv4 fragmentation needed and DF set, by IPv6 packet too big
abbrev pub is_too_large : (family : ℕ) → IcmpError → Bool
is_too_large family error =
    if family == 1 then (error.icmp_type == 3) && (error.code == 4) else error.icmp_type == 2

-- what goes on to the client: the data, an MTU, only if the datagram was too large, and otherwise 0
abbrev pub icmp_of : (family : ℕ) → IcmpError → Icmp
icmp_of family error = record {
  type_number = error.icmp_type;
  code = error.code;
  error_data = if is_too_large family error then error.«data» else 0;
}

-- the value of an ICMP attribute
abbrev pub icmp_value : Icmp → List ℕ
icmp_value icmp = 0 ∷ 0 ∷ icmp.type_number ∷ icmp.code ∷ be32 icmp.error_data

-- the address of the peer, and what the packet says
abbrev pub icmp_indication : (id : ℕ) → SocketAddr → Icmp → List ℕ
icmp_indication id peer icmp =
    message_encoding (type_of Indication 7) id
    (peer_attribute id peer ∷ canonical ICMP (icmp_value icmp) ∷ [])

-- a text for a client is written at the start of a slice, whose rest stays; or the slice is too short, and
-- nothing is written
pub record IsNotified (tuple : FiveTuple) (text before after : List ℕ) (result : Option IcmpDelivery)
    : Type 0 where
  pub result_is : result
      ≡ if nat_lt (length before) (length text) then None
      else Some (record { to = tuple; length = length text })
  pub after_is : after ≡ slice_after (Some text) before

-- the server takes the packet; it is dropped, or goes to a client
pub record Notifies (setup : Setup) (rules : Rules) (now number : ℕ) (peer : Endpoint) (error : IcmpError) (id : ℕ)
    (old new : Reserving) (before after : List ℕ) (result : Option IcmpDelivery) : Type 0 where
  pub to : Option FiveTuple
  pub is_step : let icmp = icmp_of peer.ip.family error in
      IsOuterStep setup rules old now (plain (bounces number peer icmp)) (bouncing to peer icmp) None new
  pub delivers : MatchOption to ((result ≡ None) × (after ≡ before))
      (λ tuple. IsNotified tuple
      (icmp_indication id (socket_of peer) (icmp_of peer.ip.family error)) before after result)
