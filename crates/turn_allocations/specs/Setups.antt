-- The machine's setup and rules, from limits and a policy.
use Rattle.std.specs.Prelude.{ℕ, Bool, ◌&&◌, ◌==◌, if◌then◌else◌}
use Rattle.stun_endpoints.specs.declared.endpoints.Ip.{Ip}
use Rattle.stun_endpoints.specs.declared.endpoints.Endpoint.{Endpoint}
use Rattle.turn_machine.specs.Relays.{Setup, Rules}
use Rattle.turn_peers.specs.Policies.{is_peer}
use Rattle.turn_allocations.specs.declared.limits.Limits.{Limits}
use Rattle.turn_allocations.specs.declared.families.Families.{Families}

-- whether there is a family: 1 is IPv4, and 2 is IPv6
abbrev pub supports : Families Bool → (family : ℕ) → Bool
supports families family =
    if family == 1 then families.ipv4 else (family == 2) && families.ipv6

-- the setup of these limits, with the most permissions and channels of each relayed address
abbrev pub setup_of : Limits → (permissions channels : ℕ) → Setup
setup_of limits permissions channels = record {
  most_relays = limits.relays;
  most_of_user = limits.relays_per_user;
  most_reservations = limits.reservations;
  most_permissions = permissions;
  most_channels = channels;
  greatest_lifetime = limits.greatest_lifetime;
  last_channel = if limits.old_channels then 0x7FFF else 0x4FFF;
  has_family = supports limits.families;
  supports_dont_fragment = limits.dont_fragment;
  passes_icmp = limits.icmp;
  channel_permits = limits.channel_permits;
}

-- other limits, but with the room that there is
abbrev pub with_limits : (old new : Limits) → Limits
with_limits old new = record new { relays = old.relays; reservations = old.reservations }

-- The rules of a policy on IP addresses and ports. No Teredo or 6to4 address is a peer (RFC 8656, section
-- 21.4)
abbrev pub rules_of : (Ip → Bool) → (Endpoint → Bool) → Rules
rules_of address port = record { allows_ip = is_peer address; allows_port = port }
