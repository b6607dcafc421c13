-- How a TURN server is made by what C passes.
use Rattle.std.specs.Prelude.{◌≡◌, ◌⊎◌, ℕ, Bool, true, not, ◌&&◌, ◌||◌, List, [], length, drop, map, Option, None, Some, is_some, IsSomeAnd, MatchOption, option_and_then, nat_lt, ◌==◌, if◌then◌else◌}
use Rattle.std.specs.List.{list_all}
use Rattle.std.specs.Option.{option_map, option_or, option_zip}
use Rattle.std.specs.Result.{result_ok}
use Rattle.std.specs.Net.Socket.{socket_ip}
use Rattle.stun_attributes.specs.Texts.{text_bytes}
use Rattle.stun_keys.specs.declared.keys.integrity_key.IntegrityKey.{IntegrityKey}
use Rattle.stun_keys.specs.Keys.{key_bytes}
use Rattle.stun_authentication.specs.declared.cookie.SecurityFeatures.{SecurityFeatures}
use Rattle.stun_authentication.specs.declared.policy.Policy.{Policy}
use Rattle.stun_authentication.specs.Nonces.{minting, minting_of}
use Rattle.turn_allocations.specs.declared.limits.Limits.{Limits}
use Rattle.turn_peers.specs.declared.networks.Prefix.{Prefix}
use Rattle.turn_peers.specs.declared.ranges.PeerRange.{PeerRange}
use Rattle.turn_peers.specs.Networks.{prefix_of}
use Rattle.turn_peers.specs.Ranges.{all_ports}
use Rattle.turn_machine.specs.Runs.{initial_state}
use Rattle.turn_server.specs.declared.access.Access.{Access}
use Rattle.turn_server.specs.Access.{software_in}
use Rattle.stun_types_c.specs.declared.address.Address.{Address}
use Rattle.stun_types_c.specs.declared.call_result.CResult.{CResult}
use Rattle.stun_types_c.specs.declared.turn_core.PeerRules.{PeerRules}
use Rattle.stun_types_c.specs.declared.turn_core.TurnCore.{TurnCore}
use Rattle.stun_types_c.specs.declared.turn_settings.CPrefix.{CPrefix}
use Rattle.stun_types_c.specs.declared.turn_settings.CTurnLimits.{CTurnLimits}
use Rattle.stun_types_c.specs.declared.turn_settings.CTurnSettings.{CTurnSettings}
use Rattle.stun_types_c.specs.Addresses.{socket_named}
use Rattle.stun_types_c.specs.Authentication.{policy_named}
use Rattle.stun_types_c.specs.CResults.{plain, Refuses}
use Rattle.stun_types_c.specs.Codes.{OK, OUT_OF_MEMORY, BAD_ARGUMENT, NO_KEY}
use Rattle.stun_types_c.specs.Refusals.{features_named, text_answer}
use Rattle.stun_types_c.specs.StatelessNonces.{secret_answer}

-- ---- What C passes

-- the policy and the features of the settings, if `reserved` is 0 and there are below 2 ^ 24 relayed
-- addresses
abbrev pub settings_named : CTurnSettings → Option (Policy × SecurityFeatures)
settings_named settings =
    if (settings.reserved == 0) && nat_lt settings.limits.relays 16777216
    then option_zip (policy_named settings.policy) (features_named settings.features) else None

-- every number but 0 is true
abbrev pub is_set : ℕ → Bool
is_set number = not (number == 0)

abbrev pub limits_named : CTurnLimits → Limits
limits_named named = record {
  relays = named.relays;
  relays_per_user = named.relays_per_user;
  reservations = named.reservations;
  greatest_lifetime = named.greatest_lifetime;
  families = record { ipv4 = is_set named.ipv4; ipv6 = is_set named.ipv6 };
  dont_fragment = is_set named.dont_fragment;
  icmp = is_set named.icmp;
  channel_permits = is_set named.channel_permits;
  old_channels = is_set named.old_channels;
}

-- the limits that are recommended
abbrev pub default_limits : CTurnLimits
default_limits = record {
  relays = 4096;
  relays_per_user = 64;
  reservations = 64;
  greatest_lifetime = 3600;
  ipv4 = 1;
  ipv6 = 1;
  dont_fragment = 0;
  icmp = 0;
  channel_permits = 0;
  old_channels = 0;
}

-- whether the octets after the four of an IPv4 address are 0
abbrev pub is_whole : Address → Bool
is_whole address =
    if address.family == 4 then list_all (λ octet. octet == 0) (drop 4 address.octets) else true

-- the prefix of an address, of at most 128 bits, if its other bits are 0
abbrev pub prefix_named : CPrefix → Option Prefix
prefix_named named =
    if nat_lt 128 named.length || not (is_whole named.address) then None
    else option_and_then (λ a. result_ok (prefix_of (socket_ip a) named.length))
    (socket_named named.address)

-- with the ports that C names; if the last is 0, with all
abbrev pub with_ports : CPrefix → Prefix → PeerRange
with_ports named prefix =
    if named.last_port == 0 then all_ports prefix
    else record { prefix = prefix; first_port = named.first_port; last_port = named.last_port }

-- peers, unless the first port comes after the last
abbrev pub range_named : CPrefix → Option PeerRange
range_named named =
    if nat_lt named.last_port named.first_port then None
    else option_map (with_ports named) (prefix_named named)

-- whether each of them names one
abbrev pub all_named : {A B : Type 0} → (A → Option B) → List A → Bool
all_named name each = list_all (λ one. is_some (name one)) each

-- ---- Why no server is made

abbrev pub argument_answer : (fine : Bool) → Option CResult
argument_answer fine = if fine then None else Some (plain BAD_ARGUMENT)

-- there is no secret, or it is too short
abbrev pub key_answer : Option IntegrityKey → Option CResult
key_answer None = Some (plain NO_KEY)
key_answer (Some key) = secret_answer (key_bytes key)

abbrev pub access_answer : CTurnSettings → Option IntegrityKey → Option CResult
access_answer settings secret =
    option_or (argument_answer (is_some (settings_named settings)))
    (option_or (key_answer secret)
    (option_or (text_answer settings.realm.now) (text_answer settings.software.now)))

abbrev pub rules_answer : CTurnSettings → Option CResult
rules_answer settings =
    argument_answer
    (all_named range_named settings.denied.now
    && (all_named range_named settings.allowed.now
    && all_named socket_named settings.listening.now))

-- the first of these
abbrev pub making_answer : CTurnSettings → Option IntegrityKey → Option CResult
making_answer settings secret =
    option_or (access_answer settings secret) (rules_answer settings)

-- ---- The server

-- a text of no bytes: there is none
abbrev pub software_named : List ℕ → Option (List ℕ)
software_named text = if length text == 0 then None else Some text

-- its policy; its nonces, by a copy of the secret; its realm; and the SOFTWARE of its responses. It sends no
-- client to another server
pub record IsAccess (settings : CTurnSettings) (secret : Option IntegrityKey) (access : Access)
    : Type 0 where
  pub settings_are : settings_named settings
      ≡ Some (access.policy, (minting_of access.nonces).features)
  pub nonces_are : IsSomeAnd secret (λ key. minting_of access.nonces
      ≡ minting (key_bytes key) (minting_of access.nonces).features settings.window)
  pub realm_is : text_bytes access.realm ≡ settings.realm.now
  pub software_is : software_in access ≡ software_named settings.software.now
  pub alternate_is : access.alternate ≡ None

-- the peers and the addresses that C names, in order
pub record AreRules (settings : CTurnSettings) (rules : PeerRules) : Type 0 where
  pub denied_are : map range_named settings.denied.now ≡ map Some rules.denied.items
  pub allowed_are : map range_named settings.allowed.now ≡ map Some rules.allowed.items
  pub listening_are : map socket_named settings.listening.now ≡ map Some rules.listening.items

-- and it has no relayed address
pub record IsMade (settings : CTurnSettings) (secret : Option IntegrityKey) (core : TurnCore)
    : Type 0 where
  pub empty : core.server
      ≡ record {
        limits = limits_named settings.limits;
        holding = record { state = initial_state; held = [] };
        ended = [];
        over = [];
      }
  pub access_is : IsAccess settings secret core.access
  pub rules_are : AreRules settings core.rules

-- a handle holds it, or the call returns why not, and the handle holds what it held
abbrev pub Makes : CTurnSettings → Option IntegrityKey → CResult → (old new : Option TurnCore) → Type 0
Makes settings secret result old new =
    MatchOption (making_answer settings secret)
    ((result ≡ plain OK) × IsSomeAnd new (IsMade settings secret))
    (λ answer. Refuses answer result old new)
    ⊎ Refuses (plain OUT_OF_MEMORY) result old new
