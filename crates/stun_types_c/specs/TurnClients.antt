-- What a TURN server does for a client's datagram, as C sees it.
use Rattle.std.specs.Prelude.{◌≡◌, ◌⊎◌, ℕ, Bool, true, false, not, ◌&&◌, List, length, Option, None, Some, MatchOption, MatchResult, IsSomeAnd, is_some, unwrap_or, ◌==◌, if◌then◌else◌}
use Rattle.std.specs.Option.{option_zip}
use Rattle.stun_keys.specs.declared.keys.integrity_key.IntegrityKey.{IntegrityKey}
use Rattle.stun_values.specs.declared.algorithm.PasswordAlgorithmValue.{PasswordAlgorithmValue}
use Rattle.stun_authentication.specs.Identities.{Who}
use Rattle.stun_authentication.specs.Lookups.{UserKey}
use Rattle.stun_endpoints.specs.declared.endpoints.Endpoint.{Endpoint}
use Rattle.stun_endpoints.specs.declared.endpoints.FiveTuple.{FiveTuple}
use Rattle.turn_server.specs.Access.{nonces_at}
use Rattle.turn_server.specs.Actions.{Acts}
use Rattle.turn_server.specs.ChannelMessages.{last_channel}
use Rattle.stun_endpoints.specs.Conversions.{socket_of}
use Rattle.turn_server.specs.Judging.{needs_key}
use Rattle.turn_server.specs.declared.action.Action.{Action}
use Rattle.turn_server.specs.declared.action.Action.TheVariants.{Dropped, Response as Responds, ToPeer}
use Rattle.turn_server.specs.declared.action.Opened.{Opened}
use Rattle.turn_server.specs.declared.action.Response.{Response}
use Rattle.turn_server.specs.declared.sockets.Sockets.{Sockets}
use Rattle.stun_types_c.specs.declared.address.Address.{Address}
use Rattle.stun_types_c.specs.declared.call_result.CResult.{CResult}
use Rattle.stun_types_c.specs.declared.turn_datagrams.CTurnAction.{CTurnAction}
use Rattle.stun_types_c.specs.declared.turn_datagrams.COpened.{COpened}
use Rattle.stun_types_c.specs.declared.turn_datagrams.CTurnDatagram.{CTurnDatagram}
use Rattle.stun_types_c.specs.declared.turn_core.TurnCore.{TurnCore}
use Rattle.stun_types_c.specs.Addresses.{Holds}
use Rattle.stun_types_c.specs.Codes.{OK, OUT_OF_MEMORY, BAD_ARGUMENT}
use Rattle.stun_types_c.specs.CResults.{plain, write_result, Refuses}
use Rattle.stun_types_c.specs.TurnAddresses.{nowhere, tuple_named, sockets_named}
use Rattle.stun_types_c.specs.TurnServers.{setup_in, rules_in}
use Rattle.stun_types_c.specs.Users.{held_of, long_term_key_of}

-- ---- What C is to do

-- no socket was taken
abbrev pub none_opened : COpened
none_opened = record { relay = 0; relayed = nowhere; took = 0 }

-- nothing; or to look for a key. The call ended so many relayed addresses
abbrev pub of_kind : (kind ended : ℕ) → CTurnAction
of_kind kind ended = record {
  relay = 0;
  at = 0;
  length = 0;
  ended = ended;
  ipv4 = none_opened;
  ipv6 = none_opened;
  peer = nowhere;
  kind = kind;
  code = 0;
  dont_fragment = 0;
  reserved = 0;
  claimed = 0;
  reserves = 0;
  claims = 0;
}

abbrev pub nothing : CTurnAction
nothing = of_kind 0 0

abbrev pub flag : Bool → ℕ
flag is_set = if is_set then 1 else 0

-- data goes to a peer from a socket
abbrev pub sending : (relay : ℕ) → Address → (dont_fragment : Bool) → (at length ended : ℕ) → CTurnAction
sending relay peer dont_fragment at length ended = record {
  relay = relay;
  at = at;
  length = length;
  ended = ended;
  ipv4 = none_opened;
  ipv6 = none_opened;
  peer = peer;
  kind = 2;
  code = 0;
  dont_fragment = flag dont_fragment;
  reserved = 0;
  claimed = 0;
  reserves = 0;
  claims = 0;
}

-- a response of some bytes is sent, or none; and these sockets were taken, and reserved or claimed by these
-- tokens
abbrev pub responding : (ipv4 ipv6 : COpened) → (reserved claimed : Option ℕ) → (kind code length ended : ℕ)
    → CTurnAction
responding ipv4 ipv6 reserved claimed kind code length ended = record {
  relay = 0;
  at = 0;
  length = length;
  ended = ended;
  ipv4 = ipv4;
  ipv6 = ipv6;
  peer = nowhere;
  kind = kind;
  code = code;
  dont_fragment = 0;
  reserved = unwrap_or reserved 0;
  claimed = unwrap_or claimed 0;
  reserves = flag (is_some reserved);
  claims = flag (is_some claimed);
}

-- the socket of a relayed address that was opened, or none
abbrev pub IsOpened : Option Opened → COpened → Type 0
IsOpened None held = held ≡ none_opened
IsOpened (Some opened) held =
    Holds (socket_of opened.relayed) held.relayed × ((held.relay ≡ opened.number) × (held.took ≡ 1))

-- a response is sent, or the call returns why it isn't written. Either way C has the sockets that were taken,
-- and the tokens
pub record IsSent (response : Response) (ended : ℕ) (result : CResult) (out : CTurnAction) : Type 0 where
  pub ipv4 : IsOpened response.opened.ipv4 out.ipv4
  pub ipv6 : IsOpened response.opened.ipv6 out.ipv6
  pub sent : MatchResult response.written
      (λ length. (result ≡ plain OK) × (out ≡ responding out.ipv4 out.ipv6 response.reserved response.claimed
      1 (unwrap_or response.code 0) length ended))
      (λ e. (result ≡ write_result e)
      × (out ≡ responding out.ipv4 out.ipv6 response.reserved response.claimed 0 0 0 ended))

-- what is done for an action, of a call that ended so many relayed addresses
abbrev pub IsInC : Action → (ended : ℕ) → CResult → CTurnAction → Type 0
IsInC Dropped ended result out = (result ≡ plain OK) × (out ≡ of_kind 0 ended)
IsInC (Responds response) ended result out = IsSent response ended result out
IsInC (ToPeer relay peer dont_fragment span) ended result out =
    (result ≡ plain OK) × (Holds (socket_of peer) out.peer
    × (out ≡ sending relay out.peer dont_fragment span.at span.length ended))

-- ---- A datagram

-- what a server is but for its allocations stays
pub record IsSameServer (old new : TurnCore) : Type 0 where
  pub access : new.access ≡ old.access
  pub rules : new.rules ≡ old.rules
  pub limits : new.server.limits ≡ old.server.limits

-- the server acts on d as `TurnServer` does; C has the response, and what else is to be done
pub record ActsInC (core : TurnCore) (now : ℕ) (tuple : FiveTuple) (d : List ℕ)
    (keys : Who → List ℕ → PasswordAlgorithmValue → Option UserKey) (sockets : Sockets)
    (result : CResult) (slice : List ℕ) (new : TurnCore) (new_slice : List ℕ) (out : CTurnAction)
    : Type 0 where
  pub action : Action
  pub acts : Acts core.access sockets keys (setup_in core) (rules_in core) tuple now d core.server new.server
      slice new_slice action
  pub same : IsSameServer core new
  pub in_c : IsInC action (length new.server.ended) result out

-- whether what comes of d depends on a key
abbrev pub asks_for_key : TurnCore → (now : ℕ) → (client : Endpoint) → List ℕ → Bool
asks_for_key core now client d =
    needs_key (last_channel core.server.limits.old_channels) core.access.policy
    (nonces_at client now core.access) d

-- ---- The call

-- what a call leaves: a server, a slice, and what C is to do
pub record Left : Type 0 where
  pub core : Option TurnCore
  pub slice : List ℕ
  pub action : CTurnAction

-- an allocation fails, while a key is copied, and nothing changes; or the server acts
abbrev pub ActsOn : TurnCore → (now : ℕ) → FiveTuple → List ℕ
    → (keys : Who → List ℕ → PasswordAlgorithmValue → Option UserKey) → Sockets → CResult → Left → Left
    → Type 0
ActsOn core now tuple d keys sockets result old new =
    ((asks_for_key core now tuple.client d ≡ true) × Refuses (plain OUT_OF_MEMORY) result old new)
    ⊎ IsSomeAnd new.core (λ kept.
    ActsInC core now tuple d keys sockets result old.slice kept new.slice new.action)

-- if a key is needed that wasn't looked up, nothing changes, and the call says so
abbrev pub Takes : (is_missing : Bool) → TurnCore → (now : ℕ) → FiveTuple
    → List ℕ → (keys : Who → List ℕ → PasswordAlgorithmValue → Option UserKey) → Sockets → CResult
    → Left → Left → Type 0
Takes true core now tuple d keys sockets result old new =
    (result ≡ plain OK)
    × (new ≡ record { core = old.core; slice = old.slice; action = of_kind 3 0 })
Takes false core now tuple d keys sockets result old new =
    ActsOn core now tuple d keys sockets result old new

-- the keys that C looked up, by both password algorithms
abbrev pub keys_in_c : (md5 sha256 : Option IntegrityKey) → Who → List ℕ → PasswordAlgorithmValue
    → Option UserKey
keys_in_c md5 sha256 user realm = long_term_key_of (held_of md5) (held_of sha256)

-- the 5-tuple, the sockets and the token that C passes, if `reserved` is 0
abbrev pub named_in : CTurnDatagram → Option (FiveTuple × Sockets)
named_in datagram =
    if datagram.reserved == 0
    then option_zip (tuple_named datagram.from) (sockets_named datagram.ready datagram.token) else None

abbrev pub TakesDatagram : (now : ℕ) → CTurnDatagram → (md5 sha256 : Option IntegrityKey) → CResult
    → Left → Left → Type 0
TakesDatagram now datagram md5 sha256 result old new =
    let d = datagram.bytes.now in
    let looked_up = not (datagram.looked_up == 0) in
    MatchOption (named_in datagram)
    (Refuses (plain BAD_ARGUMENT) result old new)
    (λ named. MatchOption old.core
    (Refuses (plain BAD_ARGUMENT) result old new)
    (λ core. Takes (not looked_up && asks_for_key core now named.0.client d) core now named.0 d
    (keys_in_c md5 sha256) named.1 result old new))
