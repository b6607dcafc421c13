-- A client and its server, as the laws need them: what both have to agree on.
use Rattle.std.specs.Prelude.{◌≡◌, ℕ, ◌^◌, ◌<◌, ◌≤◌, Bool, true, false, List, ◌∷◌, length, Some, IfSome, ◌==◌}
use Rattle.std.specs.List.{AllByRecursion}
use Rattle.stun_grammar.specs.Writing.{greatest_length}
use Rattle.stun_base.specs.declared.transport.TransportType.{TransportType}
use Rattle.stun_base.specs.declared.transport.TransportType.TheVariants.{Udp, Tcp}
use Rattle.stun_keys.specs.Keys.{key_bytes}
use Rattle.stun_values.specs.declared.algorithm.PasswordAlgorithmValue.{PasswordAlgorithmValue}
use Rattle.stun_authentication.specs.Challenges.{signing_algorithm}
use Rattle.stun_authentication.specs.Lookups.{UserKey}
use Rattle.stun_authentication.specs.Requests.{User, asked_identity, user_key}
use Rattle.stun_endpoints.specs.Conversions.{is_address}
use Rattle.stun_endpoints.specs.declared.endpoints.Endpoint.{Endpoint}
use Rattle.stun_exchanges.specs.Offers.{IsOffered, Takes, IsShort}
use Rattle.stun_exchanges.specs.Premises.{Serves, Works}
use Rattle.turn_client_machine.specs.declared.requests.Kind.{Kind}
use Rattle.turn_client_machine.specs.declared.requests.Kind.TheVariants.{Allocate, Refresh, Delete, Permit, Bind}
use Rattle.turn_client_messages.specs.Views.{Content}
use Rattle.turn_requests.specs.Requests.{Credentials}
use Rattle.turn_server.specs.Judging.{Site}
use Rattle.turn_sessions.specs.Requests.{token_in}

-- ---- Addresses and numbers that fit their fields

-- a transport address
pub record IsTransport (e : Endpoint) : Type 0 where
  pub ip : is_address e.ip ≡ true
  pub port : e.port < 2 ^ 16

-- the number of a channel (RFC 8656, section 12)
pub record IsChannel (channel : ℕ) : Type 0 where
  pub least : 0x4000 ≤ channel
  pub most : channel ≤ 0x4FFF

-- what a request names, with these further peers
abbrev pub IsNamed : (others : List Endpoint) → Kind → Type 0
IsNamed others Allocate = Unit {0}
IsNamed others Refresh = Unit {0}
IsNamed others Delete = Unit {0}
IsNamed others (Permit peer) = AllByRecursion IsTransport (peer ∷ others)
IsNamed others (Bind channel peer) = IsChannel channel × IsTransport peer

-- and what all requests of a client have: lifetimes have 32 bits, a token 64, and a SOFTWARE at most 763 bytes
-- (RFC 8489, section 14.14)
pub record IsInFields (content : Content) : Type 0 where
  pub lifetime : IfSome content.lifetime (λ seconds. seconds < 2 ^ 32)
  pub software : IfSome content.software (λ name. length name ≤ 763)
  pub token : IfSome (token_in content.port) (λ token. token < 2 ^ 64)

-- a client asks for the DF bit only if the server sets it: another server refuses its requests with 420
abbrev pub IsKnown : (sets_df : Bool) → Content → Type 0
IsKnown sets_df content = content.dont_fragment ≡ true → sets_df ≡ true

-- a message is no longer than its length field can state
abbrev pub Fits : List ℕ → Type 0
Fits d = length d ≤ greatest_length

-- ---- Credentials (RFC 8489, sections 9.2.4 and 9.2.5)

-- a client answers a challenge as this user: its key is that of the user's password
pub record IsLogin (login : Credentials) (user : User) : Type 0 where
  pub name_is : login.name ≡ user.name
  pub key_is : key_bytes login.key ≡ user_key login.retry user

-- The challenge is one of the server, whose nonce is still valid, and the client took one of its
-- algorithms. The server has this key for the user, which is that of the password, and its policy takes what
-- the client writes: with a FINGERPRINT, or without
pub record Admits (site : Site) (login : Credentials) (user : User) (key : UserKey) (fingerprint : Bool)
    : Type 0 where
  pub algorithms : List PasswordAlgorithmValue
  pub supported : List PasswordAlgorithmValue
  pub realm_is : login.retry.asked.realm ≡ site.realm
  pub offered : IsOffered site.nonces login.retry.asked algorithms
  pub takes : Takes supported login.retry.asked login.retry.algorithm
  pub short : IsShort login.retry.asked user.name
  pub known : site.keys (asked_identity login.retry.asked user.name) login.retry.asked.realm
      login.retry.algorithm ≡ Some key
  pub works : Works (user_key login.retry user) (signing_algorithm login.retry) key
  pub serves : Serves site.policy (signing_algorithm login.retry) fingerprint

-- ---- The transport between them

-- a client's transport is this protocol number, 17 for UDP, or that of a stream
abbrev pub IsTransported : TransportType → (protocol : ℕ) → Type 0
IsTransported Udp protocol = (protocol == 17) ≡ true
IsTransported Tcp protocol = (protocol == 17) ≡ false
