-- Two agents of a session that check each other, as `one` and `other`: what each has of the other's credentials.
use Rattle.std.specs.Prelude.{◌≡◌, ℕ, ◌^◌, ◌<◌, ◌≤◌, true, List, length, Option, Some, IfSome}
use Rattle.stun_grammar.specs.declared.integrity_algorithm.IntegrityAlgorithm.TheVariants.{Sha1}
use Rattle.stun_keys.specs.Keys.{key_algorithm, key_bytes, serves}
use Rattle.stun_endpoints.specs.declared.endpoints.Endpoint.{Endpoint}
use Rattle.stun_endpoints.specs.Conversions.{is_address}
use Rattle.ice_machine.specs.declared.messages.Request.{Request}
use Rattle.ice_checks.specs.Views.{Login, Logins}

-- the same credentials, and both keys work with MESSAGE-INTEGRITY
pub record IsSame (a b : Login) : Type 0 where
  pub fragment : a.fragment ≡ b.fragment
  pub bytes : key_bytes a.key ≡ key_bytes b.key
  pub a_works : serves (key_algorithm a.key) Sha1 ≡ true
  pub b_works : serves (key_algorithm b.key) Sha1 ≡ true

-- one has the other's credentials, as peer; the other has the one's fragment, or none yet
pub record Knows (one : Logins) (peer : Login) (other : Logins) : Type 0 where
  pub known : one.peer ≡ Some peer
  pub same : IsSame peer other.own
  pub named : IfSome other.peer (λ login. login.fragment ≡ one.own.fragment)

-- the fragments are no longer than fragments are (RFC 8445, section 5.3), and the name of the software than a
-- SOFTWARE (RFC 8489, section 14.14)
pub record AreShort (one : Logins) (peer : Login) (software : Option (List ℕ)) : Type 0 where
  pub own_fragment : length one.own.fragment ≤ 256
  pub peer_fragment : length peer.fragment ≤ 256
  pub name : IfSome software (λ name. length name ≤ 763)

-- the numbers of a request fit their fields
pub record IsInFields (r : Request) : Type 0 where
  pub id : r.id < 2 ^ 96
  pub tiebreaker : r.tiebreaker < 2 ^ 64
  pub priority : r.priority < 2 ^ 32

-- a transport address
pub record IsTransport (e : Endpoint) : Type 0 where
  pub ip : is_address e.ip ≡ true
  pub port : e.port < 2 ^ 16
