-- What a server is at a moment, by what the caller passes.
use Rattle.std.specs.Prelude.{ℕ, List, Option}
use Rattle.stun_attributes.specs.Texts.{text_bytes}
use Rattle.stun_values.specs.declared.algorithm.PasswordAlgorithmValue.{PasswordAlgorithmValue}
use Rattle.stun_authentication.specs.Identities.{Who}
use Rattle.stun_authentication.specs.Lookups.{UserKey}
use Rattle.stun_endpoints.specs.declared.endpoints.Endpoint.{Endpoint}
use Rattle.turn_server.specs.declared.access.Access.{Access}
use Rattle.turn_server.specs.declared.sockets.Sockets.{Sockets}
use Rattle.turn_server.specs.Access.{nonces_at}
use Rattle.turn_server.specs.Judging.{Site}

abbrev pub site_of : Access → Sockets
    → (keys : Who → List ℕ → PasswordAlgorithmValue → Option UserKey) → (client : Endpoint)
    → (now : ℕ) → Site
site_of access sockets keys client now = record {
  policy = access.policy;
  realm = text_bytes access.realm;
  nonces = nonces_at client now access;
  keys = keys;
  client = client.ip;
  sockets = sockets;
}
