-- What the code is given, as values: nothing is borrowed in them.
use Rattle.std.specs.Prelude.{ℕ, Bool, List, Option}
use Rattle.std.specs.Option.{option_map}
use Rattle.stun_attributes.specs.Texts.{text_bytes}
use Rattle.stun_base.specs.declared.transport.AddressFamily.{AddressFamily}
use Rattle.stun_base.specs.declared.transport.TransportType.{TransportType}
use Rattle.stun_endpoints.specs.declared.endpoints.Endpoint.{Endpoint}
use Rattle.stun_values.specs.declared.algorithm.PasswordAlgorithmValue.{PasswordAlgorithmValue}
use Rattle.turn_client_machine.specs.declared.requests.Request.{Request}
use Rattle.turn_requests.specs.declared.request.RelayedPort.{RelayedPort}
use Rattle.turn_requests.specs.Requests.{Credentials, credentials_in}
use Rattle.turn_client_messages.specs.declared.request.ClientRequest.{ClientRequest}
use Rattle.turn_client_messages.specs.declared.request.RequestSettings.{RequestSettings}
use Rattle.turn_client_messages.specs.declared.session.Session.{Session}

-- a request of the machine, and the credentials that sign it
pub record Asked : Type 0 where
  pub request : Request
  pub login : Option Credentials

abbrev pub asked_of : ClientRequest → Asked
asked_of r = record { request = r.request; login = credentials_in r.login }

-- what is the same in all requests
pub record Content : Type 0 where
  pub lifetime : Option ℕ
  pub family : Option AddressFamily
  pub port : RelayedPort
  pub dont_fragment : Bool
  pub software : Option (List ℕ)
  pub fingerprint : Bool

abbrev pub content_of : RequestSettings → Content
content_of settings = record {
  lifetime = settings.lifetime;
  family = settings.family;
  port = settings.port;
  dont_fragment = settings.dont_fragment;
  software = option_map (λ it. text_bytes it.now) settings.software;
  fingerprint = settings.fingerprint;
}

-- what a client knows of its server
pub record Dealing : Type 0 where
  pub server : Endpoint
  pub transport : TransportType
  pub algorithms : List PasswordAlgorithmValue
  pub had_algorithms : Bool

abbrev pub dealing_of : Session → Dealing
dealing_of session = record {
  server = session.server;
  transport = session.transport;
  algorithms = session.algorithms.now;
  had_algorithms = session.had_algorithms;
}
