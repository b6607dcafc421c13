-- How a TURN client is made by what C passes.
use Rattle.std.specs.Prelude.{◌≡◌, ◌⊎◌, ℕ, ◌*◌, Bool, true, false, List, [], ◌∷◌, length, Option, None, Some, is_some, MatchOption, option_and_then, nat_lt, ◌==◌, if◌then◌else◌}
use Rattle.std.specs.Option.{option_map, option_or}
use Rattle.stun_base.specs.declared.transport.TransportType.{TransportType}
use Rattle.stun_base.specs.declared.transport.TransportType.TheVariants.{Udp, Tcp}
use Rattle.stun_endpoints.specs.declared.endpoints.Endpoint.{Endpoint}
use Rattle.stun_values.specs.declared.algorithm.PasswordAlgorithmValue.{PasswordAlgorithmValue}
use Rattle.stun_authentication.specs.Requests.{User}
use Rattle.turn_client_machine.specs.Runs.{begun}
use Rattle.turn_client_messages.specs.Views.{Content}
use Rattle.turn_client_state.specs.declared.settings.Settings.{Settings}
use Rattle.turn_client_state.specs.Reports.{nothing_of}
use Rattle.turn_client_state.specs.States.{setup_of}
use Rattle.turn_client.specs.Clients.{Client, algorithms_in, family_in, transport_of}
use Rattle.turn_requests.specs.declared.request.RelayedPort.{RelayedPort}
use Rattle.turn_requests.specs.declared.request.RelayedPort.TheVariants.{Any, Even, Reserved}
use Rattle.stun_types_c.specs.declared.allocation_core.AllocationCore.{AllocationCore}
use Rattle.stun_types_c.specs.declared.allocation_settings.CAllocationSettings.{CAllocationSettings}
use Rattle.stun_types_c.specs.declared.allocation_settings.Checked.{Checked}
use Rattle.stun_types_c.specs.declared.allocation_settings.Counts.{Counts}
use Rattle.stun_types_c.specs.declared.call_result.CResult.{CResult}
pub use Rattle.stun_types_c.specs.Addresses.{endpoint_named}
use Rattle.stun_types_c.specs.CResults.{plain, counted, Refuses}
use Rattle.stun_types_c.specs.Codes.{OK, TOO_LARGE, OUT_OF_MEMORY}
use Rattle.stun_types_c.specs.Credentials.{texts_refusal}
use Rattle.stun_types_c.specs.Keys.{password_answer}
use Rattle.stun_types_c.specs.PasswordAlgorithms.{password_numbered}
use Rattle.stun_types_c.specs.Refusals.{text_answer}
use Rattle.stun_types_c.specs.Transactions.{transport_numbered}
use Rattle.stun_types_c.specs.TurnMaking.{argument_answer, is_set, software_named}

-- ---- What each number means

-- the family of the relayed address, and whether Allocate requests name it although it is IPv4
abbrev pub family_named : ℕ → Option (ℕ × Bool)
family_named number =
    if number == 0 then Some (1, false) else (
    if number == 4 then Some (1, true) else (
    if number == 6 then Some (2, false) else None))

-- a number that is at most the greatest; 0 is the usual one
abbrev pub number_named : (greatest usual number : ℕ) → Option ℕ
number_named greatest usual number =
    if number == 0 then Some usual else (if nat_lt greatest number then None else Some number)

abbrev pub counts_named : CAllocationSettings → Option Counts
counts_named named =
    option_and_then (λ peers. option_and_then (λ most_named. option_and_then (λ sends. option_map (λ retries.
    record { peers = peers; named = most_named; sends = sends; retries = retries })
    (number_named 255 3 named.retries)) (number_named 255 7 named.sends)) (number_named 16 8 named.named))
    (number_named 4096 32 named.peers)

-- a wait of milliseconds, in nanoseconds; 0 is the usual one
abbrev pub wait_named : (millis usual : ℕ) → ℕ
wait_named millis usual = if millis == 0 then usual else millis * 1_000_000

-- the one password algorithm; 0 names none
abbrev pub algorithm_named : ℕ → Option (Option PasswordAlgorithmValue)
algorithm_named number =
    if number == 0 then Some None else option_map (λ one. Some one) (password_numbered number)

abbrev pub lifetime_named : ℕ → Option ℕ
lifetime_named seconds = if seconds == 0 then None else Some seconds

-- the port of a number, without a token: any, an even one, or one with the next one reserved; and of a number
-- and a token: 3 is the port that the token reserves
abbrev pub port_numbered : ℕ → Option RelayedPort
port_numbered number =
    if number == 0 then Some Any else (
    if number == 1 then Some (Even false) else (
    if number == 2 then Some (Even true) else None))

abbrev pub port_named : (number token : ℕ) → Option RelayedPort
port_named number token =
    if number == 3 then Some (Reserved token) else (
    if token == 0 then port_numbered number else None)

-- ---- The settings

-- over UDP (RFC 8489, section 6.2.1); and over TCP, where a request is sent once (section 6.2.2)
abbrev pub settings_by : CAllocationSettings → TransportType → (server : Endpoint) → (family : ℕ) → Counts
    → Settings
settings_by named Udp server family counts = record {
  server = server;
  family = family;
  is_reliable = false;
  most_peers = counts.peers;
  most_named = counts.named;
  most_sends = counts.sends;
  most_retries = counts.retries;
  rto = wait_named named.rto 500_000_000;
  last_wait = wait_named named.last_wait (wait_named named.rto 500_000_000 * 16);
}
settings_by named Tcp server family counts = record {
  server = server;
  family = family;
  is_reliable = true;
  most_peers = counts.peers;
  most_named = counts.named;
  most_sends = 1;
  most_retries = counts.retries;
  rto = 500_000_000;
  last_wait = wait_named named.last_wait 39_500_000_000;
}

abbrev pub checked_with : CAllocationSettings → (server : Endpoint) → TransportType → (family : ℕ × Bool) → Counts
    → RelayedPort → (only : Option PasswordAlgorithmValue) → Checked
checked_with named server transport family counts port only = record {
  settings = settings_by named transport server family.0 counts;
  names_ipv4 = family.1;
  port = port;
  only_algorithm = only;
}

-- each number is in its range
abbrev pub checked_named : CAllocationSettings → Option Checked
checked_named named =
    option_and_then (λ server. option_and_then (λ transport. option_and_then (λ family. option_and_then (λ counts.
    option_and_then (λ port.
    option_map (checked_with named server transport family counts port) (algorithm_named named.algorithm))
    (port_named named.port named.token)) (counts_named named)) (family_named named.family))
    (transport_numbered named.transport)) (endpoint_named named.server)

-- ---- Why no client is made

-- how many bytes a user's name has at most (RFC 8489, section 14.3)
abbrev pub user_max : ℕ
user_max = 508

abbrev pub user_answer : List ℕ → Option CResult
user_answer user =
    if nat_lt user_max (length user) then Some (counted TOO_LARGE user_max (length user)) else None

abbrev pub credentials_answer : (user password : List ℕ) → Option CResult
credentials_answer user password =
    option_or (password_answer password)
    (option_or (user_answer user) (texts_refusal (user ∷ password ∷ [])))

abbrev pub account_answer : CAllocationSettings → Option CResult
account_answer named =
    option_or (credentials_answer named.user.now named.password.now) (text_answer named.software.now)

-- the first of these
abbrev pub client_answer : CAllocationSettings → Option CResult
client_answer named =
    option_or (argument_answer (is_some (checked_named named))) (account_answer named)

-- ---- The client

abbrev pub content_named : CAllocationSettings → Checked → Content
content_named named checked = record {
  lifetime = lifetime_named named.lifetime;
  family = family_in checked.settings.family checked.names_ipv4;
  port = checked.port;
  dont_fragment = is_set named.dont_fragment;
  software = software_named named.software.now;
  fingerprint = is_set named.fingerprint;
}

abbrev pub user_named : CAllocationSettings → User
user_named named = record { name = named.user.now; password = named.password.now }

-- it hasn't asked for anything
abbrev pub client_of : CAllocationSettings → Checked → Client
client_of named checked = record {
  held = record { settings = checked.settings; state = begun (setup_of checked.settings) };
  transport = transport_of checked.settings.is_reliable;
  algorithms = algorithms_in checked.only_algorithm;
  content = content_named named checked;
  user = user_named named;
  kept = [];
}

-- and nothing was reported of it
abbrev pub made_of : CAllocationSettings → Checked → AllocationCore
made_of named checked =
    record { client = client_of named checked; changes = nothing_of checked.settings }

-- a handle holds it, or the call returns why not, and the handle holds what it held
abbrev pub MakesClient : CAllocationSettings → CResult → (old new : Option AllocationCore) → Type 0
MakesClient named result old new =
    MatchOption (client_answer named)
    ((result ≡ plain OK) × (new ≡ option_map (made_of named) (checked_named named)))
    (λ answer. Refuses answer result old new)
    ⊎ Refuses (plain OUT_OF_MEMORY) result old new
