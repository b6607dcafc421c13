-- A TURN client that speaks bytes: the machine, its account at the server, and the credentials that its
-- requests are signed by (RFC 8656, section 5; RFC 8489, section 9.2).
use Rattle.std.specs.Prelude.{ℕ, Bool, List, [], ◌∷◌, find, Option, None, Some, ◌==◌, if◌then◌else◌}
use Rattle.std.specs.Option.{option_map, option_map_or}
use Rattle.stun_attributes.specs.Texts.{text_bytes}
use Rattle.stun_authentication.specs.Challenges.{Retry, retry_of}
use Rattle.stun_authentication.specs.Requests.{User}
use Rattle.stun_base.specs.declared.transport.AddressFamily.{AddressFamily}
use Rattle.stun_base.specs.declared.transport.AddressFamily.TheVariants.{IPV4, IPV6}
use Rattle.stun_base.specs.declared.transport.TransportType.{TransportType}
use Rattle.stun_base.specs.declared.transport.TransportType.TheVariants.{Udp, Tcp}
use Rattle.stun_keys.specs.declared.keys.integrity_key.IntegrityKey.{IntegrityKey}
use Rattle.stun_values.specs.declared.algorithm.PasswordAlgorithmValue.{PasswordAlgorithmValue}
use Rattle.stun_values.specs.declared.algorithm.PasswordAlgorithmValue.TheVariants.{MD5, SHA256}
use Rattle.turn_client_machine.specs.declared.requests.Request.{Request}
use Rattle.turn_client_machine.specs.Events.{Event}
use Rattle.turn_client_messages.specs.Views.{Content}
use Rattle.turn_client_state.specs.declared.settings.Settings.{Settings}
use Rattle.turn_client_state.specs.States.{Held, after}
use Rattle.turn_requests.specs.Requests.{Credentials}
use Rattle.turn_client.specs.declared.account.Account.{Account}
use Rattle.turn_client.specs.declared.logins.KeptLogin.{KeptLogin}

-- ---- Credentials by the number that a challenge got

pub record Kept : Type 0 where
  pub number : ℕ
  pub retry : Retry
  pub key : IntegrityKey

abbrev pub kept_of : KeptLogin → Kept
kept_of login = record { number = login.number; retry = retry_of login.retry; key = login.key }

abbrev pub has_number : (number : ℕ) → Kept → Bool
has_number number kept = number == kept.number

-- ---- The account

-- the family that Allocate requests name: without one the server gives IPv4 (RFC 8656, section 7.1)
abbrev pub family_in : (family : ℕ) → (names_ipv4 : Bool) → Option AddressFamily
family_in family names_ipv4 =
    if family == 2 then Some IPV6 else (if names_ipv4 then Some IPV4 else None)

-- what is the same in all requests
abbrev pub content_of : Settings → Account → Content
content_of settings account = record {
  lifetime = account.lifetime;
  family = family_in settings.family account.names_ipv4;
  port = account.port;
  dont_fragment = account.dont_fragment;
  software = option_map text_bytes account.software;
  fingerprint = account.fingerprint;
}

-- the password algorithms of a client, the one that it prefers first (RFC 8489, section 18.5.1)
abbrev pub algorithms_in : (only : Option PasswordAlgorithmValue) → List PasswordAlgorithmValue
algorithms_in None = SHA256 ∷ MD5 ∷ []
algorithms_in (Some one) = one ∷ []

-- ---- The client

-- the machine; over which transport it asks; the password algorithms; what is the same in all requests; the user; and the
-- credentials that are kept, the oldest first
pub record Client : Type 0 where
  pub held : Held
  pub transport : TransportType
  pub algorithms : List PasswordAlgorithmValue
  pub content : Content
  pub user : User
  pub kept : List Kept

abbrev pub transport_of : (is_reliable : Bool) → TransportType
transport_of is_reliable = if is_reliable then Tcp else Udp

-- the client after an event
abbrev pub passes : (now fresh : ℕ) → Event → Client → Client
passes now fresh event client = record client { held = after now fresh event client.held }

-- the credentials for a challenge
abbrev pub credentials_by : (user : User) → Kept → Credentials
credentials_by user kept = record { retry = kept.retry; name = user.name; key = kept.key }

abbrev pub kept_with : Client → (number : ℕ) → Option Credentials
kept_with client number =
    option_map (credentials_by client.user) (find (has_number number) client.kept)

-- those that sign a request
abbrev pub login_for : Client → Request → Option Credentials
login_for client request = option_map_or (kept_with client) request.challenge None
