-- How a server authenticates its clients, and what it asks them for (RFC 8489, section 9.2).
use Rattle.std.specs.Prelude.{◌≡◌, ℕ, ◌/◌, ◌≤◌, List, [], ◌∷◌, Option, Some, if◌then◌else◌}
use Rattle.stun_grammar.specs.AttributeTypes.{NONCE}
use Rattle.std.specs.Option.{option_map}
use Rattle.std.specs.declared.net.socket_addr.SocketAddr.{SocketAddr}
use Rattle.stun_attributes.specs.Texts.{text_bytes}
use Rattle.stun_values.specs.Addresses.{address_value}
use Rattle.stun_values.specs.declared.algorithm.PasswordAlgorithmValue.{PasswordAlgorithmValue}
use Rattle.stun_values.specs.declared.algorithm.PasswordAlgorithmValue.TheVariants.{MD5, SHA256}
use Rattle.stun_authentication.specs.declared.cookie.SecurityFeatures.{SecurityFeatures}
use Rattle.stun_authentication.specs.Asking.{Asked, asked_for, listed}
use Rattle.stun_authentication.specs.Identities.{value_of}
use Rattle.stun_authentication.specs.Lookups.{Known}
use Rattle.stun_authentication.specs.Nonces.{Minting, age, minted, minting_of, freshness, known_as, stated_time}
use Rattle.stun_endpoints.specs.declared.endpoints.Endpoint.{Endpoint}
use Rattle.turn_server.specs.declared.access.Access.{Access}
use Rattle.stun_endpoints.specs.Conversions.{socket_of}

-- the whole seconds of a time in nanoseconds, which the nonces count
abbrev pub seconds_of : ℕ → ℕ
seconds_of now = now / 1_000_000_000

-- the password algorithms that a server sends with each nonce, if its features promise some
abbrev pub offered : SecurityFeatures → List PasswordAlgorithmValue
offered features = if features.password_algorithms then SHA256 ∷ MD5 ∷ [] else []

-- what is known of a nonce that a client sends
abbrev pub nonces_of : Minting → (now : ℕ) → (client : SocketAddr) → List ℕ → Known
nonces_of minting now client nonce =
    known_as (offered minting.features)
    (freshness minting (seconds_of now) (address_value client) nonce)

-- the same at an address of the table
abbrev pub nonces_at : (client : Endpoint) → (now : ℕ) → Access → List ℕ → Known
nonces_at client now access = nonces_of (minting_of access.nonces) now (socket_of client)

-- the nonce that a client gets
abbrev pub nonce_for : Minting → (now : ℕ) → (client : SocketAddr) → List ℕ
nonce_for minting now client = minted minting (seconds_of now) (address_value client)

-- what a 401 or a 438 asks a client for
abbrev pub asked_by : Access → (now : ℕ) → (client : SocketAddr) → Asked
asked_by access now client =
    let minting = minting_of access.nonces in
    asked_for (text_bytes access.realm) (nonce_for minting now client)
    (listed (offered minting.features))

-- d shows the nonce that was made for this client, at most as many seconds before as a nonce is valid
pub record IsRecent (minting : Minting) (now : ℕ) (client : Endpoint) (d : List ℕ) : Type 0 where
  pub nonce : List ℕ
  pub shown : value_of d NONCE ≡ Some nonce
  pub made : nonce ≡ minted minting (stated_time nonce) (address_value (socket_of client))
  pub fresh : age now (stated_time nonce) ≤ minting.window

-- the SOFTWARE of its responses
abbrev pub software_in : Access → Option (List ℕ)
software_in access = option_map text_bytes access.software
