-- Nonces that a server in C makes and doesn't keep (RFC 8489, sections 9.2, 9.2.4 and 14.10).
use Rattle.std.specs.Prelude.{◌≡◌, ◌⊎◌, ℕ, List, length, Option, None, Some, MatchOption, nat_lt, if◌then◌else◌}
use Rattle.std.specs.declared.net.socket_addr.SocketAddr.{SocketAddr}
use Rattle.stun_keys.specs.declared.keys.integrity_key.IntegrityKey.{IntegrityKey}
use Rattle.stun_keys.specs.Keys.{key_bytes}
use Rattle.stun_values.specs.Addresses.{address_value}
use Rattle.stun_authentication.specs.declared.cookie.SecurityFeatures.{SecurityFeatures}
use Rattle.stun_authentication.specs.declared.nonces.Freshness.{Freshness}
use Rattle.stun_authentication.specs.declared.nonces.Freshness.TheVariants.{Fresh, Stale, Unknown}
use Rattle.stun_authentication.specs.Nonces.{Minting, minting, minted, freshness, secret_min}
use Rattle.stun_types_c.specs.declared.address.Address.{Address}
use Rattle.stun_types_c.specs.declared.call_result.CResult.{CResult}
use Rattle.stun_types_c.specs.Addresses.{ip_named, IsAt}
use Rattle.stun_types_c.specs.CResults.{plain, Refuses}
use Rattle.stun_types_c.specs.Codes.{OK, OUT_OF_MEMORY, BAD_ARGUMENT, NO_KEY}
use Rattle.stun_types_c.specs.Refusals.{features_named, Delivers}
use Rattle.stun_types_c.specs.Writing.{Written}

-- why a secret makes no nonces: it is too short
abbrev pub secret_answer : (secret : List ℕ) → Option CResult
secret_answer secret =
    if nat_lt (length secret) secret_min then Some (plain BAD_ARGUMENT) else None

-- something is done by what a server makes nonces by, unless an allocation fails
abbrev pub ByKey : {T : Type 0}
    → (Minting → (place : List ℕ) → CResult → (old new : T) → Type 0) → IntegrityKey
    → SecurityFeatures → (window : ℕ) → SocketAddr → CResult → (old new : T) → Type 0
ByKey Done key features window client result old new =
    MatchOption (secret_answer (key_bytes key))
    (Done (minting (key_bytes key) features window) (address_value client) result old new
    ⊎ Refuses (plain OUT_OF_MEMORY) result old new)
    (λ answer. Refuses answer result old new)

-- the same by what C passes: the number of the features, an address, and a secret
abbrev pub ByMaker : {T : Type 0}
    → (Minting → (place : List ℕ) → CResult → (old new : T) → Type 0) → Option IntegrityKey
    → (features window : ℕ) → Address → CResult → (old new : T) → Type 0
ByMaker Done secret features window client result old new =
    MatchOption (features_named features)
    (Refuses (plain BAD_ARGUMENT) result old new)
    (λ reported. MatchOption (ip_named client)
    (Refuses (plain BAD_ARGUMENT) result old new)
    (λ ip. MatchOption secret
    (Refuses (plain NO_KEY) result old new)
    (λ key. (a : SocketAddr) × IsAt ip client.port a × ByKey Done key reported window a result old new)))

-- the nonce for an address at a time is written at the start of a slice
abbrev pub Makes : (now : ℕ) → Minting → (place : List ℕ) → CResult → (old new : Written) → Type 0
Makes now minting place = Delivers (minted minting now place)

-- the number of what is known of a nonce, as the authentication takes it
abbrev pub state_number : Freshness → ℕ
state_number Fresh = 1
state_number Stale = 2
state_number Unknown = 0

-- what is known of a nonce that came from an address
abbrev pub Judges : (now : ℕ) → (nonce : List ℕ) → Minting → (place : List ℕ) → CResult
    → (old new : ℕ) → Type 0
Judges now nonce minting place result old new =
    (result ≡ plain OK) × (new ≡ state_number (freshness minting now place nonce))
