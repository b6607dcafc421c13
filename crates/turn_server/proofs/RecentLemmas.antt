-- A login shows a nonce that is recent.
use Rattle.std.proofs.Common.{◌≡◌, ℕ, Bool, true, false, List, Some, if◌then◌else◌, refl}
use Rattle.std.proofs.lemmas.Bool.{leb-true}
use Rattle.std.specs.Cmp.Lexicographic.{pointwise}
use Rattle.std.specs.Prelude.{◌≢◌, nat_eq, nat_le}
use Rattle.stun_grammar.specs.AttributeTypes.{NONCE}
use Rattle.stun_values.specs.Addresses.{address_value}
use Rattle.stun_values.specs.declared.algorithm.PasswordAlgorithmValue.{PasswordAlgorithmValue}
use Rattle.stun_authentication.specs.declared.nonces.Freshness.{Freshness}
use Rattle.stun_authentication.specs.declared.nonces.Freshness.TheVariants.{Fresh, Stale, Unknown}
use Rattle.stun_authentication.specs.Identities.{value_of}
use Rattle.stun_authentication.specs.Lookups.{valid}
use Rattle.stun_authentication.specs.Nonces.{Minting, minting_of, minted, stated_time, age, freshness, known_as}
use Rattle.stun_endpoints.specs.Conversions.{socket_of}
use Rattle.stun_endpoints.specs.declared.endpoints.Endpoint.{Endpoint}
use Rattle.turn_server.specs.declared.access.Access.{Access}
use Rattle.turn_server.specs.Access.{offered, nonces_at, seconds_of, IsRecent}

-- what the law of nonces says
abbrev pub Own : Type 0
Own = (minting : Minting) (now : ℕ) (place nonce : List ℕ) → freshness minting now place nonce ≢ Unknown → nonce ≡ minted minting (stated_time nonce) place

valid_is_fresh : (algorithms sent : List PasswordAlgorithmValue) (f : Freshness) → known_as algorithms f ≡ valid sent → f ≡ Fresh
valid_is_fresh algorithms sent Fresh e = refl
valid_is_fresh algorithms sent Stale e = absurd cc
valid_is_fresh algorithms sent Unknown e = absurd cc

known_if_fresh : (f : Freshness) → f ≡ Fresh → f ≢ Unknown
known_if_fresh Fresh is e = absurd cc
known_if_fresh Stale is e = absurd cc
known_if_fresh Unknown is e = absurd cc

fresh_in_window : (own in_window : Bool) → (if own then (if in_window then Fresh else Stale) else Unknown) ≡ Fresh → in_window ≡ true
fresh_in_window true true e = refl
fresh_in_window true false e = absurd cc
fresh_in_window false in_window e = absurd cc

pub is_recent : Own → (access : Access) (client : Endpoint) (now : ℕ) (d nonce : List ℕ) (sent : List PasswordAlgorithmValue) → value_of d NONCE ≡ Some nonce → nonces_at client now access nonce ≡ valid sent
    → IsRecent (minting_of access.nonces) (seconds_of now) client d
is_recent own access client now d nonce sent shown is_valid =
    let minting = minting_of access.nonces in
    let place = address_value (socket_of client) in
    let fresh = valid_is_fresh (offered minting.features) sent (freshness minting (seconds_of now) place nonce) is_valid in
    record {
      nonce = nonce;
      shown = shown;
      made = own minting (seconds_of now) place nonce (known_if_fresh (freshness minting (seconds_of now) place nonce) fresh);
      fresh = leb-true (age (seconds_of now) (stated_time nonce)) minting.window
          (fresh_in_window (pointwise nat_eq nonce (minted minting (stated_time nonce) place)) (nat_le (age (seconds_of now) (stated_time nonce)) minting.window) fresh);
    }
