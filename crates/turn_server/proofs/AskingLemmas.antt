-- What a request for too many peers is; and that a nonce of the server's own matches the algorithms that are sent with it.
use Rattle.std.proofs.Common.{◌≡◌, ◌<◌, length, ℕ, Bool, true, false, List, [], ◌∷◌, Option, Some, None, if◌then◌else◌, refl, ap}
use Rattle.std.proofs.lemmas.Bool.{lt-ltb}
use Rattle.std.specs.Prelude.{MatchOption}
use Rattle.stun_endpoints.specs.declared.endpoints.Endpoint.{Endpoint}
use Rattle.turn_machine.specs.Events.{most_peers, permit_request, unfit}
use Rattle.stun_values.specs.declared.algorithm.PasswordAlgorithmValue.TheVariants.{MD5, SHA256}
use Rattle.stun_authentication.specs.declared.challenge.ChallengeError.{ChallengeError}
use Rattle.stun_authentication.specs.declared.cookie.SecurityFeatures.{SecurityFeatures}
use Rattle.stun_authentication.specs.Cookies.{promises, promises_algorithms, security_features}
use Rattle.stun_authentication.specs.Refusing.{challenge_error}
use Rattle.turn_server.specs.Access.{offered}

pub many_refused : (peers : List Endpoint) → most_peers < length peers → permit_request peers ≡ unfit 508
many_refused peers many = rw (lt-ltb most_peers (length peers) many) refl

-- a nonce promises a list of algorithms exactly if one is offered
list_matches : (offers promises : Bool) (nonce : List ℕ) → promises_algorithms nonce ≡ promises → promises ≡ offers
    → challenge_error nonce (if offers then SHA256 ∷ MD5 ∷ [] else []) ≡ None
list_matches true true nonce is e = rw is refl
list_matches false false nonce is e = rw is refl
list_matches true false nonce is e = absurd cc
list_matches false true nonce is e = absurd cc

pub list_fits : (nonce : List ℕ) (features : SecurityFeatures) → security_features nonce ≡ Some features → challenge_error nonce (offered features) ≡ None
list_fits nonce features is = list_matches features.password_algorithms (promises_algorithms nonce) nonce refl (ap promises is)

-- so what is asked for is made, or an allocation fails
pub made_if : {P : Type 0} (R : ChallengeError → Type 0) (o : Option ChallengeError) → o ≡ None → MatchOption o P R → P
made_if R None none made = made
made_if R (Some e) none made = absurd cc
