-- What a server asks a client's next request to carry (RFC 8489, sections 9.2.4 and 9.2.5).
use Rattle.std.specs.Prelude.{ℕ, Bool, List, [], ◌∷◌, Option, None, Some}
use Rattle.std.specs.Cow.{cow_str_bytes, cow_slice_items}
use Rattle.std.specs.Option.{option_map}
use Rattle.stun_grammar.specs.declared.integrity_algorithm.IntegrityAlgorithm.{IntegrityAlgorithm}
use Rattle.stun_grammar.specs.declared.integrity_algorithm.IntegrityAlgorithm.TheVariants.{Sha1, Sha256}
use Rattle.stun_values.specs.declared.algorithm.PasswordAlgorithmValue.{PasswordAlgorithmValue}
use Rattle.stun_values.specs.Algorithms.{algorithms_encoding}
use Rattle.stun_authentication.specs.declared.challenge.Challenge.{Challenge}
use Rattle.stun_authentication.specs.Cookies.{security_features, is_anonymous}

-- REALM and NONCE, and PASSWORD-ALGORITHMS if the server sends a list
pub record Asked : Type 0 where
  pub realm : List ℕ
  pub nonce : List ℕ
  pub list : Option (List ℕ)

abbrev pub asked_for : (realm nonce : List ℕ) → (list : Option (List ℕ)) → Asked
asked_for realm nonce list = record { realm = realm; nonce = nonce; list = list }

abbrev pub asked_in : Challenge → Asked
asked_in c =
    asked_for (cow_str_bytes c.realm) (cow_str_bytes c.nonce)
    (option_map (λ list. cow_slice_items list) c.list)

-- the value of PASSWORD-ALGORITHMS, if a server sends algorithms
abbrev pub listed : List PasswordAlgorithmValue → Option (List ℕ)
listed [] = None
listed (algorithm ∷ algorithms) = Some (algorithms_encoding (algorithm ∷ algorithms))

-- whether the request names its user by USERHASH, which the nonce says that the server supports
abbrev pub asks_userhash : Asked → Bool
asks_userhash asked = is_anonymous (security_features asked.nonce)

-- the algorithm by which the request is signed: SHA-256 alone if there is a list (the last
-- paragraph of section 9.2.5), otherwise SHA-1, for a server of RFC 5389
abbrev pub signing_by : Option (List ℕ) → IntegrityAlgorithm
signing_by None = Sha1
signing_by (Some list) = Sha256
