-- One login.
use Rattle.std.proofs.Common.{◌≡◌, ℕ, ◌^◌, ◌<◌, ◌≤◌, Bool, true, false, List, [], ◌∷◌, ◌++◌, length, Some, inl, refl, sym, ap, lit<, arith}
use Rattle.stun_grammar.specs.declared.integrity_algorithm.IntegrityAlgorithm.TheVariants.{Sha256}
use Rattle.stun_grammar.specs.Attributes.{Attribute, canonical, encoding, encodings}
use Rattle.stun_grammar.specs.AttributeTypes.{REALM, NONCE}
use Rattle.stun_grammar.specs.Steps.{sign, finger, with_step}
use Rattle.stun_grammar.proofs.StepsLemmas.{length-with_step, none_writable}
use Rattle.stun_grammar.proofs.WritingLemmas.{length-message}
use Rattle.stun_values.specs.declared.algorithm.PasswordAlgorithmValue.TheVariants.{MD5, SHA256}
use Rattle.stun_values.specs.Algorithms.{algorithms_encoding}
use Rattle.stun_authentication.specs.declared.cookie.SecurityFeatures.{SecurityFeatures}
use Rattle.stun_authentication.specs.Asking.{asks_userhash}
use Rattle.stun_authentication.specs.Cookies.{cookie, promises, is_anonymous, security_features}
use Rattle.stun_exchanges.specs.Example.{asked, retry, user, IsMet}
use Rattle.stun_exchanges.specs.Premises.{HasRoom}
use Rattle.stun_authentication.specs.Requests.{identity, identity_attribute, algorithm_attributes, credentials, user_key}
use Rattle.stun_exchanges.proofs.ListsLemmas.{takes_first}

cookie_there : ((features : SecurityFeatures) (more : List ℕ) → security_features (cookie features ++ more) ≡ Some features) → security_features asked.nonce ≡ Some (record { password_algorithms = true; username_anonymity = false })
cookie_there reported = reported (record { password_algorithms = true; username_anonymity = false }) []

list_short : (value : List ℕ) → Some (algorithms_encoding (SHA256 ∷ MD5 ∷ [])) ≡ Some value → length value < 2 ^ 16
list_short value e =
    let same : algorithms_encoding (SHA256 ∷ MD5 ∷ []) ≡ value = cc in
    omega (arith, ap length (sym same))

room_of : (xs : List Attribute) (key : List ℕ) → length (encodings xs) ≤ 1000 → HasRoom 0x0001 7 (with_step 0x0001 7 (with_step 0x0001 7 xs (sign Sha256 key)) finger)
room_of xs key small =
    let one = with_step 0x0001 7 xs (sign Sha256 key) in
    omega (arith, small, length-message 0x0001 7 xs, length-with_step 0x0001 7 xs (sign Sha256 key) tt, length-with_step 0x0001 7 one finger tt)

small_there : (anonymous : Bool) → anonymous ≡ false → length (encodings (identity_attribute (identity anonymous asked.realm user.name) ∷ canonical REALM asked.realm ∷ canonical NONCE asked.nonce ∷ algorithm_attributes asked.list SHA256)) ≤ 1000
unfolding encoding
small_there true e = absurd (cc e)
small_there false e = omega arith

pub met : ((features : SecurityFeatures) (more : List ℕ) → security_features (cookie features ++ more) ≡ Some features) → IsMet
met reported = record {
  offered = record { known = refl; list_is = refl; agrees = ap promises (cookie_there reported) };
  takes = takes_first;
  short = record { realm_fits = lit< tt; nonce_fits = lit< tt; list_fits = list_short; name_fits = lit< tt };
  class_is = refl;
  own = record { writable = none_writable 0x0001 7 (lit< tt) (lit< tt); own = refl };
  room = room_of (credentials retry user.name) (user_key retry user) (small_there (asks_userhash asked) (ap is_anonymous (cookie_there reported)));
  serves = record { counts = inl refl; min_hmac_length = omega arith; printed = λ e. refl };
}
