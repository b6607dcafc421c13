use Rattle.std.proofs.Common.{◌++◌, refl, ap, ◌∙◌, Option, append_assoc}
use Rattle.stun_authentication.specs.declared.cookie.SecurityFeatures.{SecurityFeatures}
use Rattle.stun_authentication.specs.declared.nonces.Freshness.{Freshness}
use Rattle.stun_authentication.specs.Cookies.{cookie, promises, security_features}
use Rattle.stun_authentication.specs.Base64.{in_base64}
use Rattle.stun_authentication.specs.Nonces.{first_bits, known_as, minted_mac}
use Rattle.stun_exchanges.proofs.logins.made_nonces_are_offered.Goals as goal

pub returns : goal.returns
returns c = λ minting time now place realm algorithms after before agrees. record {
  known = ap (λ (f : Freshness). known_as algorithms f) (c.nonces_are_timed.ensures.valid minting time now place after before);
  list_is = refl;
  agrees = ap (λ (o : Option SecurityFeatures). promises o) (ap security_features (append_assoc (cookie minting.features) (in_base64 6 time) (in_base64 16 (first_bits (minted_mac minting time place))))
      ∙ c.cookie_is_read.ensures minting.features (in_base64 6 time ++ in_base64 16 (first_bits (minted_mac minting time place)))) ∙ agrees;
}
