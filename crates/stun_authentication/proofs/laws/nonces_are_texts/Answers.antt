use Rattle.std.proofs.Common.{◌++◌, ap, ◌∙◌, append_assoc}
use Rattle.stun_authentication.specs.Base64.{in_base64}
use Rattle.stun_authentication.specs.Cookies.{cookie, security_features}
use Rattle.stun_authentication.specs.Nonces.{first_bits, minted_mac}
use Rattle.stun_authentication.proofs.NoncesLemmas.{minted_length, minted_text, minted_is_text, time_stated}
use Rattle.stun_authentication.proofs.laws.nonces_are_texts.Goals as goal

pub returns-clause-size : goal.returns-clause-size
returns-clause-size c = minted_length

pub returns-clause-characters : goal.returns-clause-characters
returns-clause-characters c = minted_text

pub returns-clause-text : goal.returns-clause-text
returns-clause-text c = minted_is_text

pub returns-clause-features : goal.returns-clause-features
returns-clause-features c = λ minting time place.
    let seconds = in_base64 6 time in
    let mac = in_base64 16 (first_bits (minted_mac minting time place)) in
    ap security_features (append_assoc (cookie minting.features) seconds mac) ∙ c.cookie_is_read.ensures minting.features (seconds ++ mac)

pub returns-clause-time : goal.returns-clause-time
returns-clause-time c = time_stated
