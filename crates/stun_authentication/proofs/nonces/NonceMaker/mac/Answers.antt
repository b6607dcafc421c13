use Rattle.std.proofs.Common.{◌≡◌, List, ℕ, ◌++◌, take, ap, ◌∙◌}
use Rattle.std.specs.Prelude.{replicate}
use Rattle.stun_grammar.specs.declared.integrity_algorithm.IntegrityAlgorithm.TheVariants.{Sha256}
use Rattle.stun_grammar.specs.Hmac.{hmac}
use Rattle.stun_keys.specs.Keys.{key_bytes}
use Rattle.stun_values.specs.Addresses.{address_value}
use Rattle.stun_authentication.proofs.NoncesLemmas.{place_written}
use Rattle.stun_authentication.proofs.nonces.NonceMaker.mac.Goals as goal

pub returns : goal.returns
returns c =
    let client = c.args.client.now in
    let written = c.write_address.new.dest in
    let size = c.address_length-length.result in
    let place : take size written ≡ address_value client = place_written written (address_value client) (replicate 20 0) size c.write_address.ensures c.address_length-length.ensures.value in
    c.hmac_sha256.ensures ∙ ap (hmac Sha256 (key_bytes c.args.self.now.secret)) (c.covered.ensures ∙ ap (λ (x : List ℕ). c.args.beginning.now ++ x) place)
