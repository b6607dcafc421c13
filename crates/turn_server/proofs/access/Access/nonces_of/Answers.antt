use Rattle.std.proofs.Common.{◌∙◌}
use Rattle.stun_values.specs.Addresses.{address_value}
use Rattle.stun_authentication.specs.Nonces.{minting_of, freshness, known_as}
use Rattle.turn_server.proofs.access.Access.nonces_of.Goals as goal

pub returns : goal.returns
returns c =
    c.nonces.ensures ∙ (λ i nonce. known_as (c.algorithms.ensures.algorithms i)
    (freshness (minting_of c.args.self.now.nonces) (c.seconds.ensures i) (address_value (c.from-client.ensures i)) nonce))
