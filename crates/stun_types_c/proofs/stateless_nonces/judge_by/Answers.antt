use Rattle.std.proofs.Common.{ap, ◌∙◌, inl}
use Rattle.stun_values.specs.Addresses.{address_value}
use Rattle.stun_authentication.specs.Nonces.{Minting, freshness}
use Rattle.stun_types_c.specs.StatelessNonces.{state_number}
use Rattle.stun_types_c.proofs.stateless_nonces.judge_by.Goals as goal

pub returns : goal.returns
returns c =
    rw c.in-Ok.ensures.0 (inl (c.plain.ensures, c.state_number.ensures ∙ ap state_number (c.freshness.ensures ∙ ap (λ (m : Minting). freshness m c.args.now (address_value c.args.client) c.args.nonce.now) c.in-Ok.ensures.1)))
