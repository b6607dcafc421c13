use Rattle.std.proofs.Common.{ap, ◌∙◌}
use Rattle.stun_grammar.specs.Hmac.{padded_with}
use Rattle.stun_keys.proofs.BlocksLemmas.{by_blocks}
use Rattle.stun_keys.proofs.digest.hmac.hmac_under.Goals as goal

pub returns : goal.returns
returns g c =
    by_blocks g.H.HashFunction.algorithm _ _ c.args.key.now _ _ _ (c.padded.ensures ∙ ap (padded_with 0x36) c.key_block-block.ensures) (c.padded-2.ensures ∙ ap (padded_with 0x5C) c.key_block-block.ensures) c.digest_with-inner.ensures c.digest_with.ensures
