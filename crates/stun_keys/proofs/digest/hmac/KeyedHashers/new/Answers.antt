use Rattle.std.proofs.Common.{◌∙◌, subst}
use Rattle.stun_keys.proofs.BlocksLemmas.{inner_block, outer_block}
use Rattle.stun_keys.proofs.digest.hmac.KeyedHashers.new.Goals as goal

pub returns : goal.returns
returns g c = λ key are.
    let algorithm = g.H.HashFunction.algorithm in
    let holds = g.H.HashFunction.holds in record {
      inner_holds = subst (holds _) (c.split_at.ensures.front ∙ inner_block algorithm _ key are) c.keyed.ensures;
      outer_holds = subst (holds _) (c.split_at.ensures.back ∙ outer_block algorithm _ key are) c.keyed-2.ensures;
    }
