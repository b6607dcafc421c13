use Rattle.std.proofs.Math.Logic.{∥∥₁_elim}
use Rattle.std.specs.Coded.{Coded-set, coded_ℕ, coded_list}
use Rattle.stun_keys.specs.Keys.{key_bytes}
use Rattle.stun_keys.proofs.keys.integrity_key.IntegrityKey.hmac_sha1.Goals as goal

pub returns : goal.returns
returns c =
    ∥∥₁_elim c.args.self.now.prepared_is (Coded-set (coded_list coded_ℕ) _ _) (λ prepared. c.hmac_sha1.ensures (key_bytes c.args.self.now) c.sha1_blocks.ensures.blocks prepared)
