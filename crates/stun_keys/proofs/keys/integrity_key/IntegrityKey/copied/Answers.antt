use Rattle.std.proofs.Math.Logic.{∥∥₁_map}
use Rattle.stun_keys.proofs.keys.integrity_key.IntegrityKey.copied.Goals as goal

pub invariant_of-result : goal.invariant_of-result
invariant_of-result c = record {
  long = rw c.in_ok-copied.ensures c.args.self.now.long;
  ready = rw c.in_ok-copied.ensures c.args.self.now.ready;
  prepared_is = rw c.in_ok-copied.ensures
      (∥∥₁_map c.args.self.now.prepared_is (λ prepared. c.in_ok-copied-2.ensures.right _ prepared));
}
