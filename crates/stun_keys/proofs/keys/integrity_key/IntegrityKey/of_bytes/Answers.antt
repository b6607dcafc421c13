use Rattle.std.proofs.Common.{refl}
use Rattle.stun_keys.proofs.BlocksLemmas.{appended, is_long, key_found, blocks_found}
use Rattle.stun_keys.proofs.keys.integrity_key.IntegrityKey.of_bytes.Goals as goal

pub invariant_of-result : goal.invariant_of-result
invariant_of-result c =
    let whole = appended _ _ _ c.args.bytes.now c.new.ensures c.in_ok-push_with_blocks.ensures c.in_ok-secret.ensures.items in
    record {
      long = is_long _ c.args.bytes.now whole;
      ready = blocks_found _ c.args.bytes.now whole;
      prepared_is = ∣ rw c.none.ensures tt ∣₁;
    }

pub returns : goal.returns
returns c = record {
  algorithm_is = refl;
  bytes_are = key_found _ c.args.bytes.now
      (appended _ _ _ c.args.bytes.now c.new.ensures c.in_ok-push_with_blocks.ensures c.in_ok-secret.ensures.items);
}
