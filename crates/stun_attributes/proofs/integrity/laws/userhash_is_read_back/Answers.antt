use Rattle.std.proofs.Common.{◌≡◌}
use Rattle.stun_attributes.specs.Userhash.{hash_bytes}
use Rattle.stun_attributes.proofs.IntegrityLemmas.{exact_read}
use Rattle.stun_attributes.proofs.integrity.laws.userhash_is_read_back.Goals as goal

pub returns : goal.returns
returns c = λ attribute result long reported. exact_read 32 (hash_bytes attribute) (λ read. hash_bytes read ≡ hash_bytes attribute) result long reported
