use Rattle.std.proofs.Common.{◌≡◌, List, ℕ, refl, subst}
use Rattle.std.specs.Prelude.{IsOkAnd}
use Rattle.stun_attributes.specs.Integrity.{checksum_bytes}
use Rattle.stun_values.specs.FingerprintValues.{masked_bytes}
use Rattle.stun_attributes.proofs.IntegrityLemmas.{exact_read, masked_twice}
use Rattle.stun_attributes.proofs.integrity.laws.fingerprint_is_read_back.Goals as goal

pub returns : goal.returns
returns c = λ attribute result long bytes reported.
    let value = masked_bytes (checksum_bytes attribute) in
    subst (λ (b : List ℕ). IsOkAnd result (λ read. checksum_bytes read ≡ b)) (masked_twice (checksum_bytes attribute) long bytes)
    (exact_read 4 value (λ read. checksum_bytes read ≡ masked_bytes value) result refl reported)
