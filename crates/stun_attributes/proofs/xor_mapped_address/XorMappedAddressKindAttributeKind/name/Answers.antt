use Rattle.std.proofs.Common.{refl}
use Rattle.std.specs.Fmt.{digits}
use Rattle.stun_attributes.proofs.xor_mapped_address.XorMappedAddressKindAttributeKind.name.Goals as goal

pub returns : goal.returns
unfolding digits
returns c = refl
