use Rattle.stun_attributes.proofs.AddressesLemmas.{xored_twice}
use Rattle.stun_attributes.proofs.laws.xor_twice.Goals as goal

pub returns : goal.returns
returns c = xored_twice
