use Rattle.stun_attributes.proofs.AddressesLemmas.{address_back}
use Rattle.stun_attributes.specs.Kinds.{addr_of, xored_of}
use Rattle.stun_attributes.proofs.kinds.laws.address_attribute_is_read_back.Goals as goal

pub returns-clause-plain : goal.returns-clause-plain
returns-clause-plain g c = λ attribute plain range result reported. address_back addr_of (addr_of attribute) result plain range reported

pub returns-clause-xored : goal.returns-clause-xored
returns-clause-xored g c = λ attribute range result reported. address_back xored_of (xored_of attribute) result attribute.plain range reported
