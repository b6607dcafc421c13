use Rattle.stun_authentication.proofs.AddedLemmas.{added}
use Rattle.stun_authentication.proofs.attributes.add_one.Goals as goal

pub returns : goal.returns
returns g c =
    let reported = c.add_attribute.ensures in
    added c.add_attribute.result _ _ _ _ reported.adds.ok reported.adds.err reported.adds.spends reported.answer c.requires reported.type_fits reported.value_fits
