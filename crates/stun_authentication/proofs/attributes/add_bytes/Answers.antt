use Rattle.std.proofs.Common.{arith}
use Rattle.stun_authentication.proofs.AddedLemmas.{added}
use Rattle.stun_authentication.proofs.attributes.add_bytes.Goals as goal

pub returns : goal.returns
returns g c =
    let reported = c.add_ordinary_value.ensures in
    added c.add_ordinary_value.result _ _ _ _ reported.adds.ok reported.adds.err reported.adds.spends reported.answer c.requires.ordinary c.requires.number (omega (arith, c.requires.short))
