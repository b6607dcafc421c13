use Rattle.std.proofs.Common.{◌≤◌, length, rules}
use Rattle.stun_attributes.specs.Texts.{text_bytes}
use Rattle.stun_types.specs.Writers.{Allocates}
use Rattle.user_examples.proofs.AddsLemmas.{only_memory}
use Rattle.user_examples.proofs.request.add_first.Goals as goal

pub returns-clause-err : goal.returns-clause-err
returns-clause-err g c =
    let old = g.B.MessageWrite.state c.args.message.now in
    let value = text_bytes c.args.software.now in
    let short : length value ≤ 763 = search rules in
    only_memory 0x8022 value old.types (length old.bytes) old.greatest (Allocates old (length value)) c.add_software.result
    c.requires.alone c.requires.unbounded c.requires.header short c.add_software.ensures.answer
