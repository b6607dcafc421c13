use Rattle.std.proofs.Common.{ℕ, ◌≤◌, length, subst, arith, rules}
use Rattle.stun_attributes.specs.Texts.{text_bytes}
use Rattle.stun_types.specs.Writers.{IsBegun}
use Rattle.user_examples.proofs.InSlicesLemmas.{first_answer, writes_software}
use Rattle.user_examples.proofs.in_slice.write_software.Goals as goal

pub returns-clause-answer : goal.returns-clause-answer
returns-clause-answer g c =
    let begun = c.in_ok-builder_into.ensures.ok in
    first_answer 0x8022 (text_bytes c.args.software.now) (g.B.MessageWrite.state c.builder_into.new.write).types (length (g.B.MessageWrite.state c.builder_into.new.write).bytes) (g.B.MessageWrite.state c.args.message.now).greatest (g.B.MessageWrite.state c.builder_into.new.write).greatest
    (g.B.MessageWrite.state c.args.message.now).ready_bytes (g.B.MessageWrite.state c.builder_into.new.write).ready_bytes (g.B.MessageWrite.state c.args.message.now).ready_types (g.B.MessageWrite.state c.builder_into.new.write).ready_types c.add_software.result
    begun.types begun.size begun.spends.greatest begun.spends.ready_bytes (omega (arith, begun.spends.ready_types)) c.add_software.ensures.answer

pub returns-clause-writes : goal.returns-clause-writes
returns-clause-writes g c =
    let state = g.B.MessageWrite.state in
    let added = c.add_software.ensures in
    let short : length (text_bytes c.args.software.now) ≤ 763 = search rules in
    let begun : IsBegun (state c.args.message.now) (state c.builder_into.new.write) 0x0001 c.args.id =
    subst (λ (type : ℕ). IsBegun (state c.args.message.now) (state c.builder_into.new.write) type c.args.id) (search rules) c.in_ok-builder_into.ensures.ok in
    writes_software c.add_software.result (state c.args.message.now) (state c.builder_into.new.write) (state c.add_software.new.message) c.args.id (text_bytes c.args.software.now)
    begun (omega (arith, short)) added.ok added.same added.slice_name
