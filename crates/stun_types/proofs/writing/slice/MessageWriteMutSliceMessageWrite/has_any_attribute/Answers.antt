use Rattle.std.proofs.Common.{sym, ◌∙◌, take, length}
use Rattle.stun_grammar.specs.Adding.{numbers}
use Rattle.stun_types.proofs.ListedLemmas.{found_first, found_second}
use Rattle.stun_types.proofs.writing.slice.MessageWriteMutSliceMessageWrite.has_any_attribute.Goals as goal

pub returns-in-Some : goal.returns-in-Some
returns-in-Some c = let reported = rw c.data.ensures.value at c.in-Some.ensures in found_first (numbers c.args.asked.now) _ _ c.in-Some.found.0 reported

pub returns : goal.returns
returns c =
    let reported = rw c.data.ensures.value at c.in_default.ensures in
    let some = rw c.len.ensures.value at c.if-len-eq0.false in
    c.first_of-2.ensures ∙ sym (found_second (numbers c.args.asked.now) _ (numbers c.args.self.now.attributes.items) (length (take c.args.self.now.written c.args.self.now.slice.now)) reported some)
