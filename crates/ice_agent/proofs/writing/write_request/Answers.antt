use Rattle.std.proofs.Common.{arith, length}
use Rattle.std.specs.Option.{option_map}
use Rattle.stun_attributes.specs.Texts.{text_bytes}
use Rattle.ice_attrs.specs.CheckUsernames.{ufrag_text}
use Rattle.ice_checks.specs.Checks.{attributes_to, signature_to}
use Rattle.ice_checks.specs.Views.{login_of}
use Rattle.ice_agent.proofs.WritingLemmas.{check_count, key_serves, never}
use Rattle.ice_agent.proofs.writing.write_request.Goals as goal

pub returns-in_err-result-clause-result : goal.returns-in_err-result-clause-result
returns-in_err-result-clause-result c =
    let peer = login_of c.args.peer.now in
    let own = ufrag_text c.args.own.now.fragment in
    let software = option_map (λ it. text_bytes it.now) c.args.software in
    let expected = c.check_length-expected.ensures in
    absurd (never _ _ (length c.args.out.now) _ (attributes_to peer own software c.args.request.now) (signature_to peer) c.in_err-result.field-0.0
    c.new-write.ensures.ready_bytes c.new-write.ensures.ready_types c.new-write.ensures.greatest (key_serves peer c.requires.key)
    (omega (arith, expected.length, c.if-out-expected.false)) (omega (arith, expected.length, expected.bound))
    (check_count peer own software c.args.request.now) c.in_err-result.ensures.answer c.in_err-result.ensures.memory)

pub returns-in_err-result-clause-out : goal.returns-in_err-result-clause-out
returns-in_err-result-clause-out c =
    let peer = login_of c.args.peer.now in
    let own = ufrag_text c.args.own.now.fragment in
    let software = option_map (λ it. text_bytes it.now) c.args.software in
    let expected = c.check_length-expected.ensures in
    absurd (never _ _ (length c.args.out.now) _ (attributes_to peer own software c.args.request.now) (signature_to peer) c.in_err-result.field-0.0
    c.new-write.ensures.ready_bytes c.new-write.ensures.ready_types c.new-write.ensures.greatest (key_serves peer c.requires.key)
    (omega (arith, expected.length, c.if-out-expected.false)) (omega (arith, expected.length, expected.bound))
    (check_count peer own software c.args.request.now) c.in_err-result.ensures.answer c.in_err-result.ensures.memory)
