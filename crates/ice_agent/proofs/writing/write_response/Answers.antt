use Rattle.std.proofs.Common.{arith, length}
use Rattle.std.specs.Option.{option_map}
use Rattle.ice_checks.specs.Checks.{response_attributes}
use Rattle.ice_checks.specs.Views.{response_of, signing_of}
use Rattle.ice_agent.proofs.WritingLemmas.{never, response_count, response_size}
use Rattle.ice_agent.proofs.writing.write_response.Goals as goal

pub returns-in_err-result-clause-result : goal.returns-in_err-result-clause-result
returns-in_err-result-clause-result c =
    let response = response_of c.args.response.now in
    let signing = option_map signing_of c.args.signature in
    let attributes = response_attributes c.args.id response in
    let size = response_size c.args.id response signing in
    absurd (never _ _ (length c.args.out.now) _ attributes signing c.in_err-result.field-0.0
    c.new-write.ensures.ready_bytes c.new-write.ensures.ready_types c.new-write.ensures.greatest c.requires
    (omega (arith, size, c.unsigned_length.ensures.length, c.signature_length.ensures.length, c.if-out-expected.false)) (omega (arith, size, c.unsigned_length.ensures.length, c.signature_length.ensures.length, c.if-expected-gt-GREATEST.false))
    (response_count c.args.id response signing) c.in_err-result.ensures.answer c.in_err-result.ensures.memory)

pub returns-in_err-result-clause-out : goal.returns-in_err-result-clause-out
returns-in_err-result-clause-out c =
    let response = response_of c.args.response.now in
    let signing = option_map signing_of c.args.signature in
    let attributes = response_attributes c.args.id response in
    let size = response_size c.args.id response signing in
    absurd (never _ _ (length c.args.out.now) _ attributes signing c.in_err-result.field-0.0
    c.new-write.ensures.ready_bytes c.new-write.ensures.ready_types c.new-write.ensures.greatest c.requires
    (omega (arith, size, c.unsigned_length.ensures.length, c.signature_length.ensures.length, c.if-out-expected.false)) (omega (arith, size, c.unsigned_length.ensures.length, c.signature_length.ensures.length, c.if-expected-gt-GREATEST.false))
    (response_count c.args.id response signing) c.in_err-result.ensures.answer c.in_err-result.ensures.memory)
