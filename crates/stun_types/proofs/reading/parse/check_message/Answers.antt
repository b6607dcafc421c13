use Rattle.std.proofs.Common.{None, sym, ◌∙◌, arith}
use Rattle.std.proofs.lemmas.Result.{err_from_is_err_and}
use Rattle.stun_grammar.proofs.HeadersLemmas.{header_there, frame_there}
use Rattle.stun_grammar.proofs.ParsingLemmas.{parse-frame, parse-body}
use Rattle.stun_types.proofs.ScanningLemmas.{behind_more_than}
use Rattle.stun_types.proofs.OrdinaryLemmas.{ordinary_starts, ordinary_ends, ordinary_next, ordinary_kept}
use Rattle.stun_types.proofs.reading.parse.check_message.Goals as goal

pub returns-in_err-check_frame-clause-fault : goal.returns-in_err-check_frame-clause-fault
returns-in_err-check_frame-clause-fault c =
    let p = err_from_is_err_and c.from_residual.result c.from_residual.ensures.1 in rw (p.1, p.2) (parse-frame c.args.bytes.now c.in_err-check_frame.field-0.0 c.in_err-check_frame.ensures)

pub walk-init : goal.walk-init
walk-init c =
    let long = (header_there c.args.bytes.now (frame_there c.args.bytes.now c.in_ok-check_frame.ensures)).0 in
    record { within = long; ordinary = ordinary_starts c.args.bytes.now long }

pub returns-in_err-attribute-clause-fault : goal.returns-in_err-attribute-clause-fault
returns-in_err-attribute-clause-fault c =
    let p = err_from_is_err_and c.from_residual-in_err-attribute.result c.from_residual-in_err-attribute.ensures.1 in
    let reported = c.in_err-attribute.ensures in
    rw (p.1, p.2) (parse-body c.args.bytes.now c.in_ok-check_frame.ensures ∙ ordinary_ends c.args.bytes.now c.walk.offset c.walk.invariant.ordinary _ reported.0 reported.1)

pub returns-then-is_ending-clause-fault : goal.returns-then-is_ending-clause-fault
returns-then-is_ending-clause-fault c = rw (parse-body c.args.bytes.now c.in_ok-check_frame.ensures) c.check_endings.ensures.fault

pub walk-smaller : goal.walk-smaller
walk-smaller c =
    let reported = rw c.in-Some.is at c.in_ok-attribute.ensures in
    omega (arith, reported.0, behind_more_than c.in-Some.attribute c.in-Some.behind c.walk.offset c.args.bytes.now reported.1)

pub walk-preserved : goal.walk-preserved
walk-preserved c =
    let reported = rw c.in-Some.is at c.in_ok-attribute.ensures in
    record {
      within = reported.0;
      ordinary = ordinary_next c.in-Some.attribute c.in-Some.behind c.walk.offset c.args.bytes.now c.type_number.result c.walk.invariant.ordinary reported.1 c.type_number.ensures (sym c.is_ending.ensures ∙ c.if-is_ending.false) reported.0;
    }

pub returns-clause-fault : goal.returns-clause-fault
returns-clause-fault c =
    let reported = rw c.in_default.is at c.in_ok-attribute.ensures in
    parse-body c.args.bytes.now c.in_ok-check_frame.ensures ∙ ordinary_ends c.args.bytes.now c.walk.offset c.walk.invariant.ordinary None reported.0 reported.1

pub returns-clause-offsets : goal.returns-clause-offsets
returns-clause-offsets c =
    let reported = rw c.in_default.is at c.in_ok-attribute.ensures in
    ordinary_kept c.none.result c.args.bytes.now c.walk.offset c.none.ensures.integrity c.none.ensures.sha256 c.in_ok-check_frame.ensures c.walk.invariant.ordinary reported.0
