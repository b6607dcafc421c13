use Rattle.std.proofs.Common.{Some, sym, ap, ◌∙◌}
use Rattle.std.proofs.lemmas.Result.{err_from_is_err_and}
use Rattle.stun_base.specs.declared.attribute_header.AttributeHeader.{AttributeHeader}
use Rattle.stun_attributes.proofs.RawLemmas.{no_header, no_value, all_there}
use Rattle.stun_attributes.proofs.wire.raw.RawAttribute.from_bytes.Goals as goal

pub returns-in_err-header : goal.returns-in_err-header
returns-in_err-header c =
    let p = err_from_is_err_and c.from_residual.result c.from_residual.ensures.1 in
    let reported = c.in_err-header.ensures in
    rw (p.1, p.2) (no_header c.args.bytes.now reported.0 ∙ ap Some (sym reported.1))

pub returns-then-bytes-length : goal.returns-then-bytes-length
returns-then-bytes-length c =
    let reported = c.in_ok-header.ensures in
    no_value c.args.bytes.now c.length-length.result reported.0 (c.length-length.ensures ∙ ap (λ (h : AttributeHeader). h.length) reported.1) c.if-bytes-length.true

pub returns : goal.returns
returns c =
    let reported = c.in_ok-header.ensures in
    let n-is = c.length-length.ensures ∙ ap (λ (h : AttributeHeader). h.length) reported.1 in (
      all_there c.args.bytes.now c.length-length.result reported.0 n-is c.if-bytes-length.false,
      rw (← n-is, ← ap (λ (h : AttributeHeader). h.atype.0) reported.1) c.borrowed.ensures,
    )
