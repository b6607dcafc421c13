use Rattle.std.proofs.Common.{None, arith}
use Rattle.std.proofs.lemmas.Result.{err_from_is_err_and}
use Rattle.stun_types.proofs.ScanningLemmas.{ends, ends_kept, stops, stops_kept, on, refuses, behind_more_than}
use Rattle.stun_types.proofs.OrdinaryLemmas.{behind_ordinary}
use Rattle.stun_types.proofs.reading.parse.check_endings.Goals as goal

pub walk-init : goal.walk-init
walk-init c = record {
  header = omega (arith, c.requires.ordinary.offset_is);
  within = c.requires.ordinary.within;
  scanned = behind_ordinary c.none-seen.result c.none-offsets.result c.args.bytes.now c.args.start c.none-seen.ensures c.none-offsets.ensures.integrity c.none-offsets.ensures.sha256 c.requires.ordinary;
}

pub returns-in_err-attribute-clause-fault : goal.returns-in_err-attribute-clause-fault
returns-in_err-attribute-clause-fault c =
    let p = err_from_is_err_and c.from_residual.result c.from_residual.ensures.1 in
    let reported = c.in_err-attribute.ensures in
    rw (p.1, p.2) (ends c.walk.seen c.walk.offsets c.walk.last c.args.bytes.now c.walk.offset c.walk.invariant.scanned _ reported.0 reported.1)

pub returns-then-not-admits-clause-fault : goal.returns-then-not-admits-clause-fault
returns-then-not-admits-clause-fault c =
    let found = (rw c.in-Some.is at c.in_ok-attribute.ensures).1 in
    stops c.walk.seen c.walk.offsets c.walk.last c.args.bytes.now c.walk.offset c.walk.invariant.scanned c.in-Some.attribute c.in-Some.behind found c.type_number-atype.result c.type_number-atype.ensures c.admits.result c.admits.new.self c.admits.ensures c.if-not-admits.true

pub returns-then-not-admits-clause-offsets : goal.returns-then-not-admits-clause-offsets
returns-then-not-admits-clause-offsets c =
    let found = (rw c.in-Some.is at c.in_ok-attribute.ensures).1 in
    stops_kept c.walk.seen c.walk.offsets c.walk.last c.args.bytes.now c.walk.offset c.walk.invariant.scanned c.in-Some.attribute c.in-Some.behind found c.type_number-atype.result c.type_number-atype.ensures c.admits.result c.admits.new.self c.admits.ensures c.requires.frame c.if-not-admits.true

pub returns-in_err-check_scanned-clause-fault : goal.returns-in_err-check_scanned-clause-fault
returns-in_err-check_scanned-clause-fault c =
    let found = (rw c.in-Some.is at c.in_ok-attribute.ensures).1 in
    let p = err_from_is_err_and c.from_residual-in_err-check_scanned.result c.from_residual-in_err-check_scanned.ensures.1 in
    let reported = c.in_err-check_scanned.ensures in
    rw (p.1, p.2) (refuses c.walk.seen c.walk.offsets c.walk.last c.args.bytes.now c.walk.offset c.walk.invariant.scanned c.in-Some.attribute c.in-Some.behind found c.type_number-atype.result c.type_number-atype.ensures c.admits.result c.admits.new.self c.admits.ensures c.in_err-check_scanned.field-0.0 c.if-not-admits.false reported.0 reported.1)

pub walk-smaller : goal.walk-smaller
walk-smaller c =
    let reported = rw c.in-Some.is at c.in_ok-attribute.ensures in
    omega (arith, reported.0, behind_more_than c.in-Some.attribute c.in-Some.behind c.walk.offset c.args.bytes.now reported.1)

pub walk-preserved : goal.walk-preserved
walk-preserved c =
    let reported = rw c.in-Some.is at c.in_ok-attribute.ensures in
    record {
      header = omega (arith, c.walk.invariant.header, behind_more_than c.in-Some.attribute c.in-Some.behind c.walk.offset c.args.bytes.now reported.1);
      within = reported.0;
      scanned = on c.walk.seen c.walk.offsets c.walk.last c.args.bytes.now c.walk.offset c.walk.invariant.scanned c.in-Some.attribute c.in-Some.behind reported.1 c.type_number-atype.result c.type_number-atype.ensures c.admits.result c.admits.new.self c.admits.ensures c.scan-last.new.self c.scan-last.result c.scan-last.ensures c.if-not-admits.false c.in_ok-check_scanned.ensures;
    }

pub returns-clause-fault : goal.returns-clause-fault
returns-clause-fault c =
    let reported = rw c.in_default.is at c.in_ok-attribute.ensures in
    ends c.walk.seen c.walk.offsets c.walk.last c.args.bytes.now c.walk.offset c.walk.invariant.scanned None reported.0 reported.1

pub returns-clause-offsets : goal.returns-clause-offsets
returns-clause-offsets c =
    let reported = rw c.in_default.is at c.in_ok-attribute.ensures in
    ends_kept c.walk.seen c.walk.offsets c.walk.last c.args.bytes.now c.walk.offset c.walk.invariant.scanned c.requires.frame reported.0
