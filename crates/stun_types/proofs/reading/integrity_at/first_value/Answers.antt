use Rattle.std.proofs.Common.{◌+◌, ◌-◌, drop, refl, arith}
use Rattle.std.proofs.lemmas.List.{length-take}
use Rattle.stun_types.proofs.IntegrityAtLemmas.{first_long, first_read}
use Rattle.stun_types.proofs.reading.integrity_at.first_value.Goals as goal

pub number_at-length-requires : goal.number_at-length-requires
number_at-length-requires c = omega (arith, first_long c.args.bytes.now c.requires)

pub slice_bounds-result-end : goal.slice_bounds-result-end
slice_bounds-result-end c = omega (arith, first_long c.args.bytes.now c.requires, c.number_at-length.ensures)

pub returns-clause-value : goal.returns-clause-value
returns-clause-value c = first_read c.args.bytes.now c.number_at-length.result _ c.number_at-length.ensures refl

pub returns-clause-short : goal.returns-clause-short
returns-clause-short c = omega (arith, c.number_at-length.type_inv, length-take (4 + c.number_at-length.result - 4) (drop 4 c.args.bytes.now))
