use Rattle.std.proofs.Common.{sym, rules, arith}
use Rattle.std.proofs.lemmas.List.{length-take-le}
use Rattle.stun_types_c.proofs.GivenHmacsLemmas.{there, signs_by}
use Rattle.stun_types_c.proofs.given_hmacs.stun_types_add_hmac.Goals as goal

pub slice_bounds-covered_at_end-end : goal.slice_bounds-covered_at_end-end
slice_bounds-covered_at_end-end c = (there c.args.room.now c.args.written.now (rw c.in-Ok-Some.ensures.0 at c.in-Ok-Some.ensures.1.fault)).0

pub slice_bounds-covered_at_end-end-2 : goal.slice_bounds-covered_at_end-end-2
slice_bounds-covered_at_end-end-2 c = sym (length-take-le c.args.written.now c.args.room.now (slice_bounds-covered_at_end-end c))

pub covered_at_end-now-requires : goal.covered_at_end-now-requires
covered_at_end-now-requires c =
    let long = there c.args.room.now c.args.written.now (rw c.in-Ok-Some.ensures.0 at c.in-Ok-Some.ensures.1.fault) in
    omega (arith, long.1, length-take-le c.args.written.now c.args.room.now long.0)

pub returns-clause-adds : goal.returns-clause-adds
returns-clause-adds c = search rules

pub returns-clause-keyed : goal.returns-clause-keyed
returns-clause-keyed c = λ key named is same.
    let whole = rw c.in-Ok-Some.ensures.0 at c.in-Ok-Some.ensures.1.fault in
    signs_by c.args.covered.now c.args.hmac.now named key c.store_length.result
    (record { slice = c.args.room.now; count = c.args.written.now }) (record { slice = c.add_message_integrity_with_hmac-added.new.slice; count = c.store_length.new.written })
    whole is same (returns-clause-adds c)
