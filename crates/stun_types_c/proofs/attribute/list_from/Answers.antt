use Rattle.std.proofs.Common.{rules, ◌+◌, refl}
use Rattle.stun_types.specs.Iterating.{shown_behind}
use Rattle.stun_types_c.proofs.WalksLemmas.{one_listed}
use Rattle.stun_types_c.proofs.attribute.list_from.Goals as goal

pub loop-found-preserved : goal.loop-found-preserved
loop-found-preserved c =
    let d = c.args.bytes.now in
    let at = c.loop-found.at in
    let next = c.in-Some.next in
    let taken = c.in-Some.ensures in
    record {
      within = search rules;
      few = search rules;
      listed = one_listed (shown_behind c.args.from.last c.args.from.offset d) (shown_behind at.last at.offset d) (shown_behind next.last next.offset d) taken.first c.loop-found.count (c.loop-found.count + 1) c.loop-found.attributes c.put_after.new.attributes c.args.attributes.now c.in-Some.found
          c.loop-found.invariant.listed taken.shows taken.is_first refl c.put_after.ensures;
    }
