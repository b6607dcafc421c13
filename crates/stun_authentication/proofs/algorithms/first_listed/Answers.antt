use Rattle.std.proofs.Common.{◌≡◌, ◌-◌, ◌<◌, length, drop, None, Some, sym, ◌∙◌, arith}
use Rattle.stun_authentication.specs.Lists.{named_by}
use Rattle.stun_authentication.proofs.EntriesLemmas.{among_none, among_first, among_next, entry_length}
use Rattle.stun_authentication.proofs.algorithms.first_listed.Goals as goal

pub returns-in-Some-named_by : goal.returns-in-Some-named_by
returns-in-Some-named_by c =
    let found = c.in-Some.ensures.1 in
    let entry = found.raw_is.raw_is in
    let named : named_by c.args.wanted.now found.attribute.type found.attribute.value ≡ Some c.in-Some-named_by.algorithm = rw (sym entry.type_is, sym entry.value_is) (sym c.named_by.ensures ∙ c.in-Some-named_by.is) in
    sym (c.walk.invariant.same ∙ among_first c.args.wanted.now (drop c.walk.offset c.args.value.now) found.attribute c.in-Some-named_by.algorithm found.first_is named)

pub walk-smaller : goal.walk-smaller
walk-smaller c =
    let found = c.in-Some.ensures.1 in
    let falls : length c.args.value.now - c.in-Some.behind < length c.args.value.now - c.walk.offset =
    omega (arith, found.behind_is, entry_length c.args.value.now c.walk.offset found.attribute found.first_is, c.in-Some.ensures.0) in
    falls

pub walk-preserved : goal.walk-preserved
walk-preserved c =
    let found = c.in-Some.ensures.1 in
    let entry = found.raw_is.raw_is in
    let none : named_by c.args.wanted.now found.attribute.type found.attribute.value ≡ None = rw (sym entry.type_is, sym entry.value_is) (sym c.named_by.ensures ∙ c.in_default-named_by.is) in
    record {
      within = c.in-Some.ensures.0;
      same = c.walk.invariant.same ∙ among_next c.args.wanted.now c.args.value.now c.walk.offset c.in-Some.behind found.attribute found.first_is found.behind_is none;
    }

pub returns : goal.returns
returns c = sym (c.walk.invariant.same ∙ among_none c.args.wanted.now (drop c.walk.offset c.args.value.now) c.in_default.ensures)
