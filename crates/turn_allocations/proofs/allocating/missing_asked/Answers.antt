use Rattle.std.proofs.Common.{true, false, ◌∙◌, sym}
use Rattle.turn_allocations.proofs.AllocatingLemmas.{none_missing, some_missing}
use Rattle.turn_allocations.proofs.allocating.missing_asked.Goals as goal

pub returns-then-is_given : goal.returns-then-is_given
returns-then-is_given c setup tuple s family ready has is =
    sym (none_missing setup tuple s family ready (has ∙ c.if-is_given.true))

pub returns-then-is_supported : goal.returns-then-is_supported
returns-then-is_supported c setup tuple s family ready has is =
    sym (some_missing setup tuple s family ready true (has ∙ c.if-is_given.false) (is ∙ c.if-is_supported.true))

pub returns-else-is_supported : goal.returns-else-is_supported
returns-else-is_supported c setup tuple s family ready has is =
    sym (some_missing setup tuple s family ready false (has ∙ c.if-is_given.false) (is ∙ c.if-is_supported.false))
