use Rattle.std.proofs.Common.{◌≡◌, Some, subst}
use Rattle.stun_grammar.specs.Headers.{header_fault}
use Rattle.stun_types.proofs.FramesLemmas.{whole, none_begins, some_begins}
use Rattle.stun_types.proofs.reading.frame.message_length.Goals as goal

pub stated_length-requires : goal.stated_length-requires
stated_length-requires c = (whole c.args.prefix.now c.in-Ok.ensures).1

pub returns-in-Ok-clause-reported : goal.returns-in-Ok-clause-reported
returns-in-Ok-clause-reported c = let there = whole c.args.prefix.now c.in-Ok.ensures in (there.0, (there.1, c.stated_length.ensures.stated))

pub returns-in-NotStun-clause-reported : goal.returns-in-NotStun-clause-reported
returns-in-NotStun-clause-reported c = (c.in-NotStun.is, none_begins c.args.prefix.now (subst (λ e. header_fault c.args.prefix.now ≡ Some e) c.in-NotStun.is c.in-Err.ensures))

pub returns-in_default-clause-reported : goal.returns-in_default-clause-reported
returns-in_default-clause-reported c = some_begins c.args.prefix.now c.in-Err.refused c.in-Err.ensures c.in_default.not-NotStun
