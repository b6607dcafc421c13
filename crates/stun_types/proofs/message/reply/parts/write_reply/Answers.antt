use Rattle.std.proofs.Common.{◌<◌, length, arith, rules}
use Rattle.stun_types.proofs.RepliesLemmas.{replies_begun, replies_more, replies_refused, replies_all}
use Rattle.stun_types.proofs.message.reply.parts.write_reply.Goals as goal

pub loop-i-init : goal.loop-i-init
loop-i-init g c = replies_begun c.args.parts.now _ _ _ c.in_ok-builder_error_into.ensures.ok

pub loop-i-preserved : goal.loop-i-preserved
loop-i-preserved g c =
    let within : c.loop-i.i < length c.args.parts.now = omega arith in
    replies_more c.args.parts.now _ _ _ _ c.loop-i.i _ c.add_part.result within c.loop-i.invariant c.add_part.ensures (search rules)

pub returns-in_err-add_part-clause-replies : goal.returns-in_err-add_part-clause-replies
returns-in_err-add_part-clause-replies g c =
    let within : c.loop-i.i < length c.args.parts.now = omega arith in
    replies_refused c.args.parts.now _ _ _ _ c.loop-i.i _ c.add_part.result _ within c.loop-i.invariant c.add_part.ensures c.in_err-add_part.was _ (search rules)

pub returns-clause-replies : goal.returns-clause-replies
returns-clause-replies g c = replies_all c.args.parts.now _ _ _ c.loop-i.i (omega arith) c.loop-i.invariant
