use Rattle.std.proofs.Common.{◌≡◌, Some, true, rules, sym, subst}
use Rattle.std.specs.Prelude.{slice_get}
use Rattle.stun_framing.specs.Channels.{begins_number}
use Rattle.turn_server.specs.ChannelMessages.{last_channel, range_to}
use Rattle.turn_server.specs.Judging.{Judged}
use Rattle.turn_server.specs.Reporting.{Tells}
use Rattle.turn_server.specs.Sites.{site_of}
use Rattle.turn_server.proofs.JudgingLemmas.{judge_channel}
use Rattle.turn_server.proofs.judging.judge.Goals as goal

pub returns-then-begins_with-clause-judged : goal.returns-then-begins_with-clause-judged
returns-then-begins_with-clause-judged g c =
    let d = c.args.datagram.now in
    let last = last_channel c.args.old_channels in
    let site = site_of c.args.site.now.access.now c.args.site.now.sockets (g.K.LongTermKeys.key_of c.args.keys.now) c.args.client c.args.now in
    let at : slice_get d 0 ≡ Some c.in-Some.first.now = search rules in
    let begins : begins_number (range_to last) c.in-Some.first.now ≡ true = search rules in
    subst (λ (j : Judged). Tells site d j c.judge_channel_message.result) (sym (judge_channel last c.args.sets_df site d c.in-Some.first.now at begins)) (c.judge_channel_message.ensures site)
