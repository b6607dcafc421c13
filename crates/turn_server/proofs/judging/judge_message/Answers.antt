use Rattle.std.proofs.Common.{◌≡◌, List, ℕ, None, rules, sym, subst}
use Rattle.std.specs.Prelude.{IfOk}
use Rattle.stun_base.specs.MessageTypes.{class_of, method_of}
use Rattle.stun_base.specs.declared.message_class.MessageClass.TheVariants.{Request, Indication}
use Rattle.stun_grammar.specs.Headers.{type_field}
use Rattle.stun_grammar.specs.Parsing.{parse_fault}
use Rattle.stun_types.specs.Message.{message_bytes}
use Rattle.turn_server.specs.Judging.{Judged, requested, indicated}
use Rattle.turn_server.specs.Reporting.{Tells}
use Rattle.turn_server.specs.Sites.{site_of}
use Rattle.turn_server.proofs.JudgingLemmas.{message_is}
use Rattle.turn_server.proofs.judging.judge_message.Goals as goal

pub returns-in-Request-clause-judged : goal.returns-in-Request-clause-judged
returns-in-Request-clause-judged g c =
    let d = c.args.datagram.now in
    let site = site_of c.args.site.now.access.now c.args.site.now.sockets (g.K.LongTermKeys.key_of c.args.keys.now) c.args.client c.args.now in
    let bytes : message_bytes c.in-Ok.message ≡ d = search rules in
    let parses : parse_fault d ≡ None = search rules in
    let class_is : class_of (type_field d) ≡ Request = search rules in
    subst (λ (j : Judged). IfOk c.judge_request.result (Tells site d j)) (sym (message_is c.args.sets_df site d Request parses class_is))
    (subst (λ (b : List ℕ). IfOk c.judge_request.result (Tells site b (requested c.args.sets_df site (method_of (type_field b)) b))) bytes c.judge_request.ensures.judged)

pub returns-in-Indication-clause-judged : goal.returns-in-Indication-clause-judged
returns-in-Indication-clause-judged g c =
    let d = c.args.datagram.now in
    let site = site_of c.args.site.now.access.now c.args.site.now.sockets (g.K.LongTermKeys.key_of c.args.keys.now) c.args.client c.args.now in
    let bytes : message_bytes c.in-Ok.message ≡ d = search rules in
    let parses : parse_fault d ≡ None = search rules in
    let class_is : class_of (type_field d) ≡ Indication = search rules in
    subst (λ (j : Judged). Tells site d j c.judge_indication.result) (sym (message_is c.args.sets_df site d Indication parses class_is))
    (subst (λ (b : List ℕ). Tells site b (indicated c.args.sets_df (method_of (type_field b)) b) c.judge_indication.result) bytes (c.judge_indication.ensures site))
