use Rattle.std.proofs.Common.{◌≡◌, ℕ, List, true, false, rules, sym, ap, subst, ◌∙◌}
use Rattle.std.proofs.lemmas.Bool.{false≢true}
use Rattle.std.specs.Prelude.{◌==◌}
use Rattle.stun_attributes.specs.Texts.{text_bytes}
use Rattle.stun_base.specs.MessageTypes.{method_of}
use Rattle.stun_grammar.specs.Headers.{type_field}
use Rattle.stun_grammar.specs.Names.{BINDING}
use Rattle.stun_types.specs.Message.{message_bytes}
use Rattle.stun_authentication.specs.Answers.{Tells as Decides}
use Rattle.stun_authentication.specs.LongTerm.{long_term, needs_key}
use Rattle.stun_authentication.specs.Lookups.{Known}
use Rattle.stun_authentication.specs.Nonces.{state_of}
use Rattle.turn_server.specs.Access.{nonces_at}
use Rattle.turn_server.specs.Judging.{Judged}
use Rattle.turn_server.specs.Judgments.{credentials}
use Rattle.turn_server.specs.Reporting.{Tells}
use Rattle.turn_server.specs.Requests.{asks_table}
use Rattle.turn_server.specs.Sites.{site_of}
use Rattle.turn_server.proofs.JudgingLemmas.{requested_is, second_false}
use Rattle.turn_server.proofs.judging.judge_request.Goals as goal

pub returns-in_err-authentication-clause-memory : goal.returns-in_err-authentication-clause-memory
returns-in_err-authentication-clause-memory g c e =
    let access = c.args.site.now.access.now in
    let d = message_bytes c.args.request.now in
    let asks : asks_table (method_of (type_field d)) ≡ true = search rules in
    let nonces_are : state_of c.nonces_of-nonces.result ≡ nonces_at c.args.client c.args.now access = c.nonces_of-nonces.ensures in
    absurd (false≢true (c.in_err-authentication.ensures.memory
    (ap (λ (n : List ℕ → Known). needs_key access.policy n d) nonces_are ∙ second_false (asks_table (method_of (type_field d))) (needs_key access.policy (nonces_at c.args.client c.args.now access) d) asks e)))

pub returns-clause-judged : goal.returns-clause-judged
returns-clause-judged g c =
    let access = c.args.site.now.access.now in
    let d = message_bytes c.args.request.now in
    let keys = g.K.LongTermKeys.key_of c.args.keys.now in
    let site = site_of access c.args.site.now.sockets keys c.args.client c.args.now in
    let other : (method_of (type_field d) == BINDING) ≡ false = search rules in
    let asks : asks_table (method_of (type_field d)) ≡ true = search rules in
    let nonces_are : state_of c.nonces_of-nonces.result ≡ nonces_at c.args.client c.args.now access = c.nonces_of-nonces.ensures in
    let realm_is : c.realm.result.now ≡ text_bytes access.realm = c.realm.ensures in
    let decides : Decides (credentials site d) c.in_ok-authentication.authentication =
    subst (λ (n : List ℕ → Known). Decides (long_term access.policy (text_bytes access.realm) n keys d) c.in_ok-authentication.authentication) nonces_are
    (subst (λ (r : List ℕ). Decides (long_term access.policy r (state_of c.nonces_of-nonces.result) keys d) c.in_ok-authentication.authentication) realm_is c.in_ok-authentication.ensures.decision) in
    subst (λ (j : Judged). Tells site d j c.judge_decided.result) (sym (requested_is c.args.sets_df site (method_of (type_field d)) d other asks))
    (c.judge_decided.ensures site (credentials site d) (search rules) decides)
