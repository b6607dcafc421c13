use Rattle.std.proofs.Common.{◌≡◌, sym, subst, ◌∙◌}
use Rattle.turn_machine.specs.Relays.{State}
use Rattle.turn_machine.specs.Events.{sends, arrives, bounces, to_peer, to_client_icmp}
use Rattle.turn_machine.specs.Steps.{step}
use Rattle.turn_machine.specs.Times.{at}
use Rattle.turn_machine.specs.Warrants.{ArePermitting}
use Rattle.turn_machine.specs.Works.{IsDue, Reaches}
use Rattle.stun_authentication.specs.Identities.{shows}
use Rattle.turn_attrs.specs.Turn.{DONT_FRAGMENT}
use Rattle.turn_server.specs.Datagrams.{events_in, past, kept}
use Rattle.turn_machine.specs.Reserving.{inner_run}
use Rattle.turn_server.specs.Judging.{Judged}
use Rattle.turn_server.specs.Judgments.{IsSo}
use Rattle.turn_server.proofs.DatagramsLemmas.{state_is_run}
use Rattle.turn_server.proofs.JudgingLemmas.{judgment_is_so, first_true}
use Rattle.turn_server.proofs.RelayedLemmas.{send_passes}
use Rattle.turn_server.proofs.laws.permitted_datagrams_pass.Goals as goal

pub returns-clause-sent : goal.returns-clause-sent
returns-clause-sent c = λ setup rules earlier now tuple number peer due allowed site numbers d whole bytes judged.
    let is = state_is_run c.reservations_are_kept.ensures.state setup earlier in
    let df = setup.supports_dont_fragment in
    let so = subst (λ (j : Judged). IsSo df site d j) judged (judgment_is_so setup.last_channel df site d) in
    let out = c.what_is_permitted_works.ensures.out setup (inner_run setup (events_in setup earlier)) now rules tuple number peer whole bytes
    (subst (λ (s : State). IsDue (past setup earlier) (at now s).clock tuple number peer (ArePermitting setup tuple peer (at now s).clock)) is due) allowed (λ marked. first_true df (shows DONT_FRAGMENT d) (sym so.1.1 ∙ marked)) in
    send_passes setup rules (kept setup earlier) now site tuple numbers d bytes number peer whole judged
    (subst (λ (s : State). (step setup rules s now (sends tuple peer whole bytes)).output ≡ to_peer number peer whole bytes) (sym is) out)

pub returns-clause-back : goal.returns-clause-back
returns-clause-back c = λ setup rules earlier now tuple number peer bytes due allowed.
    let is = state_is_run c.reservations_are_kept.ensures.state setup earlier in
    let back = c.what_is_permitted_works.ensures.back setup (inner_run setup (events_in setup earlier)) now rules tuple number peer bytes
    (subst (λ (s : State). IsDue (past setup earlier) (at now s).clock tuple number peer (ArePermitting setup tuple peer (at now s).clock)) is due) allowed in
    subst (λ (s : State). Reaches tuple peer bytes (step setup rules s now (arrives number peer bytes)).output) (sym is) back

pub returns-clause-news : goal.returns-clause-news
returns-clause-news c = λ setup rules earlier now tuple number peer icmp due allowed passes reported.
    let is = state_is_run c.reservations_are_kept.ensures.state setup earlier in
    let news = c.what_is_permitted_works.ensures.news setup (inner_run setup (events_in setup earlier)) now rules tuple number peer icmp
    (subst (λ (s : State). IsDue (past setup earlier) (at now s).clock tuple number peer (ArePermitting setup tuple peer (at now s).clock)) is due) allowed passes reported in
    subst (λ (s : State). (step setup rules s now (bounces number peer icmp)).output ≡ to_client_icmp tuple peer icmp) (sym is) news
