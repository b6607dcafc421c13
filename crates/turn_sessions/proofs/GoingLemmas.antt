-- What a server grants round after round, a client hears as granted.
use Rattle.std.proofs.Common.{◌≡◌, ◌∙◌, ◌∷◌, ℕ, List, [], None, refl, sym, ap, subst}
use Rattle.stun_authentication.specs.Challenges.{signing_algorithm}
use Rattle.stun_authentication.specs.Lookups.{UserKey}
use Rattle.stun_grammar.specs.declared.integrity_algorithm.IntegrityAlgorithm.{IntegrityAlgorithm}
use Rattle.stun_endpoints.specs.declared.endpoints.Endpoint.{Endpoint}
use Rattle.turn_client.specs.Clients.{Client}
use Rattle.turn_client.specs.Receiving.{event_at}
use Rattle.turn_client.specs.Rounds.{all_exchanged, all_rounds, AreGranted, AreRounds, Exchange, IsGranted, poll_at, polled_by, Round}
use Rattle.turn_client.specs.Runs.{after_all, Moment}
use Rattle.turn_client_machine.specs.declared.requests.Answer.TheVariants.{Extended}
use Rattle.turn_client_machine.specs.declared.requests.Kind.{Kind}
use Rattle.turn_client_machine.specs.declared.requests.Kind.TheVariants.{Allocate, Bind, Delete, Permit, Refresh}
use Rattle.turn_client_machine.specs.declared.requests.Request.{Request}
use Rattle.turn_client_machine.specs.Events.{asks, nothing, Output, send_on, send_to, shows}
use Rattle.turn_client_machine.specs.Rounds.{success_to}
use Rattle.turn_machine.specs.Events.{Answer}
use Rattle.turn_machine.specs.Times.{refreshed_for}
use Rattle.turn_server.specs.Acting.{responds, Used}
use Rattle.turn_sessions.specs.Going.{AreServed, AreServedRounds, IsFitAt, IsServed, IsServedBy}
use Rattle.turn_sessions.specs.Hearing.{Host, IsAnswered, IsMet, response_text, Sent, sent_by}
use Rattle.turn_sessions.proofs.HearingLemmas.{bind_heard, Laws, permit_heard, refresh_heard}

-- the response is determined
same_answer : (a b : Answer) (u v : Used) (key : UserKey) (algorithm : IntegrityAlgorithm) → responds a None u key algorithm ≡ responds b None v key algorithm → a ≡ b
same_answer a b u v key algorithm e = cc

answered_by : Laws → (sent : Sent) (host : Host) (key : UserKey) (lifetime : ℕ) → IsMet sent host key → lifetime ≡ refreshed_for sent.content.lifetime host.setup.greatest_lifetime → (kind : Kind) → sent.asked.request.kind ≡ kind → IsFitAt host sent kind
    → IsAnswered sent host key (success_to lifetime kind)
answered_by laws sent host key lifetime met same Allocate is fit = absurd fit
answered_by laws sent host key lifetime met same Refresh is fit =
    subst (λ (n : ℕ). IsAnswered sent host key (Extended n)) (sym same) (refresh_heard laws sent host key met is fit)
answered_by laws sent host key lifetime met same Delete is fit = absurd fit
answered_by laws sent host key lifetime met same (Permit peer) is fit = permit_heard laws sent host key peer met is fit.0 fit.1
answered_by laws sent host key lifetime met same (Bind number peer) is fit = bind_heard laws sent host key number peer met is fit

served_heard : Laws → (client : Client) (lifetime : ℕ) (d : List ℕ) (r : Request) (others : List Endpoint) → IsServed client lifetime d r others → IsGranted client lifetime d (asks r others)
served_heard laws client lifetime d r others s =
    let sent = sent_by client r others s.login in
    let answered = answered_by laws sent s.host s.key lifetime s.met s.grants r.kind refl s.fit in
    let same = same_answer s.response.answer answered.answer s.response.used answered.used s.key (signing_algorithm s.login.retry) (sym s.response.acts ∙ answered.acts) in
    ap (event_at client client.held.settings.server) (s.response.text ∙ ap (response_text sent s.host s.key) same)
    ∙ answered.hears client s.awaited

served_granted : Laws → (client : Client) (lifetime : ℕ) (d : List ℕ) (o : Output) → IsServedBy client lifetime d o → IsGranted client lifetime d o
served_granted laws client lifetime d (asks r others) served = served_heard laws client lifetime d r others served
served_granted laws client lifetime d (send_to peer bytes) served = tt
served_granted laws client lifetime d (send_on number bytes) served = tt
served_granted laws client lifetime d (shows peer bytes) served = tt
served_granted laws client lifetime d nothing served = tt

all_granted : Laws → (client : Client) (lifetime now : ℕ) (xs : List Exchange) (earlier : List Moment) → AreServed client lifetime now xs earlier → AreGranted client lifetime now xs earlier
all_granted laws client lifetime now [] earlier served = tt
all_granted laws client lifetime now (x ∷ xs) earlier served =
    let before = all_exchanged client now xs earlier in (
      served_granted laws (after_all client (poll_at now x.fresh ∷ before)) lifetime x.datagram (polled_by client now x before) served.0,
      all_granted laws client lifetime now xs earlier served.1,
    )

pub rounds_granted : Laws → (client : Client) (lifetime late : ℕ) (rounds : List Round) (earlier : List Moment) → AreServedRounds client lifetime late rounds earlier → AreRounds client lifetime late rounds earlier
rounds_granted laws client lifetime late [] earlier served = tt
rounds_granted laws client lifetime late (round ∷ rounds) earlier served = (
  record {
    soon = served.0.soon;
    granted = all_granted laws client lifetime round.now round.exchanges (all_rounds client rounds earlier) served.0.served;
    done = served.0.done;
  },
  rounds_granted laws client lifetime late rounds earlier served.1,
)
