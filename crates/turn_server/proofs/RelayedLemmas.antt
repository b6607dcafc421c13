-- What goes to a peer is warranted by what came before.
use Rattle.std.proofs.Common.{◌≡◌, ℕ, Bool, true, false, List, Option, Some, ◌⊎◌, inl, inr, ap, sym, subst, ◌∙◌}
use Rattle.stun_grammar.specs.declared.integrity_algorithm.IntegrityAlgorithm.{IntegrityAlgorithm}
use Rattle.stun_authentication.specs.Lookups.{UserKey}
use Rattle.stun_endpoints.specs.declared.endpoints.Endpoint.{Endpoint}
use Rattle.stun_endpoints.specs.declared.endpoints.FiveTuple.{FiveTuple}
use Rattle.turn_machine.specs.Relays.{Setup, Rules, State}
use Rattle.turn_machine.specs.Events.{Event, sends, sends_on, Output, answers, to_peer, to_client, to_client_on, to_client_icmp, nothing}
use Rattle.turn_machine.specs.Runs.{Timed, Happening, run, happening, history}
use Rattle.turn_machine.specs.Steps.{step}
use Rattle.turn_machine.specs.Times.{at}
use Rattle.turn_machine.specs.Reserving.{OuterState, inner_run}
use Rattle.turn_machine.specs.Warrants.{IsWarranted, ArePermitting, AreBinding, IsRight}
use Rattle.turn_allocations.specs.declared.families.Families.{Families}
use Rattle.turn_server.specs.Acting.{sends_to, data_act, answer_act, acted, act}
use Rattle.turn_server.specs.Datagrams.{Moment, events_in, past, kept, clock_at, IsRelayed}
use Rattle.turn_server.specs.Judging.{Site, Judged, dropped, binding, refused, unknown, sent, sent_on, asked, judge}
use Rattle.turn_server.specs.Judgments.{IsSo}
use Rattle.turn_server.specs.Wanted.{token_of}
use Rattle.turn_server.proofs.DatagramsLemmas.{Runs, state_is_run}
use Rattle.turn_server.proofs.JudgingLemmas.{judgment_is_so}

-- what the machine's law says
abbrev pub Right : Type 0
Right = (setup : Setup) (earlier : List Timed) (timed : Timed) → let h = happening setup (run setup earlier) timed in IsRight setup (history setup earlier) h.moment h.rules h.event h.output

pub data_is : (number : ℕ) (peer : Endpoint) (dont_fragment : Bool) (bytes : List ℕ) (output : Output) → data_act output ≡ sends_to number peer dont_fragment bytes → output ≡ to_peer number peer dont_fragment bytes
data_is number peer dont_fragment bytes (answers tuple answer) e = absurd cc
data_is number peer dont_fragment bytes (to_peer from to fragmented held) e = cc
data_is number peer dont_fragment bytes (to_client tuple from held) e = absurd cc
data_is number peer dont_fragment bytes (to_client_on tuple channel held) e = absurd cc
data_is number peer dont_fragment bytes (to_client_icmp tuple from icmp) e = absurd cc
data_is number peer dont_fragment bytes nothing e = absurd cc

pub no_data : {P : Type 0} (next : ℕ) (claims : Option ℕ) (key : UserKey) (algorithm : IntegrityAlgorithm) (token : Option ℕ) (number : ℕ) (peer : Endpoint) (dont_fragment : Bool) (bytes : List ℕ) (output : Output) → answer_act next claims key algorithm token output ≡ sends_to number peer dont_fragment bytes → P
no_data next claims key algorithm token number peer dont_fragment bytes (answers tuple answer) e = absurd cc
no_data next claims key algorithm token number peer dont_fragment bytes (to_peer from to fragmented held) e = absurd cc
no_data next claims key algorithm token number peer dont_fragment bytes (to_client tuple from held) e = absurd cc
no_data next claims key algorithm token number peer dont_fragment bytes (to_client_on tuple channel held) e = absurd cc
no_data next claims key algorithm token number peer dont_fragment bytes (to_client_icmp tuple from icmp) e = absurd cc
no_data next claims key algorithm token number peer dont_fragment bytes nothing e = absurd cc

-- by an event after these arrivals
pub right_after : Runs → Right → (setup : Setup) (rules : Rules) (earlier : List Moment) (now : ℕ) (event : Event) → IsRight setup (past setup earlier) (clock_at setup earlier now) rules event (step setup rules (kept setup earlier).state now event).output
right_after runs right setup rules earlier now event =
    subst (λ (s : State). IsRight setup (past setup earlier) (at now s).clock rules event (step setup rules s now event).output)
    (sym (state_is_run runs setup earlier)) (right setup (inner_run setup (events_in setup earlier)) (record { now = now; rules = rules; event = event }))

-- by a Send indication
module _ (setup : Setup) (earlier : List Happening) (now : ℕ) (tuple : FiveTuple) (number : ℕ) (peer : Endpoint) (bytes : List ℕ) where
  pub record Sent (to : Endpoint) (whole : Bool) (held : List ℕ) (fragmented : Bool) : Type 0 where
    pub peer_is : to ≡ peer
    pub bytes_are : held ≡ bytes
    pub mark : fragmented ≡ whole
    pub warranted : IsWarranted earlier now tuple number peer (ArePermitting setup tuple peer now)

  pub sent_right : (to : Endpoint) (whole : Bool) (held : List ℕ) (fragmented : Bool) (from : FiveTuple)
      → (((sends tuple to whole held ≡ sends from peer fragmented bytes) × (fragmented ≡ true → setup.supports_dont_fragment ≡ true) × IsWarranted earlier now from number peer (ArePermitting setup from peer now))
      ⊎ ((channel : ℕ) × (sends tuple to whole held ≡ sends_on from channel bytes) × (fragmented ≡ false) × IsWarranted earlier now from number peer (AreBinding from channel peer now)))
      → Sent to whole held fragmented
  sent_right to whole held fragmented from (inl it) =
      let e = it.0 in
      let same : from ≡ tuple = cc in
      record {
        peer_is = cc;
        bytes_are = cc;
        mark = cc;
        warranted = subst (λ (t : FiveTuple). IsWarranted earlier now t number peer (ArePermitting setup t peer now)) same it.2;
      }
  sent_right to whole held fragmented from (inr it) =
      let e = it.1 in absurd cc

  -- by a ChannelData message
  pub record SentOn (channel : ℕ) (held : List ℕ) (fragmented : Bool) : Type 0 where
    pub bytes_are : held ≡ bytes
    pub mark : fragmented ≡ false
    pub warranted : IsWarranted earlier now tuple number peer (AreBinding tuple channel peer now)

  pub sent_on_right : (channel : ℕ) (held : List ℕ) (fragmented : Bool) (from : FiveTuple)
      → (((sends_on tuple channel held ≡ sends from peer fragmented bytes) × (fragmented ≡ true → setup.supports_dont_fragment ≡ true) × IsWarranted earlier now from number peer (ArePermitting setup from peer now))
      ⊎ ((on : ℕ) × (sends_on tuple channel held ≡ sends_on from on bytes) × (fragmented ≡ false) × IsWarranted earlier now from number peer (AreBinding from on peer now)))
      → SentOn channel held fragmented
  sent_on_right channel held fragmented from (inl it) =
      let e = it.0 in absurd cc
  sent_on_right channel held fragmented from (inr it) =
      let e = it.1 in
      let same : from ≡ tuple = cc in
      let same_channel : it.0 ≡ channel = cc in
      record {
        bytes_are = cc;
        mark = it.2;
        warranted = subst (λ (n : ℕ). IsWarranted earlier now tuple number peer (AreBinding tuple n peer now)) same_channel
            (subst (λ (t : FiveTuple). IsWarranted earlier now t number peer (AreBinding t it.0 peer now)) same it.3);
      }

-- what is relayed for a datagram that is taken for this
module _ (runs : Runs) (right : Right) (setup : Setup) (rules : Rules) (earlier : List Moment) (now : ℕ) (site : Site) (tuple : FiveTuple) (numbers : Families ℕ) (d : List ℕ) (number : ℕ) (peer : Endpoint) (dont_fragment : Bool) (bytes : List ℕ) where
  relayed_for : (judged : Judged) → IsSo setup.supports_dont_fragment site d judged → acted setup rules tuple numbers (kept setup earlier) now judged ≡ sends_to number peer dont_fragment bytes
      → IsRelayed setup rules earlier now tuple d number peer dont_fragment bytes
  relayed_for dropped so e = absurd cc
  relayed_for binding so e = absurd cc
  relayed_for (refused refusal) so e = absurd cc
  relayed_for (unknown key algorithm) so e = absurd cc
  relayed_for (sent to whole held) so e =
      let clock = clock_at setup earlier now in
      let event = sends tuple to whole held in
      let output = (step setup rules (kept setup earlier).state now event).output in
      let goes = subst (IsRight setup (past setup earlier) clock rules event) (data_is number peer dont_fragment bytes output e) (right_after runs right setup rules earlier now event) in
      let by = sent_right setup (past setup earlier) clock tuple number peer bytes to whole held dont_fragment goes.0 goes.2 in
      (goes.1, inl (so.0, so.1.0 ∙ ap (λ (p : Endpoint). Some (p, held)) by.peer_is ∙ ap (λ (b : List ℕ). Some (peer, b)) by.bytes_are, by.mark ∙ so.1.1, by.warranted))
  relayed_for (sent_on channel held) so e =
      let clock = clock_at setup earlier now in
      let event = sends_on tuple channel held in
      let output = (step setup rules (kept setup earlier).state now event).output in
      let goes = subst (IsRight setup (past setup earlier) clock rules event) (data_is number peer dont_fragment bytes output e) (right_after runs right setup rules earlier now event) in
      let by = sent_on_right setup (past setup earlier) clock tuple number peer bytes channel held dont_fragment goes.0 goes.2 in
      (goes.1, inr (so.1 ∙ ap (λ (b : List ℕ). Some b) by.bytes_are, by.mark, subst (λ (n : ℕ). IsWarranted (past setup earlier) clock tuple number peer (AreBinding tuple n peer clock)) so.0 by.warranted))
  relayed_for (asked user wanted key algorithm) so e = no_data (kept setup earlier).state.next (token_of wanted) key algorithm _ number peer dont_fragment bytes _ e

  pub relayed : act site setup rules tuple numbers (kept setup earlier) now d ≡ sends_to number peer dont_fragment bytes
      → IsRelayed setup rules earlier now tuple d number peer dont_fragment bytes
  relayed e = relayed_for (judge setup.last_channel setup.supports_dont_fragment site d) (judgment_is_so setup.last_channel setup.supports_dont_fragment site d) e

-- ---- What is due passes

pub send_passes : (setup : Setup) (rules : Rules) (h : OuterState) (now : ℕ) (site : Site) (tuple : FiveTuple) (numbers : Families ℕ) (d bytes : List ℕ) (number : ℕ) (peer : Endpoint) (whole : Bool)
    → judge setup.last_channel setup.supports_dont_fragment site d ≡ sent peer whole bytes → (step setup rules h.state now (sends tuple peer whole bytes)).output ≡ to_peer number peer whole bytes
    → act site setup rules tuple numbers h now d ≡ sends_to number peer whole bytes
send_passes setup rules h now site tuple numbers d bytes number peer whole judged out =
    ap (λ (j : Judged). acted setup rules tuple numbers h now j) judged ∙ ap data_act out

pub channel_passes : (setup : Setup) (rules : Rules) (h : OuterState) (now : ℕ) (site : Site) (tuple : FiveTuple) (numbers : Families ℕ) (d bytes : List ℕ) (number channel : ℕ) (peer : Endpoint)
    → judge setup.last_channel setup.supports_dont_fragment site d ≡ sent_on channel bytes → (step setup rules h.state now (sends_on tuple channel bytes)).output ≡ to_peer number peer false bytes
    → act site setup rules tuple numbers h now d ≡ sends_to number peer false bytes
channel_passes setup rules h now site tuple numbers d bytes number channel peer judged out =
    ap (λ (j : Judged). acted setup rules tuple numbers h now j) judged ∙ ap data_act out

-- and what passes is the output
pub channel_passed : (setup : Setup) (rules : Rules) (h : OuterState) (now : ℕ) (site : Site) (tuple : FiveTuple) (numbers : Families ℕ) (d bytes : List ℕ) (number channel : ℕ) (peer : Endpoint)
    → judge setup.last_channel setup.supports_dont_fragment site d ≡ sent_on channel bytes → act site setup rules tuple numbers h now d ≡ sends_to number peer false bytes
    → (step setup rules h.state now (sends_on tuple channel bytes)).output ≡ to_peer number peer false bytes
channel_passed setup rules h now site tuple numbers d bytes number channel peer judged goes =
    data_is number peer false bytes (step setup rules h.state now (sends_on tuple channel bytes)).output
    (ap (λ (j : Judged). acted setup rules tuple numbers h now j) (sym judged) ∙ goes)
