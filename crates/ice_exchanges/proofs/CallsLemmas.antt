-- Runs of an agent as runs of the machine: what a call's event and output say of the datagram.
use Rattle.std.proofs.Common.{◌≡◌, ℕ, ◌+◌, ◌<◌, Bool, true, false, List, [], ◌∷◌, ◌++◌, inl, inr, refl, sym, ap, subst, ◌∙◌}
use Rattle.std.specs.Prelude.{max, if◌then◌else◌}
use Rattle.stun_grammar.specs.Headers.{id_field}
use Rattle.stun_grammar.specs.Numbers.{IsBytes}
use Rattle.stun_grammar.specs.declared.integrity_algorithm.IntegrityAlgorithm.{IntegrityAlgorithm}
use Rattle.stun_authentication.specs.Identities.{shows}
use Rattle.stun_endpoints.specs.declared.endpoints.Endpoint.{Endpoint}
use Rattle.ice_attrs.specs.Ice.{USE_CANDIDATE}
use Rattle.ice_machine.specs.declared.messages.Request.{Request}
use Rattle.ice_machine.specs.Agents.{Setup, State, seconds}
use Rattle.ice_machine.specs.declared.messages.Answer.{Answer}
use Rattle.ice_machine.specs.declared.messages.Answer.TheVariants.{Accepted}
use Rattle.ice_machine.specs.declared.messages.Check.{Check}
use Rattle.ice_machine.specs.Events.{Event, gathers, learns, meets, ends, checks, responds, strays, arrives, sends, polls, Output, asks, data_to}
use Rattle.ice_machine.specs.Bounds.{is_asking, is_over_at, requests_sent as all_requests}
use Rattle.ice_machine.specs.Runs.{Begin, Happened, Timed, happening, history, run}
use Rattle.ice_machine.specs.Silence.{is_place, is_request_to, speaks, IsSilent as IsSilentRun, requests_to as requests_in}
use Rattle.ice_machine.specs.Steps.{at, step}
use Rattle.ice_machine.specs.Warrants.{HearsNomination, IsRight, IsSelected, Sends as SendsIn, HasAccepted as HasAcceptedIn, IsNominated as IsNominatedIn}
use Rattle.ice_machine.specs.declared.roles.Role.{Role}
use Rattle.ice_machine.specs.declared.roles.Role.TheVariants.{Controlled, Controlling}
use Rattle.ice_machine.specs.declared.pairs.Pair.{Pair}
use Rattle.ice_agent_state.specs.Agents.{Held, after, output_at}
use Rattle.ice_checks.specs.declared.judged.Judged.{Judged}
use Rattle.ice_checks.specs.declared.judged.Judged.TheVariants.{Arrives, Strays, Refused, Responds, Checks}
use Rattle.ice_checks.specs.Authentic.{IsAuthenticAs, IsAuthenticEvent, IsCheck, IsResponse}
use Rattle.ice_checks.specs.Judging.{event_of, judge}
use Rattle.ice_checks.specs.Views.{Logins}
use Rattle.ice_agent.specs.Agents.{Agent}
use Rattle.ice_agent.specs.Receiving.{is_awaited, judged, received_as}
use Rattle.ice_agent.specs.Runs.{Call, calls, learns_peer, takes, IsBegun, Moment, after_all, event_in, fresh_in, stepped, timed_all}
use Rattle.ice_exchanges.specs.Consents.{HasAccepted, HasNominated, HasSent, IsAgreed, IsConsented, IsNominated}
use Rattle.ice_exchanges.specs.Datagrams.{AreCalls, IsCall, IsPeers, clock_at, is_users, output_of, requests_sent}
use Rattle.ice_exchanges.specs.Silences.{IsQuiet, IsSilent, requests_to}
use Rattle.ice_exchanges.proofs.MeansLemmas.{IsAnswer, IsSo, checks_so, judged_so, responds_so}

-- ---- The machine that an agent holds

pub stepped_held : (agent : Agent) (now fresh : ℕ) (call : Call) → (stepped agent now fresh call).held ≡ after now (fresh_in fresh call) (event_in agent call) agent.held
stepped_held agent now fresh (calls event) = refl
stepped_held agent now fresh (learns_peer peer) = refl
stepped_held agent now fresh (takes base from d) = refl

pub setup_kept : (agent : Agent) (moments : List Moment) → (after_all agent moments).held.setup ≡ agent.held.setup
setup_kept agent [] = refl
setup_kept agent (m ∷ earlier) = ap (λ (h : Held). h.setup) (stepped_held (after_all agent earlier) m.now m.fresh m.call) ∙ setup_kept agent earlier

not_true : (b : Bool) → (b ≡ true → ⊥) → b ≡ false
not_true true e = absurd (e refl)
not_true false e = refl

not_polls : (base : ℕ) (from : Endpoint) (d : List ℕ) (j : Judged) → event_of base from d j ≡ polls → ⊥
not_polls base from d Arrives e = cc
not_polls base from d (Strays id) e = cc
not_polls base from d (Refused id refusal signed_by) e = cc
not_polls base from d (Responds id answer mapped) e = cc
not_polls base from d (Checks check algorithm) e = cc

pub polled_as : (agent : Agent) (call : Call) → event_in agent call ≡ polls → call ≡ calls polls
polled_as agent (calls event) e = ap calls e
polled_as agent (learns_peer peer) e = absurd cc
polled_as agent (takes base from d) e = absurd (not_polls base from d (judged agent base from d) e)

-- a silent address
speaks_of : (logins : Logins) (base : ℕ) (from : Endpoint) (at_base : ℕ) (sender : Endpoint) (d : List ℕ) (j : Judged) → IsSo at_base sender d j → IsAuthenticEvent logins d (event_of at_base sender d j)
    → (is_place base from at_base sender ≡ true → IsPeers logins d → ⊥) → speaks base from (event_of at_base sender d j) ≡ false
speaks_of logins base from at_base sender d Arrives so authentic quiet = refl
speaks_of logins base from at_base sender d (Strays id) so authentic quiet = refl
speaks_of logins base from at_base sender d (Refused id refusal signed_by) so authentic quiet = refl
speaks_of logins base from at_base sender d (Responds id answer mapped) so authentic quiet = not_true (is_place base from at_base sender) (λ e. quiet e (inr authentic))
speaks_of logins base from at_base sender d (Checks check algorithm) so authentic quiet =
    ap (λ (c : Check). is_place base from c.base c.from) so.2 ∙ not_true (is_place base from at_base sender) (λ e. quiet e (inl authentic))

users_quiet : (base : ℕ) (from : Endpoint) (event : Event) → is_users event ≡ true → speaks base from event ≡ false
users_quiet base from (gathers b) e = refl
users_quiet base from (learns r) e = refl
users_quiet base from meets e = refl
users_quiet base from ends e = refl
users_quiet base from (checks c) e = absurd cc
users_quiet base from (responds at_base sender id answer) e = absurd cc
users_quiet base from (strays at_base sender id size code) e = refl
users_quiet base from (arrives at_base sender bytes) e = refl
users_quiet base from (sends component bytes) e = refl
users_quiet base from polls e = refl

-- a stranger
pub unchanged : (agent : Agent) (now fresh base : ℕ) (from : Endpoint) (d : List ℕ) (j : Judged) → IsAuthenticAs agent.logins d j → (IsPeers agent.logins d → ⊥)
    → received_as j now fresh base from d agent ≡ record agent { held = record agent.held { state = at agent.held.setup now agent.held.state } }
unchanged agent now fresh base from d Arrives authentic stranger = refl
unchanged agent now fresh base from d (Strays id) authentic stranger = refl
unchanged agent now fresh base from d (Refused id refusal signed_by) authentic stranger = refl
unchanged agent now fresh base from d (Responds id answer mapped) authentic stranger = absurd (stranger (inr authentic))
unchanged agent now fresh base from d (Checks check algorithm) authentic stranger = absurd (stranger (inl (algorithm, authentic)))

-- ---- The runs of an agent are the machine's

module _ (states : (begin : Begin) (agent : Agent) (moments : List Moment) → IsBegun begin agent → (after_all agent moments).held.state ≡ run agent.held.setup begin (timed_all agent moments)) where
  output_is : (begin : Begin) (agent : Agent) (earlier : List Moment) (m : Moment) → IsBegun begin agent
      → output_of (after_all agent earlier) m
      ≡ output_at m.now (fresh_in m.fresh m.call) (event_in (after_all agent earlier) m.call) (record { setup = agent.held.setup; state = run agent.held.setup begin (timed_all agent earlier) })
  output_is begin agent earlier m begun =
      λ i. output_at m.now (fresh_in m.fresh m.call) (event_in (after_all agent earlier) m.call) (record { setup = setup_kept agent earlier i; state = states begin agent earlier begun i })

  clock_is : (begin : Begin) (agent : Agent) (earlier : List Moment) (now : ℕ) → IsBegun begin agent
      → (at agent.held.setup now (run agent.held.setup begin (timed_all agent earlier))).clock ≡ clock_at (after_all agent earlier) now
  clock_is begin agent earlier now begun = ap (λ (s : State). max s.clock now) (sym (states begin agent earlier begun))

  pub requests_same : (base : ℕ) (to : Endpoint) (begin : Begin) (agent : Agent) (moments : List Moment) → IsBegun begin agent → requests_to base to agent moments ≡ requests_in base to (history agent.held.setup begin (timed_all agent moments))
  requests_same base to begin agent [] begun = refl
  requests_same base to begin agent (m ∷ earlier) begun =
      λ i. if is_request_to base to (output_is begin agent earlier m begun i) then 1 + requests_same base to begin agent earlier begun i else requests_same base to begin agent earlier begun i

  pub all_requests_same : (begin : Begin) (agent : Agent) (moments : List Moment) → IsBegun begin agent → requests_sent agent moments ≡ all_requests (history agent.held.setup begin (timed_all agent moments))
  all_requests_same begin agent [] begun = refl
  all_requests_same begin agent (m ∷ earlier) begun =
      λ i. if is_asking (output_is begin agent earlier m begun i) then 1 + all_requests_same begin agent earlier begun i else all_requests_same begin agent earlier begun i

  over_later : ((setup : Setup) (state : State) (now fresh : ℕ) (event : Event) (base : ℕ) (to : Endpoint) → is_over_at base to state ≡ true → is_over_at base to (step setup state now fresh event).state ≡ true)
      → (agent : Agent) (earlier later : List Moment) (base : ℕ) (to : Endpoint) → is_over_at base to (after_all agent earlier).held.state ≡ true → is_over_at base to (after_all agent (later ++ earlier)).held.state ≡ true
  over_later kept agent earlier [] base to over = over
  over_later kept agent earlier (m ∷ later) base to over =
      let before = after_all agent (later ++ earlier) in
      ap (λ (h : Held). is_over_at base to h.state) (stepped_held before m.now m.fresh m.call)
      ∙ kept before.held.setup before.held.state m.now (fresh_in m.fresh m.call) (event_in before m.call) base to (over_later kept agent earlier later base to over)

  pub silent_later : ((setup : Setup) (state : State) (now fresh : ℕ) (event : Event) (base : ℕ) (to : Endpoint) → is_over_at base to state ≡ true → is_over_at base to (step setup state now fresh event).state ≡ true)
      → ((setup : Setup) (begin : Begin) (earlier : List Timed) (timed : Timed) (base : ℕ) (to : Endpoint) (bytes : List ℕ) → is_over_at base to (run setup begin earlier) ≡ true → (happening setup (run setup begin earlier) timed).output ≡ data_to base to bytes → ⊥)
      → (begin : Begin) (agent : Agent) (earlier later : List Moment) (m : Moment) (base : ℕ) (to : Endpoint) (bytes : List ℕ) → IsBegun begin agent → is_over_at base to (after_all agent earlier).held.state ≡ true
      → output_of (after_all agent (later ++ earlier)) m ≡ data_to base to bytes → ⊥
  silent_later kept silent begin agent earlier later m base to bytes begun over e =
      let all = later ++ earlier in
      let before = after_all agent all in
      silent agent.held.setup begin (timed_all agent all) (record { now = m.now; fresh = fresh_in m.fresh m.call; event = event_in before m.call }) base to bytes
      (ap (is_over_at base to) (sym (states begin agent all begun)) ∙ over_later kept agent earlier later base to over)
      (sym (output_is begin agent all m begun) ∙ e)

-- ---- By the laws of judging, of the agent and of the machine

module _ (authentic : (logins : Logins) (waits : ℕ → Bool) (base : ℕ) (from : Endpoint) (d : List ℕ) → IsBytes d → IsAuthenticEvent logins d (event_of base from d (judge logins waits base from d)))
    (states : (begin : Begin) (agent : Agent) (moments : List Moment) → IsBegun begin agent → (after_all agent moments).held.state ≡ run agent.held.setup begin (timed_all agent moments))
    (rights : (begin : Begin) (agent : Agent) (earlier : List Moment) (now fresh : ℕ) (call : Call) → IsBegun begin agent
    → IsRight (history agent.held.setup begin (timed_all agent earlier)) (at agent.held.setup now (after_all agent earlier).held.state).clock (event_in (after_all agent earlier) call) (output_at now (fresh_in fresh call) (event_in (after_all agent earlier) call) (after_all agent earlier).held)) where
  -- a call whose event is a response, or a check

  taken_as : (agent : Agent) (call : Call) (base : ℕ) (to : Endpoint) (id : ℕ) (answer : Answer) → IsCall call → event_in agent call ≡ responds base to id answer
      → (d : List ℕ) × (call ≡ takes base to d) × (id_field d ≡ id) × IsAnswer answer d × IsResponse agent.logins d
  taken_as agent (calls event) base to id answer users e = absurd (cc (users, ap is_users e))
  taken_as agent (learns_peer peer) base to id answer users e = absurd cc
  taken_as agent (takes at_base sender d) base to id answer bytes e =
      let so = responds_so at_base sender d (judged agent at_base sender d) base to id answer (judged_so agent.logins (is_awaited agent) at_base sender d) e in
      (d, (λ i. takes (so.base_is i) (so.from_is i) d), so.id_is, so.class, subst (λ (event : Event). IsAuthenticEvent agent.logins d event) e (authentic agent.logins (is_awaited agent) at_base sender d bytes))

  checked_as : (agent : Agent) (call : Call) (check : Check) → IsCall call → event_in agent call ≡ checks check
      → (d : List ℕ) × (call ≡ takes check.base check.from d) × (check.nominates ≡ shows USE_CANDIDATE d) × ((algorithm : IntegrityAlgorithm) × IsCheck agent.logins d algorithm)
  checked_as agent (calls event) check users e = absurd (cc (users, ap is_users e))
  checked_as agent (learns_peer peer) check users e = absurd cc
  checked_as agent (takes at_base sender d) check bytes e =
      let so = checks_so at_base sender d (judged agent at_base sender d) check (judged_so agent.logins (is_awaited agent) at_base sender d) e in
      (d, ap (λ (c : Check). takes c.base c.from d) (sym so.2), ap (λ (c : Check). c.nominates) so.2, subst (λ (event : Event). IsAuthenticEvent agent.logins d event) e (authentic agent.logins (is_awaited agent) at_base sender d bytes))

  sent_of : (begin : Begin) (agent : Agent) (moments : List Moment) (r : Request) → IsBegun begin agent → Happened (SendsIn r) (history agent.held.setup begin (timed_all agent moments)) → HasSent agent r moments
  sent_of begin agent [] r begun h = h
  sent_of begin agent (m ∷ earlier) r begun (inl s) =
      let before = after_all agent earlier in
      let asked : output_of before m ≡ asks r = output_is states begin agent earlier m begun ∙ s.asked in
      let right = subst (λ (o : Output). IsRight (history agent.held.setup begin (timed_all agent earlier)) (at agent.held.setup m.now before.held.state).clock (event_in before m.call) o) asked (rights begin agent earlier m.now m.fresh m.call begun) in
      inl (record { polled = polled_as before m.call right.when; asked = asked; then = s.then ∙ clock_is states begin agent earlier m.now begun })
  sent_of begin agent (m ∷ earlier) r begun (inr h) = inr (sent_of begin agent earlier r begun h)

  accepted_of : (P : Request → (moment : ℕ) → Type 0) (base : ℕ) (to : Endpoint) (begin : Begin) (agent : Agent) (moments : List Moment) → IsBegun begin agent → AreCalls moments
      → HasAcceptedIn P base to (history agent.held.setup begin (timed_all agent moments)) → HasAccepted P base to agent moments
  accepted_of P base to begin agent [] begun they h = h
  accepted_of P base to begin agent (m ∷ earlier) begun they (inl a) =
      let before = after_all agent earlier in
      let clock = clock_is states begin agent earlier m.now begun in
      let it = taken_as before m.call base to a.request.id Accepted they.0 a.responded in
      inl (record {
        bytes = it.0;
        taken = it.1;
        succeeds = it.3;
        authentic = it.4;
        request = a.request;
        id_is = it.2;
        base_is = a.base_is;
        to_is = a.to_is;
        sent = sent_of begin agent earlier a.request begun a.sent;
        in_time = subst (λ (n : ℕ). n < a.request.sent + seconds 30) clock a.in_time;
        holds = subst (λ (n : ℕ). P a.request n) clock a.holds;
      })
  accepted_of P base to begin agent (m ∷ earlier) begun they (inr h) = inr (accepted_of P base to begin agent earlier begun they.1 h)

  pub consented : (begin : Begin) (agent : Agent) (earlier : List Moment) (m : Moment) (base : ℕ) (to : Endpoint) (bytes : List ℕ) → IsBegun begin agent → AreCalls earlier → output_of (after_all agent earlier) m ≡ data_to base to bytes
      → IsConsented (clock_at (after_all agent earlier) m.now) base to agent earlier
  consented begin agent earlier m base to bytes begun they e =
      let before = after_all agent earlier in
      let now = clock_at before m.now in
      let right = subst (λ (o : Output). IsRight (history agent.held.setup begin (timed_all agent earlier)) now (event_in before m.call) o) e (rights begin agent earlier m.now m.fresh m.call begun) in
      accepted_of (λ r moment. now < moment + seconds 30) base to begin agent earlier begun they right.2

  nominated_of : (base : ℕ) (to : Endpoint) (begin : Begin) (agent : Agent) (moments : List Moment) → IsBegun begin agent → AreCalls moments → Happened (HearsNomination base to) (history agent.held.setup begin (timed_all agent moments)) → HasNominated base to agent moments
  nominated_of base to begin agent [] begun they h = h
  nominated_of base to begin agent (m ∷ earlier) begun they (inl n) =
      let it = checked_as (after_all agent earlier) m.call n.check they.0 n.event in
      inl (record {
        bytes = it.0;
        taken = it.1 ∙ (λ i. takes (n.base_is i) (n.from_is i) it.0);
        candidate = sym it.2 ∙ n.nominates;
        algorithm = it.3.0;
        authentic = it.3.1;
      })
  nominated_of base to begin agent (m ∷ earlier) begun they (inr h) = inr (nominated_of base to begin agent earlier begun they.1 h)

  by_role : (role : Role) (base : ℕ) (to : Endpoint) (begin : Begin) (agent : Agent) (moments : List Moment) → IsBegun begin agent → AreCalls moments → IsNominatedIn role base to (history agent.held.setup begin (timed_all agent moments)) → IsNominated role base to agent moments
  by_role Controlling base to begin agent moments begun they h = accepted_of (λ r moment. (r.nominates ≡ true) × (r.role ≡ Controlling)) base to begin agent moments begun they h
  by_role Controlled base to begin agent moments begun they h = nominated_of base to begin agent moments begun they h

  pub agreed : (begin : Begin) (agent : Agent) (moments : List Moment) (role : Role) (p : Pair) → IsBegun begin agent → AreCalls moments → IsSelected role (history agent.held.setup begin (timed_all agent moments)) p → IsAgreed role agent moments p
  agreed begin agent moments role p begun they is = record {
    nominated = by_role role p.base p.remote begin agent moments begun they is.nominated;
    valid = accepted_of (λ r moment. Unit {0}) p.base p.remote begin agent moments begun they is.valid;
  }

  quiet_of : (base : ℕ) (from : Endpoint) (agent : Agent) (call : Call) → IsCall call → IsQuiet base from agent.logins call → speaks base from (event_in agent call) ≡ false
  quiet_of base from agent (calls event) users quiet = users_quiet base from event users
  quiet_of base from agent (learns_peer peer) users quiet = refl
  quiet_of base from agent (takes at_base sender d) bytes quiet =
      speaks_of agent.logins base from at_base sender d (judged agent at_base sender d) (judged_so agent.logins (is_awaited agent) at_base sender d) (authentic agent.logins (is_awaited agent) at_base sender d bytes) quiet

  pub silent_of : (base : ℕ) (from : Endpoint) (begin : Begin) (agent : Agent) (moments : List Moment) → AreCalls moments → IsSilent base from agent moments → IsSilentRun base from (history agent.held.setup begin (timed_all agent moments))
  silent_of base from begin agent [] they silent = tt
  silent_of base from begin agent (m ∷ earlier) they silent = (quiet_of base from (after_all agent earlier) m.call they.0 silent.0, silent_of base from begin agent earlier they.1 silent.1)
