-- What is done for a datagram.
use Rattle.std.proofs.Common.{◌≡◌, ℕ, Bool, List, Option, None, refl, sym, ap, subst, ◌∙◌}
use Rattle.stun_base.specs.MessageTypes.{method_of}
use Rattle.stun_grammar.specs.Headers.{type_field}
use Rattle.stun_grammar.specs.declared.integrity_algorithm.IntegrityAlgorithm.{IntegrityAlgorithm}
use Rattle.stun_values.specs.declared.algorithm.PasswordAlgorithmValue.{PasswordAlgorithmValue}
use Rattle.stun_types.specs.Message.{message_bytes}
use Rattle.stun_authentication.specs.declared.answer.Accepted.{Accepted}
use Rattle.stun_authentication.specs.declared.answer.Refusal.{Refusal}
use Rattle.stun_authentication.specs.Identities.{Who}
use Rattle.stun_authentication.specs.Lookups.{UserKey}
use Rattle.stun_endpoints.specs.declared.endpoints.Endpoint.{Endpoint}
use Rattle.stun_endpoints.specs.declared.endpoints.FiveTuple.{FiveTuple}
use Rattle.turn_slots.specs.declared.users.UserId.{UserId}
use Rattle.turn_slots.specs.Users.{user_number}
use Rattle.turn_machine.specs.Lists.{times}
use Rattle.turn_machine.specs.Relays.{Setup, Rules}
use Rattle.turn_machine.specs.Events.{sends, sends_on, ticks, Output, answers, nothing}
use Rattle.turn_machine.specs.Reserving.{Outer, plain, OuterStep, outer_step}
use Rattle.turn_allocations.specs.declared.answer.Answer.{Answer}
use Rattle.turn_allocations.specs.declared.families.Families.{Families}
use Rattle.turn_allocations.specs.declared.relaying.ToPeer.{ToPeer}
use Rattle.turn_allocations.specs.Answers.{answer_of}
use Rattle.turn_allocations.specs.Outputs.{sending}
use Rattle.turn_allocations.specs.Requests.{numbers_in}
use Rattle.turn_reservations.specs.Calls.{Reserving, IsOuterStep}
use Rattle.turn_server.specs.declared.access.Access.{Access}
use Rattle.turn_server.specs.declared.action.Action.{Action}
use Rattle.turn_server.specs.declared.action.Action.TheVariants.{Dropped, Response as Responds}
use Rattle.turn_server.specs.declared.action.Opened.{Opened}
use Rattle.turn_server.specs.declared.action.Response.{Response}
use Rattle.turn_server.specs.declared.action.Span.{Span}
use Rattle.turn_server.specs.declared.judged.Asking.{Asking}
use Rattle.turn_server.specs.declared.judged.Judged.TheVariants.{Dropped as ReadNothing, Binding as ReadBinding, Refused as ReadRefused, Unknown as ReadUnknown, Sent as ReadSent, SentOn as ReadSentOn, Asked as ReadAsked}
use Rattle.turn_server.specs.declared.sockets.Sockets.{Sockets}
use Rattle.turn_server.specs.Acting.{data_act, answer_act, opened_in, used_by, none_used}
use Rattle.turn_server.specs.Actions.{Does, IsDone, numbers_of}
use Rattle.turn_server.specs.Judging.{Site, Judged, dropped, binding, refused, unknown, sent, sent_on, asked}
use Rattle.turn_server.specs.Reporting.{Signs, Tells}
use Rattle.turn_server.specs.Requests.{request_of}
use Rattle.turn_server.specs.Responses.{IsResponse, binding_owed, refusal_owed, types_owed, answer_owed}
use Rattle.turn_server.specs.Sites.{site_of}
use Rattle.turn_server.specs.Spans.{StandsAt}
use Rattle.turn_server.specs.Wanted.{Wanted, token_of, server_at, outer_of}
use Rattle.turn_server.specs.declared.serving.Served.{Served}
use Rattle.turn_server.proofs.OpeningLemmas.{request_alike, first_shown, second_shown}

module _ (access : Access) (sockets : Sockets) (keys : Who → List ℕ → PasswordAlgorithmValue → Option UserKey) (setup : Setup) (rules : Rules) (tuple : FiveTuple) (now : ℕ) (d before after : List ℕ) (old new : Reserving) where
  abbrev site : Site
  site = site_of access sockets keys tuple.client now

  abbrev Done : Judged → (after : List ℕ) → Action → Type 0
  Done judged end action = IsDone access setup rules tuple now d judged old new before end action

  -- ---- Time passes

  module _ (passed : IsOuterStep setup rules old now (plain ticks) nothing None new) where
    pub dropped_done : (judged : Judged) → Tells site d judged ReadNothing → Done judged before Dropped
    dropped_done dropped tells = record { is_step = passed; does = refl }
    dropped_done binding tells = absurd tells
    dropped_done (refused refusal) tells = absurd tells
    dropped_done (unknown key algorithm) tells = absurd tells
    dropped_done (sent peer dont_fragment bytes) tells = absurd tells
    dropped_done (sent_on channel bytes) tells = absurd tells
    dropped_done (asked user wanted key algorithm) tells = absurd tells

    pub binding_done : (request : Asking) (response : Response) (judged : Judged) → Tells site d judged (ReadBinding request)
        → IsResponse (binding_owed setup.supports_dont_fragment tuple.client (message_bytes request.message)) none_used before after response → Done judged after (Responds response)
    binding_done request response binding tells is = record { is_step = passed; does = subst (λ (b : List ℕ). IsResponse (binding_owed setup.supports_dont_fragment tuple.client b) none_used before after response) tells is }
    binding_done request response dropped tells is = absurd tells
    binding_done request response (refused refusal) tells is = absurd tells
    binding_done request response (unknown key algorithm) tells is = absurd tells
    binding_done request response (sent peer dont_fragment bytes) tells is = absurd tells
    binding_done request response (sent_on channel bytes) tells is = absurd tells
    binding_done request response (asked user wanted key algorithm) tells is = absurd tells

    pub refused_done : (request : Asking) (response : Response) (reported : Refusal) (judged : Judged) → Tells site d judged (ReadRefused request reported)
        → IsResponse (refusal_owed access now tuple.client (message_bytes request.message) reported) none_used before after response → Done judged after (Responds response)
    refused_done request response reported (refused refusal) tells is = record {
      is_step = passed;
      does = subst (λ (r : Refusal). IsResponse (refusal_owed access now tuple.client d r) none_used before after response) tells.1
          (subst (λ (b : List ℕ). IsResponse (refusal_owed access now tuple.client b reported) none_used before after response) tells.0 is);
    }
    refused_done request response reported dropped tells is = absurd tells
    refused_done request response reported binding tells is = absurd tells
    refused_done request response reported (unknown key algorithm) tells is = absurd tells
    refused_done request response reported (sent peer dont_fragment bytes) tells is = absurd tells
    refused_done request response reported (sent_on channel bytes) tells is = absurd tells
    refused_done request response reported (asked user wanted key algorithm) tells is = absurd tells

    pub unknown_done : (request : Asking) (response : Response) (accepted : Accepted) (judged : Judged) → Tells site d judged (ReadUnknown request accepted)
        → ((key : UserKey) (algorithm : IntegrityAlgorithm) → Signs key algorithm accepted → IsResponse (types_owed setup.supports_dont_fragment (message_bytes request.message) key algorithm) none_used before after response) → Done judged after (Responds response)
    unknown_done request response accepted (unknown key algorithm) tells is = record {
      is_step = passed;
      does = subst (λ (b : List ℕ). IsResponse (types_owed setup.supports_dont_fragment b key algorithm) none_used before after response) tells.0 (is key algorithm tells.1);
    }
    unknown_done request response accepted dropped tells is = absurd tells
    unknown_done request response accepted binding tells is = absurd tells
    unknown_done request response accepted (refused refusal) tells is = absurd tells
    unknown_done request response accepted (sent peer dont_fragment bytes) tells is = absurd tells
    unknown_done request response accepted (sent_on channel bytes) tells is = absurd tells
    unknown_done request response accepted (asked user wanted key algorithm) tells is = absurd tells

  -- ---- Data

  pub sent_done : (to : Option ToPeer) (peer : Endpoint) (whole : Bool) (span : Span) (action : Action) (judged : Judged) → Tells site d judged (ReadSent peer whole span)
      → ((bytes : List ℕ) → IsOuterStep setup rules old now (plain (sends tuple peer whole bytes)) (sending to bytes) None new)
      → ((bytes : List ℕ) → StandsAt span bytes d → Does setup.supports_dont_fragment access now tuple.client d (data_act (sending to bytes)) before before action) → Done judged before action
  sent_done to peer whole span action (sent named dont_fragment bytes) tells went does =
      let one = subst (λ (w : Bool). IsOuterStep setup rules old now (plain (sends tuple named w bytes)) (sending to bytes) None new) tells.1.0
      (subst (λ (p : Endpoint). IsOuterStep setup rules old now (plain (sends tuple p whole bytes)) (sending to bytes) None new) tells.0 (went bytes)) in
      record {
        is_step = subst (λ (o : Output). IsOuterStep setup rules old now (plain (sends tuple named dont_fragment bytes)) o None new) one.output_is one;
        does = subst (λ (o : Output). Does setup.supports_dont_fragment access now tuple.client d (data_act o) before before action) one.output_is (does bytes tells.1.1);
      }
  sent_done to peer whole span action dropped tells went does = absurd tells
  sent_done to peer whole span action binding tells went does = absurd tells
  sent_done to peer whole span action (refused refusal) tells went does = absurd tells
  sent_done to peer whole span action (unknown key algorithm) tells went does = absurd tells
  sent_done to peer whole span action (sent_on channel bytes) tells went does = absurd tells
  sent_done to peer whole span action (asked user wanted key algorithm) tells went does = absurd tells

  pub sent_on_done : (to : Option ToPeer) (channel : ℕ) (span : Span) (action : Action) (judged : Judged) → Tells site d judged (ReadSentOn channel span)
      → ((bytes : List ℕ) → IsOuterStep setup rules old now (plain (sends_on tuple channel bytes)) (sending to bytes) None new)
      → ((bytes : List ℕ) → StandsAt span bytes d → Does setup.supports_dont_fragment access now tuple.client d (data_act (sending to bytes)) before before action) → Done judged before action
  sent_on_done to channel span action (sent_on on bytes) tells went does =
      let one = subst (λ (n : ℕ). IsOuterStep setup rules old now (plain (sends_on tuple n bytes)) (sending to bytes) None new) tells.0 (went bytes) in
      record {
        is_step = subst (λ (o : Output). IsOuterStep setup rules old now (plain (sends_on tuple on bytes)) o None new) one.output_is one;
        does = subst (λ (o : Output). Does setup.supports_dont_fragment access now tuple.client d (data_act o) before before action) one.output_is (does bytes tells.1);
      }
  sent_on_done to channel span action dropped tells went does = absurd tells
  sent_on_done to channel span action binding tells went does = absurd tells
  sent_on_done to channel span action (refused refusal) tells went does = absurd tells
  sent_on_done to channel span action (unknown key algorithm) tells went does = absurd tells
  sent_on_done to channel span action (sent peer dont_fragment bytes) tells went does = absurd tells
  sent_on_done to channel span action (asked user wanted key algorithm) tells went does = absurd tells

  -- ---- Requests

  -- a user's event, if the sockets get these numbers
  abbrev event_with : (user : ℕ) → Wanted → Families ℕ → Outer
  event_with user wanted numbers = outer_of tuple user (server_at now old.holding) numbers wanted

  -- the same step, with the numbers that the response shows
  shown_step : (user : ℕ) (wanted : Wanted) (answer : Answer) (token : Option ℕ) (opened : Families (Option Opened)) → opened ≡ opened_in old.holding.state.next (answer_of answer)
      → IsOuterStep setup rules old now (event_with user wanted (numbers_in answer)) (answers tuple (answer_of answer)) token new
      → IsOuterStep setup rules old now (event_with user wanted (numbers_of opened)) (answers tuple (answer_of answer)) token new
  shown_step user wanted answer token opened is went =
      let next = old.holding.state.next in
      let same : outer_step setup rules old.holding now (event_with user wanted (numbers_in answer)) ≡ outer_step setup rules old.holding now (event_with user wanted (numbers_of opened)) =
      request_alike setup rules old.holding now tuple user wanted (numbers_in answer) (numbers_of (opened_in next (answer_of answer))) (first_shown next answer) (second_shown next answer)
      ∙ ap (λ (o : Families (Option Opened)). outer_step setup rules old.holding now (event_with user wanted (numbers_of o))) (sym is) in
      record {
        holding_is = went.holding_is ∙ ap (λ (s : OuterStep). s.holding) same;
        output_is = went.output_is ∙ ap (λ (s : OuterStep). s.step.output) same;
        token_is = went.token_is ∙ ap (λ (s : OuterStep). s.token) same;
        ended_are = λ n. went.ended_are n ∙ ap (λ (s : OuterStep). times n s.step.closes) same;
        over_are = went.over_are ∙ ap (λ (s : OuterStep). s.over) same;
        limits_are = went.limits_are;
        slow = went.slow;
      }

  answered_done : (user : ℕ) (wanted : Wanted) (key : UserKey) (algorithm : IntegrityAlgorithm) (answer : Answer) (token : Option ℕ) (response : Response)
      → IsOuterStep setup rules old now (event_with user wanted (numbers_in answer)) (answers tuple (answer_of answer)) token new
      → IsResponse (answer_owed access tuple.client d (answer_of answer) token key algorithm) (used_by (token_of wanted) token (opened_in old.holding.state.next (answer_of answer))) before after response
      → Done (asked user wanted key algorithm) after (Responds response)
  answered_done user wanted key algorithm answer token response went is =
      let next = old.holding.state.next in
      let one = shown_step user wanted answer token response.opened is.opened_is went in
      let event = event_with user wanted (numbers_of response.opened) in
      let done = outer_step setup rules old.holding now event in
      record {
        is_step = subst (λ (t : Option ℕ). IsOuterStep setup rules old now event done.step.output t new) one.token_is
            (subst (λ (o : Output). IsOuterStep setup rules old now event o token new) one.output_is one);
        does = subst (λ (t : Option ℕ). Does setup.supports_dont_fragment access now tuple.client d (answer_act next (token_of wanted) key algorithm t done.step.output) before after (Responds response)) one.token_is
            (subst (λ (o : Output). Does setup.supports_dont_fragment access now tuple.client d (answer_act next (token_of wanted) key algorithm token o) before after (Responds response)) one.output_is is);
      }

  pub asked_done : (request : Asking) (by : UserId) (accepted : Accepted) (served : Served) (response : Response) (judged : Judged) → Tells site d judged (ReadAsked request by accepted)
      → (let r = message_bytes request.message in served.claim ≡ token_of (request_of tuple.client.ip sockets (method_of (type_field r)) r))
      → (let r = message_bytes request.message in IsOuterStep setup rules old now (event_with (user_number by) (request_of tuple.client.ip sockets (method_of (type_field r)) r) (numbers_in served.reply.answer)) (answers tuple (answer_of served.reply.answer)) served.reply.token new)
      → ((key : UserKey) (algorithm : IntegrityAlgorithm) → Signs key algorithm accepted
      → IsResponse (answer_owed access tuple.client (message_bytes request.message) (answer_of served.reply.answer) served.reply.token key algorithm) (used_by served.claim served.reply.token (opened_in old.holding.state.next (answer_of served.reply.answer))) before after response) → Done judged after (Responds response)
  asked_done request by accepted served response (asked user wanted key algorithm) tells claim went is =
      let answer = served.reply.answer in
      let token = served.reply.token in
      let opened = opened_in old.holding.state.next (answer_of answer) in
      let is_wanted : request_of tuple.client.ip sockets (method_of (type_field (message_bytes request.message))) (message_bytes request.message) ≡ wanted =
      ap (λ (b : List ℕ). request_of tuple.client.ip sockets (method_of (type_field b)) b) tells.0 ∙ sym tells.1.1.1 in
      answered_done user wanted key algorithm answer token response
      (subst (λ (u : ℕ). IsOuterStep setup rules old now (event_with u wanted (numbers_in answer)) (answers tuple (answer_of answer)) token new) tells.1.0
      (subst (λ (w : Wanted). IsOuterStep setup rules old now (event_with (user_number by) w (numbers_in answer)) (answers tuple (answer_of answer)) token new) is_wanted went))
      (subst (λ (c : Option ℕ). IsResponse (answer_owed access tuple.client d (answer_of answer) token key algorithm) (used_by c token opened) before after response) (claim ∙ ap token_of is_wanted)
      (subst (λ (b : List ℕ). IsResponse (answer_owed access tuple.client b (answer_of answer) token key algorithm) (used_by served.claim token opened) before after response) tells.0 (is key algorithm tells.1.1.0)))
  asked_done request by accepted served response dropped tells claim went is = absurd tells
  asked_done request by accepted served response binding tells claim went is = absurd tells
  asked_done request by accepted served response (refused refusal) tells claim went is = absurd tells
  asked_done request by accepted served response (unknown key algorithm) tells claim went is = absurd tells
  asked_done request by accepted served response (sent peer dont_fragment bytes) tells claim went is = absurd tells
  asked_done request by accepted served response (sent_on channel bytes) tells claim went is = absurd tells
