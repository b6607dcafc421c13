-- Two sides that check each other in datagrams are two of the machine.
use Rattle.std.proofs.Common.{◌≡◌, ℕ, ◌%◌, ◌^◌, Bool, true, false, cond, filter, find, List, [], ◌∷◌, Option, None, Some, refl, sym, ap, subst, ◌∙◌}
use Rattle.std.proofs.lemmas.Bool.{cond_both}
use Rattle.std.specs.Prelude.{◌||◌, nat_le, if◌then◌else◌}
use Rattle.std.specs.List.{list_any}
use Rattle.std.specs.Option.{option_map_or}
use Rattle.stun_grammar.specs.declared.integrity_algorithm.IntegrityAlgorithm.{IntegrityAlgorithm}
use Rattle.stun_grammar.specs.declared.integrity_algorithm.IntegrityAlgorithm.TheVariants.{Sha1}
use Rattle.stun_endpoints.specs.declared.endpoints.Endpoint.{Endpoint}
use Rattle.stun_endpoints.specs.Conversions.{endpoint_of, is_address, socket_of}
use Rattle.ice_machine.specs.declared.candidates.Base.{Base}
use Rattle.ice_machine.specs.declared.messages.Answer.{Answer}
use Rattle.ice_machine.specs.declared.messages.Answer.TheVariants.{Refused as RefusedBy}
use Rattle.ice_machine.specs.declared.messages.Check.{Check}
use Rattle.ice_machine.specs.declared.messages.Request.{Request}
use Rattle.ice_machine.specs.Agents.{Setup, State}
use Rattle.ice_machine.specs.Events.{checks, Output, asks, answers, data_to, data_from, nothing}
use Rattle.ice_machine.specs.Exchanges.{Side as Part, IsCrossing as PartsCross, IsExchange as PartsExchange, IsSteady, answered_with as part_answered, checked_by as part_checked, delivered}
use Rattle.ice_machine.specs.Roles.{RoleDecision, keep, switch, refuse, other_role, role_decision}
use Rattle.ice_machine.specs.declared.roles.Role.{Role}
use Rattle.ice_machine.specs.declared.roles.Role.TheVariants.{Controlling, Controlled}
use Rattle.ice_attrs.specs.Roles.{role_decision as attribute_decision}
use Rattle.ice_machine.specs.Steps.{at, checked, decides, does_nothing, is_base, is_request, step}
use Rattle.ice_agent_state.specs.Agents.{output_at}
use Rattle.ice_checks.specs.declared.judged.Judged.{Judged}
use Rattle.ice_checks.specs.declared.judged.Judged.TheVariants.{Checks}
use Rattle.ice_checks.specs.Judging.{event_of}
use Rattle.ice_checks.specs.Views.{Logins}
use Rattle.ice_agent.specs.Agents.{Agent}
use Rattle.ice_agent.specs.Receiving.{Reply, check_response, is_awaited, judged, received, received_as, signing_by}
use Rattle.ice_exchanges.specs.Meetings.{reply_by}
use Rattle.ice_exchanges.specs.Peers.{Knows}
use Rattle.ice_exchanges.specs.Roles.{IsAsking, IsCrossing, IsExchange, Side, IsWaiting, answered_with, checked_by, datagram_from, decision_as, reply_of, shown_role}
use Rattle.ice_exchanges.proofs.MeetingLemmas.{arrives_as, response_as}

-- ---- A response is waited for

kept_any : {X : Type 0} (test good : X → Bool) (x : X) (xs : List X) → (list_any good (filter test xs) ≡ true → list_any good xs ≡ true) → list_any good (filter test (x ∷ xs)) ≡ true → list_any good (x ∷ xs) ≡ true
kept_any test good x xs rest e = cond_both (test x) (x ∷ filter test xs) (filter test xs) (λ ys. list_any good ys ≡ true → list_any good (x ∷ xs) ≡ true)
    (λ yes e. either (good x) (list_any good (filter test xs)) (list_any good xs) rest e)
    (λ no e. either (good x) (list_any good (filter test xs)) (list_any good xs) rest (or_right (good x) (list_any good (filter test xs)) e)) e
  where
    or_right : (a b : Bool) → b ≡ true → (a || b) ≡ true
    or_right true b e = refl
    or_right false b e = e

    either : (a b c : Bool) → (b ≡ true → c ≡ true) → (a || b) ≡ true → (a || c) ≡ true
    either true b c f e = refl
    either false b c f e = f e

any_kept : {X : Type 0} (test good : X → Bool) (xs : List X) → list_any good (filter test xs) ≡ true → list_any good xs ≡ true
any_kept test good [] e = e
any_kept test good (x ∷ xs) e = kept_any test good x xs (any_kept test good xs) e

found_any : {X : Type 0} (test : X → Bool) (xs : List X) (a : X) → find test xs ≡ Some a → list_any test xs ≡ true
found_any test [] a e = absurd cc
found_any test (x ∷ xs) a e = by (test x) refl (found_any test xs a)
  where
    by : (b : Bool) → test x ≡ b → (find test xs ≡ Some a → list_any test xs ≡ true) → list_any test (x ∷ xs) ≡ true
    by true is rest = ap (λ (b : Bool). b || list_any test xs) is
    by false is rest = ap (λ (b : Bool). b || list_any test xs) is ∙ rest (sym (ap (λ (b : Bool). cond b (Some x) (find test xs)) is) ∙ e)

pub waited : (agent : Agent) (now : ℕ) (r : Request) → find (is_request r.id) (at agent.held.setup now agent.held.state).requests ≡ Some r → is_awaited agent r.id ≡ true
waited agent now r e = any_kept _ (is_request r.id) agent.held.state.requests (found_any (is_request r.id) (at agent.held.setup now agent.held.state).requests r e)

-- ---- What a check is answered with

record IsCheckAnswer (c : Check) (base id : ℕ) (to : Endpoint) (answer : Answer) : Type 0 where
  base_is : base ≡ c.base
  to_is : to ≡ c.from
  id_is : id ≡ c.id
  code : (n : ℕ) → answer ≡ RefusedBy n → n ≡ 487

abbrev AnswersSo : Check → Output → Type 0
AnswersSo c output = (base id : ℕ) (to : Endpoint) (answer : Answer) → output ≡ answers base to id answer → IsCheckAnswer c base id to answer

decided_so : (setup : Setup) (b : Base) (c : Check) (s : State) (d : RoleDecision) → AnswersSo c (decides setup b c s d).output
decided_so setup b c s keep base id to answer e = record { base_is = cc; to_is = cc; id_is = cc; code = λ n is. absurd cc }
decided_so setup b c s switch base id to answer e = record { base_is = cc; to_is = cc; id_is = cc; code = λ n is. absurd cc }
decided_so setup b c s refuse base id to answer e = record { base_is = cc; to_is = cc; id_is = cc; code = λ n is. cc }

checked_so : (setup : Setup) (c : Check) (s : State) (o : Option Base) → AnswersSo c (option_map_or (checked setup c s) o (does_nothing s)).output
checked_so setup c s None base id to answer e = absurd cc
checked_so setup c s (Some b) base id to answer e = decided_so setup b c s (role_decision s.role s.tiebreaker c.role c.tiebreaker) base id to answer e

-- the reply says it
record IsReply (agent : Agent) (c : Check) (output : Output) (reply : Reply) : Type 0 where
  answer : Answer
  said : output ≡ answers c.base c.from c.id answer
  code : (n : ℕ) → answer ≡ RefusedBy n → n ≡ 487
  reply_is : reply ≡ record { id = c.id % 2 ^ 96; response = check_response c.from answer; signing = Some (signing_by agent Sha1) }

reply_so : (agent : Agent) (d : List ℕ) (c : Check) (output : Output) (reply : Reply) → AnswersSo c output → reply_by agent d (Checks c Sha1) output ≡ Some reply → IsReply agent c output reply
reply_so agent d c (asks r) reply so e = absurd cc
reply_so agent d c (data_to base to bytes) reply so e = absurd cc
reply_so agent d c (data_from component bytes) reply so e = absurd cc
reply_so agent d c nothing reply so e = absurd cc
reply_so agent d c (answers base to id answer) reply so e =
    let is = so base id to answer refl in
    record { answer = answer; said = λ i. answers (is.base_is i) (is.to_is i) (is.id_is i) answer; code = is.code; reply_is = cc }

-- ---- The machine's sides

abbrev pub part_of : Side → Part
part_of side = record {
  setup = side.agent.held.setup;
  state = side.agent.held.state;
  request = side.request;
  base = side.base;
  from = side.from;
  now = side.now;
  fresh = side.fresh;
  later = side.later;
  anew = side.anew;
}

module _ (sockets : (e : Endpoint) → is_address e.ip ≡ true → endpoint_of (socket_of e) ≡ e) where
  check_is : (own peer : Side) → IsAsking peer own → judged own.agent own.base own.from (datagram_from peer) ≡ Checks (delivered peer.request own.base own.from) Sha1
  check_is own peer asking = arrives_as sockets peer.agent own.agent peer.request own.base own.from asking.paired asking.fields

  pub checked_is : (own peer : Side) → IsAsking peer own → (checked_by own peer).held.state ≡ (part_checked (part_of own) (part_of peer)).state
  checked_is own peer asking = ap (λ (j : Judged). (received_as j own.now own.fresh own.base own.from (datagram_from peer) own.agent).held.state) (check_is own peer asking)

  reply_is : (own peer : Side) (reply : Reply) → IsAsking peer own → reply_of own peer ≡ Some reply → IsReply own.agent (delivered peer.request own.base own.from) (part_checked (part_of own) (part_of peer)).output reply
  reply_is own peer reply asking e =
      let d = datagram_from peer in
      let c = delivered peer.request own.base own.from in
      reply_so own.agent d c (part_checked (part_of own) (part_of peer)).output reply
      (checked_so own.agent.held.setup c (at own.agent.held.setup own.now own.agent.held.state) (find (is_base c.base) own.agent.held.state.bases))
      (sym (ap (λ (j : Judged). reply_by own.agent d j (output_at own.now own.fresh (event_of own.base own.from d j) own.agent.held)) (check_is own peer asking)) ∙ e)

  -- the response comes back, to the agent as it is then
  answered_is : (own peer : Side) (agent : Agent) (output : Output) (reply : Reply) → IsAsking own peer → agent.logins ≡ own.agent.logins → agent.held.setup ≡ own.agent.held.setup → IsWaiting own agent
      → (is : IsReply peer.agent (delivered own.request peer.base peer.from) output reply) → (answered_with own agent reply).held.state ≡ part_answered (part_of own) agent.held.state is.answer
  answered_is own peer agent output reply asking logins setup waits is =
      let event = response_as sockets agent asking.paired.login peer.agent.logins own.request peer.from is.answer (subst (λ (l : Logins). Knows l asking.paired.login peer.agent.logins) (sym logins) asking.paired.knows) asking.fields.id asking.source (waited agent own.later own.request waits) is.code in
      ap (λ (r : Reply). (answered_with own agent r).held.state) is.reply_is
      ∙ (λ i. (step (setup i) agent.held.state own.later own.anew (event i)).state)

  pub settles : ((one other : Part) (answer : Answer) → PartsExchange one other answer → (part_answered one one.state answer).role ≡ other_role (part_checked other one).state.role)
      → (one other : Side) (reply : Reply) → IsExchange one other reply → (answered_with one one.agent reply).held.state.role ≡ other_role (checked_by other one).held.state.role
  settles law one other reply is =
      let says = reply_is other one reply is.asks is.replies in
      ap (λ (s : State). s.role) (answered_is one other one.agent _ reply is.asks refl refl is.waits says)
      ∙ law (part_of one) (part_of other) says.answer (record { shows = is.asks.shows; answered = says.said; waits = is.waits })
      ∙ ap (λ (s : State). other_role s.role) (sym (checked_is other one is.asks))

  pub crosses : ((one other : Part) (one_answer other_answer : Answer) → PartsCross one other one_answer other_answer
      → (part_answered one (part_checked one other).state other_answer).role ≡ other_role (part_answered other (part_checked other one).state one_answer).role)
      → (one other : Side) (one_reply other_reply : Reply) → IsCrossing one other one_reply other_reply
      → (answered_with one (checked_by one other) other_reply).held.state.role ≡ other_role (answered_with other (checked_by other one) one_reply).held.state.role
  crosses law one other one_reply other_reply is =
      let one_says = reply_is one other one_reply is.other_asks is.one_replies in
      let other_says = reply_is other one other_reply is.one_asks is.other_replies in
      let one_next = checked_is one other is.other_asks in
      let other_next = checked_is other one is.one_asks in
      let one_end = answered_is one other (checked_by one other) _ other_reply is.one_asks refl refl is.one_waits other_says in
      let other_end = answered_is other one (checked_by other one) _ one_reply is.other_asks refl refl is.other_waits one_says in
      ap (λ (s : State). s.role) (one_end ∙ ap (λ (s : State). part_answered (part_of one) s other_says.answer) one_next)
      ∙ law (part_of one) (part_of other) one_says.answer other_says.answer (record {
        one_role = is.one_asks.shows;
        other_role = is.other_asks.shows;
        one_number = is.one_number;
        other_number = is.other_number;
        distinct = is.distinct;
        one_answered = one_says.said;
        other_answered = other_says.said;
        one_waits = subst (λ (s : State). find (is_request one.request.id) (at one.agent.held.setup one.later s).requests ≡ Some one.request) one_next is.one_waits;
        other_waits = subst (λ (s : State). find (is_request other.request.id) (at other.agent.held.setup other.later s).requests ≡ Some other.request) other_next is.other_waits;
      })
      ∙ ap (λ (s : State). other_role s.role) (sym (other_end ∙ ap (λ (s : State). part_answered (part_of other) s one_says.answer) other_next))

pub steady : ((setup : Setup) (state : State) (now fresh : ℕ) (c : Check) → IsSteady state (step setup state now fresh (checks c)).state c)
    → (agent : Agent) (now fresh base : ℕ) (from : Endpoint) (d : List ℕ) (check : Check) (algorithm : IntegrityAlgorithm) → judged agent base from d ≡ Checks check algorithm → IsSteady agent.held.state (received now fresh base from d agent).held.state check
steady law agent now fresh base from d check algorithm e =
    subst (λ (j : Judged). IsSteady agent.held.state (received_as j now fresh base from d agent).held.state check) (sym e) (law agent.held.setup agent.held.state now fresh check)

-- ---- Decisions

either_as : (b : Bool) (x y : RoleDecision) → (if b then decision_as x else decision_as y) ≡ decision_as (if b then x else y)
either_as true x y = refl
either_as false x y = refl

pub decided_alike : (role shown : Role) (tiebreaker contents : ℕ) → attribute_decision (shown_role role) tiebreaker (shown_role shown) contents ≡ decision_as (role_decision role tiebreaker shown contents)
decided_alike Controlling Controlling tiebreaker contents = either_as (nat_le contents tiebreaker) refuse switch
decided_alike Controlled Controlled tiebreaker contents = either_as (nat_le contents tiebreaker) switch refuse
decided_alike Controlling Controlled tiebreaker contents = refl
decided_alike Controlled Controlling tiebreaker contents = refl
