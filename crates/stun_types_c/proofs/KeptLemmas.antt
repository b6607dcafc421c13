-- A transaction that C keeps as numbers.
use Rattle.std.proofs.Common.{◌≡◌, ℕ, zero, suc, ◌-◌, ◌/◌, ◌%◌, ◌^◌, ◌<◌, ◌≤◌, Bool, true, false, List, Option, None, Some, refl, sym, ap, subst, ◌∙◌, inl, inr, arith}
use Rattle.std.specs.Prelude.{is_some, nat_lt, min, ◌==◌, if◌then◌else◌}
use Rattle.std.specs.Int.{from_bool}
use Rattle.std.specs.Duration.{as_nanos}
use Rattle.std.specs.declared.time.Duration.{Duration}
use Rattle.std.proofs.Math.Nat.{mul-div_cancel, min-eq_left}
use Rattle.std.proofs.lemmas.Bool.{cases_Bool}
use Rattle.stun_base.specs.declared.transport.TransportType.{TransportType}
use Rattle.stun_base.specs.declared.transport.TransportType.TheVariants.{Udp, Tcp}
use Rattle.stun_transactions.specs.declared.retransmission.Action.{Action}
use Rattle.stun_transactions.specs.declared.retransmission.Action.TheVariants.{Send, WaitUntil, Ended}
use Rattle.stun_transactions.specs.declared.retransmission.RetransmissionState.{RetransmissionState}
use Rattle.stun_transactions.specs.declared.retransmission.TransactionEnd.{TransactionEnd}
use Rattle.stun_transactions.specs.declared.retransmission.TransactionEnd.TheVariants.{Answered, TimedOut, IntegrityViolated, Refused, Cancelled, TransportFailed}
use Rattle.stun_transactions.specs.declared.parts.Mechanism.{Mechanism}
use Rattle.stun_transactions.specs.declared.parts.PartsError.{PartsError}
use Rattle.stun_transactions.specs.declared.parts.TransactionParts.{TransactionParts}
use Rattle.stun_transactions.specs.declared.plan.Plan.{Plan}
use Rattle.stun_transactions.specs.declared.received.Discard.TheVariants.{NotAuthentic, OtherAlgorithm, BidDown, UnsignedBadRequest, NoFingerprint}
use Rattle.stun_transactions.specs.declared.received.Outcome.{Outcome}
use Rattle.stun_transactions.specs.declared.received.Outcome.TheVariants.{NotForThis, Discarded, Failed, Success, Error}
use Rattle.stun_transactions.specs.declared.schedule.Schedule.{Schedule}
use Rattle.stun_transactions.specs.declared.response_policy.ResponsePolicy.{ResponsePolicy}
use Rattle.stun_transactions.specs.Retransmissions.{later, begun, ended_by, stopped_by, Polls}
use Rattle.stun_transactions.specs.Outcomes.{after}
use Rattle.stun_transactions.specs.Parts.{at_state, parts_fault}
use Rattle.stun_transactions.specs.Schedules.{requests_over}
use Rattle.stun_transactions.specs.Guards.{signs}
use Rattle.stun_transactions.specs.Beginning.{request_fault, request_parts}
use Rattle.stun_transactions.proofs.PartsLemmas.{begun_sound, polled as sound_polled, ended as sound_ended, stopped as sound_stopped, received as sound_received}
use Rattle.stun_types_c.specs.declared.call_result.CResult.{CResult}
use Rattle.stun_types_c.specs.declared.transactions.CTransaction.{CTransaction}
use Rattle.stun_types_c.specs.declared.transactions.CSchedule.{CSchedule}
use Rattle.stun_types_c.specs.declared.transactions.CAction.{CAction}
use Rattle.stun_types_c.specs.CResults.{plain}
use Rattle.stun_types_c.specs.Codes.{OK}
use Rattle.stun_types_c.specs.Transactions.{transport_numbered, mechanism_numbered, number_of_end, signed_number, IsAt, millis_of, Schedules, usage_named, TellsParts, Keeps, AreSame, with_state, GoesOn, Ends, StopsKept, PollsKept, wanted_of, begun_in_c}

-- ---- Numbers

abbrev end_numbered : ℕ → Option TransactionEnd
end_numbered n = if n == 0 then None else (
    if n == 1 then Some Answered else (
    if n == 2 then Some TimedOut else (
    if n == 3 then Some IntegrityViolated else (
    if n == 4 then Some Refused else (
    if n == 5 then Some Cancelled else Some TransportFailed)))))

-- a number says which integrity attributes there are
pub signed_is : (n : ℕ) (sha1 sha256 : Bool) → n ≡ signed_number (record { sha1 = sha1; sha256 = sha256 }) → (sha1 ≡ (n % 2 == 1)) × (sha256 ≡ nat_lt 1 n)
signed_is n true true is = rw is (refl, refl)
signed_is n true false is = rw is (refl, refl)
signed_is n false true is = rw is (refl, refl)
signed_is n false false is = rw is (refl, refl)

pub bit_reported : (n : ℕ) → n ≤ 1 → n ≡ from_bool (n == 1)
bit_reported zero few = refl
bit_reported (suc zero) few = refl
bit_reported (suc (suc n)) few = absurd (omega (arith, few))

pub signed_reported : (n : ℕ) → n ≤ 3 → n ≡ signed_number (record { sha1 = n % 2 == 1; sha256 = nat_lt 1 n })
signed_reported zero few = refl
signed_reported (suc zero) few = refl
signed_reported (suc (suc zero)) few = refl
signed_reported (suc (suc (suc zero))) few = refl
signed_reported (suc (suc (suc (suc n)))) few = absurd (omega (arith, few))

-- a moment of whole milliseconds is reported by their number
pub whole : (n : ℕ) (moment : Duration) → IsAt n moment → millis_of moment ≡ n
whole n moment at =
    let some : 0 < 1_000_000 = omega arith in
    let quotient : as_nanos moment / 1_000_000 ≡ n = ap (λ (k : ℕ). k / 1_000_000) at.nanos ∙ mul-div_cancel n some in
    let below : n ≤ 2 ^ 64 - 1 = omega (arith, at.fits) in
    ap (λ (k : ℕ). min k (2 ^ 64 - 1)) quotient ∙ min-eq_left below

-- the end of a number
end_back : (end : Option TransactionEnd) → end_numbered (number_of_end end) ≡ end
end_back None = refl
end_back (Some Answered) = refl
end_back (Some TimedOut) = refl
end_back (Some IntegrityViolated) = refl
end_back (Some Refused) = refl
end_back (Some Cancelled) = refl
end_back (Some TransportFailed) = refl

bit_back : (b : Bool) → (from_bool b == 1) ≡ b
bit_back true = refl
bit_back false = refl

-- ---- Two transactions of the same numbers

same_meant : (kept : CTransaction) (one other : TransactionParts) → TellsParts kept one → TellsParts kept other → AreSame one other
same_meant kept one other a b =
    let shown = signed_is kept.signed_by one.signed.sha1 one.signed.sha256 a.signed in
    let reported = signed_is kept.signed_by other.signed.sha1 other.signed.sha256 b.signed in
    record {
      schedule = record {
        rto_is = a.schedule.numbers.rto_is ∙ sym b.schedule.numbers.rto_is;
        max_requests_is = a.schedule.numbers.max_requests_is ∙ sym b.schedule.numbers.max_requests_is;
        last_wait_factor_is = a.schedule.numbers.last_wait_factor_is ∙ sym b.schedule.numbers.last_wait_factor_is;
        reliable_timeout_is = a.schedule.numbers.reliable_timeout_is ∙ sym b.schedule.numbers.reliable_timeout_is;
      };
      transport = cc (a.transport, b.transport);
      method = a.method ∙ sym b.method;
      id = a.id ∙ sym b.id;
      sha1 = shown.0 ∙ sym reported.0;
      sha256 = shown.1 ∙ sym reported.1;
      mechanism = cc (a.mechanism, b.mechanism);
      usage = cc (a.usage, b.usage);
      sent = a.state.sent ∙ sym b.state.sent;
      last = a.state.last.nanos ∙ sym b.state.last.nanos;
      clock = a.state.clock.nanos ∙ sym b.state.clock.nanos;
      violated = sym (bit_back one.state.violated) ∙ ap (λ (n : ℕ). n == 1) (sym a.state.violated ∙ b.state.violated) ∙ bit_back other.state.violated;
      stopped = sym (bit_back one.state.stopped) ∙ ap (λ (n : ℕ). n == 1) (sym a.state.stopped ∙ b.state.stopped) ∙ bit_back other.state.stopped;
      end = sym (end_back one.state.end) ∙ ap end_numbered (sym a.state.end ∙ b.state.end) ∙ end_back other.state.end;
    }

pub same_parts : (kept : CTransaction) (one other : TransactionParts) → Keeps kept one → Keeps kept other → AreSame one other
same_parts kept one other of_one of_other = same_meant kept one other of_one.tells of_other.tells

same_requests : (one other : Schedule) (transport : TransportType) → one.max_requests ≡ other.max_requests → requests_over one transport ≡ requests_over other transport
same_requests one other Udp same = same
same_requests one other Tcp same = refl

same_fault : (one other : TransactionParts) → AreSame one other → parts_fault one ≡ parts_fault other
same_fault one other same =
    rw (
      same.mechanism,
      same.sha1,
      same.sha256,
      same_requests one.plan.schedule other.plan.schedule one.plan.transport same.schedule.max_requests_is,
      same.transport,
      same.sent,
      same.clock,
      same.last,
    ) refl

-- numbers whose parts are no transaction's keep none
pub unsound : (kept : CTransaction) (parts other : TransactionParts) (e : PartsError) → TellsParts kept parts → parts_fault parts ≡ Some e → Keeps kept other → ⊥
unsound kept parts other e tells fault keeps =
    let same : parts_fault parts ≡ parts_fault other = same_fault parts other (same_meant kept parts other tells keeps.tells) in
    let none : parts_fault other ≡ None = keeps.sound in
    absurd (let sound : parts_fault parts ≡ None = same ∙ none in cc (sound, fault))

-- ---- A transaction that goes on

abbrev IsWhole : Duration → Type 0
IsWhole moment = IsAt (millis_of moment) moment

is_whole : (n : ℕ) (moment : Duration) → IsAt n moment → IsWhole moment
is_whole n moment at = subst (λ (k : ℕ). IsAt k moment) (sym (whole n moment at)) at

later_whole : (clock now : Duration) → IsWhole clock → IsWhole now → IsWhole (later clock now)
later_whole clock now old new = elim (cases_Bool (nat_lt (as_nanos clock) (as_nanos now))) [
  | inl less ↦ rw less new
  | inr not_less ↦ rw not_less old
]

record IsWholeState (state : RetransmissionState) : Type 0 where
  last : IsWhole state.last
  clock : IsWhole state.clock

polled_whole : (plan : Plan) (old new : RetransmissionState) (now : Duration) (action : Action) → IsWholeState old → IsWhole now → Polls plan old now action new → IsWholeState new
polled_whole plan old new now Send from at polls =
    let moment = later_whole old.clock now from.clock at in
    subst IsWholeState (sym polls.new_is) (record { last = moment; clock = moment })
polled_whole plan old new now (WaitUntil until) from at polls =
    subst IsWholeState (sym polls.new_is) (record { last = from.last; clock = later_whole old.clock now from.clock at })
polled_whole plan old new now (Ended end) from at (inl over) = subst IsWholeState (sym over.same) from
polled_whole plan old new now (Ended end) from at (inr out) =
    subst IsWholeState (sym out.new_is) (record { last = from.last; clock = later_whole old.clock now from.clock at })

ended_whole : (end : TransactionEnd) (state : RetransmissionState) → IsWholeState state → IsWholeState (ended_by end state)
ended_whole end state from = elim (cases_Bool (is_some state.end)) [
  | inl there ↦ rw there from
  | inr away ↦ rw away (record { last = from.last; clock = from.clock })
]

stopped_whole : (state : RetransmissionState) → IsWholeState state → IsWholeState (stopped_by state)
stopped_whole state from = elim (cases_Bool (is_some state.end)) [
  | inl there ↦ rw there from
  | inr away ↦ rw away (record { last = from.last; clock = from.clock })
]

received_whole : (outcome : Outcome) (state : RetransmissionState) → IsWholeState state → IsWholeState (after outcome state)
received_whole NotForThis state from = from
received_whole (Discarded NotAuthentic claim) state from = record { last = from.last; clock = from.clock }
received_whole (Discarded OtherAlgorithm claim) state from = record { last = from.last; clock = from.clock }
received_whole (Discarded BidDown claim) state from = from
received_whole (Discarded UnsignedBadRequest claim) state from = from
received_whole (Discarded NoFingerprint claim) state from = from
received_whole (Failed failure) state from = record { last = from.last; clock = from.clock }
received_whole (Success proof) state from = record { last = from.last; clock = from.clock }
received_whole (Error code proof) state from = record { last = from.last; clock = from.clock }

module _ (kept : CTransaction) (parts : TransactionParts) (keeps : Keeps kept parts) where
  kept_whole : IsWholeState parts.state
  kept_whole = record {
    last = is_whole kept.last parts.state.last keeps.tells.state.last;
    clock = is_whole kept.clock parts.state.clock keeps.tells.state.clock;
  }

  goes_on : (state : RetransmissionState) → IsWholeState state → parts_fault (at_state parts state) ≡ None → GoesOn parts state kept (with_state kept state)
  goes_on state is sound = record {
    numbers = refl;
    keeps = record {
      tells = record {
        schedule = keeps.tells.schedule;
        transport = keeps.tells.transport;
        method = keeps.tells.method;
        method_valid = keeps.tells.method_valid;
        id = keeps.tells.id;
        signed = keeps.tells.signed;
        mechanism = keeps.tells.mechanism;
        usage = keeps.tells.usage;
        reserved = keeps.tells.reserved;
        state = record { sent = refl; last = is.last; clock = is.clock; violated = refl; stopped = refl; end = refl };
      };
      sound = sound;
    };
  }

  pub polled : (now : ℕ) (moment : Duration) (action : Action) (state : RetransmissionState) → IsAt now moment → Polls parts.plan parts.state moment action state → GoesOn parts state kept (with_state kept state)
  polled now moment action state at polls =
      goes_on state (polled_whole parts.plan parts.state state moment action kept_whole (is_whole now moment at) polls)
      (sound_polled parts moment action state keeps.sound polls)

  pub ended : (end : TransactionEnd) → GoesOn parts (ended_by end parts.state) kept (with_state kept (ended_by end parts.state))
  ended end = goes_on (ended_by end parts.state) (ended_whole end parts.state kept_whole) (sound_ended parts end keeps.sound)

  pub stopped : GoesOn parts (stopped_by parts.state) kept (with_state kept (stopped_by parts.state))
  stopped = goes_on (stopped_by parts.state) (stopped_whole parts.state kept_whole) (sound_stopped parts keeps.sound)

  pub received : (outcome : Outcome) → GoesOn parts (after outcome parts.state) kept (with_state kept (after outcome parts.state))
  received outcome = goes_on (after outcome parts.state) (received_whole outcome parts.state kept_whole) (sound_received parts outcome keeps.sound)

-- ---- The calls

pub ends : (old new : CTransaction) (parts ended_parts : TransactionParts) (end : TransactionEnd) (result : CResult) → Keeps old parts → ended_parts ≡ at_state parts (ended_by end parts.state) → new ≡ with_state old ended_parts.state → result ≡ plain OK
    → Ends end result old new
ends old new parts ended_parts end result keeps parts-is new-is ok =
    let new-as = new-is ∙ ap (λ (p : TransactionParts). with_state old p.state) parts-is in
    inr (parts, keeps, (ok, subst (GoesOn parts (ended_by end parts.state) old) (sym new-as) (ended old parts keeps end)))

pub stops : (old new : CTransaction) (parts stopped_parts : TransactionParts) (result : CResult) → Keeps old parts → stopped_parts ≡ at_state parts (stopped_by parts.state) → new ≡ with_state old stopped_parts.state → result ≡ plain OK
    → StopsKept result old new
stops old new parts stopped_parts result keeps parts-is new-is ok =
    let new-as = new-is ∙ ap (λ (p : TransactionParts). with_state old p.state) parts-is in
    inr (parts, keeps, (ok, subst (GoesOn parts (stopped_by parts.state) old) (sym new-as) (stopped old parts keeps)))

pub polls : (now : ℕ) (moment : Duration) (old new : CTransaction) (before wanted : CAction) (parts polled_parts : TransactionParts) (action : Action) (result : CResult) → IsAt now moment → Keeps old parts
    → Polls parts.plan parts.state moment action polled_parts.state → new ≡ with_state old polled_parts.state → wanted ≡ wanted_of action → result ≡ plain OK
    → PollsKept now result (record { kept = old; wanted = before }) (record { kept = new; wanted = wanted })
polls now moment old new before wanted parts polled_parts action result at keeps does new-is reported ok =
    let state = polled_parts.state in
    inr (
      parts,
      keeps,
      (
        ok,
        record {
          moment = moment;
          at = at;
          action = action;
          state = state;
          polls = does;
          goes_on = subst (GoesOn parts state old) (sym new-is) (polled old parts keeps now moment action state at does);
          reported = reported;
        },
      ),
    )

-- ---- A transaction that begins

pub begun_keeps : (d : List ℕ) (waits : CSchedule) (transport protection now : ℕ) (plan : Plan) (mechanism : Option Mechanism) (usage : ResponsePolicy) (moment : Duration)
    → Schedules waits plan.schedule → usage_named waits ≡ Some usage → transport_numbered transport ≡ Some plan.transport → mechanism_numbered protection ≡ Some mechanism → IsAt now moment → request_fault (signs mechanism) d ≡ None
    → Keeps (begun_in_c d waits transport protection now) (request_parts d plan mechanism usage (begun moment))
begun_keeps d waits transport protection now plan mechanism usage moment scheduled named moves protected at free = record {
  tells = record {
    schedule = scheduled;
    transport = moves;
    method = refl;
    method_valid = omega arith;
    id = refl;
    signed = refl;
    mechanism = protected;
    usage = named;
    reserved = refl;
    state = record { sent = refl; last = at; clock = at; violated = refl; stopped = refl; end = refl };
  };
  sound = begun_sound d plan mechanism usage moment free;
}
