-- Sequences of calls.
use Rattle.std.proofs.Common.{◌≡◌, ℕ, ◌+◌, ◌*◌, ◌<◌, ◌≤◌, Bool, true, false, List, [], ◌∷◌, Option, None, Some, refl, sym, ap, ◌∙◌, subst, inl, inr}
use Rattle.std.specs.Prelude.{MatchOption, is_some, not, ◌&&◌, nat_lt, if◌then◌else◌}
use Rattle.stun_grammar.specs.declared.attribute_type.AttributeType.{AttributeType}
use Rattle.stun_transactions.specs.declared.received.Discard.TheVariants.{NotAuthentic, OtherAlgorithm, BidDown, UnsignedBadRequest, NoFingerprint}
use Rattle.stun_transactions.specs.declared.received.Outcome.{Outcome}
use Rattle.stun_transactions.specs.declared.received.Outcome.TheVariants.{NotForThis, Discarded, Failed, Success, Error}
use Rattle.stun_keys.specs.declared.keys.integrity_key.IntegrityKey.{IntegrityKey}
use Rattle.stun_transactions.specs.declared.parts.TransactionParts.{TransactionParts}
use Rattle.stun_transactions.specs.Parts.{at_state}
use Rattle.stun_grammar.specs.Parsing.{parse_fault}
use Rattle.std.proofs.lemmas.Bool.{ltb-true}
use Rattle.stun_transactions.specs.Outcomes.{after, is_open}
use Rattle.stun_transactions.specs.Receiving.{received_outcome, outcome}
use Rattle.std.specs.Duration.{as_nanos}
use Rattle.std.specs.declared.time.Duration.{Duration}
use Rattle.stun_transactions.specs.declared.plan.Plan.{Plan}
use Rattle.stun_transactions.specs.declared.retransmission.RetransmissionState.{RetransmissionState}
use Rattle.stun_transactions.specs.declared.retransmission.Action.{Action}
use Rattle.stun_transactions.specs.declared.retransmission.Action.TheVariants.{Send, WaitUntil, Ended}
use Rattle.stun_transactions.specs.declared.retransmission.TransactionEnd.{TransactionEnd}
use Rattle.stun_transactions.specs.Schedules.{requests_in, wait_in, rest_in}
use Rattle.stun_transactions.specs.Retransmissions.{Polls, later, stopped_by}
use Rattle.stun_transactions.specs.Runs.{Call, IsRun, Stays, hands_out, sends, IsSpaced, left_by}

-- the same moments after the same requests
same_place : (plan : Plan) (moments : List ℕ) (sent last sent' last' : ℕ) → sent' ≡ sent → last' ≡ last → IsSpaced plan sent' last' moments → IsSpaced plan sent last moments
same_place plan moments sent last sent' last' e f spaced =
    subst (λ (n : ℕ). IsSpaced plan n last moments) e (subst (λ (n : ℕ). IsSpaced plan sent' n moments) f spaced)

-- if a further request is to be sent, sending isn't stopped, and not all were sent
going_on : (stopped : Bool) (sent requests : ℕ) → (not stopped && nat_lt sent requests) ≡ true → (stopped ≡ false) × (sent < requests)
going_on false sent requests more = (refl, ltb-true sent requests more)
going_on true sent requests more = absurd cc

-- one call before others
spaced_call : (plan : Plan) (old : RetransmissionState) (poll : Option (Duration × Action)) (left : RetransmissionState) (moments : List ℕ)
    → MatchOption poll (Stays old left) (λ p. Polls plan old p.0 p.1 left)
    → IsSpaced plan left.sent (as_nanos left.last) moments
    → IsSpaced plan old.sent (as_nanos old.last) (if hands_out poll then as_nanos left.last ∷ moments else moments)
spaced_call plan old None left moments stays spaced =
    same_place plan moments old.sent (as_nanos old.last) left.sent (as_nanos left.last) stays.sent (ap as_nanos stays.last) spaced
spaced_call plan old (Some (now, Send)) left moments made spaced =
    let going = going_on old.stopped old.sent (requests_in plan) made.more in
    let at : as_nanos left.last ≡ as_nanos (later old.clock now) = ap (λ (c : RetransmissionState). as_nanos c.last) made.new_is in
    let more : left.sent ≡ old.sent + 1 = ap (λ (c : RetransmissionState). c.sent) made.new_is in (
      going.1,
      subst (λ (n : ℕ). as_nanos old.last + wait_in plan old.sent * 1_000_000 ≤ n) (sym at)
          (subst (λ (b : Bool). as_nanos old.last + (if b then rest_in plan old.sent else wait_in plan old.sent) * 1_000_000 ≤ as_nanos (later old.clock now)) going.0 made.due_is),
      same_place plan moments (old.sent + 1) (as_nanos left.last) left.sent (as_nanos left.last) more refl spaced,
    )
spaced_call plan old (Some (now, WaitUntil until)) left moments waits spaced =
    same_place plan moments old.sent (as_nanos old.last) left.sent (as_nanos left.last)
    (ap (λ (c : RetransmissionState). c.sent) waits.new_is) (ap (λ (c : RetransmissionState). as_nanos c.last) waits.new_is) spaced
spaced_call plan old (Some (now, Ended end)) left moments over spaced =
    elim over [
      | inl is ↦ same_place plan moments old.sent (as_nanos old.last) left.sent (as_nanos left.last)
          (ap (λ (c : RetransmissionState). c.sent) is.same) (ap (λ (c : RetransmissionState). as_nanos c.last) is.same) spaced
      | inr times ↦ same_place plan moments old.sent (as_nanos old.last) left.sent (as_nanos left.last)
          (ap (λ (c : RetransmissionState). c.sent) times.new_is) (ap (λ (c : RetransmissionState). as_nanos c.last) times.new_is) spaced
    ]

-- the requests of a run are spaced
pub spaced : (plan : Plan) (state : RetransmissionState) (calls : List Call) → IsRun plan state calls → IsSpaced plan state.sent (as_nanos state.last) (sends calls)
spaced plan state [] run = tt
spaced plan state (call ∷ calls) run =
    spaced_call plan state call.poll call.left (sends calls) run.0 (spaced plan call.left calls run.1)

-- ---- After an end

-- a call after an end hands nothing out and changes nothing
record Idle (old : RetransmissionState) (poll : Option (Duration × Action)) (left : RetransmissionState) : Type 0 where
  quiet : hands_out poll ≡ false
  same : left ≡ old

idle_call : (plan : Plan) (old : RetransmissionState) (end : TransactionEnd) (poll : Option (Duration × Action)) (left : RetransmissionState) → old.end ≡ Some end
    → MatchOption poll (Stays old left) (λ p. Polls plan old p.0 p.1 left) → Idle old poll left
idle_call plan old end None left ended stays = record { quiet = refl; same = stays.ended (ap is_some ended) }
idle_call plan old end (Some (now, Send)) left ended made = absurd (let e = made.ongoing in cc (e, ended))
idle_call plan old end (Some (now, WaitUntil until)) left ended waits = absurd (let e = waits.ongoing in cc (e, ended))
idle_call plan old end (Some (now, Ended said)) left ended over =
    elim over [ inl is ↦ record { quiet = refl; same = is.same } | inr times ↦ absurd (let e = times.ongoing in cc (e, ended)) ]

pub nothing_left : (plan : Plan) (state : RetransmissionState) (calls : List Call) (end : TransactionEnd) → state.end ≡ Some end → IsRun plan state calls → left_by state calls ≡ state
nothing_left plan state [] end ended run = refl
nothing_left plan state (call ∷ calls) end ended run =
    let idle = idle_call plan state end call.poll call.left ended run.0 in
    nothing_left plan call.left calls end (ap (λ (c : RetransmissionState). c.end) idle.same ∙ ended) run.1 ∙ idle.same

pub nothing_sent : (plan : Plan) (state : RetransmissionState) (calls : List Call) (end : TransactionEnd) → state.end ≡ Some end → IsRun plan state calls → sends calls ≡ []
nothing_sent plan state [] end ended run = refl
nothing_sent plan state (call ∷ calls) end ended run =
    let idle = idle_call plan state end call.poll call.left ended run.0 in
    ap (λ (b : Bool). if b then as_nanos call.left.last ∷ sends calls else sends calls) idle.quiet
    ∙ nothing_sent plan call.left calls end (ap (λ (c : RetransmissionState). c.end) idle.same ∙ ended) run.1

-- ---- After sending is stopped

-- a call after that hands nothing out, and leaves it so
record Quiet (poll : Option (Duration × Action)) (left : RetransmissionState) : Type 0 where
  quiet : hands_out poll ≡ false
  stopped : left.stopped ≡ true

quiet_call : (plan : Plan) (old : RetransmissionState) (poll : Option (Duration × Action)) (left : RetransmissionState) → old.stopped ≡ true → MatchOption poll (Stays old left) (λ p. Polls plan old p.0 p.1 left) → Quiet poll left
quiet_call plan old None left stopped stays = record { quiet = refl; stopped = stays.stopped stopped }
quiet_call plan old (Some (now, Send)) left stopped made =
    absurd (let going = going_on old.stopped old.sent (requests_in plan) made.more in let e = going.0 in cc (e, stopped))
quiet_call plan old (Some (now, WaitUntil until)) left stopped waits =
    record { quiet = refl; stopped = ap (λ (c : RetransmissionState). c.stopped) waits.new_is ∙ stopped }
quiet_call plan old (Some (now, Ended end)) left stopped over =
    elim over [
      | inl is ↦ record { quiet = refl; stopped = ap (λ (c : RetransmissionState). c.stopped) is.same ∙ stopped }
      | inr times ↦ record { quiet = refl; stopped = ap (λ (c : RetransmissionState). c.stopped) times.new_is ∙ stopped }
    ]

pub nothing_more : (plan : Plan) (state : RetransmissionState) (calls : List Call) → state.stopped ≡ true → IsRun plan state calls → sends calls ≡ []
nothing_more plan state [] stopped run = refl
nothing_more plan state (call ∷ calls) stopped run =
    let quiet = quiet_call plan state call.poll call.left stopped run.0 in
    ap (λ (b : Bool). if b then as_nanos call.left.last ∷ sends calls else sends calls) quiet.quiet
    ∙ nothing_more plan call.left calls quiet.stopped run.1

-- it is open as before
open_after : (ended : Bool) (state : RetransmissionState) → is_open (if ended then state else record state { stopped = true }) ≡ is_open state
open_after true state = refl
open_after false state = refl

still_open : (state : RetransmissionState) → is_open (stopped_by state) ≡ is_open state
still_open state = open_after (is_some state.end) state

pub receives_on : (parts : TransactionParts) (key : Option IntegrityKey) (understood : List AttributeType) (d : List ℕ) → received_outcome (at_state parts (stopped_by parts.state)) key understood d ≡ received_outcome parts key understood d
receives_on parts key understood d =
    ap (λ (b : Bool). if b && not (is_some (parse_fault d)) then outcome parts key understood d else NotForThis) (still_open parts.state)

-- ---- Calls that are no polls

-- whatever is reported, what was sent stays so
same_sent : (o : Outcome) (state : RetransmissionState) → (after o state).sent ≡ state.sent
same_sent NotForThis state = refl
same_sent (Discarded NotAuthentic claim) state = refl
same_sent (Discarded OtherAlgorithm claim) state = refl
same_sent (Discarded BidDown claim) state = refl
same_sent (Discarded UnsignedBadRequest claim) state = refl
same_sent (Discarded NoFingerprint claim) state = refl
same_sent (Failed failure) state = refl
same_sent (Success proof) state = refl
same_sent (Error code proof) state = refl

same_last : (o : Outcome) (state : RetransmissionState) → (after o state).last ≡ state.last
same_last NotForThis state = refl
same_last (Discarded NotAuthentic claim) state = refl
same_last (Discarded OtherAlgorithm claim) state = refl
same_last (Discarded BidDown claim) state = refl
same_last (Discarded UnsignedBadRequest claim) state = refl
same_last (Discarded NoFingerprint claim) state = refl
same_last (Failed failure) state = refl
same_last (Success proof) state = refl
same_last (Error code proof) state = refl

same_stopped : (o : Outcome) (state : RetransmissionState) → (after o state).stopped ≡ state.stopped
same_stopped NotForThis state = refl
same_stopped (Discarded NotAuthentic claim) state = refl
same_stopped (Discarded OtherAlgorithm claim) state = refl
same_stopped (Discarded BidDown claim) state = refl
same_stopped (Discarded UnsignedBadRequest claim) state = refl
same_stopped (Discarded NoFingerprint claim) state = refl
same_stopped (Failed failure) state = refl
same_stopped (Success proof) state = refl
same_stopped (Error code proof) state = refl

-- a test that fails if an end is there
shut : (some ended parses : Bool) (o : Outcome) → ended ≡ true → (if (some && not ended) && parses then o else NotForThis) ≡ NotForThis
shut true true parses o e = refl
shut false true parses o e = refl
shut some false parses o e = absurd cc

-- after an end nothing is received
nothing_received : (parts : TransactionParts) (key : Option IntegrityKey) (understood : List AttributeType) (d : List ℕ) → is_some parts.state.end ≡ true → received_outcome parts key understood d ≡ NotForThis
nothing_received parts key understood d e = shut (nat_lt 0 parts.state.sent) (is_some parts.state.end) (not (is_some (parse_fault d))) (outcome parts key understood d) e

pub receiving_stays : (parts : TransactionParts) (key : Option IntegrityKey) (understood : List AttributeType) (d : List ℕ) → Stays parts.state (after (received_outcome parts key understood d) parts.state)
receiving_stays parts key understood d =
    let o = received_outcome parts key understood d in
    record {
      sent = same_sent o parts.state;
      last = same_last o parts.state;
      stopped = λ e. same_stopped o parts.state ∙ e;
      ended = λ e. ap (λ (reported : Outcome). after reported parts.state) (nothing_received parts key understood d e);
    }
