-- Pieces one after another.
use Rattle.std.proofs.Common.{◌≡◌, ℕ, ◌+◌, ◌-◌, ◌<◌, ◌≤◌, ◌⊎◌, Bool, true, false, List, [], ◌∷◌, ◌++◌, length, take, drop, min, Option, Some, None, refl, sym, ap, subst, ◌∙◌, inl, inr, append_assoc, arith}
use Rattle.std.specs.Prelude.{if◌then◌else◌, IsSome, MatchOption, option_map}
use Rattle.std.specs.List.{All, concat}
use Rattle.std.specs.Option.{option_or}
use Rattle.std.proofs.lemmas.Bool.{cases_Bool, cases_lt}
use Rattle.std.proofs.lemmas.List.{length-append, length-take, append-nil, take-append-le, take-append-drop, drop_at}
use Rattle.std.proofs.Math.Seq.{take-append-add}
use Rattle.std.proofs.lemmas.List.Elements.{All-nil, All-cons, All-append}
use Rattle.std.proofs.lemmas.List.Folds.{concat-append}
use Rattle.stun_framing.specs.declared.error.StreamFault.{StreamFault}
use Rattle.stun_framing.specs.declared.error.StreamError.{StreamError}
use Rattle.stun_framing.specs.Framing.{Room, stated_length, IsMessage, stream_fault}
use Rattle.stun_framing.specs.Streams.{Stream, begun, joined, is_whole, of_first, offset_of, refusal, answer_of, with_bytes, left_of, left}
use Rattle.stun_framing.specs.Runs.{taken_of, untaken, IsHandedOver, left_by, left_over, message_in, yielded, IsDone, Says}
use Rattle.stun_framing.proofs.FramingLemmas.{fault_grows, least_stated, stated_stays, whole_if, whole_parts}
use Rattle.stun_framing.proofs.StreamsLemmas.{nothing_faults}
use Rattle.stun_framing.proofs.CutsLemmas.{no_fault_in, whole_in, first_message}

-- the state of a stream that may still have messages
pub record Runs (room : Room) (stream : Stream) : Type 0 where
  pub sound : stream_fault room stream.pending ≡ None
  pub part : is_whole stream.pending ≡ false

-- that of one that has ended, by what is to come
pub record Ended (room : Room) (stream : Stream) (coming : List ℕ) (error : StreamError) : Type 0 where
  pub none : stream.message ≡ None
  pub offset_is : error.offset ≡ stream.offset
  pub fault_is : stream_fault room (stream.pending ++ coming) ≡ Some error.fault

-- the state of a stream after so many bytes of messages
pub record Stands (room : Room) (n : ℕ) (stream : Stream) (coming : List ℕ) : Type 0 where
  pub room_is : stream.room ≡ room
  pub offset_is : stream.offset ≡ offset_of n
  pub ends : MatchOption stream.error (Runs room stream) (Ended room stream coming)

-- what a call yields, and the state of the stream then
pub record Steps (room : Room) (n : ℕ) (stream : Stream) (coming : List ℕ) (new : Stream) (coming' : List ℕ) : Type 0 where
  pub joined_is : stream.pending ++ coming ≡ concat (message_in new.message) ++ (new.pending ++ coming')
  pub each : All (IsMessage room) (message_in new.message)
  pub stands : Stands room (n + length (concat (message_in new.message))) new coming'

-- ---- One call

cases_option : {A : Type 0} → (o : Option A) → (o ≡ None) ⊎ ((x : A) × (o ≡ Some x))
cases_option None = inl refl
cases_option (Some x) = inr (x, refl)

-- what is taken of a piece, if bytes are pending
rest_is : (pending piece behind : List ℕ) (k : ℕ) → length pending ≤ k → k ≤ length (pending ++ piece)
    → take k (pending ++ piece) ++ drop (k - length pending) (piece ++ behind) ≡ pending ++ (piece ++ behind)
rest_is pending piece behind k least most =
    let b = pending ++ piece in
    let count : k ≡ length pending + (k - length pending) = omega arith in
    let cut : take k b ≡ pending ++ take (k - length pending) piece = ap (λ (n : ℕ). take n b) count ∙ take-append-add pending piece (k - length pending) in
    let part : take (k - length pending) (piece ++ behind) ≡ take (k - length pending) piece =
    take-append-le (k - length pending) piece behind (omega (arith, length-append pending piece)) in
    ap (λ (xs : List ℕ). xs ++ drop (k - length pending) (piece ++ behind)) (cut ∙ ap (λ (xs : List ℕ). pending ++ xs) (sym part))
    ∙ append_assoc pending (take (k - length pending) (piece ++ behind)) (drop (k - length pending) (piece ++ behind))
    ∙ ap (λ (xs : List ℕ). pending ++ xs) (take-append-drop (k - length pending) (piece ++ behind))

-- the first message ends after what is pending
ends_behind : (pending piece : List ℕ) → is_whole pending ≡ false → length pending < stated_length (pending ++ piece)
ends_behind pending piece part = elim (cases_lt (length pending) 4) [
  | inl short ↦ omega (arith, least_stated (pending ++ piece))
  | inr long ↦ elim (cases_lt (length pending) (stated_length (pending ++ piece))) [
    | inl less ↦ less
    | inr all ↦
        let stays : stated_length (pending ++ piece) ≡ stated_length pending = stated_stays pending piece long in
        let whole = whole_if pending long (omega (arith, all, stays)) in
        absurd (cc (whole, part))
  ]
]

offsets_add : (offset n k : ℕ) → offset ≡ offset_of n → offset_of (offset + k) ≡ offset_of (n + k)
offsets_add offset n k e = ap (λ (m : ℕ). min (m + k) 18446744073709551615) e ∙ omega arith

-- a stream that hasn't ended
pub runs_on : (room : Room) (stream : Stream) (coming : List ℕ) → stream.error ≡ None → Runs room stream → MatchOption stream.error (Runs room stream) (Ended room stream coming)
runs_on room stream coming running runs = subst (λ (o : Option StreamError). MatchOption o (Runs room stream) (Ended room stream coming)) (sym running) runs

-- a piece that completes a message
makes_whole : (room : Room) (n : ℕ) (stream : Stream) (piece behind : List ℕ) → Stands room n stream (piece ++ behind) → Runs room stream → stream.error ≡ None
    → stream_fault room (joined stream piece) ≡ None → is_whole (joined stream piece) ≡ true
    → Steps room n stream (piece ++ behind)
    (record stream { offset = offset_of (stream.offset + stated_length (joined stream piece)); pending = []; message = Some (take (stated_length (joined stream piece)) (joined stream piece)) })
    (drop (length (take (stated_length (joined stream piece)) (joined stream piece)) - length stream.pending) (piece ++ behind))
makes_whole room n stream piece behind stands runs running sound whole =
    let b = joined stream piece in
    let k = stated_length b in
    let m = take k b in
    let parts = whole_parts b whole in
    let long : length m ≡ k = omega (arith, length-take k b, parts.1) in
    let alone : concat (m ∷ []) ≡ m = append-nil m in
    let rest = drop (length m - length stream.pending) (piece ++ behind) in
    let more = ends_behind stream.pending piece runs.part in
    let new : Stream = record stream { offset = offset_of (stream.offset + k); pending = []; message = Some m } in
    let rest_behind : m ++ rest ≡ stream.pending ++ (piece ++ behind) =
    ap (λ (j : ℕ). m ++ drop (j - length stream.pending) (piece ++ behind)) long ∙ rest_is stream.pending piece behind k (omega (arith, more)) parts.1 in
    record {
      joined_is = sym rest_behind ∙ ap (λ (xs : List ℕ). xs ++ rest) (sym alone);
      each = All-cons (IsMessage room) m [] (first_message room b sound whole) (All-nil (IsMessage room));
      stands = record {
        room_is = stands.room_is;
        offset_is = offsets_add stream.offset n k stands.offset_is ∙ ap (λ (j : ℕ). offset_of (n + j)) (sym (ap length alone ∙ long));
        ends = runs_on room new rest running (record { sound = nothing_faults room; part = refl });
      };
    }

-- a piece that leaves a message pending
leaves_part : (room : Room) (n : ℕ) (stream : Stream) (piece behind : List ℕ) → Stands room n stream (piece ++ behind) → stream.error ≡ None
    → stream_fault room (joined stream piece) ≡ None → is_whole (joined stream piece) ≡ false
    → Steps room n stream (piece ++ behind) (record stream { pending = joined stream piece; message = None }) (drop (length (joined stream piece) - length stream.pending) (piece ++ behind))
leaves_part room n stream piece behind stands running sound part =
    let b = joined stream piece in
    let count : length piece ≡ length b - length stream.pending = omega (arith, length-append stream.pending piece) in
    let rest : drop (length b - length stream.pending) (piece ++ behind) ≡ behind = drop_at piece behind (length b - length stream.pending) count in
    record {
      joined_is = sym (append_assoc stream.pending piece behind) ∙ ap (λ (xs : List ℕ). b ++ xs) (sym rest);
      each = All-nil (IsMessage room);
      stands = record {
        room_is = stands.room_is;
        offset_is = stands.offset_is ∙ ap offset_of (omega arith);
        ends = runs_on room (record stream { pending = b; message = None }) (drop (length b - length stream.pending) (piece ++ behind)) running (record { sound = sound; part = part });
      };
    }

-- a piece that ends the stream, or comes after its end
stops : (room : Room) (n : ℕ) (stream : Stream) (coming : List ℕ) (error : StreamError) → Stands room n stream coming
    → error.offset ≡ stream.offset → stream_fault room (stream.pending ++ coming) ≡ Some error.fault
    → Steps room n stream coming (record stream { message = None; error = Some error }) coming
stops room n stream coming error stands at fault = record {
  joined_is = refl;
  each = All-nil (IsMessage room);
  stands = record {
    room_is = stands.room_is;
    offset_is = stands.offset_is ∙ ap offset_of (omega arith);
    ends = record { none = refl; offset_is = at; fault_is = fault };
  };
}

-- by how a piece is answered
by_refusal : (room : Room) (n : ℕ) (stream : Stream) (piece coming : List ℕ) (reported : Option StreamError) → refusal stream piece ≡ reported
    → Steps room n stream coming (left_of reported stream (joined stream piece)) (drop (taken_of (answer_of reported (length (of_first (joined stream piece)) - length stream.pending))) coming)
    → Steps room n stream coming (left stream piece) (untaken stream piece coming)
by_refusal room n stream piece coming reported e steps =
    subst (λ (o : Option StreamError). Steps room n stream coming (left_of o stream (joined stream piece)) (drop (taken_of (answer_of o (length (of_first (joined stream piece)) - length stream.pending))) coming)) (sym e) steps

-- a piece without a fault
goes_on : (room : Room) (n : ℕ) (stream : Stream) (piece behind : List ℕ) → Stands room n stream (piece ++ behind) → Runs room stream → stream.error ≡ None
    → stream_fault room (joined stream piece) ≡ None
    → Steps room n stream (piece ++ behind) (with_bytes stream (joined stream piece)) (drop (length (of_first (joined stream piece)) - length stream.pending) (piece ++ behind))
goes_on room n stream piece behind stands runs running sound =
    let b = joined stream piece in
    let by_whole : Bool → Type 0 = λ w. Steps room n stream (piece ++ behind)
    (if w then record stream { offset = offset_of (stream.offset + stated_length b); pending = []; message = Some (if w then take (stated_length b) b else b) } else record stream { pending = b; message = None })
    (drop (length (if w then take (stated_length b) b else b) - length stream.pending) (piece ++ behind)) in
    elim (cases_Bool (is_whole b)) [
      | inl whole ↦ subst by_whole (sym whole) (makes_whole room n stream piece behind stands runs running sound whole)
      | inr part ↦ subst by_whole (sym part) (leaves_part room n stream piece behind stands running sound part)
    ]

-- the state of a stream that has ended, and of one that hasn't
pub runs_if : (room : Room) (stream : Stream) (coming : List ℕ) → MatchOption stream.error (Runs room stream) (Ended room stream coming) → stream.error ≡ None → Runs room stream
runs_if room stream coming ends e = subst (λ (o : Option StreamError). MatchOption o (Runs room stream) (Ended room stream coming)) e ends

pub ended_if : (room : Room) (stream : Stream) (coming : List ℕ) (error : StreamError) → MatchOption stream.error (Runs room stream) (Ended room stream coming) → stream.error ≡ Some error → Ended room stream coming error
ended_if room stream coming error ends e = subst (λ (o : Option StreamError). MatchOption o (Runs room stream) (Ended room stream coming)) e ends

step_on : (room : Room) (n : ℕ) (stream : Stream) (piece behind : List ℕ) → Stands room n stream (piece ++ behind)
    → Steps room n stream (piece ++ behind) (left stream piece) (untaken stream piece (piece ++ behind))
step_on room n stream piece behind stands =
    let coming = piece ++ behind in
    let b = joined stream piece in
    let reported : Option StreamFault → Option StreamError = option_map (λ fault. record { offset = stream.offset; fault = fault }) in
    elim (cases_option stream.error) [
      | inr (error, e) ↦
          let ended = ended_if room stream coming error stands.ends e in
          by_refusal room n stream piece coming (Some error) (ap (λ (o : Option StreamError). option_or o (reported (stream_fault stream.room b))) e)
          (stops room n stream coming error stands ended.offset_is ended.fault_is)
      | inl running ↦
          let to_fault : refusal stream piece ≡ reported (stream_fault room b) =
          ap (λ (o : Option StreamError). option_or o (reported (stream_fault stream.room b))) running ∙ ap (λ (r : Room). reported (stream_fault r b)) stands.room_is in
          elim (cases_option (stream_fault room b)) [
            | inl sound ↦ by_refusal room n stream piece coming None (to_fault ∙ ap reported sound)
                (goes_on room n stream piece behind stands (runs_if room stream coming stands.ends running) running sound)
            | inr (fault, e) ↦ by_refusal room n stream piece coming (Some (record { offset = stream.offset; fault = fault })) (to_fault ∙ ap reported e)
                (stops room n stream coming (record { offset = stream.offset; fault = fault }) stands refl
                (ap (stream_fault room) (sym (append_assoc stream.pending piece behind)) ∙ fault_grows room b behind fault e))
          ]
    ]

pub step : (room : Room) (n : ℕ) (stream : Stream) (piece coming : List ℕ) → Stands room n stream coming → ((behind : List ℕ) × (coming ≡ piece ++ behind))
    → Steps room n stream coming (left stream piece) (untaken stream piece coming)
step room n stream piece coming stands (behind, e) =
    subst (λ (xs : List ℕ). Steps room n stream xs (left stream piece) (untaken stream piece xs)) (sym e)
    (step_on room n stream piece behind (subst (Stands room n stream) e stands))

-- ---- All calls

-- what all calls yield
record Ends (room : Room) (n : ℕ) (stream : Stream) (coming : List ℕ) (pieces : List (List ℕ)) : Type 0 where
  pub joined_is : stream.pending ++ coming ≡ concat (yielded stream pieces) ++ ((left_by stream pieces).pending ++ left_over stream coming pieces)
  pub each : All (IsMessage room) (yielded stream pieces)
  pub stands : Stands room (n + length (concat (yielded stream pieces))) (left_by stream pieces) (left_over stream coming pieces)

run : (room : Room) (n : ℕ) (stream : Stream) (coming : List ℕ) (pieces : List (List ℕ)) → Stands room n stream coming → IsHandedOver stream coming pieces → Ends room n stream coming pieces
run room n stream coming [] stands handed = record {
  joined_is = refl;
  each = All-nil (IsMessage room);
  stands = subst (λ (k : ℕ). Stands room k stream coming) (omega arith) stands;
}
run room n stream coming (piece ∷ pieces) stands handed =
    let new = left stream piece in
    let coming' = untaken stream piece coming in
    let now = message_in new.message in
    let later = yielded new pieces in
    let first = step room n stream piece coming stands handed.0 in
    let rest = run room (n + length (concat now)) new coming' pieces first.stands handed.1 in
    let all : concat (now ++ later) ≡ concat now ++ concat later = concat-append now later in
    let count : n + length (concat now) + length (concat later) ≡ n + length (concat (now ++ later)) =
    omega (arith, ap length all, length-append (concat now) (concat later)) in
    record {
      joined_is = first.joined_is
          ∙ ap (λ (xs : List ℕ). concat now ++ xs) rest.joined_is
          ∙ sym (append_assoc (concat now) (concat later) ((left_by new pieces).pending ++ left_over new coming' pieces))
          ∙ ap (λ (xs : List ℕ). xs ++ ((left_by new pieces).pending ++ left_over new coming' pieces)) (sym all);
      each = All-append (IsMessage room) now later first.each rest.each;
      stands = subst (λ (k : ℕ). Stands room k (left_by new pieces) (left_over new coming' pieces)) count rest.stands;
    }

-- ---- What the bytes say

begins_standing : (room : Room) (bytes : List ℕ) → Stands room 0 (begun room) bytes
begins_standing room bytes = record { room_is = refl; offset_is = refl; ends = record { sound = nothing_faults room; part = refl } }

-- no message begins with bytes that have a fault, or aren't whole
none_by_fault : (room : Room) (rest : List ℕ) (fault : StreamFault) → stream_fault room rest ≡ Some fault → (m behind : List ℕ) → IsMessage room m → rest ≡ m ++ behind → ⊥
none_by_fault room rest fault reported m behind is e =
    let sound = ap (stream_fault room) e ∙ no_fault_in room m behind is in
    cc (sound, reported)

pub none_by_part : (room : Room) (rest : List ℕ) → is_whole rest ≡ false → (m behind : List ℕ) → IsMessage room m → rest ≡ m ++ behind → ⊥
none_by_part room rest part m behind is e =
    let whole = ap is_whole e ∙ whole_in room m behind is in
    cc (whole, part)

-- a stream that has ended says so
pub says_ended : (room : Room) (bytes : List ℕ) (messages : List (List ℕ)) (stream : Stream) (coming : List ℕ) (error : StreamError)
    → bytes ≡ concat messages ++ (stream.pending ++ coming) → All (IsMessage room) messages → stream.offset ≡ offset_of (length (concat messages))
    → Ended room stream coming error → stream.error ≡ Some error → Says room bytes messages stream.error
says_ended room bytes messages stream coming error joins each at ended e =
    let rest = stream.pending ++ coming in
    let reported : Option StreamFault → Option StreamError = option_map (λ fault. record { offset = offset_of (length (concat messages)); fault = fault }) in
    let offset = ended.offset_is ∙ at in
    let whole : Some error ≡ reported (Some error.fault) = λ i. Some (record { offset = offset i; fault = error.fault }) in
    record {
      rest = rest;
      cut = record { joined = joins; each = each; last = none_by_fault room rest error.fault ended.fault_is };
      error_is = e ∙ whole ∙ ap reported (sym ended.fault_is);
    }

-- and so does one of which nothing is left
says_running : (room : Room) (bytes : List ℕ) (messages : List (List ℕ)) (stream : Stream) (coming : List ℕ)
    → bytes ≡ concat messages ++ (stream.pending ++ coming) → All (IsMessage room) messages → coming ≡ []
    → Runs room stream → stream.error ≡ None → Says room bytes messages stream.error
says_running room bytes messages stream coming joins each nothing runs e =
    let reported : Option StreamFault → Option StreamError = option_map (λ fault. record { offset = offset_of (length (concat messages)); fault = fault }) in
    let rest : stream.pending ++ coming ≡ stream.pending = ap (λ (xs : List ℕ). stream.pending ++ xs) nothing ∙ append-nil stream.pending in
    record {
      rest = stream.pending;
      cut = record { joined = joins ∙ ap (λ (xs : List ℕ). concat messages ++ xs) rest; each = each; last = none_by_part room stream.pending runs.part };
      error_is = e ∙ sym (ap reported runs.sound);
    }

said_by : (room : Room) (bytes : List ℕ) (messages : List (List ℕ)) (stream : Stream) (coming : List ℕ)
    → bytes ≡ concat messages ++ (stream.pending ++ coming) → All (IsMessage room) messages → Stands room (0 + length (concat messages)) stream coming
    → (coming ≡ []) ⊎ IsSome stream.error → Says room bytes messages stream.error
said_by room bytes messages stream coming joins each stands done =
    let at : stream.offset ≡ offset_of (length (concat messages)) = stands.offset_is ∙ ap offset_of (omega arith) in
    elim (cases_option stream.error) [
      | inr (error, e) ↦ says_ended room bytes messages stream coming error joins each at (ended_if room stream coming error stands.ends e) e
      | inl e ↦ elim done [
        | inl nothing ↦ says_running room bytes messages stream coming joins each nothing (runs_if room stream coming stands.ends e) e
        | inr some ↦ absurd (let there : IsSome {T = StreamError} None = subst (λ (o : Option StreamError). IsSome o) e some in cc there)
      ]
    ]

pub said : (room : Room) (bytes : List ℕ) (pieces : List (List ℕ)) → IsHandedOver (begun room) bytes pieces → IsDone (begun room) bytes pieces
    → Says room bytes (yielded (begun room) pieces) (left_by (begun room) pieces).error
said room bytes pieces handed done =
    let ends = run room 0 (begun room) bytes pieces (begins_standing room bytes) handed in
    said_by room bytes (yielded (begun room) pieces) (left_by (begun room) pieces) (left_over (begun room) bytes pieces) ends.joined_is ends.each ends.stands done
