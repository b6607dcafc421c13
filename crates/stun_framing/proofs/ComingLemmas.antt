-- How much of a stream has come, call by call.
use Rattle.std.proofs.Common.{◌≡◌, ℕ, ◌+◌, List, [], ◌++◌, length, take, drop, Option, Some, None, Result, Ok, Err, refl, sym, ap, subst, ◌∙◌, inl, inr, append_assoc, arith}
use Rattle.std.specs.List.{concat}
use Rattle.std.proofs.lemmas.Bool.{cases_Bool}
use Rattle.std.proofs.lemmas.List.{length-append, append-nil, append_cancel_right, take-append-drop}
use Rattle.std.proofs.lemmas.List.Elements.{All-nil, All-append}
use Rattle.std.proofs.lemmas.List.Folds.{concat-append}
use Rattle.stun_framing.specs.declared.error.StreamError.{StreamError}
use Rattle.stun_framing.specs.Framing.{Room, IsMessage}
use Rattle.stun_framing.specs.Streams.{Stream, begun, joined, is_whole, offset_of, refusal, answer_of, answer, with_bytes, left_of, left}
use Rattle.stun_framing.specs.Runs.{taken_of, untaken, message_in, Says, HasCome}
use Rattle.stun_framing.proofs.StreamsLemmas.{nothing_faults}
use Rattle.stun_framing.proofs.RunsLemmas.{Ended, Stands, runs_on, runs_if, ended_if, step, none_by_part, says_ended}

pub none : (room : Room) → HasCome room [] [] (begun room)
none room = record {
  cut = record { joined = refl; each = All-nil (IsMessage room); last = none_by_part room [] refl };
  room_is = refl;
  offset_is = refl;
  running = refl;
  sound = nothing_faults room;
  part = refl;
}

stands_so : (room : Room) (bytes : List ℕ) (messages : List (List ℕ)) (stream : Stream) (coming : List ℕ) → HasCome room bytes messages stream → Stands room (length (concat messages)) stream coming
stands_so room bytes messages stream coming come = record {
  room_is = come.room_is;
  offset_is = come.offset_is;
  ends = runs_on room stream coming come.running (record { sound = come.sound; part = come.part });
}

-- an answer says whether a piece was refused
accepted : (reported : Option StreamError) (k taken : ℕ) → answer_of reported k ≡ Ok taken → reported ≡ None
accepted None k taken e = refl
accepted (Some error) k taken e = absurd cc

refused : (reported : Option StreamError) (k : ℕ) (error : StreamError) → answer_of reported k ≡ Err error → reported ≡ Some error
refused None k error e = absurd cc
refused (Some error') k error e = cc

error_stays : (stream : Stream) (b : List ℕ) → (with_bytes stream b).error ≡ stream.error
error_stays stream b = elim (cases_Bool (is_whole b)) [ inl whole ↦ rw whole refl | inr part ↦ rw part refl ]

pub comes : (room : Room) (bytes : List ℕ) (messages : List (List ℕ)) (stream : Stream) (piece : List ℕ) (taken : ℕ) → HasCome room bytes messages stream → answer stream piece ≡ Ok taken
    → HasCome room (bytes ++ take taken piece) (messages ++ message_in (left stream piece).message) (left stream piece)
comes room bytes messages stream piece taken come reported =
    let n = length (concat messages) in
    let new = left stream piece in
    let now = message_in new.message in
    let b = joined stream piece in
    let steps = step room n stream piece piece (stands_so room bytes messages stream piece come) ([], sym (append-nil piece)) in
    let rest : untaken stream piece piece ≡ drop taken piece = ap (λ (reported : Result ℕ StreamError). drop (taken_of reported) piece) reported in
    let none_reported : refusal stream piece ≡ None = accepted (refusal stream piece) _ taken reported in
    let running : new.error ≡ None = ap (λ (o : Option StreamError). (left_of o stream b).error) none_reported ∙ error_stays stream b ∙ come.running in
    let runs = runs_if room new (untaken stream piece piece) steps.stands.ends running in
    let all : concat (messages ++ now) ≡ concat messages ++ concat now = concat-append messages now in
    let count : n + length (concat now) ≡ length (concat (messages ++ now)) = omega (arith, ap length all, length-append (concat messages) (concat now)) in
    let part : stream.pending ++ take taken piece ≡ concat now ++ new.pending =
    append_cancel_right (stream.pending ++ take taken piece) (concat now ++ new.pending) (drop taken piece)
    (append_assoc stream.pending (take taken piece) (drop taken piece)
    ∙ ap (λ (xs : List ℕ). stream.pending ++ xs) (take-append-drop taken piece)
    ∙ steps.joined_is
    ∙ ap (λ (xs : List ℕ). concat now ++ (new.pending ++ xs)) rest
    ∙ sym (append_assoc (concat now) new.pending (drop taken piece))) in
    record {
      cut = record {
        joined = ap (λ (xs : List ℕ). xs ++ take taken piece) come.cut.joined
            ∙ append_assoc (concat messages) stream.pending (take taken piece)
            ∙ ap (λ (xs : List ℕ). concat messages ++ xs) part
            ∙ sym (append_assoc (concat messages) (concat now) new.pending)
            ∙ ap (λ (xs : List ℕ). xs ++ new.pending) (sym all);
        each = All-append (IsMessage room) messages now come.cut.each steps.each;
        last = none_by_part room new.pending runs.part;
      };
      room_is = steps.stands.room_is;
      offset_is = steps.stands.offset_is ∙ ap offset_of count;
      running = running;
      sound = runs.sound;
      part = runs.part;
    }

pub stops : (room : Room) (bytes : List ℕ) (messages : List (List ℕ)) (stream : Stream) (piece : List ℕ) (error : StreamError) → HasCome room bytes messages stream → answer stream piece ≡ Err error
    → Says room (bytes ++ piece) messages (Some error)
stops room bytes messages stream piece error come reported =
    let new = left stream piece in
    let ended : Stream = record stream { message = None; error = Some error } in
    let steps = step room (length (concat messages)) stream piece piece (stands_so room bytes messages stream piece come) ([], sym (append-nil piece)) in
    let rest : untaken stream piece piece ≡ piece = ap (λ (reported : Result ℕ StreamError). drop (taken_of reported) piece) reported in
    let same : new ≡ ended = ap (λ (o : Option StreamError). left_of o stream (joined stream piece)) (refused (refusal stream piece) _ error reported) in
    let here : Ended room new (untaken stream piece piece) error = ended_if room new (untaken stream piece piece) error steps.stands.ends (ap (λ (s : Stream). s.error) same) in
    says_ended room (bytes ++ piece) messages ended piece error
    (ap (λ (xs : List ℕ). xs ++ piece) come.cut.joined ∙ append_assoc (concat messages) stream.pending piece)
    come.cut.each come.offset_is
    (subst (λ (xs : List ℕ). Ended room ended xs error) rest (subst (λ (s : Stream). Ended room s (untaken stream piece piece) error) same here))
    refl
