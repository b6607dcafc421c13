-- What a piece leaves, by the fields of a stream.
use Rattle.std.proofs.Common.{◌≡◌, ℕ, ◌+◌, ◌-◌, ◌<◌, ◌≤◌, Bool, true, false, List, [], ◌++◌, length, take, min, Option, Some, None, Ok, Err, refl, sym, ap, subst, ◌∙◌, inl, inr, arith}
use Rattle.std.specs.Prelude.{if◌then◌else◌, option_map}
use Rattle.std.proofs.lemmas.Bool.{cases_lt, cases_Bool, eqb-true, eq-eqb, ne_eqb}
use Rattle.std.proofs.lemmas.List.{length-append, length-take}
use Rattle.stun_grammar.specs.Headers.{begins}
use Rattle.stun_framing.specs.declared.error.StreamFault.{StreamFault}
use Rattle.stun_framing.specs.declared.error.StreamError.{StreamError}
use Rattle.stun_framing.specs.declared.gather.Gathered.{Gathered}
use Rattle.stun_framing.specs.declared.stream_kind.StreamKind.{StreamKind}
use Rattle.stun_framing.specs.Framing.{Room, room_of, stated_length, stream_fault}
use Rattle.stun_framing.specs.Gathering.{wanted_for, IsGathered, HoldsFirst, Refuses}
use Rattle.stun_framing.specs.Streams.{Stream, is_whole, of_first, offset_of, answer_of, with_bytes, left_of, answer, left}
use Rattle.stun_framing.specs.Fields.{is_all, pending_of, offset_behind, stream_of, IsStream}
use Rattle.stun_framing.proofs.FramingLemmas.{least_stated, first_is, gathered_of, wanted_long, wanted_short, least_wanted, wanted_stays, whole_wanted, whole_if, not_whole}

-- ---- Streams by their fields

-- streams are the same if their fields are
same_stream : (a b : Stream) → a.room ≡ b.room → a.offset ≡ b.offset → a.pending ≡ b.pending → a.message ≡ b.message → a.error ≡ b.error → a ≡ b
same_stream a b room offset pending message error =
    λ i. record { room = room i; offset = offset i; pending = pending i; message = message i; error = error i }

-- ---- Before a piece

-- nothing of a message
pub nothing_faults : (room : Room) → stream_fault room [] ≡ None
unfolding stream_fault begins
nothing_faults room = refl

pub nothing_gathered : (room : Room) → 4 ≤ room.size → IsGathered room [] 4
nothing_gathered room least = record { sound = nothing_faults room; wanted_is = refl; within = omega arith; fits = least }

pub begun_is : (carries : StreamKind) (buffer : List ℕ) → 20 ≤ length buffer → IsStream carries buffer (record { held = 0; wanted = 4 }) None
begun_is carries buffer least = record { room = least; bound = omega arith; sound = nothing_gathered (room_of carries (length buffer)) (omega arith); ended = λ there. omega arith }

-- what is gathered of a message that isn't whole
pub record IsPending (carries : StreamKind) (buffer : List ℕ) (gathered : Gathered) : Type 0 where
  pub bound : gathered.held < gathered.wanted
  pub within : gathered.held ≤ length buffer
  pub sound : IsGathered (room_of carries (length buffer)) (take gathered.held buffer) gathered.wanted

part_pending : (carries : StreamKind) (buffer : List ℕ) (gathered : Gathered) (error : Option StreamError) → IsStream carries buffer gathered error → (gathered.held ≡ gathered.wanted → ⊥) → IsPending carries buffer gathered
part_pending carries buffer gathered error is part = record {
  bound = omega (arith, is.sound.within, is.bound, length-take gathered.held buffer, part);
  within = is.bound;
  sound = is.sound;
}

pub pending_is : (carries : StreamKind) (buffer : List ℕ) (gathered : Gathered) (error : Option StreamError) → IsStream carries buffer gathered error → IsPending carries buffer (pending_of gathered)
pending_is carries buffer gathered error is = elim (cases_Bool (is_all gathered)) [
  | inl all ↦ subst (IsPending carries buffer) (sym (ap (λ (b : Bool). if b then record { held = 0; wanted = 4 } else gathered) all))
      (record { bound = omega arith; within = omega arith; sound = nothing_gathered (room_of carries (length buffer)) (omega (arith, is.room)) })
  | inr part ↦ subst (IsPending carries buffer) (sym (ap (λ (b : Bool). if b then record { held = 0; wanted = 4 } else gathered) part))
      (part_pending carries buffer gathered error is (λ e. let all : is_all gathered ≡ true = eq-eqb gathered.held gathered.wanted e in cc (all, part)))
]

-- ---- A piece that goes on

-- how many bytes are held of the first message, and whether these are all
held_is : (carries : StreamKind) (b new : List ℕ) (gathered : Gathered) → HoldsFirst carries b gathered new → gathered.held ≡ min (wanted_for b) (length b)
held_is carries b new gathered holds =
    omega (arith, ap length holds.bytes, length-take gathered.held new, length-take (wanted_for b) b, holds.held)

all_if : (carries : StreamKind) (b new : List ℕ) (gathered : Gathered) → HoldsFirst carries b gathered new → is_all gathered ≡ is_whole b
all_if carries b new gathered holds =
    let held = held_is carries b new gathered holds in
    let wanted = holds.wanted in
    elim (cases_lt (length b) 4) [
      | inl short ↦
          let wanted_is = wanted_short b short in
          ne_eqb gathered.held gathered.wanted (λ e. omega (arith, e, held, wanted, wanted_is)) ∙ sym (not_whole b (omega (arith, short, least_stated b)))
      | inr long ↦
          let wanted_is = wanted_long b long in
          elim (cases_lt (length b) (stated_length b)) [
            | inl part ↦ ne_eqb gathered.held gathered.wanted (λ e. omega (arith, e, held, wanted, wanted_is)) ∙ sym (not_whole b part)
            | inr all ↦ eq-eqb gathered.held gathered.wanted (omega (arith, held, wanted, wanted_is)) ∙ sym (whole_if b long all)
          ]
    ]

first_held : (carries : StreamKind) (b new : List ℕ) (gathered : Gathered) → HoldsFirst carries b gathered new → take gathered.held new ≡ of_first b
first_held carries b new gathered holds = holds.bytes ∙ sym (first_is b)

-- what is held after a piece
pub gathered_is : (carries : StreamKind) (b new : List ℕ) (gathered : Gathered) → 20 ≤ length new → HoldsFirst carries b gathered new → IsStream carries new gathered None
gathered_is carries b new gathered least holds = record {
  room = least;
  bound = holds.held;
  sound = subst (λ (xs : List ℕ). IsGathered (room_of carries (length new)) xs gathered.wanted) (sym holds.bytes)
      (subst (λ (n : ℕ). IsGathered (room_of carries (length new)) (take (wanted_for b) b) n) (sym holds.wanted) (gathered_of (room_of carries (length new)) b (omega (arith, least)) holds.sound));
  ended = λ there. absurd (cc there);
}

-- the stream after a piece
with_bytes_is : (carries : StreamKind) (b new : List ℕ) (gathered : Gathered) (stream : Stream) → room_of carries (length new) ≡ stream.room → HoldsFirst carries b gathered new → stream.error ≡ None
    → stream_of carries new gathered (offset_behind stream.offset gathered) None ≡ with_bytes stream b
with_bytes_is carries b new gathered stream same holds running =
    let all = all_if carries b new gathered holds in
    let first = first_held carries b new gathered holds in
    elim (cases_Bool (is_whole b)) [
      | inl whole ↦
          let there : is_all gathered ≡ true = all ∙ whole in
          let n : gathered.held ≡ stated_length b = omega (arith, eqb-true gathered.held gathered.wanted there, holds.wanted, whole_wanted b whole) in
          rw (there, whole) (same_stream _ _ same
          (ap (λ (k : ℕ). offset_of (stream.offset + k)) n) refl
          (ap (λ (xs : List ℕ). Some xs) (first ∙ ap (λ (w : Bool). if w then take (stated_length b) b else b) whole)) (sym running))
      | inr part ↦
          let away : is_all gathered ≡ false = all ∙ part in
          let held : take gathered.held new ≡ b = first ∙ ap (λ (w : Bool). if w then take (stated_length b) b else b) part in
          rw (away, part) (same_stream _ _ same refl held refl (sym running))
    ]

refusal_is : (room : Room) (offset : ℕ) (b : List ℕ) → stream_fault room b ≡ None
    → option_map {T = StreamFault} {U = StreamError} (λ fault. record { offset = offset; fault = fault }) (stream_fault room b) ≡ None
refusal_is room offset b sound = ap (option_map {T = StreamFault} {U = StreamError} (λ fault. record { offset = offset; fault = fault })) sound

pub left_is : (carries : StreamKind) (old new piece : List ℕ) (gathered after : Gathered) (offset : ℕ) → length new ≡ length old → HoldsFirst carries (take (pending_of gathered).held old ++ piece) after new
    → stream_of carries new after (offset_behind offset after) None ≡ left (stream_of carries old gathered offset None) piece
left_is carries old new piece gathered after offset same holds =
    let stream = stream_of carries old gathered offset None in
    let b = take (pending_of gathered).held old ++ piece in
    let sound : stream_fault (room_of carries (length old)) b ≡ None = ap (λ (n : ℕ). stream_fault (room_of carries n) b) (sym same) ∙ holds.sound in
    with_bytes_is carries b new after stream (ap (room_of carries) same) holds refl
    ∙ ap (λ (reported : Option StreamError). left_of reported stream b) (sym (refusal_is (room_of carries (length old)) offset b sound))

pub answer_is : (carries : StreamKind) (old new piece : List ℕ) (gathered after : Gathered) (offset : ℕ) → length new ≡ length old → (pending_of gathered).held ≤ length old → HoldsFirst carries (take (pending_of gathered).held old ++ piece) after new
    → Ok (after.held - (pending_of gathered).held) ≡ answer (stream_of carries old gathered offset None) piece
answer_is carries old new piece gathered after offset same within holds =
    let before = (pending_of gathered).held in
    let b = take before old ++ piece in
    let sound : stream_fault (room_of carries (length old)) b ≡ None = ap (λ (n : ℕ). stream_fault (room_of carries n) b) (sym same) ∙ holds.sound in
    let held : length (of_first b) ≡ after.held = omega (arith, sym (ap length (first_held carries b new after holds)), length-take after.held new, holds.held) in
    let long : length (take before old) ≡ before = omega (arith, within, length-take before old) in
    let taken : after.held - before ≡ length (of_first b) - length (take before old) = omega (arith, held, long) in
    ap (λ (n : ℕ). Ok n) taken
    ∙ ap (λ (reported : Option StreamError). answer_of reported (length (of_first b) - length (take before old))) (sym (refusal_is (room_of carries (length old)) offset b sound))

-- how many bytes of a piece are taken
pub record Takes (before after : ℕ) (piece : List ℕ) : Type 0 where
  pub grows : before ≤ after
  pub bound : after - before ≤ length piece
  pub some : 0 < length piece → 0 < after - before

-- more bytes are wanted than are pending
more_wanted : (carries : StreamKind) (old piece : List ℕ) (before : Gathered) → IsPending carries old before → before.held < wanted_for (take before.held old ++ piece)
more_wanted carries old piece before pending =
    let h = take before.held old in
    let long : length h ≡ before.held = omega (arith, pending.within, length-take before.held old) in
    elim (cases_lt before.held 4) [
      | inl short ↦ omega (arith, least_wanted (h ++ piece), short)
      | inr least ↦ omega (arith, wanted_stays h piece (omega (arith, long, least)), pending.bound, pending.sound.wanted_is)
    ]

pub takes : (carries : StreamKind) (old new piece : List ℕ) (before after : Gathered) → IsPending carries old before → HoldsFirst carries (take before.held old ++ piece) after new → Takes before.held after.held piece
takes carries old new piece before after pending holds =
    let h = take before.held old in
    let long : length h ≡ before.held = omega (arith, pending.within, length-take before.held old) in
    let held = held_is carries (h ++ piece) new after holds in
    let more = more_wanted carries old piece before pending in
    let all : length (h ++ piece) ≡ before.held + length piece = omega (arith, length-append h piece, long) in
    record {
      grows = omega (arith, held, more, all);
      bound = omega (arith, held, more, all);
      some = λ there. omega (arith, held, more, all);
    }

-- ---- A piece that ends the stream

refused_is_reported : (room : Room) (offset : ℕ) (b : List ℕ) (fault : StreamFault) → stream_fault room b ≡ Some fault
    → option_map {T = StreamFault} {U = StreamError} (λ fault. record { offset = offset; fault = fault }) (stream_fault room b) ≡ Some (record { offset = offset; fault = fault })
refused_is_reported room offset b fault e = ap (option_map {T = StreamFault} {U = StreamError} (λ fault. record { offset = offset; fault = fault })) e

-- what is pending isn't whole
pub part_of : (gathered : Gathered) → gathered.held < gathered.wanted → is_all gathered ≡ false
part_of gathered part = ne_eqb gathered.held gathered.wanted (λ e. omega (arith, e, part))

pub refused_left : (carries : StreamKind) (old new piece : List ℕ) (gathered : Gathered) (offset : ℕ) (fault : StreamFault) → length new ≡ length old → IsPending carries old (pending_of gathered)
    → Refuses carries (pending_of gathered).held piece fault old new
    → stream_of carries new (pending_of gathered) offset (Some (record { offset = offset; fault = fault })) ≡ left (stream_of carries old gathered offset None) piece
refused_left carries old new piece gathered offset fault same pending refuses =
    let stream = stream_of carries old gathered offset None in
    let b = take (pending_of gathered).held old ++ piece in
    let error : StreamError = record { offset = offset; fault = fault } in
    rw (part_of (pending_of gathered) pending.bound) (same_stream _ _ (ap (room_of carries) same) refl refuses.stays refl refl)
    ∙ ap (λ (reported : Option StreamError). left_of reported stream b) (sym (refused_is_reported (room_of carries (length old)) offset b fault refuses.fault_is))

pub refused_answer : (carries : StreamKind) (old new piece : List ℕ) (gathered : Gathered) (offset : ℕ) (fault : StreamFault)
    → Refuses carries (pending_of gathered).held piece fault old new
    → Err (record { offset = offset; fault = fault }) ≡ answer (stream_of carries old gathered offset None) piece
refused_answer carries old new piece gathered offset fault refuses =
    let b = take (pending_of gathered).held old ++ piece in
    ap (λ (reported : Option StreamError). answer_of reported (length (of_first b) - length (take (pending_of gathered).held old)))
    (sym (refused_is_reported (room_of carries (length old)) offset b fault refuses.fault_is))

pub refused_is : (carries : StreamKind) (old new piece : List ℕ) (gathered : Gathered) (fault : StreamFault) (error : StreamError) → length new ≡ length old → 20 ≤ length old → IsPending carries old gathered
    → Refuses carries gathered.held piece fault old new → IsStream carries new gathered (Some error)
refused_is carries old new piece gathered fault error same least pending refuses = record {
  room = omega (arith, same, least);
  bound = omega (arith, same, pending.within);
  sound = subst (λ (n : ℕ). IsGathered (room_of carries n) (take gathered.held new) gathered.wanted) (sym same)
      (subst (λ (xs : List ℕ). IsGathered (room_of carries (length old)) xs gathered.wanted) (sym refuses.stays) pending.sound);
  ended = λ there. pending.bound;
}

-- ---- A stream that has ended

pub ended_left : (carries : StreamKind) (buffer piece : List ℕ) (gathered : Gathered) (offset : ℕ) (error : StreamError) → IsStream carries buffer gathered (Some error)
    → stream_of carries buffer gathered offset (Some error) ≡ left (stream_of carries buffer gathered offset (Some error)) piece
ended_left carries buffer piece gathered offset error is = rw (part_of gathered (is.ended refl)) refl
