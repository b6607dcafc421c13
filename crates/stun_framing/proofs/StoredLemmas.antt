-- A stream of which the caller keeps the buffer.
use Rattle.std.proofs.Common.{◌≡◌, ℕ, ◌-◌, ◌≤◌, true, List, ◌++◌, length, take, Option, None, Some, Ok, refl, sym, ap, subst, ◌∙◌, inl, inr, arith}
use Rattle.std.specs.Prelude.{if◌then◌else◌, Result}
use Rattle.std.specs.Result.{result_map_both}
use Rattle.std.proofs.lemmas.Bool.{cases_Bool}
use Rattle.std.proofs.lemmas.List.{length-take, length-take-le, take_min}
use Rattle.stun_framing.specs.declared.error.StreamError.{StreamError}
use Rattle.stun_framing.specs.declared.stream_kind.StreamKind.{StreamKind}
use Rattle.stun_framing.specs.Framing.{room_of}
use Rattle.stun_framing.specs.declared.gather.Gathered.{Gathered}
use Rattle.stun_framing.specs.declared.stored_stream.Pushed.{Pushed}
use Rattle.stun_framing.specs.Gathering.{wanted_for, IsGathered, HoldsFirst}
use Rattle.stun_framing.specs.Streams.{Stream, resumed, can_resume, left, StandsIn, pushed_of, pushed}
use Rattle.stun_framing.specs.Fields.{is_all, pending_of, offset_behind, stream_of}
use Rattle.stun_framing.proofs.ResumingLemmas.{Resumes, resumes_if, resumed_is}
use Rattle.stun_framing.proofs.StreamsLemmas.{IsPending, part_of, left_is, answer_is, takes}

-- the first bytes of a buffer are there
first_stand : (n : ℕ) (buffer : List ℕ) → take (length (take n buffer)) buffer ≡ take n buffer
first_stand n buffer = ap (λ (k : ℕ). take k buffer) (length-take n buffer) ∙ take_min n buffer

-- the bytes of a stream are in its buffer
stands : (carries : StreamKind) (buffer : List ℕ) (gathered : Gathered) (offset : ℕ) (error : Option StreamError) → StandsIn (stream_of carries buffer gathered offset error) buffer
stands carries buffer gathered offset error = elim (cases_Bool (is_all gathered)) [
  | inl all ↦ rw all (record { pending = refl; message = first_stand gathered.held buffer })
  | inr part ↦ rw part (record { pending = first_stand gathered.held buffer; message = tt })
]

-- what is reported to the caller, by what is gathered
abbrev pub reported_of : (taken offset : ℕ) → Gathered → Pushed
reported_of taken offset gathered = record {
  taken = taken;
  offset = offset;
  pending = (pending_of gathered).held;
  message = if is_all gathered then Some gathered.held else None;
}

reported_is : (carries : StreamKind) (buffer : List ℕ) (gathered : Gathered) (taken offset : ℕ) (error : Option StreamError) → gathered.held ≤ length buffer → reported_of taken offset gathered ≡ pushed_of (stream_of carries buffer gathered offset error) taken
reported_is carries buffer gathered taken offset error within =
    let held : gathered.held ≡ length (take gathered.held buffer) = sym (length-take-le gathered.held buffer within) in
    elim (cases_Bool (is_all gathered)) [
      | inl all ↦ rw all (λ i. record { taken = taken; offset = offset; pending = 0; message = Some (held i) })
      | inr part ↦ rw part (λ i. record { taken = taken; offset = offset; pending = held i; message = None })
    ]

-- what is pending if a stream goes on
pending_held : (carries : StreamKind) (buffer : List ℕ) (held : ℕ) → Resumes carries buffer held → IsPending carries buffer (record { held = held; wanted = wanted_for (take held buffer) })
pending_held carries buffer held resumes = record {
  bound = resumes.part;
  within = resumes.within;
  sound = (resumed_is carries buffer held resumes).sound;
}

-- a piece that goes on
pub record GoesOn (carries : StreamKind) (old new piece : List ℕ) (held offset : ℕ) (after : Gathered) : Type 0 where
  pub grows : held ≤ after.held
  pub answer : Ok (reported_of (after.held - held) (offset_behind offset after) after) ≡ pushed (resumed (room_of carries (length old)) offset (take held old)) piece
  pub stands : StandsIn (left (resumed (room_of carries (length old)) offset (take held old)) piece) new

pub goes_on : (carries : StreamKind) (old new piece : List ℕ) (held offset : ℕ) (before after : Gathered) → can_resume carries old held ≡ true → before ≡ record { held = held; wanted = wanted_for (take held old) }
    → length new ≡ length old → HoldsFirst carries (take before.held old ++ piece) after new → GoesOn carries old new piece held offset after
goes_on carries old new piece held offset before after can e same holds =
    let part : Gathered = record { held = held; wanted = wanted_for (take held old) } in
    let pending : IsPending carries old part = pending_held carries old held (resumes_if carries old held can) in
    let here : HoldsFirst carries (take held old ++ piece) after new = subst (λ (k : Gathered). HoldsFirst carries (take k.held old ++ piece) after new) e holds in
    let is : pending_of part ≡ part = rw (part_of part pending.bound) refl in
    let at : stream_of carries old part offset None ≡ resumed (room_of carries (length old)) offset (take held old) = rw (part_of part pending.bound) refl in
    let first : HoldsFirst carries (take (pending_of part).held old ++ piece) after new =
    subst (λ (k : Gathered). HoldsFirst carries (take k.held old ++ piece) after new) (sym is) here in
    let stream = stream_of carries old part offset None in
    let behind = stream_of carries new after (offset_behind offset after) None in
    let leaves : behind ≡ left stream piece = left_is carries old new piece part after offset same first in
    let within : (pending_of part).held ≤ length old = omega (arith, ap (λ (k : Gathered). k.held) is, pending.within) in
    record {
      grows = (takes carries old new piece part after pending here).grows;
      answer = ap (λ (p : Pushed). Ok p) (reported_is carries new after (after.held - held) (offset_behind offset after) None holds.held)
          ∙ ap (λ (s : Stream). Ok (pushed_of s (after.held - held))) leaves
          ∙ ap (λ (r : Result ℕ StreamError). result_map_both (pushed_of (left stream piece)) (λ error. error) r)
          (ap (λ (k : Gathered). Ok (after.held - k.held)) (sym is) ∙ answer_is carries old new piece part after offset same within first)
          ∙ ap (λ (s : Stream). pushed s piece) at;
      stands = subst (λ (s : Stream). StandsIn s new) (leaves ∙ ap (λ (s : Stream). left s piece) at)
          (stands carries new after (offset_behind offset after) None);
    }

-- what is pending is gathered
pub resumed_gathered : (carries : StreamKind) (buffer : List ℕ) (held : ℕ) → can_resume carries buffer held ≡ true → IsGathered (room_of carries (length buffer)) (take held buffer) (wanted_for (take held buffer))
resumed_gathered carries buffer held can = (pending_held carries buffer held (resumes_if carries buffer held can)).sound
