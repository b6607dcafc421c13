-- A stream that resumes bytes that are pending.
use Rattle.std.proofs.Common.{◌≡◌, ℕ, ◌+◌, ◌<◌, ◌≤◌, true, false, List, [], length, take, Option, None, Some, refl, sym, ap, ◌∙◌, inl, inr, arith}
use Rattle.std.specs.Prelude.{◌-◌, not, is_some, ◌&&◌, nat_le, option_map}
use Rattle.std.specs.Option.{option_or}
use Rattle.std.proofs.lemmas.Bool.{cases_lt, cases_Bool, le-leb, leb-true, not-true, and_parts}
use Rattle.std.proofs.lemmas.List.{length-take}
use Rattle.stun_framing.specs.declared.error.StreamFault.{StreamFault}
use Rattle.stun_framing.specs.declared.error.StreamError.{StreamError}
use Rattle.stun_framing.specs.declared.stream_kind.StreamKind.{StreamKind}
use Rattle.stun_framing.specs.Framing.{Room, room_of, stated_length, stream_fault}
use Rattle.stun_framing.specs.Gathering.{wanted_for}
use Rattle.stun_framing.specs.Streams.{Stream, is_whole, of_first, offset_of, joined, can_resume, resumed, answer_of, answer, left, with_bytes, left_of}
use Rattle.stun_framing.specs.Fields.{IsStream}
use Rattle.stun_framing.specs.Runs.{HasCome}
use Rattle.stun_framing.proofs.FramingLemmas.{wanted_long, wanted_short, whole_if, gathered_of}

whole_by : (b : List ℕ) → wanted_for b ≤ length b → is_whole b ≡ true
whole_by b all = elim (cases_lt (length b) 4) [
  | inl short ↦ absurd (omega (arith, all, wanted_short b short))
  | inr long ↦ whole_if b long (omega (arith, all, wanted_long b long))
]

none_by : (o : Option StreamFault) → is_some o ≡ false → o ≡ None
none_by None e = refl
none_by (Some fault) e = absurd cc

-- ---- Whether bytes can be pending

-- what it means that they can
pub record Resumes (carries : StreamKind) (buffer : List ℕ) (held : ℕ) : Type 0 where
  pub room : 20 ≤ length buffer
  pub within : held ≤ length buffer
  pub sound : stream_fault (room_of carries (length buffer)) (take held buffer) ≡ None
  pub part : held < wanted_for (take held buffer)

pub resumes_if : (carries : StreamKind) (buffer : List ℕ) (held : ℕ) → can_resume carries buffer held ≡ true → Resumes carries buffer held
resumes_if carries buffer held can =
    let b = take held buffer in
    let fault = stream_fault (room_of carries (length buffer)) b in
    let room_test = nat_le 20 (length buffer) in
    let within_test = nat_le held (length buffer) in
    let last = and_parts (room_test && within_test && not (is_some fault)) (not (is_whole b)) can in
    let third = and_parts (room_test && within_test) (not (is_some fault)) last.0 in
    let second = and_parts room_test within_test third.0 in
    let within : held ≤ length buffer = leb-true held (length buffer) second.1 in
    record {
      room = leb-true 20 (length buffer) second.0;
      within = within;
      sound = none_by fault (not-true (is_some fault) third.1);
      part = elim (cases_lt held (wanted_for b)) [
        | inl part ↦ part
        | inr all ↦ absurd (cc (whole_by b (omega (arith, all, length-take held buffer, within)), not-true (is_whole b) last.1))
      ];
    }

-- ---- The stream that goes on

pub resumed_is : (carries : StreamKind) (buffer : List ℕ) (held : ℕ) → Resumes carries buffer held → IsStream carries buffer (record { held = held; wanted = wanted_for (take held buffer) }) None
resumed_is carries buffer held resumes =
    let b = take held buffer in
    let long : length b ≡ held = omega (arith, length-take held buffer, resumes.within) in
    let gathered = gathered_of (room_of carries (length buffer)) b (omega (arith, resumes.room)) resumes.sound in
    record {
      room = resumes.room;
      bound = resumes.within;
      sound = record {
        sound = resumes.sound;
        wanted_is = refl;
        within = omega (arith, long, resumes.part);
        fits = gathered.fits;
      };
      ended = λ there. resumes.part;
    }

-- ---- The laws

pub resumes : (room : Room) (bytes : List ℕ) (messages : List (List ℕ)) (stream : Stream) (buffer : List ℕ) → HasCome room bytes messages stream → 20 ≤ room.size → length buffer ≡ room.size
    → take (length stream.pending) buffer ≡ stream.pending → can_resume room.carries buffer (length stream.pending) ≡ true
resumes room bytes messages stream buffer come least long is =
    let held = length stream.pending in
    let sound : stream_fault (room_of room.carries (length buffer)) (take held buffer) ≡ None = ap (λ (n : ℕ). stream_fault (room_of room.carries n) (take held buffer)) long ∙ ap (stream_fault room) is ∙ come.sound in
    let part : is_whole (take held buffer) ≡ false = ap is_whole is ∙ come.part in
    let within : held ≤ length buffer = omega (arith, ap length is, length-take held buffer) in
    rw (le-leb 20 (length buffer) (omega (arith, long, least)), le-leb held (length buffer) within, sound, part) refl

pub comes : (room : Room) (bytes : List ℕ) (messages : List (List ℕ)) (stream : Stream) → HasCome room bytes messages stream → HasCome room bytes messages (resumed room stream.offset stream.pending)
comes room bytes messages stream come = record {
  cut = come.cut;
  room_is = refl;
  offset_is = come.offset_is;
  running = refl;
  sound = come.sound;
  part = come.part;
}

with_bytes_same : (stream : Stream) (b : List ℕ) → stream.error ≡ None → with_bytes (resumed stream.room stream.offset stream.pending) b ≡ with_bytes stream b
with_bytes_same stream b running = elim (cases_Bool (is_whole b)) [
  | inl whole ↦ rw whole (λ i. record stream { offset = offset_of (stream.offset + stated_length b); pending = []; message = Some (take (stated_length b) b); error = sym running i })
  | inr part ↦ rw part (λ i. record stream { pending = b; message = None; error = sym running i })
]

left_same : (reported : Option StreamError) (stream : Stream) (b : List ℕ) → stream.error ≡ None → left_of reported (resumed stream.room stream.offset stream.pending) b ≡ left_of reported stream b
left_same None stream b running = with_bytes_same stream b running
left_same (Some error) stream b running = refl

pub goes_on : (stream : Stream) (piece : List ℕ) → stream.error ≡ None
    → (answer (resumed stream.room stream.offset stream.pending) piece ≡ answer stream piece) × (left (resumed stream.room stream.offset stream.pending) piece ≡ left stream piece)
goes_on stream piece running =
    let b = joined stream piece in
    let fault = stream_fault stream.room b in
    let reported = λ (before : Option StreamError). option_or before (option_map {T = StreamFault} {U = StreamError} (λ f. record { offset = stream.offset; fault = f }) fault) in (
      ap (λ (before : Option StreamError). answer_of (reported before) (length (of_first b) - length stream.pending)) (sym running),
      left_same (reported None) stream b running ∙ ap (λ (before : Option StreamError). left_of (reported before) stream b) (sym running),
    )
