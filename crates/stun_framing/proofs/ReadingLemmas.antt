-- A stream whose bytes are read straight to their places.
use Rattle.std.proofs.Common.{◌≡◌, ℕ, ◌+◌, ◌-◌, ◌≤◌, true, List, ◌++◌, length, take, drop, None, Some, refl, sym, ap, subst, ◌∙◌, inl, inr, arith}
use Rattle.std.proofs.Math.Seq.{take-add}
use Rattle.std.specs.Prelude.{◌&&◌}
use Rattle.std.proofs.lemmas.Bool.{cases_lt, le-leb}
use Rattle.std.proofs.lemmas.List.{length-take-le, take_all}
use Rattle.stun_framing.specs.declared.error.StreamFault.{StreamFault}
use Rattle.stun_framing.specs.declared.gather.Gathered.{Gathered}
use Rattle.stun_framing.specs.declared.stream_kind.StreamKind.{StreamKind}
use Rattle.stun_framing.specs.Framing.{room_of, stream_fault}
use Rattle.stun_framing.specs.Gathering.{wanted_for, IsGathered, HoldsFirst, Refuses}
use Rattle.stun_framing.specs.Streams.{can_resume, can_receive}
use Rattle.stun_framing.proofs.FramingLemmas.{wanted_short, wanted_stays, least_wanted}
use Rattle.stun_framing.proofs.StoredLemmas.{resumed_gathered}

-- what is read belongs to the message
wanted_further : (buffer : List ℕ) (held count : ℕ) → held + count ≤ wanted_for (take held buffer) → held + count ≤ length buffer → held + count ≤ wanted_for (take (held + count) buffer)
wanted_further buffer held count within there =
    let b : List ℕ = take held buffer in
    let long : length b ≡ held = length-take-le held buffer (omega (arith, there)) in
    elim (cases_lt held 4) [
      | inl short ↦ omega (arith, within, wanted_short b (omega (arith, long, short)), least_wanted (take (held + count) buffer))
      | inr more ↦
          let joined : take (held + count) buffer ≡ b ++ take count (drop held buffer) = take-add held count buffer in
          omega (arith, within, ap wanted_for joined, wanted_stays b (take count (drop held buffer)) (omega (arith, long, more)))
    ]

pub holds_read : (carries : StreamKind) (buffer : List ℕ) (held count wanted : ℕ) → held + count ≤ wanted_for (take held buffer) → held + count ≤ length buffer
    → stream_fault (room_of carries (length buffer)) (take (held + count) buffer) ≡ None → wanted ≡ wanted_for (take (held + count) buffer)
    → HoldsFirst carries (take held buffer ++ take count (drop held buffer)) (record { held = held + count; wanted = wanted }) buffer
holds_read carries buffer held count wanted within there sound wanted-is =
    let b : List ℕ = take (held + count) buffer in
    let joined : b ≡ take held buffer ++ take count (drop held buffer) = take-add held count buffer in
    let long : length b ≡ held + count = length-take-le (held + count) buffer there in
    let all : take (wanted_for b) b ≡ b = take_all (wanted_for b) b (omega (arith, long, wanted_further buffer held count within there)) in
    let here : HoldsFirst carries b (record { held = held + count; wanted = wanted }) buffer = record { sound = sound; bytes = sym all; held = there; wanted = wanted-is } in
    subst (λ (x : List ℕ). HoldsFirst carries x (record { held = held + count; wanted = wanted }) buffer) joined here

pub refuses_read : (carries : StreamKind) (buffer : List ℕ) (held count : ℕ) (fault : StreamFault) → stream_fault (room_of carries (length buffer)) (take (held + count) buffer) ≡ Some fault
    → Refuses carries held (take count (drop held buffer)) fault buffer buffer
refuses_read carries buffer held count fault e =
    let joined : take (held + count) buffer ≡ take held buffer ++ take count (drop held buffer) = take-add held count buffer in
    record { fault_is = ap (stream_fault (room_of carries (length buffer))) (sym joined) ∙ e; stays = refl }

-- what is pending is gathered, as a part of it
pub part_gathered : (carries : StreamKind) (buffer : List ℕ) (held : ℕ) (part : Gathered) → can_resume carries buffer held ≡ true → part ≡ record { held = held; wanted = wanted_for (take held buffer) }
    → IsGathered (room_of carries (length buffer)) (take part.held buffer) part.wanted
part_gathered carries buffer held part can e =
    subst (λ (k : Gathered). IsGathered (room_of carries (length buffer)) (take k.held buffer) k.wanted) (sym e) (resumed_gathered carries buffer held can)

pub receives : (carries : StreamKind) (buffer : List ℕ) (held count : ℕ) → can_resume carries buffer held ≡ true → count ≤ wanted_for (take held buffer) - held → can_receive carries buffer held count ≡ true
receives carries buffer held count can le = λ i. can i && le-leb count (wanted_for (take held buffer) - held) le i
