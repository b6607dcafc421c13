-- What a buffer holds of a message.
use Rattle.std.proofs.Common.{◌≡◌, ℕ, ◌+◌, ◌-◌, ◌<◌, ◌≤◌, List, ◌++◌, length, take, drop, min, Some, None, Result, Ok, Err, sym, ap, subst, ◌∙◌, append_assoc, arith}
use Rattle.std.specs.Prelude.{MatchResult}
use Rattle.std.proofs.lemmas.List.{length-append, length-take, take_at, take_min, take-append-le, take-append-drop}
use Rattle.std.proofs.Math.Seq.{take-append-add}
use Rattle.stun_framing.specs.declared.error.StreamFault.{StreamFault}
use Rattle.stun_framing.specs.declared.gather.Gathered.{Gathered}
use Rattle.stun_framing.specs.declared.stream_kind.StreamKind.{StreamKind}
use Rattle.stun_framing.specs.Framing.{room_of, stream_fault}
use Rattle.stun_framing.specs.Gathering.{wanted_for, HoldsStart, HoldsFirst, Refuses}
use Rattle.stun_framing.proofs.FramingLemmas.{fault_grows, wanted_four, first_sound, gathered_of}

-- bytes between the first ones of a list and its last ones
pub behind_first : (old bytes rest : List ℕ) (held count : ℕ) → held ≤ length old → length bytes ≡ count → take (held + count) (take held old ++ bytes ++ rest) ≡ take held old ++ bytes
behind_first old bytes rest held count within long =
    take_at (take held old ++ bytes) rest (held + count) (omega (arith, length-append (take held old) bytes, length-take held old))

pub first_stay : (old bytes rest : List ℕ) (held : ℕ) → held ≤ length old → take held (take held old ++ bytes ++ rest) ≡ take held old
first_stay old bytes rest held within =
    ap (take held) (append_assoc (take held old) bytes rest)
    ∙ take_at (take held old) (bytes ++ rest) held (omega (arith, length-take held old))

-- as many bytes of a piece as are wanted
pub filled : (old piece : List ℕ) (held wanted count : ℕ) → held ≤ length old → held ≤ wanted → count ≡ min (wanted - held) (length piece)
    → take held old ++ take count piece ≡ take wanted (take held old ++ piece)
filled old piece held wanted count within most e =
    let h = take held old in
    let long : length h ≡ held = omega (arith, length-take held old) in
    let all : length h + (wanted - held) ≡ wanted = omega (arith, long) in
    ap (λ (n : ℕ). h ++ take n piece) e
    ∙ ap (λ (xs : List ℕ). h ++ xs) (take_min (wanted - held) piece)
    ∙ sym (take-append-add h piece (wanted - held))
    ∙ ap (λ (n : ℕ). take n (h ++ piece)) all

-- the first four bytes of b are there
pub start_held : (carries : StreamKind) (old new piece : List ℕ) (held start wanted : ℕ) → length new ≡ length old → held ≤ length old → 4 ≤ length old
    → start ≡ min 4 (held + length piece) → take start new ≡ take 4 (take held old ++ piece)
    → stream_fault (room_of carries (length old)) (take start new) ≡ None → wanted ≡ wanted_for (take start new)
    → HoldsStart (take held old ++ piece) (record { held = start; wanted = wanted }) new
start_held carries old new piece held start wanted same within room count bytes sound e =
    let b = take held old ++ piece in
    let long : length b ≡ held + length piece = omega (arith, length-append (take held old) piece, length-take held old) in
    let gathered = gathered_of (room_of carries (length old)) (take start new) room sound in
    record {
      bytes = bytes;
      count = count ∙ ap (min 4) (sym long);
      wanted = e ∙ ap wanted_for bytes ∙ wanted_four b;
      fits = omega (arith, e, gathered.fits, same);
    }

-- no message begins with the first bytes of b
pub first_refused : (carries : StreamKind) (old new piece : List ℕ) (held count n : ℕ) (fault : StreamFault)
    → take count new ≡ take n (take held old ++ piece) → take held new ≡ take held old
    → stream_fault (room_of carries (length old)) (take count new) ≡ Some fault → Refuses carries held piece fault old new
first_refused carries old new piece held count n fault bytes stays e =
    let room = room_of carries (length old) in
    let b = take held old ++ piece in
    record {
      fault_is = ap (stream_fault room) (sym (take-append-drop n b)) ∙ fault_grows room (take n b) (drop n b) fault (ap (stream_fault room) (sym bytes) ∙ e);
      stays = stays;
    }

-- what is wanted of b is there, as far as b has it
pub first_gathered : (carries : StreamKind) (old new piece : List ℕ) (held wanted now : ℕ) → length new ≡ length old → wanted ≡ wanted_for (take held old ++ piece)
    → take now new ≡ take wanted (take held old ++ piece) → now ≤ length new
    → stream_fault (room_of carries (length old)) (take now new) ≡ None
    → HoldsFirst carries (take held old ++ piece) (record { held = now; wanted = wanted }) new
first_gathered carries old new piece held wanted now same e bytes bound sound =
    let room = room_of carries (length old) in
    let b = take held old ++ piece in
    let first : take now new ≡ take (wanted_for b) b = bytes ∙ ap (λ (n : ℕ). take n b) e in
    record {
      sound = ap (λ (n : ℕ). stream_fault (room_of carries n) b) same ∙ first_sound room b (ap (stream_fault room) (sym first) ∙ sound);
      bytes = first;
      held = bound;
      wanted = e;
    }

-- b is its first four bytes, as far as they are there, and then those after
pub cut_behind : (old piece : List ℕ) (held start : ℕ) → held < 4 → held ≤ length old → start ≡ min 4 (held + length piece)
    → take 4 (take held old ++ piece) ++ drop (start - held) piece ≡ take held old ++ piece
cut_behind old piece held start short within count =
    let h = take held old in
    let long : length h ≡ held = omega (arith, length-take held old) in
    let all : 4 ≡ length h + (4 - held) = omega (arith, long) in
    let cut : take 4 (h ++ piece) ≡ h ++ take (4 - held) piece =
    ap (λ (n : ℕ). take n (h ++ piece)) all ∙ take-append-add h piece (4 - held) in
    let part : min (4 - held) (length piece) ≡ start - held = omega arith in
    let taken : take (4 - held) piece ≡ take (start - held) piece =
    sym (take_min (4 - held) piece) ∙ ap (λ (n : ℕ). take n piece) part in
    ap (λ (xs : List ℕ). xs ++ drop (start - held) piece) (cut ∙ ap (λ (xs : List ℕ). h ++ xs) taken)
    ∙ append_assoc h (take (start - held) piece) (drop (start - held) piece)
    ∙ ap (λ (xs : List ℕ). h ++ xs) (take-append-drop (start - held) piece)

-- how many bytes of a piece belong to the first four
pub start_count : (old piece buffer : List ℕ) (held : ℕ) (gathered : Gathered) → held ≤ length old → HoldsStart (take held old ++ piece) gathered buffer → gathered.held ≡ min 4 (held + length piece)
start_count old piece buffer held gathered within start =
    let long : length (take held old ++ piece) ≡ held + length piece = omega (arith, length-append (take held old) piece, length-take held old) in
    start.count ∙ ap (min 4) long

-- the first four bytes of b and those after them are b
pub start_joined : (old mid piece : List ℕ) (held : ℕ) (start : Gathered) → held < 4 → held ≤ length old → HoldsStart (take held old ++ piece) start mid
    → take start.held mid ++ drop (start.held - held) piece ≡ take held old ++ piece
start_joined old mid piece held start short within holds =
    ap (λ (xs : List ℕ). xs ++ drop (start.held - held) piece) holds.bytes
    ∙ cut_behind old piece held start.held short within (start_count old piece mid held start within holds)

-- what is held and refused after them
pub refused_behind : (carries : StreamKind) (old mid new piece behind : List ℕ) (held start : ℕ) (fault : StreamFault) → length mid ≡ length old → length new ≡ length mid → held ≤ start → start ≤ length mid
    → take start mid ++ behind ≡ take held old ++ piece → take held mid ≡ take held old → Refuses carries start behind fault mid new → Refuses carries held piece fault old new
refused_behind carries old mid new piece behind held start fault same same' within bound joined stays refuses = record {
  fault_is = ap (stream_fault (room_of carries (length old))) (sym joined)
      ∙ ap (λ (n : ℕ). stream_fault (room_of carries n) (take start mid ++ behind)) (sym same) ∙ refuses.fault_is;
  stays = sym (shorter held start new within (omega (arith, bound, same'))) ∙ ap (take held) refuses.stays ∙ shorter held start mid within bound ∙ stays;
}
  where
    shorter : (held start : ℕ) (xs : List ℕ) → held ≤ start → start ≤ length xs → take held (take start xs) ≡ take held xs
    shorter held start xs within bound =
        sym (take-append-le held (take start xs) (drop start xs) (omega (arith, length-take start xs))) ∙ ap (take held) (take-append-drop start xs)

-- what is gathered after the first four bytes is gathered of all
pub gathered_behind : (carries : StreamKind) (old mid new piece behind : List ℕ) (held : ℕ) (start : Gathered) (result : Result Gathered StreamFault) → length mid ≡ length old → length new ≡ length mid
    → held ≤ start.held → start.held ≤ length mid → take start.held mid ++ behind ≡ take held old ++ piece → take held mid ≡ take held old
    → MatchResult result (λ gathered. HoldsFirst carries (take start.held mid ++ behind) gathered new) (λ fault. Refuses carries start.held behind fault mid new)
    → MatchResult result (λ gathered. HoldsFirst carries (take held old ++ piece) gathered new) (λ fault. Refuses carries held piece fault old new)
gathered_behind carries old mid new piece behind held start (Ok gathered) same same' within bound joined stays holds =
    subst (λ (b : List ℕ). HoldsFirst carries b gathered new) joined holds
gathered_behind carries old mid new piece behind held start (Err fault) same same' within bound joined stays refuses =
    refused_behind carries old mid new piece behind held start.held fault same same' within bound joined stays refuses
