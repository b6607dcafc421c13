-- A message that a writer resumes.
use Rattle.std.proofs.Common.{◌≡◌, ℕ, ◌+◌, ◌-◌, ◌<◌, ◌≤◌, Bool, true, false, List, [], ◌++◌, length, take, drop, Option, Some, None, refl, sym, ◌∙◌, inl, inr}
use Rattle.std.specs.Prelude.{◌==◌, if◌then◌else◌}
use Rattle.std.specs.Option.{option_or}
use Rattle.std.specs.Borrow.{GName}
use Rattle.std.proofs.lemmas.Bool.{cases_lt, lt-ltb, le-ltb}
use Rattle.std.proofs.lemmas.List.{length-take-le, append-nil}
use Rattle.stun_grammar.specs.declared.error.StunParseError.{StunParseError}
use Rattle.stun_grammar.specs.declared.error.StunParseError.TheVariants.{Truncated}
use Rattle.stun_grammar.specs.Attributes.{encodings}
use Rattle.stun_grammar.specs.Chains.{chain, rest, fault}
use Rattle.stun_grammar.specs.Showing.{frame_fault}
use Rattle.stun_grammar.proofs.HeadersLemmas.{header_there, frame_there}
use Rattle.stun_types.specs.declared.writing.resume_point.ResumePoint.{ResumePoint}
use Rattle.stun_types.specs.Resuming.{whole_fault, resume_fault, IsResumed}
use Rattle.stun_types.specs.Listing.{listed_types}
use Rattle.stun_types.specs.ResumePoints.{IsPointOf}

-- ---- Why a writer can't go on

pub too_few : (slice : List ℕ) (written : ℕ) → length slice < written → resume_fault slice written ≡ Some (Truncated written (length slice))
unfolding resume_fault
too_few slice written few = rw (lt-ltb (length slice) written few) refl

pub enough_there : (slice : List ℕ) (written : ℕ) → written ≤ length slice → resume_fault slice written ≡ whole_fault (take written slice)
unfolding resume_fault
enough_there slice written enough = rw (le-ltb (length slice) written enough) refl

-- ---- A whole message

pub both_none : (first second : Option StunParseError) → option_or first second ≡ None → (first ≡ None) × (second ≡ None)
both_none None second e = (refl, e)
both_none (Some reported) second e = absurd (cc e)

-- its header is there, and as many bytes as it states
pub whole_is_framed : (d : List ℕ) → whole_fault d ≡ None → frame_fault d ≡ None
unfolding whole_fault
whole_is_framed d e = (both_none (frame_fault d) (fault (20 + length (encodings (chain (drop 20 d)))) (rest (drop 20 d))) e).0

none_or_none : (none : Bool) → ◌≡◌ {A = List ℕ} (if none then [] else []) []
none_or_none true = refl
none_or_none false = refl

-- what is in the slice if a writer can go on
pub there : (slice : List ℕ) (written : ℕ) → resume_fault slice written ≡ None → (written ≤ length slice) × (whole_fault (take written slice) ≡ None)
there slice written e = elim (cases_lt (length slice) written) [
  | inl few ↦ absurd (cc (e, too_few slice written few))
  | inr enough ↦ (enough, sym (enough_there slice written enough) ∙ e)
]

-- the writer that resumes the message there
pub resumed : (point : ResumePoint) (slice : List ℕ) (types : List ℕ) (ready : ℕ) (name : GName)
    → IsPointOf point slice → types ≡ [] → ready ≡ 16
    → IsResumed (record {
      bytes = take point.written slice;
      types = listed_types point.listed (take point.written slice) ++ (if length (take point.written slice) == 0 then [] else types);
      greatest = Some (length slice);
      rest = drop point.written slice;
      ready_bytes = length slice - point.written;
      ready_types = ready;
      slice_name = name;
    }) slice point.written name
resumed point slice types ready name is none sixteen =
    let message = take point.written slice in
    let whole = there slice point.written is.fault in
    record {
      bytes = refl;
      size = length-take-le point.written slice whole.0;
      header = (header_there message (frame_there message (whole_is_framed message whole.1))).1;
      types = rw (none, none_or_none (length message == 0)) (append-nil (listed_types point.listed message) ∙ is.types);
      greatest = refl;
      rest = refl;
      ready_bytes = refl;
      ready_types = sixteen;
      slice_name = refl;
    }
