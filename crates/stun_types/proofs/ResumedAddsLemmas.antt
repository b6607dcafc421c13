-- The message to which an attribute is added in a slice.
use Rattle.std.proofs.Common.{◌≡◌, ℕ, ◌≤◌, List, length, take}
use Rattle.std.proofs.lemmas.List.{length-take-le}
use Rattle.stun_types.specs.declared.writing.resume_point.ResumePoint.{ResumePoint}
use Rattle.stun_types.specs.ResumePoints.{resumed_length, IsPointOf}
use Rattle.stun_types.proofs.ResumingLemmas.{there}

-- the message is within the slice
pub within : (point : ResumePoint) (slice : List ℕ) → IsPointOf point slice → resumed_length point ≤ length slice
within point slice is = (there slice (resumed_length point) is.fault).0

pub size : (point : ResumePoint) (slice : List ℕ) → IsPointOf point slice → length (take (resumed_length point) slice) ≡ resumed_length point
size point slice is = length-take-le (resumed_length point) slice (within point slice is)
