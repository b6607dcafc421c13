-- Parts of a datagram.
use Rattle.std.specs.Prelude.{◌≡◌, ℕ, ◌+◌, List, length, slice_range}
use Rattle.turn_server.specs.declared.action.Span.{Span}

-- these bytes of d are the part
pub record StandsAt (span : Span) (bytes d : List ℕ) : Type 0 where
  pub length_is : span.length ≡ length bytes
  pub stands : slice_range d span.at (span.at + span.length) ≡ bytes
