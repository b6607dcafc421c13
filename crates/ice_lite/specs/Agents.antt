-- The state of a lite agent (RFC 8445, sections 2.5, 5.2 and 7.3.2). Moments are nanoseconds of the caller's
-- clock, from its start.
use Rattle.std.specs.Prelude.{ℕ, ◌+◌, Bool, List, nat_lt, ◌==◌}
use Rattle.ice_machine.specs.Agents.{seconds}
pub use Rattle.ice_lite.specs.declared.candidates.LiteBase.{LiteBase}
pub use Rattle.ice_lite.specs.declared.candidates.LitePair.{LitePair}
pub use Rattle.ice_lite.specs.declared.candidates.LiteCandidate.{LiteCandidate}

-- the latest moment of any event, and the host candidates
pub record State : Type 0 where
  pub clock : ℕ
  pub candidates : List LiteCandidate

abbrev pub is_base : (number : ℕ) → LiteBase → Bool
is_base number b = b.number == number

abbrev pub is_candidate : (number : ℕ) → LiteCandidate → Bool
is_candidate number k = is_base number k.base

-- the peer still checks the pair (RFC 7675, section 5.1)
abbrev pub is_live : (now : ℕ) → LitePair → Bool
is_live now p = nat_lt now (p.heard_at + seconds 30)
