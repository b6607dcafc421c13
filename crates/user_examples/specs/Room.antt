-- Adding attributes without taking memory (RFC 8489, section 14; RFC 8445, section 7.1.2).
use Rattle.std.specs.Prelude.{◌≡◌, ℕ, ◌*◌, ◌≤◌, [], length, None}
use Rattle.stun_grammar.specs.Steps.{add}
use Rattle.stun_grammar.specs.Adding.{order_refusal}
use Rattle.stun_types.specs.Writers.{Writer}

-- n more USE-CANDIDATE can be added without taking memory: a header is written, no attribute blocks
-- them, the writer has no bound, and there is ready room for them
pub record HasReady (w : Writer) (n : ℕ) : Type 0 where
  pub header : 20 ≤ length w.bytes
  pub order : order_refusal (add 0x0025 []) w.types ≡ None
  pub unbounded : w.greatest ≡ None
  pub ready_bytes : 4 * n ≤ w.ready_bytes
  pub ready_types : n ≤ w.ready_types
