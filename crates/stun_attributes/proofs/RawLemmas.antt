-- Why bytes do not begin with a raw attribute, by how many there are.
use Rattle.std.proofs.Common.{◌≡◌, ℕ, ◌+◌, ◌-◌, ◌<◌, ◌≤◌, List, length, Some, None, refl}
use Rattle.std.proofs.lemmas.Bool.{le-ltb, lt-ltb}
use Rattle.stun_grammar.specs.declared.error.StunParseError.TheVariants.{Truncated}
use Rattle.stun_grammar.specs.Chains.{stated_length}
use Rattle.stun_attributes.specs.Raw.{raw_fault}

pub no_header : (d : List ℕ) → length d < 4 → raw_fault d ≡ Some (Truncated 4 (length d))
unfolding raw_fault
no_header d short = rw (lt-ltb _ _ short) refl

pub no_value : (d : List ℕ) (n : ℕ) → 4 ≤ length d → n ≡ stated_length d → length d < 4 + n → raw_fault d ≡ Some (Truncated n (length d - 4))
unfolding raw_fault
no_value d n header is few = rw (le-ltb (length d) 4 header, ← is, lt-ltb (length d) (4 + n) few) refl

pub all_there : (d : List ℕ) (n : ℕ) → 4 ≤ length d → n ≡ stated_length d → 4 + n ≤ length d → raw_fault d ≡ None
unfolding raw_fault
all_there d n header is enough = rw (le-ltb (length d) 4 header, ← is, le-ltb (length d) (4 + n) enough) refl
