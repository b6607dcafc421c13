-- A message at the start of the caller's slice.
use Rattle.std.specs.Prelude.{ℕ, List, ◌++◌, length, drop, Option, None, Some, Result, Ok, Err, nat_lt, if◌then◌else◌}
use Rattle.stun_grammar.specs.declared.error.StunWriteError.{StunWriteError}
use Rattle.stun_grammar.specs.declared.error.StunWriteError.TheVariants.{TooLarge, TooSmall}
use Rattle.stun_grammar.specs.Attributes.{attribute_length}
use Rattle.stun_grammar.specs.Hmac.{digest_length}
use Rattle.stun_grammar.specs.Writing.{greatest_length}
use Rattle.ice_checks.specs.Views.{Signing}

-- the length of a message of n bytes, or that a slice has no room for it
abbrev pub written_in : (n room : ℕ) → Result ℕ StunWriteError
written_in n room = if nat_lt room n then Err (TooSmall n room) else Ok n

-- the slice then: the message and what followed it before, or the slice as it was
abbrev pub placed_in : (n : ℕ) → (text old : List ℕ) → List ℕ
placed_in n text old = if nat_lt (length old) n then old else text ++ drop n old

-- the same of a response: one that lists more types than a message has room for isn't written
abbrev pub replied_in : (n room : ℕ) → Result ℕ StunWriteError
replied_in n room = if nat_lt greatest_length n then Err (TooLarge greatest_length n) else written_in n room

abbrev pub reply_placed_in : (n : ℕ) → (text old : List ℕ) → List ℕ
reply_placed_in n text old = if nat_lt greatest_length n then old else placed_in n text old

-- how many bytes an integrity attribute has
abbrev pub signing_size : Option Signing → ℕ
signing_size None = 0
signing_size (Some signing) = attribute_length (digest_length signing.algorithm)
