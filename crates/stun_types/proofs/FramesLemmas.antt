-- Whether a header begins, by the fault of the header.
use Rattle.std.proofs.Common.{◌≡◌, ℕ, ◌<◌, ◌≤◌, List, length, Some, None, inl, inr}
use Rattle.std.proofs.lemmas.Bool.{cases_lt, cases_Bool}
use Rattle.stun_grammar.specs.declared.error.StunParseError.{StunParseError}
use Rattle.stun_grammar.specs.declared.error.StunParseError.TheVariants.{NotStun}
use Rattle.stun_grammar.specs.Headers.{is_header, begins, header_fault, Begins}
use Rattle.stun_grammar.proofs.HeadersLemmas.{not_begun, begun, not_header, header, header_there, begins_some, begins_from, whole_begins, begins_whole}

pub whole : (d : List ℕ) → header_fault d ≡ None → Begins d × (20 ≤ length d)
whole d e = let there = header_there d e in (whole_begins d there.0 there.1, there.0)

pub none_begins : (d : List ℕ) → header_fault d ≡ Some NotStun → Begins d → ⊥
none_begins d e b = elim (cases_lt (length d) 20) [
  | inl short ↦ cc (e, begun d short (begins_from d b))
  | inr long ↦ cc (e, header d long (begins_whole d long b))
]

pub some_begins : (d : List ℕ) (reported : StunParseError) → header_fault d ≡ Some reported → (reported ≡ NotStun → ⊥) → Begins d × (length d < 20)
some_begins d reported e other = elim (cases_lt (length d) 20) [
  | inl short ↦ elim (cases_Bool (begins d)) [
    | inl some ↦ (begins_some d some, short)
    | inr none ↦ absurd (other (cc (e, not_begun d short none)))
  ]
  | inr long ↦ elim (cases_Bool (is_header d)) [
    | inl there ↦ absurd (cc (e, header d long there))
    | inr none ↦ absurd (other (cc (e, not_header d long none)))
  ]
]
