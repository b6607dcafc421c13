-- Reading a value as a text.
use Rattle.std.proofs.Common.{◌≡◌, ℕ, ◌≤◌, List, length, Option, None, refl, subst, arith}
use Rattle.std.specs.Prelude.{Result, MatchOption, MatchResult, Err}
use Rattle.std.proofs.lemmas.Bool.{le-ltb}
use Rattle.std.proofs.lemmas.Str.{IsUtf8-string_bytes}
use Rattle.stun_grammar.specs.Lengths.{range_fault}
use Rattle.stun_grammar.specs.declared.error.StunParseError.{StunParseError}
use Rattle.stun_grammar.specs.declared.error.StunParseError.TheVariants.{OutOfMemory}
use Rattle.stun_values.specs.TextValues as Rules
use Rattle.stun_values.proofs.TextValuesLemmas.{is_text}
use Rattle.stun_attributes.specs.Texts.{text_bytes, ReadsText}
use Rattle.stun_attributes.specs.declared.text.TextAttribute.{TextAttribute}

fits : (most : ℕ) (value : List ℕ) → length value ≤ most → range_fault 0 most (length value) ≡ None
fits most value short = rw (le-ltb (length value) 0 (omega arith), le-ltb most (length value) short) refl

-- the bytes of a text are read as that text
pub read_back : {wanted most : ℕ} (text : TextAttribute wanted most) (result : Result (TextAttribute wanted most) StunParseError)
    → ReadsText most (text_bytes text) result → MatchResult result (λ read. text_bytes read ≡ text_bytes text) (λ e. e ≡ OutOfMemory)
read_back {wanted} {most} text result reported =
    let clear : Rules.text_fault most (text_bytes text) ≡ None = is_text most (text_bytes text) (fits most (text_bytes text) text.short) (IsUtf8-string_bytes text.text) in
    subst (λ (o : Option StunParseError). MatchOption o (MatchResult result (λ r. text_bytes r ≡ text_bytes text) (λ e. e ≡ OutOfMemory)) (λ e. result ≡ Err e)) clear reported
