-- Attributes whose value is a text (RFC 8489, sections 14.3, 14.9, 14.10, 14.14 and 14.16).
use Rattle.std.specs.Prelude.{◌≡◌, ℕ, List, Result, ◌==◌, if◌then◌else◌}
use Rattle.std.specs.String.{string_bytes}
use Rattle.stun_grammar.specs.declared.error.StunParseError.{StunParseError}
use Rattle.stun_grammar.specs.AttributeTypes.{USERNAME, SOFTWARE}
use Rattle.stun_grammar.specs.Names.{plain_text, quoted_text}
use Rattle.stun_values.specs.TextValues.{text_fault}
use Rattle.stun_attributes.specs.Reading.{ReadsInMemory}
use Rattle.stun_attributes.specs.declared.text.TextAttribute.{TextAttribute}

-- the bytes of its text, which are its value
abbrev pub text_bytes : {type most : ℕ} → TextAttribute type most → List ℕ
text_bytes attribute = string_bytes attribute.text

-- what reading a value may answer: the fault, and if there is none the text, unless out of
-- memory
abbrev pub ReadsText :
    (max : ℕ) → {type most : ℕ} → List ℕ → Result (TextAttribute type most) StunParseError → Type 0
ReadsText max value =
    ReadsInMemory (text_fault max value) (λ read. text_bytes read ≡ value)

-- how a text is printed after its type: that of a USERNAME or a SOFTWARE in quotation marks
abbrev pub shown_text : ℕ → List ℕ → List ℕ
shown_text type text =
    if type == USERNAME then quoted_text type text else (
    if type == SOFTWARE then quoted_text type text else plain_text type text)
