-- How a message is printed in printable ASCII.
use Rattle.std.specs.Prelude.{ℕ, List}
use Rattle.stun_types.specs.PrintedMessages.{text_by}
use Rattle.stun_plain_text.specs.Escaping.{escaped}
use Rattle.stun_plain_text.specs.NamesOfAll.{method_name}
use Rattle.stun_plain_text.specs.PlainValues.{attribute_text}

-- its text, with the names of STUN, ICE, TURN and NAT discovery, in printable ASCII
unfoldable pub plain_text : List ℕ → List ℕ
plain_text d = escaped (text_by method_name (λ type value borrowed. attribute_text type value) d)
