-- The type of a message: its class and its method (RFC 8489, section 5), and what a header holds.
use Rattle.std.specs.Prelude.{ℕ, ◌+◌, ◌*◌, ◌/◌, ◌%◌, Bool, true, false, List, ◌++◌, ◌==◌, if◌then◌else◌, codes}
use Rattle.std.specs.Fmt.{digits}
use Rattle.stun_grammar.specs.Names.{method_text}
use Rattle.stun_grammar.specs.Headers.{type_field, length_field, id_field}
use Rattle.stun_base.specs.declared.message_class.MessageClass.{MessageClass}
use Rattle.stun_base.specs.declared.message_class.MessageClass.TheVariants.{Request, Indication, Success, Error}

-- the two bits of the class, at bits 4 and 8
abbrev pub class_bits : MessageClass → ℕ
class_bits Request = 0x000
class_bits Indication = 0x010
class_bits Success = 0x100
class_bits Error = 0x110

-- the type of a class and a method: the method's bits 0 to 3 are at bit 0, 4 to 6 at bit 5, and 7
-- to 11 at bit 9
abbrev pub type_of : MessageClass → ℕ → ℕ
type_of class method =
    class_bits class + method % 16 + 0x20 * (method / 16 % 8) + 0x200 * (method / 128 % 32)

-- the class of a type: its bits 8 and 4
abbrev pub class_of : ℕ → MessageClass
class_of type =
    if type / 0x100 % 2 == 1 then (if type / 0x10 % 2 == 1 then Error else Success)
    else (if type / 0x10 % 2 == 1 then Indication else Request)

-- the method of a type: its other bits
abbrev pub method_of : ℕ → ℕ
method_of type = type % 16 + 16 * (type / 0x20 % 8) + 128 * (type / 0x200 % 32)

-- whether a message of this class is the response to a request
abbrev pub is_response : MessageClass → Bool
is_response Request = false
is_response Indication = false
is_response Success = true
is_response Error = true

-- the name of a class
abbrev pub class_name : MessageClass → List ℕ
class_name Request = codes "Request"
class_name Indication = codes "Indication"
class_name Success = codes "Success"
class_name Error = codes "Error"

-- a type as it is printed: its class and its method, after a parenthesis that is never closed
abbrev pub message_type_text : ℕ → List ℕ
message_type_text type =
    codes "MessageType(class: " ++ class_name (class_of type) ++ codes ", method: "
    ++ method_text (method_of type)

-- a transaction ID as it is printed: in hexadecimal, without leading zeros
abbrev pub id_text : ℕ → List ℕ
id_text id = codes "0x" ++ digits 16 false id

-- what a header holds: the type, how many bytes follow, and the transaction ID
pub record Header : Type 0 where
  pub type : ℕ
  pub length : ℕ
  pub id : ℕ

-- the header with which bytes begin
abbrev pub header_of : List ℕ → Header
header_of d = record { type = type_field d; length = length_field d; id = id_field d }
