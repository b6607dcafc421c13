-- How a message is printed.
use Rattle.std.specs.Prelude.{ℕ, Bool, true, List, ◌++◌, codes}
use Rattle.stun_text.specs.Lists.{with_commas}
use Rattle.stun_grammar.specs.Names.{numbered_text, method_name}
use Rattle.stun_grammar.specs.Chains.{Shown}
use Rattle.stun_grammar.specs.Showing.{shown}
use Rattle.stun_base.specs.MessageTypes.{Header, header_of, class_of, method_of, class_name, id_text}
use Rattle.stun_attributes.specs.PrintedAttributes.{attribute_text}

-- what precedes the attributes: the class, the method by its number and its name, and the
-- transaction ID
abbrev pub head_text : (ℕ → List ℕ) → Header → List ℕ
head_text name header =
    codes "Message(class: " ++ class_name (class_of header.type) ++ codes ", method: "
    ++ numbered_text (method_of header.type) (name (method_of header.type))
    ++ codes ", transaction: " ++ id_text header.id ++ codes ", attributes: ["

-- attributes that are shown, with a comma and a space between them; their values are borrowed from
-- the message
abbrev pub attributes_text : (ℕ → List ℕ → Bool → List ℕ) → List Shown → List ℕ
attributes_text text = with_commas (λ attribute. text attribute.type attribute.value true)

-- a message, by the names of methods, and the texts of attributes by their types, their values and
-- whether these are borrowed: its header, and the attributes that it shows
abbrev pub text_by : (ℕ → List ℕ) → (ℕ → List ℕ → Bool → List ℕ) → List ℕ → List ℕ
text_by name text d =
    head_text name (header_of d) ++ attributes_text text (shown d) ++ codes "])"

-- a message as the library itself prints it
abbrev pub message_text : List ℕ → List ℕ
message_text = text_by method_name attribute_text
