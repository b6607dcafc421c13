-- What the RFCs say of attribute types, and the names of methods: those of RFC 8489, of ICE, of TURN
-- and its extensions (RFC 8656, section 17, and RFC 6062, section 6.1), and of NAT discovery.
use Rattle.std.specs.Prelude.{ℕ, ◌==◌, List, Option, codes, if◌then◌else◌}
use Rattle.std.specs.Option.{option_map, option_map_or, option_or}
use Rattle.stun_grammar.specs.Names.{method_name as own_method_name}
use Rattle.stun_types.specs.declared.attribute.known.ValueForm.{ValueForm}
use Rattle.stun_types.specs.KnownTypes.{Known, known_type as own_type}
use Rattle.ice_attrs.specs.Ice.{known_type as ice_type}
use Rattle.turn_attrs.specs.Turn.{known_type as turn_type}
use Rattle.discovery_attrs.specs.Discovery.{known_type as discovery_type}

-- what is said of a type, by the first of them that has it
abbrev pub known_type : ℕ → Option Known
known_type type =
    option_or (own_type type)
    (option_or (ice_type type) (option_or (turn_type type) (discovery_type type)))

-- the form of its values
abbrev pub value_form : ℕ → Option ValueForm
value_form type = option_map (λ known. known.form) (known_type type)

-- its name, `unknown` if none of them has it
abbrev pub type_name : ℕ → List ℕ
type_name type = option_map_or (λ known. known.name) (known_type type) (codes "unknown")

-- the name of a method
abbrev pub method_name : ℕ → List ℕ
method_name method =
    if method == 3 then codes "ALLOCATE" else (
    if method == 4 then codes "REFRESH" else (
    if method == 6 then codes "SEND" else (
    if method == 7 then codes "DATA" else (
    if method == 8 then codes "CREATE_PERMISSION" else (
    if method == 9 then codes "CHANNEL_BIND" else (
    if method == 10 then codes "CONNECT" else (
    if method == 11 then codes "CONNECTION_BIND" else (
    if method == 12 then codes "CONNECTION_ATTEMPT" else own_method_name method))))))))
