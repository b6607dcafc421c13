-- What an RFC says of an attribute type: its name, the form of its values, and the number of the RFC.
-- Of a type of RFC 8489 this is in sections 14 and 18.3.
use Rattle.std.specs.Prelude.{ℕ, List, Option, Some, None, ◌==◌, if◌then◌else◌}
use Rattle.std.specs.Option.{option_map_or}
use Rattle.stun_grammar.specs.AttributeTypes.{MAPPED_ADDRESS, USERNAME, MESSAGE_INTEGRITY, ERROR_CODE, UNKNOWN_ATTRIBUTES, REALM, NONCE, MESSAGE_INTEGRITY_SHA256, PASSWORD_ALGORITHM, USERHASH, XOR_MAPPED_ADDRESS, PASSWORD_ALGORITHMS, ALTERNATE_DOMAIN, SOFTWARE, ALTERNATE_SERVER, FINGERPRINT}
use Rattle.stun_grammar.specs.Names.{attribute_name}
use Rattle.stun_types.specs.declared.attribute.known.KnownType.{KnownType}
use Rattle.stun_types.specs.declared.attribute.known.ValueForm.{ValueForm}
use Rattle.stun_types.specs.declared.attribute.known.ValueForm.TheVariants.{Octets, Address, XorAddress, Other}

pub record Known : Type 0 where
  pub name : List ℕ
  pub form : ValueForm
  pub rfc : ℕ

abbrev pub facts : KnownType → Known
facts known = record { name = known.name.now; form = known.form; rfc = known.rfc }

-- what an RFC says of one
abbrev pub says : (rfc : ℕ) → List ℕ → ValueForm → Option Known
says rfc name form = Some (record { name = name; form = form; rfc = rfc })

-- the form of the values of a type of RFC 8489: an address (sections 14.1 and 14.15), an address that
-- is XORed (section 14.2), or a checksum (section 14.7)
abbrev pub own_form : ℕ → Option ValueForm
own_form type =
    if type == MAPPED_ADDRESS then Some Address else (
    if type == ALTERNATE_SERVER then Some Address else (
    if type == XOR_MAPPED_ADDRESS then Some XorAddress else (
    if type == FINGERPRINT then Some (Octets 4) else (
    if type == USERNAME then Some Other else (
    if type == MESSAGE_INTEGRITY then Some Other else (
    if type == ERROR_CODE then Some Other else (
    if type == UNKNOWN_ATTRIBUTES then Some Other else (
    if type == REALM then Some Other else (
    if type == NONCE then Some Other else (
    if type == MESSAGE_INTEGRITY_SHA256 then Some Other else (
    if type == PASSWORD_ALGORITHM then Some Other else (
    if type == USERHASH then Some Other else (
    if type == PASSWORD_ALGORITHMS then Some Other else (
    if type == ALTERNATE_DOMAIN then Some Other else (
    if type == SOFTWARE then Some Other else None)))))))))))))))

abbrev pub known_type : ℕ → Option Known
known_type type =
    option_map_or (says 8489 (attribute_name type)) (own_form type) None
