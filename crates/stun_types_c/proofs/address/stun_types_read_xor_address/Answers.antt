use Rattle.std.proofs.Common.{◌≡◌, false, sym, ap, ◌∙◌}
use Rattle.stun_grammar.specs.Headers.{id_field}
use Rattle.stun_base.specs.MessageTypes.{Header}
use Rattle.stun_types_c.specs.Addresses.{is_plain_type}
use Rattle.stun_types_c.proofs.address.stun_types_read_xor_address.Goals as goal

pub returns-in-Ok : goal.returns-in-Ok
returns-in-Ok c =
    let id-is : c.transaction_id.result ≡ id_field c.args.bytes.now = c.transaction_id.ensures ∙ ap (λ (h : Header). h.id) c.in-Ok.ensures.1 in
    let other : is_plain_type c.args.attribute.now.atype ≡ false = sym c.is_plain_type.ensures ∙ c.if-is_plain_type.false in
    rw (other, c.value_in.ensures, c.in-Some.is, c.in-Ok.ensures.0, ← id-is) c.read_xored.ensures
