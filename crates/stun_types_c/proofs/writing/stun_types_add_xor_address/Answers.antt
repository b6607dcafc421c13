use Rattle.std.proofs.Common.{◌≡◌, false, sym, ap, ◌∙◌}
use Rattle.stun_grammar.specs.Headers.{id_field}
use Rattle.stun_base.specs.MessageTypes.{Header}
use Rattle.stun_types_c.specs.Addresses.{is_plain_type}
use Rattle.stun_types_c.proofs.XoredLemmas.{xored_added}
use Rattle.stun_types_c.proofs.writing.stun_types_add_xor_address.Goals as goal

pub returns : goal.returns
returns c =
    let id-is : c.transaction_id.result ≡ id_field c.args.room.now = c.transaction_id.ensures ∙ ap (λ (h : Header). h.id) c.in-Some-Ok.ensures'.1 in
    let other : is_plain_type c.args.atype ≡ false = sym c.is_plain_type.ensures ∙ c.if-is_plain_type.false in
    xored_added c.args.address.now c.in-Some-Ok.addr c.xor_addr-xored.result c.args.atype c.transaction_id.result c.add_socket.result
    (record { slice = c.args.room.now; count = c.args.written.now }) (record { slice = c.add_socket.new.room; count = c.add_socket.new.written })
    other c.in-Some-Ok.ensures.named c.in-Some-Ok.ensures'.0 id-is c.xor_addr-xored.ensures.xored c.add_socket.ensures
