use Rattle.std.proofs.Common.{◌≡◌, false, sym, ◌∙◌}
use Rattle.stun_types_c.specs.Addresses.{is_xored_type}
use Rattle.stun_types_c.proofs.XoredLemmas.{plain_added}
use Rattle.stun_types_c.proofs.writing.stun_types_add_address.Goals as goal

pub returns : goal.returns
returns c =
    let other : is_xored_type c.args.atype ≡ false = sym c.is_xored_type.ensures ∙ c.if-is_xored_type.false in
    plain_added c.args.address.now c.in-Some.addr c.args.atype c.add_socket.result
    (record { slice = c.args.room.now; count = c.args.written.now }) (record { slice = c.add_socket.new.room; count = c.add_socket.new.written })
    other c.in-Some.ensures.named c.add_socket.ensures
