use Rattle.stun_types_c.proofs.address.read_xored.Goals as goal

pub returns-in-Ok : goal.returns-in-Ok
returns-in-Ok c =
    rw c.in-Ok.ensures.spells.0
    (c.plain.ensures, (c.xor_addr.result, (rw c.in-Ok.ensures.stands at c.xor_addr.ensures.xored, c.in_c.ensures)))
