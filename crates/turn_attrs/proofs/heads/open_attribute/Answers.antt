use Rattle.std.proofs.Common.{◌+◌, ◌-◌, arith}
use Rattle.turn_attrs.proofs.HeadsLemmas.{opened_is}
use Rattle.turn_attrs.proofs.heads.open_attribute.Goals as goal

pub returns : goal.returns
returns c =
    opened_is c.args.message.now c.copy_at.new.message c.copy_at-2.new.message c.value_header-header.result c.to_be_bytes-stated.result c.args.len c.args.atype.0 c.args.data_length (c.args.len + 4 + c.pad_attribute_len.result - 20)
    c.requires.header c.requires.room c.value_header-header.ensures (omega (arith, c.pad_attribute_len.ensures)) c.to_be_bytes-stated.ensures c.copy_at.ensures c.copy_at-2.ensures
