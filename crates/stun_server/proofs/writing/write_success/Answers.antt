use Rattle.std.proofs.Common.{arith}
use Rattle.stun_attributes.specs.Kinds.{xored_of}
use Rattle.stun_types.specs.Message.{message_bytes}
use Rattle.stun_server.proofs.SizesLemmas.{address_short}
use Rattle.stun_server.proofs.InSliceLemmas.{success_size, success_in, success_long}
use Rattle.stun_server.proofs.writing.write_success.Goals as goal

pub write_header-len-requires : goal.write_header-len-requires
write_header-len-requires c = omega (arith, success_long c.args.source (message_bytes c.args.request.now), c.requires.room)

pub append-len-requires-clause-room : goal.append-len-requires-clause-room
append-len-requires-clause-room c =
    let size = success_size c.args.source (xored_of c.new-mapped.result) (message_bytes c.args.request.now) c.transaction_id.result c.transaction_id.ensures c.new-mapped.ensures in
    omega (arith, size, c.requires.room, c.write_header-len.auto.slice, c.write_header-len.ensures.length)

pub append-len-requires-clause-fits : goal.append-len-requires-clause-fits
append-len-requires-clause-fits c = omega (arith, address_short _ _ _ c.new-mapped.ensures, c.write_header-len.ensures.length)

pub append-requires-clause-room : goal.append-requires-clause-room
append-requires-clause-room c =
    let size = success_size c.args.source (xored_of c.new-mapped.result) (message_bytes c.args.request.now) c.transaction_id.result c.transaction_id.ensures c.new-mapped.ensures in
    omega (arith, size, c.requires.room, c.write_header-len.auto.slice, c.append-len.auto.slice, c.write_header-len.ensures.length, c.append-len.ensures.length)

pub append-requires-clause-fits : goal.append-requires-clause-fits
append-requires-clause-fits c =
    omega (arith, address_short _ _ _ c.new-mapped.ensures, c.write_header-len.ensures.length, c.append-len.ensures.length)

pub returns-clause-length : goal.returns-clause-length
returns-clause-length c =
    let size = success_size c.args.source (xored_of c.new-mapped.result) (message_bytes c.args.request.now) c.transaction_id.result c.transaction_id.ensures c.new-mapped.ensures in
    omega (arith, size, c.write_header-len.ensures.length, c.append-len.ensures.length, c.append.ensures.length)

pub returns-clause-slice : goal.returns-clause-slice
returns-clause-slice c =
    success_in c.args.source (xored_of c.new-mapped.result) (message_bytes c.args.request.now) c.args.slice.now c.write_header-len.new.slice c.append-len.new.slice c.append.new.slice c.transaction_id.result c.write_header-len.result c.append-len.result
    c.transaction_id.ensures c.new-mapped.ensures c.write_header-len.ensures.length c.append-len.ensures.length c.write_header-len.ensures.slice c.append-len.ensures.slice c.append.ensures.slice
