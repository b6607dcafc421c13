use Rattle.std.proofs.Common.{ap, ◌∙◌, ◌++◌, ◌+◌, ℕ, [], drop, arith}
use Rattle.std.specs.Net.Socket.{socket_ip}
use Rattle.stun_grammar.specs.Writing.{message_encoding}
use Rattle.stun_attributes.specs.Kinds.{xored_of}
use Rattle.turn_server.proofs.IcmpLemmas.{few_octets, address_length, address_grown, value_grown, indication_is}
use Rattle.turn_server.proofs.icmp.write_indication.Goals as goal

pub append_encoded-requires-clause-room : goal.append_encoded-requires-clause-room
append_encoded-requires-clause-room c =
    let x = xored_of c.new-address.result in
    let length_is = address_length c.args.id c.args.peer x c.new-address.ensures c.octets_are_counted.ensures in
    omega (arith, address_grown c.args.id c.args.peer x c.new-address.ensures c.octets_are_counted.ensures, length_is, few_octets (socket_ip c.args.peer), c.requires.room, c.write_message_header.auto.slice)

pub append_encoded-requires-clause-fits : goal.append_encoded-requires-clause-fits
append_encoded-requires-clause-fits c =
    let x = xored_of c.new-address.result in
    let length_is = address_length c.args.id c.args.peer x c.new-address.ensures c.octets_are_counted.ensures in
    omega (arith, address_grown c.args.id c.args.peer x c.new-address.ensures c.octets_are_counted.ensures, length_is, few_octets (socket_ip c.args.peer))

pub append_value-requires-clause-room : goal.append_value-requires-clause-room
append_value-requires-clause-room c =
    let x = xored_of c.new-address.result in
    let length_is = address_length c.args.id c.args.peer x c.new-address.ensures c.octets_are_counted.ensures in
    omega (arith, value_grown (24 + c.value_length.result) c.args.value.now c.requires.value, c.value_length.ensures, length_is, few_octets (socket_ip c.args.peer), c.requires.room, c.write_message_header.auto.slice, c.append_encoded.auto.message)

pub append_value-requires-clause-fits : goal.append_value-requires-clause-fits
append_value-requires-clause-fits c =
    let x = xored_of c.new-address.result in
    let length_is = address_length c.args.id c.args.peer x c.new-address.ensures c.octets_are_counted.ensures in
    omega (arith, value_grown (24 + c.value_length.result) c.args.value.now c.requires.value, c.value_length.ensures, length_is, few_octets (socket_ip c.args.peer))

pub returns-clause-text : goal.returns-clause-text
returns-clause-text c =
    indication_is c.args.id c.args.peer (xored_of c.new-address.result) c.args.message.now c.write_message_header.new.slice c.append_encoded.new.message c.append_value.new.message c.args.value.now (24 + c.value_length.result)
    c.new-address.ensures c.octets_are_counted.ensures (ap (λ (k : ℕ). 24 + k) c.value_length.ensures) c.requires.value
    (c.write_message_header.ensures ∙ ap (λ (k : ℕ). message_encoding k c.args.id [] ++ drop 20 c.args.message.now) c.from_class_method-mtype.ensures)
    c.append_encoded.ensures c.append_value.ensures

pub returns-clause-bound : goal.returns-clause-bound
returns-clause-bound c =
    let x = xored_of c.new-address.result in
    let length_is = address_length c.args.id c.args.peer x c.new-address.ensures c.octets_are_counted.ensures in
    omega (arith, c.value_length.ensures, length_is, few_octets (socket_ip c.args.peer))
