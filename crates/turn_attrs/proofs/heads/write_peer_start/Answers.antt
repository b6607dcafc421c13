use Rattle.std.proofs.Common.{ap, ◌∙◌, ◌++◌, ◌+◌, ℕ, [], drop, arith}
use Rattle.std.specs.Net.Socket.{socket_ip}
use Rattle.stun_grammar.specs.Writing.{message_encoding}
use Rattle.stun_attributes.specs.Kinds.{xored_of}
use Rattle.turn_attrs.proofs.HeadsLemmas.{few_octets, octets_kept, start_is}
use Rattle.turn_attrs.proofs.heads.write_peer_start.Goals as goal

pub append_encoded-requires-clause-room : goal.append_encoded-requires-clause-room
append_encoded-requires-clause-room c =
    omega (arith, octets_kept c.args.id c.args.peer (xored_of c.new-address.result) c.new-address.ensures c.requires.octets, c.requires.room, c.write_message_header.auto.slice)

pub append_encoded-requires-clause-fits : goal.append_encoded-requires-clause-fits
append_encoded-requires-clause-fits c =
    omega (arith, octets_kept c.args.id c.args.peer (xored_of c.new-address.result) c.new-address.ensures c.requires.octets, few_octets (socket_ip c.args.peer))

pub open_attribute-requires-clause-room : goal.open_attribute-requires-clause-room
open_attribute-requires-clause-room c =
    omega (arith, octets_kept c.args.id c.args.peer (xored_of c.new-address.result) c.new-address.ensures c.requires.octets, c.value_length.ensures, c.requires.room, c.write_message_header.auto.slice, c.append_encoded.auto.message)

pub open_attribute-requires-clause-fits : goal.open_attribute-requires-clause-fits
open_attribute-requires-clause-fits c =
    omega (arith, octets_kept c.args.id c.args.peer (xored_of c.new-address.result) c.new-address.ensures c.requires.octets, c.value_length.ensures, c.requires.fits)

pub returns : goal.returns
returns c =
    start_is c.args.method c.args.id c.args.data_length c.args.peer (xored_of c.new-address.result) c.args.head.now c.write_message_header.new.slice c.append_encoded.new.message c.open_attribute.new.message (24 + c.value_length.result)
    c.new-address.ensures c.requires.octets (ap (λ (k : ℕ). 24 + k) c.value_length.ensures)
    (c.write_message_header.ensures ∙ ap (λ (k : ℕ). message_encoding k c.args.id [] ++ drop 20 c.args.head.now) c.from_class_method-mtype.ensures)
    c.append_encoded.ensures c.open_attribute.ensures
