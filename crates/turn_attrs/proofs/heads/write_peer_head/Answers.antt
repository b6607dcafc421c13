use Rattle.std.proofs.Common.{length}
use Rattle.turn_attrs.proofs.HeadsLemmas.{no_fault, has_room, is_short, head_is}
use Rattle.turn_attrs.proofs.heads.write_peer_head.Goals as goal

pub returns-clause-in_place : goal.returns-clause-in_place
returns-clause-in_place c =
    let own = c.data_head_length-own.result in
    let padding = c.padding_of-padding.result in
    let n = c.args.data_length in
    let room = length c.args.before.now in
    let none = c.in_ok-check_head.ensures in (
      no_fault own padding n c.args.greatest room c.args.peer c.data_head_length-own.ensures.value c.padding_of-padding.ensures.value none,
      head_is c.args.method c.args.id n own padding c.args.peer c.args.before.now c.write_peer_start.new.head c.data_head_length-own.ensures.value
          (has_room own padding n c.args.greatest room none) c.padding_of-padding.ensures.value (is_short own padding n c.args.greatest room none) c.write_peer_start.ensures,
    )
