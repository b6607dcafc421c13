use Rattle.turn_allocations.proofs.OwnLemmas.{all_own}
use Rattle.turn_allocations.proofs.ClientLemmas.{found_is, sound_slots}
use Rattle.turn_allocations.proofs.client.client_of.Goals as goal

pub returns : goal.returns
returns g c =
    let ipv4 = c.place_in.ensures c.args.tuple.now 1 c.find_by_client-ipv4.ensures.ipv4 in
    let ipv6 = c.place_in-2.ensures c.args.tuple.now 2 c.find_by_client-ipv4.ensures.ipv6 in
    record {
      ipv4 = ipv4;
      ipv6 = ipv6;
      all = all_own c.lists_have_slots.ensures c.list_follows_slots.ensures c.args.relays.now.slots c.args.tuple.now c.numbers_are_distinct.ensures
          (sound_slots c.lists_have_slots.ensures c.args.relays.now c.requires)
          (found_is c.args.relays.now c.args.tuple.now 1 c.place_in.result ipv4) (found_is c.args.relays.now c.args.tuple.now 2 c.place_in-2.result ipv6);
    }
