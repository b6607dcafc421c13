use Rattle.turn_slots.specs.declared.relay_key.RelayKey.{RelayKey}
use Rattle.turn_relays.proofs.SlotsLemmas.{key_some, key_none, key_only}
use Rattle.turn_relays.proofs.relays.Relays.find_by_client.Goals as goal

pub returns-clause-ipv4 : goal.returns-clause-ipv4
returns-clause-ipv4 g c =
    let key : RelayKey = record { tuple = c.args.tuple.now; family = 1 } in
    let it = c.find_by_client.ensures.ipv4 in
    rw (← c.self.view_is) (record {
      some = key_some key c.self.inside.slots.entries c.self.inside.kept.items c.self.invariant.table.beside c.find_by_client.result.0 it.some;
      none = key_none key c.self.inside.slots.entries c.self.inside.kept.items c.find_by_client.result.0 it.none;
      only = key_only key c.self.inside.slots.entries c.self.inside.kept.items c.find_by_client.result.0 it.only;
    })

pub returns-clause-ipv6 : goal.returns-clause-ipv6
returns-clause-ipv6 g c =
    let key : RelayKey = record { tuple = c.args.tuple.now; family = 2 } in
    let it = c.find_by_client.ensures.ipv6 in
    rw (← c.self.view_is) (record {
      some = key_some key c.self.inside.slots.entries c.self.inside.kept.items c.self.invariant.table.beside c.find_by_client.result.1 it.some;
      none = key_none key c.self.inside.slots.entries c.self.inside.kept.items c.find_by_client.result.1 it.none;
      only = key_only key c.self.inside.slots.entries c.self.inside.kept.items c.find_by_client.result.1 it.only;
    })
