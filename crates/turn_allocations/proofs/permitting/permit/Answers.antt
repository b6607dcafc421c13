use Rattle.std.proofs.Common.{length, arith}
use Rattle.std.proofs.lemmas.Bool.{lt-ltb, le-ltb}
use Rattle.turn_machine.specs.Events.{most_peers}
use Rattle.turn_slots.specs.Users.{user_number}
use Rattle.turn_allocations.specs.Setups.{rules_of}
use Rattle.turn_allocations.proofs.GrantingLemmas.{not_owner, mine_by, permit_owner, permit_many, permit_refused, permit_serves, second_room}
use Rattle.turn_allocations.proofs.permitting.permit.Goals as goal

pub permit_in-requires-2 : goal.permit_in-requires-2
permit_in-requires-2 g c = (
  omega arith,
  second_room c.args.relays.now c.requires.owns.0 c.args.client.now c.requires.owns.1 c.args.peers.now g.row.P
      (c.permit_fault.ensures.room c.in_default-permit_fault.is) c.permit_in.new.relays c.permit_in.ensures.permits,
)

pub returns-in-Some-clause-serves : goal.returns-in-Some-clause-serves
returns-in-Some-clause-serves g c = λ setup tuple ended most owns.
    permit_owner setup (rules_of (g.A.PeerPolicy.allows_address c.args.policy.now) (g.A.PeerPolicy.allows_port c.args.policy.now)) c.args.relays.now tuple (user_number c.args.user)
    c.owner_fault.result (λ others. c.owner_fault.ensures c.args.relays.now tuple others owns) ended
    c.args.peers.now c.in-Some.refusal c.in-Some.is

pub returns-then-peers-gt-PEERS_MAX-clause-serves : goal.returns-then-peers-gt-PEERS_MAX-clause-serves
returns-then-peers-gt-PEERS_MAX-clause-serves g c = λ setup tuple ended most owns.
    permit_many setup (rules_of (g.A.PeerPolicy.allows_address c.args.policy.now) (g.A.PeerPolicy.allows_port c.args.policy.now)) c.args.relays.now tuple (user_number c.args.user)
    c.owner_fault.result (λ others. c.owner_fault.ensures c.args.relays.now tuple others owns) ended
    c.args.peers.now c.in_default.is (lt-ltb most_peers (length c.args.peers.now) c.if-peers-gt-PEERS_MAX.true)

pub returns-in-Some-permit_fault-clause-serves : goal.returns-in-Some-permit_fault-clause-serves
returns-in-Some-permit_fault-clause-serves g c = λ setup tuple ended most owns.
    let rules = rules_of (g.A.PeerPolicy.allows_address c.args.policy.now) (g.A.PeerPolicy.allows_port c.args.policy.now) in
    let user = user_number c.args.user in
    let t = c.args.relays.now in
    let mine = mine_by setup rules t tuple user c.owner_fault.result (λ others. c.owner_fault.ensures t tuple others owns) ended c.in_default.is in
    permit_refused setup rules t tuple user c.owner_fault.result (λ others. c.owner_fault.ensures t tuple others owns) ended
    c.args.peers.now c.in_default.is (le-ltb most_peers (length c.args.peers.now) c.if-peers-gt-PEERS_MAX.false)
    c.permit_fault.result (c.permit_fault.ensures.rows setup tuple user most owns mine) c.in-Some-permit_fault.refusal c.in-Some-permit_fault.is

pub returns-clause-serves : goal.returns-clause-serves
returns-clause-serves g c = λ setup tuple ended most owns.
    let rules = rules_of (g.A.PeerPolicy.allows_address c.args.policy.now) (g.A.PeerPolicy.allows_port c.args.policy.now) in
    let user = user_number c.args.user in
    let t = c.args.relays.now in
    let own = not_owner setup rules t tuple user c.owner_fault.result (λ others. c.owner_fault.ensures t tuple others owns) ended c.in_default.is in
    let mine = mine_by setup rules t tuple user c.owner_fault.result (λ others. c.owner_fault.ensures t tuple others owns) ended c.in_default.is in
    permit_serves c.list_follows_slots.ensures c.lists_have_slots.ensures setup rules t tuple user c.args.client.now owns own
    c.requires.sound c.args.peers.now (le-ltb most_peers (length c.args.peers.now) c.if-peers-gt-PEERS_MAX.false)
    c.permit_fault.result c.in_default-permit_fault.is (c.permit_fault.ensures.rows setup tuple user most owns mine)
    c.permit_in.new.relays c.permit_in-2.new.relays c.permit_in.ensures.permits c.permit_in-2.ensures.permits ended

pub returns-clause-sound : goal.returns-clause-sound
returns-clause-sound g c = c.permit_in-2.ensures.sound (c.permit_in.ensures.sound c.requires.sound)
