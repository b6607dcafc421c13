use Rattle.std.proofs.Common.{◌≡◌, ◌++◌, ◌∷◌, [], rules, List, ap, ◌∙◌}
use Rattle.std.specs.Prelude.{map}
use Rattle.stun_grammar.specs.Headers.{id_field}
use Rattle.stun_grammar.specs.Showing.{shown}
use Rattle.stun_types.specs.Iterating.{items_left}
use Rattle.stun_types.specs.Message.{message_bytes}
use Rattle.stun_endpoints.specs.declared.endpoints.Endpoint.{Endpoint}
use Rattle.turn_server.specs.Addresses.{peer_in}
use Rattle.turn_server.specs.Peers.{peer_items}
use Rattle.turn_server.proofs.PeersLemmas.{all_sound, all_left, takes, passes}
use Rattle.turn_server.proofs.peers.collected.Goals as goal
use Rattle.turn_server.proofs.peers.collected.Goals.{then-value-eq-XOR_PEER_ADDRESS+in-Some-read_peer+else-is_err, else-value-eq-XOR_PEER_ADDRESS}

pub walk-init : goal.walk-init
walk-init c =
    let d = message_bytes c.args.request.now in
    let items = c.iter_attributes-attributes.ensures.items in (
      all_sound (shown d) _ items c.requires,
      ap (λ (before : List Endpoint). before ++ map (peer_in c.transaction_id-id.result) (peer_items (items_left c.iter_attributes-attributes.result))) c.new-peers.ensures
          ∙ rw c.transaction_id-id.ensures (all_left (id_field d) (shown d) _ items),
    )

pub walk-preserved-after-value-eq-XOR_PEER_ADDRESS :
    goal.walk-preserved-after-value-eq-XOR_PEER_ADDRESS
walk-preserved-after-value-eq-XOR_PEER_ADDRESS c =
    elim c.if-value-eq-XOR_PEER_ADDRESS.branch [
      | then-value-eq-XOR_PEER_ADDRESS+in-Some-read_peer+else-is_err w ↦
          let pushed : c.if-value-eq-XOR_PEER_ADDRESS.peers.items ≡ c.walk.peers.items ++ w.in-Some-read_peer.peer ∷ [] = search rules in
          let it = takes c.transaction_id-id.result _ _ _ w.in-Some-read_peer.peer c.walk.peers.items _ c.walk.invariant.0 c.walk.invariant.1 c.in-Some.ensures.steps (search rules) (search rules) in
          (it.0, ap (λ (before : List Endpoint). before ++ map (peer_in c.transaction_id-id.result) (peer_items (items_left c.next.new.self))) pushed ∙ it.1)
      | else-value-eq-XOR_PEER_ADDRESS w ↦
          let same : c.if-value-eq-XOR_PEER_ADDRESS.peers.items ≡ c.walk.peers.items = search rules in
          let it = passes c.transaction_id-id.result _ _ _ c.walk.peers.items _ c.walk.invariant.0 c.walk.invariant.1 c.in-Some.ensures.steps (search rules) in
          (it.0, ap (λ (before : List Endpoint). before ++ map (peer_in c.transaction_id-id.result) (peer_items (items_left c.next.new.self))) same ∙ it.1)
    ]

pub walk-preserved : goal.walk-preserved
walk-preserved c =
    elim c.if-value-eq-XOR_PEER_ADDRESS.branch [
      | then-value-eq-XOR_PEER_ADDRESS+in-Some-read_peer+else-is_err w ↦
          let pushed : c.if-value-eq-XOR_PEER_ADDRESS.peers.items ≡ c.walk.peers.items ++ w.in-Some-read_peer.peer ∷ [] = search rules in
          let it = takes c.transaction_id-id.result _ _ _ w.in-Some-read_peer.peer c.walk.peers.items _ c.walk.invariant.0 c.walk.invariant.1 c.in-Some.ensures.steps (search rules) (search rules) in
          (it.0, ap (λ (before : List Endpoint). before ++ map (peer_in c.transaction_id-id.result) (peer_items (items_left c.next.new.self))) pushed ∙ it.1)
      | else-value-eq-XOR_PEER_ADDRESS w ↦
          let same : c.if-value-eq-XOR_PEER_ADDRESS.peers.items ≡ c.walk.peers.items = search rules in
          let it = passes c.transaction_id-id.result _ _ _ c.walk.peers.items _ c.walk.invariant.0 c.walk.invariant.1 c.in-Some.ensures.steps (search rules) in
          (it.0, ap (λ (before : List Endpoint). before ++ map (peer_in c.transaction_id-id.result) (peer_items (items_left c.next.new.self))) same ∙ it.1)
    ]
