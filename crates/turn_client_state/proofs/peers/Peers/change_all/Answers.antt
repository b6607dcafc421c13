use Rattle.std.proofs.Common.{◌≡◌, ◌++◌, List, length, map, take, drop, reverse, ap, ◌∙◌, sym, subst, rules}
use Rattle.std.proofs.lemmas.List.{length-map}
use Rattle.turn_client_machine.specs.declared.peers.Peer.{Peer}
use Rattle.turn_client_machine.specs.Bounds.{AreNumbered}
use Rattle.turn_client_machine.specs.Responses.{changed_if}
use Rattle.turn_client_state.specs.Lookups.{test_of, changed_by}
use Rattle.turn_client_state.specs.Peers.{PeerList}
use Rattle.turn_client_state.proofs.ListsLemmas.{reverse_map, take_written}
use Rattle.turn_client_state.proofs.NumbersLemmas.{numbered_each}
use Rattle.turn_client_state.proofs.peers.Peers.change_all.Goals as goal

pub invariant_of-self : goal.invariant_of-self
invariant_of-self c =
    let items = c.self.inside.items.items in
    let test = test_of c.args.sought.now in
    let change = changed_if test (changed_by c.args.by.now) in
    let is : c.change_each.new.peers ≡ map {B = Peer} change items = search rules in
    let length_is : length c.change_each.new.peers ≡ length items = ap (λ (ps : List Peer). length ps) is ∙ length-map items change in
    let all : c.self.inside.items.len ≡ length items = search rules in
    let written = sym is ∙ take_written c.change_each.new.peers items c.self.inside.items.len length_is all in
    record {
      room = c.self.invariant.room;
      few = c.self.invariant.few;
      numbered = subst AreNumbered (sym (reverse_map change items) ∙ ap (λ (ps : List Peer). reverse ps) written) (numbered_each test c.args.by.now (reverse items) c.self.invariant.numbered);
    }

pub returns : goal.returns
returns c =
    let items = c.self.inside.items.items in
    let test = test_of c.args.sought.now in
    let change = changed_if test (changed_by c.args.by.now) in
    let is : c.change_each.new.peers ≡ map {B = Peer} change items = search rules in
    let length_is : length c.change_each.new.peers ≡ length items = ap (λ (ps : List Peer). length ps) is ∙ length-map items change in
    let all : c.self.inside.items.len ≡ length items = search rules in
    let after = take c.self.inside.items.len (c.change_each.new.peers ++ drop (length c.change_each.new.peers) items) in
    let written : map {B = Peer} change items ≡ after = sym is ∙ take_written c.change_each.new.peers items c.self.inside.items.len length_is all in
    let reversed : reverse after ≡ map {B = Peer} change (reverse items) = ap (λ (ps : List Peer). reverse ps) (sym written) ∙ reverse_map change items in
    let new : PeerList = record { most = c.self.inside.most; list = reverse after } in
    subst (λ (z : PeerList). new ≡ record { most = z.most; list = map {B = Peer} change z.list }) c.self.view_is
    (ap (λ (ps : List Peer). let z : PeerList = record { most = c.self.inside.most; list = ps } in z) reversed)
