use Rattle.std.proofs.Common.{◌≡◌, ℕ, ◌-◌, List, None, Some, length, reverse, set, ap, sym, subst, rules}
use Rattle.std.specs.List.{position}
use Rattle.turn_client_machine.specs.declared.peers.Peer.{Peer}
use Rattle.turn_client_machine.specs.Bounds.{AreNumbered}
use Rattle.turn_client_machine.specs.Responses.{changed_first}
use Rattle.turn_client_state.specs.Lookups.{test_of, changed_by}
use Rattle.turn_client_state.specs.Peers.{PeerList}
use Rattle.turn_client_state.proofs.ListsLemmas.{changed_in_place, changed_none}
use Rattle.turn_client_state.proofs.NumbersLemmas.{no_peer, numbered_by}
use Rattle.turn_client_state.proofs.peers.Peers.change.Goals as goal

pub invariant_of-self : goal.invariant_of-self
invariant_of-self c =
    let items = c.self.inside.items.items in
    let test = test_of c.args.sought.now in
    let change = changed_by c.args.by.now in
    let place = c.len.result - 1 - c.in-Some.newer in
    let at : position test (reverse items) ≡ Some c.in-Some.newer = search rules in
    let all : c.len.result ≡ length items = search rules in
    let is : reverse (set items place c.make_change.result) ≡ changed_first test change (reverse items) =
    changed_in_place test change items c.in-Some.newer place c.index.result.now c.make_change.result at (ap (λ (n : ℕ). n - 1 - c.in-Some.newer) all) c.index.ensures c.make_change.ensures in
    record {
      room = c.self.invariant.room;
      few = c.self.invariant.few;
      numbered = subst AreNumbered (sym is) (numbered_by test c.args.by.now (reverse items) c.self.invariant.numbered);
    }

pub returns-in-Some : goal.returns-in-Some
returns-in-Some c =
    let items = c.self.inside.items.items in
    let test = test_of c.args.sought.now in
    let change = changed_by c.args.by.now in
    let place = c.len.result - 1 - c.in-Some.newer in
    let at : position test (reverse items) ≡ Some c.in-Some.newer = search rules in
    let all : c.len.result ≡ length items = search rules in
    let is : reverse (set items place c.make_change.result) ≡ changed_first test change (reverse items) =
    changed_in_place test change items c.in-Some.newer place c.index.result.now c.make_change.result at (ap (λ (n : ℕ). n - 1 - c.in-Some.newer) all) c.index.ensures c.make_change.ensures in
    let new : PeerList = record { most = c.self.inside.most; list = reverse (set items place c.make_change.result) } in
    subst (λ (z : PeerList). new ≡ record { most = z.most; list = changed_first test change z.list }) c.self.view_is
    (ap (λ (ps : List Peer). let z : PeerList = record { most = c.self.inside.most; list = ps } in z) is)

pub returns-in_default : goal.returns-in_default
returns-in_default c =
    let items = c.self.inside.items.items in
    let test = test_of c.args.sought.now in
    let change = changed_by c.args.by.now in
    let none : position test (reverse items) ≡ None = search rules in
    subst (λ (z : PeerList). z ≡ record { most = z.most; list = changed_first test change z.list }) c.self.view_is
    (ap (λ (ps : List Peer). let z : PeerList = record { most = c.self.inside.most; list = ps } in z) (sym (changed_none test change (reverse items) no_peer none)))
