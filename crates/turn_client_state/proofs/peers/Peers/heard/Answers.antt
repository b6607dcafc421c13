use Rattle.std.proofs.Common.{◌≡◌, ◌+◌, ◌-◌, ◌<◌, None, Some, true, false, find, length, reverse, ◌∙◌, sym, subst, arith, rules}
use Rattle.std.specs.Prelude.{option_map}
use Rattle.turn_client_machine.specs.Clients.{hears}
use Rattle.turn_client_machine.specs.declared.peers.Peer.{Peer}
use Rattle.turn_client_state.specs.Lookups.{is_open}
use Rattle.turn_client_state.specs.Peers.{PeerList}
use Rattle.turn_client_state.proofs.NumbersLemmas.{heard_none, heard_one}
use Rattle.turn_client_state.proofs.peers.Peers.heard.Goals as goal

pub returns-then-number-lt16384 : goal.returns-then-number-lt16384
returns-then-number-lt16384 c =
    subst (λ (z : PeerList). None ≡ option_map (λ (p : Peer). p.address) (find (hears c.args.clock c.args.number z.list) z.list)) c.self.view_is
    (sym (heard_none c.args.clock c.args.number c.self.inside.items.items c.self.invariant.numbered (λ place less is. omega (arith, is))))

pub returns-then-number-end : goal.returns-then-number-end
returns-then-number-end c =
    let all : c.len-end.result ≡ length c.self.inside.items.items = search rules in
    subst (λ (z : PeerList). None ≡ option_map (λ (p : Peer). p.address) (find (hears c.args.clock c.args.number z.list) z.list)) c.self.view_is
    (sym (heard_none c.args.clock c.args.number c.self.inside.items.items c.self.invariant.numbered (λ place less is. omega (arith, is, less, all))))

pub returns-then-is_open : goal.returns-then-is_open
returns-then-is_open c =
    let items = c.self.inside.items.items in
    let all : c.len-end.result ≡ length items = search rules in
    let p = c.index-peer.result.now in
    let is : c.args.number ≡ 0x4000 + (c.args.number - 0x4000) = omega arith in
    let less : c.args.number - 0x4000 < length items = omega (arith, all) in
    let heard : true ≡ is_open c.args.clock (reverse items) p = subst (λ (z : PeerList). true ≡ is_open c.args.clock z.list p) (sym c.self.view_is) (sym c.if-is_open.true ∙ c.is_open.ensures) in
    subst (λ (z : PeerList). Some p.address ≡ option_map (λ (q : Peer). q.address) (find (hears c.args.clock c.args.number z.list) z.list)) c.self.view_is
    (sym (heard_one c.args.clock c.args.number (c.args.number - 0x4000) items p true c.self.invariant.numbered is less c.index-peer.ensures heard))

pub returns-else-is_open : goal.returns-else-is_open
returns-else-is_open c =
    let items = c.self.inside.items.items in
    let all : c.len-end.result ≡ length items = search rules in
    let p = c.index-peer.result.now in
    let is : c.args.number ≡ 0x4000 + (c.args.number - 0x4000) = omega arith in
    let less : c.args.number - 0x4000 < length items = omega (arith, all) in
    let heard : false ≡ is_open c.args.clock (reverse items) p = subst (λ (z : PeerList). false ≡ is_open c.args.clock z.list p) (sym c.self.view_is) (sym c.if-is_open.false ∙ c.is_open.ensures) in
    subst (λ (z : PeerList). None ≡ option_map (λ (q : Peer). q.address) (find (hears c.args.clock c.args.number z.list) z.list)) c.self.view_is
    (sym (heard_one c.args.clock c.args.number (c.args.number - 0x4000) items p false c.self.invariant.numbered is less c.index-peer.ensures heard))
