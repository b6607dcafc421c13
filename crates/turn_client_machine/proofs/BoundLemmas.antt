-- A channel that the client still has is found by its number.
use Rattle.std.proofs.Common.{◌≡◌, ℕ, ◌+◌, ◌<◌, inl, inr, true, ◌&&◌, ◌||◌, List, [], ◌∷◌, Some, sym, subst, ◌∙◌, arith, find, length, eqb-true}
use Rattle.std.specs.List.{list_any}
use Rattle.std.specs.Prelude.{◌==◌, nat_lt}
use Rattle.std.proofs.lemmas.Bool.{cond-true, cond-false, and_from, and_left, and_parts, or_cases, or_left, or_right, ne_eqb}
use Rattle.stun_endpoints.proofs.AddressesLemmas.{endpoint_same}
use Rattle.turn_client_machine.specs.Clients.{Endpoint, Peer, is_peer, is_permitted, is_binding, hears}
use Rattle.turn_client_machine.specs.Bounds.{AreNumbered}
use Rattle.turn_client_machine.specs.Reach.{is_settled}
use Rattle.turn_client_machine.proofs.ListsLemmas.{AnyOf}

pub record IsNumbered (number : ℕ) (address : Endpoint) (p : Peer) : Type 0 where
  pub number_is : p.number ≡ number
  pub address_is : p.address ≡ address

-- ---- A number is one peer's

below : (number : ℕ) (address : Endpoint) (ps : List Peer) → AreNumbered ps → AnyOf (IsNumbered number address) ps → number < 0x4000 + length ps
below number address [] are some = absurd some
below number address (p ∷ ps) are (inl is) = let place = are.0 in let here = is.number_is in omega (arith, place, here)
below number address (p ∷ ps) are (inr some) = let less = below number address ps are.1.1 some in omega (arith, less)

pub one_peer : (number : ℕ) (one other : Endpoint) (ps : List Peer) → AreNumbered ps → AnyOf (IsNumbered number one) ps → AnyOf (IsNumbered number other) ps → one ≡ other
one_peer number one other [] are some more = absurd some
one_peer number one other (p ∷ ps) are (inl is) (inl same) = sym is.address_is ∙ same.address_is
one_peer number one other (p ∷ ps) are (inl is) (inr more) = let less = below number other ps are.1.1 more in let place = are.0 in let here = is.number_is in absurd (omega (arith, less, place, here))
one_peer number one other (p ∷ ps) are (inr some) (inl is) = let less = below number one ps are.1.1 some in let place = are.0 in let here = is.number_is in absurd (omega (arith, less, place, here))
one_peer number one other (p ∷ ps) are (inr some) (inr more) = one_peer number one other ps are.1.1 some more

settled_numbered : (clock number : ℕ) (address : Endpoint) (ps : List Peer) → list_any (is_settled clock number address) ps ≡ true → AnyOf (IsNumbered number address) ps
settled_numbered clock number address [] some = absurd cc
settled_numbered clock number address (p ∷ ps) some = elim (or_cases (is_settled clock number address p) (list_any (is_settled clock number address) ps) some) [
  | inl here ↦
      let one = and_parts (is_peer address p) ((p.number == number) && (nat_lt clock p.channel_expires_at || is_binding p)) here in
      let two = and_parts (p.number == number) (nat_lt clock p.channel_expires_at || is_binding p) one.1 in
      inl (record { number_is = eqb-true p.number number two.0; address_is = sym (endpoint_same address p.address one.0) })
  | inr more ↦ inr (settled_numbered clock number address ps more)
]

-- the peer that is found by the number is the one that the number is of
pub found_by : (clock number : ℕ) (address : Endpoint) (all ps : List Peer) → list_any (is_permitted clock address.ip) all ≡ true → AreNumbered ps → list_any (is_settled clock number address) ps ≡ true
    → (p : Peer) × (find (hears clock number all) ps ≡ Some p) × (p.address ≡ address)
found_by clock number address all [] permitted are some = absurd cc
found_by clock number address all (p ∷ ps) permitted are some =
    let its = list_any (is_permitted clock p.address.ip) all in
    elim (or_cases (is_settled clock number address p) (list_any (is_settled clock number address) ps) some) [
      | inl here ↦
          let one = and_parts (is_peer address p) ((p.number == number) && (nat_lt clock p.channel_expires_at || is_binding p)) here in
          let two = and_parts (p.number == number) (nat_lt clock p.channel_expires_at || is_binding p) one.1 in
          let same = endpoint_same address p.address one.0 in (
            p,
            cond-true (hears clock number all p) (Some p) (find (hears clock number all) ps) (and_from (p.number == number) (nat_lt clock p.channel_expires_at || (is_binding p && its)) two.0 (elim (or_cases (nat_lt clock p.channel_expires_at) (is_binding p) two.1) [
              | inl less ↦ or_left (nat_lt clock p.channel_expires_at) (is_binding p && its) less
              | inr binding ↦ or_right (nat_lt clock p.channel_expires_at) (is_binding p && its) (and_from (is_binding p) its binding (subst (λ (e : Endpoint). list_any (is_permitted clock e.ip) all ≡ true) same permitted))
            ])),
            sym same,
          )
      | inr rest ↦
          let less = below number address ps are.1.1 (settled_numbered clock number address ps rest) in
          let place = are.0 in
          let more = found_by clock number address all ps permitted are.1.1 rest in
          (more.0, cond-false (hears clock number all p) (Some p) (find (hears clock number all) ps) (and_left (p.number == number) (nat_lt clock p.channel_expires_at || (is_binding p && list_any (is_permitted clock p.address.ip) all)) (ne_eqb p.number number (λ same. omega (arith, same, place, less)))) ∙ more.1, more.2)
    ]
