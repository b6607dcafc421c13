-- One pass over the peers decides how data is sent: the peers that are newer than the newest with a
-- permission have no channel.
use Rattle.std.proofs.Common.{◌≡◌, ℕ, suc, ◌+◌, ◌-◌, ◌<◌, ◌≤◌, Bool, true, false, List, [], ◌∷◌, ◌++◌, length, reverse, take, drop, get_or, ◌&&◌, ◌||◌, find, Option, None, Some, refl, sym, ap, ◌∙◌, arith}
use Rattle.std.specs.Prelude.{nat_lt, ◌==◌, if◌then◌else◌, option_map}
use Rattle.std.specs.List.{list_any, position, position_or_len}
use Rattle.std.specs.Option.{option_map_or}
use Rattle.std.proofs.lemmas.Bool.{cond-false, ltb-false}
use Rattle.std.proofs.lemmas.List.{length-drop, length-reverse, reverse-append, take-append-drop}
use Rattle.std.proofs.lemmas.List.Folds.{list_any_at}
use Rattle.std.proofs.lemmas.List.Quantifiers.{position-Some}
use Rattle.std.proofs.lemmas.List.Sums.{fails_before_first}
use Rattle.stun_endpoints.specs.declared.endpoints.Endpoint.{Endpoint}
use Rattle.turn_client_machine.specs.declared.peers.Peer.{Peer}
use Rattle.turn_client_machine.specs.Clients.{has_channel, is_ip, is_permitted, seconds}
use Rattle.turn_client_state.specs.declared.data.Way.{Way}
use Rattle.turn_client_state.specs.declared.data.Way.TheVariants.{Channel, Indication}
use Rattle.turn_client_state.specs.States.{way_among}
use Rattle.turn_client_state.proofs.ListsLemmas.{none_of}
use Rattle.turn_client_state.proofs.NumbersLemmas.{no_peer}

-- ---- The first that passes

-- it is past those that fail
found_after : {X : Type 0} (q : X → Bool) (xs ys : List X) (d : X) → ((k : ℕ) → k < length xs → q (get_or (xs ++ ys) k d) ≡ false) → find q (xs ++ ys) ≡ find q ys
found_after q [] ys d fails = refl
found_after q (x ∷ xs) ys d fails =
    cond-false (q x) (Some x) (find q (xs ++ ys)) (fails 0 (omega arith))
    ∙ found_after q xs ys d (λ k less. fails (suc k) (omega (arith, less)))

none_found : {X : Type 0} (q : X → Bool) (xs : List X) (d : X) → ((k : ℕ) → k < length xs → q (get_or xs k d) ≡ false) → find q xs ≡ None
none_found q [] d fails = refl
none_found q (x ∷ xs) d fails =
    cond-false (q x) (Some x) (find q xs) (fails 0 (omega arith))
    ∙ none_found q xs d (λ k less. fails (suc k) (omega (arith, less)))

none_of_any : {X : Type 0} (p : X → Bool) (xs : List X) (d : X) → ((k : ℕ) → k < length xs → p (get_or xs k d) ≡ false) → list_any p xs ≡ false
none_of_any p [] d fails = refl
none_of_any p (x ∷ xs) d fails =
    ap (λ (b : Bool). b || list_any p xs) (fails 0 (omega arith))
    ∙ none_of_any p xs d (λ k less. fails (suc k) (omega (arith, less)))

-- the oldest of a list, in reverse
split_at : {X : Type 0} (xs : List X) (k : ℕ) → reverse xs ≡ reverse (drop k xs) ++ reverse (take k xs)
split_at xs k = ap reverse (sym (take-append-drop k xs)) ∙ reverse-append (take k xs) (drop k xs)

-- if q implies p, the first that passes q isn't before the first that passes p
found_in_rest : {X : Type 0} (p q : X → Bool) → ((x : X) → p x ≡ false → q x ≡ false) → (xs : List X) (newer : ℕ) (d : X) → position p (reverse xs) ≡ Some newer
    → find q (reverse xs) ≡ find q (reverse (take (length xs - newer) xs))
found_in_rest p q implies xs newer d at =
    let says = position-Some p (reverse xs) newer d at in
    let k = length xs - newer in
    let all = length-reverse xs in
    let many = length-reverse (drop k xs) in
    let rest = length-drop k xs in
    let is = split_at xs k in
    ap (find q) is
    ∙ found_after q (reverse (drop k xs)) (reverse (take k xs)) d
    (λ i less. ap (λ (ys : List _). q (get_or ys i d)) (sym is) ∙ implies (get_or (reverse xs) i d) (says.2 i (let lt = says.0 in omega (arith, less, all, many, rest, lt))))

-- ---- How data is sent

both_fail : (a b c e : Bool) → (a && b) ≡ false → ((a && c) && (b && e)) ≡ false
both_fail false b c e fails = refl
both_fail true false false e fails = refl
both_fail true false true e fails = refl
both_fail true true c e fails = absurd cc

-- a peer without a permission has no channel
no_channel : (clock : ℕ) (address : Endpoint) (p : Peer) → is_permitted clock address.ip p ≡ false → has_channel clock address p ≡ false
no_channel clock address p fails =
    both_fail (is_ip address.ip p.address.ip) (nat_lt clock p.expires_at) (address.port == p.address.port) (nat_lt (clock + seconds 20) p.channel_expires_at) fails

abbrev pub way_with : Option Peer → Bool → Option Way
way_with found permitted = option_map_or (λ p. Some (Channel p.number)) found (if permitted then Some Indication else None)

pub way_of_none : (clock : ℕ) (address : Endpoint) (peers : List Peer) → position (is_permitted clock address.ip) (reverse peers) ≡ None → None ≡ way_among clock address (reverse peers)
way_of_none clock address peers none =
    let p = is_permitted clock address.ip in
    let ps = reverse peers in
    let all : length ps ≤ position_or_len p ps = ltb-false (position_or_len p ps) (length ps) (none_of (nat_lt (position_or_len p ps) (length ps)) (position_or_len p ps) none) in
    let fails : (k : ℕ) → k < length ps → p (get_or ps k no_peer) ≡ false = λ k less. fails_before_first p ps k no_peer (omega (arith, all, less)) in
    sym (ap (λ found. way_with found (list_any p ps)) (none_found (has_channel clock address) ps no_peer (λ k less. no_channel clock address (get_or ps k no_peer) (fails k less)))
    ∙ ap (way_with None) (none_of_any p ps no_peer fails))

-- the way, by the number of the channel
abbrev pub way_on : Option ℕ → Option Way
way_on None = Some Indication
way_on (Some number) = Some (Channel number)

way_of_number : (found : Option Peer) → way_on (option_map (λ (p : Peer). p.number) found) ≡ way_with found true
way_of_number None = refl
way_of_number (Some p) = refl

pub way_of_some : (clock : ℕ) (address : Endpoint) (peers : List Peer) (newer : ℕ) (channel : Option ℕ) → position (is_permitted clock address.ip) (reverse peers) ≡ Some newer
    → channel ≡ option_map (λ (p : Peer). p.number) (find (has_channel clock address) (reverse (take (length peers - newer) peers))) → way_on channel ≡ way_among clock address (reverse peers)
way_of_some clock address peers newer channel at is =
    let p = is_permitted clock address.ip in
    let ps = reverse peers in
    let says = position-Some p ps newer no_peer at in
    let found = find (has_channel clock address) (reverse (take (length peers - newer) peers)) in
    ap way_on is
    ∙ way_of_number found
    ∙ sym (ap (λ one. way_with one (list_any p ps)) (found_in_rest p (has_channel clock address) (no_channel clock address) peers newer no_peer at)
    ∙ ap (way_with found) (list_any_at p ps newer no_peer says.0 says.1))
