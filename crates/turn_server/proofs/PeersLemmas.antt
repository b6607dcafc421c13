-- The values that name peers, item by item.
use Rattle.std.proofs.Common.{◌≡◌, ℕ, Bool, true, false, not, ◌&&◌, ◌||◌, ◌==◌, List, [], ◌∷◌, ◌++◌, map, length, Some, refl, ap, sym, ◌∙◌, append_assoc}
use Rattle.std.specs.List.{list_all}
use Rattle.stun_grammar.specs.Chains.{Shown}
use Rattle.stun_types.specs.Iterating.{borrowed}
use Rattle.turn_attrs.specs.Turn.{XOR_PEER_ADDRESS}
use Rattle.stun_endpoints.specs.declared.endpoints.Endpoint.{Endpoint}
use Rattle.turn_server.specs.Addresses.{is_address, peer_in, peer_read}
use Rattle.turn_server.specs.Peers.{peer_values, peer_items}

unborrowed : (attributes : List Shown) → map (λ (item : Shown × Bool). item.0) (borrowed attributes) ≡ attributes
unborrowed [] = refl
unborrowed (a ∷ attributes) = ap (λ (rest : List Shown). a ∷ rest) (unborrowed attributes)

-- the items that an iterator yields of attributes name the peers that these name
pub items_of : (attributes : List Shown) → peer_items (borrowed attributes) ≡ peer_values attributes
items_of attributes = ap peer_values (unborrowed attributes)

-- whether one is found or is among the items, and none is malformed
abbrev pub all_named : Bool → List (Shown × Bool) → Bool
all_named found items =
    (found || not (length (peer_items items) == 0)) && list_all is_address (peer_items items)

both-left : (a b : Bool) → (a && b) ≡ true → a ≡ true
both-left true b e = refl
both-left false b e = e

both-right : (a b : Bool) → (a && b) ≡ true → b ≡ true
both-right true b e = e
both-right false b e = absurd cc

first_value : (x : Shown × Bool) (xs : List (Shown × Bool)) → x.0.type ≡ XOR_PEER_ADDRESS → peer_items (x ∷ xs) ≡ x.0.value ∷ peer_items xs
first_value x xs is = rw is refl

other_value : (x : Shown × Bool) (xs : List (Shown × Bool)) → (x.0.type == XOR_PEER_ADDRESS) ≡ false → peer_items (x ∷ xs) ≡ peer_items xs
other_value x xs is = rw is refl

first_read : (id : ℕ) (value : List ℕ) (values : List (List ℕ)) → list_all is_address (value ∷ values) ≡ true → peer_read id value ≡ Some (peer_in id value)
first_read id value values all = rw (both-left (is_address value) (list_all is_address values) all) refl

-- of items that name peers the first is read, and the others are left
pub takes : (id : ℕ) (items xs : List (Shown × Bool)) (x : Shown × Bool) (peer : Endpoint) (before all : List Endpoint) → list_all is_address (peer_items items) ≡ true → before ++ map (peer_in id) (peer_items items) ≡ all → items ≡ x ∷ xs → x.0.type ≡ XOR_PEER_ADDRESS
    → Some peer ≡ peer_read id x.0.value → (list_all is_address (peer_items xs) ≡ true) × ((before ++ peer ∷ []) ++ map (peer_in id) (peer_items xs) ≡ all)
takes id items xs x peer before all sound kept items_are is read =
    let values : peer_items items ≡ x.0.value ∷ peer_items xs = ap peer_items items_are ∙ first_value x xs is in
    let each : list_all is_address (x.0.value ∷ peer_items xs) ≡ true = ap (list_all is_address) (sym values) ∙ sound in
    let same : Some peer ≡ Some (peer_in id x.0.value) = read ∙ first_read id x.0.value (peer_items xs) each in
    let peer_is : peer ≡ peer_in id x.0.value = cc in (
      both-right (is_address x.0.value) (list_all is_address (peer_items xs)) each,
      append_assoc before (peer ∷ []) (map (peer_in id) (peer_items xs))
          ∙ (λ i. before ++ (peer_is i ∷ map (peer_in id) (peer_items xs)))
          ∙ ap (λ (vs : List (List ℕ)). before ++ map (peer_in id) vs) (sym values) ∙ kept,
    )

-- one that names no peer is passed
pub passes : (id : ℕ) (items xs : List (Shown × Bool)) (x : Shown × Bool) (before all : List Endpoint) → list_all is_address (peer_items items) ≡ true → before ++ map (peer_in id) (peer_items items) ≡ all → items ≡ x ∷ xs → (x.0.type == XOR_PEER_ADDRESS) ≡ false
    → (list_all is_address (peer_items xs) ≡ true) × (before ++ map (peer_in id) (peer_items xs) ≡ all)
passes id items xs x before all sound kept items_are is =
    let same : peer_items items ≡ peer_items xs = ap peer_items items_are ∙ other_value x xs is in (
      ap (list_all is_address) (sym same) ∙ sound,
      ap (λ (vs : List (List ℕ)). before ++ map (peer_in id) vs) (sym same) ∙ kept,
    )

-- what an iterator over what d shows has yet to yield names no peer by a malformed value
pub all_sound : (attributes : List Shown) (items : List (Shown × Bool)) → items ≡ borrowed attributes → (not (length (peer_values attributes) == 0) && list_all is_address (peer_values attributes)) ≡ true → list_all is_address (peer_items items) ≡ true
all_sound attributes items are named =
    ap (λ (is : List (Shown × Bool)). list_all is_address (peer_items is)) are ∙ ap (list_all is_address) (items_of attributes) ∙ both-right (not (length (peer_values attributes) == 0)) (list_all is_address (peer_values attributes)) named

pub begins_named : (attributes : List Shown) (items : List (Shown × Bool)) → items ≡ borrowed attributes → all_named false items ≡ (not (length (peer_values attributes) == 0) && list_all is_address (peer_values attributes))
begins_named attributes items are =
    ap (all_named false) are ∙ ap (λ (values : List (List ℕ)). not (length values == 0) && list_all is_address values) (items_of attributes)

pub all_left : (id : ℕ) (attributes : List Shown) (items : List (Shown × Bool)) → items ≡ borrowed attributes → map (peer_in id) (peer_items items) ≡ map (peer_in id) (peer_values attributes)
all_left id attributes items are = ap (λ (is : List (Shown × Bool)). map (peer_in id) (peer_items is)) are ∙ ap (map (peer_in id)) (items_of attributes)
