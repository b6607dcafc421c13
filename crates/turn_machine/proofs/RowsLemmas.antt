-- What follows if a row applies, or not.
use Rattle.std.proofs.Common.{◌≡◌, ℕ, Bool, true, false, not, List, [], ◌∷◌, Option, None, Some, refl, inl, inr, ◌⊎◌, sym, ◌∙◌, eq-eqb, eqb-true, ltb-true, subst}
use Rattle.std.specs.List.{list_any, list_all}
use Rattle.std.specs.Prelude.{◌||◌, ◌&&◌, nat_lt, ◌==◌}
use Rattle.std.proofs.lemmas.Bool.{and_parts, or_parts, false≢true, lt-ltb}
use Rattle.stun_endpoints.specs.declared.endpoints.Endpoint.{Endpoint}
use Rattle.stun_endpoints.specs.declared.endpoints.FiveTuple.{FiveTuple}
use Rattle.stun_endpoints.specs.Endpoints.{is_endpoint}
use Rattle.turn_machine.specs.Relays.{Channel, Setup, Rules, State, has_room, has_quota}
use Rattle.turn_machine.specs.Events.{Want, permit, bind}
use Rattle.turn_machine.specs.Opening.{has_of, can_open}
use Rattle.turn_machine.specs.Rows.{row, has_any, has_of_another, own_rows, lacks_permissions, have_families, permit_rows, clashes, is_bound_otherwise, is_channel_number, lacks_channels, bind_rows, fault}
use Rattle.turn_machine.specs.Granting.{IsClash}
use Rattle.stun_endpoints.proofs.AddressesLemmas.{endpoint_same, endpoint_is_itself}

pub row_none : (applies : Bool) (code : ℕ) (others : Option ℕ) → row applies code others ≡ None → (applies ≡ false) × (others ≡ None)
row_none true code others e = absurd cc
row_none false code others e = (refl, e)

pub not_no : (b : Bool) → not b ≡ false → b ≡ true
not_no true e = refl
not_no false e = absurd cc

pub not_yes : (b : Bool) → not b ≡ true → b ≡ false
not_yes false e = refl
not_yes true e = absurd cc

-- ---- Why something can be opened, permitted, bound

pub record CanOpen (setup : Setup) (tuple : FiveTuple) (user : ℕ) (want : Want) (state : State) : Type 0 where
  pub family : setup.has_family want.family ≡ true
  pub quota : has_quota setup user state ≡ true
  pub room : has_room setup state ≡ true
  pub free : has_of tuple want.family state ≡ false

pub can_parts : (setup : Setup) (tuple : FiveTuple) (user : ℕ) (want : Want) (state : State) → can_open setup tuple user want state ≡ true → CanOpen setup tuple user want state
can_parts setup tuple user want state can =
    let one = and_parts (setup.has_family want.family) (has_quota setup user state && (has_room setup state && not (has_of tuple want.family state))) can in
    let two = and_parts (has_quota setup user state) (has_room setup state && not (has_of tuple want.family state)) one.1 in
    let three = and_parts (has_room setup state) (not (has_of tuple want.family state)) two.1 in
    record { family = one.0; quota = two.0; room = three.0; free = not_yes (has_of tuple want.family state) three.1 }

pub record OwnNone (tuple : FiveTuple) (user : ℕ) (state : State) (others : Option ℕ) : Type 0 where
  pub has : has_any tuple state ≡ true
  pub his : has_of_another tuple user state ≡ false
  pub rest : others ≡ None

pub own_none : (tuple : FiveTuple) (user : ℕ) (state : State) (others : Option ℕ) → own_rows tuple user state others ≡ None → OwnNone tuple user state others
own_none tuple user state others e =
    let one = row_none (not (has_any tuple state)) 437 (row (has_of_another tuple user state) 441 others) e in
    let two = row_none (has_of_another tuple user state) 441 others one.1 in
    record { has = not_no (has_any tuple state) one.0; his = two.0; rest = two.1 }

pub record PermitNone (setup : Setup) (rules : Rules) (tuple : FiveTuple) (user : ℕ) (peers : List Endpoint) (state : State) : Type 0 where
  pub has : has_any tuple state ≡ true
  pub his : has_of_another tuple user state ≡ false
  pub families : have_families tuple peers state ≡ true
  pub allowed : list_all (λ peer. rules.allows_ip peer.ip) peers ≡ true
  pub room : list_any (lacks_permissions setup state.clock tuple user peers) state.relays ≡ false

pub permit_none : (setup : Setup) (rules : Rules) (tuple : FiveTuple) (user : ℕ) (peers : List Endpoint) (state : State) → fault setup rules state tuple user (permit peers) ≡ None → PermitNone setup rules tuple user peers state
permit_none setup rules tuple user peers state e =
    let allowed = list_all (λ peer. rules.allows_ip peer.ip) peers in
    let lacks = list_any (lacks_permissions setup state.clock tuple user peers) state.relays in
    let own = own_none tuple user state (permit_rows setup rules state tuple user peers) e in
    let one = row_none (not (have_families tuple peers state)) 443 (row (not allowed) 403 (row lacks 508 None)) own.rest in
    let two = row_none (not allowed) 403 (row lacks 508 None) one.1 in
    let three = row_none lacks 508 None two.1 in
    record { has = own.has; his = own.his; families = not_no (have_families tuple peers state) one.0; allowed = not_no allowed two.0; room = three.0 }

pub record BindNone (setup : Setup) (rules : Rules) (tuple : FiveTuple) (user number : ℕ) (peer : Endpoint) (state : State) : Type 0 where
  pub has : has_any tuple state ≡ true
  pub his : has_of_another tuple user state ≡ false
  pub number_is : is_channel_number setup number ≡ true
  pub free : list_any (is_bound_otherwise state.clock tuple number peer) state.relays ≡ false
  pub family : has_of tuple peer.ip.family state ≡ true
  pub allowed : rules.allows_ip peer.ip ≡ true
  pub port : rules.allows_port peer ≡ true
  pub permissions : list_any (lacks_permissions setup state.clock tuple user (peer ∷ [])) state.relays ≡ false
  pub channels : list_any (lacks_channels setup state.clock tuple user number peer) state.relays ≡ false

pub bind_none : (setup : Setup) (rules : Rules) (tuple : FiveTuple) (user number : ℕ) (peer : Endpoint) (state : State) → fault setup rules state tuple user (bind number peer) ≡ None → BindNone setup rules tuple user number peer state
bind_none setup rules tuple user number peer state e =
    let bound = list_any (is_bound_otherwise state.clock tuple number peer) state.relays in
    let allowed = rules.allows_ip peer.ip && rules.allows_port peer in
    let permissions = list_any (lacks_permissions setup state.clock tuple user (peer ∷ [])) state.relays in
    let channels = list_any (lacks_channels setup state.clock tuple user number peer) state.relays in
    let own = own_none tuple user state (bind_rows setup rules state tuple user number peer) e in
    let one = row_none (not (is_channel_number setup number)) 400 (row bound 400 (row (not (has_of tuple peer.ip.family state)) 443 (row (not allowed) 403 (row (permissions || channels) 508 None)))) own.rest in
    let two = row_none bound 400 (row (not (has_of tuple peer.ip.family state)) 443 (row (not allowed) 403 (row (permissions || channels) 508 None))) one.1 in
    let three = row_none (not (has_of tuple peer.ip.family state)) 443 (row (not allowed) 403 (row (permissions || channels) 508 None)) two.1 in
    let four = row_none (not allowed) 403 (row (permissions || channels) 508 None) three.1 in
    let five = row_none (permissions || channels) 508 None four.1 in
    let both = and_parts (rules.allows_ip peer.ip) (rules.allows_port peer) (not_no allowed four.0) in
    let none = or_parts permissions channels five.0 in
    record { has = own.has; his = own.his; number_is = not_no (is_channel_number setup number) one.0; free = two.0; family = not_no (has_of tuple peer.ip.family state) three.0; allowed = both.0; port = both.1; permissions = none.0; channels = none.1 }

-- codes that differ
pub unlike : (a b : ℕ) → (a == b) ≡ false → Some a ≡ Some b → ⊥
unlike a b differ e = let same : a ≡ b = cc in false≢true (sym differ ∙ eq-eqb a b same)

-- ---- Channels that clash

pub not_true : (b : Bool) → (b ≡ true → ⊥) → b ≡ false
not_true true never = absurd (never refl)
not_true false never = refl

clash_parts : (live number peer : Bool) → (live && ((number && not peer) || (peer && not number))) ≡ true → (live ≡ true) × (((number ≡ true) × (peer ≡ false)) ⊎ ((peer ≡ true) × (number ≡ false)))
clash_parts true true false e = (refl, inl (refl, refl))
clash_parts true false true e = (refl, inr (refl, refl))
clash_parts true true true e = absurd (false≢true e)
clash_parts true false false e = absurd (false≢true e)
clash_parts false number peer e = absurd (false≢true e)

pub is_clash : (now number : ℕ) (peer : Endpoint) (c : Channel) → clashes now number peer c ≡ true → IsClash now number peer c
is_clash now number peer c e =
    let parts = clash_parts (nat_lt now c.expires_at) (c.number == number) (is_endpoint c.peer peer) e in
    record {
      live = ltb-true now c.expires_at parts.0;
      other = elim parts.1 [
        | inl one ↦ inl (eqb-true c.number number one.0, λ same. false≢true (sym one.1 ∙ subst (λ (x : Endpoint). is_endpoint c.peer x ≡ true) same (endpoint_is_itself c.peer)))
        | inr two ↦ inr (endpoint_same c.peer peer two.0, λ same. false≢true (sym two.1 ∙ eq-eqb c.number number same))
      ];
    }

clash_from : (live number peer : Bool) → live ≡ true → ((number ≡ true) × (peer ≡ false)) ⊎ ((peer ≡ true) × (number ≡ false)) → (live && ((number && not peer) || (peer && not number))) ≡ true
clash_from true true false l e = refl
clash_from true false true l e = refl
clash_from true true true l (inl e) = sym e.1
clash_from true true true l (inr e) = sym e.1
clash_from true false false l (inl e) = e.0
clash_from true false false l (inr e) = e.0
clash_from false number peer l e = absurd (false≢true l)

unequal : (n m : ℕ) → (n ≡ m → ⊥) → (n == m) ≡ false
unequal n m never = not_true (n == m) (λ is. never (eqb-true n m is))

pub clash_is : (now number : ℕ) (peer : Endpoint) (c : Channel) → IsClash now number peer c → clashes now number peer c ≡ true
clash_is now number peer c is =
    clash_from (nat_lt now c.expires_at) (c.number == number) (is_endpoint c.peer peer) (lt-ltb now c.expires_at is.live)
    (elim is.other [
      | inl one ↦ inl (eq-eqb c.number number one.0, not_true (is_endpoint c.peer peer) (λ same. one.1 (endpoint_same c.peer peer same)))
      | inr two ↦ inr (subst (λ (x : Endpoint). is_endpoint c.peer x ≡ true) two.0 (endpoint_is_itself c.peer), unequal c.number number two.1)
    ])

pub no_clash_is : (now number : ℕ) (peer : Endpoint) (c : Channel) → (IsClash now number peer c → ⊥) → clashes now number peer c ≡ false
no_clash_is now number peer c never = not_true (clashes now number peer c) (λ is. never (is_clash now number peer c is))

pub is_no_clash : (now number : ℕ) (peer : Endpoint) (c : Channel) → clashes now number peer c ≡ false → IsClash now number peer c → ⊥
is_no_clash now number peer c none is = false≢true (sym none ∙ clash_is now number peer c is)
