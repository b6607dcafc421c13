-- The state is live and within its limits, and no user has more than the quota.
use Rattle.std.proofs.Common.{◌≡◌, ℕ, ◌+◌, ◌<◌, ◌≤◌, Bool, true, false, not, cond, List, [], ◌∷◌, length, Option, refl, sym, ap, subst, ltb-true, ltb-false, zero-le, eqb-true, arith}
use Rattle.std.specs.List.{AllByRecursion}
use Rattle.std.specs.Prelude.{◌==◌, ◌&&◌, max, count_by, nat_lt}
use Rattle.std.proofs.lemmas.Bool.{cond_both, cond-true, false≢true}
use Rattle.stun_endpoints.specs.declared.endpoints.Endpoint.{Endpoint}
use Rattle.stun_endpoints.specs.declared.endpoints.FiveTuple.{FiveTuple}
use Rattle.turn_machine.specs.Relays.{Relay, Setup, State, is_live, is_users, is_owned, bound_for}
use Rattle.turn_machine.specs.Opening.{opened}
use Rattle.turn_machine.specs.Rows.{with_permission_for, with_permissions, permissions_after, with_channel, lacks_permissions, lacks_channels}
use Rattle.turn_machine.specs.Steps.{changed, is_wanted, lasting, permitting, binding}
use Rattle.turn_machine.specs.Runs.{Timed, run}
use Rattle.turn_machine.specs.Bounds.{IsWithin}
use Rattle.turn_machine.proofs.ListsLemmas.{each_filtered, each_filter, each_mapped, each_both, any_none, length_filter, length_map, count_cons, count_map, count_filter}
use Rattle.turn_machine.proofs.RowsLemmas.{can_parts, permit_none, bind_none}
use Rattle.turn_machine.proofs.KeepingLemmas.{Keeps, Anyone, run_keeps}

pub each_changed : (P Q : Relay → Type 0) (tuple : FiveTuple) (user : ℕ) (change : Relay → Relay) (state : State) → ((a : Relay) → P a → Q a) → ((a : Relay) → is_owned tuple user a ≡ true → P a → Q (change a)) → AllByRecursion P state.relays → AllByRecursion Q (changed tuple user change state).relays
each_changed P Q tuple user change state on here each =
    each_mapped P Q (λ a. cond (is_owned tuple user a) (change a) a)
    (λ a p. cond_both (is_owned tuple user a) (change a) a Q (λ his. here a his p) (λ _. on a p)) state.relays each

-- a field that a change leaves, a change of a client's relayed addresses leaves too
pub his_same : {X : Type 0} (f : Relay → X) (tuple : FiveTuple) (user : ℕ) (change : Relay → Relay) → ((a : Relay) → f (change a) ≡ f a) → (a : Relay) → f (cond (is_owned tuple user a) (change a) a) ≡ f a
his_same f tuple user change same a = cond_both (is_owned tuple user a) (change a) a (λ b. f b ≡ f a) (λ _. same a) (λ _. refl)

pub lasting_same : {X : Type 0} (f : Relay → X) (family : Option ℕ) (expires_at : ℕ) → ((a : Relay) → f (record a { expires_at = expires_at }) ≡ f a) → (a : Relay) → f (lasting family expires_at a) ≡ f a
lasting_same f family expires_at same a = cond_both (is_wanted family a) (record a { expires_at = expires_at }) a (λ b. f b ≡ f a) (λ _. same a) (λ _. refl)

abbrev pub bound_after : (lifetime now number : ℕ) → Endpoint → Relay → Relay
bound_after lifetime now number peer a = record a { permissions = with_permission_for lifetime now peer.ip a.permissions; channels = with_channel now number peer a.channels }

pub binding_same : {X : Type 0} (f : Relay → X) (lifetime now number : ℕ) (peer : Endpoint) → ((a : Relay) → f (bound_after lifetime now number peer a) ≡ f a) → (a : Relay) → f (binding lifetime now number peer a) ≡ f a
binding_same f lifetime now number peer same a = cond_both (peer.ip.family == a.family) (bound_after lifetime now number peer a) a (λ b. f b ≡ f a) (λ _. same a) (λ _. refl)

-- ---- What is kept is live

abbrev pub IsLive : State → Type 0
IsLive state = AllByRecursion (λ a. state.clock < a.expires_at) state.relays

live_kept : (setup : Setup) → Keeps setup Anyone IsLive
live_kept setup = record {
  time = λ now state each. each_filtered (λ a. state.clock < a.expires_at) (λ a. max state.clock now < a.expires_at) (is_live (max state.clock now)) (λ a live _. ltb-true (max state.clock now) a.expires_at live) state.relays each;
  opened = λ tuple user id expires_at want offer state who later can each. (later, each);
  ended = λ test state each. each_filter (λ a. state.clock < a.expires_at) (λ a. not (test a)) state.relays each;
  lasted = λ tuple user family expires_at state later each.
      each_changed (λ a. state.clock < a.expires_at) (λ a. state.clock < a.expires_at) tuple user (lasting family expires_at) state (λ a l. l)
      (λ a _ l. cond_both (is_wanted family a) (record a { expires_at = expires_at }) a (λ (b : Relay). state.clock < b.expires_at) (λ _. later) (λ _. l)) each;
  permitted = λ rules tuple user peers state fit each. each_changed (λ a. state.clock < a.expires_at) (λ a. state.clock < a.expires_at) tuple user (permitting state.clock peers) state (λ a l. l) (λ a _ l. l) each;
  bound = λ rules tuple user number peer state fit each.
      each_changed (λ a. state.clock < a.expires_at) (λ a. state.clock < a.expires_at) tuple user (binding (bound_for setup) state.clock number peer) state (λ a l. l)
      (λ a _ l. subst (λ n. state.clock < n) (sym (binding_same (λ b. b.expires_at) (bound_for setup) state.clock number peer (λ _. refl) a)) l) each;
}

pub run_live : (setup : Setup) (events : List Timed) → IsLive (run setup events)
run_live setup events = run_keeps setup IsLive (live_kept setup) tt events

-- ---- Bounds

short_kept : (setup : Setup) → Keeps setup Anyone (λ state. length state.relays ≤ setup.most_relays)
short_kept setup = record {
  time = λ now state short. let fewer = length_filter (is_live (max state.clock now)) state.relays in omega (arith, short, fewer);
  opened = λ tuple user id expires_at want offer state who later can short. ltb-true (length state.relays) setup.most_relays (can_parts setup tuple user want state can).room;
  ended = λ test state short. let fewer = length_filter (λ a. not (test a)) state.relays in omega (arith, short, fewer);
  lasted = λ tuple user family expires_at state later short. subst (λ n. n ≤ setup.most_relays) (sym (length_map (λ a. cond (is_owned tuple user a) (lasting family expires_at a) a) state.relays)) short;
  permitted = λ rules tuple user peers state fit short. subst (λ n. n ≤ setup.most_relays) (sym (length_map (λ a. cond (is_owned tuple user a) (permitting state.clock peers a) a) state.relays)) short;
  bound = λ rules tuple user number peer state fit short. subst (λ n. n ≤ setup.most_relays) (sym (length_map (λ a. cond (is_owned tuple user a) (binding (bound_for setup) state.clock number peer a) a) state.relays)) short;
}

pub run_short : (setup : Setup) (events : List Timed) → length (run setup events).relays ≤ setup.most_relays
run_short setup events = run_keeps setup (λ state. length state.relays ≤ setup.most_relays) (short_kept setup) zero-le events

fits_in : (his : Bool) (most n : ℕ) → his ≡ true → (his && nat_lt most n) ≡ false → n ≤ most
fits_in true most n is lacks = ltb-false most n lacks
fits_in false most n is lacks = absurd (false≢true is)

fits_in_family : (his family : Bool) (most n : ℕ) → his ≡ true → family ≡ true → (his && (family && nat_lt most n)) ≡ false → n ≤ most
fits_in_family true true most n is of lacks = ltb-false most n lacks
fits_in_family true false most n is of lacks = absurd (false≢true of)
fits_in_family false family most n is of lacks = absurd (false≢true is)

-- one more permission takes the same room, however long it lasts
bound_length : (lifetime now : ℕ) (peer : Endpoint) (a : Relay) → (peer.ip.family == a.family) ≡ true → length (permissions_after now (peer ∷ []) a) ≡ length (with_permission_for lifetime now peer.ip a.permissions)
bound_length lifetime now peer a of = ap (λ (l : List Endpoint). length (with_permissions now l a.permissions)) (cond-true (peer.ip.family == a.family) (peer ∷ []) [] of)

within_kept : (setup : Setup) → Keeps setup Anyone (λ state. AllByRecursion (IsWithin setup) state.relays)
within_kept setup = record {
  time = λ now state each. each_filter (IsWithin setup) (is_live (max state.clock now)) state.relays each;
  opened = λ tuple user id expires_at want offer state who later can each. (record { permissions = zero-le; channels = zero-le }, each);
  ended = λ test state each. each_filter (IsWithin setup) (λ a. not (test a)) state.relays each;
  lasted = λ tuple user family expires_at state later each. each_changed (IsWithin setup) (IsWithin setup) tuple user (lasting family expires_at) state (λ a w. w)
      (λ a _ w. cond_both (is_wanted family a) (record a { expires_at = expires_at }) a (IsWithin setup) (λ _. record { permissions = w.permissions; channels = w.channels }) (λ _. w)) each;
  permitted = λ rules tuple user peers state fit each.
      let fits = permit_none setup rules tuple user peers state fit in
      let lacks = lacks_permissions setup state.clock tuple user peers in
      let room = any_none lacks state.relays fits.room in
      each_changed (λ a. IsWithin setup a × (lacks a ≡ false)) (IsWithin setup) tuple user (permitting state.clock peers) state (λ a w. w.0)
      (λ a his w. record { permissions = fits_in (is_owned tuple user a) setup.most_permissions (length (permissions_after state.clock peers a)) his w.1; channels = w.0.channels })
      (each_both (IsWithin setup) (λ a. lacks a ≡ false) (λ a. IsWithin setup a × (lacks a ≡ false)) (λ a one other. (one, other)) state.relays each room);
  bound = λ rules tuple user number peer state fit each.
      let fits = bind_none setup rules tuple user number peer state fit in
      let lacks = lacks_permissions setup state.clock tuple user (peer ∷ []) in
      let lacks_one = lacks_channels setup state.clock tuple user number peer in
      let Both = λ (a : Relay). (lacks a ≡ false) × (lacks_one a ≡ false) in
      let room = each_both (λ a. lacks a ≡ false) (λ a. lacks_one a ≡ false) Both (λ a one other. (one, other)) state.relays (any_none lacks state.relays fits.permissions) (any_none lacks_one state.relays fits.channels) in
      each_changed (λ a. IsWithin setup a × Both a) (IsWithin setup) tuple user (binding (bound_for setup) state.clock number peer) state (λ a w. w.0)
      (λ a his w. cond_both (peer.ip.family == a.family) (bound_after (bound_for setup) state.clock number peer a) a (IsWithin setup)
      (λ of. record {
        permissions = subst (λ n. n ≤ setup.most_permissions) (bound_length (bound_for setup) state.clock peer a of) (fits_in (is_owned tuple user a) setup.most_permissions (length (permissions_after state.clock (peer ∷ []) a)) his w.1.0);
        channels = fits_in_family (is_owned tuple user a) (peer.ip.family == a.family) setup.most_channels (length (with_channel state.clock number peer a.channels)) his of w.1.1;
      }) (λ _. w.0))
      (each_both (IsWithin setup) Both (λ a. IsWithin setup a × Both a) (λ a one other. (one, other)) state.relays each room);
}

pub run_within : (setup : Setup) (events : List Timed) → AllByRecursion (IsWithin setup) (run setup events).relays
run_within setup events = run_keeps setup (λ state. AllByRecursion (IsWithin setup) state.relays) (within_kept setup) tt events

-- ---- Quotas

abbrev pub IsWithinQuota : Setup → State → Type 0
IsWithinQuota setup state = (user : ℕ) → count_by (is_users user) state.relays ≤ setup.most_of_user

counted_same : (setup : Setup) (tuple : FiveTuple) (user : ℕ) (change : Relay → Relay) (state : State) → ((a : Relay) → (change a).user ≡ a.user) → IsWithinQuota setup state → IsWithinQuota setup (changed tuple user change state)
counted_same setup tuple user change state same within other =
    subst (λ n. n ≤ setup.most_of_user)
    (sym (count_map (is_users other) (is_users other) (λ a. cond (is_owned tuple user a) (change a) a) (λ a. ap (λ u. u == other) (his_same (λ b. b.user) tuple user change same a)) state.relays))
    (within other)

one_more : (b : Bool) (n most : ℕ) → (b ≡ true → n < most) → n ≤ most → cond b 1 0 + n ≤ most
one_more true n most less le = let l = less refl in omega (arith, l)
one_more false n most less le = omega (arith, le)

quota_kept : (setup : Setup) → Keeps setup Anyone (IsWithinQuota setup)
quota_kept setup = record {
  time = λ now state within user. let fewer = count_filter (is_users user) (is_live (max state.clock now)) state.relays in let w = within user in omega (arith, w, fewer);
  opened = λ tuple user id expires_at want offer state who later can within other.
      let quota = ltb-true (count_by (is_users user) state.relays) setup.most_of_user (can_parts setup tuple user want state can).quota in
      subst (λ n. n ≤ setup.most_of_user) (sym (count_cons (is_users other) (opened tuple user id expires_at want.family state offer) state.relays))
      (one_more (user == other) (count_by (is_users other) state.relays) setup.most_of_user
      (λ same. subst (λ u. count_by (is_users u) state.relays < setup.most_of_user) (eqb-true user other same) quota) (within other));
  ended = λ test state within user. let fewer = count_filter (is_users user) (λ a. not (test a)) state.relays in let w = within user in omega (arith, w, fewer);
  lasted = λ tuple user family expires_at state later within. counted_same setup tuple user (lasting family expires_at) state (lasting_same (λ b. b.user) family expires_at (λ _. refl)) within;
  permitted = λ rules tuple user peers state fit within. counted_same setup tuple user (permitting state.clock peers) state (λ _. refl) within;
  bound = λ rules tuple user number peer state fit within. counted_same setup tuple user (binding (bound_for setup) state.clock number peer) state (binding_same (λ b. b.user) (bound_for setup) state.clock number peer (λ _. refl)) within;
}

pub run_quota : (setup : Setup) (events : List Timed) → IsWithinQuota setup (run setup events)
run_quota setup events = run_keeps setup (IsWithinQuota setup) (quota_kept setup) (λ user. zero-le) events
