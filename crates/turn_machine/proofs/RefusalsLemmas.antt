-- Each code is the response if and only if its reason holds.
use Rattle.std.proofs.lemmas.List.Sums.{length-filter}
use Rattle.std.proofs.Common.{◌≡◌, ℕ, ◌<◌, ◌≤◌, inl, inr, Bool, true, false, not, List, [], ◌∷◌, length, Option, None, Some, refl, sym, ap, subst, ◌∙◌, ltb-true, ltb-false, eqb-true, eq-eqb, cond, filter, ◌+◌, arith}
use Rattle.std.specs.List.{AllByRecursion, list_any, list_all}
use Rattle.std.specs.Prelude.{◌==◌, ◌||◌, ◌&&◌, count_by, nat_lt, is_some, ◌⊎◌}
use Rattle.std.proofs.lemmas.Bool.{and_parts, and_from, or_left, or_right, or_cases, false≢true, lt-ltb, le-ltb, cond_both, cond-true, cond-false}
use Rattle.stun_endpoints.specs.declared.endpoints.Ip.{Ip}
use Rattle.stun_endpoints.specs.declared.endpoints.Endpoint.{Endpoint}
use Rattle.stun_endpoints.specs.declared.endpoints.FiveTuple.{FiveTuple}
use Rattle.stun_endpoints.specs.Endpoints.{is_ip}
use Rattle.turn_machine.specs.Lists.{SomeOf}
use Rattle.turn_machine.specs.Relays.{Setup, Rules, State, is_of, is_for, is_users, is_owned, has_room, has_quota, seconds, Permission, Channel, Relay}
use Rattle.turn_machine.specs.Events.{Offer, Want, allocate, refresh, permit, bind, unfit, unfit_allocate, most_peers, permit_request}
use Rattle.turn_machine.specs.Times.{at}
use Rattle.turn_machine.specs.Opening.{has_of}
use Rattle.turn_machine.specs.Rows.{row, has_any, is_of_another, has_of_another, is_offered, is_ready, has_wanted, permissions_after, lacks_permissions, have_families, clashes, is_bound_otherwise, is_channel_number, with_channel, lacks_channels, is_other_permission, is_other_channel, with_permissions}
use Rattle.turn_machine.specs.Data.{allows}
use Rattle.turn_machine.specs.Granting.{IsClash, IsFree, HasOf, LacksOf, IsOwn}
use Rattle.turn_machine.specs.Refusals.{IsOfAnother, IsUnready, IsUncovered, HaveFamilies, LackFamily, LacksPermissions, LacksChannels, IsBadNumber, IsGoodNumber, IsAgain, AllocateRefusals, RefreshRefusals, PermitRefusals, BindRefusals, UnfitRefusals, is_left, different, IsRoomByLive, IsChannelRoomByLive}
use Rattle.stun_endpoints.proofs.AddressesLemmas.{ip_same}
use Rattle.turn_machine.proofs.ListsLemmas.{each_map, none_any, any_none, some_any, any_some, some_map, all_each, each_all, some_not_all, not_all_some, count_cons, right_false}
use Rattle.turn_machine.proofs.RowsLemmas.{not_no, not_yes, is_clash, clash_is, no_clash_is, is_no_clash}
use Rattle.turn_machine.proofs.FaultLemmas.{refused_for, for_refused}
use Rattle.turn_machine.proofs.QuotasLemmas.{unready}
use Rattle.turn_machine.proofs.GrantedLemmas.{not_true}
use Rattle.turn_machine.proofs.GrantingLemmas.{free_again}
use Rattle.turn_machine.proofs.ChainLemmas.{allocate_437_is, allocate_437_if, allocate_440_is, allocate_440_if, allocate_486_is, allocate_486_if, allocate_508_is, allocate_508_if, allocate_codes, refresh_437_is, refresh_437_if, refresh_441_is, refresh_441_if, refresh_443_is, refresh_443_if, refresh_codes, permit_437_is, permit_437_if, permit_441_is, permit_441_if, permit_443_is, permit_443_if, permit_403_is, permit_403_if, permit_508_is, permit_508_if, permit_codes, bind_437_is, bind_437_if, bind_441_is, bind_441_if, bind_400_is, bind_400_if, bind_443_is, bind_443_if, bind_403_is, bind_403_if, bind_508_is, bind_508_if, bind_codes}

-- ---- Tests in words

free : (tuple : FiveTuple) (s : State) → has_any tuple s ≡ false → IsFree tuple s
free tuple s none = any_none (is_of tuple) s.relays none

free_has : (tuple : FiveTuple) (s : State) → IsFree tuple s → has_any tuple s ≡ false
free_has tuple s is = none_any (is_of tuple) s.relays is

mine : (of his : Bool) → (of && not his) ≡ false → of ≡ true → his ≡ true
mine true his none is = not_no his none
mine false his none is = absurd (false≢true is)

not_anothers : (of his : Bool) → (of ≡ true → his ≡ true) → (of && not his) ≡ false
not_anothers true his f = ap not (f refl)
not_anothers false his f = refl

own : (tuple : FiveTuple) (user : ℕ) (s : State) → has_any tuple s ≡ true → has_of_another tuple user s ≡ false → IsOwn tuple user s
own tuple user s has none = record {
  has = any_some (is_of tuple) s.relays has;
  his = each_map (λ a. is_of_another tuple user a ≡ false) (λ a. is_of tuple a ≡ true → a.user ≡ user) (λ a isnt is. eqb-true a.user user (mine (is_of tuple a) (is_users user a) isnt is)) s.relays (any_none (is_of_another tuple user) s.relays none);
}

own_has : (tuple : FiveTuple) (user : ℕ) (s : State) → IsOwn tuple user s → not (has_any tuple s) ≡ false
own_has tuple user s o = ap not (some_any (is_of tuple) s.relays o.has)

own_his : (tuple : FiveTuple) (user : ℕ) (s : State) → IsOwn tuple user s → has_of_another tuple user s ≡ false
own_his tuple user s o =
    none_any (is_of_another tuple user) s.relays (each_map (λ a. is_of tuple a ≡ true → a.user ≡ user) (λ a. is_of_another tuple user a ≡ false) (λ a f. not_anothers (is_of tuple a) (is_users user a) (λ is. eq-eqb a.user user (f is))) s.relays o.his)

anothers : (tuple : FiveTuple) (user : ℕ) (s : State) → has_of_another tuple user s ≡ true → IsOfAnother tuple user s
anothers tuple user s any =
    some_map (λ a. is_of_another tuple user a ≡ true) (λ a. (is_of tuple a ≡ true) × (is_users user a ≡ false)) (λ a is. let both = and_parts (is_of tuple a) (not (is_users user a)) is in (both.0, not_yes (is_users user a) both.1)) s.relays (any_some (is_of_another tuple user) s.relays any)

anothers_has : (tuple : FiveTuple) (user : ℕ) (s : State) → IsOfAnother tuple user s → not (has_any tuple s) ≡ false
anothers_has tuple user s some = ap not (some_any (is_of tuple) s.relays (some_map (λ a. (is_of tuple a ≡ true) × (is_users user a ≡ false)) (λ a. is_of tuple a ≡ true) (λ a both. both.0) s.relays some))

anothers_is : (tuple : FiveTuple) (user : ℕ) (s : State) → IsOfAnother tuple user s → has_of_another tuple user s ≡ true
anothers_is tuple user s some =
    some_any (is_of_another tuple user) s.relays (some_map (λ a. (is_of tuple a ≡ true) × (is_users user a ≡ false)) (λ a. is_of_another tuple user a ≡ true) (λ a both. and_from (is_of tuple a) (not (is_users user a)) both.0 (ap not both.1)) s.relays some)

families : (tuple : FiveTuple) (peers : List Endpoint) (s : State) → have_families tuple peers s ≡ true → HaveFamilies tuple peers s
families tuple peers s all =
    each_map (λ peer. has_of tuple peer.ip.family s ≡ true) (λ peer. HasOf tuple peer.ip.family s) (λ peer has. any_some (is_for tuple peer.ip.family) s.relays has) peers (all_each (λ peer. has_of tuple peer.ip.family s) peers all)

families_has : (tuple : FiveTuple) (peers : List Endpoint) (s : State) → HaveFamilies tuple peers s → have_families tuple peers s ≡ true
families_has tuple peers s each =
    each_all (λ peer. has_of tuple peer.ip.family s) peers (each_map (λ peer. HasOf tuple peer.ip.family s) (λ peer. has_of tuple peer.ip.family s ≡ true) (λ peer has. some_any (is_for tuple peer.ip.family) s.relays has) peers each)

family_lacks : (tuple : FiveTuple) (peers : List Endpoint) (s : State) → have_families tuple peers s ≡ false → LackFamily tuple peers s
family_lacks tuple peers s none =
    some_map (λ peer. has_of tuple peer.ip.family s ≡ false) (λ peer. LacksOf tuple peer.ip.family s) (λ peer lacks. any_none (is_for tuple peer.ip.family) s.relays lacks) peers (not_all_some (λ peer. has_of tuple peer.ip.family s) peers none)

lacks_family : (tuple : FiveTuple) (peers : List Endpoint) (s : State) → LackFamily tuple peers s → have_families tuple peers s ≡ false
lacks_family tuple peers s some =
    some_not_all (λ peer. has_of tuple peer.ip.family s) peers (some_map (λ peer. LacksOf tuple peer.ip.family s) (λ peer. has_of tuple peer.ip.family s ≡ false) (λ peer lacks. none_any (is_for tuple peer.ip.family) s.relays lacks) peers some)

no_permissions : (setup : Setup) (tuple : FiveTuple) (user : ℕ) (peers : List Endpoint) (s : State) → list_any (lacks_permissions setup s.clock tuple user peers) s.relays ≡ true → LacksPermissions setup tuple user peers s
no_permissions setup tuple user peers s any =
    some_map (λ a. lacks_permissions setup s.clock tuple user peers a ≡ true) (λ a. (is_owned tuple user a ≡ true) × (setup.most_permissions < length (permissions_after s.clock peers a)))
    (λ a is. let both = and_parts (is_owned tuple user a) (nat_lt setup.most_permissions (length (permissions_after s.clock peers a))) is in (both.0, ltb-true setup.most_permissions (length (permissions_after s.clock peers a)) both.1))
    s.relays (any_some (lacks_permissions setup s.clock tuple user peers) s.relays any)

permissions_lack : (setup : Setup) (tuple : FiveTuple) (user : ℕ) (peers : List Endpoint) (s : State) → LacksPermissions setup tuple user peers s → list_any (lacks_permissions setup s.clock tuple user peers) s.relays ≡ true
permissions_lack setup tuple user peers s some =
    some_any (lacks_permissions setup s.clock tuple user peers) s.relays
    (some_map (λ a. (is_owned tuple user a ≡ true) × (setup.most_permissions < length (permissions_after s.clock peers a))) (λ a. lacks_permissions setup s.clock tuple user peers a ≡ true)
    (λ a both. and_from (is_owned tuple user a) (nat_lt setup.most_permissions (length (permissions_after s.clock peers a))) both.0 (lt-ltb setup.most_permissions (length (permissions_after s.clock peers a)) both.1)) s.relays some)

no_channels : (setup : Setup) (tuple : FiveTuple) (user number : ℕ) (peer : Endpoint) (s : State) → list_any (lacks_channels setup s.clock tuple user number peer) s.relays ≡ true → LacksChannels setup tuple user number peer s
no_channels setup tuple user number peer s any =
    some_map (λ a. lacks_channels setup s.clock tuple user number peer a ≡ true) (λ a. (is_owned tuple user a ≡ true) × (a.family ≡ peer.ip.family) × (setup.most_channels < length (with_channel s.clock number peer a.channels)))
    (λ a is.
    let both = and_parts (is_owned tuple user a) ((peer.ip.family == a.family) && nat_lt setup.most_channels (length (with_channel s.clock number peer a.channels))) is in
    let more = and_parts (peer.ip.family == a.family) (nat_lt setup.most_channels (length (with_channel s.clock number peer a.channels))) both.1 in
    (both.0, sym (eqb-true peer.ip.family a.family more.0), ltb-true setup.most_channels (length (with_channel s.clock number peer a.channels)) more.1))
    s.relays (any_some (lacks_channels setup s.clock tuple user number peer) s.relays any)

channels_lack : (setup : Setup) (tuple : FiveTuple) (user number : ℕ) (peer : Endpoint) (s : State) → LacksChannels setup tuple user number peer s → list_any (lacks_channels setup s.clock tuple user number peer) s.relays ≡ true
channels_lack setup tuple user number peer s some =
    some_any (lacks_channels setup s.clock tuple user number peer) s.relays
    (some_map (λ a. (is_owned tuple user a ≡ true) × (a.family ≡ peer.ip.family) × (setup.most_channels < length (with_channel s.clock number peer a.channels))) (λ a. lacks_channels setup s.clock tuple user number peer a ≡ true)
    (λ a is. and_from (is_owned tuple user a) ((peer.ip.family == a.family) && nat_lt setup.most_channels (length (with_channel s.clock number peer a.channels))) is.0
    (and_from (peer.ip.family == a.family) (nat_lt setup.most_channels (length (with_channel s.clock number peer a.channels))) (eq-eqb peer.ip.family a.family (sym is.1)) (lt-ltb setup.most_channels (length (with_channel s.clock number peer a.channels)) is.2))) s.relays some)

bound_otherwise : (tuple : FiveTuple) (number : ℕ) (peer : Endpoint) (s : State) → list_any (is_bound_otherwise s.clock tuple number peer) s.relays ≡ true → SomeOf (λ a. (is_of tuple a ≡ true) × SomeOf (IsClash s.clock number peer) a.channels) s.relays
bound_otherwise tuple number peer s any =
    some_map (λ a. is_bound_otherwise s.clock tuple number peer a ≡ true) (λ a. (is_of tuple a ≡ true) × SomeOf (IsClash s.clock number peer) a.channels)
    (λ a is. let both = and_parts (is_of tuple a) (list_any (clashes s.clock number peer) a.channels) is in (both.0, some_map (λ c. clashes s.clock number peer c ≡ true) (IsClash s.clock number peer) (is_clash s.clock number peer) a.channels (any_some (clashes s.clock number peer) a.channels both.1))) s.relays (any_some (is_bound_otherwise s.clock tuple number peer) s.relays any)

otherwise_bound : (tuple : FiveTuple) (number : ℕ) (peer : Endpoint) (s : State) → SomeOf (λ a. (is_of tuple a ≡ true) × SomeOf (IsClash s.clock number peer) a.channels) s.relays → list_any (is_bound_otherwise s.clock tuple number peer) s.relays ≡ true
otherwise_bound tuple number peer s some =
    some_any (is_bound_otherwise s.clock tuple number peer) s.relays
    (some_map (λ a. (is_of tuple a ≡ true) × SomeOf (IsClash s.clock number peer) a.channels) (λ a. is_bound_otherwise s.clock tuple number peer a ≡ true)
    (λ a both. and_from (is_of tuple a) (list_any (clashes s.clock number peer) a.channels) both.0 (some_any (clashes s.clock number peer) a.channels (some_map (IsClash s.clock number peer) (λ c. clashes s.clock number peer c ≡ true) (clash_is s.clock number peer) a.channels both.1))) s.relays some)

if_of_none : (of any : Bool) → (of && any) ≡ false → of ≡ true → any ≡ false
if_of_none true any none is = none
if_of_none false any none is = absurd (false≢true is)

of_none_if : (of any : Bool) → (of ≡ true → any ≡ false) → (of && any) ≡ false
of_none_if true any f = f refl
of_none_if false any f = refl

good : (setup : Setup) (tuple : FiveTuple) (number : ℕ) (peer : Endpoint) (s : State) → not (is_channel_number setup number) ≡ false → list_any (is_bound_otherwise s.clock tuple number peer) s.relays ≡ false → IsGoodNumber setup tuple number peer s
good setup tuple number peer s is none =
    let both = and_parts (not (nat_lt number 0x4000)) (not (nat_lt setup.last_channel number)) (not_no (is_channel_number setup number) is) in (
      ltb-false number 0x4000 (not_yes (nat_lt number 0x4000) both.0),
      ltb-false setup.last_channel number (not_yes (nat_lt setup.last_channel number) both.1),
      each_map (λ a. is_bound_otherwise s.clock tuple number peer a ≡ false) (λ a. is_of tuple a ≡ true → AllByRecursion (λ c. ¬ (IsClash s.clock number peer c)) a.channels)
          (λ a isnt of. each_map (λ c. clashes s.clock number peer c ≡ false) (λ c. ¬ (IsClash s.clock number peer c)) (is_no_clash s.clock number peer) a.channels (any_none (clashes s.clock number peer) a.channels (if_of_none (is_of tuple a) (list_any (clashes s.clock number peer) a.channels) isnt of))) s.relays (any_none (is_bound_otherwise s.clock tuple number peer) s.relays none),
    )

good_is : (setup : Setup) (tuple : FiveTuple) (number : ℕ) (peer : Endpoint) (s : State) → IsGoodNumber setup tuple number peer s → not (is_channel_number setup number) ≡ false
good_is setup tuple number peer s g = ap not (and_from (not (nat_lt number 0x4000)) (not (nat_lt setup.last_channel number)) (ap not (le-ltb number 0x4000 g.0)) (ap not (le-ltb setup.last_channel number g.1)))

good_free : (setup : Setup) (tuple : FiveTuple) (number : ℕ) (peer : Endpoint) (s : State) → IsGoodNumber setup tuple number peer s → list_any (is_bound_otherwise s.clock tuple number peer) s.relays ≡ false
good_free setup tuple number peer s g =
    none_any (is_bound_otherwise s.clock tuple number peer) s.relays (each_map (λ a. is_of tuple a ≡ true → AllByRecursion (λ c. ¬ (IsClash s.clock number peer c)) a.channels) (λ a. is_bound_otherwise s.clock tuple number peer a ≡ false)
    (λ a f. of_none_if (is_of tuple a) (list_any (clashes s.clock number peer) a.channels) (λ of. none_any (clashes s.clock number peer) a.channels (each_map (λ c. ¬ (IsClash s.clock number peer c)) (λ c. clashes s.clock number peer c ≡ false) (no_clash_is s.clock number peer) a.channels (f of)))) s.relays g.2)

no_number : (least most : Bool) → not (not least && not most) ≡ true → (least ≡ true) ⊎ (most ≡ true)
no_number true most e = inl refl
no_number false true e = inr refl
no_number false false e = absurd (false≢true e)

bad_least : (least most : Bool) → least ≡ true → not (not least && not most) ≡ true
bad_least true most e = refl
bad_least false most e = absurd (false≢true e)

bad_most : (least most : Bool) → most ≡ true → not (not least && not most) ≡ true
bad_most true true e = refl
bad_most false true e = refl
bad_most least false e = absurd (false≢true e)

bad : (setup : Setup) (tuple : FiveTuple) (number : ℕ) (peer : Endpoint) (s : State) → (not (is_channel_number setup number) ≡ true) ⊎ (list_any (is_bound_otherwise s.clock tuple number peer) s.relays ≡ true) → IsBadNumber setup tuple number peer s
bad setup tuple number peer s (inl isnt) = elim (no_number (nat_lt number 0x4000) (nat_lt setup.last_channel number) isnt) [
  | inl least ↦ inl (ltb-true number 0x4000 least)
  | inr most ↦ inr (inl (ltb-true setup.last_channel number most))
]
bad setup tuple number peer s (inr bound) = inr (inr (bound_otherwise tuple number peer s bound))

is_bad : (setup : Setup) (tuple : FiveTuple) (number : ℕ) (peer : Endpoint) (s : State) → IsBadNumber setup tuple number peer s → (not (is_channel_number setup number) ≡ true) ⊎ (list_any (is_bound_otherwise s.clock tuple number peer) s.relays ≡ true)
is_bad setup tuple number peer s (inl least) = inl (bad_least (nat_lt number 0x4000) (nat_lt setup.last_channel number) (lt-ltb number 0x4000 least))
is_bad setup tuple number peer s (inr (inl most)) = inl (bad_most (nat_lt number 0x4000) (nat_lt setup.last_channel number) (lt-ltb setup.last_channel number most))
is_bad setup tuple number peer s (inr (inr bound)) = inr (otherwise_bound tuple number peer s bound)

-- ---- Refresh

uncovered : (tuple : FiveTuple) (family : Option ℕ) (s : State) → not (has_wanted tuple family s) ≡ true → IsUncovered tuple family s
uncovered tuple None s e = false≢true e
uncovered tuple (Some family) s e = any_none (is_for tuple family) s.relays (not_yes (has_of tuple family s) e)

is_uncovered : (tuple : FiveTuple) (family : Option ℕ) (s : State) → IsUncovered tuple family s → not (has_wanted tuple family s) ≡ true
is_uncovered tuple None s e = absurd e
is_uncovered tuple (Some family) s e = ap not (none_any (is_for tuple family) s.relays e)

pub refresh_refusals : (setup : Setup) (rules : Rules) (state : State) (now : ℕ) (tuple : FiveTuple) (user : ℕ) (family lifetime : Option ℕ) → RefreshRefusals setup rules state now tuple user family lifetime
refresh_refusals setup rules state now tuple user family lifetime =
    let s = at now state in
    let r = refresh family lifetime in
    let first = not (has_any tuple s) in
    let second = has_of_another tuple user s in
    let third = not (has_wanted tuple family s) in
    record {
      mismatch = (
        λ e. free tuple s (not_yes (has_any tuple s) (refresh_437_is first second third (refused_for setup rules tuple user r s 437 e).fault_is)),
        λ is. for_refused setup rules tuple user r s 437 (record { new = refl; fault_is = refresh_437_if first second third (ap not (free_has tuple s is)) }),
      );
      wrong_user = (
        λ e. anothers tuple user s (refresh_441_is first second third (refused_for setup rules tuple user r s 441 e).fault_is).1,
        λ is. for_refused setup rules tuple user r s 441 (record { new = refl; fault_is = refresh_441_if first second third (anothers_has tuple user s is) (anothers_is tuple user s is) }),
      );
      family_mismatch = (
        λ e. let p = refresh_443_is first second third (refused_for setup rules tuple user r s 443 e).fault_is in (own tuple user s (not_no (has_any tuple s) p.0) p.1, uncovered tuple family s p.2),
        λ is. for_refused setup rules tuple user r s 443 (record { new = refl; fault_is = refresh_443_if first second third (own_has tuple user s is.0) (own_his tuple user s is.0) (is_uncovered tuple family s is.1) }),
      );
      no_other = λ code e. refresh_codes first second third code (refused_for setup rules tuple user r s code e).fault_is;
    }

-- ---- CreatePermission

pub permit_refusals : (setup : Setup) (rules : Rules) (state : State) (now : ℕ) (tuple : FiveTuple) (user : ℕ) (peers : List Endpoint) → PermitRefusals setup rules state now tuple user peers
permit_refusals setup rules state now tuple user peers =
    let s = at now state in
    let r = permit peers in
    let allowed = λ (peer : Endpoint). rules.allows_ip peer.ip in
    let first = not (has_any tuple s) in
    let second = has_of_another tuple user s in
    let third = not (have_families tuple peers s) in
    let fourth = not (list_all allowed peers) in
    let fifth = list_any (lacks_permissions setup s.clock tuple user peers) s.relays in
    record {
      mismatch = (
        λ e. free tuple s (not_yes (has_any tuple s) (permit_437_is first second third fourth fifth (refused_for setup rules tuple user r s 437 e).fault_is)),
        λ is. for_refused setup rules tuple user r s 437 (record { new = refl; fault_is = permit_437_if first second third fourth fifth (ap not (free_has tuple s is)) }),
      );
      wrong_user = (
        λ e. anothers tuple user s (permit_441_is first second third fourth fifth (refused_for setup rules tuple user r s 441 e).fault_is).1,
        λ is. for_refused setup rules tuple user r s 441 (record { new = refl; fault_is = permit_441_if first second third fourth fifth (anothers_has tuple user s is) (anothers_is tuple user s is) }),
      );
      family_mismatch = (
        λ e.
            let p = permit_443_is first second third fourth fifth (refused_for setup rules tuple user r s 443 e).fault_is in
            (own tuple user s (not_no (has_any tuple s) p.0) p.1, family_lacks tuple peers s (not_yes (have_families tuple peers s) p.2)),
        λ is. for_refused setup rules tuple user r s 443 (record { new = refl; fault_is = permit_443_if first second third fourth fifth (own_has tuple user s is.0) (own_his tuple user s is.0) (ap not (lacks_family tuple peers s is.1)) }),
      );
      forbidden = (
        λ e.
            let p = permit_403_is first second third fourth fifth (refused_for setup rules tuple user r s 403 e).fault_is in
            (own tuple user s (not_no (has_any tuple s) p.0) p.1, families tuple peers s (not_no (have_families tuple peers s) p.2), not_all_some allowed peers (not_yes (list_all allowed peers) p.3)),
        λ is. for_refused setup rules tuple user r s 403 (record { new = refl; fault_is = permit_403_if first second third fourth fifth (own_has tuple user s is.0) (own_his tuple user s is.0) (ap not (families_has tuple peers s is.1)) (ap not (some_not_all allowed peers is.2)) }),
      );
      unable = (
        λ e.
            let p = permit_508_is first second third fourth fifth (refused_for setup rules tuple user r s 508 e).fault_is in
            (own tuple user s (not_no (has_any tuple s) p.0) p.1, families tuple peers s (not_no (have_families tuple peers s) p.2), all_each allowed peers (not_no (list_all allowed peers) p.3), no_permissions setup tuple user peers s p.4),
        λ is. for_refused setup rules tuple user r s 508 (record {
          new = refl;
          fault_is = permit_508_if first second third fourth fifth (own_has tuple user s is.0) (own_his tuple user s is.0) (ap not (families_has tuple peers s is.1)) (ap not (each_all allowed peers is.2)) (permissions_lack setup tuple user peers s is.3);
        }),
      );
      no_other = λ code e. permit_codes first second third fourth fifth code (refused_for setup rules tuple user r s code e).fault_is;
    }

-- ---- ChannelBind

lacks_either : (setup : Setup) (tuple : FiveTuple) (user number : ℕ) (peer : Endpoint) (s : State) → (list_any (lacks_permissions setup s.clock tuple user (peer ∷ [])) s.relays || list_any (lacks_channels setup s.clock tuple user number peer) s.relays) ≡ true
    → LacksPermissions setup tuple user (peer ∷ []) s ⊎ LacksChannels setup tuple user number peer s
lacks_either setup tuple user number peer s any =
    elim (or_cases (list_any (lacks_permissions setup s.clock tuple user (peer ∷ [])) s.relays) (list_any (lacks_channels setup s.clock tuple user number peer) s.relays) any) [
      | inl p ↦ inl (no_permissions setup tuple user (peer ∷ []) s p)
      | inr q ↦ inr (no_channels setup tuple user number peer s q)
    ]

either_lacks : (setup : Setup) (tuple : FiveTuple) (user number : ℕ) (peer : Endpoint) (s : State) → LacksPermissions setup tuple user (peer ∷ []) s ⊎ LacksChannels setup tuple user number peer s
    → (list_any (lacks_permissions setup s.clock tuple user (peer ∷ [])) s.relays || list_any (lacks_channels setup s.clock tuple user number peer) s.relays) ≡ true
either_lacks setup tuple user number peer s (inl p) = or_left (list_any (lacks_permissions setup s.clock tuple user (peer ∷ [])) s.relays) (list_any (lacks_channels setup s.clock tuple user number peer) s.relays) (permissions_lack setup tuple user (peer ∷ []) s p)
either_lacks setup tuple user number peer s (inr q) = or_right (list_any (lacks_permissions setup s.clock tuple user (peer ∷ [])) s.relays) (list_any (lacks_channels setup s.clock tuple user number peer) s.relays) (channels_lack setup tuple user number peer s q)

pub bind_refusals : (setup : Setup) (rules : Rules) (state : State) (now : ℕ) (tuple : FiveTuple) (user number : ℕ) (peer : Endpoint) → BindRefusals setup rules state now tuple user number peer
bind_refusals setup rules state now tuple user number peer =
    let s = at now state in
    let r = bind number peer in
    let first = not (has_any tuple s) in
    let second = has_of_another tuple user s in
    let third = not (is_channel_number setup number) in
    let fourth = list_any (is_bound_otherwise s.clock tuple number peer) s.relays in
    let fifth = not (has_of tuple peer.ip.family s) in
    let sixth = not (rules.allows_ip peer.ip && rules.allows_port peer) in
    let seventh = list_any (lacks_permissions setup s.clock tuple user (peer ∷ [])) s.relays || list_any (lacks_channels setup s.clock tuple user number peer) s.relays in
    record {
      mismatch = (
        λ e. free tuple s (not_yes (has_any tuple s) (bind_437_is first second third fourth fifth sixth seventh (refused_for setup rules tuple user r s 437 e).fault_is)),
        λ is. for_refused setup rules tuple user r s 437 (record { new = refl; fault_is = bind_437_if first second third fourth fifth sixth seventh (ap not (free_has tuple s is)) }),
      );
      wrong_user = (
        λ e. anothers tuple user s (bind_441_is first second third fourth fifth sixth seventh (refused_for setup rules tuple user r s 441 e).fault_is).1,
        λ is. for_refused setup rules tuple user r s 441 (record { new = refl; fault_is = bind_441_if first second third fourth fifth sixth seventh (anothers_has tuple user s is) (anothers_is tuple user s is) }),
      );
      bad_number = (
        λ e.
            let p = bind_400_is first second third fourth fifth sixth seventh (refused_for setup rules tuple user r s 400 e).fault_is in
            (own tuple user s (not_no (has_any tuple s) p.0) p.1, bad setup tuple number peer s p.2),
        λ is. for_refused setup rules tuple user r s 400 (record { new = refl; fault_is = bind_400_if first second third fourth fifth sixth seventh (own_has tuple user s is.0) (own_his tuple user s is.0) (is_bad setup tuple number peer s is.1) }),
      );
      family_mismatch = (
        λ e.
            let p = bind_443_is first second third fourth fifth sixth seventh (refused_for setup rules tuple user r s 443 e).fault_is in
            (own tuple user s (not_no (has_any tuple s) p.0) p.1, good setup tuple number peer s p.2 p.3, any_none (is_for tuple peer.ip.family) s.relays (not_yes (has_of tuple peer.ip.family s) p.4)),
        λ is. for_refused setup rules tuple user r s 443 (record {
          new = refl;
          fault_is = bind_443_if first second third fourth fifth sixth seventh (own_has tuple user s is.0) (own_his tuple user s is.0) (good_is setup tuple number peer s is.1) (good_free setup tuple number peer s is.1) (ap not (none_any (is_for tuple peer.ip.family) s.relays is.2));
        }),
      );
      forbidden = (
        λ e.
            let p = bind_403_is first second third fourth fifth sixth seventh (refused_for setup rules tuple user r s 403 e).fault_is in
            (own tuple user s (not_no (has_any tuple s) p.0) p.1, good setup tuple number peer s p.2 p.3, any_some (is_for tuple peer.ip.family) s.relays (not_no (has_of tuple peer.ip.family s) p.4), not_yes (allows rules peer) p.5),
        λ is. for_refused setup rules tuple user r s 403 (record {
          new = refl;
          fault_is = bind_403_if first second third fourth fifth sixth seventh (own_has tuple user s is.0) (own_his tuple user s is.0) (good_is setup tuple number peer s is.1) (good_free setup tuple number peer s is.1)
              (ap not (some_any (is_for tuple peer.ip.family) s.relays is.2)) (ap not is.3);
        }),
      );
      unable = (
        λ e.
            let p = bind_508_is first second third fourth fifth sixth seventh (refused_for setup rules tuple user r s 508 e).fault_is in
            (own tuple user s (not_no (has_any tuple s) p.0) p.1, good setup tuple number peer s p.2 p.3, any_some (is_for tuple peer.ip.family) s.relays (not_no (has_of tuple peer.ip.family s) p.4), not_no (allows rules peer) p.5, lacks_either setup tuple user number peer s p.6),
        λ is. for_refused setup rules tuple user r s 508 (record {
          new = refl;
          fault_is = bind_508_if first second third fourth fifth sixth seventh (own_has tuple user s is.0) (own_his tuple user s is.0) (good_is setup tuple number peer s is.1) (good_free setup tuple number peer s is.1)
              (ap not (some_any (is_for tuple peer.ip.family) s.relays is.2)) (ap not is.3) (either_lacks setup tuple user number peer s is.4);
        }),
      );
      no_other = λ code e. bind_codes first second third fourth fifth sixth seventh code (refused_for setup rules tuple user r s code e).fault_is;
    }

-- ---- Allocate

again_of : (tuple : FiveTuple) (user id : ℕ) (s : State) → list_any (λ a. is_owned tuple user a && (a.transaction_id == id)) s.relays ≡ false → IsAgain tuple user id s → ⊥
again_of tuple user id s none some =
    false≢true (sym none ∙ some_any (λ a. is_owned tuple user a && (a.transaction_id == id)) s.relays
    (some_map (λ a. (is_owned tuple user a ≡ true) × (a.transaction_id ≡ id)) (λ a. (is_owned tuple user a && (a.transaction_id == id)) ≡ true) (λ a both. and_from (is_owned tuple user a) (a.transaction_id == id) both.0 (eq-eqb a.transaction_id id both.1)) s.relays some))

not_again : (tuple : FiveTuple) (user id : ℕ) (s : State) → (IsAgain tuple user id s → ⊥) → list_any (λ a. is_owned tuple user a && (a.transaction_id == id)) s.relays ≡ false
not_again tuple user id s never =
    not_true (list_any (λ a. is_owned tuple user a && (a.transaction_id == id)) s.relays)
    (λ any. never (some_map (λ a. (is_owned tuple user a && (a.transaction_id == id)) ≡ true) (λ a. (is_owned tuple user a ≡ true) × (a.transaction_id ≡ id))
    (λ a is. let both = and_parts (is_owned tuple user a) (a.transaction_id == id) is in (both.0, eqb-true a.transaction_id id both.1)) s.relays (any_some (λ a. is_owned tuple user a && (a.transaction_id == id)) s.relays any)))

unready_none : (setup : Setup) (wants : List Want) → IsUnready setup wants → list_any (is_ready setup) wants ≡ false
unready_none setup wants each =
    none_any (is_ready setup) wants (each_map (λ w. setup.has_family w.family ≡ true → w.ready ≡ None) (λ w. is_ready setup w ≡ false) (λ w f. of_none_if (setup.has_family w.family) (is_some w.ready) (λ has. ap (λ (o : Option Offer). is_some o) (f has))) wants each)

lacks_room : (setup : Setup) (wants : List Want) (s : State) → (not (has_room setup s) ≡ true) ⊎ (not (list_any (is_ready setup) wants) ≡ true) → (setup.most_relays ≤ length s.relays) ⊎ IsUnready setup wants
lacks_room setup wants s (inl full) = inl (ltb-false (length s.relays) setup.most_relays (not_yes (has_room setup s) full))
lacks_room setup wants s (inr none) = inr (unready setup wants (not_yes (list_any (is_ready setup) wants) none))

room_lacks : (setup : Setup) (wants : List Want) (s : State) → (setup.most_relays ≤ length s.relays) ⊎ IsUnready setup wants → (not (has_room setup s) ≡ true) ⊎ (not (list_any (is_ready setup) wants) ≡ true)
room_lacks setup wants s (inl full) = inl (ap not (le-ltb (length s.relays) setup.most_relays full))
room_lacks setup wants s (inr none) = inr (ap not (unready_none setup wants none))

pub allocate_refusals : (setup : Setup) (rules : Rules) (state : State) (now : ℕ) (tuple : FiveTuple) (user id : ℕ) (lifetime : Option ℕ) (wants : List Want) → AllocateRefusals setup rules state now tuple user id lifetime wants
allocate_refusals setup rules state now tuple user id lifetime wants =
    let s = at now state in
    let r = allocate id lifetime wants in
    let count = count_by (is_users user) s.relays in
    let first = has_any tuple s in
    let second = not (list_any (is_offered setup) wants) in
    let third = not (has_quota setup user s) in
    let fourth = not (has_room setup s) in
    let fifth = not (list_any (is_ready setup) wants) in
    let new = λ (is : IsFree tuple s). free_again tuple user id s.relays is in
    record {
      mismatch = (
        λ e. let f = refused_for setup rules tuple user r s 437 e in (any_some (is_of tuple) s.relays (allocate_437_is first second third fourth fifth f.fault_is), again_of tuple user id s f.new),
        λ is. for_refused setup rules tuple user r s 437 (record { new = not_again tuple user id s is.1; fault_is = allocate_437_if first second third fourth fifth (some_any (is_of tuple) s.relays is.0) }),
      );
      no_family = (
        λ e. let p = allocate_440_is first second third fourth fifth (refused_for setup rules tuple user r s 440 e).fault_is in (free tuple s p.0, any_none (is_offered setup) wants (not_yes (list_any (is_offered setup) wants) p.1)),
        λ is. for_refused setup rules tuple user r s 440 (record { new = new is.0; fault_is = allocate_440_if first second third fourth fifth (free_has tuple s is.0) (ap not (none_any (is_offered setup) wants is.1)) }),
      );
      over_quota = (
        λ e.
            let p = allocate_486_is first second third fourth fifth (refused_for setup rules tuple user r s 486 e).fault_is in
            record { free = free tuple s p.0; family = any_some (is_offered setup) wants (not_no (list_any (is_offered setup) wants) p.1); quota = ltb-false count setup.most_of_user (not_yes (has_quota setup user s) p.2) },
        λ is. for_refused setup rules tuple user r s 486 (record {
          new = new is.free;
          fault_is = allocate_486_if first second third fourth fifth (free_has tuple s is.free) (ap not (some_any (is_offered setup) wants is.family)) (ap not (le-ltb count setup.most_of_user is.quota));
        }),
      );
      unable = (
        λ e.
            let p = allocate_508_is first second third fourth fifth (refused_for setup rules tuple user r s 508 e).fault_is in
            record {
              free = free tuple s p.0;
              family = any_some (is_offered setup) wants (not_no (list_any (is_offered setup) wants) p.1);
              quota = ltb-true count setup.most_of_user (not_no (has_quota setup user s) p.2);
              lacks = lacks_room setup wants s p.3;
            },
        λ is. for_refused setup rules tuple user r s 508 (record {
          new = new is.free;
          fault_is = allocate_508_if first second third fourth fifth (free_has tuple s is.free) (ap not (some_any (is_offered setup) wants is.family)) (ap not (lt-ltb count setup.most_of_user is.quota)) (room_lacks setup wants s is.lacks);
        }),
      );
      no_other = λ code e. allocate_codes first second third fourth fifth code (refused_for setup rules tuple user r s code e).fault_is;
    }

-- ---- Requests that are unfit

two_rows : (has anothers : Bool) (code : ℕ) → has ≡ true → anothers ≡ false → row (not has) 437 (row anothers 441 (Some code)) ≡ Some code
two_rows true false code a b = refl
two_rows false anothers code a b = absurd (false≢true a)
two_rows has true code a b = absurd (false≢true (sym b))

first_row : (has : Bool) (others : Option ℕ) → has ≡ false → row (not has) 437 others ≡ Some 437
first_row false others a = refl
first_row true others a = absurd (false≢true (sym a))

second_row : (has anothers : Bool) (others : Option ℕ) → not has ≡ false → anothers ≡ true → row (not has) 437 (row anothers 441 others) ≡ Some 441
second_row true true others a b = refl
second_row false anothers others a b = absurd (false≢true (sym a))
second_row has false others a b = absurd (false≢true b)

in_use_row : (used : Bool) (code : ℕ) → used ≡ true → row used 437 (Some code) ≡ Some 437
in_use_row true code a = refl
in_use_row false code a = absurd (false≢true a)

free_row : (used : Bool) (code : ℕ) → used ≡ false → row used 437 (Some code) ≡ Some code
free_row false code a = refl
free_row true code a = absurd (false≢true (sym a))

pub unfit_refusals : (setup : Setup) (rules : Rules) (state : State) (now : ℕ) (tuple : FiveTuple) (user code : ℕ) → UnfitRefusals setup rules state now tuple user code
unfit_refusals setup rules state now tuple user code =
    let s = at now state in
    let has = has_any tuple s in
    let anothers_are = has_of_another tuple user s in
    record {
      in_use = λ is. for_refused setup rules tuple user (unfit_allocate code) s 437 (record { new = refl; fault_is = in_use_row has code (some_any (is_of tuple) s.relays is) });
      allocate = λ is. for_refused setup rules tuple user (unfit_allocate code) s code (record { new = refl; fault_is = free_row has code (free_has tuple s is) });
      mismatch = λ is. for_refused setup rules tuple user (unfit code) s 437 (record { new = refl; fault_is = first_row has (row anothers_are 441 (Some code)) (free_has tuple s is) });
      wrong_user = λ is. for_refused setup rules tuple user (unfit code) s 441 (record { new = refl; fault_is = second_row has anothers_are (Some code) (anothers_has tuple user s is) (anothers_is tuple user s is) });
      other = λ is. for_refused setup rules tuple user (unfit code) s code (record { new = refl; fault_is = two_rows has anothers_are code (some_any (is_of tuple) s.relays is.has) (own_his tuple user s is) });
    }

-- ---- What has expired takes no room

with_true : (p keep : Bool) → keep ≡ true → p ≡ (p && keep)
with_true true true e = refl
with_true false true e = refl
with_true p false e = absurd (false≢true e)

zero_more : (n : ℕ) → n ≡ 0 + n
zero_more n = omega arith

same_cond : (b : Bool) → b ≡ cond b true false
same_cond true = refl
same_cond false = refl

count_same : {X : Type 0} (p q : X → Bool) → ((x : X) → p x ≡ q x) → (xs : List X) → count_by p xs ≡ count_by q xs
count_same p q same [] = refl
count_same p q same (x ∷ xs) =
    count_cons p x xs ∙ (ap (λ (b : Bool). cond b 1 0 + count_by p xs) (same x) ∙ (ap (λ (n : ℕ). cond (q x) 1 0 + n) (count_same p q same xs) ∙ sym (count_cons q x xs)))

count_filtered : {X : Type 0} (p keep : X → Bool) (xs : List X) → count_by p (filter keep xs) ≡ count_by (λ x. p x && keep x) xs
count_filtered p keep [] = refl
count_filtered p keep (x ∷ xs) =
    let more = count_filtered p keep xs in
    let total = count_cons (λ y. p y && keep y) x xs in
    cond_both (keep x) true false (λ (b : Bool). keep x ≡ b → count_by p (filter keep (x ∷ xs)) ≡ count_by (λ y. p y && keep y) (x ∷ xs))
    (λ _ is.
    ap (λ l. count_by p l) (cond-true (keep x) (x ∷ filter keep xs) (filter keep xs) is)
    ∙ (count_cons p x (filter keep xs) ∙ (ap (λ (n : ℕ). cond (p x) 1 0 + n) more ∙ (ap (λ (b : Bool). cond b 1 0 + count_by (λ y. p y && keep y) xs) (with_true (p x) (keep x) is) ∙ sym total))))
    (λ _ isnt.
    ap (λ l. count_by p l) (cond-false (keep x) (x ∷ filter keep xs) (filter keep xs) isnt)
    ∙ (more ∙ (zero_more (count_by (λ y. p y && keep y) xs) ∙ (ap (λ (b : Bool). cond b 1 0 + count_by (λ y. p y && keep y) xs) (sym (right_false (p x) (keep x) isnt)) ∙ sym total))))
    (same_cond (keep x))

left_parts : (k is lives named : Bool) → ((k && (not is && lives)) && (lives && not named)) ≡ (k && (lives && not (is || named)))
left_parts false is lives named = refl
left_parts true true false named = refl
left_parts true true true named = refl
left_parts true false false named = refl
left_parts true false true named = refl

counted_first : (k is lives : Bool) → (k && (not is && lives)) ≡ (k && (lives && not (is || false)))
counted_first false is lives = refl
counted_first true true false = refl
counted_first true true true = refl
counted_first true false false = refl
counted_first true false true = refl

-- how many IP addresses of a list of peers pass a test, each counted once
abbrev added : (Ip → Bool) → List Endpoint → ℕ
added k [] = 0
added k (peer ∷ peers) = cond (list_any (λ other. is_ip peer.ip other.ip) peers) 0 (cond (k peer.ip) 1 0) + added k peers

-- the test that another IP address than this one passes
abbrev others_of : Ip → (live : Bool) → (Ip → Bool) → Ip → Bool
others_of ip live k i = k i && (not (is_ip ip i) && live)

-- the count splits into one IP address and the others
abbrev Splits : (Ip → Bool) → (ip : Ip) → (live : Bool) → List Endpoint → (is_this : Bool) → Ip → Type 0
Splits k ip live peers is_this i =
    cond (list_any (λ other. is_ip i other.ip) peers) 0 (cond (k i) 1 0) + added k peers
    ≡ cond (is_this || list_any (λ other. is_ip ip other.ip) peers) (cond (k ip) 1 0) 0
    + (cond (list_any (λ other. is_ip i other.ip) peers) 0 (cond (k i && (not is_this && live)) 1 0) + added (others_of ip live k) peers)

split_same : (again here live : Bool) (all others : ℕ) → all ≡ cond again (cond here 1 0) 0 + others → cond again 0 (cond here 1 0) + all ≡ cond here 1 0 + (cond again 0 (cond (here && (false && live)) 1 0) + others)
split_same true true live all others e = omega (arith, e)
split_same true false live all others e = omega (arith, e)
split_same false true live all others e = omega (arith, e)
split_same false false live all others e = omega (arith, e)

split_other : (again passes live : Bool) (here all others : ℕ) → live ≡ true → all ≡ here + others → cond again 0 (cond passes 1 0) + all ≡ here + (cond again 0 (cond (passes && (true && live)) 1 0) + others)
split_other again true true here all others is e = omega (arith, e)
split_other again false true here all others is e = omega (arith, e)
split_other again passes false here all others is e = absurd (false≢true is)

split_at : (k : Ip → Bool) (ip i : Ip) (live : Bool) (peers : List Endpoint) → live ≡ true → added k peers ≡ cond (list_any (λ other. is_ip ip other.ip) peers) (cond (k ip) 1 0) 0 + added (others_of ip live k) peers → Splits k ip live peers (is_ip ip i) i
split_at k ip i live peers is more =
    let mine = list_any (λ other. is_ip ip other.ip) peers in
    let others = added (others_of ip live k) peers in
    cond_both (is_ip ip i) true false (λ (b : Bool). is_ip ip i ≡ b → Splits k ip live peers (is_ip ip i) i)
    (λ _ yes. subst (λ (b : Bool). Splits k ip live peers b i) (sym yes) (subst (λ (x : Ip). Splits k ip live peers true x) (ip_same ip i yes) (split_same mine (k ip) live (added k peers) others more)))
    (λ _ isnt. subst (λ (b : Bool). Splits k ip live peers b i) (sym isnt) (split_other (list_any (λ other. is_ip i other.ip) peers) (k i) live (cond mine (cond (k ip) 1 0) 0) (added k peers) others is more))
    (same_cond (is_ip ip i))

split : (k : Ip → Bool) (ip : Ip) (live : Bool) → live ≡ true → (peers : List Endpoint) → added k peers ≡ cond (list_any (λ other. is_ip ip other.ip) peers) (cond (k ip) 1 0) 0 + added (others_of ip live k) peers
split k ip live is [] = refl
split k ip live is (peer ∷ peers) = split_at k ip peer.ip live peers is (split k ip live is peers)

either_way : (b : Bool) (n : ℕ) → cond b 0 n + cond b n 0 ≡ n
either_way true n = omega arith
either_way false n = omega arith

-- how many of the permissions pass a test, after peers were added: one for each of their IP
-- addresses, and of those before what is left
count_added : (k : Permission → Bool) (now : ℕ) (peer : Endpoint) (peers : List Endpoint) (ps : List Permission)
    → count_by k (with_permissions now (peer ∷ peers) ps) ≡ added (λ i. k (record { ip = i; expires_at = now + seconds 300 })) (peer ∷ peers) + count_by (λ p. k p && is_left now (peer ∷ peers) p) ps
count_added k now peer [] ps =
    let p : Permission = record { ip = peer.ip; expires_at = now + seconds 300 } in
    let head = count_cons k p (filter (is_other_permission now peer.ip) ps) in
    let rest = count_filtered k (is_other_permission now peer.ip) ps in
    let same = count_same (λ q. k q && is_other_permission now peer.ip q) (λ q. k q && is_left now (peer ∷ []) q) (λ q. counted_first (k q) (is_ip peer.ip q.ip) (nat_lt now q.expires_at)) ps in
    omega (arith, head, rest, same)
count_added k now peer (next ∷ peers) ps =
    let p : Permission = record { ip = peer.ip; expires_at = now + seconds 300 } in
    let live = lt-ltb now (now + seconds 300) (omega arith) in
    let before = with_permissions now (next ∷ peers) ps in
    let head = count_cons k p (filter (is_other_permission now peer.ip) before) in
    let rest = count_filtered k (is_other_permission now peer.ip) before in
    let more = count_added (λ q. k q && is_other_permission now peer.ip q) now next peers ps in
    let same = count_same (λ q. (k q && is_other_permission now peer.ip q) && is_left now (next ∷ peers) q) (λ q. k q && is_left now (peer ∷ next ∷ peers) q)
    (λ q. left_parts (k q) (is_ip peer.ip q.ip) (nat_lt now q.expires_at) (list_any (λ e. is_ip e.ip q.ip) (next ∷ peers))) ps in
    let parts = split (λ i. k (record { ip = i; expires_at = now + seconds 300 })) peer.ip (nat_lt now (now + seconds 300)) live (next ∷ peers) in
    let either = either_way (list_any (λ other. is_ip peer.ip other.ip) (next ∷ peers)) (cond (k p) 1 0) in
    omega (arith, head, rest, more, same, parts, either)

count_all : {X : Type 0} (xs : List X) → count_by (λ x. true) xs ≡ length xs
count_all [] = refl
count_all (x ∷ xs) = let more = count_all xs in let here = count_cons (λ y. true) x xs in omega (arith, more, here)

all_added : (peers : List Endpoint) → added (λ i. true) peers ≡ different peers
all_added [] = refl
all_added (peer ∷ peers) = ap (λ (n : ℕ). cond (list_any (λ other. is_ip peer.ip other.ip) peers) 0 1 + n) (all_added peers)

some_room : (now : ℕ) (first : Endpoint) (more : List Endpoint) (ps : List Permission) → length (with_permissions now (first ∷ more) ps) ≡ different (first ∷ more) + count_by (is_left now (first ∷ more)) ps
some_room now first more ps =
    let counted = count_added (λ p. true) now first more ps in
    let all = count_all (with_permissions now (first ∷ more) ps) in
    let each = all_added (first ∷ more) in
    omega (arith, counted, all, each)

pub room_by_live : (now : ℕ) (peers : List Endpoint) (a : Relay) → IsRoomByLive now peers a
room_by_live now peers a = record {
  some = λ first more are. subst (λ (l : List Endpoint). length (with_permissions now l a.permissions) ≡ different (first ∷ more) + count_by (is_left now (first ∷ more)) a.permissions) (sym are) (some_room now first more a.permissions);
  none = λ are. ap (λ (l : List Endpoint). with_permissions now l a.permissions) are;
}

pub many_peers : (peers : List Endpoint) → 64 < length peers → permit_request peers ≡ unfit 508
many_peers peers many = cond-true (nat_lt most_peers (length peers)) (unfit 508) (permit peers) (lt-ltb 64 (length peers) many)

pub few_peers : (peers : List Endpoint) → length peers ≤ 64 → permit_request peers ≡ permit peers
few_peers peers few = cond-false (nat_lt most_peers (length peers)) (unfit 508) (permit peers) (le-ltb 64 (length peers) few)

pub channel_room_by_live : (now number : ℕ) (peer : Endpoint) (cs : List Channel) → IsChannelRoomByLive now number peer cs
channel_room_by_live now number peer cs = let e = length-filter (is_other_channel now number) cs in omega (arith, e)
