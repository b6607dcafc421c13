-- Fit Refresh, CreatePermission and ChannelBind requests are granted.
use Rattle.std.proofs.Common.{◌≡◌, ◌≢◌, ℕ, ◌+◌, ◌≤◌, inl, inr, Bool, true, false, not, cond, List, [], ◌∷◌, ◌++◌, map, filter, find, length, Option, None, Some, refl, sym, ap, ◌∙◌, subst, ltb-true, arith, eqb-true, eq-eqb}
use Rattle.std.specs.List.{AllByRecursion, list_any, list_all}
use Rattle.std.specs.Prelude.{◌==◌, ◌||◌, ◌&&◌, nat_lt}
use Rattle.std.proofs.lemmas.Bool.{cond_both, cond-true, cond-false, and_parts, and_from, or_left, or_right, or_cases, false≢true, lt-ltb, le-ltb}
use Rattle.stun_endpoints.specs.declared.endpoints.Ip.{Ip}
use Rattle.stun_endpoints.specs.declared.endpoints.Endpoint.{Endpoint}
use Rattle.stun_endpoints.specs.declared.endpoints.FiveTuple.{FiveTuple}
use Rattle.stun_endpoints.specs.Endpoints.{is_ip, is_tuple}
use Rattle.turn_machine.specs.Lists.{SomeOf}
use Rattle.turn_machine.specs.Relays.{seconds, Permission, Channel, Relay, Setup, Rules, State, is_of, is_for, is_users, is_owned, is_permission, is_channel, bound_for}
use Rattle.turn_machine.specs.Events.{refresh, permit, bind, refreshed, answers}
use Rattle.turn_machine.specs.Times.{numbers, refreshed_for}
use Rattle.turn_machine.specs.Opening.{has_of}
use Rattle.turn_machine.specs.Rows.{row, has_wanted, is_other_permission, with_permissions, peers_of, permissions_after, lacks_permissions, have_families, permit_rows, is_other_channel, with_channel, clashes, is_bound_otherwise, is_channel_number, lacks_channels, bind_rows, with_permission_for}
use Rattle.turn_machine.specs.Steps.{Step, changed, closing, is_wanted, lasting, permitting, binding, keeping, refreshes, serves}
use Rattle.turn_machine.specs.Granting.{IsClash, HasOf, IsOwn, IsCovered, CanPermit, CanBind, relay_of, OthersStay, IsPermittedFrom, IsFor, IsRefreshed, ArePermitted, IsBound}
use Rattle.stun_endpoints.proofs.AddressesLemmas.{ip_same, ip_is_itself, tuple_same}
use Rattle.turn_machine.proofs.ListsLemmas.{each_map, each_both, find_true, none_any, some_any, each_all, left_false, right_false}
use Rattle.turn_machine.proofs.FaultLemmas.{for_granted}
use Rattle.turn_machine.proofs.RowsLemmas.{no_clash_is}
use Rattle.turn_machine.proofs.GrantingLemmas.{own_none}
use Rattle.turn_machine.proofs.KeptLemmas.{his_same, lasting_same, binding_same, bound_after}

-- ---- What is found after a change

pub find_mapped : {X : Type 0} (test : X → Bool) (change : X → X) → ((x : X) → test (change x) ≡ test x) → (xs : List X) (a : X) → find test xs ≡ Some a → find test (map change xs) ≡ Some (change a)
find_mapped test change same [] a is = absurd cc
find_mapped test change same (x ∷ xs) a is =
    cond_both (test x) (Some x) (find test xs) (λ o. o ≡ Some a → find test (map change (x ∷ xs)) ≡ Some (change a))
    (λ so e. let here : x ≡ a = cc in cond-true (test (change x)) (Some (change x)) (find test (map change xs)) (same x ∙ so) ∙ ap (λ y. Some (change y)) here)
    (λ other e. cond-false (test (change x)) (Some (change x)) (find test (map change xs)) (same x ∙ other) ∙ find_mapped test change same xs a e) is

pub find_stays : {X : Type 0} (test : X → Bool) (change : X → X) → ((x : X) → test x ≡ true → change x ≡ x) → ((x : X) → test x ≡ false → test (change x) ≡ false) → (xs : List X) → find test (map change xs) ≡ find test xs
find_stays test change stays fails [] = refl
find_stays test change stays fails (x ∷ xs) =
    let more = find_stays test change stays fails xs in
    cond_both (test x) (Some x) (find test xs) (λ o. find test (map change (x ∷ xs)) ≡ o)
    (λ so. subst (λ y. find test (y ∷ map change xs) ≡ Some x) (sym (stays x so)) (cond-true (test x) (Some x) (find test (map change xs)) so))
    (λ other_way. cond-false (test (change x)) (Some (change x)) (find test (map change xs)) (fails x other_way) ∙ more)

pub find_filter : {X : Type 0} (test keep : X → Bool) → ((x : X) → keep x ≡ false → test x ≡ false) → (xs : List X) → find test (filter keep xs) ≡ find test xs
find_filter test keep others [] = refl
find_filter test keep others (x ∷ xs) =
    let more = find_filter test keep others xs in
    cond_both (keep x) (x ∷ filter keep xs) (filter keep xs) (λ ys. find test ys ≡ find test (x ∷ xs))
    (λ so. ap (λ o. cond (test x) (Some x) o) more)
    (λ other_way. more ∙ sym (cond-false (test x) (Some x) (find test xs) (others x other_way)))

pub find_none : {X : Type 0} (test : X → Bool) (xs : List X) → AllByRecursion (λ x. test x ≡ false) xs → find test xs ≡ None
find_none test [] each = refl
find_none test (x ∷ xs) each = cond-false (test x) (Some x) (find test xs) each.0 ∙ find_none test xs each.1

-- what is found is an element
pub found_is : {X : Type 0} (P : X → Type 0) (test : X → Bool) (xs : List X) (a : X) → find test xs ≡ Some a → AllByRecursion P xs → P a
found_is P test [] a is each = absurd cc
found_is P test (x ∷ xs) a is each =
    cond_both (test x) (Some x) (find test xs) (λ o. o ≡ Some a → P a)
    (λ so e. let here : x ≡ a = cc in subst P here each.0) (λ _ e. found_is P test xs a e each.1) is

pub some_found : {X : Type 0} (test : X → Bool) (xs : List X) → list_any test xs ≡ true → (a : X) × (find test xs ≡ Some a)
some_found {X = X} test [] any = absurd (false≢true any)
some_found {X = X} test (x ∷ xs) any = elim (or_cases (test x) (list_any test xs) any) [
  | inl first ↦ (x, cond-true (test x) (Some x) (find test xs) first)
  | inr more ↦ let found = some_found test xs more in
      cond_both (test x) (Some x) (find test xs) (λ o. (a : X) × (o ≡ Some a)) (λ _. (x, refl)) (λ _. found)
]

pub not_true : (b : Bool) → (b ≡ true → ⊥) → b ≡ false
not_true true never = absurd (never refl)
not_true false never = refl

-- ---- A change of the client's own

his : (tuple : FiveTuple) (user family : ℕ) (state : State) (a : Relay) → IsOwn tuple user state → relay_of tuple family state ≡ Some a → is_owned tuple user a ≡ true
his tuple user family state a own is =
    let both = and_parts (is_of tuple a) (a.family == family) (find_true (is_for tuple family) state.relays a is) in
    and_from (is_of tuple a) (is_users user a) both.0 (eq-eqb a.user user (found_is (λ b. is_of tuple b ≡ true → b.user ≡ user) (is_for tuple family) state.relays a is own.his both.0))

family_is : (tuple : FiveTuple) (family : ℕ) (state : State) (a : Relay) → relay_of tuple family state ≡ Some a → a.family ≡ family
family_is tuple family state a is = eqb-true a.family family (and_parts (is_of tuple a) (a.family == family) (find_true (is_for tuple family) state.relays a is)).1

-- a change that leaves the 5-tuple and the family is seen where it is looked for
after_change : (tuple : FiveTuple) (user family : ℕ) (change : Relay → Relay) (state : State) (a : Relay) → ((b : Relay) → (change b).tuple ≡ b.tuple) → ((b : Relay) → (change b).family ≡ b.family) → IsOwn tuple user state
    → relay_of tuple family state ≡ Some a → relay_of tuple family (changed tuple user change state) ≡ Some (change a)
after_change tuple user family change state a tuples families own is =
    find_mapped (is_for tuple family) (λ b. cond (is_owned tuple user b) (change b) b)
    (λ b. ap (λ (t : FiveTuple). is_tuple tuple t && ((cond (is_owned tuple user b) (change b) b).family == family)) (his_same (λ c. c.tuple) tuple user change tuples b)
    ∙ ap (λ (f : ℕ). is_of tuple b && (f == family)) (his_same (λ c. c.family) tuple user change families b)) state.relays a is
    ∙ ap (λ (b : Relay). Some b) (cond-true (is_owned tuple user a) (change a) a (his tuple user family state a own is))

pub apart_test : (tuple other : FiveTuple) (user family : ℕ) (a : Relay) → other ≢ tuple → is_for other family a ≡ true → is_owned tuple user a ≡ false
apart_test tuple other user family a differ is =
    let theirs = tuple_same other a.tuple (and_parts (is_of other a) (a.family == family) is).0 in
    not_true (is_owned tuple user a) (λ mine. differ (theirs ∙ sym (tuple_same tuple a.tuple (and_parts (is_of tuple a) (is_users user a) mine).0)))

pub others_stay : (tuple : FiveTuple) (user : ℕ) (change : Relay → Relay) (state : State) → ((b : Relay) → (change b).tuple ≡ b.tuple) → ((b : Relay) → (change b).family ≡ b.family) → OthersStay tuple state (changed tuple user change state)
others_stay tuple user change state tuples families other family differ =
    find_stays (is_for other family) (λ b. cond (is_owned tuple user b) (change b) b)
    (λ b is. cond-false (is_owned tuple user b) (change b) b (apart_test tuple other user family b differ is))
    (λ b isnt. ap (λ (t : FiveTuple). is_tuple other t && ((cond (is_owned tuple user b) (change b) b).family == family)) (his_same (λ c. c.tuple) tuple user change tuples b)
    ∙ (ap (λ (f : ℕ). is_of other b && (f == family)) (his_same (λ c. c.family) tuple user change families b) ∙ isnt)) state.relays

-- ---- Refresh

wanted_of : (wanted : Option ℕ) (family : ℕ) (a : Relay) → IsFor wanted family → a.family ≡ family → is_wanted wanted a ≡ true
wanted_of None family a is same = refl
wanted_of (Some f) family a is same = eq-eqb a.family f (same ∙ sym is)

covered : (tuple : FiveTuple) (wanted : Option ℕ) (state : State) → IsCovered tuple wanted state → has_wanted tuple wanted state ≡ true
covered tuple None state is = refl
covered tuple (Some family) state is = some_any (is_for tuple family) state.relays is

one_row : (b : Bool) (code : ℕ) → b ≡ true → row (not b) code None ≡ None
one_row true code is = refl
one_row false code is = absurd (false≢true is)

reported : (test which : Relay → Bool) (all : List Relay) (a : Relay) → find which all ≡ Some a → test a ≡ true → SomeOf (λ n. n ≡ a.number) (numbers (filter test all))
reported test which [] a is passes = absurd cc
reported test which (x ∷ all) a is passes =
    cond_both (which x) (Some x) (find which all) (λ o. o ≡ Some a → SomeOf (λ n. n ≡ a.number) (numbers (filter test (x ∷ all))))
    (λ _ e.
    let here : x ≡ a = cc in
    subst (λ (l : List Relay). SomeOf (λ n. n ≡ a.number) (numbers l)) (sym (cond-true (test x) (x ∷ filter test all) (filter test all) (subst (λ (y : Relay). test y ≡ true) (sym here) passes)))
    (inl (ap (λ (y : Relay). y.number) here)))
    (λ _ e.
    let more = reported test which all a e passes in
    cond_both (test x) (x ∷ filter test all) (filter test all) (λ (l : List Relay). SomeOf (λ n. n ≡ a.number) (numbers l)) (λ _. inr more) (λ _. more)) is

gone : (keep test : Relay → Bool) (all : List Relay) → AllByRecursion (λ a. test a ≡ true → keep a ≡ false) all → find test (filter keep all) ≡ None
gone keep test [] each = refl
gone keep test (x ∷ all) each =
    let more = gone keep test all each.1 in
    cond_both (keep x) (x ∷ filter keep all) (filter keep all) (λ (l : List Relay). find test l ≡ None)
    (λ kept. cond-false (test x) (Some x) (find test (filter keep all)) (not_true (test x) (λ is. false≢true (sym (each.0 is) ∙ kept))) ∙ more) (λ _. more)

refreshing : (tuple : FiveTuple) (user granted : ℕ) (wanted : Option ℕ) (state : State) → IsOwn tuple user state → IsRefreshed tuple wanted granted state (refreshes tuple user wanted granted state)
refreshing tuple user granted wanted state own =
    let ended = λ (a : Relay). is_owned tuple user a && is_wanted wanted a in
    let change = lasting wanted (state.clock + seconds granted) in
    cond_both (granted == 0) (closing ended (answers tuple (refreshed granted)) state) (keeping (changed tuple user change state) (answers tuple (refreshed granted)))
    (IsRefreshed tuple wanted granted state)
    (λ nought. record {
      output = refl;
      lasts = λ some. absurd (some (eqb-true granted 0 nought));
      ends = λ _ family is. record {
        gone = gone (λ a. not (ended a)) (is_for tuple family) state.relays
            (each_map (λ a. is_of tuple a ≡ true → a.user ≡ user) (λ a. is_for tuple family a ≡ true → not (ended a) ≡ false)
            (λ a mine of. let both = and_parts (is_of tuple a) (a.family == family) of in
            ap not (and_from (is_owned tuple user a) (is_wanted wanted a) (and_from (is_of tuple a) (is_users user a) both.0 (eq-eqb a.user user (mine both.0))) (wanted_of wanted family a is (eqb-true a.family family both.1)))) state.relays own.his);
        reported = λ a of. reported ended (is_for tuple family) state.relays a of
            (and_from (is_owned tuple user a) (is_wanted wanted a) (his tuple user family state a own of) (wanted_of wanted family a is (family_is tuple family state a of)));
      };
      others = λ other family differ. find_filter (is_for other family) (λ a. not (ended a))
          (λ a off. not_true (is_for other family a) (λ of. false≢true (sym off ∙ ap not (left_false (is_owned tuple user a) (is_wanted wanted a) (apart_test tuple other user family a differ of))))) state.relays;
    })
    (λ some. record {
      output = refl;
      lasts = λ _ family is a of.
          after_change tuple user family change state a (lasting_same (λ b. b.tuple) wanted (state.clock + seconds granted) (λ _. refl)) (lasting_same (λ b. b.family) wanted (state.clock + seconds granted) (λ _. refl)) own of
          ∙ ap (λ (b : Relay). Some b) (cond-true (is_wanted wanted a) (record a { expires_at = state.clock + seconds granted }) a (wanted_of wanted family a is (family_is tuple family state a of)));
      ends = λ nought. absurd (false≢true (sym some ∙ eq-eqb granted 0 nought));
      others = others_stay tuple user change state (lasting_same (λ b. b.tuple) wanted (state.clock + seconds granted) (λ _. refl)) (lasting_same (λ b. b.family) wanted (state.clock + seconds granted) (λ _. refl));
    })

pub refresh_granted : (setup : Setup) (rules : Rules) (state : State) (tuple : FiveTuple) (user : ℕ) (wanted lifetime : Option ℕ) → IsOwn tuple user state → IsCovered tuple wanted state
    → IsRefreshed tuple wanted (refreshed_for lifetime setup.greatest_lifetime) state (serves setup rules tuple user (refresh wanted lifetime) state)
refresh_granted setup rules state tuple user wanted lifetime own is =
    subst (IsRefreshed tuple wanted (refreshed_for lifetime setup.greatest_lifetime) state)
    (sym (for_granted setup rules tuple user (refresh wanted lifetime) state refl
    (own_none tuple user state (row (not (has_wanted tuple wanted state)) 443 None) own (one_row (has_wanted tuple wanted state) 443 (covered tuple wanted state is)))))
    (refreshing tuple user (refreshed_for lifetime setup.greatest_lifetime) wanted state own)

-- ---- CreatePermission

-- after the filter no permission of the IP address is left
none_left : (now m : ℕ) (ip new : Ip) (ps : List Permission) → is_ip ip new ≡ true → list_any (is_permission m ip) (filter (is_other_permission now new) ps) ≡ false
none_left now m ip new [] same = refl
none_left now m ip new (p ∷ ps) same =
    let more = none_left now m ip new ps same in
    cond_both (is_other_permission now new p) (p ∷ filter (is_other_permission now new) ps) (filter (is_other_permission now new) ps) (λ (l : List Permission). list_any (is_permission m ip) l ≡ false)
    (λ kept.
    let off = (and_parts (not (is_ip new p.ip)) (nat_lt now p.expires_at) kept).0 in
    let isnt : is_ip ip p.ip ≡ false = not_true (is_ip ip p.ip) (λ is.
    let at : is_ip new p.ip ≡ true = subst (λ (i : Ip). is_ip i p.ip ≡ true) (ip_same ip new same) is in false≢true (sym (ap not at) ∙ off)) in
    ap (λ (b : Bool). b || list_any (is_permission m ip) (filter (is_other_permission now new) ps)) (left_false (is_ip ip p.ip) (nat_lt m p.expires_at) isnt) ∙ more)
    (λ _. more)

-- of another IP address, what hasn't expired stays
pub others_left : (now m : ℕ) (ip new : Ip) (ps : List Permission) → now ≤ m → is_ip ip new ≡ false → list_any (is_permission m ip) (filter (is_other_permission now new) ps) ≡ list_any (is_permission m ip) ps
others_left now m ip new [] le differ = refl
others_left now m ip new (p ∷ ps) le differ =
    let more = others_left now m ip new ps le differ in
    cond_both (is_other_permission now new p) (p ∷ filter (is_other_permission now new) ps) (filter (is_other_permission now new) ps) (λ (l : List Permission). list_any (is_permission m ip) l ≡ list_any (is_permission m ip) (p ∷ ps))
    (λ _. ap (λ (b : Bool). is_permission m ip p || b) more)
    (λ dropped. more ∙ ap (λ (b : Bool). b || list_any (is_permission m ip) ps) (sym (not_true (is_permission m ip p) (λ is.
    let both = and_parts (is_ip ip p.ip) (nat_lt m p.expires_at) is in
    let lasts = ltb-true m p.expires_at both.1 in
    let off : is_ip new p.ip ≡ false = not_true (is_ip new p.ip) (λ at. false≢true (sym differ ∙ subst (λ (i : Ip). is_ip ip i ≡ true) (sym (ip_same new p.ip at)) both.0)) in
    false≢true (sym dropped ∙ and_from (not (is_ip new p.ip)) (nat_lt now p.expires_at) (ap not off) (lt-ltb now p.expires_at (omega (arith, le, lasts))))))))

by_head : (same expires_at rest : Bool) → (same ≡ true → rest ≡ false) → (same ≡ false → rest ≡ expires_at) → ((same && expires_at) || rest) ≡ expires_at
by_head true true rest off on = refl
by_head true false rest off on = off refl
by_head false expires_at rest off on = on refl

or_second : (p q : Bool) → p ≡ false → (p || q) ≡ true → q ≡ true
or_second true q e any = absurd (false≢true (sym e))
or_second false q e any = any

-- the IP address has this one permission
pub exactly_for : (lifetime now m : ℕ) (ip new : Ip) (ps : List Permission) → is_ip ip new ≡ true → list_any (is_permission m ip) (with_permission_for lifetime now new ps) ≡ nat_lt m (now + seconds lifetime)
exactly_for lifetime now m ip new ps same =
    by_head (is_ip ip new) (nat_lt m (now + seconds lifetime)) (list_any (is_permission m ip) (filter (is_other_permission now new) ps))
    (λ _. none_left now m ip new ps same) (λ differ. absurd (false≢true (sym differ ∙ same)))

pub exactly_300 : (now m : ℕ) (ip : Ip) (peers : List Endpoint) (ps : List Permission) → now ≤ m → list_any (λ peer. is_ip ip peer.ip) peers ≡ true → list_any (is_permission m ip) (with_permissions now peers ps) ≡ nat_lt m (now + seconds 300)
exactly_300 now m ip [] ps le any = absurd (false≢true any)
exactly_300 now m ip (peer ∷ peers) ps le any =
    by_head (is_ip ip peer.ip) (nat_lt m (now + seconds 300)) (list_any (is_permission m ip) (filter (is_other_permission now peer.ip) (with_permissions now peers ps)))
    (λ same. none_left now m ip peer.ip (with_permissions now peers ps) same)
    (λ differ. others_left now m ip peer.ip (with_permissions now peers ps) le differ
    ∙ exactly_300 now m ip peers ps le (or_second (is_ip ip peer.ip) (list_any (λ p. is_ip ip p.ip) peers) differ any))

-- each peer is among those of its family
each_named : (peers : List Endpoint) → AllByRecursion (λ peer. (f : ℕ) → (peer.ip.family == f) ≡ true → list_any (λ p. is_ip peer.ip p.ip) (filter (λ p. p.ip.family == f) peers) ≡ true) peers
each_named [] = tt
each_named (x ∷ xs) = (
  λ f is. subst (λ l. list_any (λ p. is_ip x.ip p.ip) l ≡ true) (sym (cond-true (x.ip.family == f) (x ∷ filter (λ p. p.ip.family == f) xs) (filter (λ p. p.ip.family == f) xs) is))
      (or_left (is_ip x.ip x.ip) (list_any (λ p. is_ip x.ip p.ip) (filter (λ p. p.ip.family == f) xs)) (ip_is_itself x.ip)),
  each_map (λ peer. (f : ℕ) → (peer.ip.family == f) ≡ true → list_any (λ p. is_ip peer.ip p.ip) (filter (λ p. p.ip.family == f) xs) ≡ true)
      (λ peer. (f : ℕ) → (peer.ip.family == f) ≡ true → list_any (λ p. is_ip peer.ip p.ip) (filter (λ p. p.ip.family == f) (x ∷ xs)) ≡ true)
      (λ peer here f is. cond_both (x.ip.family == f) (x ∷ filter (λ p. p.ip.family == f) xs) (filter (λ p. p.ip.family == f) xs) (λ l. list_any (λ p. is_ip peer.ip p.ip) l ≡ true)
      (λ _. or_right (is_ip peer.ip x.ip) (list_any (λ p. is_ip peer.ip p.ip) (filter (λ p. p.ip.family == f) xs)) (here f is)) (λ _. here f is)) xs (each_named xs),
)

three_rows : (families allowed lacks : Bool) → families ≡ true → allowed ≡ true → lacks ≡ false → row (not families) 443 (row (not allowed) 403 (row lacks 508 None)) ≡ None
three_rows true true false a b c = refl
three_rows false allowed lacks a b c = absurd (false≢true a)
three_rows families false lacks a b c = absurd (false≢true b)
three_rows families allowed true a b c = absurd (false≢true (sym c))

fits : (his : Bool) (most n : ℕ) → (his ≡ true → n ≤ most) → (his && nat_lt most n) ≡ false
fits false most n le = refl
fits true most n le = le-ltb most n (le refl)

room_for : (setup : Setup) (tuple : FiveTuple) (user : ℕ) (peers : List Endpoint) (state : State) → AllByRecursion (λ a. is_owned tuple user a ≡ true → length (permissions_after state.clock peers a) ≤ setup.most_permissions) state.relays
    → list_any (lacks_permissions setup state.clock tuple user peers) state.relays ≡ false
room_for setup tuple user peers state room =
    none_any (lacks_permissions setup state.clock tuple user peers) state.relays
    (each_map (λ a. is_owned tuple user a ≡ true → length (permissions_after state.clock peers a) ≤ setup.most_permissions) (λ a. lacks_permissions setup state.clock tuple user peers a ≡ false)
    (λ a le. fits (is_owned tuple user a) setup.most_permissions (length (permissions_after state.clock peers a)) le) state.relays room)

families_for : (tuple : FiveTuple) (peers : List Endpoint) (state : State) → AllByRecursion (λ peer. HasOf tuple peer.ip.family state) peers → have_families tuple peers state ≡ true
families_for tuple peers state each =
    each_all (λ peer. has_of tuple peer.ip.family state) peers (each_map (λ peer. HasOf tuple peer.ip.family state) (λ peer. has_of tuple peer.ip.family state ≡ true) (λ peer has. some_any (is_for tuple peer.ip.family) state.relays has) peers each)

permit_fits : (setup : Setup) (rules : Rules) (tuple : FiveTuple) (user : ℕ) (peers : List Endpoint) (state : State) → CanPermit setup rules tuple user peers state → permit_rows setup rules state tuple user peers ≡ None
permit_fits setup rules tuple user peers state can =
    three_rows (have_families tuple peers state) (list_all (λ peer. rules.allows_ip peer.ip) peers) (list_any (lacks_permissions setup state.clock tuple user peers) state.relays)
    (families_for tuple peers state can.families) (each_all (λ peer. rules.allows_ip peer.ip) peers can.allowed) (room_for setup tuple user peers state can.room)

pub permit_granted : (setup : Setup) (rules : Rules) (state : State) (tuple : FiveTuple) (user : ℕ) (peers : List Endpoint) → CanPermit setup rules tuple user peers state → ArePermitted tuple peers state (serves setup rules tuple user (permit peers) state)
permit_granted setup rules state tuple user peers can =
    let change = permitting state.clock peers in
    let new = changed tuple user change state in
    subst (ArePermitted tuple peers state)
    (sym (for_granted setup rules tuple user (permit peers) state refl (own_none tuple user state (permit_rows setup rules state tuple user peers) can.own (permit_fits setup rules tuple user peers state can))))
    (record {
      output = refl;
      each = each_both (λ peer. HasOf tuple peer.ip.family state) (λ peer. (f : ℕ) → (peer.ip.family == f) ≡ true → list_any (λ p. is_ip peer.ip p.ip) (filter (λ p. p.ip.family == f) peers) ≡ true) (λ peer. IsPermittedFrom tuple peer 300 state.clock new)
          (λ peer has named.
          let here = some_found (is_for tuple peer.ip.family) state.relays (some_any (is_for tuple peer.ip.family) state.relays has) in
          let same = family_is tuple peer.ip.family state here.0 here.1 in
          record {
            relay = change here.0;
            is = after_change tuple user peer.ip.family change state here.0 (λ _. refl) (λ _. refl) can.own here.1;
            lasts = λ m le. exactly_300 state.clock m peer.ip (peers_of here.0 peers) here.0.permissions le (named here.0.family (eq-eqb peer.ip.family here.0.family (sym same)));
          }) peers can.families (each_named peers);
      others = others_stay tuple user change state (λ _. refl) (λ _. refl);
    })

-- ---- ChannelBind

if_of : (of any : Bool) → (of ≡ true → any ≡ false) → (of && any) ≡ false
if_of false any f = refl
if_of true any f = f refl

five_rows : (number bound family allowed permissions channels : Bool) → number ≡ true → bound ≡ false → family ≡ true → allowed ≡ true → permissions ≡ false → channels ≡ false
    → row (not number) 400 (row bound 400 (row (not family) 443 (row (not allowed) 403 (row (permissions || channels) 508 None)))) ≡ None
five_rows true false true true false false a b c d e f = refl
five_rows false bound family allowed permissions channels a b c d e f = absurd (false≢true a)
five_rows number true family allowed permissions channels a b c d e f = absurd (false≢true (sym b))
five_rows number bound false allowed permissions channels a b c d e f = absurd (false≢true c)
five_rows number bound family false permissions channels a b c d e f = absurd (false≢true d)
five_rows number bound family allowed true channels a b c d e f = absurd (false≢true (sym e))
five_rows number bound family allowed permissions true a b c d e f = absurd (false≢true (sym f))

fits_family : (his family : Bool) (most n : ℕ) → (his ≡ true → family ≡ true → n ≤ most) → (his && (family && nat_lt most n)) ≡ false
fits_family true true most n le = le-ltb most n (le refl refl)
fits_family true false most n le = refl
fits_family false family most n le = refl

bind_fits : (setup : Setup) (rules : Rules) (tuple : FiveTuple) (user number : ℕ) (peer : Endpoint) (state : State) → CanBind setup rules tuple user number peer state → bind_rows setup rules state tuple user number peer ≡ None
bind_fits setup rules tuple user number peer state can =
    five_rows (is_channel_number setup number) (list_any (is_bound_otherwise state.clock tuple number peer) state.relays) (has_of tuple peer.ip.family state) (rules.allows_ip peer.ip && rules.allows_port peer)
    (list_any (lacks_permissions setup state.clock tuple user (peer ∷ [])) state.relays) (list_any (lacks_channels setup state.clock tuple user number peer) state.relays)
    (and_from (not (nat_lt number 0x4000)) (not (nat_lt setup.last_channel number)) (ap not (le-ltb number 0x4000 can.least)) (ap not (le-ltb setup.last_channel number can.greatest)))
    (none_any (is_bound_otherwise state.clock tuple number peer) state.relays
    (each_map (λ a. is_of tuple a ≡ true → AllByRecursion (λ c. ¬ (IsClash state.clock number peer c)) a.channels) (λ a. is_bound_otherwise state.clock tuple number peer a ≡ false)
    (λ a free. if_of (is_of tuple a) (list_any (clashes state.clock number peer) a.channels) (λ of. none_any (clashes state.clock number peer) a.channels (each_map (λ c. ¬ (IsClash state.clock number peer c)) (λ c. clashes state.clock number peer c ≡ false) (no_clash_is state.clock number peer) a.channels (free of)))) state.relays can.free))
    (some_any (is_for tuple peer.ip.family) state.relays can.permits.families.0)
    (and_from (rules.allows_ip peer.ip) (rules.allows_port peer) can.permits.allowed.0 can.port)
    (room_for setup tuple user (peer ∷ []) state can.permits.room)
    (none_any (lacks_channels setup state.clock tuple user number peer) state.relays
    (each_map (λ a. is_owned tuple user a ≡ true → a.family ≡ peer.ip.family → length (with_channel state.clock number peer a.channels) ≤ setup.most_channels) (λ a. lacks_channels setup state.clock tuple user number peer a ≡ false)
    (λ a le. fits_family (is_owned tuple user a) (peer.ip.family == a.family) setup.most_channels (length (with_channel state.clock number peer a.channels)) (λ of its. le of (sym (eqb-true peer.ip.family a.family its)))) state.relays can.room))

not_among : (now m number : ℕ) (cs : List Channel) → AllByRecursion (λ c. is_channel m number c ≡ false) (filter (is_other_channel now number) cs)
not_among now m number [] = tt
not_among now m number (c ∷ cs) =
    let more = not_among now m number cs in
    cond_both (is_other_channel now number c) (c ∷ filter (is_other_channel now number) cs) (filter (is_other_channel now number) cs) (AllByRecursion (λ d. is_channel m number d ≡ false))
    (λ kept. (left_false (c.number == number) (nat_lt m c.expires_at) (not_true (c.number == number) (λ same. false≢true (sym (ap not same) ∙ (and_parts (not (c.number == number)) (nat_lt now c.expires_at) kept).0))), more))
    (λ _. more)

pub bind_granted : (setup : Setup) (rules : Rules) (state : State) (tuple : FiveTuple) (user number : ℕ) (peer : Endpoint) → CanBind setup rules tuple user number peer state → IsBound setup tuple number peer state (serves setup rules tuple user (bind number peer) state)
bind_granted setup rules state tuple user number peer can =
    let now = state.clock in
    let lifetime = bound_for setup in
    let change = binding lifetime now number peer in
    let tuples : (b : Relay) → (change b).tuple ≡ b.tuple = binding_same (λ b. b.tuple) lifetime now number peer (λ _. refl) in
    let families : (b : Relay) → (change b).family ≡ b.family = binding_same (λ b. b.family) lifetime now number peer (λ _. refl) in
    let has = some_any (is_for tuple peer.ip.family) state.relays can.permits.families.0 in
    let here = some_found (is_for tuple peer.ip.family) state.relays has in
    let a = here.0 in
    let same : (peer.ip.family == a.family) ≡ true = eq-eqb peer.ip.family a.family (sym (family_is tuple peer.ip.family state a here.1)) in
    let is : relay_of tuple peer.ip.family (changed tuple user change state) ≡ Some (bound_after lifetime now number peer a) =
    after_change tuple user peer.ip.family change state a tuples families can.permits.own here.1
    ∙ ap (λ (b : Relay). Some b) (cond-true (peer.ip.family == a.family) (bound_after lifetime now number peer a) a same) in
    let dont_fragment : Channel = record { number = number; peer = peer; expires_at = now + seconds 600 } in
    subst (IsBound setup tuple number peer state)
    (sym (for_granted setup rules tuple user (bind number peer) state refl (own_none tuple user state (bind_rows setup rules state tuple user number peer) can.permits.own (bind_fits setup rules tuple user number peer state can))))
    (record {
      output = refl;
      channel = record {
        relay = bound_after lifetime now number peer a;
        is = is;
        lasts = λ m _ soon. cond-true (is_channel m number dont_fragment) (Some dont_fragment) (find (is_channel m number) (filter (is_other_channel now number) a.channels))
            (and_from (number == number) (nat_lt m (now + seconds 600)) (eq-eqb number number refl) (lt-ltb m (now + seconds 600) soon));
        ends = λ m late. cond-false (is_channel m number dont_fragment) (Some dont_fragment) (find (is_channel m number) (filter (is_other_channel now number) a.channels))
            (right_false (number == number) (nat_lt m (now + seconds 600)) (le-ltb m (now + seconds 600) late))
            ∙ find_none (is_channel m number) (filter (is_other_channel now number) a.channels) (not_among now m number a.channels);
      };
      permission = record {
        relay = bound_after lifetime now number peer a;
        is = is;
        lasts = λ m _. exactly_for lifetime now m peer.ip peer.ip a.permissions (ip_is_itself peer.ip);
      };
      others = others_stay tuple user change state tuples families;
    })

-- more sockets may be reported at the same event
pub some_append : (P : ℕ → Type 0) (xs ys : List ℕ) → SomeOf P ys → SomeOf P (xs ++ ys)
some_append P [] ys some = some
some_append P (x ∷ xs) ys some = inr (some_append P xs ys some)

pub with_closes : (tuple : FiveTuple) (wanted : Option ℕ) (granted : ℕ) (old : State) (s : Step) (more : List ℕ) → IsRefreshed tuple wanted granted old s → IsRefreshed tuple wanted granted old (record s { closes = more ++ s.closes })
with_closes tuple wanted granted old s more is = record {
  output = is.output;
  lasts = is.lasts;
  ends = λ nought family for. let g = is.ends nought family for in record { gone = g.gone; reported = λ a of. some_append (λ n. n ≡ a.number) more s.closes (g.reported a of) };
  others = is.others;
}
