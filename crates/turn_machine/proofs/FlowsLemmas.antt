-- Flows: what the state has for one, and for how long it stays.
use Rattle.std.proofs.Common.{◌≡◌, ℕ, ◌+◌, ◌<◌, ◌≤◌, inl, inr, Bool, true, false, not, cond, List, [], ◌∷◌, ◌++◌, map, filter, find, Option, None, Some, refl, sym, ap, ◌∙◌, subst, eqb-true, eq-eqb, ltb-true, arith}
use Rattle.std.specs.List.{AllByRecursion, list_any}
use Rattle.std.specs.Option.{option_map_or}
use Rattle.std.specs.Prelude.{◌==◌, ◌&&◌, max, min, nat_lt, count_by}
use Rattle.std.proofs.lemmas.Bool.{cond_both, cond-true, cond-false, and_parts, and_from, or_parts, false≢true, lt-ltb}
use Rattle.stun_endpoints.specs.declared.endpoints.Endpoint.{Endpoint}
use Rattle.stun_endpoints.specs.declared.endpoints.FiveTuple.{FiveTuple}
use Rattle.stun_endpoints.specs.Endpoints.{is_ip, is_endpoint, is_tuple}
use Rattle.turn_machine.specs.Lists.{SomeOf}
use Rattle.turn_machine.specs.Relays.{seconds, Permission, Channel, Relay, Setup, Rules, State, is_live, is_of, is_users, is_owned, is_at, is_permission, is_permitted, is_channel, is_channel_of, bound_for}
use Rattle.turn_machine.specs.Events.{Want, Request, allocate, unfit_allocate, refresh, permit, bind, unfit, Event, asks, sends, sends_on, arrives, bounces, ends, ends_user, ticks, refreshed, Output, answers, to_peer, to_client, to_client_on, nothing}
use Rattle.turn_machine.specs.Times.{at, granted_for, refreshed_for}
use Rattle.turn_machine.specs.Opening.{opened, opens}
use Rattle.turn_machine.specs.Data.{allows, sent_by, sent_on, has_channel, by_channel, received}
use Rattle.turn_machine.specs.Steps.{Step, changed, without, closing, is_wanted, lasting, permitting, binding, keeping, fulfils, serves, step}
use Rattle.turn_machine.specs.Runs.{Timed, run, happening}
use Rattle.turn_machine.specs.Works.{output_of}
use Rattle.turn_machine.specs.Flows.{Flow, flow_with, flow_by, flow_on, flow_of, IsRelayed, is_refusal, is_change, IsLeft, IsFirstEnd}
use Rattle.stun_endpoints.proofs.AddressesLemmas.{ip_same, tuple_same, endpoint_is_itself}
use Rattle.turn_machine.proofs.ListsLemmas.{each_map, each_always, each_filtered, find_true, some_map, some_any, any_some, any_none, left_false, right_false, either_false, count_cons, count_filter}
use Rattle.turn_machine.proofs.RowsLemmas.{not_true, not_no}
use Rattle.turn_machine.proofs.CasesLemmas.{serve_cases}
use Rattle.turn_machine.proofs.KeepingLemmas.{granted_least, later, opens_keep}
use Rattle.turn_machine.proofs.KeptLemmas.{lasting_same, binding_same, run_live}
use Rattle.turn_machine.proofs.GrantedLemmas.{found_is, some_found}
use Rattle.turn_machine.proofs.NumbersLemmas.{run_once}
use Rattle.turn_machine.proofs.HoldingLemmas.{find_kept}
use Rattle.turn_machine.proofs.ChannelsLemmas.{run_channels_once}
use Rattle.turn_machine.proofs.StayingLemmas.{differs, clock_kept, counted_some, only_one}
use Rattle.turn_machine.proofs.DueLemmas.{found_some, found_too}
use Rattle.turn_machine.proofs.UniqueLemmas.{IsUnique, run_unique}

same_cond : (b : Bool) → b ≡ cond b true false
same_cond true = refl
same_cond false = refl

-- ---- What is found, found later, or after a change

-- of a stricter test, the same is found
found_still : {X : Type 0} (p q : X → Bool) (xs : List X) (a : X) → ((x : X) → q x ≡ true → p x ≡ true) → find p xs ≡ Some a → q a ≡ true → find q xs ≡ Some a
found_still p q [] a less is passes = absurd cc
found_still p q (x ∷ xs) a less is passes =
    cond_both (p x) (Some x) (find p xs) (λ o. o ≡ Some a → find q (x ∷ xs) ≡ Some a)
    (λ _ e.
    let same : x ≡ a = cc in
    cond-true (q x) (Some x) (find q xs) (subst (λ y. q y ≡ true) (sym same) passes) ∙ e)
    (λ no e. cond-false (q x) (Some x) (find q xs) (not_true (q x) (λ yes. false≢true (sym no ∙ less x yes))) ∙ found_still p q xs a less e passes) is

-- a change that leaves it, and makes no other pass
found_mapped : {X : Type 0} (p : X → Bool) (change : X → X) (xs : List X) (a : X) → ((x : X) → p (change x) ≡ true → p x ≡ true) → find p xs ≡ Some a → change a ≡ a → find p (map change xs) ≡ Some a
found_mapped p change [] a less is same = absurd cc
found_mapped p change (x ∷ xs) a less is same =
    cond_both (p x) (Some x) (find p xs) (λ o. o ≡ Some a → find p (map change (x ∷ xs)) ≡ Some a)
    (λ yes e.
    let here : x ≡ a = cc in
    let stays : change x ≡ x = subst (λ y. change y ≡ y) (sym here) same in
    cond-true (p (change x)) (Some (change x)) (find p (map change xs)) (subst (λ y. p y ≡ true) (sym stays) yes) ∙ (ap (λ y. Some y) stays ∙ e))
    (λ no e. cond-false (p (change x)) (Some (change x)) (find p (map change xs)) (not_true (p (change x)) (λ yes. false≢true (sym no ∙ less x yes))) ∙ found_mapped p change xs a less e same) is

found_any : {X : Type 0} (test : X → Bool) (xs : List X) (a : X) → find test xs ≡ Some a → list_any test xs ≡ true
found_any test xs a is = some_any test xs (some_map (λ x. x ≡ a) (λ x. test x ≡ true) (λ x same. subst (λ y. test y ≡ true) (sym same) (find_true test xs a is)) xs (found_some test xs a is))

-- if at most one passes, each that passes is the one
each_is : {X : Type 0} (test : X → Bool) (xs : List X) (a : X) → count_by test xs ≤ 1 → find test xs ≡ Some a → AllByRecursion (λ x. test x ≡ true → x ≡ a) xs
each_is test [] a one is = tt
each_is test (x ∷ xs) a one is =
    let counted = count_cons test x xs in
    cond_both (test x) true false (λ (b : Bool). test x ≡ b → AllByRecursion (λ y. test y ≡ true → y ≡ a) (x ∷ xs))
    (λ _ yes.
    let e : Some x ≡ Some a = sym (cond-true (test x) (Some x) (find test xs) yes) ∙ is in
    let here : x ≡ a = cc in
    let none : list_any test xs ≡ false = not_true (list_any test xs) (λ any.
    let least = counted_some test xs (any_some test xs any) in
    let c : count_by test (x ∷ xs) ≡ 1 + count_by test xs = counted ∙ ap (λ (b : Bool). cond b 1 0 + count_by test xs) yes in omega (arith, one, c, least)) in
    (λ _. here, each_map (λ y. test y ≡ false) (λ y. test y ≡ true → y ≡ a) (λ y no is_so. absurd (false≢true (sym no ∙ is_so))) xs (any_none test xs none)))
    (λ _ no.
    let c : count_by test (x ∷ xs) ≡ 0 + count_by test xs = counted ∙ ap (λ (b : Bool). cond b 1 0 + count_by test xs) no in
    (λ yes. absurd (false≢true (sym no ∙ yes)), each_is test xs a (omega (arith, one, c)) (sym (cond-false (test x) (Some x) (find test xs) no) ∙ is)))
    (same_cond (test x))

filtered_some : {X : Type 0} (keep : X → Bool) (xs : List X) (a : X) → SomeOf (λ x. x ≡ a) (filter keep xs) → SomeOf (λ x. x ≡ a) xs
filtered_some keep [] a some = some
filtered_some keep (x ∷ xs) a some =
    cond_both (keep x) (x ∷ filter keep xs) (filter keep xs) (λ l. SomeOf (λ y. y ≡ a) l → SomeOf (λ y. y ≡ a) (x ∷ xs))
    (λ _ s. elim s [
      | inl is ↦ inl is
      | inr more ↦ inr (filtered_some keep xs a more)
    ]) (λ _ s. inr (filtered_some keep xs a s)) some

-- what passes a stricter test later passes this test now, and is the one
the_one : {X : Type 0} (p q : X → Bool) (xs : List X) → ((x : X) → q x ≡ true → p x ≡ true) → count_by p xs ≤ 1 → list_any q xs ≡ true → (a : X) × (find p xs ≡ Some a) × (q a ≡ true)
the_one p q xs less one any =
    let some = any_some q xs any in
    let here = some_found p xs (some_any p xs (some_map (λ x. q x ≡ true) (λ x. p x ≡ true) less xs some)) in
    (here.0, here.1, only_one (λ x. q x ≡ true) p xs here.0 one here.1 (some_map (λ x. q x ≡ true) (λ x. (p x ≡ true) × (q x ≡ true)) (λ x yes. (less x yes, yes)) xs some))

-- what is found of what is kept was found, if at most one passes
was_found : {X : Type 0} (p q keep : X → Bool) (xs : List X) (a : X) → ((x : X) → q x ≡ true → p x ≡ true) → count_by p xs ≤ 1 → find q (filter keep xs) ≡ Some a → find p xs ≡ Some a
was_found p q keep xs a less one is =
    let passes = less a (find_true q (filter keep xs) a is) in
    let some = filtered_some keep xs a (found_some q (filter keep xs) a is) in
    let both = some_map (λ x. x ≡ a) (λ x. (p x ≡ true) × (x ≡ a)) (λ x same. (subst (λ y. p y ≡ true) (sym same) passes, same)) xs some in
    let here = some_found p xs (some_any p xs (some_map (λ x. (p x ≡ true) × (x ≡ a)) (λ x. p x ≡ true) (λ x b. b.0) xs both)) in
    here.1 ∙ ap (λ x. Some x) (only_one (λ x. x ≡ a) p xs here.0 one here.1 both)

from_some : {X Y : Type 0} (f : X → Option Y) (o : Option X) (y : Y) → option_map_or f o None ≡ Some y → (x : X) × (o ≡ Some x) × (f x ≡ Some y)
from_some f None y is = absurd cc
from_some f (Some x) y is = (x, refl, is)

from_output : {X : Type 0} (f : X → Output) (o : Option X) (output : Output) → (nothing ≡ output → ⊥) → option_map_or f o nothing ≡ output → (x : X) × (o ≡ Some x) × (f x ≡ output)
from_output f None output never is = absurd (never is)
from_output f (Some x) output never is = (x, refl, is)

from_cond : (b : Bool) (o output : Output) → (nothing ≡ output → ⊥) → cond b o nothing ≡ output → (b ≡ true) × (o ≡ output)
from_cond true o output never is = (refl, is)
from_cond false o output never is = absurd (never is)

sooner : (now m expires_at : ℕ) → now ≤ m → nat_lt m expires_at ≡ true → nat_lt now expires_at ≡ true
sooner now m expires_at le lasts = let l = ltb-true m expires_at lasts in lt-ltb now expires_at (omega (arith, le, l))

channel_sooner : (now m channel : ℕ) → now ≤ m → (c : Channel) → is_channel m channel c ≡ true → is_channel now channel c ≡ true
channel_sooner now m channel le c is =
    let both = and_parts (c.number == channel) (nat_lt m c.expires_at) is in
    and_from (c.number == channel) (nat_lt now c.expires_at) both.0 (sooner now m c.expires_at le both.1)

has_sooner : (now m : ℕ) (tuple : FiveTuple) (channel : ℕ) → now ≤ m → (a : Relay) → has_channel m tuple channel a ≡ true → has_channel now tuple channel a ≡ true
has_sooner now m tuple channel le a is =
    let both = and_parts (is_of tuple a) (list_any (is_channel m channel) a.channels) is in
    and_from (is_of tuple a) (list_any (is_channel now channel) a.channels) both.0
    (some_any (is_channel now channel) a.channels (some_map (λ c. is_channel m channel c ≡ true) (λ c. is_channel now channel c ≡ true) (channel_sooner now m channel le) a.channels (any_some (is_channel m channel) a.channels both.1)))

permission_sooner : (now m : ℕ) (peer : Endpoint) → now ≤ m → (p : Permission) → is_permission m peer.ip p ≡ true → is_permission now peer.ip p ≡ true
permission_sooner now m peer le p is =
    let both = and_parts (is_ip peer.ip p.ip) (nat_lt m p.expires_at) is in
    and_from (is_ip peer.ip p.ip) (nat_lt now p.expires_at) both.0 (sooner now m p.expires_at le both.1)

-- ---- What is held for a flow

pub record Holds (tuple : FiveTuple) (channel : ℕ) (a : Relay) (c : Channel) (p : Permission) (state : State) : Type 0 where
  pub relay : find (has_channel state.clock tuple channel) state.relays ≡ Some a
  pub bound : find (is_channel state.clock channel) a.channels ≡ Some c
  pub permitted : find (is_permission state.clock c.peer.ip) a.permissions ≡ Some p

flow_held : (tuple : FiveTuple) (channel : ℕ) (a : Relay) (c : Channel) (p : Permission) (state : State) → Holds tuple channel a c p state → flow_of state tuple channel ≡ Some (flow_with a c p)
flow_held tuple channel a c p state h =
    ap (λ (o : Option Relay). option_map_or (flow_on state.clock channel) o None) h.relay
    ∙ (ap (λ (o : Option Channel). option_map_or (flow_by state.clock a) o None) h.bound
    ∙ ap (λ (o : Option Permission). option_map_or (λ x. Some (flow_with a c x)) o None) h.permitted)

record IsFlow (tuple : FiveTuple) (channel : ℕ) (flow : Flow) (state : State) : Type 0 where
  a : Relay
  c : Channel
  p : Permission
  holds : Holds tuple channel a c p state
  is : flow_with a c p ≡ flow

flow_is : (tuple : FiveTuple) (channel : ℕ) (flow : Flow) (state : State) → flow_of state tuple channel ≡ Some flow → IsFlow tuple channel flow state
flow_is tuple channel flow state e =
    let one = from_some (flow_on state.clock channel) (find (has_channel state.clock tuple channel) state.relays) flow e in
    let two = from_some (flow_by state.clock one.0) (find (is_channel state.clock channel) one.0.channels) flow one.2 in
    let three = from_some (λ x. Some (flow_with one.0 two.0 x)) (find (is_permission state.clock two.0.peer.ip) one.0.permissions) flow two.2 in
    let same : Some (flow_with one.0 two.0 three.0) ≡ Some flow = three.2 in
    record { a = one.0; c = two.0; p = three.0; holds = record { relay = one.1; bound = two.1; permitted = three.1 }; is = cc }

-- ---- Time

pub holds_at : (tuple : FiveTuple) (channel : ℕ) (a : Relay) (c : Channel) (p : Permission) (state : State) (now : ℕ) → max state.clock now < min a.expires_at (min c.expires_at p.expires_at) → Holds tuple channel a c p state → Holds tuple channel a c p (at now state)
holds_at tuple channel a c p state now soon h =
    let m = max state.clock now in
    let le : state.clock ≤ m = omega arith in
    let c_now = and_parts (c.number == channel) (nat_lt state.clock c.expires_at) (find_true (is_channel state.clock channel) a.channels c h.bound) in
    let p_now = and_parts (is_ip c.peer.ip p.ip) (nat_lt state.clock p.expires_at) (find_true (is_permission state.clock c.peer.ip) a.permissions p h.permitted) in
    let a_now = and_parts (is_of tuple a) (list_any (is_channel state.clock channel) a.channels) (find_true (has_channel state.clock tuple channel) state.relays a h.relay) in
    let bound = found_still (is_channel state.clock channel) (is_channel m channel) a.channels c (channel_sooner state.clock m channel le) h.bound (and_from (c.number == channel) (nat_lt m c.expires_at) c_now.0 (lt-ltb m c.expires_at (omega (arith, soon)))) in
    record {
      relay = find_kept (has_channel m tuple channel) (is_live m) state.relays a
          (found_still (has_channel state.clock tuple channel) (has_channel m tuple channel) state.relays a (has_sooner state.clock m tuple channel le) h.relay
          (and_from (is_of tuple a) (list_any (is_channel m channel) a.channels) a_now.0 (found_any (is_channel m channel) a.channels c bound)))
          (lt-ltb m a.expires_at (omega (arith, soon)));
      bound = bound;
      permitted = found_still (is_permission state.clock c.peer.ip) (is_permission m c.peer.ip) a.permissions p (permission_sooner state.clock m c.peer le) h.permitted (and_from (is_ip c.peer.ip p.ip) (nat_lt m p.expires_at) p_now.0 (lt-ltb m p.expires_at (omega (arith, soon))));
    }

-- ---- Requests of others

apart_change : (tuple other : FiveTuple) (channel user : ℕ) (change : Relay → Relay) (a : Relay) (c : Channel) (p : Permission) (state : State) → ((b : Relay) → (change b).tuple ≡ b.tuple) → is_tuple tuple other ≡ false → Holds tuple channel a c p state → Holds tuple channel a c p (changed other user change state)
apart_change tuple other channel user change a c p state tuples apart h =
    let now = state.clock in
    let after = λ (b : Relay). cond (is_owned other user b) (change b) b in
    let theirs = λ (b : Relay) (his : is_owned other user b ≡ true). tuple_same other b.tuple (and_parts (is_of other b) (is_users user b) his).0 in
    let of = (and_parts (is_of tuple a) (list_any (is_channel now channel) a.channels) (find_true (has_channel now tuple channel) state.relays a h.relay)).0 in
    let not_his : is_owned other user a ≡ false = not_true (is_owned other user a) (λ his. differs tuple other apart (tuple_same tuple a.tuple of ∙ sym (theirs a his))) in
    record {
      relay = found_mapped (has_channel now tuple channel) after state.relays a
          (λ b. cond_both (is_owned other user b) (change b) b (λ (x : Relay). has_channel now tuple channel x ≡ true → has_channel now tuple channel b ≡ true)
          (λ his has. absurd (differs tuple other apart (tuple_same tuple (change b).tuple (and_parts (is_of tuple (change b)) (list_any (is_channel now channel) (change b).channels) has).0 ∙ (tuples b ∙ sym (theirs b his)))))
          (λ _ has. has))
          h.relay (cond-false (is_owned other user a) (change a) a not_his);
      bound = h.bound;
      permitted = h.permitted;
    }

ended_others : (tuple : FiveTuple) (channel : ℕ) (test : Relay → Bool) (a : Relay) (c : Channel) (p : Permission) (state : State) → test a ≡ false → Holds tuple channel a c p state → Holds tuple channel a c p (without test state)
ended_others tuple channel test a c p state stays h = record {
  relay = find_kept (has_channel state.clock tuple channel) (λ b. not (test b)) state.relays a h.relay (ap not stays);
  bound = h.bound;
  permitted = h.permitted;
}

opened_others : (setup : Setup) (tuple other : FiveTuple) (channel user id expires_at : ℕ) (wants : List Want) (a : Relay) (c : Channel) (p : Permission) (state : State) → state.clock < expires_at → Holds tuple channel a c p state → Holds tuple channel a c p (opens setup other user id expires_at wants state)
opened_others setup tuple other channel user id expires_at wants a c p state soon h =
    opens_keep setup (Holds tuple channel a c p) other user id expires_at
    (λ want offer s _ _ _ before.
    let new = opened other user id expires_at want.family s offer in record {
      relay = cond-false (has_channel s.clock tuple channel new) (Some new) (find (has_channel s.clock tuple channel) s.relays) (right_false (is_of tuple new) false refl) ∙ before.relay;
      bound = before.bound;
      permitted = before.permitted;
    }) wants state soon h

fulfilled_others : (setup : Setup) (tuple other : FiveTuple) (channel user : ℕ) (request : Request) (a : Relay) (c : Channel) (p : Permission) (state : State) → is_tuple tuple other ≡ false → Holds tuple channel a c p state → Holds tuple channel a c p (fulfils setup other user request state).state
fulfilled_others setup tuple other channel user (allocate id lifetime wants) a c p state apart h =
    let granted = granted_for lifetime setup.greatest_lifetime in
    opened_others setup tuple other channel user id (state.clock + seconds granted) wants a c p state (later state.clock granted (granted_least lifetime setup.greatest_lifetime)) h
fulfilled_others setup tuple other channel user (unfit_allocate code) a c p state apart h = h
fulfilled_others setup tuple other channel user (refresh wanted lifetime) a c p state apart h =
    let granted = refreshed_for lifetime setup.greatest_lifetime in
    let test = λ (b : Relay). is_owned other user b && is_wanted wanted b in
    let change = lasting wanted (state.clock + seconds granted) in
    let of = (and_parts (is_of tuple a) (list_any (is_channel state.clock channel) a.channels) (find_true (has_channel state.clock tuple channel) state.relays a h.relay)).0 in
    let not_his : is_owned other user a ≡ false = not_true (is_owned other user a) (λ his. differs tuple other apart (tuple_same tuple a.tuple of ∙ sym (tuple_same other a.tuple (and_parts (is_of other a) (is_users user a) his).0))) in
    cond_both (granted == 0) (closing test (answers other (refreshed granted)) state) (keeping (changed other user change state) (answers other (refreshed granted))) (λ (s : Step). Holds tuple channel a c p s.state)
    (λ _. ended_others tuple channel test a c p state (left_false (is_owned other user a) (is_wanted wanted a) not_his) h)
    (λ _. apart_change tuple other channel user change a c p state (lasting_same (λ b. b.tuple) wanted (state.clock + seconds granted) (λ _. refl)) apart h)
fulfilled_others setup tuple other channel user (permit peers) a c p state apart h = apart_change tuple other channel user (permitting state.clock peers) a c p state (λ _. refl) apart h
fulfilled_others setup tuple other channel user (bind number peer) a c p state apart h = apart_change tuple other channel user (binding (bound_for setup) state.clock number peer) a c p state (binding_same (λ b. b.tuple) (bound_for setup) state.clock number peer (λ _. refl)) apart h
fulfilled_others setup tuple other channel user (unfit code) a c p state apart h = h

-- what is fulfilled isn't refused
unrefused : (setup : Setup) (tuple : FiveTuple) (user : ℕ) (request : Request) (state : State) → is_refusal (fulfils setup tuple user request state).output ≡ false
unrefused setup tuple user (allocate id lifetime wants) state = refl
unrefused setup tuple user (unfit_allocate code) state = refl
unrefused setup tuple user (refresh wanted lifetime) state =
    let granted = refreshed_for lifetime setup.greatest_lifetime in
    cond_both (granted == 0) (closing (λ b. is_owned tuple user b && is_wanted wanted b) (answers tuple (refreshed granted)) state) (keeping (changed tuple user (lasting wanted (state.clock + seconds granted)) state) (answers tuple (refreshed granted))) (λ (s : Step). is_refusal s.output ≡ false) (λ _. refl) (λ _. refl)
unrefused setup tuple user (permit peers) state = refl
unrefused setup tuple user (bind number peer) state = refl
unrefused setup tuple user (unfit code) state = refl

-- ---- An event

stays : (setup : Setup) (rules : Rules) (tuple : FiveTuple) (channel user number : ℕ) (a : Relay) (c : Channel) (p : Permission) (state : State) (now : ℕ) (event : Event) → a.user ≡ user → a.number ≡ number → is_change tuple user number (happening setup state (record { now = now; rules = rules; event = event })) ≡ false
    → Holds tuple channel a c p (at now state) → Holds tuple channel a c p (step setup rules state now event).state
stays setup rules tuple channel user number a c p state now (asks other owner request) user_is number_is none h =
    let s = at now state in
    elim (either_false (is_tuple tuple other) (not (is_refusal (serves setup rules other owner request s).output)) none) [
      | inl apart ↦ serve_cases setup rules other owner request s (λ (d : Step). Holds tuple channel a c p d.state) (λ _ _ _. h) (λ _. h) (λ _ _. fulfilled_others setup tuple other channel owner request a c p s apart h)
      | inr refusal ↦ serve_cases setup rules other owner request s (λ (d : Step). is_refusal d.output ≡ true → Holds tuple channel a c p d.state) (λ _ _ _ _. h) (λ _ _. h)
          (λ _ _ is. absurd (false≢true (sym (unrefused setup other owner request s) ∙ is))) (not_no (is_refusal (serves setup rules other owner request s).output) refusal)
    ]
stays setup rules tuple channel user number a c p state now (sends other peer dont_fragment bytes) user_is number_is none h = h
stays setup rules tuple channel user number a c p state now (sends_on other n bytes) user_is number_is none h = h
stays setup rules tuple channel user number a c p state now (arrives n peer bytes) user_is number_is none h = h
stays setup rules tuple channel user number a c p state now (bounces n peer icmp) user_is number_is none h = h
stays setup rules tuple channel user number a c p state now (ends n) user_is number_is none h =
    ended_others tuple channel (is_at n) a c p (at now state) (ap (λ (k : ℕ). k == n) number_is ∙ (or_parts (number == n) false none).0) h
stays setup rules tuple channel user number a c p state now (ends_user u) user_is number_is none h =
    ended_others tuple channel (is_users u) a c p (at now state) (ap (λ (k : ℕ). k == u) user_is ∙ (or_parts (user == u) false none).0) h
stays setup rules tuple channel user number a c p state now ticks user_is number_is none h = h

stay : (setup : Setup) (tuple : FiveTuple) (channel user number : ℕ) (a : Relay) (c : Channel) (p : Permission) (since earlier : List Timed) → a.user ≡ user → a.number ≡ number → IsLeft setup tuple user number since earlier
    → (run setup (since ++ earlier)).clock < min a.expires_at (min c.expires_at p.expires_at) → Holds tuple channel a c p (run setup earlier) → Holds tuple channel a c p (run setup (since ++ earlier))
stay setup tuple channel user number a c p [] earlier user_is number_is left soon h = h
stay setup tuple channel user number a c p (t ∷ since) earlier user_is number_is left soon h =
    let state = run setup (since ++ earlier) in
    let grows : max state.clock t.now ≤ (run setup (t ∷ since ++ earlier)).clock = clock_kept setup t.rules (at t.now state) t.event in
    let before = stay setup tuple channel user number a c p since earlier user_is number_is left.1 (omega (arith, soon, grows)) h in
    stays setup t.rules tuple channel user number a c p state t.now t.event user_is number_is left.0 (holds_at tuple channel a c p state t.now (omega (arith, soon, grows)) before)

-- ---- What is relayed

goes_out : (setup : Setup) (earlier : List Timed) (tuple : FiveTuple) (channel : ℕ) (a : Relay) (c : Channel) (p : Permission) (now : ℕ) (rules : Rules) (bytes : List ℕ) → Holds tuple channel a c p (at now (run setup earlier)) → allows rules c.peer ≡ true
    → output_of setup earlier now rules (sends_on tuple channel bytes) ≡ to_peer a.number c.peer false bytes
goes_out setup earlier tuple channel a c p now rules bytes h allowed =
    let m = max (run setup earlier).clock now in
    ap (λ (o : Option Relay). option_map_or (sent_on rules m channel bytes) o nothing) h.relay
    ∙ (ap (λ (o : Option Channel). option_map_or (sent_by rules bytes a) o nothing) h.bound
    ∙ cond-true (allows rules c.peer) (to_peer a.number c.peer false bytes) nothing allowed)

comes_back : (setup : Setup) (earlier : List Timed) (tuple : FiveTuple) (channel : ℕ) (a : Relay) (c : Channel) (p : Permission) (now : ℕ) (rules : Rules) (bytes : List ℕ) → Holds tuple channel a c p (run setup earlier) → Holds tuple channel a c p (at now (run setup earlier)) → rules.allows_ip c.peer.ip ≡ true
    → output_of setup earlier now rules (arrives a.number c.peer bytes) ≡ to_client_on tuple channel bytes
comes_back setup earlier tuple channel a c p now rules bytes first h allowed =
    let state = run setup earlier in
    let m = max state.clock now in
    let once = (run_once setup earlier).once a.number in
    let fewer = count_filter (is_at a.number) (is_live m) state.relays in
    let at_socket = found_too (has_channel m tuple channel) (is_at a.number) (at now state).relays a h.relay (eq-eqb a.number a.number refl) (omega (arith, once, fewer)) in
    let unique = found_is IsUnique (has_channel state.clock tuple channel) state.relays a first.relay (run_unique setup earlier) in
    let live = and_parts (c.number == channel) (nat_lt m c.expires_at) (find_true (is_channel m channel) a.channels c h.bound) in
    let of_peer = found_too (is_channel m channel) (is_channel_of m c.peer) a.channels c h.bound (and_from (is_endpoint c.peer c.peer) (nat_lt m c.expires_at) (endpoint_is_itself c.peer) live.1) (unique.peer m c.peer) in
    let permitted = found_any (is_permission m c.peer.ip) a.permissions p h.permitted in
    let his : a.tuple ≡ tuple = sym (tuple_same tuple a.tuple (and_parts (is_of tuple a) (list_any (is_channel m channel) a.channels) (find_true (has_channel m tuple channel) (at now state).relays a h.relay)).0) in
    ap (λ (o : Option Relay). option_map_or (received rules m c.peer bytes) o nothing) at_socket
    ∙ (cond-true (is_permitted m c.peer.ip a && rules.allows_ip c.peer.ip) (option_map_or (by_channel c.peer bytes a) (find (is_channel_of m c.peer) a.channels) (to_client a.tuple c.peer bytes)) nothing
    (and_from (is_permitted m c.peer.ip a) (rules.allows_ip c.peer.ip) permitted allowed)
    ∙ (ap (λ (o : Option Channel). option_map_or (by_channel c.peer bytes a) o (to_client a.tuple c.peer bytes)) of_peer
    ∙ (ap (λ (t : FiveTuple). to_client_on t c.number bytes) his ∙ ap (λ (k : ℕ). to_client_on tuple k bytes) (eqb-true c.number channel live.0))))

-- a flow has begun, and not ended
begun_yet : (setup : Setup) (earlier : List Timed) (tuple : FiveTuple) (channel : ℕ) (a : Relay) (c : Channel) (p : Permission) → Holds tuple channel a c p (run setup earlier) → (run setup earlier).clock < min a.expires_at (min c.expires_at p.expires_at)
begun_yet setup earlier tuple channel a c p h =
    let state = run setup earlier in
    let one = found_is (λ b. state.clock < b.expires_at) (has_channel state.clock tuple channel) state.relays a h.relay (run_live setup earlier) in
    let two = ltb-true state.clock c.expires_at (and_parts (c.number == channel) (nat_lt state.clock c.expires_at) (find_true (is_channel state.clock channel) a.channels c h.bound)).1 in
    let three = ltb-true state.clock p.expires_at (and_parts (is_ip c.peer.ip p.ip) (nat_lt state.clock p.expires_at) (find_true (is_permission state.clock c.peer.ip) a.permissions p h.permitted)).1 in
    omega (arith, one, two, three)

relayed_by : (setup : Setup) (earlier : List Timed) (tuple : FiveTuple) (channel : ℕ) (a : Relay) (c : Channel) (p : Permission) → Holds tuple channel a c p (run setup earlier) → IsRelayed setup earlier tuple channel (flow_with a c p)
relayed_by setup earlier tuple channel a c p h =
    let first = begun_yet setup earlier tuple channel a c p h in record {
      out = λ now rules bytes soon allowed. goes_out setup earlier tuple channel a c p now rules bytes (holds_at tuple channel a c p (run setup earlier) now (omega (arith, first, soon)) h) allowed;
      back = λ now rules bytes soon allowed. comes_back setup earlier tuple channel a c p now rules bytes h (holds_at tuple channel a c p (run setup earlier) now (omega (arith, first, soon)) h) allowed;
    }

pub relayed_now : (setup : Setup) (earlier : List Timed) (tuple : FiveTuple) (channel : ℕ) (flow : Flow) → flow_of (run setup earlier) tuple channel ≡ Some flow → IsRelayed setup earlier tuple channel flow
relayed_now setup earlier tuple channel flow e =
    let f = flow_is tuple channel flow (run setup earlier) e in
    subst (IsRelayed setup earlier tuple channel) f.is (relayed_by setup earlier tuple channel f.a f.c f.p f.holds)

pub lasting_flow : (setup : Setup) (since earlier : List Timed) (tuple : FiveTuple) (channel user : ℕ) (flow : Flow) → flow_of (run setup earlier) tuple channel ≡ Some flow
    → AllByRecursion (λ a. a.number ≡ flow.number → a.user ≡ user) (run setup earlier).relays → IsLeft setup tuple user flow.number since earlier → (run setup (since ++ earlier)).clock < flow.expires_at
    → (flow_of (run setup (since ++ earlier)) tuple channel ≡ Some flow) × IsRelayed setup (since ++ earlier) tuple channel flow
lasting_flow setup since earlier tuple channel user flow e users left soon =
    let state = run setup earlier in
    let f = flow_is tuple channel flow state e in
    let number_is : f.a.number ≡ flow.number = ap (λ (x : Flow). x.number) f.is in
    let until_is : min f.a.expires_at (min f.c.expires_at f.p.expires_at) ≡ flow.expires_at = ap (λ (x : Flow). x.expires_at) f.is in
    let user_is = found_is (λ b. b.number ≡ flow.number → b.user ≡ user) (has_channel state.clock tuple channel) state.relays f.a f.holds.relay users number_is in
    let h = stay setup tuple channel user flow.number f.a f.c f.p since earlier user_is number_is left (omega (arith, soon, until_is)) f.holds in
    let again : flow_of (run setup (since ++ earlier)) tuple channel ≡ Some flow = flow_held tuple channel f.a f.c f.p (run setup (since ++ earlier)) h ∙ ap (λ (x : Flow). Some x) f.is in
    (again, relayed_now setup (since ++ earlier) tuple channel flow again)

-- ---- The first of the ends

found_among : {X : Type 0} (P : X → Type 0) (test : X → Bool) (xs : List X) (a : X) → find test xs ≡ Some a → P a → SomeOf P xs
found_among P test xs a is here = some_map (λ x. x ≡ a) P (λ x same. subst P (sym same) here) xs (found_some test xs a is)

least_by : (setup : Setup) (earlier : List Timed) (tuple : FiveTuple) (channel : ℕ) (a : Relay) (c : Channel) (p : Permission) → Holds tuple channel a c p (run setup earlier) → ((run setup earlier).clock < (flow_with a c p).expires_at) × IsFirstEnd tuple channel (flow_with a c p) (run setup earlier)
least_by setup earlier tuple channel a c p h =
    let state = run setup earlier in
    let flow = flow_with a c p in
    let his : a.tuple ≡ tuple = sym (tuple_same tuple a.tuple (and_parts (is_of tuple a) (list_any (is_channel state.clock channel) a.channels) (find_true (has_channel state.clock tuple channel) state.relays a h.relay)).0) in
    let number : c.number ≡ channel = eqb-true c.number channel (and_parts (c.number == channel) (nat_lt state.clock c.expires_at) (find_true (is_channel state.clock channel) a.channels c h.bound)).0 in
    let ip : p.ip ≡ c.peer.ip = sym (ip_same c.peer.ip p.ip (and_parts (is_ip c.peer.ip p.ip) (nat_lt state.clock p.expires_at) (find_true (is_permission state.clock c.peer.ip) a.permissions p h.permitted)).0) in (
      begun_yet setup earlier tuple channel a c p h,
      found_among (λ b. (b.tuple ≡ tuple) × (b.number ≡ flow.number) × SomeOf (λ d. (d.number ≡ channel) × (d.peer ≡ flow.peer) × SomeOf (λ q. (q.ip ≡ flow.peer.ip) × (flow.expires_at ≡ min b.expires_at (min d.expires_at q.expires_at))) b.permissions) b.channels) (has_channel state.clock tuple channel) state.relays a h.relay (
        his,
        refl,
        found_among (λ d. (d.number ≡ channel) × (d.peer ≡ flow.peer) × SomeOf (λ q. (q.ip ≡ flow.peer.ip) × (flow.expires_at ≡ min a.expires_at (min d.expires_at q.expires_at))) a.permissions) (is_channel state.clock channel) a.channels c h.bound
            (number, refl, found_among (λ q. (q.ip ≡ flow.peer.ip) × (flow.expires_at ≡ min a.expires_at (min c.expires_at q.expires_at))) (is_permission state.clock c.peer.ip) a.permissions p h.permitted (ip, refl)),
      ),
    )

pub least_end : (setup : Setup) (earlier : List Timed) (tuple : FiveTuple) (channel : ℕ) (flow : Flow) → flow_of (run setup earlier) tuple channel ≡ Some flow → ((run setup earlier).clock < flow.expires_at) × IsFirstEnd tuple channel flow (run setup earlier)
least_end setup earlier tuple channel flow e =
    let f = flow_is tuple channel flow (run setup earlier) e in
    subst (λ (x : Flow). ((run setup earlier).clock < x.expires_at) × IsFirstEnd tuple channel x (run setup earlier)) f.is (least_by setup earlier tuple channel f.a f.c f.p f.holds)

-- ---- If both directions are relayed, there is a flow

pub both_ways : (setup : Setup) (earlier : List Timed) (tuple : FiveTuple) (channel number : ℕ) (peer : Endpoint) (now : ℕ) (rules : Rules) (bytes other : List ℕ)
    → output_of setup earlier now rules (sends_on tuple channel bytes) ≡ to_peer number peer false bytes → output_of setup earlier now rules (arrives number peer other) ≡ to_client_on tuple channel other
    → (flow : Flow) × (flow_of (run setup earlier) tuple channel ≡ Some flow) × (flow.number ≡ number) × (flow.peer ≡ peer) × (now < flow.expires_at)
both_ways setup earlier tuple channel number peer now rules bytes other out back =
    let state = run setup earlier in
    let m = max state.clock now in
    let le : state.clock ≤ m = omega arith in
    let live = filter (is_live m) state.relays in
    -- to the peer
    let one = from_output (sent_on rules m channel bytes) (find (has_channel m tuple channel) live) (to_peer number peer false bytes) (λ e. absurd cc) out in
    let two = from_output (sent_by rules bytes one.0) (find (is_channel m channel) one.0.channels) (to_peer number peer false bytes) (λ e. absurd cc) one.2 in
    let a = one.0 in
    let c = two.0 in
    let sent = from_cond (allows rules c.peer) (to_peer a.number c.peer false bytes) (to_peer number peer false bytes) (λ e. absurd cc) two.2 in
    let sent_is : to_peer a.number c.peer false bytes ≡ to_peer number peer false bytes = sent.1 in
    let number_is : a.number ≡ number = cc in
    let peer_is : c.peer ≡ peer = cc in
    -- from the peer
    let three = from_output (received rules m peer other) (find (is_at number) live) (to_client_on tuple channel other) (λ e. absurd cc) back in
    let b = three.0 in
    let came = from_cond (is_permitted m peer.ip b && rules.allows_ip peer.ip) (option_map_or (by_channel peer other b) (find (is_channel_of m peer) b.channels) (to_client b.tuple peer other)) (to_client_on tuple channel other) (λ e. absurd cc) three.2 in
    -- at one socket
    let once = (run_once setup earlier).once number in
    let fewer = count_filter (is_at number) (is_live m) state.relays in
    let same : a ≡ b = found_is (λ x. is_at number x ≡ true → x ≡ b) (has_channel m tuple channel) live a one.1 (each_is (is_at number) live b (omega (arith, once, fewer)) three.1) (eq-eqb a.number number number_is) in
    let permitted_b : is_permitted m peer.ip b ≡ true = (and_parts (is_permitted m peer.ip b) (rules.allows_ip peer.ip) came.0).0 in
    let permitted : is_permitted m c.peer.ip a ≡ true = subst (λ (x : Relay). is_permitted m c.peer.ip x ≡ true) (sym same) (subst (λ (x : Endpoint). is_permitted m x.ip b ≡ true) (sym peer_is) permitted_b) in
    -- so it was then
    let lives = found_is (λ x. is_live m x ≡ true) (has_channel m tuple channel) live a one.1 (each_filtered (λ x. Unit {0}) (λ x. is_live m x ≡ true) (is_live m) (λ x yes _. yes) state.relays (each_always (λ x. Unit {0}) (λ x. tt) state.relays)) in
    let has_c = (run_channels_once setup earlier).once tuple state.clock channel (omega arith) in
    let relay : find (has_channel state.clock tuple channel) state.relays ≡ Some a = was_found (has_channel state.clock tuple channel) (has_channel m tuple channel) (is_live m) state.relays a (has_sooner state.clock m tuple channel le) has_c one.1 in
    let unique = found_is IsUnique (has_channel state.clock tuple channel) state.relays a relay (run_unique setup earlier) in
    let bound = found_too (is_channel m channel) (is_channel state.clock channel) a.channels c two.1 (channel_sooner state.clock m channel le c (find_true (is_channel m channel) a.channels c two.1)) (unique.number state.clock channel) in
    let p = the_one (is_permission state.clock c.peer.ip) (is_permission m c.peer.ip) a.permissions (permission_sooner state.clock m c.peer le) (unique.permission state.clock c.peer.ip) permitted in
    let a_lasts = ltb-true m a.expires_at lives in
    let c_lasts = ltb-true m c.expires_at (and_parts (c.number == channel) (nat_lt m c.expires_at) (find_true (is_channel m channel) a.channels c two.1)).1 in
    let p_lasts = ltb-true m p.0.expires_at (and_parts (is_ip c.peer.ip p.0.ip) (nat_lt m p.0.expires_at) p.2).1 in
    (flow_with a c p.0, flow_held tuple channel a c p.0 state (record { relay = relay; bound = bound; permitted = p.1 }), number_is, peer_is, omega (arith, a_lasts, c_lasts, p_lasts))

-- ---- A socket and a peer are of one flow

abbrev all_allowed : Rules
all_allowed = record { allows_ip = λ ip. true; allows_port = λ peer. true }

pub one_flow : (setup : Setup) (earlier : List Timed) (tuple other : FiveTuple) (channel second : ℕ) (flow : Flow) (expires_at : ℕ) → flow_of (run setup earlier) tuple channel ≡ Some flow → flow_of (run setup earlier) other second ≡ Some (record flow { expires_at = expires_at }) → (tuple ≡ other) × (channel ≡ second)
one_flow setup earlier tuple other channel second flow expires_at is too =
    let one = least_end setup earlier tuple channel flow is in
    let two = least_end setup earlier other second (record flow { expires_at = expires_at }) too in
    let now = (run setup earlier).clock in
    let here = (relayed_now setup earlier tuple channel flow is).back now all_allowed [] one.0 refl in
    let there = (relayed_now setup earlier other second (record flow { expires_at = expires_at }) too).back now all_allowed [] two.0 refl in
    let same : to_client_on tuple channel [] ≡ to_client_on other second [] = sym here ∙ there in
    (cc, cc)

-- ---- What is relayed makes the flow

not_before : (m n : ℕ) → (m < n → ⊥) → n ≤ m
not_before m n never = omega (arith, never)

same_until : (m n : ℕ) → m ≤ n → n ≤ m → m ≡ n
same_until m n one other = omega (arith, one, other)

same_flow : (f g : Flow) → f.number ≡ g.number → f.peer ≡ g.peer → f.expires_at ≡ g.expires_at → f ≡ g
same_flow f g number_is peer_is until_is =
    ap (λ (k : ℕ). record { number = k; peer = f.peer; expires_at = f.expires_at }) number_is
    ∙ (ap (λ (e : Endpoint). record { number = g.number; peer = e; expires_at = f.expires_at }) peer_is
    ∙ ap (λ (k : ℕ). record { number = g.number; peer = g.peer; expires_at = k }) until_is)

pub determined : (setup : Setup) (earlier : List Timed) (tuple : FiveTuple) (channel : ℕ) (flow : Flow) → (run setup earlier).clock < flow.expires_at → IsRelayed setup earlier tuple channel flow
    → ((now : ℕ) (rules : Rules) (bytes other : List ℕ) → output_of setup earlier now rules (sends_on tuple channel bytes) ≡ to_peer flow.number flow.peer false bytes → output_of setup earlier now rules (arrives flow.number flow.peer other) ≡ to_client_on tuple channel other → now < flow.expires_at)
    → flow_of (run setup earlier) tuple channel ≡ Some flow
determined setup earlier tuple channel flow soon relayed until_then =
    let clock = (run setup earlier).clock in
    let first = both_ways setup earlier tuple channel flow.number flow.peer clock all_allowed [] [] (relayed.out clock all_allowed [] soon refl) (relayed.back clock all_allowed [] soon refl) in
    let f = first.0 in
    let is = first.1 in
    let mine = relayed_now setup earlier tuple channel f is in
    let later_not = not_before flow.expires_at f.expires_at (λ less.
    let out = subst (λ (e : Endpoint). output_of setup earlier flow.expires_at all_allowed (sends_on tuple channel []) ≡ to_peer flow.number e false []) first.3 (subst (λ (k : ℕ). output_of setup earlier flow.expires_at all_allowed (sends_on tuple channel []) ≡ to_peer k f.peer false []) first.2 (mine.out flow.expires_at all_allowed [] less refl)) in
    let back = subst (λ (e : Endpoint). output_of setup earlier flow.expires_at all_allowed (arrives flow.number e []) ≡ to_client_on tuple channel []) first.3 (subst (λ (k : ℕ). output_of setup earlier flow.expires_at all_allowed (arrives k f.peer []) ≡ to_client_on tuple channel []) first.2 (mine.back flow.expires_at all_allowed [] less refl)) in
    let no = until_then flow.expires_at all_allowed [] [] out back in omega (arith, no)) in
    let sooner_not = not_before f.expires_at flow.expires_at (λ less.
    let second = both_ways setup earlier tuple channel flow.number flow.peer f.expires_at all_allowed [] [] (relayed.out f.expires_at all_allowed [] less refl) (relayed.back f.expires_at all_allowed [] less refl) in
    let e : Some second.0 ≡ Some f = sym second.1 ∙ is in
    let same : second.0 ≡ f = cc in
    let until_is : second.0.expires_at ≡ f.expires_at = ap (λ (x : Flow). x.expires_at) same in
    let l = second.4 in omega (arith, until_is, l)) in
    let until_is : f.expires_at ≡ flow.expires_at = same_until f.expires_at flow.expires_at later_not sooner_not in
    subst (λ (x : Flow). flow_of (run setup earlier) tuple channel ≡ Some x) (same_flow f flow first.2 first.3 until_is) is
