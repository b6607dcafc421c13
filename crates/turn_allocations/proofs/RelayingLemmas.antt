-- Of a client's relayed addresses the newest that is fit is taken: for data on a channel, the newest with the
-- channel; for the family of the client, the newest that has not expired.
use Rattle.std.proofs.Common.{◌≡◌, ℕ, Bool, true, false, cond, List, [], ◌∷◌, filter, find, Option, None, Some, refl, sym, ap, ◌∙◌, subst}
use Rattle.std.specs.List.{AllByRecursion, list_any}
use Rattle.std.specs.Option.{option_map, option_map_or, option_or}
use Rattle.std.specs.Prelude.{◌+◌, ◌&&◌, ◌||◌, ◌==◌, nat_le, IfSome, option_and_then, is_some}
use Rattle.std.proofs.lemmas.Bool.{cond_both, cond-false, and_left, and_parts}
use Rattle.stun_endpoints.specs.declared.endpoints.Endpoint.{Endpoint}
use Rattle.stun_endpoints.specs.declared.endpoints.FiveTuple.{FiveTuple}
use Rattle.turn_machine.specs.Relays.{Relay, seconds, is_of, is_live, is_channel}
use Rattle.turn_machine.specs.declared.grants.Channel.{Channel}
use Rattle.turn_machine.specs.Data.{has_channel}
use Rattle.turn_machine.specs.Flows.{flow_by, flow_on}
use Rattle.turn_relays.specs.Relayed.{Table, state_of}
use Rattle.turn_allocations.specs.declared.client.Place.{Place}
use Rattle.turn_allocations.specs.Clients.{in_place, is_sound, lifetime_max, AreSound}
use Rattle.turn_allocations.specs.Outputs.{AreNewestFirst, listed_two, live_family, peer_by}
use Rattle.turn_allocations.proofs.OwnLemmas.{find_kept}

-- ---- Lists

pub find_missing : {X : Type 0} (test : X → Bool) (xs : List X) → AllByRecursion (λ x. test x ≡ false) xs → find test xs ≡ None
find_missing test [] each = refl
find_missing test (x ∷ xs) each = cond-false (test x) (Some x) (find test xs) each.0 ∙ find_missing test xs each.1

any_found : {X : Type 0} (test : X → Bool) (xs : List X) → list_any test xs ≡ is_some (find test xs)
any_found test [] = refl
any_found {X} test (x ∷ xs) = here (test x) (any_found test xs)
  where
    here : (b : Bool) → list_any test xs ≡ is_some (find test xs) → (b || list_any test xs) ≡ is_some (cond b (Some x) (find test xs))
    here true more = refl
    here false more = more

all_kept : {X : Type 0} (test : X → Bool) (xs : List X) → AllByRecursion (λ x. test x ≡ true) (filter test xs)
all_kept test [] = tt
all_kept test (x ∷ xs) =
    cond_both (test x) (x ∷ filter test xs) (filter test xs) (λ ys. AllByRecursion (λ y. test y ≡ true) ys)
    (λ is. (is, all_kept test xs)) (λ _. all_kept test xs)

or_none : {X : Type 0} (o : Option X) → option_or o None ≡ o
or_none None = refl
or_none (Some p) = refl

-- ---- The peer of a channel

module _ (now channel : ℕ) (tuple : FiveTuple) where
  -- the first has it, or else one of the rest
  first_peer : (s : Relay) → is_of tuple s ≡ true → (rest : Option Relay)
      → option_and_then (peer_by now channel) (cond (has_channel now tuple channel s) (Some s) rest) ≡ option_or (peer_by now channel s) (option_and_then (peer_by now channel) rest)
  first_peer s is rest =
      ap (λ (b : Bool). option_and_then (peer_by now channel) (cond (b && list_any (is_channel now channel) s.channels) (Some s) rest)) is
      ∙ (ap (λ (b : Bool). option_and_then (peer_by now channel) (cond b (Some s) rest)) (any_found (is_channel now channel) s.channels)
      ∙ either (find (is_channel now channel) s.channels) refl)
    where
      either : (o : Option Channel) → find (is_channel now channel) s.channels ≡ o
          → option_and_then (peer_by now channel) (cond (is_some o) (Some s) rest) ≡ option_or (option_map (λ c. (s.number, c.peer)) o) (option_and_then (peer_by now channel) rest)
      either None none = refl
      either (Some c) there = ap (option_map (λ (c : Channel). (s.number, c.peer))) there

  two_peers : (one other : Option Relay) → AllByRecursion (λ r. is_of tuple r ≡ true) (listed_two one other)
      → option_and_then (peer_by now channel) (find (has_channel now tuple channel) (listed_two one other)) ≡ option_or (option_and_then (peer_by now channel) one) (option_and_then (peer_by now channel) other)
  two_peers None None each = refl
  two_peers None (Some s) each = first_peer s each.0 None ∙ or_none (peer_by now channel s)
  two_peers (Some r) None each = first_peer r each.0 None
  two_peers (Some r) (Some s) each =
      first_peer r each.0 (cond (has_channel now tuple channel s) (Some s) None)
      ∙ ap (option_or (peer_by now channel r)) (first_peer s each.1.0 None ∙ or_none (peer_by now channel s))

  of_client : (a : Relay) → is_of tuple a ≡ false → has_channel now tuple channel a ≡ false
  of_client a isnt = and_left (is_of tuple a) (list_any (is_channel now channel) a.channels) isnt

  -- the newest with the channel decides
  pub newest_peer : (t : Table) (one other : Option Place) → AreNewestFirst t tuple one other
      → option_and_then (peer_by now channel) (find (has_channel now tuple channel) (state_of t).relays)
      ≡ option_or (option_and_then (peer_by now channel) (in_place t one)) (option_and_then (peer_by now channel) (in_place t other))
  newest_peer t one other newest =
      let each = subst (λ (rs : List Relay). AllByRecursion (λ r. is_of tuple r ≡ true) rs) newest.all (all_kept (is_of tuple) (state_of t).relays) in
      ap (option_and_then (peer_by now channel)) (find_kept (is_of tuple) (has_channel now tuple channel) of_client (state_of t).relays
      ∙ ap (find (has_channel now tuple channel)) newest.all)
      ∙ two_peers (in_place t one) (in_place t other) each

  -- ---- The flow on a channel

  first_flow : (s : Relay) → is_of tuple s ≡ true → (rest : Option Relay)
      → option_and_then (flow_on now channel) (cond (has_channel now tuple channel s) (Some s) rest) ≡ option_map_or (λ _. flow_on now channel s) (peer_by now channel s) (option_and_then (flow_on now channel) rest)
  first_flow s is rest =
      ap (λ (b : Bool). option_and_then (flow_on now channel) (cond (b && list_any (is_channel now channel) s.channels) (Some s) rest)) is
      ∙ (ap (λ (b : Bool). option_and_then (flow_on now channel) (cond b (Some s) rest)) (any_found (is_channel now channel) s.channels)
      ∙ either (find (is_channel now channel) s.channels))
    where
      either : (o : Option Channel) → option_and_then (flow_on now channel) (cond (is_some o) (Some s) rest) ≡ option_map_or {T = ℕ × Endpoint} (λ _. flow_on now channel s) (option_map (λ c. (s.number, c.peer)) o) (option_and_then (flow_on now channel) rest)
      either None = refl
      either (Some c) = refl

  -- without the channel there is no flow
  last_flow : (s : Relay) → is_of tuple s ≡ true → option_and_then (flow_on now channel) (cond (has_channel now tuple channel s) (Some s) None) ≡ flow_on now channel s
  last_flow s is = first_flow s is None ∙ either (find (is_channel now channel) s.channels) refl
    where
      either : (o : Option Channel) → find (is_channel now channel) s.channels ≡ o → option_map_or {T = ℕ × Endpoint} (λ _. flow_on now channel s) (option_map (λ c. (s.number, c.peer)) o) None ≡ flow_on now channel s
      either None none = sym (ap (λ (o : Option Channel). option_map_or (flow_by now s) o None) none)
      either (Some c) there = refl

  two_flows : (one other : Option Relay) → AllByRecursion (λ r. is_of tuple r ≡ true) (listed_two one other)
      → option_and_then (flow_on now channel) (find (has_channel now tuple channel) (listed_two one other))
      ≡ option_map_or (λ _. option_and_then (flow_on now channel) one) (option_and_then (peer_by now channel) one) (option_and_then (flow_on now channel) other)
  two_flows None None each = refl
  two_flows None (Some s) each = last_flow s each.0
  two_flows (Some r) None each = first_flow r each.0 None
  two_flows (Some r) (Some s) each =
      first_flow r each.0 (cond (has_channel now tuple channel s) (Some s) None)
      ∙ ap (option_map_or (λ _. flow_on now channel r) (peer_by now channel r)) (last_flow s each.1.0)

  flow_in_it : (o : Option Relay) → option_map_or (flow_on now channel) o None ≡ option_and_then (flow_on now channel) o
  flow_in_it None = refl
  flow_in_it (Some r) = refl

  -- the newest with the channel decides
  pub newest_flow : (t : Table) (one other : Option Place) → AreNewestFirst t tuple one other
      → option_map_or (flow_on now channel) (find (has_channel now tuple channel) (state_of t).relays) None
      ≡ option_map_or (λ _. option_and_then (flow_on now channel) (in_place t one)) (option_and_then (peer_by now channel) (in_place t one)) (option_and_then (flow_on now channel) (in_place t other))
  newest_flow t one other newest =
      let each = subst (λ (rs : List Relay). AllByRecursion (λ r. is_of tuple r ≡ true) rs) newest.all (all_kept (is_of tuple) (state_of t).relays) in
      flow_in_it (find (has_channel now tuple channel) (state_of t).relays)
      ∙ (ap (option_and_then (flow_on now channel)) (find_kept (is_of tuple) (has_channel now tuple channel) of_client (state_of t).relays
      ∙ ap (find (has_channel now tuple channel)) newest.all)
      ∙ two_flows (in_place t one) (in_place t other) each)

-- ---- The family of the newest that has not expired

module _ (now : ℕ) (tuple : FiveTuple) where
  abbrev first_family : List Relay → Option ℕ
  first_family [] = None
  first_family (r ∷ rs) = option_or (live_family now r) (first_family rs)

  of_live : (rs : List Relay) → option_map (λ (r : Relay). r.family) (find (is_of tuple) (filter (is_live now) rs)) ≡ first_family (filter (is_of tuple) rs)
  of_live [] = refl
  of_live (r ∷ rs) = both (of_live rs) (is_live now r) (is_of tuple r) refl refl
    where
      live : List Relay
      live = filter (is_live now) rs

      its : List Relay
      its = filter (is_of tuple) rs

      found : (b : Bool) → is_of tuple r ≡ b → option_map (λ (x : Relay). x.family) (find (is_of tuple) (r ∷ live)) ≡ option_map (λ (x : Relay). x.family) (cond b (Some r) (find (is_of tuple) live))
      found b is = ap (λ (c : Bool). option_map (λ (x : Relay). x.family) (cond c (Some r) (find (is_of tuple) live))) is

      first : (b : Bool) → is_live now r ≡ b → first_family (r ∷ its) ≡ option_or (cond b (Some r.family) None) (first_family its)
      first b is = ap (λ (c : Bool). option_or (cond c (Some r.family) None) (first_family its)) is

      both : option_map (λ (x : Relay). x.family) (find (is_of tuple) live) ≡ first_family its → (l o : Bool) → is_live now r ≡ l → is_of tuple r ≡ o → option_map (λ (x : Relay). x.family) (find (is_of tuple) (cond l (r ∷ live) live)) ≡ first_family (cond o (r ∷ its) its)
      both more true true l o = found true o ∙ sym (first true l)
      both more true false l o = found false o ∙ more
      both more false true l o = more ∙ sym (first false l)
      both more false false l o = more

  two_families : (one other : Option Relay) → first_family (listed_two one other) ≡ option_or (option_and_then (live_family now) one) (option_and_then (live_family now) other)
  two_families None None = refl
  two_families None (Some s) = or_none (live_family now s)
  two_families (Some r) None = refl
  two_families (Some r) (Some s) = ap (option_or (live_family now r)) (or_none (live_family now s))

  pub newest_live : (t : Table) (one other : Option Place) → AreNewestFirst t tuple one other
      → option_map (λ (r : Relay). r.family) (find (is_of tuple) (filter (is_live now) (state_of t).relays))
      ≡ option_or (option_and_then (live_family now) (in_place t one)) (option_and_then (live_family now) (in_place t other))
  newest_live t one other newest = of_live (state_of t).relays ∙ (ap first_family newest.all ∙ two_families (in_place t one) (in_place t other))

-- ---- Servers relay IPv4 and IPv6

find_each : {X : Type 0} (P : X → Type 0) (test : X → Bool) (xs : List X) → AllByRecursion P xs → IfSome (find test xs) P
find_each P test [] each = tt
find_each P test (x ∷ xs) each = cond_both (test x) (Some x) (find test xs) (λ o. IfSome o P) (λ _. each.0) (λ _. find_each P test xs each.1)

sound_left : (clock : ℕ) (keep : Relay → Bool) (rs : List Relay) → AllByRecursion (λ r. is_sound clock r ≡ true) rs → AllByRecursion (λ (r : Relay). ((r.family == 1) || (r.family == 2)) ≡ true) (filter keep rs)
sound_left clock keep [] each = tt
sound_left clock keep (r ∷ rs) each =
    cond_both (keep r) (r ∷ filter keep rs) (filter keep rs) (AllByRecursion (λ (x : Relay). ((x.family == 1) || (x.family == 2)) ≡ true))
    (λ _. ((and_parts ((r.family == 1) || (r.family == 2)) (nat_le r.expires_at (clock + seconds lifetime_max)) each.0).0, sound_left clock keep rs each.1))
    (λ _. sound_left clock keep rs each.1)

family_of_it : (o : Option Relay) → IfSome o (λ r. ((r.family == 1) || (r.family == 2)) ≡ true) → IfSome (option_map (λ (r : Relay). r.family) o) (λ f. ((f == 1) || (f == 2)) ≡ true)
family_of_it None is = tt
family_of_it (Some r) is = is

pub family_is : (t : Table) (keep test : Relay → Bool) → AreSound t → IfSome (option_map (λ (r : Relay). r.family) (find test (filter keep (state_of t).relays))) (λ f. ((f == 1) || (f == 2)) ≡ true)
family_is t keep test sound =
    family_of_it (find test (filter keep (state_of t).relays)) (find_each (λ (r : Relay). ((r.family == 1) || (r.family == 2)) ≡ true) test (filter keep (state_of t).relays) (sound_left t.clock keep (state_of t).relays sound))
