-- An agent that doesn't know the way, or may try it.
use Rattle.std.proofs.Common.{◌≡◌, ℕ, suc, ◌+◌, ◌<◌, ◌≤◌, inl, inr, Bool, true, false, cond, not, ◌||◌, List, [], ◌∷◌, Option, None, Some, refl, sym, ap, subst, ◌∙◌, map, find, length, arith, eq-eqb}
use Rattle.std.specs.List.{AllByRecursion, list_any}
use Rattle.std.specs.Option.{option_map_or}
use Rattle.std.specs.Prelude.{◌==◌, nat_le, nat_lt, max}
use Rattle.std.proofs.lemmas.Bool.{cond_both, cond-true, cond-false, and_from, le-leb, lt-ltb}
use Rattle.stun_endpoints.specs.declared.endpoints.Endpoint.{Endpoint}
use Rattle.stun_endpoints.specs.Endpoints.{is_endpoint}
use Rattle.ice_machine.specs.Roles.{Role, Controlling, Controlled, is_controlling}
use Rattle.ice_machine.specs.Agents.{Base, Pair, Setup, State, pace, is_at}
use Rattle.ice_machine.specs.Events.{Check}
use Rattle.ice_machine.specs.Pairs.{pair_of, with_pair}
use Rattle.ice_machine.specs.Checks.{score, most_urgent, request_on, asked}
use Rattle.ice_machine.specs.Steps.{Step, does_nothing, settled, at, changed_first, unnominated, in_role, is_base, discovered, heard, hears, asks_on, is_open}
use Rattle.ice_machine.specs.Runs.{Timed}
use Rattle.ice_machine.specs.Networks.{Place, Agents, goes, gets_to}
use Rattle.ice_machine.specs.Meetings.{End, disturbed, OneAmong, IsNoise, IsUseless, IsUntold, IsAgent, IsUnaware, IsPassive}
use Rattle.ice_machine.proofs.AddressesLemmas.{endpoint_is_itself}
use Rattle.ice_machine.proofs.ListsLemmas.{each_mapped, each_changed}
use Rattle.ice_machine.proofs.BoundsLemmas.{length-changed_first}
use Rattle.ice_machine.proofs.RightLemmas.{IsGood, best_good}
use Rattle.ice_machine.proofs.MeetPairs.{IsTriggered, useless_settled, useless_asked, useless_unnominated, untold_settled, untold_unnominated, untold_heard}
use Rattle.ice_machine.proofs.MeetSteps.{moved, moved_agent, weaker_agent, noise_moves, disturbed_agent, in_role_agent, hears_agent, turn_from}

length_mapped : (f : Pair → Pair) (ps : List Pair) → length (map {B = Pair} f ps) ≡ length ps
length_mapped f [] = refl
length_mapped f (p ∷ ps) = ap suc (length_mapped f ps)

-- ---- Time

unaware_moved : (e : End) (net : ℕ → Endpoint → Option Place) (setup : Setup) (before now gate : ℕ) (s : State) → IsUnaware e net setup before gate s → IsUnaware e net setup now gate (moved setup now s)
unaware_moved e net setup before now gate s a = record {
  ready = a.ready;
  clock = omega arith;
  paced = a.paced;
  base = a.base;
  based = a.based;
  component = a.component;
  pairs = each_mapped (IsUseless e net) (IsUseless e net) (settled setup now) (useless_settled e net setup now) s.pairs a.pairs;
  room = subst (λ (n : ℕ). n < setup.most_pairs) (sym (length_mapped (settled setup now) s.pairs)) a.room;
}

unaware_weaker : (e : End) (net : ℕ → Endpoint → Option Place) (setup : Setup) (before now was gate : ℕ) (s : State) → before ≤ now → was ≤ gate → IsUnaware e net setup before was s → IsUnaware e net setup now gate s
unaware_weaker e net setup before now was gate s later more a = record {
  ready = a.ready;
  clock = (let c = a.clock in omega (arith, c, later));
  paced = (let c = a.paced in omega (arith, c, more));
  base = a.base;
  based = a.based;
  component = a.component;
  pairs = a.pairs;
  room = a.room;
}

unaware_at : (e : End) (net : ℕ → Endpoint → Option Place) (setup : Setup) (t now gate : ℕ) (s : State) → t ≤ now → IsUnaware e net setup now gate s → IsUnaware e net setup now gate (at setup t s)
unaware_at e net setup t now gate s le a =
    let c : ℕ = max s.clock t in
    let c_le : max s.clock t ≤ now = (let one = a.clock in omega (arith, one, le)) in
    unaware_weaker e net setup c now gate gate (moved setup c s) c_le (omega arith) (unaware_moved e net setup now c gate s a)

pub passive_moved : (e : End) (net : ℕ → Endpoint → Option Place) (setup : Setup) (before now gate : ℕ) (s : State) → IsPassive e net setup before gate s → IsPassive e net setup now gate (moved setup now s)
passive_moved e net setup before now gate s (inl a) = inl (moved_agent e net (IsUntold e) (IsUntold e) setup before now gate s (λ z u. untold_settled e setup now z u) a)
passive_moved e net setup before now gate s (inr a) = inr (unaware_moved e net setup before now gate s a)

pub passive_weaker : (e : End) (net : ℕ → Endpoint → Option Place) (setup : Setup) (before now was gate : ℕ) (s : State) → before ≤ now → was ≤ gate → IsPassive e net setup before was s → IsPassive e net setup now gate s
passive_weaker e net setup before now was gate s later more (inl a) = inl (weaker_agent e net (IsUntold e) (IsUntold e) before now was gate s (λ z u. u) later more a)
passive_weaker e net setup before now was gate s later more (inr a) = inr (unaware_weaker e net setup before now was gate s later more a)

unaware_disturbed : (e : End) (net : ℕ → Endpoint → Option Place) (setup : Setup) (now gate : ℕ) (s : State) (ts : List Timed) → AllByRecursion (IsNoise now) ts → IsUnaware e net setup now gate s → IsUnaware e net setup now gate (disturbed setup s ts)
unaware_disturbed e net setup now gate s [] noise a = a
unaware_disturbed e net setup now gate s (t ∷ ts) noise a =
    let before : State = disturbed setup s ts in
    subst (IsUnaware e net setup now gate) (sym (noise_moves setup before t.now t.fresh t.event noise.0.0)) (unaware_at e net setup t.now now gate before noise.0.1 (unaware_disturbed e net setup now gate s ts noise.1 a))

pub passive_disturbed : (e : End) (net : ℕ → Endpoint → Option Place) (setup : Setup) (now gate : ℕ) (s : State) (ts : List Timed) → AllByRecursion (IsNoise now) ts → IsPassive e net setup now gate s → IsPassive e net setup now gate (disturbed setup s ts)
passive_disturbed e net setup now gate s ts noise (inl a) = inl (disturbed_agent e net (IsUntold e) setup now gate s ts (λ c z le u. untold_settled e setup c z u) noise a)
passive_disturbed e net setup now gate s ts noise (inr a) = inr (unaware_disturbed e net setup now gate s ts noise a)

-- ---- A check that is received

pub passive_in_role : (e : End) (net : ℕ → Endpoint → Option Place) (setup : Setup) (role : Role) (now gate : ℕ) (s : State) → IsPassive e net setup now gate s → IsPassive e net setup now gate (in_role role s)
passive_in_role e net setup role now gate s (inl a) = inl (in_role_agent e net (IsUntold e) role now gate s (λ z u. untold_unnominated e z u) a)
passive_in_role e net setup Controlling now gate s (inr a) = cond_both (is_controlling s.role) _ _ (λ (t : State). IsPassive e net setup now gate t) (λ _. inr a)
    (λ _. inr (record {
      ready = a.ready;
      clock = a.clock;
      paced = a.paced;
      base = a.base;
      based = a.based;
      component = a.component;
      pairs = each_mapped (IsUseless e net) (IsUseless e net) unnominated (useless_unnominated e net) s.pairs a.pairs;
      room = subst (λ (n : ℕ). n < setup.most_pairs) (sym (length_mapped unnominated s.pairs)) a.room;
    }))
passive_in_role e net setup Controlled now gate s (inr a) = cond_both (is_controlling s.role) _ _ (λ (t : State). IsPassive e net setup now gate t)
    (λ _. inr (record {
      ready = a.ready;
      clock = a.clock;
      paced = a.paced;
      base = a.base;
      based = a.based;
      component = a.component;
      pairs = each_mapped (IsUseless e net) (IsUseless e net) unnominated (useless_unnominated e net) s.pairs a.pairs;
      room = subst (λ (n : ℕ). n < setup.most_pairs) (sym (length_mapped unnominated s.pairs)) a.room;
    }))
    (λ _. inr a)

none_at : (e : End) (net : ℕ → Endpoint → Option Place) (test : Pair → Bool) → ((x : Pair) → test x ≡ is_at e.base e.to x) → (ps : List Pair) → AllByRecursion (IsUseless e net) ps → list_any test ps ≡ false
none_at e net test same [] each = refl
none_at e net test same (p ∷ ps) each = or_both (test p) (list_any test ps) (same p ∙ each.0.elsewhere) (none_at e net test same ps each.1)
  where
    or_both : (a b : Bool) → a ≡ false → b ≡ false → (a || b) ≡ false
    or_both true b one other = one
    or_both false b one other = other

some_base : (a b : Base) → Some a ≡ Some b → a ≡ b
some_base a b same = cc

-- the pair is discovered, and a check on it triggered
unaware_hears : (e : End) (net : ℕ → Endpoint → Option Place) (setup : Setup) (b : Base) (c : Check) (now gate : ℕ) (s : State) → b.number ≡ e.base → find (is_base e.base) s.bases ≡ Some b → c.base ≡ e.base → c.from ≡ e.to → c.nominates ≡ false
    → list_any (is_base e.base) s.bases ≡ true → IsUnaware e net setup now gate s → IsAgent e net (IsTriggered e) now gate (hears setup b c s)
unaware_hears e net setup b c now gate s number found base from plain based a =
    let p : Pair = pair_of b (discovered b c) in
    let ps : List Pair = s.pairs in
    let same : a.base ≡ b = some_base a.base b (sym a.based ∙ found) in
    let none : list_any (is_at b.number c.from) ps ≡ false = none_at e net (is_at b.number c.from) (λ x. ap (λ (n : ℕ). is_at n c.from x) number ∙ ap (λ (y : Endpoint). is_at e.base y x) from) ps a.pairs in
    let anew : with_pair setup.most_pairs p ps ≡ p ∷ ps = cond-false (list_any (is_at b.number c.from) ps || not (nat_lt (length ps) setup.most_pairs)) ps (p ∷ ps)
    (ap (λ (x : Bool). x || not (nat_lt (length ps) setup.most_pairs)) none ∙ ap not (lt-ltb (length ps) setup.most_pairs a.room)) in
    let here : is_at e.base e.to p ≡ true = and_from (e.base == b.number) (is_endpoint e.to c.from) (eq-eqb e.base b.number (sym number)) (subst (λ (x : Endpoint). is_endpoint e.to x ≡ true) (sym from) (endpoint_is_itself e.to)) in
    let first : is_at c.base c.from p ≡ true = and_from (c.base == b.number) (is_endpoint c.from c.from) (eq-eqb c.base b.number (base ∙ sym number)) (endpoint_is_itself c.from) in
    let changed_is : changed_first (is_at c.base c.from) (heard s.role c) (with_pair setup.most_pairs p ps) ≡ heard s.role c p ∷ ps =
    ap (changed_first (is_at c.base c.from) (heard s.role c)) anew ∙ cond-true (is_at c.base c.from p) (heard s.role c p ∷ ps) (p ∷ changed_first (is_at c.base c.from) (heard s.role c) ps) first in
    record {
      ready = a.ready;
      clock = a.clock;
      paced = a.paced;
      based = based;
      pairs = subst (OneAmong (IsTriggered e) (IsUseless e net)) (sym changed_is) (inl (
        untold_heard e s.role c p plain (record {
          there = here;
          component = ap (λ (x : Base). x.component) (sym same) ∙ a.component;
          invalid = refl;
          unlost = refl;
          unchosen = refl;
          unnominated = refl;
        }),
        a.pairs,
      ));
    }

pub passive_based : (e : End) (net : ℕ → Endpoint → Option Place) (setup : Setup) (now gate : ℕ) (s : State) → IsPassive e net setup now gate s → list_any (is_base e.base) s.bases ≡ true
passive_based e net setup now gate s (inl a) = a.based
passive_based e net setup now gate s (inr a) = found_some e.base s.bases a.base a.based
  where
    found_some : (n : ℕ) (bs : List Base) (b : Base) → find (is_base n) bs ≡ Some b → list_any (is_base n) bs ≡ true
    found_some n [] b is = absurd cc
    found_some n (x ∷ bs) b is = some_by (is_base n x) x (find (is_base n) bs) (list_any (is_base n) bs) b is (found_some n bs b)
      where
        some_by : (t : Bool) (x : Base) (o : Option Base) (rest : Bool) (b : Base) → cond t (Some x) o ≡ Some b → (o ≡ Some b → rest ≡ true) → (t || rest) ≡ true
        some_by true x o rest b is more = refl
        some_by false x o rest b is more = more is

pub passive_clock : (e : End) (net : ℕ → Endpoint → Option Place) (setup : Setup) (now gate : ℕ) (s : State) → IsPassive e net setup now gate s → s.clock ≤ now
passive_clock e net setup now gate s (inl a) = a.clock
passive_clock e net setup now gate s (inr a) = a.clock

pub passive_hears : (e : End) (net : ℕ → Endpoint → Option Place) (setup : Setup) (b : Base) (c : Check) (now gate : ℕ) (s : State) → b.number ≡ e.base → find (is_base e.base) s.bases ≡ Some b → c.base ≡ e.base → c.from ≡ e.to → c.nominates ≡ false
    → IsPassive e net setup now gate s → IsAgent e net (IsTriggered e) now gate (hears setup b c s)
passive_hears e net setup b c now gate s number found base from plain (inl a) =
    hears_agent e net (IsUntold e) (IsTriggered e) setup b c now gate s number base from (λ z u. u.there) (λ z u. untold_heard e s.role c z plain u) a
passive_hears e net setup b c now gate s number found base from plain (inr a) =
    unaware_hears e net setup b c now gate s number found base from plain (passive_based e net setup now gate s (inr a)) a

-- ---- A poll

unaware_by : (R : Agents → Type 0) (own_setup peer_setup : Setup) (e : End) (net used : ℕ → Endpoint → Option Place) (now fresh anew : ℕ) (s peer : State) (o : Option Pair) → ((x : Pair) → IsUseless e net x → used x.base x.remote ≡ None) → s.clock ≡ now → IsUnaware e net own_setup now now s
    → ((t : State) → IsUnaware e net own_setup now (now + pace own_setup) t → t.role ≡ s.role → R (record { one = t; other = peer })) → IsGood (IsUseless e net) (score own_setup s) o
    → R (goes own_setup peer_setup used now anew (option_map_or (asks_on own_setup fresh s) o (does_nothing s)).state peer (option_map_or (asks_on own_setup fresh s) o (does_nothing s)).output)
unaware_by R own_setup peer_setup e net used now fresh anew s peer None none clock a on good = on s (unaware_weaker e net own_setup now now now (now + pace own_setup) s (omega arith) (omega arith) a) refl
unaware_by R own_setup peer_setup e net used now fresh anew s peer (Some x) none clock a on good =
    let t : State = (asks_on own_setup fresh s x).state in
    subst (λ (o : Option Place). R (gets_to own_setup peer_setup now anew (request_on own_setup s fresh x) t peer o)) (sym (none x good.0))
    (on t (record {
      ready = a.ready;
      clock = a.clock;
      paced = omega (arith, clock);
      base = a.base;
      based = a.based;
      component = a.component;
      pairs = each_changed (IsUseless e net) (IsUseless e net) (is_at x.base x.remote) (asked own_setup s fresh) (λ y u. u) s.pairs (λ y _ u. useless_asked e net own_setup s fresh y u) a.pairs;
      room = subst (λ (n : ℕ). n < own_setup.most_pairs) (sym (length-changed_first (is_at x.base x.remote) (asked own_setup s fresh) s.pairs)) a.room;
    }) refl)

pub unaware_turn : (R : Agents → Type 0) (own_setup peer_setup : Setup) (e : End) (net used : ℕ → Endpoint → Option Place) (now fresh anew : ℕ) (own peer : State) → ((x : Pair) → IsUseless e net x → used x.base x.remote ≡ None) → IsUnaware e net own_setup now now own
    → ((t : State) → IsUnaware e net own_setup now (now + pace own_setup) t → t.role ≡ own.role → R (record { one = t; other = peer })) → R (turn_from own_setup peer_setup used now fresh anew (moved own_setup now own) peer)
unaware_turn R own_setup peer_setup e net used now fresh anew own peer none start on =
    let s : State = moved own_setup now own in
    let a : IsUnaware e net own_setup now now s = unaware_moved e net own_setup now now now own start in
    let free : is_open s ≡ true = and_from s.ready (nat_le s.next_request_at s.clock) a.ready (le-leb s.next_request_at s.clock a.paced) in
    subst (λ (x : Step). R (goes own_setup peer_setup used now anew x.state peer x.output)) (sym (cond-true (is_open s) (option_map_or (asks_on own_setup fresh s) (most_urgent own_setup s) (does_nothing s)) (does_nothing s) free))
    (unaware_by R own_setup peer_setup e net used now fresh anew s peer (most_urgent own_setup s) none refl a on (best_good (IsUseless e net) (score own_setup s) s.pairs a.pairs))

pub in_role_bases : (role : Role) (s : State) → (in_role role s).bases ≡ s.bases
in_role_bases Controlling s = cond_both (is_controlling s.role) _ _ (λ (t : State). t.bases ≡ s.bases) (λ _. refl) (λ _. refl)
in_role_bases Controlled s = cond_both (is_controlling s.role) _ _ (λ (t : State). t.bases ≡ s.bases) (λ _. refl) (λ _. refl)
