-- The stages of a meeting, once the roles are opposite.
use Rattle.std.proofs.Common.{◌≡◌, ℕ, ◌+◌, ◌<◌, ◌≤◌, inl, inr, ◌⊎◌, Bool, true, false, not, ◌||◌, ◌&&◌, Option, Some, refl, sym, ap, subst, ◌∙◌, arith}
use Rattle.std.specs.List.{list_any}
use Rattle.std.specs.Prelude.{◌==◌, nat_le}
use Rattle.std.proofs.lemmas.Bool.{and_from, and_left, and_right, leb-false, or_left, or_right, cases_Bool, and_parts, cases_lt}
use Rattle.stun_endpoints.specs.declared.endpoints.Endpoint.{Endpoint}
use Rattle.ice_machine.specs.Roles.{Role, Controlling, Controlled, other_role, is_controlling}
use Rattle.ice_machine.specs.Agents.{seconds, Pair, Setup, State, pace, is_at, is_succeeded}
use Rattle.ice_machine.specs.Events.{Check}
use Rattle.ice_machine.specs.Checks.{request_on, asked, is_choice, is_nominating, is_ripe, is_settled_in, is_hoped_for, is_long_valid}
use Rattle.ice_machine.specs.Steps.{settled, heard, thaws, asks_on}
use Rattle.ice_machine.specs.Exchanges.{delivered}
use Rattle.ice_machine.specs.Networks.{Place, Agents, gets_to, turn}
use Rattle.ice_machine.specs.Meetings.{End, IsUseless, IsUntold, IsFit, IsAgent}
use Rattle.ice_machine.proofs.PlacesLemmas.{neither}
use Rattle.ice_machine.proofs.MeetLists.{one_none, one_is_there}
use Rattle.ice_machine.proofs.MeetPairs.{long_valid, IsTriggered, IsTold, triggered_settled, untold_settled, untold_asked, untold_plain, untold_succeeds, told_settled, told_thawed, told_heard, told_renewed, renewed, renewed_marked, renewed_unmarked, renewed_nominated, valid_unlost, triggered_high, choice_high}
use Rattle.ice_machine.proofs.MeetSteps.{moved, moved_agent, weaker_agent, turn_from, turn_is}
use Rattle.ice_machine.proofs.MeetTurns.{Result, agent_exact, served, turned, opposite_exchange}

-- the way is valid, and a controlling agent hasn't nominated it
abbrev pub IsValidIn : End → (since until : ℕ) → Role → Pair → Type 0
IsValidIn e since until r p = IsTold e since until p × (is_controlling r ≡ true → (p.chosen ≡ false) × (p.nominated ≡ false))

-- it is nominated, and a controlling agent has chosen it
abbrev pub IsMetIn : End → (since until : ℕ) → Role → Pair → Type 0
IsMetIn e since until r p = IsTold e since until p × (p.nominated ≡ true) × (is_controlling r ≡ true → p.chosen ≡ true)

-- what an agent sends on the way arrives at the other one
abbrev pub Leads : End → End → (ℕ → Endpoint → Option Place) → Type 0
Leads e d net = net e.base e.to ≡ Some (record { base = d.base; from = d.to })

same_told : (P : Pair → Type 0) (x z : Pair) → x ≡ z → P z → P x
same_told P x z same is = subst P (sym same) is

pub valid_lasts : (e : End) (since until : ℕ) (r : Role) (setup : Setup) (now : ℕ) (z : Pair) → now ≤ until → IsValidIn e since until r z → IsValidIn e since until r (settled setup now z)
valid_lasts e since until r setup now z le v = subst (IsValidIn e since until r) (sym (told_settled e since until setup now z le v.0)) v

pub met_lasts : (e : End) (since until : ℕ) (r : Role) (setup : Setup) (now : ℕ) (z : Pair) → now ≤ until → IsMetIn e since until r z → IsMetIn e since until r (settled setup now z)
met_lasts e since until r setup now z le v = subst (IsMetIn e since until r) (sym (told_settled e since until setup now z le v.0)) v

valid_thaws : (e : End) (since until : ℕ) (r : Role) (o : Option Pair) (z : Pair) → IsValidIn e since until r z → IsValidIn e since until r (thaws o z)
valid_thaws e since until r o z v = subst (IsValidIn e since until r) (sym (told_thawed e since until o z v.0)) v

met_thaws : (e : End) (since until : ℕ) (r : Role) (o : Option Pair) (z : Pair) → IsMetIn e since until r z → IsMetIn e since until r (thaws o z)
met_thaws e since until r o z v = subst (IsMetIn e since until r) (sym (told_thawed e since until o z v.0)) v

pub valid_heard : (e : End) (since until : ℕ) (r : Role) (c : Check) (z : Pair) → IsValidIn e since until r z → IsValidIn e since until r (heard r c z)
valid_heard e since until r c z v = let h = told_heard e since until r c z v.0 in (h.0, λ is. let both = v.1 is in (h.1 ∙ both.0, h.3 is ∙ both.1))

met_heard : (e : End) (since until : ℕ) (r : Role) (c : Check) (z : Pair) → IsMetIn e since until r z → IsMetIn e since until r (heard r c z)
met_heard e since until r c z v = let h = told_heard e since until r c z v.0 in (h.0, h.2 v.1, λ is. h.1 ∙ v.2 is)

-- an answered check makes the way valid
pub untold_valid : (e : End) (setup : Setup) (s : State) (fresh now next : ℕ) (r : Role) (y : Pair) → next ≤ now + seconds 20 → IsUntold e y → IsValidIn e now next r (renewed setup s fresh r now (request_on setup s fresh y) y)
untold_valid e setup s fresh now next r y soon u =
    let v = untold_succeeds e r now (request_on setup s fresh y) (settled setup now (asked setup s fresh y)) (untold_settled e setup now (asked setup s fresh y) (untold_asked e setup s fresh y u)) next soon (untold_plain e setup s y u) in
    (v.0, λ _. (v.1, v.2))

-- ---- A triggered check, where the other agent's is answered, or not yet

pub triggered_turn : (own_setup peer_setup : Setup) (e d : End) (net back : ℕ → Endpoint → Option Place) (P T : Pair → Type 0) (now until next fresh anew : ℕ) (own peer : State)
    → IsFit own_setup → Leads e d net → next ≤ now + seconds 20 → IsAgent e net (IsTriggered e) now now own → IsAgent d back P now until peer → own.role ≡ other_role peer.role
    → ((z : Pair) → P z → is_at d.base d.to z ≡ true) → ((z : Pair) → P z → P (settled peer_setup now z)) → ((c : Check) (z : Pair) → c.nominates ≡ false → P z → T (heard peer.role c z))
    → Result e d net back (IsValidIn e now next own.role) T now (now + pace own_setup) until own.role peer.role (turn own_setup peer_setup net now fresh anew own peer)
triggered_turn own_setup peer_setup e d net back P T now until next fresh anew own peer fit way soon a b opposite d_there lasts on =
    let s : State = moved own_setup now own in
    let R : Agents → Type 0 = Result e d net back (IsValidIn e now next own.role) T now (now + pace own_setup) until own.role peer.role in
    let x = agent_exact e net (IsTriggered e) now now s (moved_agent e net (IsTriggered e) (IsTriggered e) own_setup now now now own (λ z is. triggered_settled e own_setup now z is) a) in
    subst R (sym (turn_is own_setup peer_setup net now fresh anew own peer a.clock))
    (served R own_setup peer_setup e net (record { base = d.base; from = d.to }) now fresh anew s peer x.0 way x.1.0.there refl x.2 (triggered_high own_setup s x.0 x.1.0.unlost x.1.1)
    (opposite_exchange own_setup peer_setup e d net back P (IsValidIn e now next own.role) T now until fresh anew s peer x.0 fit x.1.0.there refl x.2 b opposite
    (untold_valid e own_setup s fresh now next own.role x.0 soon x.1.0) (λ o z v. valid_thaws e now next own.role o z v) d_there lasts
    (λ z is. on (delivered (request_on own_setup s fresh x.0) d.base d.to) z (untold_plain e own_setup s x.0 x.1.0) is)))

-- ---- Both are valid

not_due : (due now next until : ℕ) → nat_le due now ≡ false → next ≤ now + seconds 20 → due + seconds 24 ≤ until → next < until
not_due due now next until isnt soon lasting = let l = leb-false due now isnt in omega (arith, l, soon, lasting)

still_told : (e : End) (since until now next : ℕ) (y : Pair) → nat_le y.due now ≡ false → next ≤ now + seconds 20 → IsTold e since until y → IsTold e since next y
still_told e since until now next y isnt soon t = record {
  there = t.there;
  component = t.component;
  valid = t.valid;
  since_by = t.since_by;
  lasting = t.lasting;
  live = not_due y.due now next y.expires_at isnt soon t.lasting;
}

-- a controlling agent chooses the way, once its patience is over
choice_is : (e : End) (net : ℕ → Endpoint → Option Place) (since until now : ℕ) (setup : Setup) (s : State) (y : Pair) → s.clock ≡ now → IsAgent e net (λ z. z ≡ y) now now s → IsValidIn e since until s.role y → is_controlling s.role ≡ true
    → since + setup.patience ≤ now → is_choice setup s y ≡ true
choice_is e net since until now setup s y clock a v controls ripe =
    let none : list_any (is_settled_in y) s.pairs ≡ false = one_none (λ z. z ≡ y) (IsUseless e net) (is_settled_in y)
    (λ x same. subst (λ (z : Pair). is_settled_in y z ≡ false) (sym same) (and_right (y.component == y.component) (y.chosen || y.nominated) (neither_marked y (v.1 controls).0 (v.1 controls).1)))
    (λ x u. and_right (y.component == x.component) (x.chosen || x.nominated) (neither_marked x u.unchosen u.unnominated)) s.pairs a.pairs in
    and_from (is_controlling s.role) (is_succeeded y.state && (not (list_any (is_settled_in y) s.pairs) && is_ripe setup s y)) controls
    (and_from (is_succeeded y.state) (not (list_any (is_settled_in y) s.pairs) && is_ripe setup s y) v.0.valid
    (and_from (not (list_any (is_settled_in y) s.pairs)) (is_ripe setup s y) (ap not none)
    (or_right (not (list_any (is_hoped_for s y) s.pairs)) (list_any (is_long_valid setup s y) s.pairs)
    (one_is_there (λ z. z ≡ y) (IsUseless e net) (is_long_valid setup s y) (λ z same. subst (λ (q : Pair). is_long_valid setup s y q ≡ true) (sym same)
    (long_valid setup s y v.0.valid (let l = v.0.since_by in omega (arith, l, ripe, clock)))) s.pairs a.pairs))))
  where
    neither_marked : (x : Pair) → x.chosen ≡ false → x.nominated ≡ false → (x.chosen || x.nominated) ≡ false
    neither_marked x one other = ap (λ (b : Bool). b || x.nominated) one ∙ other

-- the nomination
nominating_is : (setup : Setup) (s : State) (y : Pair) → is_succeeded y.state ≡ true → is_choice setup s y ≡ true → is_nominating setup s y ≡ true
nominating_is setup s y valid is =
    and_from (is_controlling s.role) (is_succeeded y.state && (y.chosen || is_choice setup s y)) (and_parts (is_controlling s.role) _ is).0
    (and_from (is_succeeded y.state) (y.chosen || is_choice setup s y) valid (or_right y.chosen (is_choice setup s y) is))

unnominating_is : (e : End) (since until : ℕ) (setup : Setup) (s : State) (y : Pair) → IsValidIn e since until s.role y → is_choice setup s y ≡ false → is_nominating setup s y ≡ false
unnominating_is e since until setup s y v isnt = elim (cases_Bool (is_controlling s.role)) as (λ x. is_nominating setup s y ≡ false) [
  | inl yes_it ↦ and_right (is_controlling s.role) (is_succeeded y.state && (y.chosen || is_choice setup s y)) (and_right (is_succeeded y.state) (y.chosen || is_choice setup s y) (ap (λ (b : Bool). b || is_choice setup s y) (v.1 yes_it).0 ∙ isnt))
  | inr not_it ↦ and_left (is_controlling s.role) (is_succeeded y.state && (y.chosen || is_choice setup s y)) not_it
]

opposite_follows : (r q : Role) → r ≡ other_role q → is_controlling r ≡ true → is_controlling q ≡ false
opposite_follows r Controlling is yes_it = absurd (let bad : Controlled ≡ r = sym is in neither ⊥ (is_controlling r) yes_it (ap is_controlling is))
opposite_follows r Controlled is yes_it = refl

abbrev pub ValidResult : (e d : End) (net back : ℕ → Endpoint → Option Place) → (since d_since next d_until now gate until : ℕ) → Role → Role → Agents → Type 0
ValidResult e d net back since d_since next d_until now gate until r q both = Result e d net back (IsValidIn e since next r) (IsValidIn d d_since d_until q) now gate until r q both

abbrev pub MetResult : (e d : End) (net back : ℕ → Endpoint → Option Place) → (since d_since next d_until now gate until : ℕ) → Role → Role → Agents → Type 0
MetResult e d net back since d_since next d_until now gate until r q both = Result e d net back (IsMetIn e since next r) (IsMetIn d d_since d_until q) now gate until r q both

pub valid_turn : (own_setup peer_setup : Setup) (e d : End) (net back : ℕ → Endpoint → Option Place) (since d_since next own_until peer_until now until fresh anew : ℕ) (own peer : State)
    → IsFit own_setup → Leads e d net → next ≤ now + seconds 20 → now ≤ own_until → now ≤ peer_until
    → IsAgent e net (IsValidIn e since own_until own.role) now now own → IsAgent d back (IsValidIn d d_since peer_until peer.role) now until peer → own.role ≡ other_role peer.role
    → (ValidResult e d net back since d_since next peer_until now (now + pace own_setup) until own.role peer.role (turn own_setup peer_setup net now fresh anew own peer) × (is_controlling own.role ≡ true → now < since + own_setup.patience))
    ⊎ MetResult e d net back since d_since next peer_until now (now + pace own_setup) until own.role peer.role (turn own_setup peer_setup net now fresh anew own peer)
valid_turn own_setup peer_setup e d net back since d_since next own_until peer_until now until fresh anew own peer fit way soon own_le peer_le a b opposite =
    let s : State = moved own_setup now own in
    let V : Agents → Type 0 = ValidResult e d net back since d_since next peer_until now (now + pace own_setup) until own.role peer.role in
    let M : Agents → Type 0 = MetResult e d net back since d_since next peer_until now (now + pace own_setup) until own.role peer.role in
    let place : Place = record { base = d.base; from = d.to } in
    let to_turn = sym (turn_is own_setup peer_setup net now fresh anew own peer a.clock) in
    let x = agent_exact e net (IsValidIn e since own_until own.role) now now s (moved_agent e net (IsValidIn e since own_until own.role) (IsValidIn e since own_until own.role) own_setup now now now own (λ z v. valid_lasts e since own_until own.role own_setup now z own_le v) a) in
    let y : Pair = x.0 in
    let t : IsTold e since own_until y = x.1.0 in
    let unlost = valid_unlost y.state t.valid in
    elim (cases_Bool (is_choice own_setup s y)) as (λ w. (V (turn own_setup peer_setup net now fresh anew own peer) × (is_controlling own.role ≡ true → now < since + own_setup.patience)) ⊎ M (turn own_setup peer_setup net now fresh anew own peer)) [
      | inl choice ↦
          let nominates : is_nominating own_setup s y ≡ true = nominating_is own_setup s y t.valid choice in
          let controls : is_controlling own.role ≡ true = (and_parts (is_controlling s.role) _ choice).0 in
          let marks = renewed_nominated e since own_until own_setup s fresh own.role now (request_on own_setup s fresh y) y own_le t nominates nominates controls in
          inr (subst M to_turn (served M own_setup peer_setup e net place now fresh anew s peer y way t.there refl x.2 (choice_high own_setup s y unlost (or_left (is_choice own_setup s y) _ choice))
          (opposite_exchange own_setup peer_setup e d net back (IsValidIn d d_since peer_until peer.role) (IsMetIn e since next own.role) (IsMetIn d d_since peer_until peer.role) now until fresh anew s peer y fit t.there refl x.2 b opposite
          (told_renewed e since own_until own_setup s fresh own.role now (request_on own_setup s fresh y) y fit refl own_le next soon t, marks.1, λ _. marks.0)
          (λ o z v. met_thaws e since next own.role o z v)
          (λ z v. v.0.there) (λ z v. valid_lasts d d_since peer_until peer.role peer_setup now z peer_le v)
          (λ z v. let h = told_heard d d_since peer_until peer.role (delivered (request_on own_setup s fresh y) d.base d.to) z v.0 in
          let follows = opposite_follows own.role peer.role opposite controls in
          (h.0, h.4 nominates follows, λ is. neither _ (is_controlling peer.role) is follows)))))
      | inr no_choice ↦
          let plain : is_nominating own_setup s y ≡ false = unnominating_is e since own_until own_setup s y x.1 no_choice in
          let good : V (gets_to own_setup peer_setup now anew (request_on own_setup s fresh y) (asks_on own_setup fresh s y).state peer (Some place)) =
          opposite_exchange own_setup peer_setup e d net back (IsValidIn d d_since peer_until peer.role) (IsValidIn e since next own.role) (IsValidIn d d_since peer_until peer.role) now until fresh anew s peer y fit t.there refl x.2 b opposite (
            told_renewed e since own_until own_setup s fresh own.role now (request_on own_setup s fresh y) y fit refl own_le next soon t,
            λ is. renewed_unmarked e since own_until own_setup s fresh own.role now (request_on own_setup s fresh y) y own_le t plain (x.1.1 is).0 (x.1.1 is).1,
          )
          (λ o z v. valid_thaws e since next own.role o z v)
          (λ z v. v.0.there) (λ z v. valid_lasts d d_since peer_until peer.role peer_setup now z peer_le v)
          (λ z v. valid_heard d d_since peer_until peer.role (delivered (request_on own_setup s fresh y) d.base d.to) z v) in
          inl (
            subst V to_turn (elim (cases_Bool (nat_le y.due now)) as (λ w. V (turn_from own_setup peer_setup net now fresh anew s peer)) [
              | inl is_due ↦ served V own_setup peer_setup e net place now fresh anew s peer y way t.there refl x.2
                  (choice_high own_setup s y unlost (or_right (is_choice own_setup s y) (is_succeeded y.state && nat_le y.due now) (and_from (is_succeeded y.state) (nat_le y.due now) t.valid is_due))) good
              | inr isnt ↦ turned V own_setup peer_setup e net place now fresh anew s peer y way t.there refl x.2
                  (λ u agent role. record {
                    own = weaker_agent e net (λ z. z ≡ y) (IsValidIn e since next own.role) now now (now + pace own_setup) (now + pace own_setup) u
                        (λ z same. same_told (IsValidIn e since next own.role) z y same (still_told e since own_until now next y isnt soon t, x.1.1)) (omega arith) (omega arith) agent;
                    peer = b;
                    own_role = role;
                    peer_role = refl;
                  }) good
            ]),
            λ controls. elim (cases_lt now (since + own_setup.patience)) as (λ w. now < since + own_setup.patience) [
              | inl lt ↦ lt
              | inr le ↦ neither _ (is_choice own_setup s y) (choice_is e net since own_until now own_setup s y refl x.2 x.1 controls le) no_choice
            ],
          )
    ]

-- ---- Both have met

pub met_turn : (own_setup peer_setup : Setup) (e d : End) (net back : ℕ → Endpoint → Option Place) (since d_since next own_until peer_until now until fresh anew : ℕ) (own peer : State)
    → IsFit own_setup → Leads e d net → next ≤ now + seconds 20 → now ≤ own_until → now ≤ peer_until
    → IsAgent e net (IsMetIn e since own_until own.role) now now own → IsAgent d back (IsMetIn d d_since peer_until peer.role) now until peer → own.role ≡ other_role peer.role
    → MetResult e d net back since d_since next peer_until now (now + pace own_setup) until own.role peer.role (turn own_setup peer_setup net now fresh anew own peer)
met_turn own_setup peer_setup e d net back since d_since next own_until peer_until now until fresh anew own peer fit way soon own_le peer_le a b opposite =
    let s : State = moved own_setup now own in
    let M : Agents → Type 0 = MetResult e d net back since d_since next peer_until now (now + pace own_setup) until own.role peer.role in
    let place : Place = record { base = d.base; from = d.to } in
    let x = agent_exact e net (IsMetIn e since own_until own.role) now now s (moved_agent e net (IsMetIn e since own_until own.role) (IsMetIn e since own_until own.role) own_setup now now now own (λ z v. met_lasts e since own_until own.role own_setup now z own_le v) a) in
    let y : Pair = x.0 in
    let t : IsTold e since own_until y = x.1.0 in
    let marks = renewed_marked e since own_until own_setup s fresh own.role now (request_on own_setup s fresh y) y own_le t in
    let good : M (gets_to own_setup peer_setup now anew (request_on own_setup s fresh y) (asks_on own_setup fresh s y).state peer (Some place)) =
    opposite_exchange own_setup peer_setup e d net back (IsMetIn d d_since peer_until peer.role) (IsMetIn e since next own.role) (IsMetIn d d_since peer_until peer.role) now until fresh anew s peer y fit t.there refl x.2 b opposite
    (told_renewed e since own_until own_setup s fresh own.role now (request_on own_setup s fresh y) y fit refl own_le next soon t, marks.1 x.1.1, λ is. marks.0 (x.1.2 is))
    (λ o z v. met_thaws e since next own.role o z v)
    (λ z v. v.0.there) (λ z v. met_lasts d d_since peer_until peer.role peer_setup now z peer_le v)
    (λ z v. met_heard d d_since peer_until peer.role (delivered (request_on own_setup s fresh y) d.base d.to) z v) in
    subst M (sym (turn_is own_setup peer_setup net now fresh anew own peer a.clock)) (elim (cases_Bool (nat_le y.due now)) as (λ w. M (turn_from own_setup peer_setup net now fresh anew s peer)) [
      | inl is_due ↦ served M own_setup peer_setup e net place now fresh anew s peer y way t.there refl x.2
          (choice_high own_setup s y (valid_unlost y.state t.valid) (or_right (is_choice own_setup s y) (is_succeeded y.state && nat_le y.due now) (and_from (is_succeeded y.state) (nat_le y.due now) t.valid is_due))) good
      | inr isnt ↦ turned M own_setup peer_setup e net place now fresh anew s peer y way t.there refl x.2
          (λ u agent role. record {
            own = weaker_agent e net (λ z. z ≡ y) (IsMetIn e since next own.role) now now (now + pace own_setup) (now + pace own_setup) u
                (λ z same. same_told (IsMetIn e since next own.role) z y same (still_told e since own_until now next y isnt soon t, x.1.1, x.1.2)) (omega arith) (omega arith) agent;
            peer = b;
            own_role = role;
            peer_role = refl;
          }) good
    ])
