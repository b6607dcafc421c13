-- Two agents with a working way meet, and stay met.
use Rattle.std.proofs.Common.{◌≡◌, ℕ, zero, suc, ◌+◌, ◌-◌, ◌<◌, ◌≤◌, inl, inr, ◌⊎◌, Bool, true, false, ◌&&◌, List, Option, None, Some, refl, sym, ap, subst, ◌∙◌, arith}
use Rattle.std.specs.Prelude.{◌==◌, nat_le, nat_lt, if◌then◌else◌}
use Rattle.std.proofs.lemmas.Bool.{cond_both, cond-true, cond-false, and_from, and_right, eq-eqb, le-leb, leb-true, lt-ltb, le-ltb, cases_lt}
use Rattle.stun_endpoints.specs.declared.endpoints.Endpoint.{Endpoint}
use Rattle.ice_machine.specs.Roles.{Role}
use Rattle.ice_machine.specs.Agents.{Pair, Setup, State, pace, is_at, is_succeeded, pair_priority}
use Rattle.ice_machine.specs.Events.{sends, data_to}
use Rattle.ice_machine.specs.Pairs.{selected, selection_score, is_selectable}
use Rattle.ice_machine.specs.Steps.{at, step}
use Rattle.ice_machine.specs.Networks.{Place, Network, nowhere, Agents, round}
use Rattle.ice_machine.specs.Meetings.{End, Meeting, noisy, round_of, after, IsMeeting, IsUseless, IsAgent, IsPassive, IsTrying, IsNewWay, IsStarting, AreStarting, Reaches, HaveMet}
use Rattle.ice_machine.proofs.AddressesLemmas.{at_base, at_remote}
use Rattle.ice_machine.proofs.FinalLemmas.{data_goes}
use Rattle.ice_machine.proofs.MeetLists.{FoundBy, one_best}
use Rattle.ice_machine.proofs.MeetSteps.{at_agent, weaker_agent}
use Rattle.ice_machine.proofs.MeetStages.{IsMetIn, met_lasts}
use Rattle.ice_machine.proofs.MeetTries.{less_when, IsHoping}
use Rattle.ice_machine.proofs.MeetLosses.{new_hoping, OneNew, OtherNew, lost_round, one_lost, other_lost}
use Rattle.ice_machine.proofs.MeetRounds.{full_round, SomeTries, AreMet, AreTold, IsNear, IsClose, told_round, patient_round, close_round, near_round, some_tries_round}

-- ---- Data

score_some : (b : Bool) (n : ℕ) → b ≡ true → 0 < (if b then 1 + n else 0)
score_some true n is = omega arith
score_some false n is = absurd cc

score_none : (b : Bool) (n m : ℕ) → b ≡ false → 0 < m → (if b then 1 + n else 0) < m
score_none true n m is some = absurd cc
score_none false n m is some = some

met_score : (e : End) (since until : ℕ) (r q : Role) (p : Pair) → IsMetIn e since until r p → 0 < selection_score q e.component p
met_score e since until r q p v = score_some (is_selectable e.component p) (pair_priority q p) (and_from (p.component == e.component) (p.nominated && is_succeeded p.state) (eq-eqb p.component e.component v.0.component) (and_from p.nominated (is_succeeded p.state) v.1 v.0.valid))

useless_score : (e : End) (net : ℕ → Endpoint → Option Place) (q : Role) (p : Pair) (m : ℕ) → IsUseless e net p → 0 < m → selection_score q e.component p < m
useless_score e net q p m u some = score_none (is_selectable e.component p) (pair_priority q p) m (and_right (p.component == e.component) (p.nominated && is_succeeded p.state) (and_right p.nominated (is_succeeded p.state) u.invalid)) some

goes_there : (setup : Setup) (s : State) (t fresh : ℕ) (e : End) (bytes : List ℕ) (P : Pair → Type 0) (o : Option Pair) → selected e.component (at setup t s) ≡ o → ((p : Pair) → P p → is_at e.base e.to p ≡ true) → FoundBy P o
    → (step setup s t fresh (sends e.component bytes)).output ≡ data_to e.base e.to bytes
goes_there setup s t fresh e bytes P None is there found = absurd found
goes_there setup s t fresh e bytes P (Some p) is there found =
    data_goes setup s t fresh e.component bytes p is
    ∙ ap (λ (b : ℕ). data_to b p.remote bytes) (sym (at_base e.base e.to p (there p found))) ∙ ap (λ (x : Endpoint). data_to e.base x bytes) (sym (at_remote e.base e.to p (there p found)))

agent_reaches : (e : End) (net : ℕ → Endpoint → Option Place) (setup : Setup) (since now gate : ℕ) (s : State) → IsAgent e net (IsMetIn e since now s.role) now gate s → Reaches setup e now s
agent_reaches e net setup since now gate s a = λ t fresh bytes le.
    let b : IsAgent e net (IsMetIn e since now s.role) now gate (at setup t s) = at_agent e net (IsMetIn e since now s.role) setup t now gate s (λ c z early v. met_lasts e since now s.role setup c z early v) le a in
    goes_there setup s t fresh e bytes (IsMetIn e since now s.role) (selected e.component (at setup t s)) refl (λ p v. v.0.there)
    (one_best (IsMetIn e since now s.role) (IsUseless e net) (selection_score s.role e.component) (λ x v. met_score e since now s.role s.role x v) (λ x y v u. useless_score e net s.role y (selection_score s.role e.component x) u (met_score e since now s.role s.role x v)) (at setup t s).pairs b.pairs)

pub met_reach : (m : Meeting) (since n : ℕ) (both : Agents) → AreMet m since n both → HaveMet m n both
met_reach m since n both o = (agent_reaches m.one_end m.net.there m.one_setup since (m.moment n) (m.moment n) both.one o.own, agent_reaches m.other_end m.net.back m.other_setup since (m.moment n) (m.moment n) both.other o.peer)

-- ---- Runs

lost_is : (m : Meeting) (n : ℕ) (both : Agents) → n < m.lost → round_of m n both ≡ lost_round m n both
lost_is m n both lt = ap (λ (net : Network). round m.one_setup m.other_setup net (m.moment n) (m.fresh n) (noisy m n both)) (cond-true (nat_lt n m.lost) nowhere m.net (lt-ltb n m.lost lt))

full_is : (m : Meeting) (n : ℕ) (both : Agents) → m.lost ≤ n → round_of m n both ≡ full_round m n both
full_is m n both le = ap (λ (net : Network). round m.one_setup m.other_setup net (m.moment n) (m.fresh n) (noisy m n both)) (cond-false (nat_lt n m.lost) nowhere m.net (le-ltb n m.lost le))

zero_plus : (n : ℕ) → n ≡ 0 + n
zero_plus n = omega arith

suc_plus : (n k : ℕ) → suc (k + n) ≡ suc k + n
suc_plus n k = omega arith

later : (m : Meeting) (n more : ℕ) → IsMeeting m → m.moment n ≤ m.moment (n + more)
later m n zero k = subst (λ (i : ℕ). m.moment n ≤ m.moment i) (plus_zero n) (omega arith)
  where
    plus_zero : (n : ℕ) → n ≡ n + 0
    plus_zero n = omega arith
later m n (suc more) k =
    let one = later m n more k in
    let two = k.one_paced (n + more) in
    subst (λ (i : ℕ). m.moment n ≤ m.moment i) (plus_suc n more) (omega (arith, one, two))
  where
    plus_suc : (n k : ℕ) → suc (n + k) ≡ n + suc k
    plus_suc n k = omega arith

moment_later : (m : Meeting) (n i : ℕ) → IsMeeting m → n ≤ i → m.moment n ≤ m.moment i
moment_later m n i k le = subst (λ (j : ℕ). m.moment n ≤ m.moment j) (plus_minus n i le) (later m n (i - n) k)
  where
    plus_minus : (n i : ℕ) → n ≤ i → n + (i - n) ≡ i
    plus_minus n i le = omega (arith, le)

-- ---- The rounds that are lost

plus_none : (n : ℕ) → n ≡ n + 0
plus_none n = omega arith

plus_next : (n k : ℕ) → suc (n + k) ≡ n + suc k
plus_next n k = omega arith

enough_by : (lost n tries count : ℕ) → (lost ≡ 0) ⊎ (tries ≤ count) → n < lost → tries ≤ count
enough_by lost n tries count (inl none) lt = absurd (omega (arith, none, lt))
enough_by lost n tries count (inr enough) lt = enough

one_starts : (m : Meeting) (count due tried most : ℕ) (both : Agents) (n : ℕ) → IsMeeting m → n ≤ m.lost → IsStarting m m.one_end m.net.there m.one_setup count due tried most both.one → IsPassive m.other_end m.net.back m.other_setup (m.moment 0) (m.moment 0) both.other
    → OneNew m count due (tried + n) most n (after m n both)
one_starts m count due tried most both zero k le t other = subst (λ (i : ℕ). OneNew m count due i most 0 both) (plus_none tried) (t.trying, other)
one_starts m count due tried most both (suc n) k le t other =
    let before : Agents = after m n both in
    subst (OneNew m count due (tried + suc n) most (suc n)) (sym (lost_is m n before le)) (subst (λ (i : ℕ). OneNew m count due i most (suc n) (lost_round m n before)) (plus_next tried n)
    (one_lost m count due (tried + n) most n before k (let able = t.able in omega (arith, able, le)) (enough_by m.lost n m.one_setup.most_tries count t.counted le) (t.again n le) (one_starts m count due tried most both n k (omega (arith, le)) t other)))

other_starts : (m : Meeting) (count due tried most : ℕ) (both : Agents) (n : ℕ) → IsMeeting m → n ≤ m.lost → IsPassive m.one_end m.net.there m.one_setup (m.moment 0) (m.moment 0) both.one → IsStarting m m.other_end m.net.back m.other_setup count due tried most both.other
    → OtherNew m count due (tried + n) most n (after m n both)
other_starts m count due tried most both zero k le one t = subst (λ (i : ℕ). OtherNew m count due i most 0 both) (plus_none tried) (one, t.trying)
other_starts m count due tried most both (suc n) k le one t =
    let before : Agents = after m n both in
    subst (OtherNew m count due (tried + suc n) most (suc n)) (sym (lost_is m n before le)) (subst (λ (i : ℕ). OtherNew m count due i most (suc n) (lost_round m n before)) (plus_next tried n)
    (other_lost m count due (tried + n) most n before k (let able = t.able in omega (arith, able, le)) (enough_by m.lost n m.other_setup.most_tries count t.counted le) (t.again n le) (other_starts m count due tried most both n k (omega (arith, le)) one t)))

-- what is new may still be tried
new_tries : (e : End) (net : ℕ → Endpoint → Option Place) (setup : Setup) (count due tried now gate most : ℕ) (s : State) → tried < setup.most_tries → IsTrying e net count (IsNewWay e setup count due tried) now gate most s → IsTrying e net count (IsHoping e setup count due) now gate most s
new_tries e net setup count due tried now gate most s able t = record {
  agent = weaker_agent e net (IsNewWay e setup count due tried) (IsHoping e setup count due) now now gate gate s (λ z v. new_hoping e setup count due tried z able v) (omega arith) (omega arith) t.agent;
  distinct = t.distinct;
  few = t.few;
}

all_lost : (m : Meeting) (count due tried most : ℕ) (both : Agents) → IsMeeting m → AreStarting m count due tried most both → SomeTries m count due most m.lost (after m m.lost both)
all_lost m count due tried most both k (inl one) =
    let l = one_starts m count due tried most both m.lost k (omega arith) one.0 one.1 in
    inl (new_tries m.one_end m.net.there m.one_setup count due (tried + m.lost) (m.moment m.lost) (m.moment m.lost) most (after m m.lost both).one one.0.able l.0, l.1)
all_lost m count due tried most both k (inr other) =
    let l = other_starts m count due tried most both m.lost k (omega arith) other.0 other.1 in
    inr (l.0, new_tries m.other_end m.net.back m.other_setup count due (tried + m.lost) (m.moment m.lost) (m.moment m.lost) most (after m m.lost both).other other.1.able l.1)

-- ---- And the others

-- they still try, or they are near
abbrev Tries : Meeting → (count due wait most since n : ℕ) → Agents → Type 0
Tries m count due wait most since n both = ((left : ℕ) × SomeTries m count due left n both × (left + (n - wait) ≤ most)) ⊎ IsNear m since n both

less_then : (due now left n wait most : ℕ) → (wait ≤ n → due ≤ now) → (due ≤ now → 1 ≤ left) → left + (n - wait) ≤ most → less_when due now left + (suc n - wait) ≤ most
less_then due now left n wait most when_due some le = cond_both (nat_le due now) (left - 1) left (λ i. i + (suc n - wait) ≤ most)
    (λ is. let one = some (leb-true due now is) in omega (arith, one, le))
    (λ isnt. elim (cases_lt n wait) as (λ w. left + (suc n - wait) ≤ most) [
      | inl lt ↦ omega (arith, lt, le)
      | inr ge ↦ absurd (let bad : true ≡ false = sym (le-leb due now (when_due ge)) ∙ isnt in cc)
    ])

tries_round : (m : Meeting) (count due wait most last n : ℕ) (before : Agents) → IsMeeting m → due ≤ m.moment wait → n ≤ last → Tries m count due wait most (m.moment last) n before → Tries m count due wait most (m.moment last) (suc n) (full_round m n before)
tries_round m count due wait most last n before k is_due le (inl still) =
    let soon : m.moment n ≤ m.moment last = moment_later m n last k le in
    elim (some_tries_round m (m.moment last) count due still.0 n before k soon still.1) as (λ w. Tries m count due wait most (m.moment last) (suc n) (full_round m n before)) [
      | inl near ↦ inr near
      | inr waits ↦ inl (less_when due (m.moment n) still.0, waits.0, less_then due (m.moment n) still.0 n wait most (λ ge. let l = moment_later m wait n k ge in omega (arith, is_due, l)) waits.1 still.2)
    ]
tries_round m count due wait most last n before k is_due le (inr near) = inr (inr (near_round m (m.moment last) n before k (moment_later m n last k le) near))

tries_by : (m : Meeting) (count due wait most last : ℕ) (both : Agents) (n : ℕ) → IsMeeting m → due ≤ m.moment wait → m.lost ≤ wait → n + m.lost ≤ suc last → SomeTries m count due most m.lost (after m m.lost both) → Tries m count due wait most (m.moment last) (n + m.lost) (after m (n + m.lost) both)
tries_by m count due wait most last both zero k is_due full le t = subst (λ (i : ℕ). Tries m count due wait most (m.moment last) i (after m i both)) (zero_plus m.lost) (inl (most, t, omega (arith, full)))
tries_by m count due wait most last both (suc n) k is_due full le t =
    let i : ℕ = n + m.lost in
    let before : Agents = after m i both in
    subst (λ (j : ℕ). Tries m count due wait most (m.moment last) j (after m j both)) (suc_plus m.lost n)
    (subst (Tries m count due wait most (m.moment last) (suc i)) (sym (full_is m i before (omega arith)))
    (tries_round m count due wait most last i before k is_due (omega (arith, le)) (tries_by m count due wait most last both n k is_due full (omega (arith, le)) t)))

near_at : (m : Meeting) (count due wait most since n : ℕ) (both : Agents) → wait + most < n → Tries m count due wait most since n both → IsNear m since n both
near_at m count due wait most since n both gone (inl still) = absurd (let le = still.2 in omega (arith, gone, le))
near_at m count due wait most since n both gone (inr near) = near

minus_plus : (n i : ℕ) → i ≤ n → (n - i) + i ≡ n
minus_plus n i le = omega (arith, le)

-- within so many rounds both are valid
told_at : (m : Meeting) (count due wait most : ℕ) (both : Agents) → IsMeeting m → due ≤ m.moment wait → m.lost ≤ wait → SomeTries m count due most m.lost (after m m.lost both)
    → let last = wait + most + 2 in AreTold m (m.moment last) (suc last) (after m (suc last) both)
told_at m count due wait most both k is_due full t =
    let last : ℕ = wait + most + 2 in
    let first : ℕ = wait + most + 1 in
    let tried : Tries m count due wait most (m.moment last) first (after m first both) = subst (λ (i : ℕ). Tries m count due wait most (m.moment last) i (after m i both)) (minus_plus first m.lost (omega (arith, full)))
    (tries_by m count due wait most last both (first - m.lost) k is_due full (omega (arith, full)) t) in
    let near : IsNear m (m.moment last) first (after m first both) = near_at m count due wait most (m.moment last) first (after m first both) (omega arith) tried in
    let close : IsClose m (m.moment last) (suc first) (after m (suc first) both) = subst (IsClose m (m.moment last) (suc first)) (sym (full_is m first (after m first both) (omega (arith, full))))
    (near_round m (m.moment last) first (after m first both) k (moment_later m first last k (omega arith)) near) in
    let told : AreTold m (m.moment last) (suc (suc first)) (after m (suc (suc first)) both) = subst (AreTold m (m.moment last) (suc (suc first))) (sym (full_is m (suc first) (after m (suc first) both) (omega (arith, full))))
    (close_round m (m.moment last) (suc first) (after m (suc first) both) k (moment_later m (suc first) last k (omega arith)) close) in
    subst (λ (i : ℕ). AreTold m (m.moment last) (suc i) (after m (suc i) both)) (last_is wait most) told
  where
    last_is : (wait most : ℕ) → suc (wait + most + 1) ≡ wait + most + 2
    last_is wait most = omega arith

told_later : (m : Meeting) (since : ℕ) (both : Agents) (n more : ℕ) → IsMeeting m → m.lost ≤ n → AreTold m since n (after m n both) → AreTold m since (more + n) (after m (more + n) both)
told_later m since both n zero k full o = subst (λ (i : ℕ). AreTold m since i (after m i both)) (zero_plus n) o
told_later m since both n (suc more) k full o =
    let before : Agents = after m (more + n) both in
    subst (λ (i : ℕ). AreTold m since i (after m i both)) (suc_plus n more)
    (subst (AreTold m since (suc (more + n))) (sym (full_is m (more + n) before (omega (arith, full)))) (told_round m since (more + n) before k (told_later m since both n more k full o)))

strictly : (m : Meeting) (n i : ℕ) → IsMeeting m → m.moment n ≤ m.moment i → n ≤ i
strictly m n i k le = elim (cases_lt i n) as (λ w. n ≤ i) [
  | inl lt ↦ absurd (let one = k.one_paced i in let two = moment_later m (suc i) n k lt in let some = pace_some m.one_setup in omega (arith, one, two, some, le))
  | inr ge ↦ ge
]
  where
    pace_some : (setup : Setup) → 0 < pace setup
    pace_some setup = omega arith

met_by : (m : Meeting) (both : Agents) (count due wait most j n : ℕ) → IsMeeting m → SomeTries m count due most m.lost (after m m.lost both) → due ≤ m.moment wait → m.lost ≤ wait
    → m.moment (wait + most + 2) + m.one_setup.patience ≤ m.moment j → m.moment (wait + most + 2) + m.other_setup.patience ≤ m.moment j → j + 2 ≤ suc n → AreMet m (m.moment (wait + most + 2)) (suc n) (after m (suc n) both)
met_by m both count due wait most j n k t is_due full one_over other_over more =
    let last : ℕ = wait + most + 2 in
    let reached : last ≤ j = strictly m last j k (omega (arith, one_over)) in
    let told : AreTold m (m.moment last) n (after m n both) = subst (λ (i : ℕ). AreTold m (m.moment last) i (after m i both)) (minus_plus n (suc last) (omega (arith, reached, more)))
    (told_later m (m.moment last) both (suc last) (n - suc last) k (omega (arith, full)) (told_at m count due wait most both k is_due full t)) in
    let over : m.moment j ≤ m.moment n = moment_later m j n k (omega (arith, more)) in
    subst (AreMet m (m.moment last) (suc n)) (sym (full_is m n (after m n both) (omega (arith, full, reached, more))))
    (patient_round m (m.moment last) n (after m n both) k (omega (arith, over, one_over)) (omega (arith, over, other_over)) told)

pub will_meet : (m : Meeting) (both : Agents) (count due tried wait most j n : ℕ) → IsMeeting m → AreStarting m count due tried most both → due ≤ m.moment wait → m.lost ≤ wait
    → m.moment (wait + most + 2) + m.one_setup.patience ≤ m.moment j → m.moment (wait + most + 2) + m.other_setup.patience ≤ m.moment j → j + 2 ≤ n → HaveMet m n (after m n both)
will_meet m both count due tried wait most j zero k t is_due full one_over other_over more = absurd (omega (arith, more))
will_meet m both count due tried wait most j (suc n) k t is_due full one_over other_over more =
    met_reach m (m.moment (wait + most + 2)) (suc n) (after m (suc n) both) (met_by m both count due wait most j n k (all_lost m count due tried most both k t) is_due full one_over other_over more)
