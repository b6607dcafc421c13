-- The rounds that are lost at first.
use Rattle.std.proofs.Common.{◌≡◌, ℕ, suc, ◌+◌, ◌*◌, ◌^◌, ◌<◌, ◌≤◌, inl, inr, ◌⊎◌, Bool, true, ◌||◌, List, [], ◌∷◌, Option, None, Some, refl, sym, ap, subst, ◌∙◌, arith}
use Rattle.std.specs.Option.{option_map_or}
use Rattle.std.specs.Prelude.{nat_le, if◌then◌else◌}
use Rattle.std.proofs.lemmas.Bool.{cond_both, cond-true, and_from, le-leb}
use Rattle.std.proofs.Math.Pow.{pow_mono}
use Rattle.std.proofs.Math.Nat.{mul-le-mul_left}
use Rattle.stun_endpoints.specs.declared.endpoints.Endpoint.{Endpoint}
use Rattle.ice_machine.specs.Agents.{Pair, Setup, State, pace, is_at, is_succeeded, is_in_progress, is_waiting, is_frozen, is_lost}
use Rattle.ice_machine.specs.Pairs.{best}
use Rattle.ice_machine.specs.Bounds.{AreDistinct}
use Rattle.ice_machine.specs.Checks.{asked, score, urgency, most_urgent, rto_of}
use Rattle.ice_machine.specs.Steps.{Step, does_nothing, settled, changed_first, asks_on, is_open}
use Rattle.ice_machine.specs.Networks.{Place, Agents, nowhere, goes, turn, round}
use Rattle.ice_machine.specs.Meetings.{End, Meeting, noisy, IsMeeting, IsUseless, IsUntold, IsHopeful, IsAgent, IsPassive, IsTrying, IsNewWay, tries_left, delay}
use Rattle.ice_machine.proofs.PlacesLemmas.{neither, at_left, asked_left, keeps_changed, at_distinct}
use Rattle.ice_machine.proofs.RightLemmas.{IsGood}
use Rattle.ice_machine.proofs.SilenceLemmas.{some_urgency}
use Rattle.ice_machine.proofs.MeetLists.{either_best}
use Rattle.ice_machine.proofs.MeetPairs.{untold_settled, untold_asked}
use Rattle.ice_machine.proofs.MeetSteps.{moved, at_is, moved_agent, weaker_agent, asked_agent, vain_agent, same_place, turn_from, turn_is}
use Rattle.ice_machine.proofs.MeetUnaware.{passive_weaker, passive_disturbed, unaware_turn}
use Rattle.ice_machine.proofs.MeetTries.{IsHoping, hoping_settled, trying_later, delay_settled, delay_changed, asked_less, vain_first, trying_disturbed_by}

-- ---- A turn that is lost

-- each outcome
record Loses (R : Agents → Type 0) (setup : Setup) (e : End) (net : ℕ → Endpoint → Option Place) (P : Pair → Type 0) (fresh : ℕ) (s peer : State) : Type 0 where
  idle : R (record { one = s; other = peer })
  vain : (x : Pair) → IsUseless e net x → 0 < score setup s x → best (score setup s) s.pairs ≡ Some x → R (record { one = (asks_on setup fresh s x).state; other = peer })
  good : (x : Pair) → P x → R (record { one = (asks_on setup fresh s x).state; other = peer })

loses_by : (R : Agents → Type 0) (setup peer_setup : Setup) (e : End) (net : ℕ → Endpoint → Option Place) (P : Pair → Type 0) (now fresh anew : ℕ) (s peer : State) (o : Option Pair) → best (score setup s) s.pairs ≡ o → IsGood (λ y. P y ⊎ IsUseless e net y) (score setup s) o → Loses R setup e net P fresh s peer
    → R (goes setup peer_setup nowhere.there now anew (option_map_or (asks_on setup fresh s) o (does_nothing s)).state peer (option_map_or (asks_on setup fresh s) o (does_nothing s)).output)
loses_by R setup peer_setup e net P now fresh anew s peer None is good l = l.idle
loses_by R setup peer_setup e net P now fresh anew s peer (Some x) is (inl p, some) l = l.good x p
loses_by R setup peer_setup e net P now fresh anew s peer (Some x) is (inr u, some) l = l.vain x u some is

lost_turn : (R : Agents → Type 0) (setup peer_setup : Setup) (e : End) (net : ℕ → Endpoint → Option Place) (P : Pair → Type 0) (now fresh anew : ℕ) (s peer : State) → s.clock ≡ now → IsAgent e net P now now s → Loses R setup e net P fresh s peer
    → R (turn_from setup peer_setup nowhere.there now fresh anew s peer)
lost_turn R setup peer_setup e net P now fresh anew s peer clock a l =
    let free : is_open s ≡ true = and_from s.ready (nat_le s.next_request_at s.clock) a.ready (le-leb s.next_request_at s.clock (let p = a.paced in omega (arith, p, clock))) in
    subst (λ (x : Step). R (goes setup peer_setup nowhere.there now anew x.state peer x.output)) (sym (cond-true (is_open s) (option_map_or (asks_on setup fresh s) (most_urgent setup s) (does_nothing s)) (does_nothing s) free))
    (loses_by R setup peer_setup e net P now fresh anew s peer (most_urgent setup s) refl (either_best P (IsUseless e net) (score setup s) s.pairs a.pairs) l)

-- the agent that may ask on the way, or doesn't know it
passive_loses : (setup peer_setup : Setup) (e : End) (net : ℕ → Endpoint → Option Place) (now fresh anew : ℕ) (own peer : State) → IsPassive e net setup now now own
    → let next = turn setup peer_setup nowhere.there now fresh anew own peer in IsPassive e net setup now (now + pace setup) next.one × (next.other ≡ peer)
passive_loses setup peer_setup e net now fresh anew own peer (inl a) =
    let s : State = moved setup now own in
    let W : Agents → Type 0 = λ both. IsPassive e net setup now (now + pace setup) both.one × (both.other ≡ peer) in
    let b = moved_agent e net (IsUntold e) (IsUntold e) setup now now now own (λ z is. untold_settled e setup now z is) a in
    subst W (sym (turn_is setup peer_setup nowhere.there now fresh anew own peer a.clock)) (lost_turn W setup peer_setup e net (IsUntold e) now fresh anew s peer refl b (record {
      idle = (inl (weaker_agent e net (IsUntold e) (IsUntold e) now now now (now + pace setup) s (λ z v. v) (omega arith) (omega arith) b), refl);
      vain = λ x u some is. (inl (vain_agent e net (IsUntold e) setup now now fresh s x refl u (λ z v. v.there) b), refl);
      good = λ x v. (inl (asked_agent e net (IsUntold e) (IsUntold e) setup now now fresh s x refl v.there (λ z w. w.there) (λ z w. untold_asked e setup s fresh z w) b), refl);
    }))
passive_loses setup peer_setup e net now fresh anew own peer (inr a) =
    let W : Agents → Type 0 = λ both. IsPassive e net setup now (now + pace setup) both.one × (both.other ≡ peer) in
    subst W (sym (turn_is setup peer_setup nowhere.there now fresh anew own peer a.clock)) (unaware_turn W setup peer_setup e net nowhere.there now fresh anew own peer (λ x u. refl) a (λ t agent role. (inr agent, refl)))

-- and the one that tries it
pub new_hoping : (e : End) (setup : Setup) (count due tried : ℕ) (p : Pair) → tried < setup.most_tries → IsNewWay e setup count due tried p → IsHoping e setup count due p
new_hoping e setup count due tried p able n = (
  n.0,
  record {
    foundation = n.1.foundation;
    remote_foundation = n.1.remote_foundation;
    going = elim n.1.going as (λ w. ((is_waiting p.state || is_frozen p.state) ≡ true) ⊎ ((is_in_progress p.state ≡ true) × (p.tries < setup.most_tries) × (p.due ≤ due))) [
      | inl fresh ↦ inl fresh
      | inr going ↦ inr (going.0, (let few = n.1.few in omega (arith, few, able)), going.1)
    ];
  },
  n.2,
)

new_settled : (e : End) (setup : Setup) (count due tried now : ℕ) (p : Pair) → tried < setup.most_tries → IsNewWay e setup count due tried p → IsNewWay e setup count due tried (settled setup now p)
new_settled e setup count due tried now p able n = subst (IsNewWay e setup count due tried) (sym (hoping_settled e setup count due now p (new_hoping e setup count due tried p able n))) n

due_by : (now rto tried tries due : ℕ) → tries ≤ tried → now + rto * 2 ^ tried ≤ due → now + rto * 2 ^ tries ≤ due
due_by now rto tried tries due few le = let one = mul-le-mul_left rto (pow_mono few) in omega (arith, one, le)

new_asked : (e : End) (setup : Setup) (s : State) (fresh count due tried now : ℕ) (p : Pair) → s.clock ≡ now → setup.most_tries ≤ count → now + rto_of setup * 2 ^ tried ≤ due → IsNewWay e setup count due tried p → IsNewWay e setup count due (suc tried) (asked setup s fresh p)
new_asked e setup s fresh count due tried now p clock enough again n =
    let due_is : s.clock + rto_of setup * 2 ^ p.tries ≤ due = subst (λ (c : ℕ). c + rto_of setup * 2 ^ p.tries ≤ due) (sym clock) (due_by now (rto_of setup) tried p.tries due n.1.few again) in (
      untold_asked e setup s fresh p n.0,
      cond_both (is_lost p.state) _ _ (IsHopeful e due (suc tried)) (λ yes_it. neither (IsHopeful e due (suc tried) _) (is_lost p.state) yes_it n.0.unlost)
          (λ _. cond_both (is_succeeded p.state) _ _ (IsHopeful e due (suc tried)) (λ yes_it. neither (IsHopeful e due (suc tried) _) (is_succeeded p.state) yes_it n.0.invalid)
          (λ _. record { foundation = n.1.foundation; remote_foundation = n.1.remote_foundation; going = inr (refl, due_is); few = (let few = n.1.few in omega (arith, few)) })),
      inl enough,
    )

-- the useless tries that are left are no more
delay_there : (count : ℕ) (e : End) (test : Pair → Bool) (f : Pair → Pair) → ((x : Pair) → test x ≡ true → is_at e.base e.to x ≡ true) → ((x : Pair) → is_at e.base e.to (f x) ≡ is_at e.base e.to x) → (ps : List Pair)
    → delay count e (changed_first test f ps) ≡ delay count e ps
delay_there count e test f here same [] = refl
delay_there count e test f here same (p ∷ ps) = cond_both (test p) (f p ∷ ps) (p ∷ changed_first test f ps) (λ qs. delay count e qs ≡ delay count e (p ∷ ps))
    (λ is. ap (λ (n : ℕ). n + delay count e ps) (cond-true (is_at e.base e.to (f p)) 0 (tries_left count (f p)) (same p ∙ here p is) ∙ sym (cond-true (is_at e.base e.to p) 0 (tries_left count p) (here p is))))
    (λ _. ap (λ (n : ℕ). (if is_at e.base e.to p then 0 else tries_left count p) + n) (delay_there count e test f here same ps))

trying_loses : (setup peer_setup : Setup) (e : End) (net : ℕ → Endpoint → Option Place) (count due tried most now fresh anew : ℕ) (own peer : State) → tried < setup.most_tries → setup.most_tries ≤ count → now + rto_of setup * 2 ^ tried ≤ due → IsTrying e net count (IsNewWay e setup count due tried) now now most own
    → let next = turn setup peer_setup nowhere.there now fresh anew own peer in IsTrying e net count (IsNewWay e setup count due (suc tried)) now (now + pace setup) most next.one × (next.other ≡ peer)
trying_loses setup peer_setup e net count due tried most now fresh anew own peer able enough again t =
    let s : State = moved setup now own in
    let W : Agents → Type 0 = λ both. IsTrying e net count (IsNewWay e setup count due (suc tried)) now (now + pace setup) most both.one × (both.other ≡ peer) in
    let b = moved_agent e net (IsNewWay e setup count due tried) (IsNewWay e setup count due tried) setup now now now own (λ z is. new_settled e setup count due tried now z able is) t.agent in
    let distinct : AreDistinct s.pairs = subst (λ (x : State). AreDistinct x.pairs) (at_is setup now own t.agent.clock) (at_distinct setup now own t.distinct) in
    let fewer : delay count e s.pairs ≤ delay count e own.pairs = delay_settled count setup e now own.pairs in
    let few = t.few in
    let more : (z : Pair) → IsNewWay e setup count due tried z → IsNewWay e setup count due (suc tried) z = λ z n. (n.0, record { foundation = n.1.foundation; remote_foundation = n.1.remote_foundation; going = n.1.going; few = (let f = n.1.few in omega (arith, f)) }, n.2) in
    subst W (sym (turn_is setup peer_setup nowhere.there now fresh anew own peer t.agent.clock)) (lost_turn W setup peer_setup e net (IsNewWay e setup count due tried) now fresh anew s peer refl b (record {
      idle = (
        record {
          agent = weaker_agent e net (IsNewWay e setup count due tried) (IsNewWay e setup count due (suc tried)) now now now (now + pace setup) s more (omega arith) (omega arith) b;
          distinct = distinct;
          few = omega (arith, few, fewer);
        },
        refl,
      );
      vain = λ x u some is.
          let first = vain_first setup now s own.pairs x refl distinct is in
          let urgent : 0 < urgency setup s x = some_urgency (urgency setup s x) _ some in
          let less : delay count e (asks_on setup fresh s x).state.pairs < delay count e s.pairs = delay_changed count e (is_at x.base x.remote) (asked setup s fresh) s.pairs x first.0 u.elsewhere
          (at_left e.base e.to x (asked setup s fresh x) (asked_left setup s fresh x) ∙ u.elsewhere) (asked_less e net count setup s fresh x u first.1 (inl enough) urgent) in (
            record {
              agent = weaker_agent e net (IsNewWay e setup count due tried) (IsNewWay e setup count due (suc tried)) now now (now + pace setup) (now + pace setup) (asks_on setup fresh s x).state more (omega arith) (omega arith)
                  (vain_agent e net (IsNewWay e setup count due tried) setup now now fresh s x refl u (λ z v. v.0.there) b);
              distinct = (keeps_changed (is_at x.base x.remote) (asked setup s fresh) (asked_left setup s fresh) s.pairs).distinct distinct;
              few = omega (arith, less, few, fewer);
            },
            refl,
          );
      good = λ x v.
          let same : delay count e (asks_on setup fresh s x).state.pairs ≡ delay count e s.pairs = delay_there count e (is_at x.base x.remote) (asked setup s fresh) (λ y is. sym (same_place e x y v.0.there) ∙ is)
          (λ y. at_left e.base e.to y (asked setup s fresh y) (asked_left setup s fresh y)) s.pairs in (
            record {
              agent = asked_agent e net (IsNewWay e setup count due tried) (IsNewWay e setup count due (suc tried)) setup now now fresh s x refl v.0.there (λ z w. w.0.there) (λ z w. new_asked e setup s fresh count due tried now z refl enough again w) b;
              distinct = (keeps_changed (is_at x.base x.remote) (asked setup s fresh) (asked_left setup s fresh) s.pairs).distinct distinct;
              few = omega (arith, same, few, fewer);
            },
            refl,
          );
    }))

-- ---- Rounds that are lost

abbrev pub OneNew : Meeting → (count due tried most n : ℕ) → Agents → Type 0
OneNew m count due tried most n both = IsTrying m.one_end m.net.there count (IsNewWay m.one_end m.one_setup count due tried) (m.moment n) (m.moment n) most both.one × IsPassive m.other_end m.net.back m.other_setup (m.moment n) (m.moment n) both.other

abbrev pub OtherNew : Meeting → (count due tried most n : ℕ) → Agents → Type 0
OtherNew m count due tried most n both = IsPassive m.one_end m.net.there m.one_setup (m.moment n) (m.moment n) both.one × IsTrying m.other_end m.net.back count (IsNewWay m.other_end m.other_setup count due tried) (m.moment n) (m.moment n) most both.other

abbrev pub lost_round : Meeting → ℕ → Agents → Agents
lost_round m n both = round m.one_setup m.other_setup nowhere (m.moment n) (m.fresh n) (noisy m n both)

pub one_lost : (m : Meeting) (count due tried most n : ℕ) (both : Agents) → IsMeeting m → tried < m.one_setup.most_tries → m.one_setup.most_tries ≤ count → m.moment n + rto_of m.one_setup * 2 ^ tried ≤ due → OneNew m count due tried most n both → OneNew m count due (suc tried) most (suc n) (lost_round m n both)
one_lost m count due tried most n both k able enough again t =
    let now : ℕ = m.moment n in
    let next : ℕ = m.moment (suc n) in
    let one_later = k.one_paced n in
    let other_later = k.other_paced n in
    let start = noisy m n both in
    let one = trying_disturbed_by m.one_end m.net.there count m.one_setup (IsNewWay m.one_end m.one_setup count due tried) now now most both.one (m.one_noise n) (λ c z le v. new_settled m.one_end m.one_setup count due tried c z able v) (k.one_noise n) t.0 in
    let other = passive_disturbed m.other_end m.net.back m.other_setup now now both.other (m.other_noise n) (k.other_noise n) t.1 in
    let first = turn m.one_setup m.other_setup nowhere.there now (m.fresh n 0) (m.fresh n 1) start.one start.other in
    let half = trying_loses m.one_setup m.other_setup m.one_end m.net.there count due tried most now (m.fresh n 0) (m.fresh n 1) start.one start.other able enough again one in
    let rest = passive_loses m.other_setup m.one_setup m.other_end m.net.back now (m.fresh n 2) (m.fresh n 3) first.other first.one (subst (IsPassive m.other_end m.net.back m.other_setup now now) (sym half.1) other) in (
      trying_later m.one_end m.net.there count (IsNewWay m.one_end m.one_setup count due (suc tried)) now (now + pace m.one_setup) most next next most (lost_round m n both).one (omega (arith, one_later)) one_later (omega arith)
          (subst (IsTrying m.one_end m.net.there count (IsNewWay m.one_end m.one_setup count due (suc tried)) now (now + pace m.one_setup) most) (sym rest.1) half.0),
      passive_weaker m.other_end m.net.back m.other_setup now next (now + pace m.other_setup) next (lost_round m n both).other (omega (arith, one_later)) other_later rest.0,
    )

pub other_lost : (m : Meeting) (count due tried most n : ℕ) (both : Agents) → IsMeeting m → tried < m.other_setup.most_tries → m.other_setup.most_tries ≤ count → m.moment n + rto_of m.other_setup * 2 ^ tried ≤ due → OtherNew m count due tried most n both → OtherNew m count due (suc tried) most (suc n) (lost_round m n both)
other_lost m count due tried most n both k able enough again t =
    let now : ℕ = m.moment n in
    let next : ℕ = m.moment (suc n) in
    let one_later = k.one_paced n in
    let other_later = k.other_paced n in
    let start = noisy m n both in
    let one = passive_disturbed m.one_end m.net.there m.one_setup now now both.one (m.one_noise n) (k.one_noise n) t.0 in
    let other = trying_disturbed_by m.other_end m.net.back count m.other_setup (IsNewWay m.other_end m.other_setup count due tried) now now most both.other (m.other_noise n) (λ c z le v. new_settled m.other_end m.other_setup count due tried c z able v) (k.other_noise n) t.1 in
    let first = turn m.one_setup m.other_setup nowhere.there now (m.fresh n 0) (m.fresh n 1) start.one start.other in
    let half = passive_loses m.one_setup m.other_setup m.one_end m.net.there now (m.fresh n 0) (m.fresh n 1) start.one start.other one in
    let rest = trying_loses m.other_setup m.one_setup m.other_end m.net.back count due tried most now (m.fresh n 2) (m.fresh n 3) first.other first.one able enough again (subst (IsTrying m.other_end m.net.back count (IsNewWay m.other_end m.other_setup count due tried) now now most) (sym half.1) other) in (
      passive_weaker m.one_end m.net.there m.one_setup now next (now + pace m.one_setup) next (lost_round m n both).one (omega (arith, one_later)) one_later
          (subst (IsPassive m.one_end m.net.there m.one_setup now (now + pace m.one_setup)) (sym rest.1) half.0),
      trying_later m.other_end m.net.back count (IsNewWay m.other_end m.other_setup count due (suc tried)) now (now + pace m.other_setup) most next next most (lost_round m n both).other (omega (arith, one_later)) other_later (omega arith) rest.0,
    )
