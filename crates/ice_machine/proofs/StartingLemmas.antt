-- Agents that have their candidates and nothing else start a meeting.
use Rattle.std.proofs.Common.{◌≡◌, ℕ, ◌+◌, ◌*◌, ◌^◌, ◌<◌, ◌≤◌, inl, inr, ◌⊎◌, true, false, not, ◌||◌, ◌&&◌, List, [], ◌∷◌, Option, refl, ap, subst, ◌∙◌, map, filter, length, arith}
use Rattle.std.specs.List.{AllByRecursion, list_any}
use Rattle.std.specs.Prelude.{nat_lt, max}
use Rattle.std.proofs.lemmas.Bool.{cond_both, and_parts, or_parts, or_cases, or_right}
use Rattle.stun_endpoints.specs.declared.endpoints.Endpoint.{Endpoint}
use Rattle.ice_machine.specs.Agents.{Frozen, Base, Remote, Pair, Setup, State, is_at, is_succeeded, is_in_progress, is_waiting, is_frozen, is_lost}
use Rattle.ice_machine.specs.Events.{Event, gathers, learns, meets, ends, checks, responds, strays, arrives, sends, polls}
use Rattle.ice_machine.specs.Pairs.{pair_of, fits, with_pair, with_pairs}
use Rattle.ice_machine.specs.Steps.{settled, is_unanswered, is_over, at, has_room, is_base, is_remote, happens}
use Rattle.ice_machine.specs.Checks.{rto_of}
use Rattle.ice_machine.specs.Runs.{Begin, Timed, run}
use Rattle.ice_machine.specs.Bounds.{AreDistinct}
use Rattle.ice_machine.specs.Networks.{Place}
use Rattle.ice_machine.specs.Meetings.{End, Meeting, after, IsMeeting, HaveMet, OneAmong, IsUseless, IsUntold, IsHopeful, IsTrying, IsNewWay, delay}
use Rattle.ice_machine.specs.Starting.{is_told, IsTelling, IsWayPair, IsDeadPair, IsWayOrDead, HasWay}
use Rattle.ice_machine.proofs.PlacesLemmas.{neither, run_distinct}
use Rattle.ice_machine.proofs.AddressesLemmas.{at_base, at_remote}
use Rattle.ice_machine.proofs.ListsLemmas.{each_mapped}
use Rattle.ice_machine.proofs.MeetSteps.{weaker_agent}
use Rattle.ice_machine.proofs.MeetLemmas.{will_meet}

-- a pair that no request was sent on
record IsNewPair (p : Pair) : Type 0 where
  state : p.state ≡ Frozen
  untriggered : p.triggered ≡ false
  unchosen : p.chosen ≡ false
  unnominated : p.nominated ≡ false
  tries : p.tries ≡ 0

made_new : (b : Base) (r : Remote) → IsNewPair (pair_of b r)
made_new b r = record { state = refl; untriggered = refl; unchosen = refl; unnominated = refl; tries = refl }

new_settled : (setup : Setup) (now : ℕ) (p : Pair) → IsNewPair p → IsNewPair (settled setup now p)
new_settled setup now p n = cond_both (is_unanswered setup now p) _ _ IsNewPair
    (λ is. neither (IsNewPair _) (is_in_progress p.state) (and_parts (is_in_progress p.state) _ is).0 (ap is_in_progress n.state))
    (λ _. cond_both (is_over now p) _ _ IsNewPair (λ is. neither (IsNewPair _) (is_succeeded p.state) (and_parts (is_succeeded p.state) _ is).0 (ap is_succeeded n.state)) (λ _. n))

new_with : (most : ℕ) (p : Pair) (ps : List Pair) → IsNewPair p → AllByRecursion IsNewPair ps → AllByRecursion IsNewPair (with_pair most p ps)
new_with most p ps n each = cond_both (list_any (is_at p.base p.remote) ps || not (nat_lt (length ps) most)) ps (p ∷ ps) (AllByRecursion IsNewPair) (λ _. each) (λ _. (n, each))

new_with_all : (most : ℕ) (news ps : List Pair) → AllByRecursion IsNewPair news → AllByRecursion IsNewPair ps → AllByRecursion IsNewPair (with_pairs most news ps)
new_with_all most [] ps news each = each
new_with_all most (p ∷ more) ps news each = new_with most p (with_pairs most more ps) news.0 (new_with_all most more ps news.1 each)

new_bases : (r : Remote) (bs : List Base) → AllByRecursion IsNewPair (map {B = Pair} (λ b. pair_of b r) bs)
new_bases r [] = tt
new_bases r (b ∷ bs) = (made_new b r, new_bases r bs)

new_remotes : (b : Base) (rs : List Remote) → AllByRecursion IsNewPair (map {B = Pair} (pair_of b) rs)
new_remotes b [] = tt
new_remotes b (r ∷ rs) = (made_new b r, new_remotes b rs)

-- an agent that has sent nothing
record IsNewAgent (s : State) : Type 0 where
  clock : s.clock ≡ 0
  next : s.next_request_at ≡ 0
  pairs : AllByRecursion IsNewPair s.pairs

told_new : (setup : Setup) (fresh : ℕ) (s : State) (event : Event) → is_told event ≡ true → IsNewAgent s → IsNewAgent (happens setup fresh s event).state
told_new setup fresh s (gathers b) is n = cond_both (has_room setup s.bases && not (list_any (is_base b.number) s.bases)) _ _ IsNewAgent
    (λ _. record { clock = n.clock; next = n.next; pairs = new_with_all setup.most_pairs (map {B = Pair} (pair_of b) (filter (fits b) s.remotes)) s.pairs (new_remotes b (filter (fits b) s.remotes)) n.pairs }) (λ _. n)
told_new setup fresh s (learns r) is n = cond_both (has_room setup s.remotes && not (list_any (is_remote r.component r.address) s.remotes)) _ _ IsNewAgent
    (λ _. record { clock = n.clock; next = n.next; pairs = new_with_all setup.most_pairs (map {B = Pair} (λ b. pair_of b r) (filter (λ b. fits b r) s.bases)) s.pairs (new_bases r (filter (λ b. fits b r) s.bases)) n.pairs }) (λ _. n)
told_new setup fresh s meets is n = record { clock = n.clock; next = n.next; pairs = n.pairs }
told_new setup fresh s ends is n = record { clock = n.clock; next = n.next; pairs = n.pairs }
told_new setup fresh s (checks c) is n = absurd cc
told_new setup fresh s (responds base from id answer) is n = absurd cc
told_new setup fresh s (strays base from id size code) is n = absurd cc
told_new setup fresh s (arrives base from bytes) is n = absurd cc
told_new setup fresh s (sends component bytes) is n = absurd cc
told_new setup fresh s polls is n = absurd cc

max_zero : (c n : ℕ) → c ≡ 0 → n ≡ 0 → max c n ≡ 0
max_zero c n one other = omega (arith, one, other)

run_new : (setup : Setup) (b : Begin) (events : List Timed) → AllByRecursion IsTelling events → IsNewAgent (run setup b events)
run_new setup b [] told = record { clock = refl; next = refl; pairs = tt }
run_new setup b (t ∷ earlier) told =
    let n = run_new setup b earlier told.1 in
    let before : State = run setup b earlier in
    told_new setup t.fresh (at setup t.now before) t.event told.0.0 (record {
      clock = max_zero before.clock t.now n.clock told.0.1;
      next = n.next;
      pairs = each_mapped IsNewPair IsNewPair (settled setup (max before.clock t.now)) (new_settled setup (max before.clock t.now)) before.pairs n.pairs;
    })

-- ---- The way's pair among them

new_useless : (e : End) (net : ℕ → Endpoint → Option Place) (p : Pair) → IsNewPair p → IsDeadPair e net p → IsUseless e net p
new_useless e net p n d = record { elsewhere = d.elsewhere; unanswered = d.unanswered; apart = d.apart; invalid = ap is_succeeded n.state; untriggered = n.untriggered; unchosen = n.unchosen; unnominated = n.unnominated }

abbrev IsFirst : End → Pair → Type 0
IsFirst e p = IsUntold e p × IsHopeful e 0 0 p × ((is_waiting p.state || is_frozen p.state) ≡ true)

new_first : (e : End) (p : Pair) → IsNewPair p → IsWayPair e p → IsFirst e p
new_first e p n w = (
  record { there = w.there; component = w.component; invalid = ap is_succeeded n.state; unlost = ap is_lost n.state; unchosen = n.unchosen; unnominated = n.unnominated },
  record { foundation = w.foundation; remote_foundation = w.remote_foundation; going = inl (or_right (is_waiting p.state) (is_frozen p.state) (ap is_frozen n.state)); few = (let t = n.tries in omega (arith, t)) },
  or_right (is_waiting p.state) (is_frozen p.state) (ap is_frozen n.state),
)

-- if none is the way's, all are useless
all_dead : (e : End) (net : ℕ → Endpoint → Option Place) (ps : List Pair) → list_any (is_at e.base e.to) ps ≡ false → AllByRecursion IsNewPair ps → AllByRecursion (IsWayOrDead e net) ps → AllByRecursion (IsUseless e net) ps
all_dead e net [] none news each = tt
all_dead e net (p ∷ ps) none news each =
    let both = or_parts (is_at e.base e.to p) (list_any (is_at e.base e.to) ps) none in (
      elim each.0 as (λ x. IsUseless e net p) [
        | inl w ↦ neither (IsUseless e net p) (is_at e.base e.to p) w.there both.0
        | inr d ↦ new_useless e net p news.0 d
      ],
      all_dead e net ps both.1 news.1 each.1,
    )

one_of_them : (e : End) (net : ℕ → Endpoint → Option Place) (ps : List Pair) → AreDistinct ps → list_any (is_at e.base e.to) ps ≡ true → AllByRecursion IsNewPair ps → AllByRecursion (IsWayOrDead e net) ps → OneAmong (IsFirst e) (IsUseless e net) ps
one_of_them e net [] distinct some news each = absurd cc
one_of_them e net (p ∷ ps) distinct some news each = elim each.0 as (λ x. OneAmong (IsFirst e) (IsUseless e net) (p ∷ ps)) [
  | inl w ↦
      let none : list_any (is_at e.base e.to) ps ≡ false = ap (λ (b : ℕ). list_any (is_at b e.to) ps) (at_base e.base e.to p w.there) ∙ ap (λ (x : Endpoint). list_any (is_at p.base x) ps) (at_remote e.base e.to p w.there) ∙ distinct.0 in
      inl (new_first e p news.0 w, all_dead e net ps none news.1 each.1)
  | inr d ↦ inr (
    new_useless e net p news.0 d,
    one_of_them e net ps distinct.1 (elim (or_cases (is_at e.base e.to p) (list_any (is_at e.base e.to) ps) some) as (λ x. list_any (is_at e.base e.to) ps ≡ true) [
      | inl here ↦ neither (list_any (is_at e.base e.to) ps ≡ true) (is_at e.base e.to p) here d.elsewhere
      | inr later ↦ later
    ]) news.1 each.1,
  )
]

pub new_trying : (e : End) (net : ℕ → Endpoint → Option Place) (count : ℕ) (setup : Setup) (b : Begin) (events : List Timed) (now : ℕ) → HasWay e net setup b events
    → IsTrying e net count (IsFirst e) now now (delay count e (run setup b events).pairs) (run setup b events)
new_trying e net count setup b events now h =
    let n = run_new setup b events h.told in
    record {
      agent = record {
        ready = h.ready;
        clock = (let c = n.clock in omega (arith, c));
        paced = (let c = n.next in omega (arith, c));
        based = h.based;
        pairs = one_of_them e net (run setup b events).pairs (run_distinct setup b events) h.way n.pairs h.each;
      };
      distinct = run_distinct setup b events;
      few = omega arith;
    }

-- ---- They meet

again_by : (m : Meeting) (setup : Setup) (due : ℕ) → ((i : ℕ) → i < m.lost → m.moment i + rto_of setup * 2 ^ i ≤ due) → (i : ℕ) → i < m.lost → m.moment i + rto_of setup * 2 ^ (0 + i) ≤ due
again_by m setup due again i lt = subst (λ (k : ℕ). m.moment i + rto_of setup * 2 ^ k ≤ due) (zero_plus i) (again i lt)
  where
    zero_plus : (n : ℕ) → n ≡ 0 + n
    zero_plus n = omega arith

later_first : (e : End) (setup : Setup) (count due : ℕ) (p : Pair) → IsFirst e p → IsNewWay e setup count due 0 p
later_first e setup count due p f = (
  f.0,
  record {
    foundation = f.1.foundation;
    remote_foundation = f.1.remote_foundation;
    going = inl f.2;
    few = f.1.few;
  },
  inr f.2,
)

pub fresh_meet : (m : Meeting) (b c : Begin) (events more : List Timed) (count due wait j n : ℕ) → IsMeeting m → HasWay m.one_end m.net.there m.one_setup b events → HasWay m.other_end m.net.back m.other_setup c more
    → m.lost < m.one_setup.most_tries → (m.lost ≡ 0) ⊎ (m.one_setup.most_tries ≤ count) → ((i : ℕ) → i < m.lost → m.moment i + rto_of m.one_setup * 2 ^ i ≤ due) → due ≤ m.moment wait → m.lost ≤ wait
    → let most = delay count m.one_end (run m.one_setup b events).pairs in m.moment (wait + most + 2) + m.one_setup.patience ≤ m.moment j → m.moment (wait + most + 2) + m.other_setup.patience ≤ m.moment j
    → j + 2 ≤ n → HaveMet m n (after m n (record { one = run m.one_setup b events; other = run m.other_setup c more }))
fresh_meet m b c events more count due wait j n k one other able counted again is_due full one_over other_over late =
    let s : State = run m.one_setup b events in
    let most : ℕ = delay count m.one_end s.pairs in
    let t = new_trying m.one_end m.net.there count m.one_setup b events (m.moment 0) one in
    let u = new_trying m.other_end m.net.back count m.other_setup c more (m.moment 0) other in
    will_meet m (record { one = s; other = run m.other_setup c more }) count due 0 wait most j n k (inl (
      record {
        trying = record {
          agent = weaker_agent m.one_end m.net.there (IsFirst m.one_end) (IsNewWay m.one_end m.one_setup count due 0) (m.moment 0) (m.moment 0) (m.moment 0) (m.moment 0) s (λ p f. later_first m.one_end m.one_setup count due p f) (omega arith) (omega arith) t.agent;
          distinct = t.distinct;
          few = t.few;
        };
        able = omega (arith, able);
        again = again_by m m.one_setup due again;
        counted = counted;
      },
      inl (weaker_agent m.other_end m.net.back (IsFirst m.other_end) (IsUntold m.other_end) (m.moment 0) (m.moment 0) (m.moment 0) (m.moment 0) (run m.other_setup c more) (λ p f. f.0) (omega arith) (omega arith) u.agent),
    )) is_due full one_over other_over late
