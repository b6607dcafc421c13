-- Consent checks go out in turn: the pair that has been due longest is served first.
use Rattle.std.proofs.Common.{suc, ◌≡◌, ℕ, ◌+◌, ◌-◌, ◌*◌, ◌%◌, ◌^◌, ◌<◌, ◌≤◌, inl, inr, ◌⊎◌, Bool, true, false, not, ◌||◌, ◌&&◌, List, [], ◌∷◌, Option, None, Some, refl, sym, ap, subst, ◌∙◌, find, filter, map, length, arith}
use Rattle.std.specs.List.{AllByRecursion, list_any}
use Rattle.std.specs.Option.{option_map_or}
use Rattle.std.specs.Prelude.{◌==◌, nat_le, nat_lt, if◌then◌else◌, max, min}
use Rattle.std.proofs.lemmas.Bool.{cond_both, cond-true, cond-false, and_from, and_parts, and_left, and_right, cases_Bool, leb-true, le-leb, lt-leb, or_right, or_parts}
use Rattle.stun_endpoints.specs.declared.endpoints.Endpoint.{Endpoint}
use Rattle.ice_machine.specs.Roles.{Role, Controlling, Controlled, RoleDecision, keep, switch, refuse, other_role, is_controlling, role_decision}
use Rattle.ice_machine.specs.Agents.{seconds, Base, PairState, Frozen, Waiting, InProgress, Succeeded, Failed, Lost, Pair, Request, Setup, State, is_at, is_succeeded, is_in_progress, is_frozen, is_lost}
use Rattle.ice_machine.specs.Events.{Check, Answer, Accepted, Refused, Event, gathers, learns, meets, ends, checks, responds, strays, arrives, sends, polls}
use Rattle.ice_machine.specs.Pairs.{pair_of, fits, with_pair, with_pairs}
use Rattle.ice_machine.specs.Checks.{is_kin, is_choice, is_fresh, is_nominating, urgency, precedence, score, most_urgent, consent_wait, rto_of, asked}
use Rattle.ice_machine.specs.Steps.{Step, does_nothing, is_unanswered, is_over, settled, at, changed, changed_first, unnominated, in_role, has_room, is_base, is_remote, discovered, triggers, nominated_by, heard, hears, decides, checked, is_request, is_symmetric, without_request, fails, succeeds, thaws, thawed, retried, answered, responded, asks_on, is_open, polled, happens, step}
use Rattle.ice_machine.specs.Runs.{Begin, Timed, run}
use Rattle.ice_machine.specs.Bounds.{AreDistinct}
use Rattle.ice_machine.specs.Meetings.{End, disturbed, OneAmong}
use Rattle.ice_machine.specs.Lasting.{IsElsewhere}
use Rattle.ice_machine.specs.Fairness.{is_ahead, ahead, is_turn, turns, HasAsked, IsDueWay, HasDue}
use Rattle.ice_machine.specs.Silence.{is_request_to}
use Rattle.ice_machine.proofs.PlacesLemmas.{IsLeft, neither, at_left, settled_left, unnominated_left, heard_left, fails_left, succeeds_left, thaws_left, retried_left, asked_left, at_distinct, step_goes, run_distinct}
use Rattle.ice_machine.proofs.BoundsLemmas.{run_within}
use Rattle.ice_machine.proofs.RightLemmas.{IsGood, best_good}
use Rattle.ice_machine.proofs.SilenceLemmas.{IsFirst, all_first}
use Rattle.ice_machine.proofs.MeetLists.{one_map, one_touched, one_elsewhere, IsTop, top_best}
use Rattle.ice_machine.proofs.MeetPairs.{choice_high, live_settled, triggers_valid, valid_thawed, valid_done, valid_unlost, precedence_small}
use Rattle.ice_machine.proofs.MeetSteps.{elsewhere_from, is_false}
use Rattle.ice_machine.proofs.LastingLemmas.{high_score, with_elsewhere}

-- ---- A change that makes no pair due, and keeps one that is

pub record IsFair (due last : ℕ) (p q : Pair) : Type 0 where
  pub few : is_ahead due q ≡ true → is_ahead due p ≡ true
  pub kept : is_succeeded p.state ≡ true → last < p.expires_at → (is_succeeded q.state ≡ true) × (q.due ≡ p.due) × (last < q.expires_at)

fair_same : (due last : ℕ) (p : Pair) → IsFair due last p p
fair_same due last p = record { few = λ is. is; kept = λ valid live. (valid, refl, live) }

fair_then : (due last : ℕ) (p q r : Pair) → IsFair due last p q → IsFair due last q r → IsFair due last p r
fair_then due last p q r one other = record {
  few = λ is. one.few (other.few is);
  kept = λ valid live. let a = one.kept valid live in let b = other.kept a.0 a.2 in (b.0, b.1 ∙ a.1, b.2);
}

pub settled_fair : (due last : ℕ) (setup : Setup) (now : ℕ) (p : Pair) → now ≤ last → IsFair due last p (settled setup now p)
settled_fair due last setup now p le = record {
  few = cond_both (is_unanswered setup now p) _ _ (λ (q : Pair). is_ahead due q ≡ true → is_ahead due p ≡ true) (λ _. λ is. absurd cc)
      (λ _. cond_both (is_over now p) _ _ (λ (q : Pair). is_ahead due q ≡ true → is_ahead due p ≡ true) (λ _. λ is. absurd cc) (λ _. λ is. is));
  kept = λ valid live. subst (λ (q : Pair). (is_succeeded q.state ≡ true) × (q.due ≡ p.due) × (last < q.expires_at)) (sym (live_settled setup now p valid (omega (arith, le, live)))) (valid, refl, live);
}

unnominated_fair : (due last : ℕ) (p : Pair) → IsFair due last p (unnominated p)
unnominated_fair due last p = record { few = λ is. is; kept = λ valid live. (valid, refl, live) }

triggers_fair : (due last : ℕ) (p : Pair) → IsFair due last p (triggers p)
triggers_fair due last p = record {
  few = cond_both (is_succeeded p.state || is_lost p.state) _ _ (λ (q : Pair). is_ahead due q ≡ true → is_ahead due p ≡ true) (λ _. λ is. is) (λ _. λ is. absurd cc);
  kept = λ valid live. subst (λ (q : Pair). (is_succeeded q.state ≡ true) × (q.due ≡ p.due) × (last < q.expires_at)) (sym (triggers_valid p valid)) (valid, refl, live);
}

nominated_fair : (due last : ℕ) (role : Role) (c : Check) (p : Pair) → IsFair due last p (nominated_by role c p)
nominated_fair due last role c p = cond_both (c.nominates && (not (is_controlling role) && not (is_lost p.state))) _ _ (IsFair due last p)
    (λ _. record { few = λ is. is; kept = λ valid live. (valid, refl, live) }) (λ _. record { few = λ is. is; kept = λ valid live. (valid, refl, live) })

heard_fair : (due last : ℕ) (role : Role) (c : Check) (p : Pair) → IsFair due last p (heard role c p)
heard_fair due last role c p = fair_then due last p (nominated_by role c p) (heard role c p) (nominated_fair due last role c p) (triggers_fair due last (nominated_by role c p))

fails_fair : (due last : ℕ) (p : Pair) → IsFair due last p (fails p)
fails_fair due last p = cond_both (is_in_progress p.state) _ _ (IsFair due last p)
    (λ under_way. record { few = λ is. absurd cc; kept = λ valid live. neither _ (is_in_progress p.state) under_way (valid_done p.state valid) }) (λ _. fair_same due last p)

thaws_fair : (due last : ℕ) (o : Option Pair) (p : Pair) → IsFair due last p (thaws o p)
thaws_fair due last None p = fair_same due last p
thaws_fair due last (Some q) p = cond_both (is_kin q p && is_frozen p.state) _ _ (IsFair due last p)
    (λ both. record { few = λ is. absurd cc; kept = λ valid live. neither _ (is_frozen p.state) (and_parts (is_kin q p) (is_frozen p.state) both).1 (valid_thawed p.state valid) }) (λ _. fair_same due last p)

retried_fair : (due last : ℕ) (p : Pair) → IsFair due last p (retried p)
retried_fair due last p = cond_both (is_lost p.state) _ _ (IsFair due last p) (λ _. fair_same due last p)
    (λ _. cond_both (is_succeeded p.state) _ _ (IsFair due last p) (λ _. record { few = λ is. is; kept = λ valid live. (valid, refl, live) }) (λ _. triggers_fair due last p))

due_by : (b : Bool) (n m due : ℕ) → due < m → nat_le (if b then n else m) due ≡ true → (b && nat_le n due) ≡ true
due_by true n m due less is = is
due_by false n m due less is = absurd (let le = leb-true m due is in omega (arith, le, less))

succeeds_fair : (due last : ℕ) (role : Role) (now : ℕ) (r : Request) (p : Pair) → due ≤ now → last < now + seconds 30 → IsFair due last p (succeeds role now r p)
succeeds_fair due last role now r p past soon = cond_both (is_lost p.state) _ _ (IsFair due last p) (λ _. fair_same due last p)
    (λ _. record {
      few = λ is. due_by (is_succeeded p.state) p.due (now + seconds 4) due (omega (arith, past)) is;
      kept = λ valid live. (refl, cond-true (is_succeeded p.state) p.due (now + seconds 4) valid, soon);
    })

-- ---- A list of pairs

pub record Goes (e : End) (cut due last : ℕ) (ps qs : List Pair) : Type 0 where
  pub few : ahead cut qs ≤ ahead cut ps
  pub way : OneAmong (IsDueWay e due last) (IsElsewhere e) ps → OneAmong (IsDueWay e due last) (IsElsewhere e) qs

goes_same : (e : End) (cut due last : ℕ) (ps : List Pair) → Goes e cut due last ps ps
goes_same e cut due last ps = record { few = omega arith; way = λ is. is }

goes_then : (e : End) (cut due last : ℕ) (ps qs rs : List Pair) → Goes e cut due last ps qs → Goes e cut due last qs rs → Goes e cut due last ps rs
goes_then e cut due last ps qs rs one other = record { few = (let a = one.few in let b = other.few in omega (arith, a, b)); way = λ is. other.way (one.way is) }

count_le : (a b : Bool) (n m : ℕ) → (a ≡ true → b ≡ true) → n ≤ m → (if a then 1 else 0) + n ≤ (if b then 1 else 0) + m
count_le true true n m on le = omega (arith, le)
count_le true false n m on le = absurd (let is = on refl in cc)
count_le false true n m on le = omega (arith, le)
count_le false false n m on le = omega (arith, le)

pub few_map : (cut last : ℕ) (f : Pair → Pair) → ((p : Pair) → IsFair cut last p (f p)) → (ps : List Pair) → ahead cut (map {B = Pair} f ps) ≤ ahead cut ps
few_map cut last f fair [] = omega arith
few_map cut last f fair (p ∷ ps) = count_le (is_ahead cut (f p)) (is_ahead cut p) (ahead cut (map {B = Pair} f ps)) (ahead cut ps) (fair p).few (few_map cut last f fair ps)

pub few_changed : (cut : ℕ) (test : Pair → Bool) (f : Pair → Pair) → ((p : Pair) → is_ahead cut (f p) ≡ true → is_ahead cut p ≡ true) → (ps : List Pair) → ahead cut (changed_first test f ps) ≤ ahead cut ps
few_changed cut test f on [] = omega arith
few_changed cut test f on (p ∷ ps) = cond_both (test p) (f p ∷ ps) (p ∷ changed_first test f ps) (λ qs. ahead cut qs ≤ ahead cut (p ∷ ps))
    (λ _. count_le (is_ahead cut (f p)) (is_ahead cut p) (ahead cut ps) (ahead cut ps) (on p) (omega arith))
    (λ _. count_le (is_ahead cut p) (is_ahead cut p) (ahead cut (changed_first test f ps)) (ahead cut ps) (λ is. is) (few_changed cut test f on ps))

due_way : (e : End) (cut due last : ℕ) (p q : Pair) → IsLeft p q → IsFair cut last p q → IsDueWay e due last p → IsDueWay e due last q
due_way e cut due last p q left fair w = let k = fair.kept w.valid w.consented in record {
  there = at_left e.base e.to p q left ∙ w.there;
  valid = k.0;
  is_due = k.1 ∙ w.is_due;
  consented = k.2;
}

goes_map : (e : End) (cut due last : ℕ) (f : Pair → Pair) → ((p : Pair) → IsLeft p (f p)) → ((p : Pair) → IsFair cut last p (f p)) → (ps : List Pair) → Goes e cut due last ps (map {B = Pair} f ps)
goes_map e cut due last f left fair ps = record {
  few = few_map cut last f fair ps;
  way = one_map (IsDueWay e due last) (IsDueWay e due last) (IsElsewhere e) (IsElsewhere e) f (λ p w. due_way e cut due last p (f p) (left p) (fair p) w) (λ p away. at_left e.base e.to p (f p) (left p) ∙ away) ps;
}

goes_changed : (e : End) (cut due last : ℕ) (test : Pair → Bool) (f : Pair → Pair) → ((p : Pair) → IsLeft p (f p)) → ((p : Pair) → IsFair cut last p (f p)) → (ps : List Pair) → Goes e cut due last ps (changed_first test f ps)
goes_changed e cut due last test f left fair ps = record {
  few = few_changed cut test f (λ p. (fair p).few) ps;
  way = one_touched (IsDueWay e due last) (IsElsewhere e) test f (λ p w. due_way e cut due last p (f p) (left p) (fair p) w) (λ p away. at_left e.base e.to p (f p) (left p) ∙ away) ps;
}

pub record IsNew (p : Pair) : Type 0 where
  unready : is_succeeded p.state ≡ false

few_new : (cut : ℕ) (p : Pair) (ps : List Pair) → is_succeeded p.state ≡ false → ahead cut (p ∷ ps) ≤ ahead cut ps
few_new cut p ps isnt = count_new (is_succeeded p.state) (nat_le p.due cut) (ahead cut ps) isnt
  where
    count_new : (a b : Bool) (n : ℕ) → a ≡ false → (if a && b then 1 else 0) + n ≤ n
    count_new true b n isnt = absurd cc
    count_new false b n isnt = omega arith

goes_with : (e : End) (cut due last most : ℕ) (p : Pair) (ps : List Pair) → is_succeeded p.state ≡ false → Goes e cut due last ps (with_pair most p ps)
goes_with e cut due last most p ps isnt = record {
  few = cond_both (list_any (is_at p.base p.remote) ps || not (nat_lt (length ps) most)) ps (p ∷ ps) (λ qs. ahead cut qs ≤ ahead cut ps) (λ _. omega arith) (λ _. few_new cut p ps isnt);
  way = with_elsewhere (IsDueWay e due last) e most p ps (λ z w. w.there);
}

goes_with_all : (e : End) (cut due last most : ℕ) (news ps : List Pair) → AllByRecursion IsNew news → Goes e cut due last ps (with_pairs most news ps)
goes_with_all e cut due last most [] ps each = goes_same e cut due last ps
goes_with_all e cut due last most (p ∷ news) ps each = goes_then e cut due last ps (with_pairs most news ps) (with_pair most p (with_pairs most news ps))
    (goes_with_all e cut due last most news ps each.1) (goes_with e cut due last most p (with_pairs most news ps) each.0.unready)

all_new : {X : Type 0} (f : X → Pair) → ((x : X) → IsNew (f x)) → (xs : List X) → AllByRecursion IsNew (map {B = Pair} f xs)
all_new f each [] = tt
all_new f each (x ∷ xs) = (each x, all_new f each xs)

-- ---- Events but polls

pub record Moves (e : End) (cut due last : ℕ) (s t : State) : Type 0 where
  pub clock : t.clock ≡ s.clock
  pub goes : Goes e cut due last s.pairs t.pairs

pub stays : (e : End) (cut due last : ℕ) (s : State) → Moves e cut due last s s
stays e cut due last s = record { clock = refl; goes = goes_same e cut due last s.pairs }

moves_then : (e : End) (cut due last : ℕ) (s t u : State) → Moves e cut due last s t → Moves e cut due last t u → Moves e cut due last s u
moves_then e cut due last s t u one other = record { clock = other.clock ∙ one.clock; goes = goes_then e cut due last s.pairs t.pairs u.pairs one.goes other.goes }

in_role_moves : (e : End) (cut due last : ℕ) (role : Role) (s : State) → Moves e cut due last s (in_role role s)
in_role_moves e cut due last Controlling s = cond_both (is_controlling s.role) _ _ (Moves e cut due last s) (λ _. stays e cut due last s)
    (λ _. record { clock = refl; goes = goes_map e cut due last unnominated unnominated_left (unnominated_fair cut last) s.pairs })
in_role_moves e cut due last Controlled s = cond_both (is_controlling s.role) _ _ (Moves e cut due last s)
    (λ _. record { clock = refl; goes = goes_map e cut due last unnominated unnominated_left (unnominated_fair cut last) s.pairs }) (λ _. stays e cut due last s)

hears_moves : (e : End) (cut due last : ℕ) (setup : Setup) (b : Base) (c : Check) (s : State) → Moves e cut due last s (hears setup b c s)
hears_moves e cut due last setup b c s =
    let more : List Pair = with_pair setup.most_pairs (pair_of b (discovered b c)) s.pairs in record {
      clock = refl;
      goes = goes_then e cut due last s.pairs more (changed_first (is_at c.base c.from) (heard s.role c) more) (goes_with e cut due last setup.most_pairs (pair_of b (discovered b c)) s.pairs refl)
          (goes_changed e cut due last (is_at c.base c.from) (heard s.role c) (heard_left s.role c) (heard_fair cut last s.role c) more);
    }

decides_moves : (e : End) (cut due last : ℕ) (setup : Setup) (b : Base) (c : Check) (s : State) (decision : RoleDecision) → Moves e cut due last s (decides setup b c s decision).state
decides_moves e cut due last setup b c s keep = hears_moves e cut due last setup b c s
decides_moves e cut due last setup b c s switch =
    let anew : State = in_role (other_role s.role) s in
    moves_then e cut due last s anew (hears setup b c anew) (in_role_moves e cut due last (other_role s.role) s) (hears_moves e cut due last setup b c anew)
decides_moves e cut due last setup b c s refuse = stays e cut due last s

pub checks_moves : (e : End) (cut due last : ℕ) (setup : Setup) (c : Check) (s : State) (known : Option Base) → Moves e cut due last s (option_map_or (checked setup c s) known (does_nothing s)).state
checks_moves e cut due last setup c s None = stays e cut due last s
checks_moves e cut due last setup c s (Some b) = decides_moves e cut due last setup b c s (role_decision s.role s.tiebreaker c.role c.tiebreaker)

fails_moves : (e : End) (cut due last base : ℕ) (to : Endpoint) (s : State) → Moves e cut due last s (changed fails base to s)
fails_moves e cut due last base to s = record { clock = refl; goes = goes_changed e cut due last (is_at base to) fails fails_left (fails_fair cut last) s.pairs }

answered_moves : (e : End) (cut due last fresh : ℕ) (r : Request) (answer : Answer) (s : State) → cut ≤ s.clock → last < s.clock + seconds 30 → Moves e cut due last s (answered fresh r answer s)
answered_moves e cut due last fresh r Accepted s past soon =
    let after : State = changed (succeeds s.role s.clock r) r.base r.to s in
    let o : Option Pair = find (is_at r.base r.to) after.pairs in record {
      clock = refl;
      goes = goes_then e cut due last s.pairs after.pairs (thawed r.base r.to after).pairs
          (goes_changed e cut due last (is_at r.base r.to) (succeeds s.role s.clock r) (succeeds_left s.role s.clock r) (λ p. succeeds_fair cut last s.role s.clock r p past soon) s.pairs)
          (goes_map e cut due last (thaws o) (thaws_left o) (thaws_fair cut last o) after.pairs);
    }
answered_moves e cut due last fresh r (Refused code) s past soon = cond_both (code == 487) _ _ (Moves e cut due last s)
    (λ _. let before : State = record s { tiebreaker = fresh % 2 ^ 64 } in
    let anew : State = in_role (other_role r.role) before in
    let one = in_role_moves e cut due last (other_role r.role) before in record {
      clock = one.clock;
      goes = goes_then e cut due last s.pairs anew.pairs (changed retried r.base r.to anew).pairs one.goes (goes_changed e cut due last (is_at r.base r.to) retried retried_left (retried_fair cut last) anew.pairs);
    })
    (λ _. fails_moves e cut due last r.base r.to s)

pub responds_moves : (e : End) (cut due last fresh base : ℕ) (from : Endpoint) (answer : Answer) (s : State) (known : Option Request) → cut ≤ s.clock → last < s.clock + seconds 30
    → Moves e cut due last s (option_map_or (responded fresh base from answer s) known (does_nothing s)).state
responds_moves e cut due last fresh base from answer s None past soon = stays e cut due last s
responds_moves e cut due last fresh base from answer s (Some r) past soon =
    let t : State = without_request r.id s in
    let lift : (u : State) → Moves e cut due last t u → Moves e cut due last s u = λ u m. record { clock = m.clock; goes = m.goes } in
    cond_both (is_symmetric base from r) (answered fresh r answer t) (changed fails r.base r.to t) (Moves e cut due last s)
    (λ _. lift (answered fresh r answer t) (answered_moves e cut due last fresh r answer t past soon)) (λ _. lift (changed fails r.base r.to t) (fails_moves e cut due last r.base r.to t))

pub happens_moves : (e : End) (cut due last : ℕ) (setup : Setup) (fresh : ℕ) (s : State) (event : Event) → cut ≤ s.clock → last < s.clock + seconds 30 → (event ≡ polls → ⊥) → Moves e cut due last s (happens setup fresh s event).state
happens_moves e cut due last setup fresh s (gathers b) past soon other = cond_both (has_room setup s.bases && not (list_any (is_base b.number) s.bases)) _ _ (Moves e cut due last s)
    (λ _. record { clock = refl; goes = goes_with_all e cut due last setup.most_pairs (map {B = Pair} (pair_of b) (filter (fits b) s.remotes)) s.pairs (all_new (pair_of b) (λ r. record { unready = refl }) (filter (fits b) s.remotes)) }) (λ _. stays e cut due last s)
happens_moves e cut due last setup fresh s (learns r) past soon other = cond_both (has_room setup s.remotes && not (list_any (is_remote r.component r.address) s.remotes)) _ _ (Moves e cut due last s)
    (λ _. record { clock = refl; goes = goes_with_all e cut due last setup.most_pairs (map {B = Pair} (λ b. pair_of b r) (filter (λ b. fits b r) s.bases)) s.pairs (all_new (λ b. pair_of b r) (λ b. record { unready = refl }) (filter (λ b. fits b r) s.bases)) }) (λ _. stays e cut due last s)
happens_moves e cut due last setup fresh s meets past soon other = record { clock = refl; goes = goes_same e cut due last s.pairs }
happens_moves e cut due last setup fresh s ends past soon other = record { clock = refl; goes = goes_same e cut due last s.pairs }
happens_moves e cut due last setup fresh s (checks c) past soon other = checks_moves e cut due last setup c s (find (is_base c.base) s.bases)
happens_moves e cut due last setup fresh s (responds base from id answer) past soon other = responds_moves e cut due last fresh base from answer s (find (is_request id) s.requests) past soon
happens_moves e cut due last setup fresh s (strays base from id size code) past soon other = stays e cut due last s
happens_moves e cut due last setup fresh s (arrives base from bytes) past soon other = stays e cut due last s
happens_moves e cut due last setup fresh s (sends component bytes) past soon other = stays e cut due last s
happens_moves e cut due last setup fresh s polls past soon other = absurd (other refl)

-- ---- Polls

lost_invalid : (phase : PairState) → is_lost phase ≡ true → is_succeeded phase ≡ false
lost_invalid Frozen is = absurd cc
lost_invalid Waiting is = absurd cc
lost_invalid InProgress is = absurd cc
lost_invalid Succeeded is = absurd cc
lost_invalid Failed is = absurd cc
lost_invalid Lost is = refl

-- what was asked isn't due any more
pub asked_past : (due : ℕ) (setup : Setup) (s : State) (fresh : ℕ) (x : Pair) → due ≤ s.clock → is_ahead due (asked setup s fresh x) ≡ false
asked_past due setup s fresh x past = cond_both (is_lost x.state) _ _ (λ (q : Pair). is_ahead due q ≡ false) (λ gone. and_left (is_succeeded x.state) (nat_le x.due due) (lost_invalid x.state gone))
    (λ _. cond_both (is_succeeded x.state) _ _ (λ (q : Pair). is_ahead due q ≡ false)
    (λ _. and_right (is_succeeded x.state) _ (lt-leb (s.clock + (if is_nominating setup s x && not x.nominated then rto_of setup else consent_wait fresh)) due
    (let some = either_some (is_nominating setup s x && not x.nominated) (rto_of setup) (consent_wait fresh) (rto_some setup) (wait_some (fresh % 2_001)) in omega (arith, past, some))))
    (λ _. refl))
  where
    wait_some : (n : ℕ) → 1 ≤ (4_000 + n) * 1_000_000
    wait_some n = omega arith

    rto_some : (setup : Setup) → 1 ≤ rto_of setup
    rto_some setup = omega arith

    either_some : (b : Bool) (n m : ℕ) → 1 ≤ n → 1 ≤ m → 1 ≤ (if b then n else m)
    either_some true n m one other = one
    either_some false n m one other = other

pub asks_few : (due : ℕ) (setup : Setup) (s : State) (fresh : ℕ) (x : Pair) → due ≤ s.clock → (q : Pair) → is_ahead due (asked setup s fresh q) ≡ true → is_ahead due q ≡ true
asks_few due setup s fresh x past q is = neither _ (is_ahead due (asked setup s fresh q)) is (asked_past due setup s fresh q past)

count_less : (b c : Bool) (n : ℕ) → b ≡ true → c ≡ false → 1 + ((if c then 1 else 0) + n) ≤ (if b then 1 else 0) + n
count_less true true n is isnt = absurd cc
count_less true false n is isnt = omega arith
count_less false c n is isnt = absurd cc

some_same : (p q : Pair) → Some p ≡ Some q → p ≡ q
some_same p q same = cc

-- the first of its place is asked: one less is due
few_less : (due : ℕ) (test : Pair → Bool) (f : Pair → Pair) (x : Pair) → is_ahead due x ≡ true → is_ahead due (f x) ≡ false → (ps : List Pair) → find test ps ≡ Some x → 1 + ahead due (changed_first test f ps) ≤ ahead due ps
few_less due test f x is isnt [] found = absurd cc
few_less due test f x is isnt (p ∷ ps) found =
    cond_both (test p) (f p ∷ ps) (p ∷ changed_first test f ps) (λ qs. 1 + ahead due qs ≤ ahead due (p ∷ ps))
    (λ here. let same : p ≡ x = some_same p x (sym (cond-true (test p) (Some p) (find test ps) here) ∙ found) in
    count_less (is_ahead due p) (is_ahead due (f p)) (ahead due ps) (subst (λ (z : Pair). is_ahead due z ≡ true) (sym same) is) (subst (λ (z : Pair). is_ahead due (f z) ≡ false) (sym same) isnt))
    (λ away. let rest = few_less due test f x is isnt ps (sym (cond-false (test p) (Some p) (find test ps) away) ∙ found) in
    count_more (if is_ahead due p then 1 else 0) (ahead due (changed_first test f ps)) (ahead due ps) rest)
  where
    count_more : (a n m : ℕ) → 1 + n ≤ m → 1 + (a + n) ≤ a + m
    count_more a n m le = omega (arith, le)

-- ---- Whose turn it is

pub three_due : (setup : Setup) (s : State) (x : Pair) → urgency setup s x ≡ 3 → (is_succeeded x.state && nat_le x.due s.clock) ≡ true
three_due setup s x = cond_both (is_lost x.state) _ _ (λ n. n ≡ 3 → (is_succeeded x.state && nat_le x.due s.clock) ≡ true) (λ _. λ is. absurd (omega (arith, is)))
    (λ _. cond_both x.triggered _ _ (λ n. n ≡ 3 → (is_succeeded x.state && nat_le x.due s.clock) ≡ true) (λ _. λ is. absurd (omega (arith, is)))
    (λ _. cond_both (is_choice setup s x) _ _ (λ n. n ≡ 3 → (is_succeeded x.state && nat_le x.due s.clock) ≡ true) (λ _. λ is. absurd (omega (arith, is)))
    (λ _. cond_both (is_succeeded x.state && nat_le x.due s.clock) _ _ (λ n. n ≡ 3 → (is_succeeded x.state && nat_le x.due s.clock) ≡ true) (λ yes. λ _. yes)
    (λ _. cond_both (is_fresh s x) _ _ (λ n. n ≡ 3 → (is_succeeded x.state && nat_le x.due s.clock) ≡ true) (λ _. λ is. absurd (omega (arith, is)))
    (λ _. cond_both (is_in_progress x.state && nat_le x.due s.clock) _ _ (λ n. n ≡ 3 → (is_succeeded x.state && nat_le x.due s.clock) ≡ true) (λ _. λ is. absurd (omega (arith, is))) (λ _. λ is. absurd (omega (arith, is))))))))

score_of : (setup : Setup) (s : State) (p : Pair) → urgency setup s p ≡ 3 → score setup s p ≡ 2 ^ 64 * 3 + min (2 ^ 64 - 1) (s.clock - p.due)
score_of setup s p is = ap (λ (u : ℕ). 2 ^ 64 * u + (if nat_lt 0 u then precedence s u p else 0)) is

high_urgency : (setup : Setup) (s : State) (p : Pair) → 2 ^ 64 * 3 ≤ score setup s p → 3 ≤ urgency setup s p
high_urgency setup s p high = high_by (urgency setup s p) (if nat_lt 0 (urgency setup s p) then precedence s (urgency setup s p) p else 0) (small_if (nat_lt 0 (urgency setup s p)) (precedence s (urgency setup s p) p) (precedence_small s (urgency setup s p) p)) high
  where
    high_by : (u n : ℕ) → n < 2 ^ 64 → 2 ^ 64 * 3 ≤ 2 ^ 64 * u + n → 3 ≤ u
    high_by u n small le = omega (arith, small, le)

    small_if : (b : Bool) (n : ℕ) → n < 2 ^ 64 → (if b then n else 0) < 2 ^ 64
    small_if true n is = is
    small_if false n is = omega arith

-- of two that are due, the one of the greater score has been due for longer
pub due_longer : (setup : Setup) (s : State) (p x : Pair) → s.clock < 2 ^ 64 → p.due ≤ s.clock → urgency setup s p ≡ 3 → urgency setup s x ≡ 3 → score setup s p ≤ score setup s x → x.due ≤ p.due
due_longer setup s p x small past one other le =
    let at_p = score_of setup s p one in
    let at_x = score_of setup s x other in
    let due = leb-true x.due s.clock (and_parts (is_succeeded x.state) (nat_le x.due s.clock) (three_due setup s x other)).1 in
    longer_by s.clock p.due x.due (score setup s p) (score setup s x) small past due at_p at_x le
  where
    longer_by : (c m n a b : ℕ) → c < 2 ^ 64 → m ≤ c → n ≤ c → a ≡ 2 ^ 64 * 3 + min (2 ^ 64 - 1) (c - m) → b ≡ 2 ^ 64 * 3 + min (2 ^ 64 - 1) (c - n) → a ≤ b → n ≤ m
    longer_by c m n a b small one other at_a at_b le = omega (arith, small, one, other, at_a, at_b, le)

-- ---- A poll

or_some : (a b : Bool) → (a || b) ≡ false → (a ≡ false) × (b ≡ false)
or_some a b is = or_parts a b is

low_urgency : (setup : Setup) (s : State) (q : Pair) → (q.triggered ≡ false) × (is_choice setup s q ≡ false) → urgency setup s q ≤ 3
low_urgency setup s q calm = cond_both (is_lost q.state) _ _ (λ n. n ≤ 3) (λ _. omega arith)
    (λ _. cond_both q.triggered _ _ (λ n. n ≤ 3) (λ is. neither _ q.triggered is calm.0)
    (λ _. cond_both (is_choice setup s q) _ _ (λ n. n ≤ 3) (λ is. neither _ (is_choice setup s q) is calm.1)
    (λ _. cond_both (is_succeeded q.state && nat_le q.due s.clock) _ _ (λ n. n ≤ 3) (λ _. omega arith)
    (λ _. cond_both (is_fresh s q) _ _ (λ n. n ≤ 3) (λ _. omega arith)
    (λ _. cond_both (is_in_progress q.state && nat_le q.due s.clock) _ _ (λ n. n ≤ 3) (λ _. omega arith) (λ _. omega arith))))))

none_over : (setup : Setup) (s : State) (ps : List Pair) → list_any (λ q. q.triggered || is_choice setup s q) ps ≡ false → AllByRecursion (λ q. urgency setup s q ≤ 3) ps
none_over setup s [] is = tt
none_over setup s (p ∷ ps) is = let both = or_some (p.triggered || is_choice setup s p) (list_any (λ q. q.triggered || is_choice setup s q) ps) is in
    (low_urgency setup s p (or_some p.triggered (is_choice setup s p) both.0), none_over setup s ps both.1)

each_both : (P Q : Pair → Type 0) (ps : List Pair) → AllByRecursion P ps → AllByRecursion Q ps → AllByRecursion (λ q. P q × Q q) ps
each_both P Q [] one other = tt
each_both P Q (p ∷ ps) one other = ((one.0, other.0), each_both P Q ps one.1 other.1)

pub each_one : (P Q R : Pair → Type 0) (ps : List Pair) → OneAmong P Q ps → AllByRecursion R ps → (y : Pair) × P y × R y × OneAmong (λ z. z ≡ y) Q ps
each_one P Q R [] one each = absurd one
each_one P Q R (p ∷ ps) (inl here) each = (p, here.0, each.0, inl (refl, here.1))
each_one P Q R (p ∷ ps) (inr there) each = let rest = each_one P Q R ps there.1 each.1 in (rest.0, rest.1, rest.2, inr (there.0, rest.3))

abbrev HasServed : End → (due last : ℕ) → State → Step → Type 0
HasServed e due last s t = (is_request_to e.base e.to t.output ≡ true) ⊎ Moves e due due last s t.state

asks_served : (e : End) (due last : ℕ) (setup : Setup) (fresh : ℕ) (s : State) (o : Option Pair) → due ≤ s.clock → HasServed e due last s (option_map_or (asks_on setup fresh s) o (does_nothing s))
asks_served e due last setup fresh s None past = inr (stays e due due last s)
asks_served e due last setup fresh s (Some x) past = elim (cases_Bool (is_at e.base e.to x)) as (λ b. HasServed e due last s (asks_on setup fresh s x)) [
  | inl here ↦ inl here
  | inr away ↦ inr (record {
    clock = refl;
    goes = record {
      few = few_changed due (is_at x.base x.remote) (asked setup s fresh) (asks_few due setup s fresh x past) s.pairs;
      way = one_elsewhere (IsDueWay e due last) (IsElsewhere e) (is_at x.base x.remote) (asked setup s fresh)
          (λ z w. is_false (is_at x.base x.remote z) (elsewhere_from e x z away w.there)) (λ z there. at_left e.base e.to z (asked setup s fresh z) (asked_left setup s fresh z) ∙ there) s.pairs;
    };
  })
]

polls_served : (e : End) (due last : ℕ) (setup : Setup) (fresh : ℕ) (s : State) → due ≤ s.clock → HasServed e due last s (polled setup fresh s)
polls_served e due last setup fresh s past = cond_both (is_open s) (option_map_or (asks_on setup fresh s) (most_urgent setup s) (does_nothing s)) (does_nothing s) (HasServed e due last s)
    (λ _. asks_served e due last setup fresh s (most_urgent setup s) past) (λ _. inr (stays e due due last s))

-- at a turn, one less is due
turn_by : (due last : ℕ) (setup : Setup) (fresh : ℕ) (s : State) (y : Pair) (o : Option Pair) → s.clock < 2 ^ 64 → y.due ≡ due → due ≤ s.clock → urgency setup s y ≡ 3 → IsTop (score setup s y) (score setup s) o
    → IsGood (λ x. (urgency setup s x ≤ 3) × IsFirst s.pairs x) (score setup s) o → 1 + ahead due (option_map_or (asks_on setup fresh s) o (does_nothing s)).state.pairs ≤ ahead due s.pairs
turn_by due last setup fresh s y None small same past three top good = absurd (let high = high_score setup s y (omega (arith, three)) in omega (arith, high, top))
turn_by due last setup fresh s y (Some x) small same past three top good =
    let high = high_score setup s y (omega (arith, three)) in
    let least = high_urgency setup s x (omega (arith, high, top)) in
    let most = good.0.0 in
    let x_three : urgency setup s x ≡ 3 = omega (arith, least, most) in
    let longer = due_longer setup s y x small (omega (arith, same, past)) three x_three top in
    let valid = (and_parts (is_succeeded x.state) (nat_le x.due s.clock) (three_due setup s x x_three)).0 in
    few_less due (is_at x.base x.remote) (asked setup s fresh) x (and_from (is_succeeded x.state) (nat_le x.due due) valid (le-leb x.due due (omega (arith, same, longer)))) (asked_past due setup s fresh x past) s.pairs good.0.1

due_three : (setup : Setup) (s : State) (y : Pair) → is_succeeded y.state ≡ true → y.due ≤ s.clock → urgency setup s y ≤ 3 → urgency setup s y ≡ 3
due_three setup s y valid past most =
    let least = choice_high setup s y (valid_unlost y.state valid) (or_right (is_choice setup s y) (is_succeeded y.state && nat_le y.due s.clock) (and_from (is_succeeded y.state) (nat_le y.due s.clock) valid (le-leb y.due s.clock past))) in
    omega (arith, least, most)

not_true : (b : Bool) → not b ≡ true → b ≡ false
not_true true is = absurd cc
not_true false is = refl

pub turn_less : (e : End) (due last : ℕ) (setup : Setup) (fresh : ℕ) (s : State) → s.clock < 2 ^ 64 → due ≤ s.clock → AreDistinct s.pairs → HasDue e due last s → is_turn setup s polls ≡ true
    → 1 + ahead due (polled setup fresh s).state.pairs ≤ ahead due s.pairs
turn_less e due last setup fresh s small past distinct way turn =
    let both = and_parts (is_open s) (not (list_any (λ q. q.triggered || is_choice setup s q) s.pairs)) turn in
    let low = none_over setup s s.pairs (not_true (list_any (λ q. q.triggered || is_choice setup s q) s.pairs) both.1) in
    let y = each_one (IsDueWay e due last) (IsElsewhere e) (λ q. urgency setup s q ≤ 3) s.pairs way low in
    let is_due = y.1.is_due in
    subst (λ (t : Step). 1 + ahead due t.state.pairs ≤ ahead due s.pairs) (sym (cond-true (is_open s) (option_map_or (asks_on setup fresh s) (most_urgent setup s) (does_nothing s)) (does_nothing s) both.0))
    (turn_by due last setup fresh s y.0 (most_urgent setup s) small is_due past (due_three setup s y.0 y.1.valid (omega (arith, is_due, past)) y.2) (top_best (IsElsewhere e) (score setup s) y.0 s.pairs y.3)
    (best_good (λ x. (urgency setup s x ≤ 3) × IsFirst s.pairs x) (score setup s) s.pairs (each_both (λ q. urgency setup s q ≤ 3) (IsFirst s.pairs) s.pairs low (all_first s.pairs distinct))))

-- ---- An event

abbrev IsNearer : End → (due last : ℕ) → Setup → Event → State → Step → Type 0
IsNearer e due last setup event s t = (is_request_to e.base e.to t.output ≡ true)
    ⊎ (Moves e due due last s t.state × ((if is_turn setup s event then 1 else 0) + ahead due t.state.pairs ≤ ahead due s.pairs))

pub no_turn : (e : End) (due last : ℕ) (s t : State) → Moves e due due last s t → (if false then 1 else 0) + ahead due t.pairs ≤ ahead due s.pairs
no_turn e due last s t m = let few = m.goes.few in omega (arith, few)

pub turn_cases : (b : Bool) (n m : ℕ) → (b ≡ true → 1 + n ≤ m) → n ≤ m → (if b then 1 else 0) + n ≤ m
turn_cases true n m one other = let le = one refl in omega (arith, le)
turn_cases false n m one other = omega (arith, other)

polls_nearer : (e : End) (due last : ℕ) (setup : Setup) (fresh : ℕ) (s : State) → due ≤ s.clock → s.clock < 2 ^ 64 → AreDistinct s.pairs → HasDue e due last s → HasServed e due last s (polled setup fresh s) → IsNearer e due last setup polls s (polled setup fresh s)
polls_nearer e due last setup fresh s past small distinct way (inl asked_it) = inl asked_it
polls_nearer e due last setup fresh s past small distinct way (inr m) = inr (
  m,
  turn_cases (is_turn setup s polls) (ahead due (polled setup fresh s).state.pairs) (ahead due s.pairs) (λ turn. turn_less e due last setup fresh s small past distinct way turn) m.goes.few,
)

event_nearer : (e : End) (due last : ℕ) (setup : Setup) (fresh : ℕ) (s : State) (event : Event) → due ≤ s.clock → s.clock < 2 ^ 64 → last < s.clock + seconds 30 → AreDistinct s.pairs → HasDue e due last s → IsNearer e due last setup event s (happens setup fresh s event)
event_nearer e due last setup fresh s (gathers b) past small soon distinct way = let m = happens_moves e due due last setup fresh s (gathers b) past soon (λ is. absurd cc) in inr (m, no_turn e due last s (happens setup fresh s (gathers b)).state m)
event_nearer e due last setup fresh s (learns r) past small soon distinct way = let m = happens_moves e due due last setup fresh s (learns r) past soon (λ is. absurd cc) in inr (m, no_turn e due last s (happens setup fresh s (learns r)).state m)
event_nearer e due last setup fresh s meets past small soon distinct way = let m = happens_moves e due due last setup fresh s meets past soon (λ is. absurd cc) in inr (m, no_turn e due last s (happens setup fresh s meets).state m)
event_nearer e due last setup fresh s ends past small soon distinct way = let m = happens_moves e due due last setup fresh s ends past soon (λ is. absurd cc) in inr (m, no_turn e due last s (happens setup fresh s ends).state m)
event_nearer e due last setup fresh s (checks c) past small soon distinct way = let m = happens_moves e due due last setup fresh s (checks c) past soon (λ is. absurd cc) in inr (m, no_turn e due last s (happens setup fresh s (checks c)).state m)
event_nearer e due last setup fresh s (responds base from id answer) past small soon distinct way = let m = happens_moves e due due last setup fresh s (responds base from id answer) past soon (λ is. absurd cc) in inr (m, no_turn e due last s (happens setup fresh s (responds base from id answer)).state m)
event_nearer e due last setup fresh s (strays base from id size code) past small soon distinct way = inr (stays e due due last s, no_turn e due last s s (stays e due due last s))
event_nearer e due last setup fresh s (arrives base from bytes) past small soon distinct way = inr (stays e due due last s, no_turn e due last s s (stays e due due last s))
event_nearer e due last setup fresh s (sends component bytes) past small soon distinct way = inr (stays e due due last s, no_turn e due last s s (stays e due due last s))
event_nearer e due last setup fresh s polls past small soon distinct way = polls_nearer e due last setup fresh s past small distinct way (polls_served e due last setup fresh s past)

-- ---- The clock

asks_clock : (setup : Setup) (fresh : ℕ) (s : State) (o : Option Pair) → (option_map_or (asks_on setup fresh s) o (does_nothing s)).state.clock ≡ s.clock
asks_clock setup fresh s None = refl
asks_clock setup fresh s (Some x) = refl

pub cases_polls : (event : Event) → (event ≡ polls) ⊎ (event ≡ polls → ⊥)
cases_polls (gathers b) = inr (λ is. absurd cc)
cases_polls (learns r) = inr (λ is. absurd cc)
cases_polls meets = inr (λ is. absurd cc)
cases_polls ends = inr (λ is. absurd cc)
cases_polls (checks c) = inr (λ is. absurd cc)
cases_polls (responds base from id answer) = inr (λ is. absurd cc)
cases_polls (strays base from id size code) = inr (λ is. absurd cc)
cases_polls (arrives base from bytes) = inr (λ is. absurd cc)
cases_polls (sends component bytes) = inr (λ is. absurd cc)
cases_polls polls = inl refl

pub happens_clock : (e : End) (setup : Setup) (fresh : ℕ) (s : State) (event : Event) → (happens setup fresh s event).state.clock ≡ s.clock
happens_clock e setup fresh s event = elim (cases_polls event) as (λ x. (happens setup fresh s event).state.clock ≡ s.clock) [
  | inl is ↦ subst (λ (v : Event). (happens setup fresh s v).state.clock ≡ s.clock) (sym is)
      (cond_both (is_open s) (option_map_or (asks_on setup fresh s) (most_urgent setup s) (does_nothing s)) (does_nothing s) (λ (t : Step). t.state.clock ≡ s.clock) (λ _. asks_clock setup fresh s (most_urgent setup s)) (λ _. refl))
  | inr isnt ↦ (happens_moves e 0 0 0 setup fresh s event (omega arith) (omega arith) isnt).clock
]

pub step_clock : (e : End) (setup : Setup) (s : State) (t : Timed) → (step setup s t.now t.fresh t.event).state.clock ≡ max s.clock t.now
step_clock e setup s t = happens_clock e setup t.fresh (at setup t.now s) t.event

-- ---- A run

at_fair : (e : End) (due last : ℕ) (setup : Setup) (now : ℕ) (s : State) → max s.clock now ≤ last → Goes e due due last s.pairs (at setup now s).pairs
at_fair e due last setup now s le = goes_map e due due last (settled setup (max s.clock now)) (settled_left setup (max s.clock now)) (λ p. settled_fair due last setup (max s.clock now) p le) s.pairs

pub all_distinct : (setup : Setup) (s : State) (events : List Timed) → AreDistinct s.pairs → AreDistinct (disturbed setup s events).pairs
all_distinct setup s [] distinct = distinct
all_distinct setup s (t ∷ earlier) distinct = (step_goes setup (disturbed setup s earlier) t.now t.fresh t.event).distinct (all_distinct setup s earlier distinct)

pub clock_grows : (e : End) (setup : Setup) (s : State) (events : List Timed) → s.clock ≤ (disturbed setup s events).clock
clock_grows e setup s [] = omega arith
clock_grows e setup s (t ∷ earlier) = let one = clock_grows e setup s earlier in let two = step_clock e setup (disturbed setup s earlier) t in omega (arith, one, two)

abbrev Awaits : End → (due last : ℕ) → Setup → State → List Timed → Type 0
Awaits e due last setup s events = HasAsked setup e.base e.to s events
    ⊎ (HasDue e due last (disturbed setup s events) × (turns setup s events + ahead due (disturbed setup s events).pairs ≤ ahead due s.pairs))

step_awaits : (e : End) (due last : ℕ) (setup : Setup) (s : State) (t : Timed) (earlier : List Timed) → let b = disturbed setup s earlier in
    Goes e due due last b.pairs (at setup t.now b).pairs → (turns setup s earlier + ahead due b.pairs ≤ ahead due s.pairs) → HasDue e due last (at setup t.now b)
    → IsNearer e due last setup t.event (at setup t.now b) (step setup b t.now t.fresh t.event) → Awaits e due last setup s (t ∷ earlier)
step_awaits e due last setup s t earlier g few way (inl asked_it) = inl (inl asked_it)
step_awaits e due last setup s t earlier g few way (inr near) = inr (near.0.goes.way way, (let a = near.1 in let b = g.few in omega (arith, a, b, few)))

awaits : (e : End) (due last : ℕ) (setup : Setup) (s : State) (events : List Timed) → AreDistinct s.pairs → due ≤ s.clock → HasDue e due last s → last < s.clock + seconds 30 → last < 2 ^ 64 → (disturbed setup s events).clock ≤ last → Awaits e due last setup s events
awaits e due last setup s [] distinct past way soon small le = inr (way, omega arith)
awaits e due last setup s (t ∷ earlier) distinct past way soon small le =
    let b : State = disturbed setup s earlier in
    let clock = step_clock e setup b t in
    let grown = clock_grows e setup s earlier in
    elim (awaits e due last setup s earlier distinct past way soon small (omega (arith, clock, le))) as (λ x. Awaits e due last setup s (t ∷ earlier)) [
      | inl done ↦ inl (inr done)
      | inr yet ↦
          let g : Goes e due due last b.pairs (at setup t.now b).pairs = at_fair e due last setup t.now b (omega (arith, clock, le)) in
          let way_now : HasDue e due last (at setup t.now b) = g.way yet.0 in
          step_awaits e due last setup s t earlier g yet.1 way_now
          (event_nearer e due last setup t.fresh (at setup t.now b) t.event (omega (arith, past, grown)) (omega (arith, clock, le, small)) (omega (arith, soon, grown)) (at_distinct setup t.now b (all_distinct setup s earlier distinct)) way_now)
    ]

pub one_ahead : (e : End) (due last : ℕ) (ps : List Pair) → OneAmong (IsDueWay e due last) (IsElsewhere e) ps → 1 ≤ ahead due ps
one_ahead e due last [] one = absurd one
one_ahead e due last (p ∷ ps) (inl here) = let w = here.0 in let is = w.is_due in counted (is_ahead due p) (ahead due ps) (and_from (is_succeeded p.state) (nat_le p.due due) w.valid (le-leb p.due due (omega (arith, is))))
  where
    counted : (b : Bool) (n : ℕ) → b ≡ true → 1 ≤ (if b then 1 else 0) + n
    counted true n is = omega arith
    counted false n is = absurd cc
one_ahead e due last (p ∷ ps) (inr there) = let rest = one_ahead e due last ps there.1 in omega (arith, rest)

pub is_served : (setup : Setup) (e : End) (due : ℕ) (s : State) (events : List Timed) → let last = (disturbed setup s events).clock in
    AreDistinct s.pairs → due ≤ s.clock → HasDue e due last s → last < s.clock + seconds 30 → last < 2 ^ 64 → ahead due s.pairs ≤ turns setup s events → HasAsked setup e.base e.to s events
is_served setup e due s events distinct past way soon small enough =
    elim (awaits e due (disturbed setup s events).clock setup s events distinct past way soon small (omega arith)) as (λ x. HasAsked setup e.base e.to s events) [
      | inl done ↦ done
      | inr yet ↦ absurd (let some = one_ahead e due (disturbed setup s events).clock (disturbed setup s events).pairs yet.0 in let few = yet.1 in omega (arith, enough, some, few))
    ]

few_ahead : (due : ℕ) (ps : List Pair) → ahead due ps ≤ length ps
few_ahead due [] = omega arith
few_ahead due (p ∷ ps) = let rest = few_ahead due ps in one_more (is_ahead due p) (ahead due ps) (length ps) rest
  where
    one_more : (b : Bool) (n m : ℕ) → n ≤ m → (if b then 1 else 0) + n ≤ suc m
    one_more true n m le = omega (arith, le)
    one_more false n m le = omega (arith, le)

pub is_served_in_run : (setup : Setup) (begin : Begin) (earlier events : List Timed) (e : End) (due : ℕ) → let s = run setup begin earlier in let last = (disturbed setup s events).clock in
    due ≤ s.clock → HasDue e due last s → last < s.clock + seconds 30 → last < 2 ^ 64 → setup.most_pairs ≤ turns setup s events → HasAsked setup e.base e.to s events
is_served_in_run setup begin earlier events e due past way soon small enough =
    let s : State = run setup begin earlier in
    let few = few_ahead due s.pairs in
    let within = (run_within setup begin earlier).pairs in
    is_served setup e due s events (run_distinct setup begin earlier) past way soon small (omega (arith, enough, few, within))
