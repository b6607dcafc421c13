-- The most urgent pair is the first of its place, and is tried once more at most as often as it may be.
use Rattle.std.proofs.Common.{◌≡◌, ℕ, zero, suc, ◌+◌, ◌<◌, ◌≤◌, ◌||◌, ◌&&◌, Bool, true, false, cond, refl, sym, subst, ap, arith, List, [], ◌∷◌, ◌++◌, length, take, drop, set, get_or, find, map, Option, None, Some}
use Rattle.std.specs.Prelude.{not, nat_le}
use Rattle.std.specs.List.{AllByRecursion}
use Rattle.std.proofs.lemmas.Bool.{cond_both, cond-true, and_parts}
use Rattle.ice_machine.specs.declared.pairs.Pair.{Pair}
use Rattle.ice_machine.specs.declared.pairs.PairState.{PairState}
use Rattle.ice_machine.specs.declared.pairs.PairState.TheVariants.{Frozen, Waiting, InProgress, Succeeded, Failed, Lost}
use Rattle.ice_machine.specs.Agents.{Setup, State, is_at, is_in_progress, is_succeeded, is_waiting, is_frozen, is_lost}
use Rattle.ice_machine.specs.Roles.{is_controlling}
use Rattle.ice_machine.specs.Pairs.{best}
use Rattle.ice_machine.specs.Checks.{is_held, is_fresh, is_choice, urgency, precedence, score, asked}
use Rattle.ice_machine.specs.Steps.{settled, changed_first}
use Rattle.ice_machine.specs.Bounds.{AreDistinct}
use Rattle.ice_machine.proofs.SilenceLemmas as silence
use Rattle.ice_machine.proofs.RightLemmas.{IsGood, best_good}
use Rattle.ice_machine.proofs.MeetTries.{vain_first}
use Rattle.ice_machine.proofs.PlacesLemmas.{asked_left, keeps_changed}
use Rattle.ice_agent_state.specs.Agents.{Held, IsSettled}
use Rattle.ice_agent_state.specs.Tried.{IsTriedIn, IsTried}
use Rattle.ice_agent_state.proofs.TriedLemmas.{succeeded_is}

never : (P : Type 0) (b : Bool) → b ≡ true → b ≡ false → P
never P true is isnt = absurd cc
never P false is isnt = absurd cc

waiting_or : (a b c : Bool) → (a || (b && c)) ≡ true → (a || b) ≡ true
waiting_or true b c is = refl
waiting_or false b c is = (and_parts b c is).0

queued : (most tries : ℕ) (s : PairState) → IsTriedIn most tries true s → is_succeeded s ≡ false → tries ≡ 0
queued most tries Frozen t isnt = absurd (let no = t.1 in cc)
queued most tries Waiting t isnt = t
queued most tries InProgress t isnt = absurd (let no = t.1 in cc)
queued most tries Succeeded t isnt = absurd cc
queued most tries Failed t isnt = absurd (let no = t.1 in cc)
queued most tries Lost t isnt = absurd (let no = t.1 in cc)

untried : (most tries : ℕ) (triggered : Bool) (s : PairState) → (is_waiting s || is_frozen s) ≡ true → IsTriedIn most tries triggered s → tries ≡ 0
untried most tries triggered Frozen is t = t.0
untried most tries triggered Waiting is t = t
untried most tries triggered InProgress is t = absurd cc
untried most tries triggered Succeeded is t = absurd cc
untried most tries triggered Failed is t = absurd cc
untried most tries triggered Lost is t = absurd cc

-- a request on a pair that isn't valid
once_more : (most : ℕ) (setup : Setup) (state : State) (p : Pair) → 1 ≤ most → setup.most_tries ≤ most → IsTried most p → silence.IsTried setup state.clock p → is_succeeded p.state ≡ false → 0 < urgency setup state p → p.tries + 1 ≤ most
once_more most setup state p some enough t tried invalid =
    cond_both (is_lost p.state) _ _ (λ u. 0 < u → p.tries + 1 ≤ most) (λ _. λ due. absurd (omega (arith, due)))
    (λ _. cond_both p.triggered _ _ (λ u. 0 < u → p.tries + 1 ≤ most)
    (λ triggered. λ _. let none = queued most p.tries p.state (subst (λ (b : Bool). IsTriedIn most p.tries b p.state) triggered t) invalid in omega (arith, none, some))
    (λ _. cond_both (is_choice setup state p) _ _ (λ u. 0 < u → p.tries + 1 ≤ most)
    (λ choice. λ _. never (p.tries + 1 ≤ most) (is_succeeded p.state) (and_parts (is_succeeded p.state) _ (and_parts (is_controlling state.role) _ choice).1).0 invalid)
    (λ _. cond_both (is_succeeded p.state && nat_le p.due state.clock) _ _ (λ u. 0 < u → p.tries + 1 ≤ most)
    (λ valid. λ _. never (p.tries + 1 ≤ most) (is_succeeded p.state) (and_parts (is_succeeded p.state) (nat_le p.due state.clock) valid).0 invalid)
    (λ _. cond_both (is_fresh state p) _ _ (λ u. 0 < u → p.tries + 1 ≤ most)
    (λ fresh. λ _. let none = untried most p.tries p.triggered p.state (waiting_or (is_waiting p.state) (is_frozen p.state) (not (is_held state.pairs p)) fresh) t in omega (arith, none, some))
    (λ _. cond_both (is_in_progress p.state && nat_le p.due state.clock) _ _ (λ u. 0 < u → p.tries + 1 ≤ most)
    (λ due. λ _. let both = and_parts (is_in_progress p.state) (nat_le p.due state.clock) due in let less = tried both.0 both.1 in omega (arith, less, enough))
    (λ _. λ due. absurd (omega (arith, due))))))))

asked_tried : (most : ℕ) (setup : Setup) (state : State) (fresh : ℕ) (p : Pair) → 1 ≤ most → setup.most_tries ≤ most → IsTried most p → silence.IsTried setup state.clock p → 0 < urgency setup state p → IsTried most (asked setup state fresh p)
asked_tried most setup state fresh p some enough t tried urgent =
    cond_both (is_lost p.state) _ _ (IsTried most) (λ _. t)
    (λ _. cond_both (is_succeeded p.state) _ _ (IsTried most)
    (λ valid. subst (IsTriedIn most p.tries false) (sym (succeeded_is p.state valid)) (subst (IsTriedIn most p.tries p.triggered) (succeeded_is p.state valid) t))
    (λ invalid. (once_more most setup state p some enough t tried invalid urgent, refl)))

-- ---- The first of a place is changed

abbrev from_some : Pair → Option Pair → Pair
from_some d None = d
from_some d (Some x) = x

changed_by : (b : Bool) (change : Pair → Pair) (x y : Pair) (ys zs ws : List Pair) (o : Option Pair) → cond b (Some y) o ≡ Some x → (o ≡ Some x → zs ≡ ws) → cond b (change x ∷ ys) (y ∷ zs) ≡ cond b (change y ∷ ys) (y ∷ ws)
changed_by true change x y ys zs ws o is rest = ap (λ (z : Pair). change z ∷ ys) (sym (ap (from_some x) is))
changed_by false change x y ys zs ws o is rest = ap (λ (vs : List Pair). y ∷ vs) (rest is)

-- what the first that passes becomes, as a value
pub changed_found : (test : Pair → Bool) (change : Pair → Pair) (xs : List Pair) (x : Pair) → find test xs ≡ Some x → changed_first test (λ _. change x) xs ≡ changed_first test change xs
changed_found test change [] x is = refl
changed_found test change (y ∷ ys) x is =
    changed_by (test y) change x y ys (changed_first test (λ _. change x) ys) (changed_first test change ys) (find test ys) is (changed_found test change ys x)

-- ---- The most urgent pair

pub record IsAsked (setup : Setup) (most fresh : ℕ) (state : State) (p : Pair) : Type 0 where
  pub first : find (is_at p.base p.remote) state.pairs ≡ Some p
  pub few : p.tries ≤ most
  pub tried : IsTried most (asked setup state fresh p)

few_of : (most tries : ℕ) (triggered : Bool) (s : PairState) → IsTriedIn most tries triggered s → tries ≤ most
few_of most tries triggered Frozen t = let none = t.0 in omega (arith, none)
few_of most tries triggered Waiting t = omega (arith, t)
few_of most tries triggered InProgress t = t.0
few_of most tries triggered Succeeded t = t
few_of most tries triggered Failed t = t.0
few_of most tries triggered Lost t = t.0

pub urgent_asked : (setup : Setup) (most fresh : ℕ) (state : State) (ps : List Pair) (p : Pair) → state.pairs ≡ map {B = Pair} (settled setup state.clock) ps → AreDistinct state.pairs → AllByRecursion (IsTried most) state.pairs
    → 1 ≤ most → setup.most_tries ≤ most → best (score setup state) state.pairs ≡ Some p → IsAsked setup most fresh state p
urgent_asked setup most fresh state ps p are distinct each some enough is =
    let vain = vain_first setup state.clock state ps p are distinct is in
    let good : IsTried most p × (0 < score setup state p) = subst (IsGood (IsTried most) (score setup state)) is (best_good (IsTried most) (score setup state) state.pairs each) in
    record {
      first = vain.0;
      few = few_of most p.tries p.triggered p.state good.0;
      tried = asked_tried most setup state fresh p some enough good.0 vain.1 (silence.some_urgency (urgency setup state p) (precedence state (urgency setup state p) p) good.1);
    }

pub each_replaced : (P : Pair → Type 0) (test : Pair → Bool) (y : Pair) → P y → (xs : List Pair) → AllByRecursion P xs → AllByRecursion P (changed_first test (λ _. y) xs)
each_replaced P test y one [] each = each
each_replaced P test y one (x ∷ xs) each = cond_both (test x) (y ∷ xs) (x ∷ changed_first test (λ _. y) xs) (AllByRecursion P) (λ _. (one, each.1)) (λ _. (each.0, each_replaced P test y one xs each.1))

-- ---- A loop that changes the first that passes

pub first_here : {X : Type 0} (test : X → Bool) (change : X → X) (xs : List X) (i : ℕ) (d : X) → i < length xs → test (get_or xs i d) ≡ true
    → set xs i (change (get_or xs i d)) ≡ take i xs ++ changed_first test change (drop i xs)
first_here test change [] i d lt is = absurd (omega (arith, lt))
first_here test change (x ∷ xs) zero d lt is = sym (cond-true (test x) (change x ∷ xs) (x ∷ changed_first test change xs) is)
first_here {X} test change (x ∷ xs) (suc i) d lt is = ap (λ (zs : List X). x ∷ zs) (first_here test change xs i d (omega (arith, lt)) is)

pub changed_length : {X : Type 0} (test : X → Bool) (change : X → X) (xs : List X) → length (changed_first test change xs) ≡ length xs
changed_length test change [] = refl
changed_length {X} test change (x ∷ xs) = cond_both (test x) (change x ∷ xs) (x ∷ changed_first test change xs) (λ (ys : List X). length ys ≡ length (x ∷ xs)) (λ _. refl) (λ _. ap suc (changed_length test change xs))

-- ---- What a request changes

pub record AskFacts (held : Held) (most fresh : ℕ) (p : Pair) : Type 0 where
  pub few : p.tries ≤ most
  pub same : changed_first (is_at p.base p.remote) (λ _. asked held.setup held.state fresh p) held.state.pairs ≡ changed_first (is_at p.base p.remote) (asked held.setup held.state fresh) held.state.pairs
  pub distinct : AreDistinct (changed_first (is_at p.base p.remote) (λ _. asked held.setup held.state fresh p) held.state.pairs)
  pub tried : AllByRecursion (IsTried most) (changed_first (is_at p.base p.remote) (λ _. asked held.setup held.state fresh p) held.state.pairs)

pub ask_changes : (held : Held) (most fresh : ℕ) (p : Pair) → IsSettled held → AreDistinct held.state.pairs → AllByRecursion (IsTried most) held.state.pairs → 1 ≤ most → held.setup.most_tries ≤ most
    → best (score held.setup held.state) held.state.pairs ≡ Some p → AskFacts held most fresh p
ask_changes held most fresh p settled_by distinct each some enough is =
    let a = urgent_asked held.setup most fresh held.state settled_by.0 p settled_by.1 distinct each some enough is in
    let same = changed_found (is_at p.base p.remote) (asked held.setup held.state fresh) held.state.pairs p a.first in
    record {
      few = a.few;
      same = same;
      distinct = subst AreDistinct (sym same) ((keeps_changed (is_at p.base p.remote) (asked held.setup held.state fresh) (asked_left held.setup held.state fresh) held.state.pairs).distinct distinct);
      tried = each_replaced (IsTried most) (is_at p.base p.remote) (asked held.setup held.state fresh p) a.tried held.state.pairs each;
    }
