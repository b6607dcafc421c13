-- Every change of a pair keeps how often it may be tried.
use Rattle.std.proofs.Common.{◌≡◌, ℕ, ◌||◌, ◌&&◌, Bool, true, false, refl, subst, arith, List, [], ◌∷◌, map, filter, length, sym, Option, None, Some}
use Rattle.std.specs.Prelude.{not, nat_lt, nat_le}
use Rattle.std.specs.List.{AllByRecursion, list_any}
use Rattle.std.proofs.lemmas.Bool.{cond_both}
use Rattle.ice_machine.specs.declared.candidates.Base.{Base}
use Rattle.ice_machine.specs.declared.candidates.Remote.{Remote}
use Rattle.ice_machine.specs.declared.pairs.Pair.{Pair}
use Rattle.ice_machine.specs.declared.pairs.PairState.{PairState}
use Rattle.ice_machine.specs.declared.pairs.PairState.TheVariants.{Frozen, Waiting, InProgress, Succeeded, Failed, Lost}
use Rattle.ice_machine.specs.Agents.{Setup, is_at, is_in_progress, is_succeeded, is_frozen, is_lost}
use Rattle.ice_machine.specs.Checks.{is_kin}
use Rattle.ice_machine.specs.declared.roles.Role.{Role}
use Rattle.ice_machine.specs.Roles.{is_controlling}
use Rattle.ice_machine.specs.declared.messages.Check.{Check}
use Rattle.ice_machine.specs.declared.messages.Request.{Request}
use Rattle.ice_agent_state.specs.declared.responding.Change.{Change}
use Rattle.ice_agent_state.specs.declared.responding.Change.TheVariants.{Succeed, Fail, Retry}
use Rattle.ice_agent_state.specs.Changes.{changed_by}
use Rattle.ice_machine.specs.Pairs.{pair_of, fits, with_pair, with_pairs}
use Rattle.ice_machine.specs.Steps.{settled, is_unanswered, is_over, triggers, heard, unnominated, succeeds, fails, retried, thaws, changed_first}
use Rattle.ice_machine.specs.Bounds.{AreDistinct}
use Rattle.ice_machine.proofs.PlacesLemmas.{IsLeft, settled_left, succeeds_left, fails_left, retried_left, thaws_left, unnominated_left, heard_left, keeps_map, keeps_changed, goes_with, goes_with_all}
use Rattle.ice_agent_state.specs.Tried.{IsTriedIn, IsTried}

and_parts : (a b : Bool) → (a && b) ≡ true → (a ≡ true) × (b ≡ true)
and_parts true b is = (refl, is)
and_parts false b is = absurd cc

in_progress_is : (s : PairState) → is_in_progress s ≡ true → s ≡ InProgress
in_progress_is Frozen is = absurd cc
in_progress_is Waiting is = absurd cc
in_progress_is InProgress is = refl
in_progress_is Succeeded is = absurd cc
in_progress_is Failed is = absurd cc
in_progress_is Lost is = absurd cc

pub succeeded_is : (s : PairState) → is_succeeded s ≡ true → s ≡ Succeeded
succeeded_is Frozen is = absurd cc
succeeded_is Waiting is = absurd cc
succeeded_is InProgress is = absurd cc
succeeded_is Succeeded is = refl
succeeded_is Failed is = absurd cc
succeeded_is Lost is = absurd cc

pub each_mapped : (P : Pair → Type 0) (g : Pair → Pair) → ((p : Pair) → P p → P (g p)) → (ps : List Pair) → AllByRecursion P ps → AllByRecursion P (map {B = Pair} g ps)
each_mapped P g f [] each = each
each_mapped P g f (p ∷ ps) each = (f p each.0, each_mapped P g f ps each.1)

settled_tried : (most : ℕ) (setup : Setup) (now : ℕ) (p : Pair) → IsTried most p → IsTried most (settled setup now p)
settled_tried most setup now p t = cond_both (is_unanswered setup now p) _ _ (IsTried most)
    (λ yes. subst (IsTriedIn most p.tries p.triggered) (in_progress_is p.state (and_parts (is_in_progress p.state) (nat_le setup.most_tries p.tries && nat_le p.due now) yes).0) t)
    (λ _. cond_both (is_over now p) _ _ (IsTried most)
    (λ over. (subst (IsTriedIn most p.tries p.triggered) (succeeded_is p.state (and_parts (is_succeeded p.state) (nat_le p.expires_at now) over).0) t, refl))
    (λ _. t))

pub all_settled : (most : ℕ) (setup : Setup) (now : ℕ) (ps : List Pair) → AllByRecursion (IsTried most) ps → AllByRecursion (IsTried most) (map {B = Pair} (settled setup now) ps)
all_settled most setup now = each_mapped (IsTried most) (settled setup now) (settled_tried most setup now)

each_with : (P : Pair → Type 0) (room : ℕ) (p : Pair) (ps : List Pair) → P p → AllByRecursion P ps → AllByRecursion P (with_pair room p ps)
each_with P room p ps one each = cond_both (list_any (is_at p.base p.remote) ps || not (nat_lt (length ps) room)) _ _ (AllByRecursion P) (λ _. each) (λ _. (one, each))

with_new : {X : Type 0} (P : Pair → Type 0) (room : ℕ) (new : X → Pair) → ((x : X) → P (new x)) → (xs : List X) (ps : List Pair) → AllByRecursion P ps → AllByRecursion P (with_pairs room (map {B = Pair} new xs) ps)
with_new P room new f [] ps each = each
with_new P room new f (x ∷ xs) ps each = each_with P room (new x) (with_pairs room (map {B = Pair} new xs) ps) (f x) (with_new P room new f xs ps each)

pub pair_of_tried : (most : ℕ) (b : Base) (r : Remote) → IsTried most (pair_of b r)
pair_of_tried most b r = (refl, refl)

pub base_each : (P : Pair → Type 0) → ((b : Base) (r : Remote) → P (pair_of b r)) → (room : ℕ) (b : Base) (rs : List Remote) (ps qs : List Pair) → qs ≡ with_pairs room (map {B = Pair} (pair_of b) (filter (fits b) rs)) ps
    → AllByRecursion P ps → AllByRecursion P qs
base_each P f room b rs ps qs is each = subst (AllByRecursion P) (sym is) (with_new P room (pair_of b) (f b) (filter (fits b) rs) ps each)

pub remote_each : (P : Pair → Type 0) → ((b : Base) (r : Remote) → P (pair_of b r)) → (room : ℕ) (r : Remote) (bs : List Base) (ps qs : List Pair) → qs ≡ with_pairs room (map {B = Pair} (λ b. pair_of b r) (filter (λ b. fits b r) bs)) ps
    → AllByRecursion P ps → AllByRecursion P qs
remote_each P f room r bs ps qs is each = subst (AllByRecursion P) (sym is) (with_new P room (λ b. pair_of b r) (λ b. f b r) (filter (λ b. fits b r) bs) ps each)

-- ---- No two pairs of one place

pub settled_distinct : (setup : Setup) (now : ℕ) (ps : List Pair) → AreDistinct ps → AreDistinct (map {B = Pair} (settled setup now) ps)
settled_distinct setup now ps distinct = (keeps_map (settled setup now) (settled_left setup now) ps).distinct distinct

pub base_distinct : (room : ℕ) (b : Base) (rs : List Remote) (ps qs : List Pair) → qs ≡ with_pairs room (map {B = Pair} (pair_of b) (filter (fits b) rs)) ps → AreDistinct ps → AreDistinct qs
base_distinct room b rs ps qs is distinct = subst AreDistinct (sym is) ((goes_with_all room (map {B = Pair} (pair_of b) (filter (fits b) rs)) ps).distinct distinct)

pub remote_distinct : (room : ℕ) (r : Remote) (bs : List Base) (ps qs : List Pair) → qs ≡ with_pairs room (map {B = Pair} (λ b. pair_of b r) (filter (λ b. fits b r) bs)) ps → AreDistinct ps → AreDistinct qs
remote_distinct room r bs ps qs is distinct = subst AreDistinct (sym is) ((goes_with_all room (map {B = Pair} (λ b. pair_of b r) (filter (λ b. fits b r) bs)) ps).distinct distinct)

pub new_distinct : (room : ℕ) (p : Pair) (ps qs : List Pair) → qs ≡ with_pair room p ps → AreDistinct ps → AreDistinct qs
new_distinct room p ps qs is distinct = subst AreDistinct (sym is) ((goes_with room p ps).distinct distinct)

-- ---- A check of the peer

triggers_tried : (most : ℕ) (p : Pair) → IsTried most p → IsTried most (triggers p)
triggers_tried most p t = cond_both (is_succeeded p.state || is_lost p.state) _ _ (IsTried most) (λ _. t) (λ _. refl)

pub heard_tried : (most : ℕ) (role : Role) (c : Check) (p : Pair) → IsTried most p → IsTried most (heard role c p)
heard_tried most role c p t = cond_both (c.nominates && (not (is_controlling role) && not (is_lost p.state))) (record p { heard = true; nominated = true }) (record p { heard = true }) (λ (q : Pair). IsTried most (triggers q))
    (λ _. triggers_tried most (record p { heard = true; nominated = true }) t) (λ _. triggers_tried most (record p { heard = true }) t)

pub each_changed : (P : Pair → Type 0) (test : Pair → Bool) (change : Pair → Pair) → ((p : Pair) → P p → P (change p)) → (ps : List Pair) → AllByRecursion P ps → AllByRecursion P (changed_first test change ps)
each_changed P test change f [] each = each
each_changed P test change f (p ∷ ps) each = cond_both (test p) (change p ∷ ps) (p ∷ changed_first test change ps) (AllByRecursion P) (λ _. (f p each.0, each.1)) (λ _. (each.0, each_changed P test change f ps each.1))

pub unnominated_each : (most : ℕ) (ps : List Pair) → AllByRecursion (IsTried most) ps → AllByRecursion (IsTried most) (map {B = Pair} unnominated ps)
unnominated_each most = each_mapped (IsTried most) unnominated (λ p t. t)

pub unnominated_distinct : (ps : List Pair) → AreDistinct ps → AreDistinct (map {B = Pair} unnominated ps)
unnominated_distinct ps distinct = (keeps_map unnominated unnominated_left ps).distinct distinct

pub heard_each : (P : Pair → Type 0) → ((b : Base) (r : Remote) → P (pair_of b r)) → (room : ℕ) (role : Role) (c : Check) → ((p : Pair) → P p → P (heard role c p)) → (b : Base) (r : Remote) (ps : List Pair)
    → AllByRecursion P ps → AllByRecursion P (changed_first (is_at c.base c.from) (heard role c) (with_pair room (pair_of b r) ps))
heard_each P f room role c g b r ps each = each_changed P (is_at c.base c.from) (heard role c) g (with_pair room (pair_of b r) ps) (each_with P room (pair_of b r) ps (f b r) each)

pub heard_distinct : (room : ℕ) (role : Role) (c : Check) (b : Base) (r : Remote) (ps : List Pair) → AreDistinct ps → AreDistinct (changed_first (is_at c.base c.from) (heard role c) (with_pair room (pair_of b r) ps))
heard_distinct room role c b r ps distinct = (keeps_changed (is_at c.base c.from) (heard role c) (heard_left role c) (with_pair room (pair_of b r) ps)).distinct ((goes_with room (pair_of b r) ps).distinct distinct)

-- ---- A response of the peer

succeeds_tried : (most : ℕ) (role : Role) (now : ℕ) (r : Request) (p : Pair) → IsTried most p → IsTried most (succeeds role now r p)
succeeds_tried most role now r p t = cond_both (is_lost p.state) _ _ (IsTried most) (λ _. t) (λ _. omega arith)

fails_tried : (most : ℕ) (p : Pair) → IsTried most p → IsTried most (fails p)
fails_tried most p t = cond_both (is_in_progress p.state) _ _ (IsTried most) (λ is. subst (IsTriedIn most p.tries p.triggered) (in_progress_is p.state is) t) (λ _. t)

retried_tried : (most : ℕ) (p : Pair) → IsTried most p → IsTried most (retried p)
retried_tried most p t = cond_both (is_lost p.state) _ _ (IsTried most) (λ _. t)
    (λ _. cond_both (is_succeeded p.state) _ _ (IsTried most)
    (λ is. subst (IsTriedIn most p.tries true) (sym (succeeded_is p.state is)) (subst (IsTriedIn most p.tries p.triggered) (succeeded_is p.state is) t))
    (λ _. triggers_tried most p t))

changed_tried : (most : ℕ) (by : Change) (p : Pair) → IsTried most p → IsTried most (changed_by by p)
changed_tried most (Succeed role now r) = succeeds_tried most role now r
changed_tried most Fail = fails_tried most
changed_tried most Retry = retried_tried most

changed_left : (by : Change) (p : Pair) → IsLeft p (changed_by by p)
changed_left (Succeed role now r) = succeeds_left role now r
changed_left Fail = fails_left
changed_left Retry = retried_left

pub changed_each : (most : ℕ) (by : Change) (test : Pair → Bool) (ps : List Pair) → AllByRecursion (IsTried most) ps → AllByRecursion (IsTried most) (changed_first test (changed_by by) ps)
changed_each most by test ps each = each_changed (IsTried most) test (changed_by by) (changed_tried most by) ps each

pub changed_distinct : (by : Change) (test : Pair → Bool) (ps : List Pair) → AreDistinct ps → AreDistinct (changed_first test (changed_by by) ps)
changed_distinct by test ps distinct = (keeps_changed test (changed_by by) (changed_left by) ps).distinct distinct

frozen_is : (s : PairState) → is_frozen s ≡ true → s ≡ Frozen
frozen_is Frozen is = refl
frozen_is Waiting is = absurd cc
frozen_is InProgress is = absurd cc
frozen_is Succeeded is = absurd cc
frozen_is Failed is = absurd cc
frozen_is Lost is = absurd cc

thaws_tried : (most : ℕ) (o : Option Pair) (q : Pair) → IsTried most q → IsTried most (thaws o q)
thaws_tried most None q t = t
thaws_tried most (Some p) q t = cond_both (is_kin p q && is_frozen q.state) _ _ (IsTried most)
    (λ both. (subst (IsTriedIn most q.tries q.triggered) (frozen_is q.state (and_parts (is_kin p q) (is_frozen q.state) both).1) t).0) (λ _. t)

pub thawed_each : (most : ℕ) (o : Option Pair) (ps : List Pair) → AllByRecursion (IsTried most) ps → AllByRecursion (IsTried most) (map {B = Pair} (thaws o) ps)
thawed_each most o = each_mapped (IsTried most) (thaws o) (thaws_tried most o)

pub thawed_distinct : (o : Option Pair) (ps : List Pair) → AreDistinct ps → AreDistinct (map {B = Pair} (thaws o) ps)
thawed_distinct o ps distinct = (keeps_map (thaws o) (thaws_left o) ps).distinct distinct
