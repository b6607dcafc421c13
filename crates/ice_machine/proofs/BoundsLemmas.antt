-- What is kept never exceeds its bounds.
use Rattle.std.proofs.Common.{map, ◌≡◌, ℕ, zero, suc, ◌≤◌, Bool, not, ◌||◌, ◌&&◌, List, [], ◌∷◌, Option, None, Some, refl, sym, ap, subst, filter, find, take, length, arith, ltb-true, zero-le, ◌%◌, ◌^◌}
use Rattle.std.specs.List.{list_any}
use Rattle.std.specs.Option.{option_map_or}
use Rattle.std.specs.Prelude.{◌==◌, nat_lt, max}
use Rattle.std.proofs.lemmas.Bool.{cond_both, and_parts, or_parts, not-false}
use Rattle.stun_endpoints.specs.declared.endpoints.Endpoint.{Endpoint}
use Rattle.ice_machine.specs.Roles.{Role, Controlling, Controlled, RoleDecision, keep, switch, refuse, other_role, is_controlling, role_decision}
use Rattle.ice_machine.specs.Agents.{Base, Remote, Pair, Request, Setup, State, is_at}
use Rattle.ice_machine.specs.Events.{Check, Answer, Accepted, Refused, Event, gathers, learns, meets, ends, checks, responds, strays, arrives, sends, polls}
use Rattle.ice_machine.specs.Pairs.{pair_of, fits, with_pair, with_pairs}
use Rattle.ice_machine.specs.Checks.{most_urgent, request_on, asked}
use Rattle.ice_machine.specs.Steps.{Step, does_nothing, settled, is_awaited, at, changed, changed_first, unnominated, in_role, has_room, is_base, gathered, is_remote, learned, discovered, heard, hears, decides, checked, is_request, is_symmetric, without_request, fails, succeeds, thaws, retried, answered, responded, asks_on, is_open, polled, happens}
use Rattle.ice_machine.specs.Runs.{Begin, Timed, run}
use Rattle.ice_machine.specs.Bounds.{IsWithin}

-- ---- Lengths

length-map : {X Y : Type 0} (f : X → Y) (xs : List X) → length (map f xs) ≡ length xs
length-map f [] = refl
length-map f (x ∷ xs) = ap suc (length-map f xs)

pub length-changed_first : {X : Type 0} (test : X → Bool) (change : X → X) (xs : List X) → length (changed_first test change xs) ≡ length xs
length-changed_first test change [] = refl
length-changed_first test change (x ∷ xs) =
    let more = length-changed_first test change xs in
    cond_both (test x) (change x ∷ xs) (x ∷ changed_first test change xs) (λ ys. length ys ≡ suc (length xs)) (λ _. refl) (λ _. ap suc more)

length-filter : {X : Type 0} (test : X → Bool) (xs : List X) → length (filter test xs) ≤ length xs
length-filter test [] = zero-le
length-filter test (x ∷ xs) =
    let more = length-filter test xs in
    cond_both (test x) (x ∷ filter test xs) (filter test xs) (λ ys. length ys ≤ suc (length xs)) (λ _. omega (arith, more)) (λ _. omega (arith, more))

length-take : {X : Type 0} (n : ℕ) (xs : List X) → length (take n xs) ≤ n
length-take zero xs = zero-le
length-take (suc n) [] = zero-le
length-take (suc n) (x ∷ xs) = let more = length-take n xs in omega (arith, more)

with_pair_few : (most : ℕ) (p : Pair) (ps : List Pair) → length ps ≤ most → length (with_pair most p ps) ≤ most
with_pair_few most p ps few = cond_both (list_any (is_at p.base p.remote) ps || not (nat_lt (length ps) most)) _ _ (λ qs. length qs ≤ most) (λ _. few)
    (λ neither. let both = or_parts (list_any (is_at p.base p.remote) ps) (not (nat_lt (length ps) most)) neither in
    let room = ltb-true (length ps) most (not-false (nat_lt (length ps) most) both.1) in omega (arith, room))

with_pairs_few : (most : ℕ) (news ps : List Pair) → length ps ≤ most → length (with_pairs most news ps) ≤ most
with_pairs_few most [] ps few = few
with_pairs_few most (p ∷ news) ps few = with_pair_few most p (with_pairs most news ps) (with_pairs_few most news ps few)

-- ---- States

same_few : {n m most : ℕ} → n ≡ m → m ≤ most → n ≤ most
same_few {most = most} same few = subst (λ (k : ℕ). k ≤ most) (sym same) few

changed_within : (setup : Setup) (change : Pair → Pair) (base : ℕ) (to : Endpoint) (state : State) → IsWithin setup state → IsWithin setup (changed change base to state)
changed_within setup change base to state w = record { bases = w.bases; remotes = w.remotes; requests = w.requests; pairs = same_few (length-changed_first (is_at base to) change state.pairs) w.pairs }

in_role_within : (setup : Setup) (role : Role) (state : State) → IsWithin setup state → IsWithin setup (in_role role state)
in_role_within setup Controlling state w = cond_both (is_controlling state.role) _ _ (IsWithin setup) (λ _. w)
    (λ _. record { bases = w.bases; remotes = w.remotes; requests = w.requests; pairs = same_few (length-map unnominated state.pairs) w.pairs })
in_role_within setup Controlled state w = cond_both (is_controlling state.role) _ _ (IsWithin setup)
    (λ _. record { bases = w.bases; remotes = w.remotes; requests = w.requests; pairs = same_few (length-map unnominated state.pairs) w.pairs }) (λ _. w)

at_within : (setup : Setup) (now : ℕ) (state : State) → IsWithin setup state → IsWithin setup (at setup now state)
at_within setup now state w = record {
  bases = w.bases;
  remotes = w.remotes;
  pairs = same_few (length-map (settled setup (max state.clock now)) state.pairs) w.pairs;
  requests = let less = length-filter (is_awaited (max state.clock now)) state.requests in let few = w.requests in omega (arith, less, few);
}

gathered_within : (setup : Setup) (b : Base) (state : State) → IsWithin setup state → IsWithin setup (gathered setup b state)
gathered_within setup b state w = cond_both (has_room setup state.bases && not (list_any (is_base b.number) state.bases)) _ _ (IsWithin setup)
    (λ both. let room = ltb-true (length state.bases) setup.most_candidates (and_parts (has_room setup state.bases) (not (list_any (is_base b.number) state.bases)) both).0 in
    record {
      bases = omega (arith, room);
      remotes = w.remotes;
      requests = w.requests;
      pairs = with_pairs_few setup.most_pairs (map {B = Pair} (pair_of b) (filter (fits b) state.remotes)) state.pairs w.pairs;
    }) (λ _. w)

learned_within : (setup : Setup) (r : Remote) (state : State) → IsWithin setup state → IsWithin setup (learned setup r state)
learned_within setup r state w = cond_both (has_room setup state.remotes && not (list_any (is_remote r.component r.address) state.remotes)) _ _ (IsWithin setup)
    (λ both. let room = ltb-true (length state.remotes) setup.most_candidates (and_parts (has_room setup state.remotes) (not (list_any (is_remote r.component r.address) state.remotes)) both).0 in
    record {
      bases = w.bases;
      remotes = omega (arith, room);
      requests = w.requests;
      pairs = with_pairs_few setup.most_pairs (map {B = Pair} (λ b. pair_of b r) (filter (λ b. fits b r) state.bases)) state.pairs w.pairs;
    }) (λ _. w)

hears_within : (setup : Setup) (b : Base) (c : Check) (state : State) → IsWithin setup state → IsWithin setup (hears setup b c state)
hears_within setup b c state w = changed_within setup (heard state.role c) c.base c.from
    (record state { pairs = with_pair setup.most_pairs (pair_of b (discovered b c)) state.pairs })
    (record { bases = w.bases; remotes = w.remotes; requests = w.requests; pairs = with_pair_few setup.most_pairs (pair_of b (discovered b c)) state.pairs w.pairs })

decides_within : (setup : Setup) (b : Base) (c : Check) (state : State) (decision : RoleDecision) → IsWithin setup state → IsWithin setup (decides setup b c state decision).state
decides_within setup b c state keep w = hears_within setup b c state w
decides_within setup b c state switch w = hears_within setup b c (in_role (other_role state.role) state) (in_role_within setup (other_role state.role) state w)
decides_within setup b c state refuse w = w

checks_within : (setup : Setup) (c : Check) (state : State) (known : Option Base) → IsWithin setup state → IsWithin setup (option_map_or (checked setup c state) known (does_nothing state)).state
checks_within setup c state None w = w
checks_within setup c state (Some b) w = decides_within setup b c state (role_decision state.role state.tiebreaker c.role c.tiebreaker) w

answered_within : (setup : Setup) (fresh : ℕ) (r : Request) (answer : Answer) (state : State) → IsWithin setup state → IsWithin setup (answered fresh r answer state)
answered_within setup fresh r Accepted state w =
    let after = changed (succeeds state.role state.clock r) r.base r.to state in
    let v : IsWithin setup after = changed_within setup (succeeds state.role state.clock r) r.base r.to state w in
    record { bases = v.bases; remotes = v.remotes; requests = v.requests; pairs = same_few (length-map (thaws (find (is_at r.base r.to) after.pairs)) after.pairs) v.pairs }
answered_within setup fresh r (Refused code) state w = cond_both (code == 487) _ _ (IsWithin setup)
    (λ _. changed_within setup retried r.base r.to (in_role (other_role r.role) (record state { tiebreaker = fresh % 2 ^ 64 }))
    (in_role_within setup (other_role r.role) (record state { tiebreaker = fresh % 2 ^ 64 }) (record { bases = w.bases; remotes = w.remotes; requests = w.requests; pairs = w.pairs })))
    (λ _. changed_within setup fails r.base r.to state w)

responds_within : (setup : Setup) (fresh base : ℕ) (from : Endpoint) (answer : Answer) (state : State) (known : Option Request) → IsWithin setup state
    → IsWithin setup (option_map_or (responded fresh base from answer state) known (does_nothing state)).state
responds_within setup fresh base from answer state None w = w
responds_within setup fresh base from answer state (Some r) w =
    let less : IsWithin setup (without_request r.id state) = record {
      bases = w.bases;
      remotes = w.remotes;
      pairs = w.pairs;
      requests = let less = length-filter (λ q. not (is_request r.id q)) state.requests in let few = w.requests in omega (arith, less, few);
    } in
    cond_both (is_symmetric base from r) _ _ (IsWithin setup) (λ _. answered_within setup fresh r answer (without_request r.id state) less)
    (λ _. changed_within setup fails r.base r.to (without_request r.id state) less)

asks_within : (setup : Setup) (fresh : ℕ) (state : State) (known : Option Pair) → IsWithin setup state → IsWithin setup (option_map_or (asks_on setup fresh state) known (does_nothing state)).state
asks_within setup fresh state None w = w
asks_within setup fresh state (Some p) w = record {
  bases = w.bases;
  remotes = w.remotes;
  pairs = same_few (length-changed_first (is_at p.base p.remote) (asked setup state fresh) state.pairs) w.pairs;
  requests = length-take setup.most_requests (request_on setup state fresh p ∷ state.requests);
}

polled_within : (setup : Setup) (fresh : ℕ) (state : State) → IsWithin setup state → IsWithin setup (polled setup fresh state).state
polled_within setup fresh state w =
    cond_both (is_open state) (option_map_or (asks_on setup fresh state) (most_urgent setup state) (does_nothing state)) (does_nothing state) (λ (s : Step). IsWithin setup s.state)
    (λ _. asks_within setup fresh state (most_urgent setup state) w) (λ _. w)

happens_within : (setup : Setup) (fresh : ℕ) (state : State) (event : Event) → IsWithin setup state → IsWithin setup (happens setup fresh state event).state
happens_within setup fresh state (gathers b) w = gathered_within setup b state w
happens_within setup fresh state (learns r) w = learned_within setup r state w
happens_within setup fresh state meets w = record { bases = w.bases; remotes = w.remotes; pairs = w.pairs; requests = w.requests }
happens_within setup fresh state ends w = record { bases = w.bases; remotes = w.remotes; pairs = w.pairs; requests = w.requests }
happens_within setup fresh state (checks c) w = checks_within setup c state (find (is_base c.base) state.bases) w
happens_within setup fresh state (responds base from id answer) w = responds_within setup fresh base from answer state (find (is_request id) state.requests) w
happens_within setup fresh state (strays base from id size code) w = w
happens_within setup fresh state (arrives base from bytes) w = w
happens_within setup fresh state (sends component bytes) w = w
happens_within setup fresh state polls w = polled_within setup fresh state w

pub run_within : (setup : Setup) (b : Begin) (events : List Timed) → IsWithin setup (run setup b events)
run_within setup b [] = record { bases = zero-le; remotes = zero-le; pairs = zero-le; requests = zero-le }
run_within setup b (timed ∷ earlier) = happens_within setup timed.fresh (at setup timed.now (run setup b earlier)) timed.event (at_within setup timed.now (run setup b earlier) (run_within setup b earlier))
