-- Each step keeps what is kept backed.
use Rattle.std.proofs.Common.{map, ◌≡◌, ℕ, ◌+◌, ◌<◌, inl, inr, ◌⊎◌, true, false, not, ◌||◌, ◌&&◌, List, [], ◌∷◌, Option, None, Some, refl, sym, ap, subst, ◌∙◌, filter, find, length, ltb-true, eqb-true, ◌%◌, ◌^◌}
use Rattle.std.specs.List.{AllByRecursion, list_any}
use Rattle.std.specs.Option.{option_map_or}
use Rattle.std.specs.Prelude.{◌==◌, nat_lt, max}
use Rattle.std.proofs.lemmas.Bool.{cond_both, and_parts, or_cases}
use Rattle.stun_endpoints.specs.declared.endpoints.Endpoint.{Endpoint}
use Rattle.stun_endpoints.specs.Endpoints.{is_endpoint}
use Rattle.ice_machine.specs.Roles.{Role, Controlling, Controlled, RoleDecision, keep, switch, refuse, other_role, is_controlling, role_decision}
use Rattle.ice_machine.specs.Agents.{seconds, Base, Remote, Pair, Request, Setup, State, is_at, is_succeeded, is_in_progress, is_frozen, is_lost}
use Rattle.ice_machine.specs.Events.{Check, Answer, Accepted, Refused, Event, gathers, learns, meets, ends, checks, responds, strays, arrives, sends, polls}
use Rattle.ice_machine.specs.Pairs.{pair_of, fits, with_pair, with_pairs}
use Rattle.ice_machine.specs.Checks.{is_kin, is_choice, is_nominating, most_urgent, request_on, asked}
use Rattle.ice_machine.specs.Steps.{Step, does_nothing, is_unanswered, is_over, settled, is_awaited, at, changed, unnominated, in_role, has_room, is_base, gathered, is_remote, learned, discovered, triggers, nominated_by, heard, hears, decides, checked, is_request, is_symmetric, without_request, fails, succeeds, thaws, thawed, retried, answered, responded, asks_on, is_open, polled, happens}
use Rattle.ice_machine.specs.Runs.{Begin, Timed, Happening, run, happening, history, Happened}
use Rattle.ice_machine.specs.Warrants.{Sends, Accepts, HearsNomination, IsNominated}
use Rattle.ice_machine.proofs.ListsLemmas.{each_map, each_mapped, each_filter, each_passing, each_take, each_changed, found}
use Rattle.ice_machine.proofs.AddressesLemmas.{endpoint_same, at_base, at_remote}
use Rattle.ice_machine.proofs.Backed.{Until, IsBacked, WasSent, IsKept, kept_on}

-- ---- Time

settled_backed : (setup : Setup) (now : ℕ) (role : Role) (hs : List Happening) (p : Pair) → IsBacked role hs p → IsBacked role hs (settled setup now p)
settled_backed setup now role hs p is =
    cond_both (is_unanswered setup now p) _ _ (IsBacked role hs)
    (λ _. record { consented = λ yes. absurd cc; nominated = is.nominated; heard = is.heard })
    (λ _. cond_both (is_over now p) _ _ (IsBacked role hs)
    (λ _. record { consented = λ yes. absurd cc; nominated = is.nominated; heard = is.heard })
    (λ _. is))

-- the requests that a response may still come to
pub record IsTimely (hs : List Happening) (now : ℕ) (r : Request) : Type 0 where
  pub was : WasSent hs r
  pub timely : is_awaited now r ≡ true

-- at the moment of an event
pub record IsKeptNow (hs : List Happening) (state : State) : Type 0 where
  pub pairs : AllByRecursion (IsBacked state.role hs) state.pairs
  pub requests : AllByRecursion (IsTimely hs state.clock) state.requests

pub at_kept : (setup : Setup) (now : ℕ) (hs : List Happening) (state : State) → IsKept hs state → IsKeptNow hs (at setup now state)
at_kept setup now hs state k = record {
  pairs = each_mapped (IsBacked state.role hs) (IsBacked state.role hs) (settled setup (max state.clock now)) (settled_backed setup (max state.clock now) state.role hs) state.pairs k.pairs;
  requests = each_passing (WasSent hs) (IsTimely hs (max state.clock now)) (is_awaited (max state.clock now)) (λ r yes was. record { was = was; timely = yes }) state.requests k.requests;
}

pub now_kept : (hs : List Happening) (state : State) → IsKeptNow hs state → IsKept hs state
now_kept hs state k = record { pairs = k.pairs; requests = each_map (IsTimely hs state.clock) (WasSent hs) (λ r t. t.was) state.requests k.requests }

-- ---- A state with pairs changed

pub changed_kept : (hs : List Happening) (change : Pair → Pair) (base : ℕ) (to : Endpoint) (state : State)
    → ((p : Pair) → is_at base to p ≡ true → IsBacked state.role hs p → IsBacked state.role hs (change p)) → IsKept hs state → IsKept hs (changed change base to state)
changed_kept hs change base to state f k = record {
  pairs = each_changed (IsBacked state.role hs) (IsBacked state.role hs) (is_at base to) change (λ p is. is) state.pairs f k.pairs;
  requests = k.requests;
}

unnominated_backed : (hs : List Happening) (role other : Role) (p : Pair) → IsBacked role hs p → IsBacked other hs (unnominated p)
unnominated_backed hs role other p is = record { consented = is.consented; nominated = λ yes. absurd cc; heard = is.heard }

pub in_role_kept : (hs : List Happening) (role : Role) (state : State) → IsKept hs state → IsKept hs (in_role role state)
in_role_kept hs Controlling state k = cond_both (is_controlling state.role) _ _ (IsKept hs) (λ _. k)
    (λ _. record { pairs = each_mapped (IsBacked state.role hs) (IsBacked Controlling hs) unnominated (unnominated_backed hs state.role Controlling) state.pairs k.pairs; requests = k.requests })
in_role_kept hs Controlled state k = cond_both (is_controlling state.role) _ _ (IsKept hs)
    (λ _. record { pairs = each_mapped (IsBacked state.role hs) (IsBacked Controlled hs) unnominated (unnominated_backed hs state.role Controlled) state.pairs k.pairs; requests = k.requests })
    (λ _. k)

-- ---- Candidates

pub new_backed : (hs : List Happening) (role : Role) (b : Base) (r : Remote) → IsBacked role hs (pair_of b r)
new_backed hs role b r = record { consented = λ yes. absurd cc; nominated = λ yes. absurd cc; heard = λ yes. absurd cc }

pub with_pair_each : (P : Pair → Type 0) (most : ℕ) (p : Pair) (ps : List Pair) → P p → AllByRecursion P ps → AllByRecursion P (with_pair most p ps)
with_pair_each P most p ps one each = cond_both (list_any (is_at p.base p.remote) ps || not (nat_lt (length ps) most)) _ _ (AllByRecursion P) (λ _. each) (λ _. (one, each))

pub with_pairs_each : {X : Type 0} (P : Pair → Type 0) (most : ℕ) (new : X → Pair) → ((x : X) → P (new x)) → (xs : List X) (ps : List Pair) → AllByRecursion P ps → AllByRecursion P (with_pairs most (map new xs) ps)
with_pairs_each P most new f [] ps each = each
with_pairs_each P most new f (x ∷ xs) ps each = with_pair_each P most (new x) (with_pairs most (map new xs) ps) (f x) (with_pairs_each P most new f xs ps each)

gathered_kept : (hs : List Happening) (setup : Setup) (b : Base) (state : State) → IsKept hs state → IsKept hs (gathered setup b state)
gathered_kept hs setup b state k = cond_both (has_room setup state.bases && not (list_any (is_base b.number) state.bases)) _ _ (IsKept hs)
    (λ _. record {
      pairs = with_pairs_each (IsBacked state.role hs) setup.most_pairs (pair_of b) (new_backed hs state.role b) (filter (fits b) state.remotes) state.pairs k.pairs;
      requests = k.requests;
    }) (λ _. k)

learned_kept : (hs : List Happening) (setup : Setup) (r : Remote) (state : State) → IsKept hs state → IsKept hs (learned setup r state)
learned_kept hs setup r state k = cond_both (has_room setup state.remotes && not (list_any (is_remote r.component r.address) state.remotes)) _ _ (IsKept hs)
    (λ _. record {
      pairs = with_pairs_each (IsBacked state.role hs) setup.most_pairs (λ b. pair_of b r) (λ b. new_backed hs state.role b r) (filter (λ b. fits b r) state.bases) state.pairs k.pairs;
      requests = k.requests;
    }) (λ _. k)

-- ---- Checks

triggers_backed : (hs : List Happening) (role : Role) (p : Pair) → IsBacked role hs p → IsBacked role hs (triggers p)
triggers_backed hs role p is = cond_both (is_succeeded p.state || is_lost p.state) _ _ (IsBacked role hs) (λ _. is)
    (λ _. record { consented = λ yes. absurd cc; nominated = is.nominated; heard = is.heard })

nominated_here : (role : Role) (base : ℕ) (to : Endpoint) (hs : List Happening) → not (is_controlling role) ≡ true → Happened (HearsNomination base to) hs → IsNominated role base to hs
nominated_here Controlling base to hs isnt h = absurd cc
nominated_here Controlled base to hs isnt h = h

heard_backed : (h : Happening) (hs : List Happening) (role : Role) (c : Check) → h.event ≡ checks c → (p : Pair) → is_at c.base c.from p ≡ true → IsBacked role (h ∷ hs) p → IsBacked role (h ∷ hs) (heard role c p)
heard_backed h hs role c event p here is =
    let base = at_base c.base c.from p here in
    let from = at_remote c.base c.from p here in
    triggers_backed (h ∷ hs) role (nominated_by role c p)
    (cond_both (c.nominates && (not (is_controlling role) && not (is_lost p.state))) _ _ (IsBacked role (h ∷ hs))
    (λ yes. let both = and_parts c.nominates (not (is_controlling role) && not (is_lost p.state)) yes in
    let later = and_parts (not (is_controlling role)) (not (is_lost p.state)) both.1 in
    record {
      consented = is.consented;
      nominated = λ _. nominated_here role p.base p.remote (h ∷ hs) later.0 (inl (record { check = c; event = event; base_is = base; from_is = from; nominates = both.0 }));
      heard = λ _. inl (record { check = c; event = event; base_is = base; from_is = from });
    })
    (λ _. record { consented = is.consented; nominated = is.nominated; heard = λ _. inl (record { check = c; event = event; base_is = base; from_is = from }) }))

hears_kept : (h : Happening) (hs : List Happening) (setup : Setup) (b : Base) (c : Check) → h.event ≡ checks c → (state : State) → IsKept (h ∷ hs) state → IsKept (h ∷ hs) (hears setup b c state)
hears_kept h hs setup b c event state k =
    changed_kept (h ∷ hs) (heard state.role c) c.base c.from
    (record state { pairs = with_pair setup.most_pairs (pair_of b (discovered b c)) state.pairs })
    (heard_backed h hs state.role c event)
    (record { pairs = with_pair_each (IsBacked state.role (h ∷ hs)) setup.most_pairs (pair_of b (discovered b c)) state.pairs (new_backed (h ∷ hs) state.role b (discovered b c)) k.pairs; requests = k.requests })

decides_kept : (h : Happening) (hs : List Happening) (setup : Setup) (b : Base) (c : Check) → h.event ≡ checks c → (state : State) (decision : RoleDecision) → IsKept (h ∷ hs) state → IsKept (h ∷ hs) (decides setup b c state decision).state
decides_kept h hs setup b c event state keep k = hears_kept h hs setup b c event state k
decides_kept h hs setup b c event state switch k = hears_kept h hs setup b c event (in_role (other_role state.role) state) (in_role_kept (h ∷ hs) (other_role state.role) state k)
decides_kept h hs setup b c event state refuse k = k

checks_kept : (h : Happening) (hs : List Happening) (setup : Setup) (c : Check) → h.event ≡ checks c → (state : State) (known : Option Base) → IsKept (h ∷ hs) state
    → IsKept (h ∷ hs) (option_map_or (checked setup c state) known (does_nothing state)).state
checks_kept h hs setup c event state None k = k
checks_kept h hs setup c event state (Some b) k = decides_kept h hs setup b c event state (role_decision state.role state.tiebreaker c.role c.tiebreaker) k

-- ---- Responses

fails_backed : (hs : List Happening) (role : Role) (p : Pair) → IsBacked role hs p → IsBacked role hs (fails p)
fails_backed hs role p is = cond_both (is_in_progress p.state) _ _ (IsBacked role hs)
    (λ _. record { consented = λ yes. absurd cc; nominated = is.nominated; heard = is.heard }) (λ _. is)

retried_backed : (hs : List Happening) (role : Role) (p : Pair) → IsBacked role hs p → IsBacked role hs (retried p)
retried_backed hs role p is = cond_both (is_lost p.state) _ _ (IsBacked role hs) (λ _. is)
    (λ _. cond_both (is_succeeded p.state) _ _ (IsBacked role hs) (λ _. record { consented = is.consented; nominated = is.nominated; heard = is.heard }) (λ _. triggers_backed hs role p is))

thaws_backed : (hs : List Happening) (role : Role) (o : Option Pair) (q : Pair) → IsBacked role hs q → IsBacked role hs (thaws o q)
thaws_backed hs role None q is = is
thaws_backed hs role (Some p) q is = cond_both (is_kin p q && is_frozen q.state) _ _ (IsBacked role hs)
    (λ _. record { consented = λ yes. absurd cc; nominated = is.nominated; heard = is.heard }) (λ _. is)

thawed_kept : (hs : List Happening) (base : ℕ) (to : Endpoint) (state : State) → IsKept hs state → IsKept hs (thawed base to state)
thawed_kept hs base to state k = record {
  pairs = each_mapped (IsBacked state.role hs) (IsBacked state.role hs) (thaws (find (is_at base to) state.pairs)) (thaws_backed hs state.role (find (is_at base to) state.pairs)) state.pairs k.pairs;
  requests = k.requests;
}

-- an accepting response came now, to a request that was sent
pub record IsAccepting (h : Happening) (hs : List Happening) (r : Request) (now : ℕ) : Type 0 where
  pub sent : Happened (Sends r) hs
  pub in_time : h.moment < r.sent + seconds 30
  pub responded : h.event ≡ responds r.base r.to r.id Accepted
  pub moment : h.moment ≡ now
  pub nominates : r.nominates ≡ true → r.role ≡ Controlling

accepts_by : (P : Request → ℕ → Type 0) (h : Happening) (hs : List Happening) (r : Request) (now : ℕ) → IsAccepting h hs r now → P r h.moment → (p : Pair) → is_at r.base r.to p ≡ true → Accepts P p.base p.remote h hs
accepts_by P h hs r now a holds p here =
    let base = at_base r.base r.to p here in
    let to = at_remote r.base r.to p here in
    record {
      request = r;
      base_is = base;
      to_is = to;
      sent = a.sent;
      in_time = a.in_time;
      responded = a.responded ∙ ap (λ (b : ℕ). responds b r.to r.id Accepted) base ∙ ap (λ (e : Endpoint). responds p.base e r.id Accepted) to;
      holds = holds;
    }

won_by : (role : Role) (h : Happening) (hs : List Happening) (r : Request) (now : ℕ) → IsAccepting h hs r now → r.nominates && is_controlling role ≡ true → (p : Pair) → is_at r.base r.to p ≡ true → IsNominated role p.base p.remote (h ∷ hs)
won_by Controlled h hs r now a won p here = let both = and_parts r.nominates false won in absurd (let isnt = both.1 in cc)
won_by Controlling h hs r now a won p here =
    let both = and_parts r.nominates true won in
    inl (accepts_by (λ q m. (q.nominates ≡ true) × (q.role ≡ Controlling)) h hs r now a (both.0, a.nominates both.0) p here)

won_or : (role : Role) (h : Happening) (hs : List Happening) (r : Request) (now : ℕ) → IsAccepting h hs r now → (p : Pair) → is_at r.base r.to p ≡ true → IsBacked role (h ∷ hs) p
    → (p.nominated ≡ true) ⊎ ((p.chosen && (r.nominates && is_controlling role)) ≡ true) → IsNominated role p.base p.remote (h ∷ hs)
won_or role h hs r now a p here is (inl already) = is.nominated already
won_or role h hs r now a p here is (inr won) = won_by role h hs r now a (and_parts p.chosen (r.nominates && is_controlling role) won).1 p here

succeeds_backed : (h : Happening) (hs : List Happening) (role : Role) (now : ℕ) (r : Request) → IsAccepting h hs r now → (p : Pair) → is_at r.base r.to p ≡ true → IsBacked role (h ∷ hs) p → IsBacked role (h ∷ hs) (succeeds role now r p)
succeeds_backed h hs role now r a p here is = cond_both (is_lost p.state) _ _ (IsBacked role (h ∷ hs)) (λ _. is)
    (λ _. record {
      consented = λ _. inl (accepts_by (Until (now + seconds 30)) h hs r now a (ap (λ (m : ℕ). m + seconds 30) a.moment) p here);
      nominated = λ yes. won_or role h hs r now a p here is (or_cases p.nominated (p.chosen && (r.nominates && is_controlling role)) yes);
      heard = is.heard;
    })

answered_kept : (h : Happening) (hs : List Happening) (fresh : ℕ) (r : Request) (answer : Answer) (state : State) → ((answer ≡ Accepted) → IsAccepting h hs r state.clock) → IsKept (h ∷ hs) state → IsKept (h ∷ hs) (answered fresh r answer state)
answered_kept h hs fresh r Accepted state a k =
    thawed_kept (h ∷ hs) r.base r.to (changed (succeeds state.role state.clock r) r.base r.to state)
    (changed_kept (h ∷ hs) (succeeds state.role state.clock r) r.base r.to state (succeeds_backed h hs state.role state.clock r (a refl)) k)
answered_kept h hs fresh r (Refused code) state a k = cond_both (code == 487) _ _ (IsKept (h ∷ hs))
    (λ _. let anew = in_role (other_role r.role) (record state { tiebreaker = fresh % 2 ^ 64 }) in
    changed_kept (h ∷ hs) retried r.base r.to anew (λ p here is. retried_backed (h ∷ hs) anew.role p is)
    (in_role_kept (h ∷ hs) (other_role r.role) (record state { tiebreaker = fresh % 2 ^ 64 }) (record { pairs = k.pairs; requests = k.requests })))
    (λ _. changed_kept (h ∷ hs) fails r.base r.to state (λ p here is. fails_backed (h ∷ hs) state.role p is) k)

without_kept : (hs : List Happening) (id : ℕ) (state : State) → IsKept hs state → IsKept hs (without_request id state)
without_kept hs id state k = record { pairs = k.pairs; requests = each_filter (WasSent hs) (λ r. not (is_request id r)) state.requests k.requests }

symmetric : (base id : ℕ) (from : Endpoint) (r : Request) (answer : Answer) → is_symmetric base from r ≡ true → is_request id r ≡ true → responds base from id answer ≡ responds r.base r.to r.id answer
symmetric base id from r answer is that =
    let both = and_parts (r.base == base) (is_endpoint r.to from) is in
    let base_is = eqb-true r.base base both.0 in
    let to_is = endpoint_same r.to from both.1 in
    let id_is = eqb-true r.id id that in
    sym (ap (λ (b : ℕ). responds b r.to r.id answer) base_is ∙ ap (λ (e : Endpoint). responds base e r.id answer) to_is ∙ ap (λ (i : ℕ). responds base from i answer) id_is)

responded_kept : (h : Happening) (hs : List Happening) (fresh base id : ℕ) (from : Endpoint) (answer : Answer) (state : State) → h.event ≡ responds base from id answer → h.moment ≡ state.clock
    → (r : Request) → is_request id r ≡ true → IsTimely hs state.clock r → IsKept (h ∷ hs) state → IsKept (h ∷ hs) (responded fresh base from answer state r).state
responded_kept h hs fresh base id from answer state event moment r that t k =
    let less : IsKept (h ∷ hs) (without_request r.id state) = without_kept (h ∷ hs) r.id state k in
    cond_both (is_symmetric base from r) _ _ (IsKept (h ∷ hs))
    (λ yes. answered_kept h hs fresh r answer (without_request r.id state)
    (λ is. record {
      sent = t.was.sent;
      in_time = subst (λ (m : ℕ). m < r.sent + seconds 30) (sym moment) (ltb-true state.clock (r.sent + seconds 30) t.timely);
      responded = event ∙ symmetric base id from r answer yes that ∙ ap (responds r.base r.to r.id) is;
      moment = moment;
      nominates = t.was.nominates;
    }) less)
    (λ _. changed_kept (h ∷ hs) fails r.base r.to (without_request r.id state) (λ p here is. fails_backed (h ∷ hs) state.role p is) less)

responds_kept : (h : Happening) (hs : List Happening) (fresh base id : ℕ) (from : Endpoint) (answer : Answer) (state : State) → h.event ≡ responds base from id answer → h.moment ≡ state.clock → IsKeptNow hs state
    → IsKept (h ∷ hs) (option_map_or (responded fresh base from answer state) (find (is_request id) state.requests) (does_nothing state)).state
responds_kept h hs fresh base id from answer state event moment k =
    let on : IsKept (h ∷ hs) state = kept_on h hs state (now_kept hs state k) in
    found (IsTimely hs state.clock) (is_request id) (λ o. IsKept (h ∷ hs) (option_map_or (responded fresh base from answer state) o (does_nothing state)).state) on state.requests
    (λ r that t. responded_kept h hs fresh base id from answer state event moment r that t on) k.requests

-- ---- Requests

asked_backed : (hs : List Happening) (setup : Setup) (state : State) (fresh : ℕ) (role : Role) (p : Pair) → IsBacked role hs p → IsBacked role hs (asked setup state fresh p)
asked_backed hs setup state fresh role p is = cond_both (is_lost p.state) _ _ (IsBacked role hs) (λ _. is)
    (λ _. cond_both (is_succeeded p.state) _ _ (IsBacked role hs)
    (λ _. record { consented = is.consented; nominated = is.nominated; heard = is.heard })
    (λ _. record { consented = λ yes. absurd cc; nominated = is.nominated; heard = is.heard }))

controls : (role : Role) → is_controlling role ≡ true → role ≡ Controlling
controls Controlling is = refl
controls Controlled is = absurd cc

pub nominating_role : (setup : Setup) (state : State) (p : Pair) → is_nominating setup state p ≡ true → state.role ≡ Controlling
nominating_role setup state p is = controls state.role (and_parts (is_controlling state.role) (is_succeeded p.state && (p.chosen || is_choice setup state p)) is).0

asks_kept : (h : Happening) (hs : List Happening) (setup : Setup) (fresh : ℕ) (state : State) (known : Option Pair) → h.moment ≡ state.clock → h.output ≡ (option_map_or (asks_on setup fresh state) known (does_nothing state)).output
    → IsKept (h ∷ hs) state → IsKept (h ∷ hs) (option_map_or (asks_on setup fresh state) known (does_nothing state)).state
asks_kept h hs setup fresh state None moment output k = k
asks_kept h hs setup fresh state (Some p) moment output k = record {
  pairs = each_changed (IsBacked state.role (h ∷ hs)) (IsBacked state.role (h ∷ hs)) (is_at p.base p.remote) (asked setup state fresh) (λ q is. is) state.pairs (λ q here is. asked_backed (h ∷ hs) setup state fresh state.role q is) k.pairs;
  requests = each_take (WasSent (h ∷ hs)) setup.most_requests (request_on setup state fresh p ∷ state.requests)
      (record { sent = inl (record { asked = output; then = sym moment }); nominates = nominating_role setup state p }, k.requests);
}

polled_kept : (h : Happening) (hs : List Happening) (setup : Setup) (fresh : ℕ) (state : State) → h.moment ≡ state.clock → h.output ≡ (polled setup fresh state).output → IsKept (h ∷ hs) state → IsKept (h ∷ hs) (polled setup fresh state).state
polled_kept h hs setup fresh state moment output k =
    cond_both (is_open state) (option_map_or (asks_on setup fresh state) (most_urgent setup state) (does_nothing state)) (does_nothing state) (λ (s : Step). h.output ≡ s.output → IsKept (h ∷ hs) s.state)
    (λ _. λ out. asks_kept h hs setup fresh state (most_urgent setup state) moment out k) (λ _. λ out. k) output

-- ---- The step

happens_kept : (h : Happening) (hs : List Happening) (setup : Setup) (fresh : ℕ) (state : State) (event : Event) → h.event ≡ event → h.moment ≡ state.clock → h.output ≡ (happens setup fresh state event).output → IsKeptNow hs state
    → IsKept (h ∷ hs) (happens setup fresh state event).state
happens_kept h hs setup fresh state (gathers b) is moment output k = gathered_kept (h ∷ hs) setup b state (kept_on h hs state (now_kept hs state k))
happens_kept h hs setup fresh state (learns r) is moment output k = learned_kept (h ∷ hs) setup r state (kept_on h hs state (now_kept hs state k))
happens_kept h hs setup fresh state meets is moment output k = let on = kept_on h hs state (now_kept hs state k) in record { pairs = on.pairs; requests = on.requests }
happens_kept h hs setup fresh state ends is moment output k = let on = kept_on h hs state (now_kept hs state k) in record { pairs = on.pairs; requests = on.requests }
happens_kept h hs setup fresh state (checks c) is moment output k = checks_kept h hs setup c is state (find (is_base c.base) state.bases) (kept_on h hs state (now_kept hs state k))
happens_kept h hs setup fresh state (responds base from id answer) is moment output k = responds_kept h hs fresh base id from answer state is moment k
happens_kept h hs setup fresh state (strays base from id size code) is moment output k = kept_on h hs state (now_kept hs state k)
happens_kept h hs setup fresh state (arrives base from bytes) is moment output k = kept_on h hs state (now_kept hs state k)
happens_kept h hs setup fresh state (sends component bytes) is moment output k = kept_on h hs state (now_kept hs state k)
happens_kept h hs setup fresh state polls is moment output k = polled_kept h hs setup fresh state moment output (kept_on h hs state (now_kept hs state k))

pub run_kept : (setup : Setup) (b : Begin) (events : List Timed) → IsKept (history setup b events) (run setup b events)
run_kept setup b [] = record { pairs = tt; requests = tt }
run_kept setup b (timed ∷ earlier) =
    happens_kept (happening setup (run setup b earlier) timed) (history setup b earlier) setup timed.fresh (at setup timed.now (run setup b earlier)) timed.event refl refl refl
    (at_kept setup timed.now (history setup b earlier) (run setup b earlier) (run_kept setup b earlier))
