-- What was granted stays until it expires, whatever happens.
use Rattle.std.proofs.Common.{◌≡◌, ◌≢◌, ℕ, ◌+◌, ◌<◌, ◌≤◌, inl, inr, Bool, true, false, not, cond, List, [], ◌∷◌, ◌++◌, map, filter, find, Option, None, Some, refl, sym, ap, ◌∙◌, subst, eqb-true, eq-eqb, le_of_eq, arith}
use Rattle.std.specs.List.{AllByRecursion, list_any}
use Rattle.std.specs.Option.{option_map_or}
use Rattle.std.specs.Prelude.{◌==◌, ◌&&◌, max, count_by}
use Rattle.std.proofs.lemmas.Bool.{cond_both, cond-true, cond-false, and_parts, and_from, false≢true}
use Rattle.stun_endpoints.specs.declared.endpoints.Endpoint.{Endpoint}
use Rattle.stun_endpoints.specs.declared.endpoints.FiveTuple.{FiveTuple}
use Rattle.stun_endpoints.specs.Endpoints.{is_tuple}
use Rattle.turn_machine.specs.Lists.{SomeOf}
use Rattle.turn_machine.specs.Relays.{seconds, Relay, Setup, Rules, State, is_live, is_of, is_for, is_users, is_owned, is_at, bound_for}
use Rattle.turn_machine.specs.Events.{Want, Given, Missing, Request, allocate, unfit_allocate, refresh, permit, bind, unfit, Event, asks, sends, sends_on, arrives, bounces, ends, ends_user, ticks, allocated, refreshed, refused, answers}
use Rattle.turn_machine.specs.Times.{at, left_of, granted_for, refreshed_for}
use Rattle.turn_machine.specs.Opening.{opened, opens, given_to, missing_to}
use Rattle.turn_machine.specs.Rows.{row, has_any, has_wanted, has_of_another, fault}
use Rattle.turn_machine.specs.Steps.{Step, changed, without, closing, is_wanted, lasting, permitting, binding, keeping, refreshes, fulfils, answers_again, serves, happens, step}
use Rattle.turn_machine.specs.Runs.{Timed, Happening, run, happening, history}
use Rattle.turn_machine.specs.Granting.{relay_of, given_of}
use Rattle.turn_machine.specs.Warrants.{Opens, is_refresh, refreshed_in, refreshed_to, is_ended, end_of, Permits, Binds, BindsTo}
use Rattle.turn_machine.specs.Works.{Lasted}
use Rattle.turn_machine.specs.Warrants.{refreshes as refreshes_of}
use Rattle.stun_endpoints.proofs.AddressesLemmas.{tuple_same, tuple_is_itself}
use Rattle.turn_machine.proofs.ListsLemmas.{each_map, each_filter, any_none, left_false, right_false, count_cons, some_any}
use Rattle.turn_machine.proofs.RowsLemmas.{row_none, own_none, permit_none, bind_none}
use Rattle.turn_machine.proofs.CasesLemmas.{serve_cases}
use Rattle.turn_machine.proofs.Backed.{not_refresh}
use Rattle.turn_machine.proofs.KeepingLemmas.{Anyone, opens_keep, granted_least, later}
use Rattle.turn_machine.proofs.KeptLemmas.{lasting_same, binding_same}
use Rattle.turn_machine.proofs.GrantedLemmas.{find_filter, found_is, not_true, others_stay, apart_test}
use Rattle.turn_machine.specs.Numbers.{Gives, IsGiven}
use Rattle.turn_machine.proofs.ListsLemmas.{some_map}
use Rattle.turn_machine.proofs.GrantedLemmas.{some_found}
use Rattle.turn_machine.proofs.Backed.{IsBacked}
use Rattle.turn_machine.proofs.BackedLemmas.{run_backed}
use Rattle.turn_machine.proofs.RightLemmas.{later_kept}
use Rattle.turn_machine.proofs.KeepingLemmas.{happens_keeps, by_anyone}
use Rattle.turn_machine.proofs.HoldingLemmas.{IsSingle, run_single, OuterStep, only_older, only_longer, held_on, find_kept, held_at}
use Rattle.turn_machine.proofs.WorksLemmas.{After, idle, again_idle, has_found, any_of, is_mine, family_of, found_changed, permit_on, bind_on}

same_cond : (b : Bool) → b ≡ cond b true false
same_cond true = refl
same_cond false = refl

-- ---- Refresh

abbrev EndAfter : FiveTuple → (user number first : ℕ) → Endpoint → Happening → List Happening → ℕ
EndAfter tuple user number first dest h since = end_of tuple user dest.ip.family number first (h ∷ since)

-- what is refreshed
end_refreshed : (tuple : FiveTuple) (user family number first granted : ℕ) (h : Happening) (since : List Happening) → is_ended user number h.event ≡ false → refreshed_to tuple user family h ≡ Some granted → end_of tuple user family number first (h ∷ since) ≡ h.moment + seconds granted
end_refreshed tuple user family number first granted h since calm some =
    cond-false (is_ended user number h.event) 0 (option_map_or (λ l. h.moment + seconds l) (refreshed_to tuple user family h) (end_of tuple user family number first since)) calm
    ∙ ap (λ (o : Option ℕ). option_map_or (λ l. h.moment + seconds l) o (end_of tuple user family number first since)) some

refresh_on : (setup : Setup) (tuple : FiveTuple) (user number first : ℕ) (dest : Endpoint) (n : ℕ) (h : Happening) (since : List Happening) (owner granted : ℕ) (wanted lifetime : Option ℕ) (state : State) → h.moment ≡ state.clock → h.event ≡ asks tuple owner (refresh wanted lifetime)
    → has_of_another tuple owner state ≡ false → OuterStep setup tuple user number first dest n since state → After setup tuple user number first dest n h since (refreshes tuple owner wanted granted state)
refresh_on setup tuple user number first dest n h since owner granted wanted lifetime state moment asked none held =
    let family = dest.ip.family in
    let a = held.a in
    let his = is_mine tuple owner family state a held.found none in
    let both = and_parts (is_of tuple a) (is_users owner a) his in
    let owner_is : user ≡ owner = sym held.user_is ∙ eqb-true a.user owner both.1 in
    let family_is = family_of tuple family state a held.found in
    let calm : is_ended user number h.event ≡ false = ap (is_ended user number) asked in
    let test = λ (b : Relay). is_owned tuple owner b && is_wanted wanted b in
    let same_test : is_refresh tuple user family h.event ≡ is_wanted wanted a =
    ap (is_refresh tuple user family) asked
    ∙ (ap (λ (b : Bool). b && option_map_or (λ f. family == f) wanted true) (and_from (is_tuple tuple tuple) (user == owner) (tuple_is_itself tuple) (eq-eqb user owner owner_is))
    ∙ ap (λ (k : ℕ). option_map_or (λ f. k == f) wanted true) (sym family_is)) in
    let after = changed tuple owner (lasting wanted (state.clock + seconds granted)) state in
    let later_one : Relay = record a { expires_at = state.clock + seconds granted } in
    let told_refreshed : h.output ≡ answers tuple (refreshed granted) → is_wanted wanted a ≡ true → refreshed_to tuple user family h ≡ Some granted = λ reply of.
    cond-true (is_refresh tuple user family h.event) (refreshed_in h.output) None (same_test ∙ of) ∙ ap refreshed_in reply in
    let never : h.output ≡ answers tuple (refreshed granted) → Permits tuple user dest.ip n h → ⊥ = λ reply p. let e = sym reply ∙ p.succeeded in absurd cc in
    let never_bound : h.output ≡ answers tuple (refreshed granted) → BindsTo tuple user dest.ip n h → ⊥ = λ reply p. let e = sym reply ∙ p.binds.succeeded in absurd cc in
    let never_one : h.output ≡ answers tuple (refreshed granted) → (channel : ℕ) → Binds tuple user channel dest n h → ⊥ = λ reply channel p. let e = sym reply ∙ p.succeeded in absurd cc in
    cond_both (granted == 0) (closing test (answers tuple (refreshed granted)) state) (keeping after (answers tuple (refreshed granted))) (After setup tuple user number first dest n h since)
    (λ nought reply kept. cond_both (is_wanted wanted a) true false (λ (b : Bool). is_wanted wanted a ≡ b → OuterStep setup tuple user number first dest n (h ∷ since) (without test state))
    (λ _ of.
    let end = end_refreshed tuple user family number first granted h since calm (told_refreshed reply of) in
    let zero_is = eqb-true granted 0 nought in
    absurd (omega (arith, kept, end, zero_is, moment)))
    (λ _ off. held_on setup tuple user number first dest n h since state (without test state)
    (record { calm = calm; lifetime = not_refresh tuple user family h (same_test ∙ off); permits = never reply; binds = never_bound reply }) (omega arith)
    (find_kept (is_for tuple family) (λ b. not (test b)) state.relays a held.found (ap not (right_false (is_owned tuple owner a) (is_wanted wanted a) off)) ∙ sym held.found) held)
    (same_cond (is_wanted wanted a)))
    (λ some reply kept. cond_both (is_wanted wanted a) later_one a (λ (b : Relay). relay_of tuple family after ≡ Some b → OuterStep setup tuple user number first dest n (h ∷ since) after)
    (λ of is. record {
      a = later_one;
      found = is;
      user_is = held.user_is;
      number_is = held.number_is;
      ends = le_of_eq (end_refreshed tuple user family number first granted h since calm (told_refreshed reply of) ∙ ap (λ (m : ℕ). m + seconds granted) moment);
      permits = λ some. held.permits (only_older (Permits tuple user dest.ip n) h since (never reply) some);
      soon = λ some. held.soon (only_older (Permits tuple user dest.ip n) h since (never reply) some);
      permits_long = λ on some. held.permits_long on (only_longer tuple user dest.ip n h since (never_bound reply) some);
      long_soon = λ some. held.long_soon (only_longer tuple user dest.ip n h since (never_bound reply) some);
      bound = λ channel some. held.bound channel (only_older (Binds tuple user channel dest n) h since (never_one reply channel) some);
      bound_soon = λ channel some. held.bound_soon channel (only_older (Binds tuple user channel dest n) h since (never_one reply channel) some);
    })
    (λ off is. held_on setup tuple user number first dest n h since state after (record { calm = calm; lifetime = not_refresh tuple user family h (same_test ∙ off); permits = never reply; binds = never_bound reply }) (omega arith) (is ∙ sym held.found) held)
    (found_changed tuple owner family (lasting wanted (state.clock + seconds granted)) state a (lasting_same (λ b. b.tuple) wanted (state.clock + seconds granted) (λ _. refl)) (lasting_same (λ b. b.family) wanted (state.clock + seconds granted) (λ _. refl)) his held.found))

-- ---- All own requests

fulfil_on : (setup : Setup) (rules : Rules) (tuple : FiveTuple) (user number first : ℕ) (dest : Endpoint) (n : ℕ) (h : Happening) (since : List Happening) (owner : ℕ) (request : Request) (state : State) → state.clock ≤ n → h.moment ≡ state.clock → h.event ≡ asks tuple owner request
    → fault setup rules state tuple owner request ≡ None → OuterStep setup tuple user number first dest n since state → After setup tuple user number first dest n h since (fulfils setup tuple owner request state)
fulfil_on setup rules tuple user number first dest n h since owner (allocate id lifetime wants) state le moment asked fit held reply kept =
    let used = (row_none (has_any tuple state) 437 _ fit).0 in
    absurd (false≢true (sym used ∙ any_of tuple dest.ip.family state.relays held.a held.found))
fulfil_on setup rules tuple user number first dest n h since owner (unfit_allocate code) state le moment asked fit held reply kept = let e = (row_none (has_any tuple state) 437 (Some code) fit).1 in absurd cc
fulfil_on setup rules tuple user number first dest n h since owner (refresh wanted lifetime) state le moment asked fit held reply kept =
    refresh_on setup tuple user number first dest n h since owner (refreshed_for lifetime setup.greatest_lifetime) wanted lifetime state moment asked (own_none tuple owner state (row (not (has_wanted tuple wanted state)) 443 None) fit).his held reply kept
fulfil_on setup rules tuple user number first dest n h since owner (permit peers) state le moment asked fit held reply kept =
    permit_on setup tuple user number first dest n h since owner peers state le moment asked reply (permit_none setup rules tuple owner peers state fit).his held
fulfil_on setup rules tuple user number first dest n h since owner (bind channel peer) state le moment asked fit held reply kept =
    let fits = bind_none setup rules tuple owner channel peer state fit in
    bind_on setup tuple user number first dest n h since owner channel peer state le moment asked reply fits.his fits.free held
fulfil_on setup rules tuple user number first dest n h since owner (unfit code) state le moment asked fit held reply kept = let e = (own_none tuple owner state (Some code) fit).rest in absurd cc

own_on : (setup : Setup) (rules : Rules) (tuple : FiveTuple) (user number first : ℕ) (dest : Endpoint) (n : ℕ) (h : Happening) (since : List Happening) (owner : ℕ) (request : Request) (state : State) → state.clock ≤ n → h.moment ≡ state.clock → h.event ≡ asks tuple owner request
    → OuterStep setup tuple user number first dest n since state → After setup tuple user number first dest n h since (serves setup rules tuple owner request state)
own_on setup rules tuple user number first dest n h since owner request state le moment asked held =
    serve_cases setup rules tuple owner request state (After setup tuple user number first dest n h since)
    (λ code _ _ reply _. held_on setup tuple user number first dest n h since state state (idle tuple tuple user number owner dest n h request (answers tuple (refused code)) asked reply refl (λ e. absurd cc)) (omega arith) refl held)
    (λ again reply _.
    let i = again_idle setup tuple tuple owner request state again in
    held_on setup tuple user number first dest n h since state state (idle tuple tuple user number owner dest n h request (answers_again setup tuple request state) asked reply i.0 i.1) (omega arith) refl held)
    (λ _ fit. fulfil_on setup rules tuple user number first dest n h since owner request state le moment asked fit held)

-- ---- Requests of others

others_opened : (setup : Setup) (tuple other : FiveTuple) (user id expires_at family : ℕ) (wants : List Want) (state : State) → state.clock < expires_at → is_tuple tuple other ≡ false → relay_of tuple family (opens setup other user id expires_at wants state) ≡ relay_of tuple family state
others_opened setup tuple other user id expires_at family wants state soon apart =
    opens_keep setup (λ s. relay_of tuple family s ≡ relay_of tuple family state) other user id expires_at
    (λ want offer s _ _ _ same.
    cond-false (is_for tuple family (opened other user id expires_at want.family s offer)) (Some (opened other user id expires_at want.family s offer)) (find (is_for tuple family) s.relays) (left_false (is_tuple tuple other) (want.family == family) apart) ∙ same)
    wants state soon refl

pub differs : (tuple other : FiveTuple) → is_tuple tuple other ≡ false → tuple ≢ other
differs tuple other apart same = false≢true (sym apart ∙ subst (λ (t : FiveTuple). is_tuple tuple t ≡ true) same (tuple_is_itself tuple))

others_fulfilled : (setup : Setup) (tuple other : FiveTuple) (family user : ℕ) (request : Request) (state : State) → is_tuple tuple other ≡ false → relay_of tuple family (fulfils setup other user request state).state ≡ relay_of tuple family state
others_fulfilled setup tuple other family user (allocate id lifetime wants) state apart =
    let granted = granted_for lifetime setup.greatest_lifetime in
    others_opened setup tuple other user id (state.clock + seconds granted) family wants state (later state.clock granted (granted_least lifetime setup.greatest_lifetime)) apart
others_fulfilled setup tuple other family user (unfit_allocate code) state apart = refl
others_fulfilled setup tuple other family user (refresh wanted lifetime) state apart =
    let granted = refreshed_for lifetime setup.greatest_lifetime in
    let test = λ (b : Relay). is_owned other user b && is_wanted wanted b in
    let change = lasting wanted (state.clock + seconds granted) in
    cond_both (granted == 0) (closing test (answers other (refreshed granted)) state) (keeping (changed other user change state) (answers other (refreshed granted))) (λ s. relay_of tuple family s.state ≡ relay_of tuple family state)
    (λ _. find_filter (is_for tuple family) (λ b. not (test b))
    (λ b off. not_true (is_for tuple family b) (λ of. false≢true (sym off ∙ ap not (left_false (is_owned other user b) (is_wanted wanted b) (apart_test other tuple user family b (differs tuple other apart) of))))) state.relays)
    (λ _. others_stay other user change state (lasting_same (λ b. b.tuple) wanted (state.clock + seconds granted) (λ _. refl)) (lasting_same (λ b. b.family) wanted (state.clock + seconds granted) (λ _. refl)) tuple family (differs tuple other apart))
others_fulfilled setup tuple other family user (permit peers) state apart = others_stay other user (permitting state.clock peers) state (λ _. refl) (λ _. refl) tuple family (differs tuple other apart)
others_fulfilled setup tuple other family user (bind number peer) state apart =
    others_stay other user (binding (bound_for setup) state.clock number peer) state (binding_same (λ b. b.tuple) (bound_for setup) state.clock number peer (λ _. refl)) (binding_same (λ b. b.family) (bound_for setup) state.clock number peer (λ _. refl)) tuple family (differs tuple other apart)
others_fulfilled setup tuple other family user (unfit code) state apart = refl

pub others_kept : (setup : Setup) (rules : Rules) (tuple other : FiveTuple) (family user : ℕ) (request : Request) (state : State) → is_tuple tuple other ≡ false → relay_of tuple family (serves setup rules other user request state).state ≡ relay_of tuple family state
others_kept setup rules tuple other family user request state apart =
    serve_cases setup rules other user request state (λ s. relay_of tuple family s.state ≡ relay_of tuple family state) (λ _ _ _. refl) (λ _. refl) (λ _ _. others_fulfilled setup tuple other family user request state apart)

-- a request of another client
other_on : (setup : Setup) (rules : Rules) (tuple other : FiveTuple) (user number first : ℕ) (dest : Endpoint) (n : ℕ) (h : Happening) (since : List Happening) (owner : ℕ) (request : Request) (state after : State) → h.event ≡ asks other owner request → is_tuple tuple other ≡ false
    → state.clock ≤ after.clock → relay_of tuple dest.ip.family after ≡ relay_of tuple dest.ip.family state → OuterStep setup tuple user number first dest n since state → OuterStep setup tuple user number first dest n (h ∷ since) after
other_on setup rules tuple other user number first dest n h since owner request state after asked apart le same held =
    let back : is_tuple other tuple ≡ false = not_true (is_tuple other tuple) (λ e. differs tuple other apart (sym (tuple_same other tuple e))) in
    held_on setup tuple user number first dest n h since state after
    (record {
      calm = ap (is_ended user number) asked;
      lifetime = not_refresh tuple user dest.ip.family h (ap (is_refresh tuple user dest.ip.family) asked ∙ left_false (is_tuple other tuple && (user == owner)) (refreshes_of dest.ip.family request) (left_false (is_tuple other tuple) (user == owner) back));
      permits = λ p. let e : asks other owner request ≡ asks tuple user p.request = sym asked ∙ p.asked in let t : tuple ≡ other = cc in differs tuple other apart t;
      binds = λ p. let e : asks other owner request ≡ asks tuple user (bind p.channel p.peer) = sym asked ∙ p.binds.asked in let t : tuple ≡ other = cc in differs tuple other apart t;
    }) le same held

-- what is no request
data_on : (setup : Setup) (tuple : FiveTuple) (user number first : ℕ) (dest : Endpoint) (n : ℕ) (h : Happening) (since : List Happening) (state : State) → is_ended user number h.event ≡ false → is_refresh tuple user dest.ip.family h.event ≡ false
    → ((owner : ℕ) (request : Request) → h.event ≡ asks tuple owner request → ⊥) → OuterStep setup tuple user number first dest n since state → OuterStep setup tuple user number first dest n (h ∷ since) state
data_on setup tuple user number first dest n h since state calm quiet never held =
    held_on setup tuple user number first dest n h since state state (record { calm = calm; lifetime = not_refresh tuple user dest.ip.family h quiet; permits = λ p. never user p.request p.asked; binds = λ p. never user (bind p.channel p.peer) p.binds.asked }) (omega arith) refl held

-- the caller ends something: this, or it stays
ended_on : (setup : Setup) (tuple : FiveTuple) (user number first : ℕ) (dest : Endpoint) (n : ℕ) (h : Happening) (since : List Happening) (test : Relay → Bool) (state : State) → ((a : Relay) → a.user ≡ user → a.number ≡ number → is_ended user number h.event ≡ test a) → is_refresh tuple user dest.ip.family h.event ≡ false
    → ((owner : ℕ) (request : Request) → h.event ≡ asks tuple owner request → ⊥) → state.clock < EndAfter tuple user number first dest h since → OuterStep setup tuple user number first dest n since state → OuterStep setup tuple user number first dest n (h ∷ since) (without test state)
ended_on setup tuple user number first dest n h since test state same_end quiet never kept held =
    let rest = option_map_or (λ l. h.moment + seconds l) (refreshed_to tuple user dest.ip.family h) (end_of tuple user dest.ip.family number first since) in
    let calm : is_ended user number h.event ≡ false = not_true (is_ended user number h.event) (λ over.
    let none : EndAfter tuple user number first dest h since ≡ 0 = cond-true (is_ended user number h.event) 0 rest over in
    omega (arith, kept, none)) in
    held_on setup tuple user number first dest n h since state (without test state)
    (record { calm = calm; lifetime = not_refresh tuple user dest.ip.family h quiet; permits = λ p. never user p.request p.asked; binds = λ p. never user (bind p.channel p.peer) p.binds.asked }) (omega arith)
    (find_kept (is_for tuple dest.ip.family) (λ a. not (test a)) state.relays held.a held.found (ap not (sym (same_end held.a held.user_is held.number_is) ∙ calm)) ∙ sym held.found) held

-- ---- The step

pub clock_kept : (setup : Setup) (rules : Rules) (state : State) (event : Event) → state.clock ≤ (happens setup rules state event).state.clock
clock_kept setup rules state event = happens_keeps setup Anyone (λ s. state.clock ≤ s.clock) (later_kept setup state.clock) rules state event (by_anyone event) (omega arith)

asks_on : (setup : Setup) (rules : Rules) (tuple other : FiveTuple) (user number first : ℕ) (dest : Endpoint) (n : ℕ) (h : Happening) (since : List Happening) (owner : ℕ) (request : Request) (state : State) → state.clock ≤ n → h.moment ≡ state.clock → h.event ≡ asks other owner request
    → (own : Bool) → is_tuple tuple other ≡ own → OuterStep setup tuple user number first dest n since state → After setup tuple user number first dest n h since (serves setup rules other owner request state)
asks_on setup rules tuple other user number first dest n h since owner request state le moment asked true own held reply kept =
    let same = tuple_same tuple other own in
    subst (λ (t : FiveTuple). After setup tuple user number first dest n h since (serves setup rules t owner request state)) same
    (own_on setup rules tuple user number first dest n h since owner request state le moment (asked ∙ ap (λ (t : FiveTuple). asks t owner request) (sym same)) held) reply kept
asks_on setup rules tuple other user number first dest n h since owner request state le moment asked false own held reply kept =
    other_on setup rules tuple other user number first dest n h since owner request state (serves setup rules other owner request state).state asked own (clock_kept setup rules state (asks other owner request)) (others_kept setup rules tuple other dest.ip.family owner request state own) held

step_on : (setup : Setup) (tuple : FiveTuple) (user number first : ℕ) (dest : Endpoint) (n : ℕ) (since : List Happening) (now : ℕ) (rules : Rules) (event : Event) (state : State) → (at now state).clock ≤ n → OuterStep setup tuple user number first dest n since (at now state)
    → let h = happening setup state (record { now = now; rules = rules; event = event }) in
    (step setup rules state now event).state.clock < EndAfter tuple user number first dest h since → OuterStep setup tuple user number first dest n (h ∷ since) (step setup rules state now event).state
step_on setup tuple user number first dest n since now rules (asks other owner request) state le held kept =
    asks_on setup rules tuple other user number first dest n (happening setup state (record { now = now; rules = rules; event = asks other owner request })) since owner request (at now state) le refl refl (is_tuple tuple other) refl held refl kept
step_on setup tuple user number first dest n since now rules (sends other peer dont_fragment bytes) state le held kept =
    data_on setup tuple user number first dest n (happening setup state (record { now = now; rules = rules; event = sends other peer dont_fragment bytes })) since (at now state) refl refl (λ _ _ e. absurd cc) held
step_on setup tuple user number first dest n since now rules (sends_on other channel bytes) state le held kept =
    data_on setup tuple user number first dest n (happening setup state (record { now = now; rules = rules; event = sends_on other channel bytes })) since (at now state) refl refl (λ _ _ e. absurd cc) held
step_on setup tuple user number first dest n since now rules (arrives socket peer bytes) state le held kept =
    data_on setup tuple user number first dest n (happening setup state (record { now = now; rules = rules; event = arrives socket peer bytes })) since (at now state) refl refl (λ _ _ e. absurd cc) held
step_on setup tuple user number first dest n since now rules (bounces socket peer icmp) state le held kept =
    data_on setup tuple user number first dest n (happening setup state (record { now = now; rules = rules; event = bounces socket peer icmp })) since (at now state) refl refl (λ _ _ e. absurd cc) held
step_on setup tuple user number first dest n since now rules (ends socket) state le held kept =
    ended_on setup tuple user number first dest n (happening setup state (record { now = now; rules = rules; event = ends socket })) since (is_at socket) (at now state) (λ a u m. ap (λ (k : ℕ). k == socket) (sym m)) refl (λ _ _ e. absurd cc) kept held
step_on setup tuple user number first dest n since now rules (ends_user owner) state le held kept =
    ended_on setup tuple user number first dest n (happening setup state (record { now = now; rules = rules; event = ends_user owner })) since (is_users owner) (at now state) (λ a u m. ap (λ (k : ℕ). k == owner) (sym u)) refl (λ _ _ e. absurd cc) kept held
step_on setup tuple user number first dest n since now rules ticks state le held kept =
    data_on setup tuple user number first dest n (happening setup state (record { now = now; rules = rules; event = ticks })) since (at now state) refl refl (λ _ _ e. absurd cc) held

-- ---- The first state

-- who is given a number has it
given_some : (tuple : FiveTuple) (family number : ℕ) (all : List Relay) → SomeOf (λ g. (g.family ≡ family) × (g.number ≡ number)) (map given_of (filter (is_of tuple) all)) → SomeOf (λ a. (is_for tuple family a ≡ true) × (a.number ≡ number)) all
given_some tuple family number [] some = absurd some
given_some tuple family number (x ∷ all) some =
    cond_both (is_of tuple x) (x ∷ filter (is_of tuple) all) (filter (is_of tuple) all) (λ (l : List Relay). SomeOf (λ g. (g.family ≡ family) × (g.number ≡ number)) (map given_of l) → SomeOf (λ a. (is_for tuple family a ≡ true) × (a.number ≡ number)) (x ∷ all))
    (λ of s. elim s [
      | inl is ↦ inl (and_from (is_of tuple x) (x.family == family) of (eq-eqb x.family family is.0), is.1)
      | inr more ↦ inr (given_some tuple family number all more)
    ]) (λ _ s. inr (given_some tuple family number all s)) some

pub counted_some : {X : Type 0} (test : X → Bool) (xs : List X) → SomeOf (λ x. test x ≡ true) xs → 1 ≤ count_by test xs
counted_some test [] some = absurd some
counted_some test (x ∷ xs) (inl is) = let c : count_by test (x ∷ xs) ≡ 1 + count_by test xs = count_cons test x xs ∙ ap (λ (b : Bool). cond b 1 0 + count_by test xs) is in omega (arith, c)
counted_some test (x ∷ xs) (inr more) = let c = count_cons test x xs in let least = counted_some test xs more in omega (arith, c, least)

-- if at most one passes, what is found is the one
pub only_one : {X : Type 0} (P : X → Type 0) (test : X → Bool) (xs : List X) (a : X) → count_by test xs ≤ 1 → find test xs ≡ Some a → SomeOf (λ x. (test x ≡ true) × P x) xs → P a
only_one P test [] a one is some = absurd some
only_one P test (x ∷ xs) a one is (inl here) = let same : Some x ≡ Some a = sym (cond-true (test x) (Some x) (find test xs) here.0) ∙ is in let e : x ≡ a = cc in subst P e here.1
only_one P test (x ∷ xs) a one is (inr more) =
    let counted = count_cons test x xs in
    let least = counted_some test xs (some_map (λ y. (test y ≡ true) × P y) (λ y. test y ≡ true) (λ y b. b.0) xs more) in
    cond_both (test x) true false (λ (b : Bool). test x ≡ b → P a)
    (λ _ passes. absurd (let c : count_by test (x ∷ xs) ≡ 1 + count_by test xs = counted ∙ ap (λ (b : Bool). cond b 1 0 + count_by test xs) passes in omega (arith, one, c, least)))
    (λ _ fails. only_one P test xs a (let c : count_by test (x ∷ xs) ≡ 0 + count_by test xs = counted ∙ ap (λ (b : Bool). cond b 1 0 + count_by test xs) fails in omega (arith, one, c)) (sym (cond-false (test x) (Some x) (find test xs) fails) ∙ is) more)
    (same_cond (test x))

record IsOpened (tuple : FiveTuple) (user expires_at : ℕ) (a : Relay) : Type 0 where
  user_is : a.user ≡ user
  until_is : a.expires_at ≡ expires_at

-- what a client without an allocation has after its request is what was opened
opened_all : (setup : Setup) (tuple : FiveTuple) (user id expires_at : ℕ) (wants : List Want) (state : State) → state.clock < expires_at → list_any (is_of tuple) state.relays ≡ false
    → AllByRecursion (λ a. is_of tuple a ≡ true → IsOpened tuple user expires_at a) (opens setup tuple user id expires_at wants state).relays
opened_all setup tuple user id expires_at wants state soon free =
    opens_keep setup (λ s. AllByRecursion (λ a. is_of tuple a ≡ true → IsOpened tuple user expires_at a) s.relays) tuple user id expires_at
    (λ want offer s _ _ _ each. (λ _. record { user_is = refl; until_is = refl }, each)) wants state soon
    (each_map (λ a. is_of tuple a ≡ false) (λ a. is_of tuple a ≡ true → IsOpened tuple user expires_at a) (λ a isnt is. absurd (false≢true (sym isnt ∙ is))) state.relays (any_none (is_of tuple) state.relays free))

abbrev Begins : Setup → FiveTuple → (user number clock granted : ℕ) → Endpoint → (n : ℕ) → List Given → List Missing → Step → Type 0
Begins setup tuple user number clock granted dest n given missing s = s.output ≡ answers tuple (allocated given granted missing) → SomeOf (λ g. (g.family ≡ dest.ip.family) × (g.number ≡ number)) given → IsSingle s.state
    → OuterStep setup tuple user number (clock + seconds granted) dest n [] s.state

fulfil_begins : (setup : Setup) (rules : Rules) (tuple : FiveTuple) (user id number granted : ℕ) (dest : Endpoint) (n : ℕ) (lifetime : Option ℕ) (wants : List Want) (given : List Given) (missing : List Missing) (state : State) → list_any (is_of tuple) state.relays ≡ false
    → Begins setup tuple user number state.clock granted dest n given missing (fulfils setup tuple user (allocate id lifetime wants) state)
fulfil_begins setup rules tuple user id number granted dest n lifetime wants given missing state free reply has single =
    let g = granted_for lifetime setup.greatest_lifetime in
    let expires_at = state.clock + seconds g in
    let after = opens setup tuple user id expires_at wants state in
    let e : answers tuple (allocated (given_to tuple after) g (missing_to setup tuple wants after)) ≡ answers tuple (allocated given granted missing) = reply in
    let given_is : given_to tuple after ≡ given = cc in
    let granted_is : g ≡ granted = cc in
    let some = given_some tuple dest.ip.family number after.relays (subst (λ (l : List Given). SomeOf (λ x. (x.family ≡ dest.ip.family) × (x.number ≡ number)) l) (sym given_is) has) in
    let here = some_found (is_for tuple dest.ip.family) after.relays (some_any (is_for tuple dest.ip.family) after.relays (some_map (λ a. (is_for tuple dest.ip.family a ≡ true) × (a.number ≡ number)) (λ a. is_for tuple dest.ip.family a ≡ true) (λ a b. b.0) after.relays some)) in
    let a = here.0 in
    let of = (and_parts (is_of tuple a) (a.family == dest.ip.family) (has_found tuple dest.ip.family after a here.1)).0 in
    let opened_is = found_is (λ b. is_of tuple b ≡ true → IsOpened tuple user expires_at b) (is_for tuple dest.ip.family) after.relays a here.1 (opened_all setup tuple user id expires_at wants state (later state.clock g (granted_least lifetime setup.greatest_lifetime)) free) of in
    record {
      a = a;
      found = here.1;
      user_is = opened_is.user_is;
      number_is = only_one (λ b. b.number ≡ number) (is_for tuple dest.ip.family) after.relays a (single tuple dest.ip.family) here.1 some;
      ends = le_of_eq (ap (λ (k : ℕ). state.clock + seconds k) (sym granted_is) ∙ sym opened_is.until_is);
      permits = λ some_permits. absurd some_permits;
      soon = λ some_permits. absurd some_permits;
      permits_long = λ _ some_binds. absurd some_binds;
      long_soon = λ some_binds. absurd some_binds;
      bound = λ channel some_binds. absurd some_binds;
      bound_soon = λ channel some_binds. absurd some_binds;
    }

some_within : (P : Happening → Type 0) (since : List Happening) (h : Happening) (before : List Happening) → P h → SomeOf P (since ++ h ∷ before)
some_within P [] h before is = inl is
some_within P (g ∷ since) h before is = inr (some_within P since h before is)

-- what is kept was given
kept_given : (setup : Setup) (hs : List Happening) (a : Relay) → IsBacked setup hs a → IsGiven a.number hs
kept_given setup hs a b =
    subst (IsGiven a.number) (sym b.split)
    (some_within (λ h. Gives a.number h.output) b.since b.opening b.before
    (record { tuple = a.tuple; given = b.opens.given; lifetime = b.opens.granted; missing = b.opens.missing; answered = b.opens.answered; has = some_map (λ g. (g.family ≡ a.family) × (g.number ≡ a.number)) (λ g. g.number ≡ a.number) (λ g both. both.1) b.opens.given b.opens.has }))

-- so a number that is first given now isn't kept
not_again : (setup : Setup) (tuple : FiveTuple) (family number : ℕ) (hs : List Happening) (all : List Relay) → AllByRecursion (IsBacked setup hs) all → (IsGiven number hs → ⊥) → SomeOf (λ a. (is_for tuple family a ≡ true) × (a.number ≡ number)) all → ⊥
not_again setup tuple family number hs [] each never some = some
not_again setup tuple family number hs (a ∷ all) each never (inl here) = never (subst (λ (k : ℕ). IsGiven k hs) here.1 (kept_given setup hs a each.0))
not_again setup tuple family number hs (a ∷ all) each never (inr more) = not_again setup tuple family number hs all each.1 never more

opens_held : (setup : Setup) (rules : Rules) (hs : List Happening) (tuple : FiveTuple) (user id number granted : ℕ) (dest : Endpoint) (n : ℕ) (lifetime : Option ℕ) (wants : List Want) (given : List Given) (missing : List Missing) (state : State)
    → AllByRecursion (IsBacked setup hs) state.relays → (IsGiven number hs → ⊥) → Begins setup tuple user number state.clock granted dest n given missing (serves setup rules tuple user (allocate id lifetime wants) state)
opens_held setup rules hs tuple user id number granted dest n lifetime wants given missing state each never =
    serve_cases setup rules tuple user (allocate id lifetime wants) state (Begins setup tuple user number state.clock granted dest n given missing)
    (λ code _ _ reply. absurd cc)
    (λ again reply has _.
    let e : answers tuple (allocated (given_to tuple state) (left_of tuple state) (missing_to setup tuple wants state)) ≡ answers tuple (allocated given granted missing) = reply in
    let given_is : given_to tuple state ≡ given = cc in
    absurd (not_again setup tuple dest.ip.family number hs state.relays each never (given_some tuple dest.ip.family number state.relays (subst (λ (l : List Given). SomeOf (λ x. (x.family ≡ dest.ip.family) × (x.number ≡ number)) l) (sym given_is) has))))
    (λ _ fit. fulfil_begins setup rules tuple user id number granted dest n lifetime wants given missing state (row_none (has_any tuple state) 437 _ fit).0)

begins : (setup : Setup) (events : List Timed) (tuple : FiveTuple) (user number : ℕ) (dest : Endpoint) (n now : ℕ) (rules : Rules) (event : Event) → (o : Opens tuple user dest.ip.family number (happening setup (run setup events) (record { now = now; rules = rules; event = event }))) → (IsGiven number (history setup events) → ⊥)
    → OuterStep setup tuple user number ((at now (run setup events)).clock + seconds o.granted) dest n [] (step setup rules (run setup events) now event).state
begins setup events tuple user number dest n now rules event o never =
    let state = run setup events in
    let s = at now state in
    subst (λ (e : Event). (happens setup rules s e).output ≡ answers tuple (allocated o.given o.granted o.missing) → IsSingle (happens setup rules s e).state → OuterStep setup tuple user number (s.clock + seconds o.granted) dest n [] (happens setup rules s e).state) (sym o.asked)
    (λ reply single. opens_held setup rules (history setup events) tuple user o.id number o.granted dest n o.lifetime o.wants o.given o.missing s (each_filter (IsBacked setup (history setup events)) (is_live (max state.clock now)) state.relays (run_backed setup events)) never reply o.has single)
    o.answered (run_single setup (record { now = now; rules = rules; event = event } ∷ events))

-- ---- Runs

pub run_held : (setup : Setup) (tuple : FiveTuple) (user number : ℕ) (dest : Endpoint) (n : ℕ) (events : List Timed) (since : List Happening) (opening : Happening) (before : List Happening)
    → history setup events ≡ since ++ opening ∷ before → (o : Opens tuple user dest.ip.family number opening) → (IsGiven number before → ⊥) → (run setup events).clock ≤ n → Lasted tuple user dest.ip.family number (opening.moment + seconds o.granted) since
    → (run setup events).clock < end_of tuple user dest.ip.family number (opening.moment + seconds o.granted) since → OuterStep setup tuple user number (opening.moment + seconds o.granted) dest n since (run setup events)
run_held setup tuple user number dest n [] [] opening before split o never le lasted kept = absurd cc
run_held setup tuple user number dest n [] (h ∷ since) opening before split o never le lasted kept = absurd cc
run_held setup tuple user number dest n (t ∷ events) [] opening before split o never le lasted kept =
    let same : happening setup (run setup events) t ≡ opening = cc in
    let rest : history setup events ≡ before = cc in
    subst (λ (h : Happening). (p : Opens tuple user dest.ip.family number h) → OuterStep setup tuple user number (h.moment + seconds p.granted) dest n [] (run setup (t ∷ events))) same
    (λ p. begins setup events tuple user number dest n t.now t.rules t.event p (subst (λ (l : List Happening). IsGiven number l → ⊥) (sym rest) never)) o
run_held setup tuple user number dest n (t ∷ events) (h ∷ since) opening before split o never le lasted kept =
    let same : happening setup (run setup events) t ≡ h = cc in
    let rest : history setup events ≡ since ++ opening ∷ before = cc in
    let first = opening.moment + seconds o.granted in
    let m = max (run setup events).clock t.now in
    let soon : m < end_of tuple user dest.ip.family number first since = subst (λ (g : Happening). g.moment < end_of tuple user dest.ip.family number first since) (sym same) lasted.0 in
    let more = clock_kept setup t.rules (at t.now (run setup events)) t.event in
    let held = run_held setup tuple user number dest n events since opening before rest o never (omega (arith, more, le)) lasted.1 (omega (arith, soon)) in
    subst (λ (g : Happening). OuterStep setup tuple user number first dest n (g ∷ since) (run setup (t ∷ events))) same
    (step_on setup tuple user number first dest n since t.now t.rules t.event (run setup events) (omega (arith, more, le)) (held_at setup tuple user number first dest n since (run setup events) t.now soon held)
    (subst (λ (g : Happening). (run setup (t ∷ events)).clock < end_of tuple user dest.ip.family number first (g ∷ since)) (sym same) kept))
