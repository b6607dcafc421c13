-- Numbers are given once and closed once.
use Rattle.std.proofs.Common.{◌≡◌, ℕ, ◌+◌, ◌≤◌, inl, inr, Bool, true, false, not, cond, List, [], ◌∷◌, ◌++◌, map, filter, Option, refl, sym, ap, ◌∙◌, subst, eqb-true, eq-eqb, zero-le, arith}
use Rattle.std.specs.List.{AllByRecursion}
use Rattle.std.specs.Option.{option_map_or}
use Rattle.std.specs.Prelude.{◌==◌, ◌&&◌, max, count_by}
use Rattle.std.proofs.lemmas.Bool.{cond_both, false≢true}
use Rattle.stun_endpoints.specs.declared.endpoints.Endpoint.{Endpoint}
use Rattle.stun_endpoints.specs.declared.endpoints.FiveTuple.{FiveTuple}
use Rattle.turn_machine.specs.Lists.{SomeOf, times}
use Rattle.turn_machine.specs.Relays.{seconds, Relay, Setup, Rules, State, is_live, is_of, is_users, is_owned, is_at, bound_for}
use Rattle.turn_machine.specs.Events.{Offer, Want, Given, Request, allocate, unfit_allocate, refresh, permit, bind, unfit, Event, asks, sends, sends_on, arrives, bounces, ends, ends_user, ticks, allocated, refreshed, Output, answers, nothing}
use Rattle.turn_machine.specs.Times.{at, numbers, over_at, granted_for, refreshed_for, left_of}
use Rattle.turn_machine.specs.Opening.{number_for, opened, with_relay, opens_one, opens, given_to, missing_to, allocation_answer}
use Rattle.turn_machine.specs.Data.{received, relayed}
use Rattle.turn_machine.specs.Steps.{Step, changed, without, closing, is_wanted, lasting, permitting, binding, keeping, fulfils, is_again, answers_again, happens, step}
use Rattle.turn_machine.specs.Runs.{Timed, run, happening, history}
use Rattle.turn_machine.specs.Numbers.{all_closed, kept_times, Gives, IsGiven}
use Rattle.turn_machine.specs.Granting.{given_of}
use Rattle.turn_machine.proofs.ListsLemmas.{count_cons, count_map, count_parts, count_append, count_filter}
use Rattle.turn_machine.proofs.CasesLemmas.{serve_cases}
use Rattle.turn_machine.proofs.DataLemmas.{is_answer, relayed_quiet}
use Rattle.turn_machine.proofs.KeepingLemmas.{open_cases}
use Rattle.turn_machine.proofs.KeptLemmas.{his_same, lasting_same, binding_same}
use Rattle.turn_machine.proofs.GrantedLemmas.{find_none, not_true}

-- kept or closed
abbrev pub either_times : (number : ℕ) → State → (closed : List ℕ) → ℕ
either_times n state closed = kept_times n state + times n closed

-- at most once; and not yet, if the number is still to come
pub record IsOnce (least_of : ℕ → ℕ) (state : State) (closed : List ℕ) : Type 0 where
  pub once : (n : ℕ) → either_times n state closed ≤ 1
  pub not_yet : (n : ℕ) → state.next ≤ n → either_times n state closed ≡ 0
  pub least : (n : ℕ) → least_of n ≤ either_times n state closed

-- ---- Nothing is lost: what is no longer kept is closed

-- from one state to another, with what is closed
pub record Saves (old new : State) (closes : List ℕ) : Type 0 where
  pub same : (n : ℕ) → kept_times n new + times n closes ≡ kept_times n old
  pub next : new.next ≡ old.next

numbers_times : (n : ℕ) (all : List Relay) → times n (numbers all) ≡ count_by (is_at n) all
numbers_times n all = count_map (λ m. m == n) (is_at n) (λ a. a.number) (λ a. refl) all

parted : (test : Relay → Bool) (state : State) (n : ℕ) → kept_times n (without test state) + times n (numbers (filter test state.relays)) ≡ kept_times n state
parted test state n =
    let parts = count_parts (is_at n) test state.relays in
    let closed = numbers_times n (filter test state.relays) in
    omega (arith, parts, closed)

saves_without : (test : Relay → Bool) (output : Output) (state : State) → Saves state (closing test output state).state (closing test output state).closes
saves_without test output state = record { same = λ n. parted test state n; next = refl }

saves_changed : (tuple : FiveTuple) (user : ℕ) (change : Relay → Relay) (state : State) → ((a : Relay) → (change a).number ≡ a.number) → Saves state (changed tuple user change state) []
saves_changed tuple user change state same = record {
  same = λ n.
      let e = count_map (is_at n) (is_at n) (λ a. cond (is_owned tuple user a) (change a) a) (λ a. ap (λ (m : ℕ). m == n) (his_same (λ b. b.number) tuple user change same a)) state.relays in
      omega (arith, e);
  next = refl;
}

pub kept_over : (live : Relay → Bool) (all : List Relay) (n : ℕ) → count_by (is_at n) (filter live all) + times n (numbers (filter (λ a. not (live a)) all)) ≡ count_by (is_at n) all
kept_over live all n =
    let parts = count_parts (is_at n) live all in
    let closed = numbers_times n (filter (λ a. not (live a)) all) in
    omega (arith, parts, closed)

saves_time : (now : ℕ) (state : State) → Saves state (at now state) (over_at now state)
saves_time now state = record { same = λ n. kept_over (is_live (max state.clock now)) state.relays n; next = refl }

-- ---- Once

once_saved : (k : ℕ → ℕ) (old new : State) (closes closed : List ℕ) → Saves old new closes → IsOnce k old closed → IsOnce k new (closes ++ closed)
once_saved k old new closes closed saves is = record {
  once = λ n. let a = saves.same n in let b = count_append (λ m. m == n) closes closed in let c = is.once n in omega (arith, a, b, c);
  not_yet = λ n le. let a = saves.same n in let b = count_append (λ m. m == n) closes closed in let c = is.not_yet n (subst (λ (m : ℕ). m ≤ n) saves.next le) in omega (arith, a, b, c);
  least = λ n. let a = saves.same n in let b = count_append (λ m. m == n) closes closed in let c = is.least n in omega (arith, a, b, c);
}

at_once : (b : Bool) (rest closed : ℕ) → rest + closed ≤ 1 → (b ≡ true → rest + closed ≡ 0) → (cond b 1 0 + rest) + closed ≤ 1
at_once true rest closed le none = let e = none refl in omega (arith, e)
at_once false rest closed le none = omega (arith, le)

at_never : (b : Bool) (rest closed : ℕ) → (b ≡ true → ⊥) → rest + closed ≡ 0 → (cond b 1 0 + rest) + closed ≡ 0
at_never true rest closed never e = absurd (never refl)
at_never false rest closed never e = omega (arith, e)

once_opened : (k : ℕ → ℕ) (tuple : FiveTuple) (user id expires_at family : ℕ) (state : State) (offer : Offer) (closed : List ℕ) → IsOnce k state closed → IsOnce k (with_relay tuple user id expires_at family state offer) closed
once_opened k tuple user id expires_at family state offer closed is =
    let a = opened tuple user id expires_at family state offer in
    let m = number_for state offer in record {
      once = λ n. subst (λ (k : ℕ). k + times n closed ≤ 1) (sym (count_cons (is_at n) a state.relays))
          (at_once (m == n) (kept_times n state) (times n closed) (is.once n) (λ same. is.not_yet n (let e = eqb-true m n same in omega (arith, e))));
      not_yet = λ n le. subst (λ (k : ℕ). k + times n closed ≡ 0) (sym (count_cons (is_at n) a state.relays))
          (at_never (m == n) (kept_times n state) (times n closed) (λ same. let e = eqb-true m n same in omega (arith, e, le)) (is.not_yet n (omega (arith, le))));
      least = λ n. let e = count_cons (is_at n) a state.relays in let l = is.least n in omega (arith, e, l);
    }

opens_once : (k : ℕ → ℕ) (setup : Setup) (tuple : FiveTuple) (user id expires_at : ℕ) (wants : List Want) (state : State) (closed : List ℕ) → IsOnce k state closed → IsOnce k (opens setup tuple user id expires_at wants state) closed
opens_once k setup tuple user id expires_at [] state closed is = is
opens_once k setup tuple user id expires_at (want ∷ wants) state closed is =
    opens_once k setup tuple user id expires_at wants (opens_one setup tuple user id expires_at want state) closed
    (open_cases setup (λ s. IsOnce k s closed) tuple user id expires_at want state is (λ offer _ _. once_opened k tuple user id expires_at want.family state offer closed is))

abbrev StepOnce : (k : ℕ → ℕ) (closed : List ℕ) → Step → Type 0
StepOnce k closed s = IsOnce k s.state (s.closes ++ closed)

fulfil_once : (k : ℕ → ℕ) (setup : Setup) (tuple : FiveTuple) (user : ℕ) (request : Request) (state : State) (closed : List ℕ) → IsOnce k state closed → StepOnce k closed (fulfils setup tuple user request state)
fulfil_once k setup tuple user (allocate id lifetime wants) state closed is = opens_once k setup tuple user id (state.clock + seconds (granted_for lifetime setup.greatest_lifetime)) wants state closed is
fulfil_once k setup tuple user (unfit_allocate code) state closed is = is
fulfil_once k setup tuple user (refresh family lifetime) state closed is =
    let granted = refreshed_for lifetime setup.greatest_lifetime in
    let ended = λ (a : Relay). is_owned tuple user a && is_wanted family a in
    let after = changed tuple user (lasting family (state.clock + seconds granted)) state in
    cond_both (granted == 0) (closing ended (answers tuple (refreshed granted)) state) (keeping after (answers tuple (refreshed granted))) (StepOnce k closed)
    (λ _. once_saved k state (without ended state) (numbers (filter ended state.relays)) closed (saves_without ended (answers tuple (refreshed granted)) state) is)
    (λ _. once_saved k state after [] closed (saves_changed tuple user (lasting family (state.clock + seconds granted)) state (lasting_same (λ b. b.number) family (state.clock + seconds granted) (λ _. refl))) is)
fulfil_once k setup tuple user (permit peers) state closed is =
    once_saved k state (changed tuple user (permitting state.clock peers) state) [] closed (saves_changed tuple user (permitting state.clock peers) state (λ _. refl)) is
fulfil_once k setup tuple user (bind number peer) state closed is =
    once_saved k state (changed tuple user (binding (bound_for setup) state.clock number peer) state) [] closed (saves_changed tuple user (binding (bound_for setup) state.clock number peer) state (binding_same (λ b. b.number) (bound_for setup) state.clock number peer (λ _. refl))) is
fulfil_once k setup tuple user (unfit code) state closed is = is

happens_once : (k : ℕ → ℕ) (setup : Setup) (rules : Rules) (state : State) (event : Event) (closed : List ℕ) → IsOnce k state closed → StepOnce k closed (happens setup rules state event)
happens_once k setup rules state (asks tuple user request) closed is =
    serve_cases setup rules tuple user request state (StepOnce k closed) (λ _ _ _. is) (λ _. is) (λ _ _. fulfil_once k setup tuple user request state closed is)
happens_once k setup rules state (ends number) closed is = once_saved k state (without (is_at number) state) (numbers (filter (is_at number) state.relays)) closed (saves_without (is_at number) nothing state) is
happens_once k setup rules state (ends_user user) closed is = once_saved k state (without (is_users user) state) (numbers (filter (is_users user) state.relays)) closed (saves_without (is_users user) nothing state) is
happens_once k setup rules state (sends tuple peer dont_fragment bytes) closed is = is
happens_once k setup rules state (sends_on tuple number bytes) closed is = is
happens_once k setup rules state (arrives number peer bytes) closed is = is
happens_once k setup rules state (bounces number peer icmp) closed is = is
happens_once k setup rules state ticks closed is = is

swapped : (n : ℕ) (first second closed : List ℕ) → times n ((first ++ second) ++ closed) ≡ times n (second ++ (first ++ closed))
swapped n first second closed =
    let a = count_append (λ m. m == n) (first ++ second) closed in
    let b = count_append (λ m. m == n) first second in
    let c = count_append (λ m. m == n) second (first ++ closed) in
    let d = count_append (λ m. m == n) first closed in
    omega (arith, a, b, c, d)

moved : (k : ℕ → ℕ) (state : State) (first second closed : List ℕ) → IsOnce k state (second ++ (first ++ closed)) → IsOnce k state ((first ++ second) ++ closed)
moved k state first second closed is = record {
  once = λ n. let i = is.once n in let e = swapped n first second closed in omega (arith, i, e);
  not_yet = λ n le. let i = is.not_yet n le in let e = swapped n first second closed in omega (arith, i, e);
  least = λ n. let i = is.least n in let e = swapped n first second closed in omega (arith, i, e);
}

-- what was so often before, so often at least
abbrev pub Before : (state : State) (closed : List ℕ) → ℕ → ℕ
Before state closed n = either_times n state closed

abbrev pub Nought : ℕ → ℕ
Nought n = 0

pub step_once : (k : ℕ → ℕ) (setup : Setup) (rules : Rules) (state : State) (now : ℕ) (event : Event) (closed : List ℕ) → IsOnce k state closed → IsOnce (Before state closed) (step setup rules state now event).state ((step setup rules state now event).closes ++ closed)
step_once k setup rules state now event closed is =
    let s = happens setup rules (at now state) event in
    let here : IsOnce (Before state closed) state closed = record { once = is.once; not_yet = is.not_yet; least = λ n. omega arith } in
    moved (Before state closed) s.state (over_at now state) s.closes closed
    (happens_once (Before state closed) setup rules (at now state) event (over_at now state ++ closed) (once_saved (Before state closed) state (at now state) (over_at now state) closed (saves_time now state) here))

pub run_once : (setup : Setup) (events : List Timed) → IsOnce Nought (run setup events) (all_closed (history setup events))
run_once setup [] = record { once = λ n. zero-le; not_yet = λ n le. refl; least = λ n. zero-le }
run_once setup (t ∷ events) =
    let now = step_once Nought setup t.rules (run setup events) t.now t.event (all_closed (history setup events)) (run_once setup events) in
    record { once = now.once; not_yet = now.not_yet; least = λ n. zero-le }

-- ---- What is given is kept

one_at : (b : Bool) (k : ℕ) → b ≡ true → 1 ≤ cond b 1 0 + k
one_at true k is = omega arith
one_at false k is = absurd (false≢true is)

given_kept : (n : ℕ) (tuple : FiveTuple) (all : List Relay) → SomeOf (λ g. g.number ≡ n) (map given_of (filter (is_of tuple) all)) → 1 ≤ count_by (is_at n) all
given_kept n tuple [] some = absurd some
given_kept n tuple (a ∷ all) some =
    let here = count_cons (is_at n) a all in
    cond_both (is_of tuple a) (a ∷ filter (is_of tuple) all) (filter (is_of tuple) all) (λ (l : List Relay). SomeOf (λ g. g.number ≡ n) (map given_of l) → 1 ≤ count_by (is_at n) (a ∷ all))
    (λ _ s. elim s [
      | inl is ↦ subst (λ (k : ℕ). 1 ≤ k) (sym here) (one_at (a.number == n) (count_by (is_at n) all) (eq-eqb a.number n is))
      | inr others ↦ let more = given_kept n tuple all others in omega (arith, here, more)
    ]) (λ _ s. let more = given_kept n tuple all s in omega (arith, here, more)) some

abbrev KeepsGiven : (n : ℕ) → Step → Type 0
KeepsGiven n s = Gives n s.output → 1 ≤ kept_times n s.state

answer_kept : (n : ℕ) (setup : Setup) (tuple : FiveTuple) (lifetime : ℕ) (wants : List Want) (state : State) → Gives n (answers tuple (allocation_answer setup tuple lifetime wants state)) → 1 ≤ kept_times n state
answer_kept n setup tuple lifetime wants state g =
    let answered : answers tuple (allocated (given_to tuple state) lifetime (missing_to setup tuple wants state)) ≡ answers g.tuple (allocated g.given g.lifetime g.missing) = g.answered in
    let same : given_to tuple state ≡ g.given = cc in
    given_kept n tuple state.relays (subst (λ (l : List Given). SomeOf (λ x. x.number ≡ n) l) (sym same) g.has)

again_given : (n : ℕ) (setup : Setup) (tuple : FiveTuple) (user : ℕ) (request : Request) (state : State) → is_again tuple user request state ≡ true → Gives n (answers_again setup tuple request state) → 1 ≤ kept_times n state
again_given n setup tuple user (allocate id lifetime wants) state is g = answer_kept n setup tuple (left_of tuple state) wants state g
again_given n setup tuple user (unfit_allocate code) state is g = absurd (false≢true is)
again_given n setup tuple user (refresh family lifetime) state is g = absurd (false≢true is)
again_given n setup tuple user (permit peers) state is g = absurd (false≢true is)
again_given n setup tuple user (bind number peer) state is g = absurd (false≢true is)
again_given n setup tuple user (unfit code) state is g = absurd (false≢true is)

fulfil_given : (n : ℕ) (setup : Setup) (tuple : FiveTuple) (user : ℕ) (request : Request) (state : State) → KeepsGiven n (fulfils setup tuple user request state)
fulfil_given n setup tuple user (allocate id lifetime wants) state g =
    let granted = granted_for lifetime setup.greatest_lifetime in
    answer_kept n setup tuple granted wants (opens setup tuple user id (state.clock + seconds granted) wants state) g
fulfil_given n setup tuple user (unfit_allocate code) state g = let e = g.answered in absurd cc
fulfil_given n setup tuple user (refresh family lifetime) state g =
    let granted = refreshed_for lifetime setup.greatest_lifetime in
    cond_both (granted == 0) (closing (λ a. is_owned tuple user a && is_wanted family a) (answers tuple (refreshed granted)) state)
    (keeping (changed tuple user (lasting family (state.clock + seconds granted)) state) (answers tuple (refreshed granted)))
    (KeepsGiven n) (λ _ h. let e = h.answered in absurd cc) (λ _ h. let e = h.answered in absurd cc) g
fulfil_given n setup tuple user (permit peers) state g = let e = g.answered in absurd cc
fulfil_given n setup tuple user (bind number peer) state g = let e = g.answered in absurd cc
fulfil_given n setup tuple user (unfit code) state g = let e = g.answered in absurd cc

no_answer : (n : ℕ) (output : Output) → is_answer output ≡ false → Gives n output → ⊥
no_answer n output quiet g = false≢true (sym quiet ∙ ap is_answer g.answered)

happens_given : (n : ℕ) (setup : Setup) (rules : Rules) (state : State) (event : Event) → KeepsGiven n (happens setup rules state event)
happens_given n setup rules state (asks tuple user request) g =
    serve_cases setup rules tuple user request state (KeepsGiven n) (λ _ _ _ g. let e = g.answered in absurd cc) (λ again g. again_given n setup tuple user request state again g) (λ _ _. fulfil_given n setup tuple user request state) g
happens_given n setup rules state (ends number) g = absurd (no_answer n nothing refl g)
happens_given n setup rules state (ends_user user) g = absurd (no_answer n nothing refl g)
happens_given n setup rules state (sends tuple peer dont_fragment bytes) g = absurd (no_answer n (relayed setup rules state (sends tuple peer dont_fragment bytes)) (relayed_quiet setup rules state (sends tuple peer dont_fragment bytes)) g)
happens_given n setup rules state (sends_on tuple number bytes) g = absurd (no_answer n (relayed setup rules state (sends_on tuple number bytes)) (relayed_quiet setup rules state (sends_on tuple number bytes)) g)
happens_given n setup rules state (arrives number peer bytes) g = absurd (no_answer n (relayed setup rules state (arrives number peer bytes)) (relayed_quiet setup rules state (arrives number peer bytes)) g)
happens_given n setup rules state (bounces number peer icmp) g = absurd (no_answer n (relayed setup rules state (bounces number peer icmp)) (relayed_quiet setup rules state (bounces number peer icmp)) g)
happens_given n setup rules state ticks g = absurd (no_answer n nothing refl g)

pub run_given : (setup : Setup) (events : List Timed) (n : ℕ) → IsGiven n (history setup events) → kept_times n (run setup events) + times n (all_closed (history setup events)) ≡ 1
run_given setup [] n some = absurd some
run_given setup (t ∷ events) n (inl g) =
    let least = happens_given n setup t.rules (at t.now (run setup events)) t.event g in
    let most = (run_once setup (t ∷ events)).once n in
    omega (arith, least, most)
run_given setup (t ∷ events) n (inr more) =
    let before = run_given setup events n more in
    let now = step_once Nought setup t.rules (run setup events) t.now t.event (all_closed (history setup events)) (run_once setup events) in
    let least = now.least n in
    let most = now.once n in
    omega (arith, before, least, most)

-- a number that is given again is that of the allocation that has it
pub given_again : (setup : Setup) (events : List Timed) (t : Timed) (n : ℕ) → IsGiven n (history setup events) → Gives n (happening setup (run setup events) t).output → kept_times n (run setup events) ≡ 1
given_again setup events t n before g =
    let old = run_given setup events n before in
    let least = happens_given n setup t.rules (at t.now (run setup events)) t.event g in
    let now = step_once Nought setup t.rules (run setup events) t.now t.event (all_closed (history setup events)) (run_once setup events) in
    let most = now.once n in
    let all = count_append (λ m. m == n) (step setup t.rules (run setup events) t.now t.event).closes (all_closed (history setup events)) in
    omega (arith, old, least, most, all)

-- ---- To a socket that was closed nothing comes

none_at : (n : ℕ) (all : List Relay) → count_by (is_at n) all ≡ 0 → AllByRecursion (λ a. is_at n a ≡ false) all
none_at n [] e = tt
none_at n (a ∷ all) e =
    let here = count_cons (is_at n) a all in (
      not_true (is_at n a) (λ is. let one = one_at (is_at n a) (count_by (is_at n) all) is in omega (arith, here, e, one)),
      none_at n all (omega (arith, here, e)),
    )

pub late_dropped : (setup : Setup) (events : List Timed) (now : ℕ) (rules : Rules) (n : ℕ) (peer : Endpoint) (bytes : List ℕ) → 1 ≤ times n (all_closed (history setup events)) → (step setup rules (run setup events) now (arrives n peer bytes)).output ≡ nothing
late_dropped setup events now rules n peer bytes closed =
    let state = run setup events in
    let s = at now state in
    let once = (run_once setup events).once n in
    let fewer = count_filter (is_at n) (is_live (max state.clock now)) state.relays in
    let none : count_by (is_at n) s.relays ≡ 0 = omega (arith, once, fewer, closed) in
    ap (λ (o : Option Relay). option_map_or (received rules s.clock peer bytes) o nothing) (find_none (is_at n) s.relays (none_at n s.relays none))
