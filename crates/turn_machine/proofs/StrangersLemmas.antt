-- A stranger's datagram leaves no trace.
use Rattle.turn_machine.proofs.GrantingLemmas.{filter_none}
use Rattle.std.proofs.Common.{◌≡◌, ℕ, ◌+◌, ◌≤◌, Bool, true, false, cond, List, [], ◌∷◌, ◌++◌, filter, find, Option, refl, sym, ap, ◌∙◌, ltb-false, arith, ◌<◌, not}
use Rattle.std.specs.List.{AllByRecursion, list_any}
use Rattle.std.specs.Option.{option_map_or}
use Rattle.std.specs.Prelude.{◌==◌, max, count_by}
use Rattle.std.proofs.lemmas.Bool.{cond_both, cond-false, false≢true, le-ltb, lt-ltb, cond-true}
use Rattle.turn_machine.specs.Lists.{times}
use Rattle.turn_machine.specs.Relays.{Relay, Setup, Rules, State, is_live, is_of, is_for, is_at, is_channel}
use Rattle.turn_machine.specs.Events.{Event, asks, sends, sends_on, arrives, bounces, ends, ends_user, ticks, Output, nothing}
use Rattle.turn_machine.specs.Times.{at, over_at, numbers}
use Rattle.turn_machine.specs.Data.{sent, sent_on, has_channel, received, bounced}
use Rattle.turn_machine.specs.Steps.{Step, happens, step}
use Rattle.turn_machine.specs.Runs.{Timed, Happening, run, happening, history}
use Rattle.turn_machine.specs.Numbers.{all_closed}
use Rattle.turn_machine.specs.Strangers.{is_datagram, IsQuiet, IsForgotten}
use Rattle.turn_machine.proofs.ListsLemmas.{each_map, any_none, left_false, count_append}
use Rattle.turn_machine.proofs.GrantedLemmas.{find_none}
use Rattle.turn_machine.proofs.NumbersLemmas.{kept_over}

pub unchanged : (setup : Setup) (rules : Rules) (state : State) (now : ℕ) (event : Event) → is_datagram event ≡ true → (step setup rules state now event).state ≡ at now state
unchanged setup rules state now (asks tuple user request) is = absurd (false≢true is)
unchanged setup rules state now (sends tuple peer dont_fragment bytes) is = refl
unchanged setup rules state now (sends_on tuple number bytes) is = refl
unchanged setup rules state now (arrives number peer bytes) is = refl
unchanged setup rules state now (bounces number peer icmp) is = refl
unchanged setup rules state now (ends number) is = absurd (false≢true is)
unchanged setup rules state now (ends_user user) is = absurd (false≢true is)
unchanged setup rules state now ticks is = absurd (false≢true is)

none_of : (f : Relay → Output) (which test : Relay → Bool) (all : List Relay) → ((a : Relay) → test a ≡ false → which a ≡ false) → list_any test all ≡ false → option_map_or f (find which all) nothing ≡ nothing
none_of f which test all less none = ap (λ (o : Option Relay). option_map_or f o nothing) (find_none which all (each_map (λ a. test a ≡ false) (λ a. which a ≡ false) less all (any_none test all none)))

pub quiet : (setup : Setup) (rules : Rules) (state : State) (now : ℕ) (event : Event) → is_datagram event ≡ true → IsQuiet setup rules state now event
quiet setup rules state now (asks tuple user request) is none = absurd (false≢true is)
quiet setup rules state now (sends tuple peer dont_fragment bytes) is none =
    let s = at now state in
    none_of (sent setup rules s.clock peer dont_fragment bytes) (is_for tuple peer.ip.family) (is_of tuple) s.relays (λ a off. left_false (is_of tuple a) (a.family == peer.ip.family) off) none
quiet setup rules state now (sends_on tuple number bytes) is none =
    let s = at now state in
    none_of (sent_on rules s.clock number bytes) (has_channel s.clock tuple number) (is_of tuple) s.relays (λ a off. left_false (is_of tuple a) (list_any (is_channel s.clock number) a.channels) off) none
quiet setup rules state now (arrives number peer bytes) is none =
    let s = at now state in
    none_of (received rules s.clock peer bytes) (is_at number) (is_at number) s.relays (λ a off. off) none
quiet setup rules state now (bounces number peer icmp) is none =
    let s = at now state in
    none_of (bounced setup rules s.clock peer icmp) (is_at number) (is_at number) s.relays (λ a off. off) none
quiet setup rules state now (ends number) is none = absurd (false≢true is)
quiet setup rules state now (ends_user user) is none = absurd (false≢true is)
quiet setup rules state now ticks is none = absurd (false≢true is)

-- ---- As if it had not come

still_over : (m k : ℕ) (a : Relay) → k ≤ m → is_live k a ≡ false → is_live m a ≡ false
still_over m k a le over = let late = ltb-false k a.expires_at over in le-ltb m a.expires_at (omega (arith, le, late))

pub live_twice : (m k : ℕ) (all : List Relay) → k ≤ m → filter (is_live m) (filter (is_live k) all) ≡ filter (is_live m) all
live_twice m k [] le = refl
live_twice m k (a ∷ all) le =
    let more = live_twice m k all le in
    cond_both (is_live k a) (a ∷ filter (is_live k) all) (filter (is_live k) all) (λ (l : List Relay). filter (is_live m) l ≡ filter (is_live m) (a ∷ all))
    (λ _. ap (λ (l : List Relay). cond (is_live m a) (a ∷ l) l) more)
    (λ over. more ∙ sym (cond-false (is_live m a) (a ∷ filter (is_live m) all) (filter (is_live m) all) (still_over m k a le over)))

max_same : (c k m : ℕ) → k ≤ m → max (max c k) m ≡ max c m
max_same c k m le = omega (arith, le)

pub at_twice : (state : State) (k m : ℕ) → k ≤ m → at m (at k state) ≡ at m state
at_twice state k m le =
    ap (λ (c : ℕ). record { clock = c; next = state.next; relays = filter (is_live c) (filter (is_live (max state.clock k)) state.relays) }) (max_same state.clock k m le)
    ∙ ap (λ (l : List Relay). record { clock = max state.clock m; next = state.next; relays = l }) (live_twice (max state.clock m) (max state.clock k) state.relays (omega (arith, le)))

next_same : (setup : Setup) (rules : Rules) (state : State) (k m : ℕ) (event : Event) → k ≤ m → happens setup rules (at m (at k state)) event ≡ happens setup rules (at m state) event
next_same setup rules state k m event le = ap (λ (s : State). happens setup rules s event) (at_twice state k m le)

after_stranger : (setup : Setup) (next stranger : Timed) (earlier : List Timed) → is_datagram stranger.event ≡ true → stranger.now ≤ next.now
    → happens setup next.rules (at next.now (run setup (stranger ∷ earlier))) next.event ≡ happens setup next.rules (at next.now (run setup earlier)) next.event
after_stranger setup next stranger earlier is le =
    ap (λ (s : State). happens setup next.rules (at next.now s) next.event) (unchanged setup stranger.rules (run setup earlier) stranger.now stranger.event is)
    ∙ next_same setup next.rules (run setup earlier) stranger.now next.now next.event le

-- the rest of the run is the same from equal states
run_on : (setup : Setup) (later one other : List Timed) → run setup one ≡ run setup other → run setup (later ++ one) ≡ run setup (later ++ other)
run_on setup [] one other same = same
run_on setup (t ∷ later) one other same = ap (λ (s : State). (step setup t.rules s t.now t.event).state) (run_on setup later one other same)

history_on : (setup : Setup) (later one other : List Timed) → run setup one ≡ run setup other
    → (since : List Happening) × (history setup (later ++ one) ≡ since ++ history setup one) × (history setup (later ++ other) ≡ since ++ history setup other)
history_on setup [] one other same = ([], refl, refl)
history_on setup (t ∷ later) one other same =
    let more = history_on setup later one other same in
    let h = happening setup (run setup (later ++ one)) t in (
      h ∷ more.0,
      ap (λ (l : List Happening). h ∷ l) more.1,
      ap (λ (s : State). happening setup s t ∷ history setup (later ++ other)) (sym (run_on setup later one other same)) ∙ ap (λ (l : List Happening). h ∷ l) more.2,
    )

closed_same : (state : State) (k m n : ℕ) → k ≤ m → times n (over_at k state) + times n (over_at m (at k state)) ≡ times n (over_at m state)
closed_same state k m n le =
    let a = kept_over (is_live (max state.clock k)) state.relays n in
    let b = kept_over (is_live (max (max state.clock k) m)) (filter (is_live (max state.clock k)) state.relays) n in
    let c = kept_over (is_live (max state.clock m)) state.relays n in
    let d : filter (is_live (max (max state.clock k) m)) (filter (is_live (max state.clock k)) state.relays) ≡ filter (is_live (max state.clock m)) state.relays = ap (λ (s : State). s.relays) (at_twice state k m le) in
    let e = ap (λ (l : List Relay). count_by (is_at n) l) d in
    omega (arith, a, b, c, e)

nothing_more : (n : ℕ) (xs : List ℕ) → times n (xs ++ []) ≡ times n xs
nothing_more n xs = let e = count_append (λ m. m == n) xs [] in omega (arith, e)

stranger_closes : (setup : Setup) (rules : Rules) (state : State) (now n : ℕ) (event : Event) → is_datagram event ≡ true → times n (step setup rules state now event).closes ≡ times n (over_at now state)
stranger_closes setup rules state now n (asks tuple user request) is = absurd (false≢true is)
stranger_closes setup rules state now n (sends tuple peer dont_fragment bytes) is = nothing_more n (over_at now state)
stranger_closes setup rules state now n (sends_on tuple number bytes) is = nothing_more n (over_at now state)
stranger_closes setup rules state now n (arrives number peer bytes) is = nothing_more n (over_at now state)
stranger_closes setup rules state now n (bounces number peer icmp) is = nothing_more n (over_at now state)
stranger_closes setup rules state now n (ends number) is = absurd (false≢true is)
stranger_closes setup rules state now n (ends_user user) is = absurd (false≢true is)
stranger_closes setup rules state now n ticks is = absurd (false≢true is)

all_same : (setup : Setup) (next stranger : Timed) (earlier : List Timed) (n : ℕ) → is_datagram stranger.event ≡ true → stranger.now ≤ next.now
    → times n (all_closed (history setup (next ∷ stranger ∷ earlier))) ≡ times n (all_closed (history setup (next ∷ earlier)))
all_same setup next stranger earlier n is le =
    let state = run setup earlier in
    let old = all_closed (history setup earlier) in
    let first = (step setup stranger.rules state stranger.now stranger.event).closes in
    let after = run setup (stranger ∷ earlier) in
    let one = (happens setup next.rules (at next.now after) next.event).closes in
    let two = (happens setup next.rules (at next.now state) next.event).closes in
    let same = ap (λ (s : Step). times n s.closes) (after_stranger setup next stranger earlier is le) in
    let over = ap (λ (s : State). times n (over_at next.now s)) (unchanged setup stranger.rules state stranger.now stranger.event is) in
    let a = count_append (λ m. m == n) (over_at next.now after ++ one) (first ++ old) in
    let b = count_append (λ m. m == n) (over_at next.now after) one in
    let c = count_append (λ m. m == n) first old in
    let d = count_append (λ m. m == n) (over_at next.now state ++ two) old in
    let e = count_append (λ m. m == n) (over_at next.now state) two in
    let f = stranger_closes setup stranger.rules state stranger.now n stranger.event is in
    let g = closed_same state stranger.now next.now n le in
    omega (arith, same, over, a, b, c, d, e, f, g)

pub forgotten : (setup : Setup) (later : List Timed) (next stranger : Timed) (earlier : List Timed) → is_datagram stranger.event ≡ true → stranger.now ≤ next.now → IsForgotten setup later next stranger earlier
forgotten setup later next stranger earlier is le =
    let same = after_stranger setup next stranger earlier is le in
    let states : run setup (next ∷ stranger ∷ earlier) ≡ run setup (next ∷ earlier) = ap (λ (s : Step). s.state) same in
    let rest = history_on setup later (next ∷ stranger ∷ earlier) (next ∷ earlier) states in
    record {
      kept = run_on setup later (next ∷ stranger ∷ earlier) (next ∷ earlier) states;
      since = rest.0;
      with_it = rest.1;
      without_it = rest.2;
      moment = ap (λ (s : State). max s.clock next.now) (unchanged setup stranger.rules (run setup earlier) stranger.now stranger.event is) ∙ max_same (run setup earlier).clock stranger.now next.now le;
      output = ap (λ (s : Step). s.output) same;
      closed = λ n. all_same setup next stranger earlier n is le;
    }

-- ---- Nothing is due

filter_all : {X : Type 0} (test : X → Bool) (xs : List X) → AllByRecursion (λ x. test x ≡ true) xs → filter test xs ≡ xs
filter_all test [] each = refl
filter_all test (x ∷ xs) each = cond-true (test x) (x ∷ filter test xs) (filter test xs) each.0 ∙ ap (λ l. x ∷ l) (filter_all test xs each.1)

pub not_due : (state : State) (now : ℕ) → AllByRecursion (λ a. max state.clock now < a.expires_at) state.relays → (over_at now state ≡ []) × ((at now state).relays ≡ state.relays)
not_due state now each =
    let m = max state.clock now in
    let live = each_map (λ a. m < a.expires_at) (λ a. is_live m a ≡ true) (λ a less. lt-ltb m a.expires_at less) state.relays each in (
      ap numbers (filter_none (λ a. not (is_live m a)) state.relays (each_map (λ a. is_live m a ≡ true) (λ a. not (is_live m a) ≡ false) (λ a is. ap not is) state.relays live)),
      filter_all (is_live m) state.relays live,
    )
