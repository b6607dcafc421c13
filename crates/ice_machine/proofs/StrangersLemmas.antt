-- What isn't authentic changes nothing.
use Rattle.std.proofs.Common.{map, ◌≡◌, ℕ, ◌≤◌, ◌+◌, Bool, true, false, cond, ◌&&◌, List, [], ◌∷◌, ◌++◌, filter, refl, sym, ap, ◌∙◌, arith, ltb-false}
use Rattle.std.specs.Prelude.{max, nat_le}
use Rattle.std.proofs.lemmas.Bool.{cond_both, cond-true, cond-false, and_parts, and_from, leb-true, le-leb, le-ltb}
use Rattle.ice_machine.specs.Agents.{seconds, PairState, Frozen, Waiting, InProgress, Succeeded, Failed, Lost, Pair, Request, Setup, State, is_in_progress, is_succeeded}
use Rattle.ice_machine.specs.Events.{Event, gathers, learns, meets, ends, checks, responds, strays, arrives, sends, polls}
use Rattle.ice_machine.specs.Steps.{is_unanswered, is_over, settled, is_awaited, at, happens, step}
use Rattle.ice_machine.specs.Runs.{Begin, Timed, Happening, run, happening, history}
use Rattle.ice_machine.specs.Strangers.{is_stranger, IsForgotten}

pub unchanged : (setup : Setup) (state : State) (now fresh : ℕ) (event : Event) → is_stranger event ≡ true → (step setup state now fresh event).state ≡ at setup now state
unchanged setup state now fresh (gathers b) is = absurd cc
unchanged setup state now fresh (learns r) is = absurd cc
unchanged setup state now fresh meets is = absurd cc
unchanged setup state now fresh ends is = absurd cc
unchanged setup state now fresh (checks c) is = absurd cc
unchanged setup state now fresh (responds base from id answer) is = absurd cc
unchanged setup state now fresh (strays base from id size code) is = refl
unchanged setup state now fresh (arrives base from bytes) is = refl
unchanged setup state now fresh (sends component bytes) is = absurd cc
unchanged setup state now fresh polls is = absurd cc

-- ---- Time that passes in two parts

later_le : (a e n : ℕ) → nat_le a e ≡ true → e ≤ n → nat_le a n ≡ true
later_le a e n is le = let one = leb-true a e is in le-leb a n (omega (arith, one, le))

unanswered_later : (setup : Setup) (e n : ℕ) (p : Pair) → e ≤ n → is_unanswered setup e p ≡ true → is_unanswered setup n p ≡ true
unanswered_later setup e n p le is =
    let one = and_parts (is_in_progress p.state) (nat_le setup.most_tries p.tries && nat_le p.due e) is in
    let two = and_parts (nat_le setup.most_tries p.tries) (nat_le p.due e) one.1 in
    and_from (is_in_progress p.state) (nat_le setup.most_tries p.tries && nat_le p.due n) one.0
    (and_from (nat_le setup.most_tries p.tries) (nat_le p.due n) two.0 (later_le p.due e n two.1 le))

over_later : (e n : ℕ) (p : Pair) → e ≤ n → is_over e p ≡ true → is_over n p ≡ true
over_later e n p le is =
    let one = and_parts (is_succeeded p.state) (nat_le p.expires_at e) is in
    and_from (is_succeeded p.state) (nat_le p.expires_at n) one.0 (later_le p.expires_at e n one.1 le)

answered_phase : (phase : PairState) (rest : Bool) → is_succeeded phase ≡ true → (is_in_progress phase && rest) ≡ false
answered_phase Frozen rest is = absurd cc
answered_phase Waiting rest is = absurd cc
answered_phase InProgress rest is = absurd cc
answered_phase Succeeded rest is = refl
answered_phase Failed rest is = absurd cc
answered_phase Lost rest is = absurd cc

settled_twice : (setup : Setup) (e n : ℕ) (p : Pair) → e ≤ n → settled setup n (settled setup e p) ≡ settled setup n p
settled_twice setup e n p le =
    cond_both (is_unanswered setup e p) _ _ (λ q. settled setup n q ≡ settled setup n p)
    (λ is. sym (cond-true (is_unanswered setup n p) _ _ (unanswered_later setup e n p le is)))
    (λ _. cond_both (is_over e p) _ _ (λ q. settled setup n q ≡ settled setup n p)
    (λ is. sym (cond-false (is_unanswered setup n p) _ _ (answered_phase p.state (nat_le setup.most_tries p.tries && nat_le p.due n) (and_parts (is_succeeded p.state) (nat_le p.expires_at e) is).0)
    ∙ cond-true (is_over n p) _ _ (over_later e n p le is)))
    (λ _. refl))

pairs_twice : (setup : Setup) (e n : ℕ) (ps : List Pair) → e ≤ n → map {B = Pair} (settled setup n) (map {B = Pair} (settled setup e) ps) ≡ map {B = Pair} (settled setup n) ps
pairs_twice setup e n [] le = refl
pairs_twice setup e n (p ∷ ps) le =
    ap (λ (q : Pair). q ∷ map {B = Pair} (settled setup n) (map {B = Pair} (settled setup e) ps)) (settled_twice setup e n p le)
    ∙ ap (λ (qs : List Pair). settled setup n p ∷ qs) (pairs_twice setup e n ps le)

not_awaited : (e n : ℕ) (r : Request) → e ≤ n → is_awaited e r ≡ false → is_awaited n r ≡ false
not_awaited e n r le is = let one = ltb-false e (r.sent + seconds 30) is in le-ltb n (r.sent + seconds 30) (omega (arith, one, le))

awaited_twice : (e n : ℕ) (rs : List Request) → e ≤ n → filter (is_awaited n) (filter (is_awaited e) rs) ≡ filter (is_awaited n) rs
awaited_twice e n [] le = refl
awaited_twice e n (r ∷ rs) le =
    let more = awaited_twice e n rs le in
    cond_both (is_awaited e r) (r ∷ filter (is_awaited e) rs) (filter (is_awaited e) rs) (λ qs. filter (is_awaited n) qs ≡ filter (is_awaited n) (r ∷ rs))
    (λ _. ap (λ (qs : List Request). cond (is_awaited n r) (r ∷ qs) qs) more)
    (λ is. more ∙ sym (cond-false (is_awaited n r) (r ∷ filter (is_awaited n) rs) (filter (is_awaited n) rs) (not_awaited e n r le is)))

max_later : (c e n : ℕ) → e ≤ n → max (max c e) n ≡ max c n
max_later c e n le = omega (arith, le)

le_max : (c e n : ℕ) → e ≤ n → max c e ≤ max c n
le_max c e n le = omega (arith, le)

pub at_later : (setup : Setup) (state : State) (e n : ℕ) → e ≤ n → at setup n (at setup e state) ≡ at setup n state
at_later setup state e n le =
    ap (λ (c : ℕ). record state { clock = c; pairs = map {B = Pair} (settled setup c) (map {B = Pair} (settled setup (max state.clock e)) state.pairs); requests = filter (is_awaited c) (filter (is_awaited (max state.clock e)) state.requests) }) (max_later state.clock e n le)
    ∙ ap (λ (ps : List Pair). record state { clock = max state.clock n; pairs = ps; requests = filter (is_awaited (max state.clock n)) (filter (is_awaited (max state.clock e)) state.requests) }) (pairs_twice setup (max state.clock e) (max state.clock n) state.pairs (le_max state.clock e n le))
    ∙ ap (λ (rs : List Request). record state { clock = max state.clock n; pairs = map {B = Pair} (settled setup (max state.clock n)) state.pairs; requests = rs }) (awaited_twice (max state.clock e) (max state.clock n) state.requests (le_max state.clock e n le))

-- ---- As if it had not come

at_same : (setup : Setup) (state : State) (next stranger : Timed) → is_stranger stranger.event ≡ true → stranger.now ≤ next.now
    → at setup next.now (step setup state stranger.now stranger.fresh stranger.event).state ≡ at setup next.now state
at_same setup state next stranger is le = ap (at setup next.now) (unchanged setup state stranger.now stranger.fresh stranger.event is) ∙ at_later setup state stranger.now next.now le

pub forgotten : (setup : Setup) (b : Begin) (later : List Timed) (next stranger : Timed) (earlier : List Timed) → is_stranger stranger.event ≡ true → stranger.now ≤ next.now
    → IsForgotten setup b later next stranger earlier
forgotten setup b [] next stranger earlier is le = record {
  since = happening setup (run setup b earlier) next ∷ [];
  with_it = ap (λ (s : State). record { moment = s.clock; event = next.event; output = (happens setup next.fresh s next.event).output } ∷ history setup b (stranger ∷ earlier)) (at_same setup (run setup b earlier) next stranger is le);
  without_it = refl;
  kept = ap (λ (s : State). (happens setup next.fresh s next.event).state) (at_same setup (run setup b earlier) next stranger is le);
}
forgotten setup b (t ∷ later) next stranger earlier is le =
    let f = forgotten setup b later next stranger earlier is le in
    record {
      since = happening setup (run setup b (later ++ next ∷ earlier)) t ∷ f.since;
      with_it = ap (λ (s : State). happening setup s t ∷ history setup b (later ++ next ∷ stranger ∷ earlier)) f.kept ∙ ap (λ (l : List Happening). happening setup (run setup b (later ++ next ∷ earlier)) t ∷ l) f.with_it;
      without_it = ap (λ (l : List Happening). happening setup (run setup b (later ++ next ∷ earlier)) t ∷ l) f.without_it;
      kept = ap (λ (s : State). (step setup s t.now t.fresh t.event).state) f.kept;
    }
