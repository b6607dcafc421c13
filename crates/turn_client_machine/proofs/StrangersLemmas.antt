-- What isn't from the server, or isn't authentic, changes nothing.
use Rattle.std.proofs.Common.{◌≡◌, ℕ, ◌≤◌, inl, inr, ◌⊎◌, Bool, true, false, not, ◌&&◌, List, [], ◌∷◌, ◌++◌, Option, None, Some, refl, ap, ◌∙◌, arith}
use Rattle.std.specs.List.{list_any}
use Rattle.std.specs.Option.{option_map_or}
use Rattle.std.specs.Prelude.{max}
use Rattle.std.proofs.lemmas.Bool.{cond_both, cond-false, and_parts, and_left, and_right, or_cases, not-true}
use Rattle.turn_client_machine.specs.Clients.{Endpoint, is_endpoint, Setup, Request, Pending, State, is_allocated, is_active}
use Rattle.turn_client_machine.specs.Events.{Answer, Opened, Extended, Done, Refused, Challenged, Redirected, Violated, Event, allocates, permits, binds, drops, sends, closes, responds, gives, gives_on, strays, polls}
use Rattle.turn_client_machine.specs.Tasks.{awaits}
use Rattle.turn_client_machine.specs.Responses.{answered, awaits_of, answered_peer, answered_any, responded}
use Rattle.turn_client_machine.specs.Steps.{at, step, happens}
use Rattle.turn_client_machine.specs.Runs.{Timed, Happening, run, happening, history}
use Rattle.turn_client_machine.specs.Strangers.{counts_unsigned, is_stranger, is_unknown, IsForgotten}

unsigned_task : (setup : Setup) (answer : Answer) (state : State) (r : Request) → counts_unsigned answer ≡ false → answered setup false answer state r ≡ state
unsigned_task setup (Opened relayed mapped lifetime) state r is = refl
unsigned_task setup (Extended lifetime) state r is = refl
unsigned_task setup Done state r is = refl
unsigned_task setup (Refused code) state r is = refl
unsigned_task setup (Challenged code challenge) state r is = absurd cc
unsigned_task setup (Redirected server) state r is = refl
unsigned_task setup Violated state r is = absurd cc

unsigned_any : (setup : Setup) (answer : Answer) (state : State) (o : Option Pending) → counts_unsigned answer ≡ false → option_map_or (λ (q : Pending). answered setup false answer state q.request) o state ≡ state
unsigned_any setup answer state None is = refl
unsigned_any setup answer state (Some q) is = unsigned_task setup answer state q.request is

unsigned_peer : (setup : Setup) (id : ℕ) (answer : Answer) (state : State) → counts_unsigned answer ≡ false → answered_peer setup id false answer state ≡ state
unsigned_peer setup id (Opened relayed mapped lifetime) state is = refl
unsigned_peer setup id (Extended lifetime) state is = refl
unsigned_peer setup id Done state is = refl
unsigned_peer setup id (Refused code) state is = refl
unsigned_peer setup id (Challenged code challenge) state is = absurd cc
unsigned_peer setup id (Redirected server) state is = refl
unsigned_peer setup id Violated state is = absurd cc

unsigned : (setup : Setup) (from : Endpoint) (id : ℕ) (answer : Answer) (state : State) → counts_unsigned answer ≡ false → responded setup from id false answer state ≡ state
unsigned setup from id answer state is =
    cond_both (is_endpoint from setup.server && is_active state.phase) _ _ (λ (s : State). s ≡ state)
    (λ _. cond_both (awaits id state.task) _ _ (λ (s : State). s ≡ state) (λ _. unsigned_any setup answer state state.task.pending is)
    (λ _. cond_both (is_allocated state.phase && list_any (awaits_of id) state.peers) _ _ (λ (s : State). s ≡ state) (λ _. unsigned_peer setup id answer state is) (λ _. refl)))
    (λ _. refl)

elsewhere : (setup : Setup) (from : Endpoint) (id : ℕ) (authentic : Bool) (answer : Answer) (state : State) → is_endpoint from setup.server ≡ false → responded setup from id authentic answer state ≡ state
elsewhere setup from id authentic answer state is = cond-false (is_endpoint from setup.server && is_active state.phase) (answered_any setup id authentic answer state) state (and_left (is_endpoint from setup.server) (is_active state.phase) is)

forged : (setup : Setup) (from : Endpoint) (id : ℕ) (authentic : Bool) (answer : Answer) (state : State) → (not authentic && not (counts_unsigned answer)) ≡ true → responded setup from id authentic answer state ≡ state
forged setup from id true answer state is = absurd cc
forged setup from id false answer state is = unsigned setup from id answer state (not-true (counts_unsigned answer) is)

strange : (setup : Setup) (from : Endpoint) (id : ℕ) (authentic : Bool) (answer : Answer) (state : State) → (not (is_endpoint from setup.server) ≡ true) ⊎ ((not authentic && not (counts_unsigned answer)) ≡ true) → responded setup from id authentic answer state ≡ state
strange setup from id authentic answer state (inl is) = elsewhere setup from id authentic answer state (not-true (is_endpoint from setup.server) is)
strange setup from id authentic answer state (inr is) = forged setup from id authentic answer state is

pub unchanged : (setup : Setup) (state : State) (now fresh : ℕ) (event : Event) → is_stranger setup event ≡ true → (step setup state now fresh event).state ≡ at now state
unchanged setup state now fresh allocates is = absurd cc
unchanged setup state now fresh (permits peer) is = absurd cc
unchanged setup state now fresh (binds peer) is = absurd cc
unchanged setup state now fresh (drops peer) is = absurd cc
unchanged setup state now fresh (sends peer bytes) is = absurd cc
unchanged setup state now fresh closes is = absurd cc
unchanged setup state now fresh (responds from id authentic answer) is =
    strange setup from id authentic answer (at now state) (or_cases (not (is_endpoint from setup.server)) (not authentic && not (counts_unsigned answer)) is)
unchanged setup state now fresh (gives from peer bytes) is = refl
unchanged setup state now fresh (gives_on from number bytes) is = refl
unchanged setup state now fresh (strays from) is = refl
unchanged setup state now fresh polls is = absurd cc

pub unknown : (setup : Setup) (state : State) (now fresh id : ℕ) (from : Endpoint) (authentic : Bool) (answer : Answer) → is_unknown id state ≡ true → (step setup state now fresh (responds from id authentic answer)).state ≡ at now state
unknown setup state now fresh id from authentic answer is =
    let both = and_parts (not (awaits id state.task)) (not (list_any (awaits_of id) state.peers)) is in
    cond_both (is_endpoint from setup.server && is_active state.phase) _ _ (λ (s : State). s ≡ at now state)
    (λ _. cond-false (awaits id state.task) _ _ (not-true (awaits id state.task) both.0)
    ∙ cond-false (is_allocated state.phase && list_any (awaits_of id) state.peers) (answered_peer setup id authentic answer (at now state)) (at now state)
    (and_right (is_allocated state.phase) (list_any (awaits_of id) state.peers) (not-true (list_any (awaits_of id) state.peers) both.1)))
    (λ _. refl)

max_later : (c e n : ℕ) → e ≤ n → max (max c e) n ≡ max c n
max_later c e n le = omega (arith, le)

at_same : (setup : Setup) (state : State) (next stranger : Timed) → is_stranger setup stranger.event ≡ true → stranger.now ≤ next.now
    → at next.now (step setup state stranger.now stranger.fresh stranger.event).state ≡ at next.now state
at_same setup state next stranger is le =
    ap (at next.now) (unchanged setup state stranger.now stranger.fresh stranger.event is)
    ∙ ap (λ (c : ℕ). record state { clock = c }) (max_later state.clock stranger.now next.now le)

pub forgotten : (setup : Setup) (later : List Timed) (next stranger : Timed) (earlier : List Timed) → is_stranger setup stranger.event ≡ true → stranger.now ≤ next.now → IsForgotten setup later next stranger earlier
forgotten setup [] next stranger earlier is le = record {
  since = happening setup (run setup earlier) next ∷ [];
  with_it = ap (λ (s : State). record { moment = s.clock; event = next.event; output = (happens setup next.fresh s next.event).output } ∷ history setup (stranger ∷ earlier)) (at_same setup (run setup earlier) next stranger is le);
  without_it = refl;
  kept = ap (λ (s : State). (happens setup next.fresh s next.event).state) (at_same setup (run setup earlier) next stranger is le);
}
forgotten setup (t ∷ later) next stranger earlier is le =
    let f = forgotten setup later next stranger earlier is le in
    record {
      since = happening setup (run setup (later ++ next ∷ earlier)) t ∷ f.since;
      with_it = ap (λ (s : State). happening setup s t ∷ history setup (later ++ next ∷ stranger ∷ earlier)) f.kept ∙ ap (λ (l : List Happening). happening setup (run setup (later ++ next ∷ earlier)) t ∷ l) f.with_it;
      without_it = ap (λ (l : List Happening). happening setup (run setup (later ++ next ∷ earlier)) t ∷ l) f.without_it;
      kept = ap (λ (s : State). (step setup s t.now t.fresh t.event).state) f.kept;
    }
