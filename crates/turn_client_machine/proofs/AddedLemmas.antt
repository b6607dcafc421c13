-- Peers that are named between two rounds are granted in the next.
use Rattle.std.proofs.Common.{ℕ, ◌<◌, ◌≤◌, inl, inr, Bool, true, false, List, refl, sym, subst, arith}
use Rattle.std.specs.List.{AllByRecursion, list_any}
use Rattle.std.proofs.lemmas.Bool.{cond_both}
use Rattle.turn_client_machine.specs.Clients.{Endpoint, seconds, Setup, Peer, State, is_peer, is_rested}
use Rattle.turn_client_machine.specs.Events.{Event, permits, binds, drops}
use Rattle.turn_client_machine.specs.Lasting.{IsInTime}
use Rattle.turn_client_machine.specs.Responses.{changed_first, restarted}
use Rattle.turn_client_machine.specs.Rounds.{AreClose, rounds, rounds_events, IsCalm, IsCalmPeer, IsNaming}
use Rattle.turn_client_machine.specs.Runs.{Timed, run}
use Rattle.turn_client_machine.specs.Steps.{covers, can_name, new_peer, replaced, with_new, wanting, dropped, is_listed, bound, permitted, happens, step}
use Rattle.turn_client_machine.proofs.ListsLemmas.{each_map, each_changed}
use Rattle.turn_client_machine.proofs.RoundsLemmas.{IsKept, Going, calm_kept, soon_each, going_from, rounds_go, run_rounds, at_once}

abbrev pub Rests : State → Type 0
Rests state = IsCalm state × IsInTime 0 state

rests_with : (state : State) → IsCalm state → IsInTime 0 state → (ps : List Peer) → AllByRecursion (IsKept state.clock 0) ps → Rests (record state { peers = ps })
rests_with state calm in_time ps each = (
  record { allocation = calm.allocation; free = calm.free; time = calm.time; peers = each_map (IsKept state.clock 0) (IsCalmPeer state.clock) (λ p k. k.calm) ps each },
  record { allocation = in_time.allocation; peers = soon_each state.clock 0 ps each },
)

pub going_rests : (state : State) → Going 0 state → Rests state
going_rests state g = (
  record { allocation = g.phase; free = g.free; time = g.time; peers = each_map (IsKept state.clock 0) (IsCalmPeer state.clock) (λ p k. k.calm) state.peers g.each },
  record { allocation = g.soon; peers = soon_each state.clock 0 state.peers g.each },
)

pub rounds_rest : (setup : Setup) (events : List Timed) (lifetime fresh late : ℕ) (moments : List ℕ) → 0 < setup.most_sends → 80 ≤ lifetime → late < seconds 20 → IsCalm (run setup events) → IsInTime 0 (run setup events) → AreClose setup lifetime fresh late moments (run setup events)
    → Rests (run setup (rounds_events setup lifetime fresh moments events))
rounds_rest setup events lifetime fresh late moments some useful less calm in_time close =
    subst Rests (sym (run_rounds setup lifetime fresh moments events))
    (going_rests (rounds setup lifetime fresh moments (run setup events)) (rounds_go setup lifetime fresh late moments (run setup events) some useful less (going_from (run setup events) calm in_time) close))

-- ---- Naming

restarted_kept : (clock : ℕ) (p : Peer) → IsKept clock 0 (restarted clock p)
restarted_kept clock p = record {
  calm = record { asked = λ _. inr (omega arith); free = refl; time = λ _. omega arith; ends = λ _ some. absurd (omega (arith, some)) };
  soon = λ _. omega arith;
}

new_kept : (clock : ℕ) (wants : Bool) (address : Endpoint) (ps : List Peer) → IsKept clock 0 (new_peer clock wants address ps)
new_kept clock wants address ps = record {
  calm = record { asked = λ _. inr (omega arith); free = refl; time = λ _. omega arith; ends = λ _ some. absurd (omega (arith, some)) };
  soon = λ _. omega arith;
}

wanting_kept : (clock : ℕ) (p : Peer) → IsKept clock 0 p → IsKept clock 0 (wanting clock p)
wanting_kept clock p k =
    cond_both p.over _ _ (IsKept clock 0)
    (λ _. record {
      calm = record { asked = λ _. inr (omega arith); free = refl; time = λ _. omega arith; ends = λ _ some. absurd (omega (arith, some)) };
      soon = λ _. omega arith;
    })
    (λ on. cond_both p.wants _ _ (IsKept clock 0) (λ _. k)
    (λ _. let time = k.calm.time on in let soon = k.soon on in record {
      calm = record { asked = λ _. inr (omega arith); free = refl; time = λ _. omega (arith, time, soon); ends = λ _ some. let ends = k.calm.ends on some in omega (arith, ends) };
      soon = λ _. omega (arith, soon);
    }))

replaced_kept : (clock : ℕ) (wants : Bool) (address : Endpoint) (p : Peer) → IsKept clock 0 (replaced clock wants address p)
replaced_kept clock wants address p = record {
  calm = record { asked = λ _. inr (omega arith); free = refl; time = λ _. omega arith; ends = λ _ some. absurd (omega (arith, some)) };
  soon = λ _. omega arith;
}

dropped_kept : (clock : ℕ) (p : Peer) → IsKept clock 0 (dropped clock p)
dropped_kept clock p = record {
  calm = record { asked = λ on. absurd cc; free = refl; time = λ on. absurd cc; ends = λ on. absurd cc };
  soon = λ on. absurd cc;
}

with_new_kept : (setup : Setup) (clock : ℕ) (wants : Bool) (address : Endpoint) (ps : List Peer) → AllByRecursion (IsKept clock 0) ps → AllByRecursion (IsKept clock 0) (with_new setup clock wants address ps)
with_new_kept setup clock wants address ps each = cond_both (can_name setup clock address ps) _ _ (AllByRecursion (IsKept clock 0))
    (λ _. cond_both (list_any (is_rested clock) ps) _ _ (AllByRecursion (IsKept clock 0))
    (λ _. each_changed (IsKept clock 0) (is_rested clock) (replaced clock wants address) ps (λ p is found k. replaced_kept clock wants address p) each) (λ _. (new_kept clock wants address ps, each))) (λ _. each)

permitted_kept : (setup : Setup) (clock : ℕ) (address : Endpoint) (ps : List Peer) → AllByRecursion (IsKept clock 0) ps → AllByRecursion (IsKept clock 0) (permitted setup clock address ps)
permitted_kept setup clock address ps each =
    cond_both (list_any (covers address.ip) ps) _ _ (AllByRecursion (IsKept clock 0)) (λ _. each)
    (λ _. cond_both (list_any (is_peer address) ps) _ _ (AllByRecursion (IsKept clock 0))
    (λ _. each_changed (IsKept clock 0) (is_peer address) (restarted clock) ps (λ p is found k. restarted_kept clock p) each)
    (λ _. with_new_kept setup clock false address ps each))

bound_kept : (setup : Setup) (clock : ℕ) (address : Endpoint) (ps : List Peer) → AllByRecursion (IsKept clock 0) ps → AllByRecursion (IsKept clock 0) (bound setup clock address ps)
bound_kept setup clock address ps each =
    cond_both (list_any (is_peer address) ps) _ _ (AllByRecursion (IsKept clock 0))
    (λ _. each_changed (IsKept clock 0) (is_peer address) (wanting clock) ps (λ p is found k. wanting_kept clock p k) each)
    (λ _. with_new_kept setup clock true address ps each)

pub named_rests : (setup : Setup) (state : State) (now fresh : ℕ) (event : Event) → now ≤ state.clock → IsNaming event → IsCalm state → IsInTime 0 state → Rests (step setup state now fresh event).state
named_rests setup state now fresh event le naming calm in_time =
    let kept = calm_kept state.clock state.peers calm.peers in_time.peers in
    let same = at_once now state le in
    elim naming.1 [
      | inl of_permit ↦ subst (λ (e : Event). Rests (step setup state now fresh e).state) (sym of_permit)
          (subst (λ (s : State). Rests (happens setup fresh s (permits naming.0)).state) (sym same)
          (rests_with state calm in_time (permitted setup state.clock naming.0 state.peers) (permitted_kept setup state.clock naming.0 state.peers kept)))
      | inr of_bind ↦ subst (λ (e : Event). Rests (step setup state now fresh e).state) (sym of_bind)
          (subst (λ (s : State). Rests (happens setup fresh s (binds naming.0)).state) (sym same)
          (rests_with state calm in_time (bound setup state.clock naming.0 state.peers) (bound_kept setup state.clock naming.0 state.peers kept)))
    ]

-- and when the user drops one
pub dropped_rests : (setup : Setup) (state : State) (now fresh : ℕ) (peer : Endpoint) → now ≤ state.clock → IsCalm state → IsInTime 0 state → Rests (step setup state now fresh (drops peer)).state
dropped_rests setup state now fresh peer le calm in_time =
    let kept = calm_kept state.clock state.peers calm.peers in_time.peers in
    subst (λ (s : State). Rests (happens setup fresh s (drops peer)).state) (sym (at_once now state le))
    (rests_with state calm in_time (changed_first (is_listed peer) (dropped state.clock) state.peers)
    (each_changed (IsKept state.clock 0) (is_listed peer) (dropped state.clock) state.peers (λ p is found k. dropped_kept state.clock p) kept))
