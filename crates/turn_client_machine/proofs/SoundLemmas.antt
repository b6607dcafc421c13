-- What is asked for is asked for in time.
use Rattle.std.proofs.Common.{◌≡◌, ℕ, ◌+◌, ◌≤◌, ◌<◌, true, false, List, [], ◌∷◌, Option, None, Some, refl, arith, Bool}
use Rattle.std.specs.List.{AllByRecursion}
use Rattle.std.specs.Option.{option_map_or}
use Rattle.std.proofs.lemmas.Bool.{cond_both}
use Rattle.turn_client_machine.specs.Clients.{seconds, Setup, Kind, Allocate, Refresh, Delete, Permit, Bind, Request, Pending, Phase, Task, Peer, State, is_allocated}
use Rattle.turn_client_machine.specs.Events.{Event}
use Rattle.turn_client_machine.specs.Tasks.{kept_task, may_retry, is_expired, may_send, turned}
use Rattle.turn_client_machine.specs.Responses.{asks_instead, restarted, granted_by, given_up, turned_down, challenged, noted}
use Rattle.turn_client_machine.specs.Steps.{at, wanting, kind_in, kind_of, turned_of, own_task}
use Rattle.turn_client_machine.specs.Runs.{Timed, run}
use Rattle.turn_client_machine.specs.Lasting.{IsInTime, Holds, IsAlive}
use Rattle.turn_client_machine.proofs.Keeping.{PeerChanges, happens_each, MainChanges, Main, happens_main}

-- due by the deadline, which is 20 seconds before what was granted ends
pub record IsSound (p : Peer) : Type 0 where
  pub order : p.task.due ≤ p.task.deadline
  pub spare : p.over ≡ false → 0 < p.expires_at → p.task.deadline + seconds 20 ≤ p.expires_at

abbrev pub IsSoundTask : Phase → Task → ℕ → Type 0
IsSoundTask phase t expires_at = is_allocated phase ≡ true → (t.due ≤ t.deadline) × (t.deadline + seconds 20 ≤ expires_at)

-- ---- Tasks

turned_due : (setup : Setup) (clock fresh : ℕ) (kind : Kind) (challenge : Option ℕ) (t : Task) → t.due ≤ t.deadline → (turned setup clock fresh kind challenge t).due ≤ (turned setup clock fresh kind challenge t).deadline
turned_due setup clock fresh kind challenge t le = cond_both (may_send setup t) _ _ (λ (s : Task). s.due ≤ s.deadline) (λ _. omega (arith)) (λ _. omega (arith))

turned_deadline : (setup : Setup) (clock fresh : ℕ) (kind : Kind) (challenge : Option ℕ) (t : Task) → (turned setup clock fresh kind challenge t).deadline ≡ t.deadline
turned_deadline setup clock fresh kind challenge t = cond_both (may_send setup t) _ _ (λ (s : Task). s.deadline ≡ t.deadline) (λ _. refl) (λ _. refl)

kept_order : (since n : ℕ) → 80 ≤ n → (kept_task since n).due ≤ (kept_task since n).deadline
kept_order since n le = omega (arith, le)

kept_spare : (since n : ℕ) → 80 ≤ n → (kept_task since n).deadline + seconds 20 ≤ since + seconds n
kept_spare since n le = omega (arith, le)

-- ---- Peers

granted_sound : (r : Request) (kind : Kind) (p : Peer) → IsSound p → IsSound (granted_by r kind p)
granted_sound r Allocate p s = s
granted_sound r Refresh p s = s
granted_sound r Delete p s = s
granted_sound r (Permit peer) p s = record { order = kept_order r.since 300 (omega arith); spare = λ _ _. omega (arith) }
granted_sound r (Bind number peer) p s = record { order = kept_order r.since 300 (omega arith); spare = λ _ _. omega (arith) }

granted_sound_of : (p : Peer) (o : Option Pending) → IsSound p → IsSound (option_map_or (λ (q : Pending). granted_by q.request q.request.kind p) o p)
granted_sound_of p None s = s
granted_sound_of p (Some q) s = granted_sound q.request q.request.kind p s

given_up_sound : (code : ℕ) (p : Peer) → IsSound p → IsSound (given_up code p)
given_up_sound code p s = record { order = s.order; spare = λ over. absurd cc }

restarted_sound : (clock : ℕ) (p : Peer) → IsSound (restarted clock p)
restarted_sound clock p = record { order = omega (arith); spare = λ _ some. absurd (omega (arith, some)) }

wanting_sound : (clock : ℕ) (p : Peer) → IsSound p → IsSound (wanting clock p)
wanting_sound clock p s = cond_both p.over _ _ IsSound
    (λ _. record { order = omega (arith); spare = λ _ some. absurd (omega (arith, some)) })
    (λ _. cond_both p.wants _ _ IsSound (λ _. s)
    (λ _. record { order = let o = s.order in omega (arith, o); spare = λ over some. let spare = s.spare over some in omega (arith, spare) }))

turned_down_sound : (clock code : ℕ) (p : Peer) → IsSound p → IsSound (turned_down clock code p)
turned_down_sound clock code p s = cond_both (asks_instead code p) _ _ IsSound (λ _. record { order = omega (arith); spare = s.spare }) (λ _. given_up_sound code p s)

challenged_sound : (setup : Setup) (challenge : Option ℕ) (clock code : ℕ) (p : Peer) → IsSound p → IsSound (challenged setup challenge clock code p)
challenged_sound setup challenge clock code p s = cond_both (may_retry setup challenge code p.task) _ _ IsSound (λ _. record { order = omega (arith); spare = s.spare }) (λ _. given_up_sound code p s)

turned_sound : (along : Bool) (setup : Setup) (clock fresh : ℕ) (challenge : Option ℕ) (p : Peer) → IsSound p → IsSound (turned_of along setup clock fresh challenge p)
turned_sound along setup clock fresh challenge p s = cond_both (is_expired clock p.task) _ _ IsSound (λ _. given_up_sound 0 p s)
    (λ _. record {
      order = turned_due setup clock fresh (kind_of p) challenge (own_task p) s.order;
      spare = λ over some. let spare = s.spare over some in let same = turned_deadline setup clock fresh (kind_of p) challenge (own_task p) in omega (arith, spare, same);
    })

sound_changes : (setup : Setup) (fresh : ℕ) (state : State) (event : Event) → PeerChanges IsSound setup fresh state event
sound_changes setup fresh state event = record {
  new = λ wants address peers _ _. record { order = omega (arith); spare = λ _ some. absurd (omega (arith, some)) };
  replaces = λ wants address p _ _ _ _. record { order = omega (arith); spare = λ _ some. absurd (omega (arith, some)) };
  drops_it = λ p address _ _ s. record { order = s.order; spare = λ over. absurd cc };
  reopens = λ p q _ _ s. record { order = omega (arith); spare = λ _ some. absurd (omega (arith, some)) };
  restarts = λ p _ s. restarted_sound state.clock p;
  wants = λ p address _ _. wanting_sound state.clock p;
  grants = λ p id genuine is s. granted_sound_of p p.task.pending s;
  turns_down = λ p id code genuine _ _ s. turned_down_sound state.clock code p s;
  challenges_it = λ p is _ _ s. challenged_sound setup state.challenge state.clock is.code p s;
  violates_it = λ p is _ _ s. cond_both setup.is_reliable _ _ IsSound (λ _. given_up_sound 0 (noted p) (record { order = s.order; spare = s.spare })) (λ _. record { order = s.order; spare = s.spare });
  turns_it = λ p along is _ out s. turned_sound along setup state.clock fresh state.challenge p s;
}

-- ---- The allocation

sound_main : (setup : Setup) (fresh : ℕ) (state : State) (event : Event) → MainChanges IsSoundTask setup fresh state event
sound_main setup fresh state event = record {
  begins_it = λ _ is. absurd cc;
  closes_it = λ phase why _ is. absurd cc;
  ends_it = λ phase why _ is. absurd cc;
  opens_it = λ q id relayed mapped lifetime active genuine is awaited kind le a _. (kept_order q.request.since lifetime le, kept_spare q.request.since lifetime le);
  extends_it = λ q id lifetime genuine is awaited kind le a _. (kept_order q.request.since lifetime le, kept_spare q.request.since lifetime le);
  again_it = λ code challenge may a is. (omega (arith), (a is).1);
  turns_it = λ is fit out a there. (
    turned_due setup state.clock fresh (kind_in state.phase) state.challenge state.task (a there).0,
    let spare = (a there).1 in let same = turned_deadline setup state.clock fresh (kind_in state.phase) state.challenge state.task in omega (arith, spare, same),
  );
}

pub record AllSound (state : State) : Type 0 where
  pub allocation : Main IsSoundTask state
  pub each : AllByRecursion IsSound state.peers

pub run_sound : (setup : Setup) (events : List Timed) → AllSound (run setup events)
run_sound setup [] = record { allocation = λ is. absurd cc; each = tt }
run_sound setup (timed ∷ earlier) =
    let s = run_sound setup earlier in
    let now = at timed.now (run setup earlier) in
    record {
      allocation = happens_main IsSoundTask setup timed.fresh now timed.event (sound_main setup timed.fresh now timed.event) s.allocation;
      each = happens_each IsSound setup timed.fresh now timed.event (sound_changes setup timed.fresh now timed.event) s.each;
    }

-- ---- Nothing lapses

holds_by : (clock late : ℕ) → late < seconds 20 → (ps : List Peer) → AllByRecursion IsSound ps → AllByRecursion (λ (p : Peer). p.over ≡ false → clock ≤ p.task.due + late) ps → AllByRecursion (Holds clock) ps
holds_by clock late less [] each in_time = tt
holds_by clock late less (p ∷ ps) each in_time = (
  λ over some. let order = each.0.order in let spare = each.0.spare over some in let soon = in_time.0 over in omega (arith, less, order, spare, soon),
  holds_by clock late less ps each.1 in_time.1,
)

pub nothing_lapses : (setup : Setup) (events : List Timed) (now late : ℕ) → late < seconds 20 → is_allocated (run setup events).phase ≡ true → IsInTime late (at now (run setup events)) → IsAlive (at now (run setup events))
nothing_lapses setup events now late less there in_time =
    let s = run_sound setup events in
    record {
      allocation = let both = s.allocation there in let order = both.0 in let spare = both.1 in let soon = in_time.allocation in omega (arith, less, order, spare, soon);
      peers = holds_by (at now (run setup events)).clock late less (run setup events).peers s.each in_time.peers;
    }
