-- A call is a step of the machine: a sweep, and what happens then.
use Rattle.std.proofs.Common.{Option, Some, Bool, true, false, not, ◌∷◌, inl, inr, eq-eqb, ◌≡◌, ℕ, zero, suc, None, replicate, ◌+◌, ◌≤◌, ◌^◌, List, [], refl, ap, ◌∙◌, arith}
use Rattle.std.specs.List.{AllByRecursion, list_any}
use Rattle.std.specs.Option.{IfSome, IfNone}
use Rattle.std.specs.Prelude.{◌==◌, nat_le, MatchOption}
use Rattle.std.proofs.lemmas.Bool.{cases_Bool, or_parts, le-leb, leb-true}
use Rattle.turn_machine.specs.Relays.{Relay, Setup, Rules, State}
use Rattle.turn_machine.specs.Events.{Event, Output}
use Rattle.turn_machine.specs.Lists.{times}
use Rattle.turn_machine.specs.Times.{at, over_at}
use Rattle.turn_machine.specs.Steps.{Step, keeping, happens, step}
use Rattle.turn_relays.specs.Relayed.{Table, state_of, Each}
use Rattle.turn_relays.specs.Following.{listed, ListFollowsSlots}
use Rattle.turn_relays.specs.Listing.{ListHasSlots}
use Rattle.turn_relays.specs.Facts.{IsFirstEnd}
use Rattle.turn_allocations.specs.declared.limits.Limits.{Limits}
use Rattle.turn_allocations.specs.Clients.{Becomes}
use Rattle.turn_allocations.specs.Ending.{Numbers}
use Rattle.turn_allocations.specs.Serving.{Appends, IsDone}
use Rattle.turn_allocations.specs.Calls.{IsAfter, CallsAreARun}
use Rattle.turn_allocations.specs.Tables.{Serving, IsStep, IsNextEnd}
use Rattle.turn_machine.specs.Runs.{Timed, run}
use Rattle.turn_allocations.proofs.EndingLemmas.{times_append}

-- nothing changes
pub quiet : (t : Table) (ended : Numbers) (output : Output) → IsDone (keeping (state_of t) output) t t ended ended
quiet t ended output = record {
  becomes = record { state_is = refl; slots = refl };
  closes = record { room = refl; numbers = λ n. let all = times_append n ended.numbers [] in omega (arith, all) };
}

-- the next number, if the machine leaves it
pub calm : (s : Step) (t new : Table) (before after : Numbers) → IsDone s t new before after → s.state.next ≡ t.next → new.next ≤ t.next + 2 ^ 26
calm s t new before after done same =
    let is : new.next ≡ t.next = ap (λ (x : State). x.next) done.becomes.state_is ∙ same in
    omega (arith, is)

pub stepped : (setup : Setup) (rules : Rules) (limits : Limits) (ended : List ℕ) (t swept new : Table) (before mid after : Numbers) (now : ℕ) (event : Event) (output : Output)
    → Becomes t swept (at now (state_of t)) → Appends (record before { numbers = [] }) mid (over_at now (state_of t))
    → IsDone (happens setup rules (state_of swept) event) swept new mid after → output ≡ (happens setup rules (state_of swept) event).output → new.next ≤ swept.next + 2 ^ 26
    → IsStep setup rules (record { limits = limits; state = state_of t; ended = ended }) now event output (record { limits = limits; state = state_of new; ended = after.numbers })
stepped setup rules limits ended t swept new before mid after now event output sweeps over done says slow = record {
  state_is = done.becomes.state_is ∙ ap (λ (s : State). (happens setup rules s event).state) sweeps.state_is;
  output_is = says ∙ ap (λ (s : State). (happens setup rules s event).output) sweeps.state_is;
  ended_are = λ n.
      let all = done.closes.numbers n in
      let first = over.numbers n in
      let closes = ap (λ (s : State). times n (happens setup rules s event).closes) sweeps.state_is in
      let two = times_append n mid.numbers (happens setup rules (state_of swept) event).closes in
      let both = times_append n (over_at now (state_of t)) (happens setup rules (at now (state_of t)) event).closes in
      omega (arith, all, first, closes, two, both);
  limits_are = refl;
  slow = let next = ap (λ (s : State). s.next) sweeps.state_is in omega (arith, next, slow);
}

-- ---- A new one

pub none_listed : (n : ℕ) → listed (replicate n None) ≡ []
none_listed zero = refl
none_listed (suc n) = none_listed n

-- ---- The next that expires

differ : (b : Bool) → b ≡ true → b ≡ false → ⊥
differ true is also = absurd cc
differ false is also = absurd cc

not_at : (due : ℕ) (rs : List Relay) → list_any (λ r. r.expires_at == due) rs ≡ false → AllByRecursion (λ r. not (r.expires_at == due) ≡ true) rs
not_at due [] none = tt
not_at due (r ∷ rs) none =
    let parts = or_parts (r.expires_at == due) (list_any (λ a. a.expires_at == due) rs) none in
    (ap not parts.0, not_at due rs parts.1)

due_later : (due : ℕ) (rs : List Relay) → AllByRecursion (λ r. nat_le due r.expires_at ≡ true) rs → AllByRecursion (λ r. due ≤ r.expires_at) rs
due_later due [] each = tt
due_later due (r ∷ rs) each = (leb-true due r.expires_at each.0, due_later due rs each.1)

pub next_end : ListHasSlots → (t : Table) (due : ℕ) → IsFirstEnd due t → IsNextEnd due (state_of t).relays
next_end has t due first = record {
  some = elim (cases_Bool (list_any (λ r. r.expires_at == due) (listed t.slots))) [
    | inl found ↦ found
    | inr none ↦
        let it = first.some in
        let isnt = has.each t.slots (λ r. not (r.expires_at == due)) (not_at due (listed t.slots) none) it.0 it.1 it.2 in
        absurd (differ (not (it.1.expires_at == due)) isnt (ap not (eq-eqb it.1.expires_at due it.3)))
  ];
  least = due_later due (listed t.slots) (has.all t.slots (λ r. nat_le due r.expires_at) (λ slot r there. le-leb due r.expires_at (first.least slot r there)));
}

pub none_left : ListFollowsSlots → (t : Table) → Each t (λ r. ⊥) → (state_of t).relays ≡ []
none_left follows t none = no_relay (listed t.slots) (follows.missing t.slots (λ r. true) (λ slot r there. absurd (none slot r there)))
  where
    no_relay : (rs : List Relay) → AllByRecursion (λ r. true ≡ false) rs → rs ≡ []
    no_relay [] each = refl
    no_relay (r ∷ rs) each = absurd (differ true refl each.0)

pub next_answer : ListFollowsSlots → ListHasSlots → (t : Table) (result : Option ℕ) → IfSome result (λ due. IsFirstEnd due t) → IfNone result (Each t (λ r. ⊥))
    → MatchOption result ((state_of t).relays ≡ []) (λ due. IsNextEnd due (state_of t).relays)
next_answer follows has t None some none = none_left follows t none
next_answer follows has t (Some due) some none = next_end has t due some

-- ---- Calls in a row

run_state : (setup : Setup) (limits : Limits) (events : List Timed) (s : Serving) → IsAfter setup limits events s → s.state ≡ run setup events
run_state setup limits [] s is = ap (λ (x : Serving). x.state) is
run_state setup limits (timed ∷ earlier) s is =
    is.3.state_is ∙ ap (λ (x : State). (step setup timed.rules x timed.now timed.event).state) (run_state setup limits earlier is.0 is.2)

pub calls_run : CallsAreARun
calls_run = record {
  state = run_state;
  next = λ setup limits events timed old new output after one.
      let same = run_state setup limits events old after in
      record {
        output_is = one.output_is ∙ ap (λ (x : State). (step setup timed.rules x timed.now timed.event).output) same;
        ended_are = λ n. one.ended_are n ∙ ap (λ (x : State). times n (step setup timed.rules x timed.now timed.event).closes) same;
      };
}
