use Rattle.std.proofs.Common.{◌≡◌, ◌+◌, ◌<◌, ◌≤◌, ◌++◌, [], ◌∷◌, ℕ, not, length, refl, sym, ap, ◌∙◌, subst, arith}
use Rattle.std.proofs.lemmas.Bool.{not_from_false, not_from_true, false_from_ne_true, ltb-true, lt-ltb}
use Rattle.turn_machine.specs.Relays.{Relay, is_live}
use Rattle.turn_machine.specs.Times.{at}
use Rattle.turn_relays.specs.Relayed.{Table, state_of}
use Rattle.turn_relays.specs.Following.{listed}
use Rattle.turn_allocations.specs.Clients.{Becomes}
use Rattle.turn_allocations.proofs.SweepingLemmas.{ending_begins, ending_goes_on, ending_ends, expired_left, has_place, fewer}
use Rattle.turn_allocations.proofs.sweeping.end_expired.Goals as goal

pub expired-init : goal.expired-init
expired-init g c = ending_begins (λ a. not (is_live c.args.relays.now.clock a)) c.args.relays.now c.args.ended.now c.requires

pub returns-in_default-clause-left : goal.returns-in_default-clause-left
returns-in_default-clause-left g c =
    let none = c.in_default.ensures.none in
    let clock = c.args.relays.now.clock in
    let live : (slot : ℕ) (r : Relay) → _ → not (is_live clock r) ≡ _ = λ slot r there. not_from_true (is_live clock r) (lt-ltb clock r.expires_at (subst (λ (n : ℕ). n < r.expires_at) c.expired.invariant.clock_is (none.0 slot r there))) in
    let done = ending_ends c.list_follows_slots.ensures c.lists_have_slots.ensures (λ a. not (is_live clock a)) c.args.relays.now c.args.ended.now c.expired.relays c.expired.ended c.expired.invariant live in
    subst (λ (t : Table). Becomes c.args.relays.now t (at clock (state_of c.args.relays.now))) (sym none.1) (expired_left clock c.args.relays.now c.expired.relays refl c.args.ended.now c.expired.ended done).0

pub returns-in_default-clause-ended : goal.returns-in_default-clause-ended
returns-in_default-clause-ended g c =
    let none = c.in_default.ensures.none in
    let clock = c.args.relays.now.clock in
    let live : (slot : ℕ) (r : Relay) → _ → not (is_live clock r) ≡ _ = λ slot r there. not_from_true (is_live clock r) (lt-ltb clock r.expires_at (subst (λ (n : ℕ). n < r.expires_at) c.expired.invariant.clock_is (none.0 slot r there))) in
    let done = ending_ends c.list_follows_slots.ensures c.lists_have_slots.ensures (λ a. not (is_live clock a)) c.args.relays.now c.args.ended.now c.expired.relays c.expired.ended c.expired.invariant live in
    (expired_left clock c.args.relays.now c.expired.relays refl c.args.ended.now c.expired.ended done).1

pub returns-in_default-clause-room : goal.returns-in_default-clause-room
returns-in_default-clause-room g c =
    subst (λ (t : Table). length c.expired.ended.numbers + length (listed t.slots) ≤ c.expired.ended.room) (sym c.in_default.ensures.none.1) c.expired.invariant.room

pub push-requires : goal.push-requires
push-requires g c =
    let it = c.in-Some.ensures.some in
    has_place c.list_follows_slots.ensures c.lists_have_slots.ensures c.expired.relays c.numbers_are_distinct.ensures it.0 it.1 it.2 c.expired.ended c.expired.invariant.room

pub expired-smaller : goal.expired-smaller
expired-smaller g c =
    let it = c.in-Some.ensures.some in
    let less = fewer c.list_follows_slots.ensures c.lists_have_slots.ensures c.expired.relays c.numbers_are_distinct.ensures it.0 it.1 it.2 in
    let is = ap (λ (t : Table). length (listed t.slots)) it.5 in
    omega (arith, less, is)

pub expired-preserved : goal.expired-preserved
expired-preserved g c =
    let it = c.in-Some.ensures.some in
    let clock = c.args.relays.now.clock in
    let pushed = c.push.ensures ∙ ap (λ (n : ℕ). record c.expired.ended { numbers = c.expired.ended.numbers ++ n ∷ [] }) (sym it.3) in
    let over = it.4 in
    let same = c.expired.invariant.clock_is in
    let ended : not (is_live clock it.1) ≡ _ = not_from_false (is_live clock it.1) (false_from_ne_true (is_live clock it.1) (λ live. let lt = ltb-true clock it.1.expires_at live in absurd (omega (arith, lt, over, same)))) in
    ending_goes_on c.list_follows_slots.ensures c.lists_have_slots.ensures (λ a. not (is_live clock a)) c.args.relays.now c.args.ended.now c.expired.relays c.expired.ended c.expired.invariant c.numbers_are_distinct.ensures
    it.0 it.1 it.2 ended c.end_due.new.self it.5 c.push.new.self pushed
