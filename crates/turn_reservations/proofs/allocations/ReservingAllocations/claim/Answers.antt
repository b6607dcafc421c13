use Rattle.std.proofs.Common.{◌≡◌, ℕ, Bool, cond, List, [], ◌∷◌, not, filter, find, None, refl, sym, ap, ◌∙◌, subst}
use Rattle.std.specs.Prelude.{◌&&◌, is_some}
use Rattle.turn_slots.specs.Users.{user_number}
use Rattle.turn_machine.specs.Relays.{State}
use Rattle.turn_machine.specs.Events.{Want, Event, allocate, asks, answers}
use Rattle.turn_machine.specs.Times.{at}
use Rattle.turn_machine.specs.Rows.{has_any}
use Rattle.turn_machine.specs.Reserving.{Reservation, claimed_want, held_at, held_after, inner, is_claim, is_success, is_token}
use Rattle.turn_allocations.specs.declared.limits.Limits.{Limits}
use Rattle.turn_allocations.specs.Answers.{answer_of}
use Rattle.turn_allocations.specs.Requests.{has_numbers, numbers_in, wants_of}
use Rattle.turn_allocations.specs.Setups.{rules_of, setup_of}
use Rattle.turn_allocations.specs.Tables.{IsStep}
use Rattle.turn_reservations.specs.Calls.{IsOuterStep}
use Rattle.turn_reservations.specs.Held.{Holding}
use Rattle.turn_reservations.specs.Requests.{number_for, claiming}
use Rattle.turn_reservations.proofs.AskingLemmas.{not_flipped, none_has}
use Rattle.turn_reservations.proofs.SteppingLemmas.{with_held, state_is, held_is, stepped}
use Rattle.turn_reservations.proofs.allocations.ReservingAllocations.claim.Goals as goal

pub returns : goal.returns
returns g c =
    let setup = λ (l : Limits). setup_of l g.row.P g.row.C in
    let rules = rules_of (g.A.PeerPolicy.allows_address c.args.policy.now) (g.A.PeerPolicy.allows_port c.args.policy.now) in
    let now = c.args.now in
    let tuple = c.args.tuple.now in
    let user = user_number c.args.user in
    let claim = c.args.claim in
    let old = c.args.self.now in
    let mid = c.self.inside.allocations in
    let s = at now mid.state in
    let held = c.self.inside.held in
    let sweeps = c.self.view_is ∙ c.sweep.ensures in
    let answer = c.request-answer.result in
    let output = answers tuple (answer_of answer) in
    let new = c.request-answer.new.self in
    let family = c.family_of-family.result in
    let outer = claiming s held.held answer tuple user claim in
    let number = number_for (has_numbers s) (numbers_in answer) (find (is_claim user claim.token) held.held) in
    let wants_is =
    c.claimed_wants.ensures tuple s g.row.P g.row.C (has_numbers s) (numbers_in answer) c.family_of-family.ensures.newest
    ∙ ap (λ (l : Limits). claimed_want (setup l) tuple user claim.token number s held.held ∷ []) c.limits-limits.ensures in
    let event : asks tuple user (allocate claim.id claim.lifetime (wants_of (has_numbers s) (numbers_in answer) c.claimed_wants.result)) ≡ inner (setup mid.limits) s held.held outer =
    ap (λ (ws : List Want). asks tuple user (allocate claim.id claim.lifetime ws)) wants_is in
    let opening : (c.is_none.result && c.is_success.result) ≡ (not (has_any tuple s) && is_success output) =
    ap (λ (b : Bool). b && c.is_success.result) (not_flipped (is_some family) c.is_none.result c.is_none.ensures ∙ none_has tuple s family c.family_of-family.ensures.newest)
    ∙ ap (λ (b : Bool). not (has_any tuple s) && b) (c.is_success.ensures tuple) in
    let kept = c.use_up.new.held.held in
    let kept_is : kept ≡ held_after (setup mid.limits) s outer output held.held =
    ap (λ (h : Holding). h.held) c.use_up.ensures
    ∙ ap (λ (b : Bool). cond b (filter (λ r. not (is_token claim.token r)) held.held) held.held) opening in
    let done = stepped setup rules old mid held.held held.over now sweeps new kept outer output None
    (subst (λ (e : Event). IsStep (setup mid.limits) rules mid now e output new) event c.request-answer.ensures) kept_is refl in
    subst (λ (o : List ℕ). IsOuterStep (setup old.limits) rules old now (claiming (at now old.holding.state) (held_at now old.holding) answer tuple user claim) output None (with_held new kept o)) (sym (ap (λ (h : Holding). h.over) c.use_up.ensures))
    (subst (λ (x : State). IsOuterStep (setup old.limits) rules old now (claiming (at now x) (held_at now old.holding) answer tuple user claim) output None (with_held new kept held.over))
    (state_is setup rules old mid held.held held.over now sweeps)
    (subst (λ (l : List Reservation). IsOuterStep (setup old.limits) rules old now (claiming s l answer tuple user claim) output None (with_held new kept held.over))
    (held_is setup rules old mid held.held held.over now sweeps) done))
