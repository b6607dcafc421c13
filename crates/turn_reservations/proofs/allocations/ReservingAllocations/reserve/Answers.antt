use Rattle.std.proofs.Common.{◌≡◌, ℕ, Bool, cond, List, not, find, Option, None, Some, refl, sym, ap, ◌∙◌, subst}
use Rattle.std.specs.List.{list_any}
use Rattle.std.specs.Option.{option_map_or}
use Rattle.std.specs.Prelude.{◌&&◌, max, is_some}
use Rattle.stun_endpoints.specs.declared.endpoints.Endpoint.{Endpoint}
use Rattle.turn_slots.specs.Users.{user_number}
use Rattle.turn_machine.specs.Relays.{State}
use Rattle.turn_machine.specs.Events.{Event, answers}
use Rattle.turn_machine.specs.Times.{at}
use Rattle.turn_machine.specs.Rows.{has_any}
use Rattle.turn_machine.specs.Reserving.{Reservation, has_place, can_reserve, held_after, is_reserved_by, is_success, is_token, token_for}
use Rattle.turn_allocations.specs.declared.limits.Limits.{Limits}
use Rattle.turn_allocations.specs.Answers.{answer_of}
use Rattle.turn_allocations.specs.Requests.{has_numbers, numbers_in}
use Rattle.turn_allocations.specs.Setups.{rules_of, setup_of}
use Rattle.turn_allocations.specs.Tables.{IsStep}
use Rattle.turn_reservations.specs.Calls.{Reserving, IsOuterStep}
use Rattle.turn_reservations.specs.Held.{Holding, family_number}
use Rattle.turn_reservations.specs.Requests.{want_in, with_reserved, reserving}
use Rattle.turn_reservations.proofs.AskingLemmas.{not_flipped, none_has, pair_event, keeps}
use Rattle.turn_reservations.proofs.SteppingLemmas.{with_held, state_is, stepped}
use Rattle.turn_reservations.proofs.allocations.ReservingAllocations.reserve.Goals as goal

pub returns : goal.returns
returns g c =
    let setup = λ (l : Limits). setup_of l g.row.P g.row.C in
    let rules = rules_of (g.A.PeerPolicy.allows_address c.args.policy.now) (g.A.PeerPolicy.allows_port c.args.policy.now) in
    let now = c.args.now in
    let tuple = c.args.tuple.now in
    let user = user_number c.args.user in
    let r = c.args.reserve in
    let old = c.args.self.now in
    let mid = c.self.inside.allocations in
    let s = at now mid.state in
    let held = c.self.inside.held in
    let sweeps = c.self.view_is ∙ c.sweep.ensures in
    let answer = c.request-answer.result in
    let output = answers tuple (answer_of answer) in
    let new = c.request-answer.new.self in
    let next = c.place_for-next.result in
    let can = can_reserve (setup mid.limits) user r.next r.token held.held in
    let next_is : next ≡ cond can r.next None =
    c.place_for-next.ensures.place g.row.P g.row.C ∙ ap (λ (l : Limits). cond (can_reserve (setup l) user r.next r.token held.held) r.next None) c.limits-limits.ensures in
    let event = pair_event (setup mid.limits) s answer tuple user r held.held next c.pair_wants.result next_is (c.pair_wants.ensures (has_numbers s) (numbers_in answer)) in
    let opening : (c.is_none.result && c.is_success-is_success.result) ≡ (not (has_any tuple s) && is_success output) =
    ap (λ (b : Bool). b && c.is_success-is_success.result) (not_flipped (is_some c.family_of-family.result) c.is_none.result c.is_none.ensures ∙ none_has tuple s c.family_of-family.result c.family_of-family.ensures.newest)
    ∙ ap (λ (b : Bool). not (has_any tuple s) && b) (c.is_success-is_success.ensures tuple) in
    let opened_is : c.if_opening-opened.result ≡ cond (not (has_any tuple s) && is_success output) (cond can r.next None) None =
    c.if_opening-opened.ensures
    ∙ (ap (λ (b : Bool). cond b next None) opening
    ∙ ap (λ (o : Option Endpoint). cond (not (has_any tuple s) && is_success output) o None) next_is) in
    let kept = c.keep.new.held.held in
    let want = want_in (has_numbers s) (numbers_in answer) (family_number r.family) r.address in
    let kept_is : kept ≡ held_after (setup mid.limits) s (reserving s answer tuple user r) output held.held =
    ap (λ (h : Holding). h.held) c.keep.ensures
    ∙ (ap (λ (clock : ℕ). with_reserved clock tuple user r c.if_opening-opened.result held.held) (c.clock_at-clock.ensures.clock ∙ ap (λ (v : Reserving). max v.holding.state.clock now) (sym c.self.view_is))
    ∙ (ap (λ (o : Option Endpoint). with_reserved s.clock tuple user r o held.held) opened_is
    ∙ keeps s.clock tuple user r want held.held refl (not (has_any tuple s) && is_success output) (has_place (setup mid.limits) user held.held && not (list_any (is_token r.token) held.held)) r.next)) in
    let token_is : c.token_for-token.result ≡ token_for (reserving s answer tuple user r) output kept =
    c.token_for-token.ensures
    ∙ ap (λ (b : Bool). cond b (option_map_or (λ (x : Reservation). Some x.token) (find (is_reserved_by tuple user r.id) kept) None) None) (c.is_success-is_success.ensures tuple) in
    let done = stepped setup rules old mid held.held held.over now sweeps new kept (reserving s answer tuple user r) output c.token_for-token.result
    (subst (λ (e : Event). IsStep (setup mid.limits) rules mid now e output new) event c.request-answer.ensures) kept_is token_is in
    let over_is = ap (λ (h : Holding). h.over) c.keep.ensures in
    subst (λ (o : List ℕ). IsOuterStep (setup old.limits) rules old now (reserving (at now old.holding.state) answer tuple user r) output c.token_for-token.result (with_held new kept o)) (sym over_is)
    (subst (λ (x : State). IsOuterStep (setup old.limits) rules old now (reserving (at now x) answer tuple user r) output c.token_for-token.result (with_held new kept held.over))
    (state_is setup rules old mid held.held held.over now sweeps) done)
