use Rattle.std.proofs.Common.{◌≡◌, ℕ, ◌+◌, ◌*◌, Option, inl, inr, refl, sym, ap, ◌∙◌, subst, arith}
use Rattle.std.specs.Option.{option_map}
use Rattle.turn_slots.specs.Users.{user_number}
use Rattle.turn_machine.specs.Relays.{seconds}
use Rattle.turn_machine.specs.Rows.{own_rows}
use Rattle.turn_machine.specs.Steps.{changed, lasting}
use Rattle.turn_machine.specs.Times.{refreshed_for}
use Rattle.turn_relays.specs.Relayed.{state_of}
use Rattle.turn_allocations.specs.declared.answer.Refusal.{Refusal}
use Rattle.turn_allocations.specs.Answers.{code_of}
use Rattle.turn_allocations.specs.Clients.{Becomes}
use Rattle.turn_allocations.specs.Serving.{or_else}
use Rattle.turn_allocations.proofs.GrantingLemmas.{mine_from}
use Rattle.turn_allocations.proofs.RefreshingLemmas.{fulfilled, served_by}
use Rattle.turn_allocations.proofs.refreshing.refresh.Goals as goal

pub returns-then-lifetime-eq0-clause-serves : goal.returns-then-lifetime-eq0-clause-serves
returns-then-lifetime-eq0-clause-serves g c = λ setup rules tuple greatest owns.
    let t = c.args.relays.now in
    let user = user_number c.args.user in
    let own : (others : Option ℕ) → own_rows tuple user (state_of t) others ≡ others = λ others. c.owner_fault.ensures t tuple others owns ∙ ap (λ (o : Option Refusal). or_else (option_map code_of o) others) c.in_default.is in
    let has_it = sym (c.has_wanted.ensures t tuple owns) ∙ c.if-not-has_wanted.false in
    let left = ap (refreshed_for c.args.lifetime) greatest ∙ sym c.refresh_lifetime-lifetime.ensures in
    served_by setup rules tuple user c.args.family c.args.lifetime t c.end_wanted.new.relays c.args.ended.now c.end_wanted.new.ended c.refresh_lifetime-lifetime.result left
    (fulfilled setup rules tuple user c.args.family c.args.lifetime (state_of t) own has_it)
    (inl (c.if-lifetime-eq0.true, c.end_wanted.ensures.done tuple user owns (mine_from tuple user (state_of t) (own _)))) _ refl

pub returns-else-lifetime-eq0-clause-serves : goal.returns-else-lifetime-eq0-clause-serves
returns-else-lifetime-eq0-clause-serves g c = λ setup rules tuple greatest owns.
    let t = c.args.relays.now in
    let user = user_number c.args.user in
    let n = c.refresh_lifetime-lifetime.result in
    let own : (others : Option ℕ) → own_rows tuple user (state_of t) others ≡ others = λ others. c.owner_fault.ensures t tuple others owns ∙ ap (λ (o : Option Refusal). or_else (option_map code_of o) others) c.in_default.is in
    let has_it = sym (c.has_wanted.ensures t tuple owns) ∙ c.if-not-has_wanted.false in
    let left = ap (refreshed_for c.args.lifetime) greatest ∙ sym c.refresh_lifetime-lifetime.ensures in
    let clock = c.clock.ensures.clock in
    let end : c.clock.result + 1_000_000_000 * n ≡ t.clock + seconds n = omega (arith, clock) in
    let becomes = subst (λ (m : ℕ). Becomes t c.set_ends.new.relays (changed tuple user (lasting c.args.family m) (state_of t))) end (c.set_ends.ensures.becomes tuple user owns (mine_from tuple user (state_of t) (own _))) in
    served_by setup rules tuple user c.args.family c.args.lifetime t c.set_ends.new.relays c.args.ended.now c.args.ended.now n left
    (fulfilled setup rules tuple user c.args.family c.args.lifetime (state_of t) own has_it)
    (inr (c.if-lifetime-eq0.false, becomes, refl)) _ refl
