use Rattle.std.proofs.Common.{◌≡◌, true, List, [], length, sym, ap, ◌∙◌, subst}
use Rattle.std.specs.List.{AllByRecursion}
use Rattle.std.proofs.lemmas.List.{length-replicate}
use Rattle.turn_machine.specs.Relays.{Relay}
use Rattle.turn_relays.specs.Relayed.{Table, state_of}
use Rattle.turn_allocations.specs.Clients.{is_sound, AreSound}
use Rattle.turn_allocations.specs.Ending.{Numbers}
use Rattle.turn_allocations.proofs.SteppingLemmas.{none_listed}
use Rattle.turn_allocations.proofs.allocations.Allocations.new.Goals as goal

pub invariant_of-result : goal.invariant_of-result
invariant_of-result g c = record {
  slots = ap (λ (t : Table). length t.slots) c.in_ok-relays.ensures ∙ length-replicate c.args.limits.relays _;
  room = ap (λ (n : Numbers). n.room) c.in_ok-ended.ensures;
  sound = subst AreSound (sym c.in_ok-relays.ensures) (subst (λ (rs : List Relay). AllByRecursion (λ r. is_sound 0 r ≡ true) rs) (sym (none_listed c.args.limits.relays)) tt);
}

pub returns : goal.returns
returns g c =
    ap (λ (t : Table). record { limits = c.args.limits; state = state_of t; ended = c.in_ok-ended.ended.numbers }) c.in_ok-relays.ensures
    ∙ (ap (λ (rs : List Relay). record { limits = c.args.limits; state = record { clock = 0; next = 0; relays = rs }; ended = c.in_ok-ended.ended.numbers }) (none_listed c.args.limits.relays)
    ∙ ap (λ (n : Numbers). record { limits = c.args.limits; state = record { clock = 0; next = 0; relays = [] }; ended = n.numbers }) c.in_ok-ended.ensures)
