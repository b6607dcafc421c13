use Rattle.std.proofs.Common.{ℕ, List, [], ◌∷◌, find, Option, None, ap, ◌∙◌}
use Rattle.std.specs.Option.{option_map_or}
use Rattle.turn_slots.specs.Users.{user_number}
use Rattle.turn_machine.specs.Events.{Want}
use Rattle.turn_machine.specs.Reserving.{Reservation, is_claim, no_want, reserved_want}
use Rattle.turn_allocations.specs.Setups.{setup_of}
use Rattle.turn_reservations.specs.Requests.{number_for}
use Rattle.turn_reservations.proofs.reserving.claimed_wants.Goals as goal

pub returns-in-None : goal.returns-in-None
returns-in-None c = λ tuple state permissions channels is_open numbers family_is.
    let setup = setup_of c.args.limits.now permissions channels in
    let number = number_for is_open numbers (find (is_claim (user_number c.args.user) c.args.token) c.args.held.now.held) in
    let unready : ℕ → List Want = λ f. record { family = f; ready = None } ∷ [] in
    c.wants_in-in-None.ensures is_open numbers
    ∙ (ap unready (c.unready_family.ensures tuple state permissions channels family_is)
    ∙ ap (λ (o : Option Reservation). option_map_or (reserved_want number) o (no_want setup tuple state) ∷ []) c.in-None.ensures)
