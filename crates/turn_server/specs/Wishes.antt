-- What the code reads of a user's request, in the machine's terms.
use Rattle.std.specs.Prelude.{ℕ, Option, None, Some}
use Rattle.stun_endpoints.specs.declared.endpoints.FiveTuple.{FiveTuple}
use Rattle.turn_machine.specs.Events.{asks}
use Rattle.turn_machine.specs.Reserving.{OuterState, Outer, plain}
use Rattle.turn_allocations.specs.declared.answer.Answer.{Answer}
use Rattle.turn_allocations.specs.Requests.{asked}
use Rattle.turn_reservations.specs.Requests.{reserving, claiming}
use Rattle.turn_server.specs.declared.wish.Wish.{Wish}
use Rattle.turn_server.specs.declared.wish.Wish.TheVariants.{Reserves, Claims, Asks}

abbrev pub wished : FiveTuple → (user : ℕ) → OuterState → Answer → Wish → Outer
wished tuple user h answer (Reserves r) = reserving h.state answer tuple user r
wished tuple user h answer (Claims c) = claiming h.state h.held answer tuple user c
wished tuple user h answer (Asks request) = plain (asks tuple user (asked h.state answer request))

abbrev pub claim_in : Wish → Option ℕ
claim_in (Reserves r) = None
claim_in (Claims c) = Some c.token
claim_in (Asks request) = None
