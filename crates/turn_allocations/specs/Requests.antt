-- What requests ask for, in the machine's terms.
use Rattle.std.specs.Prelude.{◌≡◌, ℕ, ◌+◌, ◌^◌, ◌-◌, ◌*◌, ◌≤◌, Bool, true, List, [], ◌∷◌, ◌++◌, Option, None, Some, find, length, nat_le, if◌then◌else◌}
use Rattle.std.specs.Option.{option_map_or}
use Rattle.stun_endpoints.specs.declared.endpoints.Endpoint.{Endpoint}
use Rattle.stun_endpoints.specs.declared.endpoints.FiveTuple.{FiveTuple}
use Rattle.turn_machine.specs.Relays.{Setup, State, is_for}
use Rattle.turn_machine.specs.Events.{Offer, Want as MachineWant, Request as MachineRequest, allocate, unfit_allocate, refresh, permit_request, bind, unfit, answers}
use Rattle.turn_machine.specs.Opening.{opens}
use Rattle.turn_machine.specs.Steps.{allocates}
use Rattle.turn_relays.specs.Relayed.{Table, state_of}
use Rattle.turn_allocations.specs.declared.families.Families.{Families}
use Rattle.turn_allocations.specs.declared.answer.Given.{Given}
use Rattle.turn_allocations.specs.declared.answer.Answer.{Answer}
use Rattle.turn_allocations.specs.declared.answer.Answer.TheVariants.{Allocated}
use Rattle.turn_allocations.specs.declared.request.Want.{Want}
use Rattle.turn_allocations.specs.declared.request.Want.TheVariants.{No, Unready, Ready}
use Rattle.turn_allocations.specs.declared.request.Request.{Request}
use Rattle.turn_allocations.specs.declared.request.Request.TheVariants.{Allocate, UnfitAllocate, Refresh, CreatePermission, ChannelBind, Unfit}
use Rattle.turn_allocations.specs.Answers.{code_of, answer_of}
use Rattle.turn_allocations.specs.Clients.{Becomes}

-- ---- The sockets that are ready

-- Numbers of 64 bits last for 2^40 - 3 openings. Beyond this bound no socket counts as ready
abbrev pub last_number : ℕ
last_number = 2 ^ 64 - 3 * 2 ^ 24

abbrev pub has_numbers : State → Bool
has_numbers state = nat_le state.next last_number

-- the number of a relayed address in an answer, or 0 if there is none
abbrev pub number_in : Option Given → ℕ
number_in given = option_map_or (λ g. g.number) given 0

abbrev pub numbers_in : Answer → Families ℕ
numbers_in (Allocated given lifetime missing) = record { ipv4 = number_in given.ipv4; ipv6 = number_in given.ipv6 }
numbers_in _ = record { ipv4 = 0; ipv6 = 0 }

-- the socket that is ready, if there are numbers left
abbrev pub offer_of : Bool → (number : ℕ) → Endpoint → Option Offer
offer_of is_open number address = if is_open then Some (record { number = number; address = address }) else None

abbrev pub wants_in : Bool → (family number : ℕ) → Want → List MachineWant
wants_in is_open family number No = []
wants_in is_open family number Unready = record { family = family; ready = None } ∷ []
wants_in is_open family number (Ready address) =
    record { family = family; ready = offer_of is_open number address } ∷ []

-- what an Allocate request asks for, IPv4 first
abbrev pub wants_of : Bool → Families ℕ → Families Want → List MachineWant
wants_of is_open numbers wants =
    wants_in is_open 1 numbers.ipv4 wants.ipv4 ++ wants_in is_open 2 numbers.ipv6 wants.ipv6

-- ---- All requests

abbrev pub asked : State → Answer → Request → MachineRequest
asked state answer (Allocate id lifetime wants) =
    allocate id lifetime (wants_of (has_numbers state) (numbers_in answer) wants)
asked state answer (UnfitAllocate refusal) = unfit_allocate (code_of refusal)
asked state answer (Refresh family lifetime) = refresh family lifetime
asked state answer (CreatePermission peers) = permit_request peers.now
asked state answer (ChannelBind number peer) = bind number peer
asked state answer (Unfit refusal) = unfit (code_of refusal)

-- ---- What an Allocate request opens

-- the number of a client's relayed address of a family, or 0
abbrev pub number_to : FiveTuple → (family : ℕ) → State → ℕ
number_to tuple family state =
    option_map_or (λ a. a.number) (find (is_for tuple family) state.relays) 0

-- opens a relayed address of a family, if the client asks for it and can have it
pub record OpensOf (setup : Setup) (tuple : FiveTuple) (user id expires_at family : ℕ) (want : Want)
    (old new : Table) : Type 0 where
  pub state_is : state_of new ≡ opens setup tuple user id expires_at
      (wants_in true family (number_to tuple family (state_of new)) want) (state_of old)
  pub slots : length new.slots ≡ length old.slots
  pub clock : new.clock ≡ old.clock
  pub openings : new.openings ≤ old.openings + 1

-- opens each want that can be met, for this lifetime in seconds, and answers with what the client has
pub record Grants (setup : Setup) (tuple : FiveTuple) (user id lifetime : ℕ) (wants : Families Want)
    (old new : Table) (answer : Answer) : Type 0 where
  pub becomes : Becomes old new (allocates setup tuple user id lifetime
      (wants_of true (numbers_in answer) wants) (state_of old)).state
  pub answered : (allocates setup tuple user id lifetime
      (wants_of true (numbers_in answer) wants) (state_of old)).output ≡ answers tuple (answer_of answer)
