-- Answers to requests, in the machine's terms.
use Rattle.std.specs.Prelude.{ℕ, List, [], ◌∷◌, ◌++◌, Option, None, Some}
use Rattle.std.specs.Option.{option_map}
use Rattle.turn_machine.specs.Events.{Given as GivenAddress, Missing, Answer as MachineAnswer, allocated, refreshed, done, refused}
use Rattle.turn_relays.specs.Newest.{newest_first}
use Rattle.turn_allocations.specs.declared.families.Families.{Families}
use Rattle.turn_allocations.specs.declared.answer.Refusal.{Refusal}
use Rattle.turn_allocations.specs.declared.answer.Refusal.TheVariants.{BadRequest, Forbidden, AllocationMismatch, AddressFamilyNotSupported, WrongCredentials, UnsupportedTransportProtocol, PeerAddressFamilyMismatch, AllocationQuotaReached, InsufficientCapacity}
use Rattle.turn_allocations.specs.declared.answer.Given.{Given}
use Rattle.turn_allocations.specs.declared.answer.Answer.{Answer}
use Rattle.turn_allocations.specs.declared.answer.Answer.TheVariants.{Allocated, Refreshed, Done, Refused}

-- error codes (RFC 8489, section 14.8, and RFC 8656, section 19)
abbrev pub code_of : Refusal → ℕ
code_of BadRequest = 400
code_of Forbidden = 403
code_of AllocationMismatch = 437
code_of AddressFamilyNotSupported = 440
code_of WrongCredentials = 441
code_of UnsupportedTransportProtocol = 442
code_of PeerAddressFamilyMismatch = 443
code_of AllocationQuotaReached = 486
code_of InsufficientCapacity = 508

-- a relayed address of a family
abbrev pub given_in : (family : ℕ) → Given → GivenAddress
given_in family g = record { family = family; number = g.number; address = g.address }

-- the relayed addresses that a client has, the newest first
abbrev pub given_list : Families (Option Given) → List GivenAddress
given_list given =
    newest_first (λ g. g.number)
    (option_map (given_in 1) given.ipv4 ∷ option_map (given_in 2) given.ipv6 ∷ [])

-- the families of which it has no relayed address, with the reason
abbrev pub missing_in : (family : ℕ) → Option Refusal → List Missing
missing_in family None = []
missing_in family (Some refusal) = record { family = family; code = code_of refusal } ∷ []

abbrev pub missing_list : Families (Option Refusal) → List Missing
missing_list missing = missing_in 1 missing.ipv4 ++ missing_in 2 missing.ipv6

abbrev pub answer_of : Answer → MachineAnswer
answer_of (Allocated given lifetime missing) =
    allocated (given_list given) lifetime (missing_list missing)
answer_of (Refreshed lifetime) = refreshed lifetime
answer_of Done = done
answer_of (Refused refusal) = refused (code_of refusal)
