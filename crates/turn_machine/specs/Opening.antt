-- What an Allocate request opens (RFC 8656, section 7.2): a relayed address for each of its wants
-- that can be met.
use Rattle.std.specs.Prelude.{ℕ, ◌+◌, Bool, not, ◌&&◌, List, [], ◌∷◌, map, filter, max, if◌then◌else◌}
use Rattle.std.specs.List.{list_any}
use Rattle.std.specs.Option.{option_map_or}
use Rattle.stun_endpoints.specs.declared.endpoints.FiveTuple.{FiveTuple}
use Rattle.turn_machine.specs.Relays.{Relay, Setup, State, is_of, is_for, has_room, has_quota}
use Rattle.turn_machine.specs.Events.{Offer, Want, Given, Missing, Answer, allocated}

-- The number of a socket is greater than all that were given before
abbrev pub number_for : State → Offer → ℕ
number_for state offer = max state.next offer.number

abbrev pub opened : FiveTuple → (user id expires_at family : ℕ) → State → Offer → Relay
opened tuple user id expires_at family state offer = record {
  tuple = tuple;
  user = user;
  transaction_id = id;
  family = family;
  number = number_for state offer;
  address = offer.address;
  expires_at = expires_at;
  permissions = [];
  channels = [];
}

abbrev pub with_relay : FiveTuple → (user id expires_at family : ℕ) → State → Offer → State
with_relay tuple user id expires_at family state offer = record {
  clock = state.clock;
  next = number_for state offer + 1;
  relays = opened tuple user id expires_at family state offer ∷ state.relays;
}

abbrev pub has_of : FiveTuple → (family : ℕ) → State → Bool
has_of tuple family state = list_any (is_for tuple family) state.relays

abbrev pub can_open : Setup → FiveTuple → (user : ℕ) → Want → State → Bool
can_open setup tuple user want state =
    setup.has_family want.family
    && (has_quota setup user state
    && (has_room setup state && not (has_of tuple want.family state)))

abbrev pub opens_one : Setup → FiveTuple → (user id expires_at : ℕ) → Want → State → State
opens_one setup tuple user id expires_at want state =
    if can_open setup tuple user want state
    then option_map_or (with_relay tuple user id expires_at want.family state) want.ready state
    else state

abbrev pub opens : Setup → FiveTuple → (user id expires_at : ℕ) → List Want → State → State
opens setup tuple user id expires_at [] state = state
opens setup tuple user id expires_at (want ∷ wants) state =
    opens setup tuple user id expires_at wants (opens_one setup tuple user id expires_at want state)

-- ---- The success response: the relayed addresses that the client now has, and for each family
-- that it has none of the reason. A request that comes again gets the same response

abbrev pub given_to : FiveTuple → State → List Given
given_to tuple state =
    map (λ a. record { family = a.family; number = a.number; address = a.address })
    (filter (is_of tuple) state.relays)

abbrev pub missing_to : Setup → FiveTuple → List Want → State → List Missing
missing_to setup tuple wants state =
    map (λ w. record { family = w.family; code = if setup.has_family w.family then 508 else 440 })
    (filter (λ w. not (has_of tuple w.family state)) wants)

abbrev pub allocation_answer : Setup → FiveTuple → (lifetime : ℕ) → List Want → State → Answer
allocation_answer setup tuple lifetime wants state =
    allocated (given_to tuple state) lifetime (missing_to setup tuple wants state)
