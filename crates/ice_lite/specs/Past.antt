-- What earlier datagrams decide, in words of their own.
use Rattle.std.specs.Prelude.{ℕ, ◌+◌, Bool, false, ◌&&◌, List, [], ◌∷◌, find, Option, None, Some, ◌==◌, nat_lt, if◌then◌else◌}
use Rattle.std.specs.Option.{option_map_or, option_or}
use Rattle.stun_endpoints.specs.declared.endpoints.Endpoint.{Endpoint}
use Rattle.stun_endpoints.specs.Endpoints.{is_endpoint}
use Rattle.ice_machine.specs.Agents.{seconds}
use Rattle.ice_machine.specs.Roles.{is_controlling}
use Rattle.ice_machine.specs.declared.messages.Check.{Check}
use Rattle.ice_machine.specs.Events.{Event, checks, Output, data_to, data_from, nothing}
use Rattle.ice_machine.specs.Runs.{Happening}
use Rattle.ice_lite.specs.Agents.{LiteBase, is_base}

-- a base is of a component
abbrev pub is_of : (component : ℕ) → LiteBase → Bool
is_of component b = b.component == component

-- an authentic check comes to a base of a component, from a peer that is controlling
abbrev pub is_accepted : List LiteBase → (component : ℕ) → Check → Bool
is_accepted bases component c =
    is_controlling c.role && option_map_or (is_of component) (find (is_base c.base) bases) false

-- and has USE-CANDIDATE
abbrev pub is_nomination : List LiteBase → (component : ℕ) → Check → Bool
is_nomination bases component c = is_accepted bases component c && c.nominates

-- and comes to the same base, and from the same address, as another one
abbrev pub is_on : List LiteBase → (component : ℕ) → (other : Check) → Check → Bool
is_on bases component other c =
    is_accepted bases component c && ((other.base == c.base) && is_endpoint c.from other.from)

-- a check, and the moment that counts for it
pub record Heard : Type 0 where
  pub check : Check
  pub moment : ℕ

abbrev pub heard_if : (Check → Bool) → (moment : ℕ) → Event → Option Heard
heard_if test moment (checks c) =
    if test c then Some (record { check = c; moment = moment }) else None
heard_if test moment _ = None

-- the latest check that passes a test
abbrev pub latest : (Check → Bool) → List Happening → Option Heard
latest test [] = None
latest test (h ∷ earlier) = option_or (heard_if test h.moment h.event) (latest test earlier)

-- the moment of the latest check on the pair of a nomination
abbrev pub renewal : List LiteBase → (component : ℕ) → List Happening → Heard → ℕ
renewal bases component earlier n =
    option_map_or (λ last. last.moment) (latest (is_on bases component n.check) earlier) n.moment

-- less than 30 seconds ago (RFC 7675, section 5.1)
abbrev pub is_recent : List LiteBase → (component now : ℕ) → List Happening → Heard → Bool
is_recent bases component now earlier n =
    nat_lt now (renewal bases component earlier n + seconds 30)

-- the data of a component goes to where the latest nomination came from, from the base that it came to
abbrev pub sent_by_past : List LiteBase → (component now : ℕ) → List ℕ → List Happening → Output
sent_by_past bases component now bytes earlier = option_map_or
    (λ n. if is_recent bases component now earlier n then data_to n.check.base n.check.from bytes else nothing)
    (latest (is_nomination bases component) earlier) nothing

-- data is the peer's if it comes from there, to that base
abbrev pub taken_by_past : List LiteBase → (base : ℕ) → (from : Endpoint) → (now : ℕ) → List ℕ
    → List Happening → LiteBase → Output
taken_by_past bases base from now bytes earlier b = option_map_or
    (λ n. if (base == n.check.base)
    && (is_endpoint from n.check.from && is_recent bases b.component now earlier n)
    then data_from b.component bytes else nothing)
    (latest (is_nomination bases b.component) earlier) nothing
