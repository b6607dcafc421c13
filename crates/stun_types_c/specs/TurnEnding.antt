-- How the relayed addresses of a TURN server end, as C sees it.
use Rattle.std.specs.Prelude.{◌≡◌, ℕ, List, ◌++◌, [], take, drop, length, Option, None, MatchOption, IsSomeAnd, nat_le, if◌then◌else◌}
use Rattle.turn_machine.specs.Events.{Event, ends, ends_user, ticks, nothing}
use Rattle.turn_machine.specs.Reserving.{plain}
use Rattle.turn_reservations.specs.Calls.{IsOuterStep, IsNextDue as IsNextEnd}
use Rattle.turn_slots.specs.Users.{number_of}
use Rattle.stun_types_c.specs.declared.keys.Hash.{Hash}
use Rattle.stun_types_c.specs.declared.turn_core.TurnCore.{TurnCore}
use Rattle.stun_types_c.specs.TurnClients.{IsSameServer}
use Rattle.stun_types_c.specs.TurnServers.{setup_in, rules_in}

-- ---- What ends

-- a step in which nothing is sent, and how many relayed addresses it ended
pub record Ends (event : Event) (core : TurnCore) (now count : ℕ) (new : TurnCore) : Type 0 where
  pub is_step : IsOuterStep (setup_in core) (rules_in core) core.server now (plain event) nothing None new.server
  pub same : IsSameServer core new
  pub counted : count ≡ length new.server.ended

-- without a server nothing ends
abbrev pub EndsIn : (event : TurnCore → Event) → (now count : ℕ) → (old new : Option TurnCore) → Type 0
EndsIn event now count old new =
    MatchOption old ((count ≡ 0) × (new ≡ None))
    (λ core. IsSomeAnd new (Ends (event core) core now count))

-- what has expired
abbrev pub Polls : (now count : ℕ) → (old new : Option TurnCore) → Type 0
Polls now count old new = EndsIn (λ core. ticks) now count old new

-- and the relayed address with a number, if one has it
abbrev pub EndsOne : (now relay count : ℕ) → (old new : Option TurnCore) → Type 0
EndsOne now relay count old new = EndsIn (λ core. ends relay) now count old new

-- and all of the user with a USERHASH
abbrev pub EndsUser : (now : ℕ) → Hash → (count : ℕ) → (old new : Option TurnCore) → Type 0
EndsUser now user count old new = EndsIn (λ core. ends_user (number_of user.bytes)) now count old new

-- ---- Which sockets are closed

-- those from one on, as many as there is room for; what is after them stays
pub record Lists (numbers : List ℕ) (first : ℕ) (before : List ℕ) (count : ℕ) (after : List ℕ) : Type 0 where
  pub counted : count ≡ length (take (length before) (drop first numbers))
  pub listed : after ≡ take (length before) (drop first numbers) ++ drop count before

-- a call that changes nothing
abbrev pub Looks : (old new : Option TurnCore) → (without : Type 0) → (seen : TurnCore → Type 0) → Type 0
Looks old new without seen = (new ≡ old) × MatchOption old without seen

abbrev pub ListsEnded : (first : ℕ) → (before : List ℕ) → (count : ℕ) → (after : List ℕ)
    → (old new : Option TurnCore) → Type 0
ListsEnded first before count after old new =
    Looks old new ((count ≡ 0) × (after ≡ before)) (λ core. Lists core.server.ended first before count after)

-- the tokens of the reserved sockets that expired
abbrev pub ListsOver : (first : ℕ) → (before : List ℕ) → (count : ℕ) → (after : List ℕ)
    → (old new : Option TurnCore) → Type 0
ListsOver first before count after old new =
    Looks old new ((count ≡ 0) × (after ≡ before)) (λ core. Lists core.server.over first before count after)

-- ---- What there is

-- the greatest number of 64 bits
abbrev pub never : ℕ
never = 18446744073709551615

-- at most this number
abbrev pub shown_due : (due : ℕ) → ℕ
shown_due due = if nat_le due never then due else never

-- the moment at which the next relayed address or reservation expires; if there is neither, it is never
abbrev pub IsDue : TurnCore → ℕ → Type 0
IsDue core shown =
    ((core.server.holding.state.relays ≡ []) × (core.server.holding.held ≡ []) → shown ≡ never)
    × ((due : ℕ) → IsNextEnd due core.server.holding → shown ≡ shown_due due)

abbrev pub IsNextDue : ℕ → (old new : Option TurnCore) → Type 0
IsNextDue shown old new = Looks old new (shown ≡ never) (λ core. IsDue core shown)

abbrev pub Counts : (count : ℕ) → (old new : Option TurnCore) → Type 0
Counts count old new =
    Looks old new (count ≡ 0) (λ core. count ≡ length core.server.holding.state.relays)
