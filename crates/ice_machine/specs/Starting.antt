-- Agents that have their candidates and nothing else: the premises of a meeting, in terms of their lists.
use Rattle.std.specs.Prelude.{◌≡◌, ℕ, ◌⊎◌, ◌==◌, ◌&&◌, Bool, true, false, List, Option, None}
use Rattle.std.specs.List.{AllByRecursion, list_any}
use Rattle.stun_endpoints.specs.declared.endpoints.Endpoint.{Endpoint}
use Rattle.ice_machine.specs.Agents.{Pair, Setup, is_at}
use Rattle.ice_machine.specs.Events.{Event, gathers, learns, meets, ends, checks, responds, strays, arrives, sends, polls}
use Rattle.ice_machine.specs.Steps.{is_base}
use Rattle.ice_machine.specs.Runs.{Begin, Timed, run}
use Rattle.ice_machine.specs.Networks.{Place}
use Rattle.ice_machine.specs.Meetings.{End}

-- candidates and credentials, as they become known, at the beginning of the clock
abbrev pub is_told : Event → Bool
is_told (gathers b) = true
is_told (learns r) = true
is_told meets = true
is_told ends = true
is_told (checks c) = false
is_told (responds base from id answer) = false
is_told (strays base from id size code) = false
is_told (arrives base from bytes) = false
is_told (sends component bytes) = false
is_told polls = false

abbrev pub IsTelling : Timed → Type 0
IsTelling t = (is_told t.event ≡ true) × (t.now ≡ 0)

-- the pair of the way; or one on which nothing comes back, of other foundations
pub record IsWayPair (e : End) (p : Pair) : Type 0 where
  pub there : is_at e.base e.to p ≡ true
  pub component : p.component ≡ e.component
  pub foundation : p.foundation ≡ e.foundation
  pub remote_foundation : p.remote_foundation ≡ e.remote_foundation

pub record IsDeadPair (e : End) (net : ℕ → Endpoint → Option Place) (p : Pair) : Type 0 where
  pub elsewhere : is_at e.base e.to p ≡ false
  pub unanswered : net p.base p.remote ≡ None
  pub apart : ((e.foundation == p.foundation) && (e.remote_foundation == p.remote_foundation)) ≡ false

abbrev pub IsWayOrDead : End → (ℕ → Endpoint → Option Place) → Pair → Type 0
IsWayOrDead e net p = IsWayPair e p ⊎ IsDeadPair e net p

-- an agent with candidates for the way, and for no other path that works
pub record HasWay (e : End) (net : ℕ → Endpoint → Option Place) (setup : Setup) (b : Begin)
    (events : List Timed) : Type 0 where
  pub told : AllByRecursion IsTelling events
  pub ready : (run setup b events).ready ≡ true
  pub based : list_any (is_base e.base) (run setup b events).bases ≡ true
  pub way : list_any (is_at e.base e.to) (run setup b events).pairs ≡ true
  pub each : AllByRecursion (IsWayOrDead e net) (run setup b events).pairs
