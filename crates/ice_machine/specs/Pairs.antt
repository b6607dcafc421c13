-- Candidate pairs (RFC 8445, sections 6.1.2 and 8.1.1): how they are formed, and which one is selected.
use Rattle.std.specs.Prelude.{ℕ, ◌+◌, ◌/◌, ◌^◌, Bool, true, false, not, ◌&&◌, ◌||◌, List, [], ◌∷◌, length, Option, None, Some, nat_lt, ◌==◌, if◌then◌else◌}
use Rattle.std.specs.List.{list_any}
use Rattle.stun_endpoints.specs.declared.endpoints.Ip.{Ip}
use Rattle.ice_machine.specs.Roles.{Role}
use Rattle.ice_machine.specs.Agents.{Base, Remote, Frozen, Pair, State, is_at, is_succeeded, pair_priority}

abbrev pub pair_of : Base → Remote → Pair
pair_of b r = record {
  base = b.number;
  remote = r.address;
  component = b.component;
  priority = b.priority;
  remote_priority = r.priority;
  foundation = b.foundation;
  remote_foundation = r.foundation;
  reflexive_priority = b.reflexive_priority;
  state = Frozen;
  triggered = false;
  heard = false;
  chosen = false;
  nominated = false;
  expires_at = 0;
  succeeded_at = 0;
  due = 0;
  tries = 0;
}

-- an IPv6 address of fe80::/10
abbrev pub is_link_local : Ip → Bool
is_link_local ip = (ip.family == 2) && (ip.number / 2 ^ 118 == 0x3FA)

abbrev pub is_same : Bool → Bool → Bool
is_same true b = b
is_same false b = not b

-- of one component and one address family, and both link-local or neither (6.1.2.2)
abbrev pub fits : Base → Remote → Bool
fits b r =
    (b.component == r.component) && ((b.family == r.address.ip.family)
    && is_same b.link_local (is_link_local r.address.ip))

-- a further pair, unless there is one of the same base and remote address (6.1.2.4), or there is no
-- room (6.1.2.5)
abbrev pub with_pair : (most : ℕ) → Pair → List Pair → List Pair
with_pair most p ps =
    if list_any (is_at p.base p.remote) ps || not (nat_lt (length ps) most) then ps else p ∷ ps

abbrev pub with_pairs : (most : ℕ) → List Pair → List Pair → List Pair
with_pairs most [] ps = ps
with_pairs most (p ∷ more) ps = with_pair most p (with_pairs most more ps)

-- the pair of the greatest score, if that isn't 0; of several, the newest
abbrev pub better : (Pair → ℕ) → Pair → Option Pair → Option Pair
better score p None = if nat_lt 0 (score p) then Some p else None
better score p (Some q) = if nat_lt (score p) (score q) then Some q else Some p

abbrev pub best : (Pair → ℕ) → List Pair → Option Pair
best score [] = None
best score (p ∷ ps) = better score p (best score ps)

-- the selected pair of a component: of the nominated pairs that have succeeded, the one of the greatest
-- priority, since a peer by RFC 5245 may nominate several (8.1.1)
abbrev pub is_selectable : (component : ℕ) → Pair → Bool
is_selectable component p = (p.component == component) && (p.nominated && is_succeeded p.state)

abbrev pub selection_score : Role → (component : ℕ) → Pair → ℕ
selection_score role component p = if is_selectable component p then 1 + pair_priority role p else 0

abbrev pub selected : (component : ℕ) → State → Option Pair
selected component state = best (selection_score state.role component) state.pairs
