-- The pair of the greatest score, with its score; and what is known of a component.
use Rattle.std.specs.Prelude.{◌≡◌, ℕ, ◌+◌, Bool, ◌&&◌, ◌||◌, ◌==◌, Option, None, Some, nat_lt, nat_le, if◌then◌else◌}
use Rattle.std.specs.List.{list_any}
use Rattle.ice_machine.specs.declared.roles.Role.{Role}
use Rattle.ice_machine.specs.declared.pairs.Pair.{Pair}
use Rattle.ice_machine.specs.Agents.{is_succeeded, is_frozen, pair_priority}
use Rattle.ice_machine.specs.Checks.{is_under_way}
use Rattle.ice_agent_state.specs.declared.choosing.Standing.{Standing}
use Rattle.ice_agent_state.specs.Agents.{Held}

abbrev pub better_scored : (score : ℕ) → Pair → Option (Pair × ℕ) → Option (Pair × ℕ)
better_scored score p None = if nat_lt 0 score then Some (p, score) else None
better_scored score p (Some (q, greatest)) =
    if nat_lt score greatest then Some (q, greatest) else Some (p, score)

abbrev pub scored : (Pair → ℕ) → Pair → Pair × ℕ
scored score p = (p, score p)

-- a pair of the same component and of a greater priority, which may still succeed (8.1.1)
abbrev pub is_hoped_for_in : Role → Pair → Pair → Bool
is_hoped_for_in role p q =
    (p.component == q.component) && (nat_lt (pair_priority role p) (pair_priority role q)
    && (is_frozen q.state || is_under_way q.state))

-- ---- What is known of a component (8.1.1)

-- a pair of it is picked or nominated
abbrev pub is_settled_of : (component : ℕ) → Pair → Bool
is_settled_of component q = (component == q.component) && (q.chosen || q.nominated)

-- a pair of it has been valid for so long
abbrev pub is_long_valid_of : (clock patience component : ℕ) → Pair → Bool
is_long_valid_of clock patience component q =
    (component == q.component) && (is_succeeded q.state && nat_le (q.succeeded_at + patience) clock)

-- whether there is such a pair
abbrev pub IsStanding : Held → (component : ℕ) → Standing → Type 0
IsStanding held component s =
    (s.is_settled ≡ list_any (is_settled_of component) held.state.pairs)
    × (s.is_over ≡ list_any (is_long_valid_of held.state.clock held.setup.patience component)
    held.state.pairs)
