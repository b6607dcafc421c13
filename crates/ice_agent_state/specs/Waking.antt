-- The next moment at which a poll does something by time alone.
use Rattle.std.specs.Prelude.{◌≡◌, ℕ, ◌<◌, ◌≤◌, ◌^◌, ◌⊎◌, Bool, true, false, ◌&&◌, ◌||◌, List, filter, min, max, Option, None, Some, nat_lt, nat_le}
use Rattle.std.specs.List.{list_any}
use Rattle.ice_machine.specs.declared.pairs.Pair.{Pair}
use Rattle.ice_machine.specs.Agents.{Setup, State}
use Rattle.ice_machine.specs.Events.{polls, nothing}
use Rattle.ice_machine.specs.Checks.{is_long_valid, is_choice, urgency}
use Rattle.ice_machine.specs.Steps.{is_unanswered, is_over, is_awaited}
use Rattle.ice_machine.specs.Bounds.{is_asking}
use Rattle.ice_agent_state.specs.Agents.{Held, after, output_at}

-- a check that no response came to fails by a moment (RFC 8445, section 7.2.5.2.3), or consent expires (RFC
-- 7675, section 5.1)
abbrev pub ends_by : Setup → Pair → (now : ℕ) → Bool
ends_by setup p now = is_unanswered setup now p || is_over now p

abbrev pub some_by : (Pair → ℕ → Bool) → List Pair → (now : ℕ) → Bool
some_by test ps now = list_any (λ p. test p now) ps

-- a poll sends a request, or a pair fails or is lost
abbrev pub IsEventful : Held → (now : ℕ) → Type 0
IsEventful held now = (fresh : ℕ)
    → (is_asking (output_at now fresh polls held) ≡ true)
    ⊎ (some_by (ends_by held.setup) held.state.pairs now ≡ true)

-- a poll sends nothing, and changes nothing but the clock and which requests are waited for
pub record IsQuiet (held : Held) (now : ℕ) : Type 0 where
  pub sends : (fresh : ℕ) → output_at now fresh polls held ≡ nothing
  pub keeps : (fresh : ℕ) → after now fresh polls held ≡ record held {
    state = record held.state {
      clock = now;
      requests = filter (is_awaited now) held.state.requests;
    };
  }

-- every poll before that moment is quiet, and every one from it on is eventful
pub record IsWake (held : Held) (wake : ℕ) : Type 0 where
  pub later : held.state.clock ≤ wake
  pub quiet : (now : ℕ) → held.state.clock ≤ now → now < wake → IsQuiet held now
  pub eventful : (now : ℕ) → wake ≤ now → now < 2 ^ 64 → IsEventful held now

-- the moment, if there is one below 2^64
abbrev pub IsNextWake : Held → Option ℕ → Type 0
IsNextWake held None = (now : ℕ) → held.state.clock ≤ now → now < 2 ^ 64 → IsQuiet held now
IsNextWake held (Some wake) = IsWake held wake

-- ---- The moments of one pair

-- a test that fails at each moment before this one, and holds from it on
abbrev pub HoldsFrom : (ℕ → Bool) → Option ℕ → Type 0
HoldsFrom test None = (now : ℕ) → now < 2 ^ 64 → test now ≡ false
HoldsFrom test (Some start) = (now : ℕ) → now < 2 ^ 64 → test now ≡ nat_le start now

abbrev pub sooner : Option ℕ → Option ℕ → Option ℕ
sooner None n = n
sooner (Some m) None = Some m
sooner (Some m) (Some n) = Some (min m n)

-- the pairs as they are, at a moment
abbrev pub timed : State → (now : ℕ) → State
timed state now = record state { clock = now }

abbrev pub is_choice_by : Setup → State → Pair → (now : ℕ) → Bool
is_choice_by setup state p now = is_choice setup (timed state now) p

-- another pair of its component has been valid for the whole patience by a moment
abbrev pub is_long_valid_by : Setup → State → Pair → Pair → (now : ℕ) → Bool
is_long_valid_by setup state p q now = is_long_valid setup (timed state now) p q

-- a request on a pair is due by a moment
abbrev pub is_due_by : Setup → State → Pair → (now : ℕ) → Bool
is_due_by setup state p now = nat_lt 0 (urgency setup (timed state now) p)

-- a request is sent by a moment
abbrev pub asks_by : Setup → State → (now : ℕ) → Bool
asks_by setup state now =
    (state.ready && nat_le state.next_request_at now)
    && some_by (is_due_by setup state) state.pairs now

-- not before the gate opens
abbrev pub gated : (ready : Bool) → (gate : ℕ) → Option ℕ → Option ℕ
gated false gate due = None
gated true gate None = None
gated true gate (Some due) = Some (max gate due)

-- in the caller's width, and not before the clock
abbrev pub in_width : Bool → (wake : ℕ) → Option ℕ
in_width true wake = Some wake
in_width false wake = None

abbrev pub wake_of : (clock : ℕ) → Option ℕ → Option ℕ
wake_of clock None = None
wake_of clock (Some wake) = in_width (nat_lt (max wake clock) (2 ^ 64)) (max wake clock)
