-- Until when time changes nothing in an agent's lists.
use Rattle.std.specs.Prelude.{◌≡◌, ℕ, ◌<◌, ◌^◌, true, false, min, Option, None, Some}
use Rattle.ice_machine.specs.declared.pairs.Pair.{Pair}
use Rattle.ice_machine.specs.declared.messages.Request.{Request}
use Rattle.ice_machine.specs.Agents.{Setup}
use Rattle.ice_machine.specs.Steps.{is_awaited}
use Rattle.ice_agent_state.specs.Waking.{ends_by}

-- before this moment the pair neither fails nor is lost
abbrev pub IsSteady : Setup → (until : ℕ) → Pair → Type 0
IsSteady setup until p = (now : ℕ) → now < until → ends_by setup p now ≡ false

-- before this moment a response to the request counts
abbrev pub StaysAwaited : (until : ℕ) → Request → Type 0
StaysAwaited until r = (now : ℕ) → now < until → is_awaited now r ≡ true

-- a moment as a bound for those that the caller's clock can show
abbrev pub capped : Option ℕ → ℕ
capped None = 2 ^ 64
capped (Some moment) = min moment (2 ^ 64)
