-- How often the agent has tried a pair: what every pair of an agent satisfies.
use Rattle.std.specs.Prelude.{◌≡◌, ℕ, ◌≤◌, Bool, false}
use Rattle.ice_machine.specs.declared.pairs.Pair.{Pair}
use Rattle.ice_machine.specs.declared.pairs.PairState.{PairState}
use Rattle.ice_machine.specs.declared.pairs.PairState.TheVariants.{Frozen, Waiting, InProgress, Succeeded, Failed, Lost}

-- not at all while it is frozen or waiting, and at most so often otherwise; and only a waiting or a valid
-- pair is in the triggered-check queue
abbrev pub IsTriedIn : (most tries : ℕ) → (triggered : Bool) → PairState → Type 0
IsTriedIn most tries triggered Frozen = (tries ≡ 0) × (triggered ≡ false)
IsTriedIn most tries triggered Waiting = tries ≡ 0
IsTriedIn most tries triggered InProgress = (tries ≤ most) × (triggered ≡ false)
IsTriedIn most tries triggered Succeeded = tries ≤ most
IsTriedIn most tries triggered Failed = (tries ≤ most) × (triggered ≡ false)
IsTriedIn most tries triggered Lost = (tries ≤ most) × (triggered ≡ false)

abbrev pub IsTried : (most : ℕ) → Pair → Type 0
IsTried most p = IsTriedIn most p.tries p.triggered p.state
