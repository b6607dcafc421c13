-- The calls of a run of an agent, with the datagrams that it is passed, and what it sends at each.
use Rattle.std.specs.Prelude.{◌≡◌, ℕ, ◌⊎◌, ◌+◌, Bool, true, false, List, [], ◌∷◌, max, if◌then◌else◌}
use Rattle.std.specs.List.{AllByRecursion}
use Rattle.stun_grammar.specs.declared.integrity_algorithm.IntegrityAlgorithm.{IntegrityAlgorithm}
use Rattle.stun_grammar.specs.Numbers.{IsBytes}
use Rattle.ice_machine.specs.Bounds.{is_asking}
use Rattle.ice_machine.specs.Events.{Event, gathers, learns, meets, ends, checks, responds, strays, arrives, sends, polls, Output}
use Rattle.ice_agent_state.specs.Agents.{output_at}
use Rattle.ice_checks.specs.Authentic.{IsCheck, IsResponse}
use Rattle.ice_checks.specs.Views.{Logins}
use Rattle.ice_agent.specs.Agents.{Agent}
use Rattle.ice_agent.specs.Runs.{Call, calls, learns_peer, takes, Moment, after_all, event_in, fresh_in}

-- a candidate of either side, the end of candidates, the user's data, or time
abbrev pub is_users : Event → Bool
is_users (gathers b) = true
is_users (learns r) = true
is_users meets = false
is_users ends = true
is_users (checks c) = false
is_users (responds base from id answer) = false
is_users (strays base from id size code) = false
is_users (arrives base from bytes) = false
is_users (sends component bytes) = true
is_users polls = true

-- a call of the user, or a datagram of bytes
abbrev pub IsCall : Call → Type 0
IsCall (calls event) = is_users event ≡ true
IsCall (learns_peer peer) = Unit {0}
IsCall (takes base from d) = IsBytes d

abbrev pub AreCalls : List Moment → Type 0
AreCalls moments = AllByRecursion (λ m. IsCall m.call) moments

-- the moment that counts for a call: a clock that steps back counts as stopped
abbrev pub clock_at : Agent → (now : ℕ) → ℕ
clock_at agent now = max agent.held.state.clock now

-- what a call to an agent puts out
abbrev pub output_of : Agent → Moment → Output
output_of agent m = output_at m.now (fresh_in m.fresh m.call) (event_in agent m.call) agent.held

-- a datagram is the peer's: a check that is authentic under this agent's key, or a response under the peer's
abbrev pub IsPeers : Logins → List ℕ → Type 0
IsPeers logins d =
    ((algorithm : IntegrityAlgorithm) × IsCheck logins d algorithm) ⊎ IsResponse logins d

-- how many requests were sent
abbrev pub requests_sent : Agent → List Moment → ℕ
requests_sent agent [] = 0
requests_sent agent (m ∷ earlier) = if is_asking (output_of (after_all agent earlier) m)
    then 1 + requests_sent agent earlier else requests_sent agent earlier
