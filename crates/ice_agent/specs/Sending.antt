-- The requests that an agent sends (RFC 8445, sections 6.1.4.2 and 7.2.2).
use Rattle.std.specs.Prelude.{◌≡◌, ℕ, ◌⊎◌, List, length, Option, None, Some, Result, Ok, Err}
use Rattle.stun_grammar.specs.declared.error.StunWriteError.{StunWriteError}
use Rattle.stun_grammar.specs.declared.error.StunWriteError.TheVariants.{OutOfMemory}
use Rattle.ice_machine.specs.declared.messages.Request.{Request}
use Rattle.ice_machine.specs.Events.{Output, asks, nothing, polls}
use Rattle.ice_agent_state.specs.Agents as states
use Rattle.ice_agent_state.specs.Agents.{output_at}
use Rattle.ice_checks.specs.Checks.{check_length, check_text}
use Rattle.ice_checks.specs.Views.{Login}
use Rattle.ice_agent.specs.declared.sending.Sending.{Sending}
use Rattle.ice_agent.specs.Agents.{Agent, passes}
use Rattle.ice_agent.specs.Writing.{placed_in, written_in}

-- a request, and how many bytes it has: this agent's fragment is in its USERNAME, and the peer's key signs it
abbrev pub request_text : Agent → (peer : Login) → Request → List ℕ
request_text agent peer r = check_text peer agent.logins.own.fragment agent.software r

abbrev pub request_length : Agent → (peer : Login) → Request → ℕ
request_length agent peer r = check_length peer agent.logins.own.fragment agent.software r

-- the base that it is sent from, and the address that it is sent to
abbrev pub sending : Request → Result ℕ StunWriteError → Result (Option Sending) StunWriteError
sending r (Ok n) = Ok (Some (record { base = r.base; to = r.to; length = n }))
sending r (Err e) = Err e

-- it is written, or an error says that the slice has no room for it; the peer's credentials are known then
abbrev pub IsSent : Agent → Option Login → Request → (old new : List ℕ) → Result (Option Sending) StunWriteError
    → Type 0
IsSent agent None r old new result = ⊥
IsSent agent (Some peer) r old new result =
    (result ≡ sending r (written_in (request_length agent peer r) (length old)))
    × (new ≡ placed_in (request_length agent peer r) (request_text agent peer r) old)

-- what a poll with this output returns, and what the caller's slice holds then
abbrev pub Polls : Agent → Output → (old new : List ℕ) → Result (Option Sending) StunWriteError → Type 0
Polls agent nothing old new result = (result ≡ Ok None) × (new ≡ old)
Polls agent (asks r) old new result = IsSent agent agent.logins.peer r old new result
Polls agent _ old new result = ⊥

-- ---- Without memory for a further request

-- when time has passed, and nothing else has happened
abbrev pub waited : (now : ℕ) → Agent → Agent
waited now agent = record agent { held = states.waited now agent.held }

pub record Waits (now : ℕ) (old new : Agent) (slice written : List ℕ) (result : Result (Option Sending) StunWriteError)
    : Type 0 where
  pub result_is : result ≡ Err OutOfMemory
  pub agent_is : new ≡ waited now old
  pub slice_is : written ≡ slice

pub record Sends (now id : ℕ) (old new : Agent) (slice written : List ℕ)
    (result : Result (Option Sending) StunWriteError) : Type 0 where
  pub agent_is : new ≡ passes now id polls old
  pub bytes : Polls old (output_at now id polls old.held) slice written result

-- a poll: the agent then, what it returns, and what the caller's slice holds
abbrev pub IsPolled : (now id : ℕ) → (old new : Agent) → (slice written : List ℕ)
    → Result (Option Sending) StunWriteError → Type 0
IsPolled now id old new slice written result =
    Sends now id old new slice written result ⊎ Waits now old new slice written result
