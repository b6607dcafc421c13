-- An ICE agent that speaks bytes: the machine, what was reported of it, and the credentials of both sides (RFC
-- 8445, sections 4 and 5.3).
use Rattle.std.specs.Prelude.{◌≡◌, ℕ, List, Option, None, Some}
use Rattle.stun_keys.specs.Keys.{IsKey}
use Rattle.ice_machine.specs.Events.{Event, meets}
use Rattle.ice_agent_state.specs.Agents.{Held, after}
use Rattle.ice_agent_state.specs.Reports.{Reports}
use Rattle.ice_checks.specs.Views.{Login, Logins}

-- ---- Credentials

-- a fragment, and the key of a password, which serves both algorithms (RFC 8489, section 9.1.1)
pub record IsLogin (fragment password : List ℕ) (login : Login) : Type 0 where
  pub fragment_is : login.fragment ≡ fragment
  pub key_is : IsKey None password login.key

-- ---- The agent

-- the machine; what was reported of it; the credentials of both sides; and the name of the agent's software, if
-- its checks say one
pub record Agent : Type 0 where
  pub held : Held
  pub reports : Reports
  pub logins : Logins
  pub software : Option (List ℕ)

-- the agent after an event
abbrev pub passes : (now fresh : ℕ) → Event → Agent → Agent
passes now fresh event agent = record agent { held = after now fresh event agent.held }

-- the peer's credentials, once they are known, stay (RFC 8445, section 9)
abbrev pub known_first : (known : Option Login) → (next : Login) → Option Login
known_first None next = Some next
known_first (Some known) next = Some known

abbrev pub knows : (peer : Login) → Agent → Agent
knows peer agent = record agent { logins = record agent.logins { peer = known_first agent.logins.peer peer } }

abbrev pub met : (now : ℕ) → (peer : Login) → Agent → Agent
met now peer agent = knows peer (passes now 0 meets agent)
