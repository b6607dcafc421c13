-- An address that nothing authentic comes from, such as a victim, whose address was signalled as a candidate (RFC 8445,
-- section 19.5.1).
use Rattle.std.specs.Prelude.{◌≡◌, ℕ, ◌+◌, true, List, [], ◌∷◌, if◌then◌else◌}
use Rattle.stun_endpoints.specs.declared.endpoints.Endpoint.{Endpoint}
use Rattle.ice_machine.specs.Silence.{is_place, is_request_to}
use Rattle.ice_checks.specs.Views.{Logins}
use Rattle.ice_agent.specs.Agents.{Agent}
use Rattle.ice_agent.specs.Runs.{Call, calls, learns_peer, takes, Moment, after_all}
use Rattle.ice_exchanges.specs.Datagrams.{IsPeers, output_of}

-- no datagram of the peer from an address, at a base
abbrev pub IsQuiet : (base : ℕ) → (from : Endpoint) → Logins → Call → Type 0
IsQuiet base from logins (calls event) = Unit {0}
IsQuiet base from logins (learns_peer peer) = Unit {0}
IsQuiet base from logins (takes at_base sender d) =
    is_place base from at_base sender ≡ true → IsPeers logins d → ⊥

abbrev pub IsSilent : (base : ℕ) → (from : Endpoint) → Agent → List Moment → Type 0
IsSilent base from agent [] = Unit {0}
IsSilent base from agent (m ∷ earlier) =
    IsQuiet base from (after_all agent earlier).logins m.call × IsSilent base from agent earlier

-- how many requests were sent to it, from the base
abbrev pub requests_to : (base : ℕ) → Endpoint → Agent → List Moment → ℕ
requests_to base to agent [] = 0
requests_to base to agent (m ∷ earlier) = if is_request_to base to (output_of (after_all agent earlier) m)
    then 1 + requests_to base to agent earlier else requests_to base to agent earlier
