-- The candidates of an ICE agent, as C adds them.
use Rattle.std.specs.Prelude.{◌≡◌, ℕ, Option, None, Some, MatchOption, Result, Ok, Err, ◌==◌, if◌then◌else◌}
use Rattle.std.specs.List.{list_any}
use Rattle.std.specs.Option.{option_map}
use Rattle.stun_endpoints.specs.declared.endpoints.Endpoint.{Endpoint}
use Rattle.ice_machine.specs.declared.candidates.Base.{Base}
use Rattle.ice_machine.specs.declared.candidates.Remote.{Remote}
use Rattle.ice_machine.specs.Events.{gathers, learns, ends}
use Rattle.ice_machine.specs.Steps.{has_room, is_base, is_remote}
use Rattle.ice_agent_state.specs.declared.candidates.AddError.{AddError}
use Rattle.ice_agent_state.specs.declared.candidates.AddError.TheVariants.{Full, InUse}
use Rattle.ice_agent_state.specs.Agents.{added}
use Rattle.ice_agent_state.specs.Reports.{has_place, is_kept, with_address}
use Rattle.ice_agent.specs.Agents.{Agent, passes}
use Rattle.stun_types_c.specs.declared.address.Address.{Address}
use Rattle.stun_types_c.specs.declared.call_result.CResult.{CResult}
use Rattle.stun_types_c.specs.declared.ice_bases.CIceBase.{CIceBase}
use Rattle.stun_types_c.specs.declared.ice_bases.CIceRemote.{CIceRemote}
use Rattle.stun_types_c.specs.declared.ice_core.IceCore.{IceCore}
use Rattle.stun_types_c.specs.AllocationCodes.{FULL}
use Rattle.stun_types_c.specs.AllocationMaking.{endpoint_named}
use Rattle.stun_types_c.specs.CResults.{plain, Refuses}
use Rattle.stun_types_c.specs.Codes.{OK, EXISTS, BAD_ARGUMENT}
use Rattle.stun_types_c.specs.IceMaking.{with_agent}
use Rattle.stun_types_c.specs.TurnMaking.{is_set}

-- ---- What C passes

-- the number of an address family in a message (RFC 8489, section 14.1)
abbrev pub family_named : ℕ → Option ℕ
family_named number = if number == 4 then Some 1 else (if number == 6 then Some 2 else None)

abbrev pub base_with : CIceBase → (family : ℕ) → Base
base_with named family = record {
  number = named.number;
  component = named.component;
  family = family;
  link_local = is_set named.link_local;
  foundation = named.foundation;
  priority = named.priority;
  reflexive_priority = named.reflexive_priority;
}

abbrev pub base_named : CIceBase → Option Base
base_named named =
    if named.reserved == 0 then option_map (base_with named) (family_named named.family) else None

abbrev pub remote_with : CIceRemote → Endpoint → Remote
remote_with named address = record {
  address = address;
  component = named.component;
  foundation = named.foundation;
  priority = named.priority;
}

-- (the foundation 0 is that of candidates that checks discover)
abbrev pub remote_named : CIceRemote → Option Remote
remote_named named =
    if named.foundation == 0 then None else (
    if named.reserved == 0 then option_map (remote_with named) (endpoint_named named.address) else None)

-- ---- What a call does

abbrev pub added_result : Result (Unit {0}) AddError → CResult
added_result (Ok done) = plain OK
added_result (Err Full) = plain FULL
added_result (Err InUse) = plain EXISTS

abbrev pub base_result : Base → Agent → CResult
base_result base agent =
    added_result (added (has_room agent.held.setup agent.held.state.bases)
    (list_any (is_base base.number) agent.held.state.bases))

abbrev pub remote_result : Remote → Agent → CResult
remote_result remote agent =
    added_result (added (has_room agent.held.setup agent.held.state.remotes)
    (list_any (is_remote remote.component remote.address) agent.held.state.remotes))

abbrev pub address_result : Endpoint → Agent → CResult
address_result address agent = added_result (added (has_place agent.reports) (is_kept address agent.reports))

-- a candidate, if C names one, is added to an agent, if there is one
abbrev pub Adds : {X : Type 0} → Option X → (X → Agent → CResult) → (X → Agent → Agent) → CResult
    → (old new : Option IceCore) → Type 0
Adds named result_of then_is result old new =
    MatchOption named (Refuses (plain BAD_ARGUMENT) result old new)
    (λ x. MatchOption old (Refuses (plain BAD_ARGUMENT) result old new)
    (λ core. (result ≡ result_of x core.agent) × (new ≡ Some (with_agent (then_is x core.agent) core))))

abbrev pub AddsBase : (now : ℕ) → CIceBase → CResult → (old new : Option IceCore) → Type 0
AddsBase now named result old new =
    Adds (base_named named) base_result (λ base agent. passes now 0 (gathers base) agent) result old new

abbrev pub AddsRemote : (now : ℕ) → CIceRemote → CResult → (old new : Option IceCore) → Type 0
AddsRemote now named result old new =
    Adds (remote_named named) remote_result (λ remote agent. passes now 0 (learns remote) agent) result old new

abbrev pub noted : Endpoint → Agent → Agent
noted address agent = record agent { reports = with_address address agent.reports }

abbrev pub AddsAddress : Address → CResult → (old new : Option IceCore) → Type 0
AddsAddress named result old new = Adds (endpoint_named named) address_result noted result old new

-- no more candidates follow (RFC 8838)
abbrev pub EndsCandidates : (now : ℕ) → CResult → (old new : Option IceCore) → Type 0
EndsCandidates now result old new =
    MatchOption old (Refuses (plain BAD_ARGUMENT) result old new)
    (λ core. (result ≡ plain OK) × (new ≡ Some (with_agent (passes now 0 ends core.agent) core)))
