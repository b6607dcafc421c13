-- What C changes of a TURN server that runs.
use Rattle.std.specs.Prelude.{◌≡◌, ◌⊎◌, Option, None, Some, MatchOption, IsSomeAnd, ◌==◌, if◌then◌else◌}
use Rattle.std.specs.Option.{option_map}
use Rattle.stun_endpoints.specs.declared.endpoints.Endpoint.{Endpoint}
use Rattle.stun_endpoints.specs.Conversions.{endpoint_of}
use Rattle.stun_types_c.specs.declared.address.Address.{Address}
use Rattle.stun_types_c.specs.declared.call_result.CResult.{CResult}
use Rattle.stun_types_c.specs.declared.turn_core.TurnCore.{TurnCore}
use Rattle.turn_allocations.specs.Setups.{with_limits}
use Rattle.stun_types_c.specs.declared.turn_settings.CTurnLimits.{CTurnLimits}
use Rattle.stun_types_c.specs.declared.turn_settings.CTurnSettings.{CTurnSettings}
use Rattle.stun_types_c.specs.Addresses.{socket_named}
use Rattle.stun_types_c.specs.CResults.{plain, Refuses}
use Rattle.stun_types_c.specs.Codes.{OK, OUT_OF_MEMORY, BAD_ARGUMENT}
use Rattle.stun_types_c.specs.TurnMaking.{rules_answer, limits_named, AreRules}

-- without a server nothing is changed
abbrev pub Changes : (change : TurnCore → TurnCore → Type 0) → CResult → (old new : Option TurnCore) → Type 0
Changes change result old new =
    MatchOption old (Refuses (plain BAD_ARGUMENT) result old new)
    (λ core. (result ≡ plain OK) × IsSomeAnd new (change core))

-- the server, with the peers and the addresses that C names
pub record HasRules (settings : CTurnSettings) (old new : TurnCore) : Type 0 where
  pub same : new ≡ record old { rules = new.rules }
  pub rules_are : AreRules settings new.rules

abbrev pub SetsRules : CTurnSettings → CResult → (old new : Option TurnCore) → Type 0
SetsRules settings result old new =
    MatchOption (rules_answer settings) (Changes (HasRules settings) result old new)
    (λ answer. Refuses answer result old new)
    ⊎ Refuses (plain OUT_OF_MEMORY) result old new

-- the server that an address names; a family of 0: there is none
abbrev pub alternate_named : Address → Option (Option Endpoint)
alternate_named named =
    if named.family == 0 then Some None
    else option_map (λ a. Some (endpoint_of a)) (socket_named named)

-- the server, with that one as the other
abbrev pub HasAlternate : Option Endpoint → (old new : TurnCore) → Type 0
HasAlternate alternate old new = new ≡ record old { access = record old.access { alternate = alternate } }

abbrev pub SetsAlternate : Address → CResult → (old new : Option TurnCore) → Type 0
SetsAlternate named result old new =
    MatchOption (alternate_named named) (Refuses (plain BAD_ARGUMENT) result old new)
    (λ alternate. Changes (HasAlternate alternate) result old new)

-- the server, with the limits that C names, but the room that there is
abbrev pub HasLimits : CTurnLimits → (old new : TurnCore) → Type 0
HasLimits named old new =
    new ≡ record old { server = record old.server { limits = with_limits old.server.limits (limits_named named) } }

abbrev pub SetsLimits : CTurnLimits → CResult → (old new : Option TurnCore) → Type 0
SetsLimits named result old new = Changes (HasLimits named) result old new
