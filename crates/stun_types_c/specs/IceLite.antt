-- A lite ICE agent, as C makes it and passes it datagrams.
use Rattle.std.specs.Prelude.{◌≡◌, ◌⊎◌, ℕ, Bool, false, not, ◌&&◌, List, map, Option, None, Result, MatchOption, IsSomeAnd}
use Rattle.std.specs.List.{list_any}
use Rattle.std.specs.Option.{option_or}
use Rattle.stun_grammar.specs.declared.error.StunWriteError.{StunWriteError}
use Rattle.stun_endpoints.specs.declared.endpoints.Endpoint.{Endpoint}
use Rattle.ice_machine.specs.Events.{sends}
use Rattle.ice_lite.specs.declared.candidates.LiteBase.{LiteBase}
use Rattle.ice_agent_state.specs.declared.routing.Route.{Route}
use Rattle.ice_agent_state.specs.Outputs.{data_by}
use Rattle.ice_checks.specs.Views.{Login}
use Rattle.ice_agent.specs.declared.receiving.Received.{Received}
use Rattle.ice_agent.specs.Agents.{IsLogin}
use Rattle.ice_agent.specs.Lite.{LiteAgent, begun, event_at, judged, output_at, passes}
use Rattle.ice_agent.specs.Receiving.{ReceivesWith}
use Rattle.stun_types_c.specs.declared.address.Address.{Address}
use Rattle.stun_types_c.specs.declared.call_result.CResult.{CResult}
use Rattle.stun_types_c.specs.declared.ice_datagrams.CIcePath.{CIcePath}
use Rattle.stun_types_c.specs.declared.ice_datagrams.CIceReceived.{CIceReceived}
use Rattle.stun_types_c.specs.declared.ice_lite_calls.CIceLiteBase.{CIceLiteBase}
use Rattle.stun_types_c.specs.declared.ice_lite_calls.CIceLiteSettings.{CIceLiteSettings}
use Rattle.stun_types_c.specs.declared.ice_lite_core.IceLiteCore.{IceLiteCore}
use Rattle.stun_types_c.specs.AllocationMaking.{endpoint_named}
use Rattle.stun_types_c.specs.CResults.{plain, Refuses}
use Rattle.stun_types_c.specs.Codes.{OK, OUT_OF_MEMORY, BAD_ARGUMENT}
use Rattle.stun_types_c.specs.IceCalls.{IsPath, IsReceived, no_path}
use Rattle.stun_types_c.specs.IceMaking.{login_answer}
use Rattle.stun_types_c.specs.TurnMaking.{argument_answer, is_set}

-- ---- What C passes

abbrev pub base_named : CIceLiteBase → LiteBase
base_named named = record { number = named.number; component = named.component }

abbrev pub is_reserved : CIceLiteBase → Bool
is_reserved named = is_set named.reserved

-- what is reserved is 0
abbrev pub is_free : CIceLiteSettings → Bool
is_free named = not (is_set named.reserved) && not (list_any is_reserved named.bases.now)

abbrev pub lite_answer : CIceLiteSettings → Option CResult
lite_answer named =
    option_or (argument_answer (is_free named)) (login_answer named.ufrag.now named.password.now)

-- ---- Making

pub record IsLite (named : CIceLiteSettings) (core : IceLiteCore) : Type 0 where
  pub own : Login
  pub own_is : IsLogin named.ufrag.now named.password.now own
  pub agent_is : core.agent ≡ begun own (map base_named named.bases.now)

-- a handle holds it, or the call returns why not, and the handle holds what it held
abbrev pub MakesLite : CIceLiteSettings → CResult → (old new : Option IceLiteCore) → Type 0
MakesLite named result old new =
    MatchOption (lite_answer named) ((result ≡ plain OK) × IsSomeAnd new (IsLite named))
    (λ answer. Refuses answer result old new)
    ⊎ Refuses (plain OUT_OF_MEMORY) result old new

-- ---- Datagrams

abbrev pub with_lite : LiteAgent → IceLiteCore → IceLiteCore
with_lite agent core = record core { agent = agent }

pub record LiteLeft : Type 0 where
  pub core : Option IceLiteCore
  pub slice : List ℕ
  pub received : CIceReceived

-- the agent takes d, as `LiteAgent` does
pub record TakesInC (core : IceLiteCore) (now base : ℕ) (from : Endpoint) (d : List ℕ) (result : CResult)
    (old new : List ℕ) (out : CIceReceived) (kept : IceLiteCore) : Type 0 where
  pub kept_is : kept ≡ with_lite (passes now (event_at core.agent base from d) core.agent) core
  pub taken : Result Received StunWriteError
  pub receives : ReceivesWith core.agent.own d (judged core.agent base from d)
      (output_at now (event_at core.agent base from d) core.agent) old new taken
  pub in_c : IsReceived taken result out

abbrev pub TakesLite : (now base : ℕ) → (from : Address) → List ℕ → CResult → LiteLeft → LiteLeft → Type 0
TakesLite now base from d result old new =
    MatchOption (endpoint_named from) (Refuses (plain BAD_ARGUMENT) result old new)
    (λ sender. MatchOption old.core (Refuses (plain BAD_ARGUMENT) result old new)
    (λ core. IsSomeAnd new.core
    (TakesInC core now base sender d result old.slice new.slice new.received)))

-- ---- The path of data

-- whatever the data is
pub record LiteRoutesIn (core : IceLiteCore) (now component : ℕ) (result : Bool) (path : CIcePath)
    (kept : IceLiteCore) : Type 0 where
  pub kept_is : (bytes : List ℕ) → kept.agent ≡ passes now (sends component bytes) core.agent
  pub route : Option Route
  pub routes : (bytes : List ℕ) → output_at now (sends component bytes) core.agent ≡ data_by bytes route
  pub in_c : IsPath route result path

abbrev pub RoutesLite : (now component : ℕ) → (result : Bool) → CIcePath → (old new : Option IceLiteCore) → Type 0
RoutesLite now component result path old new =
    MatchOption old (((result ≡ false) × (path ≡ no_path)) × (new ≡ None))
    (λ core. IsSomeAnd new (LiteRoutesIn core now component result path))
