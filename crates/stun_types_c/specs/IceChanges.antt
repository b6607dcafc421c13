-- What an ICE agent has come to, and what has changed, as C sees it.
use Rattle.std.specs.Prelude.{◌≡◌, ℕ, Bool, true, false, length, Option, None, MatchOption, IsSomeAnd}
use Rattle.std.specs.List.{slice_get}
use Rattle.stun_endpoints.specs.declared.endpoints.Endpoint.{Endpoint}
use Rattle.stun_endpoints.specs.Conversions.{socket_of}
use Rattle.ice_machine.specs.declared.pairs.Pair.{Pair}
use Rattle.ice_machine.specs.declared.pairs.PairState.{PairState}
use Rattle.ice_machine.specs.declared.pairs.PairState.TheVariants.{Frozen, Waiting, InProgress, Succeeded, Failed, Lost}
use Rattle.ice_machine.specs.declared.roles.Role.{Role}
use Rattle.ice_machine.specs.declared.roles.Role.TheVariants.{Controlling, Controlled}
use Rattle.ice_agent_state.specs.declared.changes.Change.{Change}
use Rattle.ice_agent_state.specs.declared.changes.Change.TheVariants.{Role as RoleIs, ConsentLost, Status as StatusIs, Selected, Discovered}
use Rattle.ice_agent_state.specs.declared.status.Status.{Status}
use Rattle.ice_agent_state.specs.declared.status.Status.TheVariants.{Checking, Connected, Failed as HasFailed, Lost as IsLost}
use Rattle.ice_agent_state.specs.Reports.{next_change, marked_by}
use Rattle.ice_agent_state.specs.Statuses.{status_of}
use Rattle.ice_agent.specs.Agents.{Agent}
use Rattle.stun_types_c.specs.declared.address.Address.{Address}
use Rattle.stun_types_c.specs.declared.ice_changes.CIceChange.{CIceChange}
use Rattle.stun_types_c.specs.declared.ice_changes.CIcePair.{CIcePair}
use Rattle.stun_types_c.specs.declared.ice_changes.CIceStanding.{CIceStanding}
use Rattle.stun_types_c.specs.declared.ice_core.IceCore.{IceCore}
use Rattle.stun_types_c.specs.declared.ice_datagrams.CIcePath.{CIcePath}
use Rattle.stun_types_c.specs.Addresses.{Holds}
use Rattle.stun_types_c.specs.IceCalls.{no_path, HoldsRoute}
use Rattle.stun_types_c.specs.IceMaking.{with_agent}
use Rattle.stun_types_c.specs.TurnAddresses.{nowhere}
use Rattle.stun_types_c.specs.TurnClients.{flag}
use Rattle.stun_types_c.specs.TurnEnding.{shown_due}

-- ---- What a component has come to

abbrev pub no_standing : CIceStanding
no_standing = record { path = no_path; progress = 0; role = 0; pairs = 0 }

abbrev pub role_number : Role → ℕ
role_number Controlling = 1
role_number Controlled = 2

abbrev pub progress_number : Status → ℕ
progress_number Checking = 1
progress_number (Connected route) = 2
progress_number HasFailed = 3
progress_number IsLost = 4

-- the path of the selected pair, if there is one
abbrev pub HoldsPath : Status → CIcePath → Type 0
HoldsPath (Connected route) path = HoldsRoute route path
HoldsPath _ path = path ≡ no_path

pub record HoldsStanding (agent : Agent) (component : ℕ) (out : CIceStanding) : Type 0 where
  pub path_is : HoldsPath (status_of component agent.held.state) out.path
  pub progress_is : out.progress ≡ progress_number (status_of component agent.held.state)
  pub role_is : out.role ≡ role_number agent.held.state.role
  pub pairs_are : out.pairs ≡ length agent.held.state.pairs

-- a call that changes nothing
abbrev pub ShowsStanding : (component : ℕ) → (result : Bool) → CIceStanding → (old new : Option IceCore) → Type 0
ShowsStanding component result out old new =
    (new ≡ old) × MatchOption old ((result ≡ false) × (out ≡ no_standing))
    (λ core. (result ≡ true) × HoldsStanding core.agent component out)

-- ---- Pairs

abbrev pub no_pair : CIcePair
no_pair = record {
  until = 0;
  remote = nowhere;
  base = 0;
  priority = 0;
  remote_priority = 0;
  state = 0;
  component = 0;
  tries = 0;
  triggered = 0;
  nominated = 0;
}

-- the states of RFC 8445, section 6.1.2.6; and a pair for which the consent has expired
abbrev pub state_number : PairState → ℕ
state_number Frozen = 1
state_number Waiting = 2
state_number InProgress = 3
state_number Succeeded = 4
state_number Failed = 5
state_number Lost = 6

pub record HoldsPair (p : Pair) (out : CIcePair) : Type 0 where
  pub until_is : out.until ≡ shown_due p.expires_at
  pub remote_is : Holds (socket_of p.remote) out.remote
  pub base_is : out.base ≡ p.base
  pub priority_is : out.priority ≡ p.priority
  pub remote_priority_is : out.remote_priority ≡ p.remote_priority
  pub state_is : out.state ≡ state_number p.state
  pub component_is : out.component ≡ p.component
  pub tries_are : out.tries ≡ p.tries
  pub triggered_is : out.triggered ≡ flag p.triggered
  pub nominated_is : out.nominated ≡ flag p.nominated

-- the pair of a number, the newest first
abbrev pub HoldsPairAt : (number : ℕ) → Agent → (result : Bool) → CIcePair → Type 0
HoldsPairAt number agent result out =
    MatchOption (slice_get agent.held.state.pairs number) ((result ≡ false) × (out ≡ no_pair))
    (λ p. (result ≡ true) × HoldsPair p out)

abbrev pub ShowsPair : (number : ℕ) → (result : Bool) → CIcePair → (old new : Option IceCore) → Type 0
ShowsPair number result out old new =
    (new ≡ old) × MatchOption old ((result ≡ false) × (out ≡ no_pair))
    (λ core. HoldsPairAt number core.agent result out)

-- ---- Changes

abbrev pub no_change : CIceChange
no_change = record {
  address = nowhere;
  base = 0;
  kind = 0;
  progress = 0;
  role = 0;
  component = 0;
  reserved = 0;
}

-- which of the fields a change is about, and what those hold; the others are 0
pub record IsAbout (address : Address → Type 0) (base kind progress role component : ℕ) (out : CIceChange)
    : Type 0 where
  pub address_is : address out.address
  pub base_is : out.base ≡ base
  pub kind_is : out.kind ≡ kind
  pub progress_is : out.progress ≡ progress
  pub role_is : out.role ≡ role
  pub component_is : out.component ≡ component
  pub reserved_is : out.reserved ≡ 0

abbrev pub is_nowhere : Address → Type 0
is_nowhere address = address ≡ nowhere

abbrev pub is_there : Endpoint → Address → Type 0
is_there endpoint address = Holds (socket_of endpoint) address

abbrev pub IsProgress : (component : ℕ) → Status → CIceChange → Type 0
IsProgress component (Connected route) out = IsAbout (is_there route.to) route.base 3 2 0 component out
IsProgress component status out = IsAbout is_nowhere 0 3 (progress_number status) 0 component out

abbrev pub IsChange : Change → CIceChange → Type 0
IsChange (RoleIs role) out = IsAbout is_nowhere 0 1 0 (role_number role) 0 out
IsChange (ConsentLost component route) out = IsAbout (is_there route.to) route.base 2 0 0 component out
IsChange (StatusIs component status) out = IsProgress component status out
IsChange (Selected component route) out = IsAbout (is_there route.to) route.base 4 0 0 component out
IsChange (Discovered base address) out = IsAbout (is_there address) base 5 0 0 0 out

-- the difference that `Agent` reports, if there is one
abbrev pub change_now : Agent → Option Change
change_now agent = next_change agent.reports agent.held.state

abbrev pub reported : Agent → Agent
reported agent = record agent { reports = marked_by (change_now agent) agent.reports }

abbrev pub ReportsIn : IceCore → (result : Bool) → CIceChange → IceCore → Type 0
ReportsIn core result out kept =
    (kept ≡ with_agent (reported core.agent) core)
    × MatchOption (change_now core.agent) ((result ≡ false) × (out ≡ no_change))
    (λ change. (result ≡ true) × IsChange change out)

abbrev pub ReportsChange : (result : Bool) → CIceChange → (old new : Option IceCore) → Type 0
ReportsChange result out old new =
    MatchOption old (((result ≡ false) × (out ≡ no_change)) × (new ≡ None))
    (λ core. IsSomeAnd new (ReportsIn core result out))
