-- Which requests are fit, and what a fit request is granted (RFC 8656, sections 7.2, 8.2, 9, 10.2
-- and 12.2), in terms of the request and the state when it arrives.
use Rattle.std.specs.Prelude.{Bool, not, ◌&&◌, if◌then◌else◌, map, filter, ◌==◌, ◌≡◌, ◌≢◌, ℕ, ◌+◌, ◌<◌, ◌≤◌, ◌⊎◌, true, false, List, [], ◌∷◌, length, count_by, find, Option, None, Some, nat_lt}
use Rattle.std.specs.List.{AllByRecursion, list_any}
use Rattle.stun_endpoints.specs.declared.endpoints.Ip.{Ip}
use Rattle.stun_endpoints.specs.declared.endpoints.Endpoint.{Endpoint}
use Rattle.stun_endpoints.specs.declared.endpoints.FiveTuple.{FiveTuple}
use Rattle.stun_endpoints.specs.Endpoints.{is_ip, is_tuple}
use Rattle.turn_machine.specs.Lists.{SomeOf}
use Rattle.turn_machine.specs.Relays.{seconds, Channel, Relay, Setup, bound_for, Rules, State}
use Rattle.turn_machine.specs.Events.{Offer, Want, Given, Missing, allocated, refreshed, done, answers}
use Rattle.turn_machine.specs.Steps.{Step}
use Rattle.turn_machine.specs.Rows.{permissions_after, with_channel}

-- ---- Words of the laws. They compare by equality, apart from the machine's tests: if a law used
-- those, a test that is always false could make its premises empty, and the law would say nothing

abbrev pub is_clients : FiveTuple → Relay → Bool
is_clients tuple a = is_tuple tuple a.tuple

abbrev pub is_clients_in : FiveTuple → (family : ℕ) → Relay → Bool
is_clients_in tuple family a = is_tuple tuple a.tuple && (a.family == family)

abbrev pub is_by : (user : ℕ) → Relay → Bool
is_by user a = a.user == user

abbrev pub is_clients_by : FiveTuple → (user : ℕ) → Relay → Bool
is_clients_by tuple user a = is_tuple tuple a.tuple && (a.user == user)

-- The 5-tuple has no allocation; it has one; it has a relayed address of a family; it has none of
-- that family
abbrev pub IsFree : FiveTuple → State → Type 0
IsFree tuple state = AllByRecursion (λ a. is_clients tuple a ≡ false) state.relays

abbrev pub Has : FiveTuple → State → Type 0
Has tuple state = SomeOf (λ a. is_clients tuple a ≡ true) state.relays

abbrev pub HasOf : FiveTuple → (family : ℕ) → State → Type 0
HasOf tuple family state = SomeOf (λ a. is_clients_in tuple family a ≡ true) state.relays

abbrev pub LacksOf : FiveTuple → (family : ℕ) → State → Type 0
LacksOf tuple family state = AllByRecursion (λ a. is_clients_in tuple family a ≡ false) state.relays

-- The 5-tuple has an allocation, and it belongs to this user (5)
pub record IsOwn (tuple : FiveTuple) (user : ℕ) (state : State) : Type 0 where
  pub has : Has tuple state
  pub his : AllByRecursion (λ a. is_clients tuple a ≡ true → a.user ≡ user) state.relays

-- ---- Allocate

abbrev pub IsBelowQuota : Setup → (user : ℕ) → State → Type 0
IsBelowQuota setup user state = count_by (is_by user) state.relays < setup.most_of_user

abbrev pub IsRoom : Setup → State → Type 0
IsRoom setup state = length state.relays < setup.most_relays

pub record IsFit (setup : Setup) (tuple : FiveTuple) (user : ℕ) (want : Want) (offer : Offer)
    (state : State) : Type 0 where
  pub free : IsFree tuple state
  pub quota : IsBelowQuota setup user state
  pub room : IsRoom setup state
  pub offered : setup.has_family want.family ≡ true
  pub ready : want.ready ≡ Some offer

abbrev pub given_of : Relay → Given
given_of a = record { family = a.family; number = a.number; address = a.address }

-- One more relayed address, and nothing else changes: for this client, user and request, of this
-- family, with the caller's socket, until this moment, with no permissions and no channels, under a
-- number that was never given before
pub record IsOpened (tuple : FiveTuple) (user id expires_at family : ℕ) (offer : Offer)
    (old new : State) (a : Relay) : Type 0 where
  pub relays : new.relays ≡ a ∷ old.relays
  pub clock : new.clock ≡ old.clock
  pub whose : (a.tuple ≡ tuple) × (a.user ≡ user) × (a.transaction_id ≡ id)
  pub family_is : a.family ≡ family
  pub address_is : a.address ≡ offer.address
  pub until_is : a.expires_at ≡ expires_at
  pub empty : (a.permissions ≡ []) × (a.channels ≡ [])
  pub number_is_new : (old.next ≤ a.number) × (a.number < new.next)

-- ---- The other requests

-- The number is bound to another peer, or the peer to another number (12.2)
pub record IsClash (now number : ℕ) (peer : Endpoint) (c : Channel) : Type 0 where
  pub live : now < c.expires_at
  pub other : ((c.number ≡ number) × (c.peer ≢ peer)) ⊎ ((c.peer ≡ peer) × (c.number ≢ number))

-- in neither family of the client
abbrev pub IsFreeChannel : FiveTuple → (number : ℕ) → Endpoint → State → Type 0
IsFreeChannel tuple number peer state = AllByRecursion (λ a. is_clients tuple a ≡ true
    → AllByRecursion (λ c. ¬ (IsClash state.clock number peer c)) a.channels) state.relays

-- The client has the family that a Refresh request names, if it names one
abbrev pub IsCovered : FiveTuple → (family : Option ℕ) → State → Type 0
IsCovered tuple None state = Unit {0}
IsCovered tuple (Some family) state = HasOf tuple family state

pub record CanPermit (setup : Setup) (rules : Rules) (tuple : FiveTuple) (user : ℕ)
    (peers : List Endpoint) (state : State) : Type 0 where
  pub own : IsOwn tuple user state
  pub families : AllByRecursion (λ peer. HasOf tuple peer.ip.family state) peers
  pub allowed : AllByRecursion (λ peer. rules.allows_ip peer.ip ≡ true) peers
  pub room : AllByRecursion (λ a. is_clients_by tuple user a ≡ true
      → length (permissions_after state.clock peers a) ≤ setup.most_permissions) state.relays

pub record CanBind (setup : Setup) (rules : Rules) (tuple : FiveTuple) (user number : ℕ)
    (peer : Endpoint) (state : State) : Type 0 where
  pub permits : CanPermit setup rules tuple user (peer ∷ []) state
  pub least : 0x4000 ≤ number
  pub greatest : number ≤ setup.last_channel
  pub port : rules.allows_port peer ≡ true
  pub free : IsFreeChannel tuple number peer state
  pub room : AllByRecursion (λ a. is_clients_by tuple user a ≡ true → a.family ≡ peer.ip.family
      → length (with_channel state.clock number peer a.channels) ≤ setup.most_channels) state.relays

-- ---- The client's state afterwards

-- the client's relayed address of a family
abbrev pub relay_of : FiveTuple → (family : ℕ) → State → Option Relay
relay_of tuple family state = find (is_clients_in tuple family) state.relays

-- The relayed addresses of all other clients are unchanged
abbrev pub OthersStay : FiveTuple → (old new : State) → Type 0
OthersStay tuple old new = (other : FiveTuple) (family : ℕ) → other ≢ tuple
    → relay_of other family new ≡ relay_of other family old

-- whether a permission for an IP address is live at a moment
abbrev pub permits_at : (now : ℕ) → Ip → Relay → Bool
permits_at now ip a = list_any (λ p. is_ip ip p.ip && nat_lt now p.expires_at) a.permissions

-- the channel with a number, if it is live at a moment
abbrev pub channel_at : (now number : ℕ) → Relay → Option Channel
channel_at now number a = find (λ c. (c.number == number) && nat_lt now c.expires_at) a.channels

-- a permission that lasts exactly so many seconds from a moment on
pub record IsPermittedFrom (tuple : FiveTuple) (peer : Endpoint) (lifetime now : ℕ) (state : State)
    : Type 0 where
  pub relay : Relay
  pub is : relay_of tuple peer.ip.family state ≡ Some relay
  pub lasts : (m : ℕ) → now ≤ m → permits_at m peer.ip relay ≡ nat_lt m (now + seconds lifetime)

-- a channel that lasts exactly 600 seconds from a moment on
pub record IsBoundFrom (tuple : FiveTuple) (number : ℕ) (peer : Endpoint) (now : ℕ) (state : State)
    : Type 0 where
  pub relay : Relay
  pub is : relay_of tuple peer.ip.family state ≡ Some relay
  pub lasts : (m : ℕ) → now ≤ m → m < now + seconds 600
      → channel_at m number relay
      ≡ Some (record { number = number; peer = peer; expires_at = now + seconds 600 })
  pub ends : (m : ℕ) → now + seconds 600 ≤ m → channel_at m number relay ≡ None

-- whether a Refresh request is for a family: for one, or for all
abbrev pub IsFor : (wanted : Option ℕ) → (family : ℕ) → Type 0
IsFor None family = Unit {0}
IsFor (Some wanted) family = wanted ≡ family

-- The relayed address of a family lasts until a moment; or it has ended, and its number is reported
abbrev pub LastsUntil : FiveTuple → (family expires_at : ℕ) → (old new : State) → Type 0
LastsUntil tuple family expires_at old new = (a : Relay) → relay_of tuple family old ≡ Some a
    → relay_of tuple family new ≡ Some (record a { expires_at = expires_at })

pub record IsGone (tuple : FiveTuple) (family : ℕ) (old new : State) (closes : List ℕ) : Type 0
  where
    pub gone : relay_of tuple family new ≡ None
    pub reported : (a : Relay) → relay_of tuple family old ≡ Some a
        → SomeOf (λ n. n ≡ a.number) closes

-- A Refresh request is granted this many seconds
pub record IsRefreshed (tuple : FiveTuple) (wanted : Option ℕ) (granted : ℕ) (old : State)
    (s : Step) : Type 0 where
  pub output : s.output ≡ answers tuple (refreshed granted)
  pub lasts : granted ≢ 0 → (family : ℕ) → IsFor wanted family
      → LastsUntil tuple family (old.clock + seconds granted) old s.state
  pub ends : granted ≡ 0 → (family : ℕ) → IsFor wanted family
      → IsGone tuple family old s.state s.closes
  pub others : OthersStay tuple old s.state

pub record ArePermitted (tuple : FiveTuple) (peers : List Endpoint) (old : State) (s : Step)
    : Type 0 where
  pub output : s.output ≡ answers tuple done
  pub each : AllByRecursion (λ peer. IsPermittedFrom tuple peer 300 old.clock s.state) peers
  pub others : OthersStay tuple old s.state

pub record IsBound (setup : Setup) (tuple : FiveTuple) (number : ℕ) (peer : Endpoint)
    (old : State) (s : Step) : Type 0 where
  pub output : s.output ≡ answers tuple done
  pub channel : IsBoundFrom tuple number peer old.clock s.state
  pub permission : IsPermittedFrom tuple peer (bound_for setup) old.clock s.state
  pub others : OthersStay tuple old s.state

-- ---- An Allocate request that comes again

-- The success response lists each relayed address of the client
abbrev pub all_given : FiveTuple → State → List Given
all_given tuple state = map given_of (filter (is_clients tuple) state.relays)

-- and each family that was asked for and that the client has no address of, with the reason: 440 if
-- the server lacks the family, else 508
abbrev pub all_missing : Setup → FiveTuple → List Want → State → List Missing
all_missing setup tuple wants state =
    map (λ w. record { family = w.family; code = if setup.has_family w.family then 508 else 440 })
    (filter (λ w. not (list_any (is_clients_in tuple w.family) state.relays)) wants)

-- The state is unchanged. The lifetime is the whole seconds until the first of these addresses ends
pub record IsRepeated (setup : Setup) (tuple : FiveTuple) (wants : List Want) (old : State)
    (s : Step) : Type 0 where
  pub kept : s.state ≡ old
  pub left : ℕ
  pub output : s.output
      ≡ answers tuple (allocated (all_given tuple old) left (all_missing setup tuple wants old))
  pub none_before : AllByRecursion (λ a. is_clients tuple a ≡ true
      → old.clock + seconds left ≤ a.expires_at) old.relays
  pub one_within : SomeOf (λ a. (is_clients tuple a ≡ true)
      × (a.expires_at < old.clock + seconds (left + 1))) old.relays
