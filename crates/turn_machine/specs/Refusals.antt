-- Which code refuses a request (RFC 8656, sections 5, 7.2, 8.2, 10.2 and 12.2), for each code in
-- terms of the request and the state when it arrives. If several apply, the first in the order of
-- these sections does.
use Rattle.std.specs.Prelude.{◌==◌, ◌≡◌, ℕ, ◌<◌, ◌≤◌, ◌⊎◌, ◌↔◌, true, false, List, [], ◌∷◌, length, count_by, Option, None, Some, not, ◌&&◌, nat_lt, ◌+◌, Bool, filter, if◌then◌else◌}
use Rattle.std.specs.List.{AllByRecursion, list_any}
use Rattle.stun_endpoints.specs.declared.endpoints.Endpoint.{Endpoint}
use Rattle.stun_endpoints.specs.declared.endpoints.FiveTuple.{FiveTuple}
use Rattle.stun_endpoints.specs.Endpoints.{is_ip}
use Rattle.turn_machine.specs.Lists.{SomeOf}
use Rattle.turn_machine.specs.Relays.{Permission, Channel, Relay, Setup, Rules, State}
use Rattle.turn_machine.specs.Events.{Want, Request, unfit_allocate, unfit, allocate, refresh, permit, bind, asks, answers, refused}
use Rattle.turn_machine.specs.Times.{at}
use Rattle.turn_machine.specs.Rows.{permissions_after, with_channel}
use Rattle.turn_machine.specs.Steps.{step}
use Rattle.turn_machine.specs.Granting.{is_clients, is_by, is_clients_by, IsClash, IsFreeChannel, IsFree, Has, HasOf, LacksOf, IsOwn, IsBelowQuota}

abbrev pub IsRefused : Setup → Rules → State → (now : ℕ) → FiveTuple → (user : ℕ) → Request
    → (code : ℕ) → Type 0
IsRefused setup rules state now tuple user request code =
    (step setup rules state now (asks tuple user request)).output ≡ answers tuple (refused code)

-- The request is refused with the code if and only if Reason holds
abbrev pub IsRefusedIff : Setup → Rules → State → (now : ℕ) → FiveTuple → (user : ℕ) → Request
    → (code : ℕ) → Type 0 → Type 0
IsRefusedIff setup rules state now tuple user request code Reason =
    IsRefused setup rules state now tuple user request code ↔ Reason

-- ---- Section 5: the owner of the allocation

-- the 5-tuple has an allocation of another user
abbrev pub IsOfAnother : FiveTuple → (user : ℕ) → State → Type 0
IsOfAnother tuple user state =
    SomeOf (λ a. (is_clients tuple a ≡ true) × (is_by user a ≡ false)) state.relays

-- ---- Section 7.2, if the 5-tuple has no allocation

-- the server supports none of the families
abbrev pub HasNoFamily : Setup → List Want → Type 0
HasNoFamily setup wants = AllByRecursion (λ w. setup.has_family w.family ≡ false) wants

abbrev pub HasFamily : Setup → List Want → Type 0
HasFamily setup wants = SomeOf (λ w. setup.has_family w.family ≡ true) wants

-- the caller has no socket for any of the families that the server supports
abbrev pub IsUnready : Setup → List Want → Type 0
IsUnready setup wants =
    AllByRecursion (λ w. setup.has_family w.family ≡ true → w.ready ≡ None) wants

pub record IsOverQuota (setup : Setup) (tuple : FiveTuple) (user : ℕ) (wants : List Want)
    (state : State) : Type 0 where
  pub free : IsFree tuple state
  pub family : HasFamily setup wants
  pub quota : setup.most_of_user ≤ count_by (is_by user) state.relays

pub record IsUnable (setup : Setup) (tuple : FiveTuple) (user : ℕ) (wants : List Want)
    (state : State) : Type 0 where
  pub free : IsFree tuple state
  pub family : HasFamily setup wants
  pub quota : IsBelowQuota setup user state
  pub lacks : (setup.most_relays ≤ length state.relays) ⊎ IsUnready setup wants

-- ---- Sections 8.2, 10.2 and 12.2, for the user's own allocation

abbrev pub IsUncovered : FiveTuple → (family : Option ℕ) → State → Type 0
IsUncovered tuple None state = ⊥
IsUncovered tuple (Some family) state = LacksOf tuple family state

abbrev pub HaveFamilies : FiveTuple → List Endpoint → State → Type 0
HaveFamilies tuple peers state = AllByRecursion (λ peer. HasOf tuple peer.ip.family state) peers

abbrev pub LackFamily : FiveTuple → List Endpoint → State → Type 0
LackFamily tuple peers state = SomeOf (λ peer. LacksOf tuple peer.ip.family state) peers

abbrev pub AreAllowed : Rules → List Endpoint → Type 0
AreAllowed rules peers = AllByRecursion (λ peer. rules.allows_ip peer.ip ≡ true) peers

abbrev pub IsForbidden : Rules → List Endpoint → Type 0
IsForbidden rules peers = SomeOf (λ peer. rules.allows_ip peer.ip ≡ false) peers

abbrev pub LacksPermissions : Setup → FiveTuple → (user : ℕ) → List Endpoint → State → Type 0
LacksPermissions setup tuple user peers state =
    SomeOf (λ a. (is_clients_by tuple user a ≡ true)
    × (setup.most_permissions < length (permissions_after state.clock peers a))) state.relays

abbrev pub LacksChannels : Setup → FiveTuple → (user number : ℕ) → Endpoint → State → Type 0
LacksChannels setup tuple user number peer state =
    SomeOf (λ a. (is_clients_by tuple user a ≡ true) × (a.family ≡ peer.ip.family)
    × (setup.most_channels < length (with_channel state.clock number peer a.channels))) state.relays

-- The number is out of range, or bound to another peer, or the peer is bound to another number
abbrev pub IsBadNumber : Setup → FiveTuple → (number : ℕ) → Endpoint → State → Type 0
IsBadNumber setup tuple number peer state =
    (number < 0x4000) ⊎ (setup.last_channel < number)
    ⊎ SomeOf (λ a. (is_clients tuple a ≡ true)
    × SomeOf (IsClash state.clock number peer) a.channels) state.relays

abbrev pub IsGoodNumber : Setup → FiveTuple → (number : ℕ) → Endpoint → State → Type 0
IsGoodNumber setup tuple number peer state =
    (0x4000 ≤ number) × (number ≤ setup.last_channel) × IsFreeChannel tuple number peer state

-- ---- The codes of each request

-- if the request is refused, it is with one of these codes
abbrev pub IsRefusedOnly : Setup → Rules → State → (now : ℕ) → FiveTuple → (user : ℕ) → Request
    → List ℕ → Type 0
IsRefusedOnly setup rules state now tuple user request codes = (code : ℕ)
    → (step setup rules state now (asks tuple user request)).output ≡ answers tuple (refused code)
    → list_any (λ c. c == code) codes ≡ true

-- this user opened the allocation by a request with this transaction ID
abbrev pub IsAgain : FiveTuple → (user id : ℕ) → State → Type 0
IsAgain tuple user id state =
    SomeOf (λ a. (is_clients_by tuple user a ≡ true) × (a.transaction_id ≡ id)) state.relays

pub record AllocateRefusals (setup : Setup) (rules : Rules) (state : State) (now : ℕ)
    (tuple : FiveTuple) (user id : ℕ) (lifetime : Option ℕ) (wants : List Want) : Type 0 where
  pub mismatch : IsRefusedIff setup rules state now tuple user (allocate id lifetime wants) 437
      (Has tuple (at now state) × ¬ (IsAgain tuple user id (at now state)))
  pub no_family : IsRefusedIff setup rules state now tuple user (allocate id lifetime wants) 440
      (IsFree tuple (at now state) × HasNoFamily setup wants)
  pub over_quota : IsRefusedIff setup rules state now tuple user (allocate id lifetime wants) 486
      (IsOverQuota setup tuple user wants (at now state))
  pub unable : IsRefusedIff setup rules state now tuple user (allocate id lifetime wants) 508
      (IsUnable setup tuple user wants (at now state))
  pub no_other : IsRefusedOnly setup rules state now tuple user (allocate id lifetime wants)
      (437 ∷ 440 ∷ 486 ∷ 508 ∷ [])

pub record RefreshRefusals (setup : Setup) (rules : Rules) (state : State) (now : ℕ)
    (tuple : FiveTuple) (user : ℕ) (family lifetime : Option ℕ) : Type 0 where
  pub mismatch : IsRefusedIff setup rules state now tuple user (refresh family lifetime) 437
      (IsFree tuple (at now state))
  pub wrong_user : IsRefusedIff setup rules state now tuple user (refresh family lifetime) 441
      (IsOfAnother tuple user (at now state))
  pub family_mismatch : IsRefusedIff setup rules state now tuple user (refresh family lifetime) 443
      (IsOwn tuple user (at now state) × IsUncovered tuple family (at now state))
  pub no_other : IsRefusedOnly setup rules state now tuple user (refresh family lifetime)
      (437 ∷ 441 ∷ 443 ∷ [])

pub record PermitRefusals (setup : Setup) (rules : Rules) (state : State) (now : ℕ)
    (tuple : FiveTuple) (user : ℕ) (peers : List Endpoint) : Type 0 where
  pub mismatch : IsRefusedIff setup rules state now tuple user (permit peers) 437
      (IsFree tuple (at now state))
  pub wrong_user : IsRefusedIff setup rules state now tuple user (permit peers) 441
      (IsOfAnother tuple user (at now state))
  pub family_mismatch : IsRefusedIff setup rules state now tuple user (permit peers) 443
      (IsOwn tuple user (at now state) × LackFamily tuple peers (at now state))
  pub forbidden : IsRefusedIff setup rules state now tuple user (permit peers) 403
      (IsOwn tuple user (at now state) × HaveFamilies tuple peers (at now state)
      × IsForbidden rules peers)
  pub unable : IsRefusedIff setup rules state now tuple user (permit peers) 508
      (IsOwn tuple user (at now state) × HaveFamilies tuple peers (at now state)
      × AreAllowed rules peers × LacksPermissions setup tuple user peers (at now state))
  pub no_other : IsRefusedOnly setup rules state now tuple user (permit peers)
      (437 ∷ 441 ∷ 443 ∷ 403 ∷ 508 ∷ [])

pub record BindRefusals (setup : Setup) (rules : Rules) (state : State) (now : ℕ)
    (tuple : FiveTuple) (user number : ℕ) (peer : Endpoint) : Type 0 where
  pub mismatch : IsRefusedIff setup rules state now tuple user (bind number peer) 437
      (IsFree tuple (at now state))
  pub wrong_user : IsRefusedIff setup rules state now tuple user (bind number peer) 441
      (IsOfAnother tuple user (at now state))
  pub bad_number : IsRefusedIff setup rules state now tuple user (bind number peer) 400
      (IsOwn tuple user (at now state) × IsBadNumber setup tuple number peer (at now state))
  pub family_mismatch : IsRefusedIff setup rules state now tuple user (bind number peer) 443
      (IsOwn tuple user (at now state) × IsGoodNumber setup tuple number peer (at now state)
      × LacksOf tuple peer.ip.family (at now state))
  pub forbidden : IsRefusedIff setup rules state now tuple user (bind number peer) 403
      (IsOwn tuple user (at now state) × IsGoodNumber setup tuple number peer (at now state)
      × HasOf tuple peer.ip.family (at now state)
      × ((rules.allows_ip peer.ip && rules.allows_port peer) ≡ false))
  pub unable : IsRefusedIff setup rules state now tuple user (bind number peer) 508
      (IsOwn tuple user (at now state) × IsGoodNumber setup tuple number peer (at now state)
      × HasOf tuple peer.ip.family (at now state)
      × ((rules.allows_ip peer.ip && rules.allows_port peer) ≡ true)
      × (LacksPermissions setup tuple user (peer ∷ []) (at now state)
      ⊎ LacksChannels setup tuple user number peer (at now state)))
  pub no_other : IsRefusedOnly setup rules state now tuple user (bind number peer)
      (437 ∷ 441 ∷ 400 ∷ 443 ∷ 403 ∷ 508 ∷ [])

-- A request that its bytes make unfit is refused with its own code, once the checks of the 5-tuple
-- and the user pass
pub record UnfitRefusals (setup : Setup) (rules : Rules) (state : State) (now : ℕ)
    (tuple : FiveTuple) (user code : ℕ) : Type 0 where
  pub in_use : Has tuple (at now state)
      → IsRefused setup rules state now tuple user (unfit_allocate code) 437
  pub allocate : IsFree tuple (at now state)
      → IsRefused setup rules state now tuple user (unfit_allocate code) code
  pub mismatch : IsFree tuple (at now state)
      → IsRefused setup rules state now tuple user (unfit code) 437
  pub wrong_user : IsOfAnother tuple user (at now state)
      → IsRefused setup rules state now tuple user (unfit code) 441
  pub other : IsOwn tuple user (at now state)
      → IsRefused setup rules state now tuple user (unfit code) code

-- ---- What counts for the limits of permissions and channels: those that are asked for, and those
-- that are live and aren't asked for again

abbrev pub is_left : ℕ → List Endpoint → Permission → Bool
is_left now peers p = nat_lt now p.expires_at && not (list_any (λ peer. is_ip peer.ip p.ip) peers)

-- how many IP addresses a list of peers has
abbrev pub different : List Endpoint → ℕ
different [] = 0
different (peer ∷ peers) =
    (if list_any (λ other. is_ip peer.ip other.ip) peers then 0 else 1) + different peers

-- for one relayed address, if the request names peers of its family, and if it names none
pub record IsRoomByLive (now : ℕ) (peers : List Endpoint) (a : Relay) : Type 0 where
  pub some : (first : Endpoint) (more : List Endpoint)
      → filter (λ peer. peer.ip.family == a.family) peers ≡ first ∷ more
      → length (permissions_after now peers a)
      ≡ different (first ∷ more) + count_by (is_left now (first ∷ more)) a.permissions
  pub none : filter (λ peer. peer.ip.family == a.family) peers ≡ []
      → permissions_after now peers a ≡ a.permissions

abbrev pub IsChannelRoomByLive : ℕ → (number : ℕ) → Endpoint → List Channel → Type 0
IsChannelRoomByLive now number peer cs = length (with_channel now number peer cs)
    ≡ 1 + count_by (λ c. not (c.number == number) && nat_lt now c.expires_at) cs
