-- What the code does for a datagram, in the terms of what a server does.
use Rattle.std.specs.Prelude.{◌≡◌, ℕ, Bool, List, Option, IsSomeAnd}
use Rattle.std.specs.Option.{option_map_or}
use Rattle.stun_values.specs.declared.algorithm.PasswordAlgorithmValue.{PasswordAlgorithmValue}
use Rattle.stun_authentication.specs.Identities.{Who}
use Rattle.stun_authentication.specs.Lookups.{UserKey}
use Rattle.stun_endpoints.specs.declared.endpoints.Endpoint.{Endpoint}
use Rattle.stun_endpoints.specs.declared.endpoints.FiveTuple.{FiveTuple}
use Rattle.turn_machine.specs.Relays.{Setup, Rules}
use Rattle.turn_allocations.specs.declared.families.Families.{Families}
use Rattle.turn_reservations.specs.Calls.{Reserving, IsOuterStep}
use Rattle.turn_server.specs.declared.access.Access.{Access}
use Rattle.turn_server.specs.declared.action.Action.{Action}
use Rattle.turn_server.specs.declared.action.Action.TheVariants.{Dropped, Response as Responds, ToPeer}
use Rattle.turn_server.specs.declared.action.Opened.{Opened}
use Rattle.turn_server.specs.declared.sockets.Sockets.{Sockets}
use Rattle.turn_server.specs.Acting.{Act, drops, sends_to, none_opened, stepped, acted}
use Rattle.turn_server.specs.Judging.{Judged, event_of, judge}
use Rattle.turn_server.specs.Responses.{IsResponse, owed, used}
use Rattle.turn_server.specs.Sites.{site_of}
use Rattle.turn_server.specs.Spans.{StandsAt}
use Rattle.turn_server.specs.Wanted.{server_at}

-- it is done for a client's d by a server that sets the DF bit or doesn't, and this becomes of the slice:
-- nothing is sent; data of d goes to a peer; or a response is written
abbrev pub Does : (sets_df : Bool) → Access → (now : ℕ) → (client : Endpoint) → List ℕ → Act
    → (before after : List ℕ) → Action → Type 0
Does sets_df access now client d drops before after Dropped = after ≡ before
Does sets_df access now client d (sends_to number peer dont_fragment bytes) before after (ToPeer from to fragmented span) =
    (from ≡ number) × ((to ≡ peer) × ((fragmented ≡ dont_fragment) × (StandsAt span bytes d × (after ≡ before))))
Does sets_df access now client d act before after (Responds response) =
    IsSomeAnd (owed sets_df access now client d act)
    (λ owed. IsResponse owed (used act) before after response)
Does sets_df access now client d _ before after _ = ⊥

-- the numbers that an action shows of the sockets that are used from now on
abbrev pub number_of : Option Opened → ℕ
number_of opened = option_map_or (λ o. o.number) opened 0

abbrev pub numbers_of : Families (Option Opened) → Families ℕ
numbers_of opened = record { ipv4 = number_of opened.ipv4; ipv6 = number_of opened.ipv6 }

abbrev pub opened_by_action : Action → Families (Option Opened)
opened_by_action (Responds response) = response.opened
opened_by_action _ = none_opened

-- a datagram that is taken for this is a step, and what is done is what its output has a server do
pub record IsDone (access : Access) (setup : Setup) (rules : Rules) (tuple : FiveTuple) (now : ℕ) (d : List ℕ)
    (judged : Judged) (old new : Reserving) (before after : List ℕ) (action : Action) : Type 0 where
  pub is_step : let numbers = numbers_of (opened_by_action action) in
      let done = stepped setup rules tuple numbers old.holding now judged in
      IsOuterStep setup rules old now (event_of tuple (server_at now old.holding) numbers judged)
      done.step.output done.token new
  pub does : Does setup.supports_dont_fragment access now tuple.client d
      (acted setup rules tuple (numbers_of (opened_by_action action)) old.holding now judged) before after action

-- for a datagram
abbrev pub Acts : Access → Sockets → (keys : Who → List ℕ → PasswordAlgorithmValue → Option UserKey)
    → Setup → Rules → FiveTuple → (now : ℕ) → List ℕ → (old new : Reserving) → (before after : List ℕ) → Action
    → Type 0
Acts access sockets keys setup rules tuple now d old new before after action =
    IsDone access setup rules tuple now d
    (judge setup.last_channel setup.supports_dont_fragment (site_of access sockets keys tuple.client now) d)
    old new before after action
