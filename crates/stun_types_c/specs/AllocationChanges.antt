-- What has changed of a TURN client, and what to try after its end, as C sees it (RFC 8656, section 7.4).
use Rattle.std.specs.Prelude.{◌≡◌, ℕ, Bool, false, List, [], ◌∷◌, length, take, Option, None, Some, is_some, MatchOption, option_and_then, nat_le, ◌==◌, if◌then◌else◌}
use Rattle.std.specs.List.{AllZip}
use Rattle.std.specs.Option.{option_map}
use Rattle.stun_endpoints.specs.declared.endpoints.Endpoint.{Endpoint}
use Rattle.stun_endpoints.specs.Conversions.{socket_of}
use Rattle.turn_client_machine.specs.Attempts.{Attempt, next_attempt, rest_after}
use Rattle.turn_client_machine.specs.declared.phases.End.{End}
use Rattle.turn_client_machine.specs.declared.phases.End.TheVariants.{Closed, Silent, Rejected, Moved, Useless, IntegrityViolated}
use Rattle.turn_client_state.specs.declared.reports.Change.{Change}
use Rattle.turn_client_state.specs.declared.reports.Change.TheVariants.{Allocated, Refreshed, Peer as PeerIs, Closing, Ended}
use Rattle.turn_client_state.specs.declared.reports.Standing.{Standing}
use Rattle.turn_client_state.specs.declared.reports.Standing.TheVariants.{Asked, Permitted, Bound, Over}
use Rattle.turn_client_state.specs.Reports.{next_change, marked}
use Rattle.turn_client.specs.Attempts.{attempt_by}
use Rattle.stun_types_c.specs.declared.address.Address.{Address}
use Rattle.stun_types_c.specs.declared.allocation_changes.CAllocationChange.{CAllocationChange}
use Rattle.stun_types_c.specs.declared.allocation_changes.CAttempt.{CAttempt}
use Rattle.stun_types_c.specs.declared.allocation_core.AllocationCore.{AllocationCore}
use Rattle.stun_types_c.specs.Addresses.{Holds}
use Rattle.stun_types_c.specs.AllocationMaking.{endpoint_named}
use Rattle.stun_types_c.specs.TurnAddresses.{nowhere}
use Rattle.stun_types_c.specs.TurnClients.{flag}
use Rattle.stun_types_c.specs.TurnEnding.{shown_due}

-- ---- Changes

abbrev pub unchanged : CAllocationChange
unchanged = record {
  until = 0;
  channel_until = 0;
  kind = 0;
  why = 0;
  relayed = nowhere;
  mapped = nowhere;
  peer = nowhere;
  server = nowhere;
  channel = 0;
  code = 0;
  wants = 0;
  violated = 0;
  rest = 0;
  reserved = 0;
}

abbrev pub standing_number : Standing → ℕ
standing_number Asked = 3
standing_number Permitted = 4
standing_number Bound = 5
standing_number Over = 6

-- the error code of a peer that is over
abbrev pub code_shown : Standing → (code : ℕ) → ℕ
code_shown Over code = code
code_shown _ code = 0

abbrev pub end_number : End → ℕ
end_number Closed = 1
end_number Silent = 2
end_number (Rejected code) = 3
end_number (Moved server) = 4
end_number Useless = 5
end_number IntegrityViolated = 6

abbrev pub end_code : End → ℕ
end_code (Rejected code) = code
end_code (Moved server) = 300
end_code _ = 0

-- the alternate server, if there is one
abbrev pub HoldsServer : End → Address → Type 0
HoldsServer (Moved server) address = Holds (socket_of server) address
HoldsServer _ address = address ≡ nowhere

-- a change in C's form: the fields that it doesn't name are 0
abbrev pub IsChange : Change → CAllocationChange → Type 0
IsChange (Allocated relayed mapped until) c =
    Holds (socket_of relayed) c.relayed × (Holds (socket_of mapped) c.mapped × (c ≡ record unchanged {
      until = shown_due until;
      kind = 1;
      relayed = c.relayed;
      mapped = c.mapped;
    }))
IsChange (Refreshed until) c = c ≡ record unchanged { until = shown_due until; kind = 2 }
IsChange (PeerIs report) c =
    Holds (socket_of report.address) c.peer × (c ≡ record unchanged {
      until = shown_due report.until;
      channel_until = shown_due report.channel_until;
      kind = standing_number report.standing;
      peer = c.peer;
      channel = report.number;
      code = code_shown report.standing report.code;
      wants = flag report.wants;
      violated = flag report.violated;
    })
IsChange Closing c = c ≡ record unchanged { kind = 7 }
IsChange (Ended why) c =
    HoldsServer why c.server × (c ≡ record unchanged {
      kind = 8;
      why = end_number why;
      server = c.server;
      code = end_code why;
      rest = rest_after why;
    })

pub record ChangeLeft : Type 0 where
  pub core : Option AllocationCore
  pub change : CAllocationChange

-- the first change that isn't reported yet, if there is one
abbrev pub Reports : Option Change → Bool → CAllocationChange → Type 0
Reports change result c =
    (result ≡ is_some change) × MatchOption change (c ≡ unchanged) (λ it. IsChange it c)

-- it counts as reported then
pub record ReportsIn (core : AllocationCore) (result : Bool) (new : ChangeLeft) : Type 0 where
  pub core_is : new.core
      ≡ Some (record core { changes = marked core.changes core.client.held.state })
  pub reports : Reports (next_change core.changes core.client.held.state) result new.change

abbrev pub ReportsChange : Bool → (old new : ChangeLeft) → Type 0
ReportsChange result old new =
    MatchOption old.core ((result ≡ false) × (new ≡ old)) (λ core. ReportsIn core result new)

-- ---- Attempts

-- the end that a change reports, of those after which something is tried
abbrev pub end_named : CAllocationChange → Option End
end_named c =
    if c.kind == 8 then (
    if c.why == 3 then Some (Rejected c.code) else (
    if c.why == 4 then option_map Moved (endpoint_named c.server) else None)) else None

-- each of them is named
abbrev pub endpoints_named : List Address → Option (List Endpoint)
endpoints_named [] = Some []
endpoints_named (address ∷ more) =
    option_and_then (λ first. option_map (λ others. first ∷ others) (endpoints_named more))
    (endpoint_named address)

-- the attempt at a server after those that the first of three addresses name
abbrev pub attempt_after : (server : Endpoint) → (tries count : ℕ) → List Address → Option Attempt
attempt_after server tries count before =
    if nat_le count 3
    then option_and_then (attempt_by server tries) (endpoints_named (take count before)) else None

abbrev pub attempt_named : CAttempt → Option Attempt
attempt_named c =
    option_and_then (λ server. if nat_le c.tries 2 then attempt_after server c.tries c.servers c.before else None)
    (endpoint_named c.server)

-- these addresses begin with those of the servers, of which the first three count
abbrev pub HoldsAll : List Endpoint → List Address → Type 0
HoldsAll servers addresses =
    AllZip (λ server address. Holds (socket_of server) address) (take 3 servers) (take (length servers) addresses)

-- an attempt in C's form
pub record HoldsAttempt (attempt : Attempt) (c : CAttempt) : Type 0 where
  pub server_is : Holds (socket_of attempt.server) c.server
  pub tries_are : c.tries ≡ attempt.tries
  pub servers_are : c.servers ≡ length (take 3 attempt.before)
  pub before_are : HoldsAll attempt.before c.before

-- what follows, if both are named and something does
abbrev pub following : CAttempt → CAllocationChange → Option Attempt
following attempt ended =
    option_and_then (λ why. option_and_then (λ it. next_attempt it why) (attempt_named attempt)) (end_named ended)

abbrev pub FollowsAttempt : CAllocationChange → Bool → (old new : CAttempt) → Type 0
FollowsAttempt ended result old new =
    (result ≡ is_some (following old ended))
    × MatchOption (following old ended) (new ≡ old) (λ next. HoldsAttempt next new)
