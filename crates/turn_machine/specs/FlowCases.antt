-- Flows that the prover evaluates: after which events a channel is which flow.
use Rattle.std.specs.Prelude.{ℕ, List, [], ◌∷◌, Option, None, Some}
use Rattle.stun_endpoints.specs.declared.endpoints.FiveTuple.{FiveTuple}
use Rattle.turn_machine.specs.Relays.{seconds}
use Rattle.turn_machine.specs.Events.{allocate, refresh, permit, bind, Event, asks, ends, ends_user, ticks}
use Rattle.turn_machine.specs.Runs.{Timed}
use Rattle.turn_machine.specs.Examples.{address, client, ipv4_want, alice, bob}
use Rattle.turn_machine.specs.Edges.{peer_rules}
use Rattle.turn_machine.specs.Flows.{Flow}

abbrev pub come : ℕ → Event → Timed
come n event = record { now = seconds n; rules = peer_rules; event = event }

pub record FlowCase : Type 0 where
  pub earlier : List Timed
  pub tuple : FiveTuple
  pub channel : ℕ
  pub flow : Option Flow

abbrev pub after : List Timed → (n channel : ℕ) → Option Flow → FlowCase
after earlier n channel flow =
    record { earlier = earlier; tuple = client n; channel = channel; flow = flow }

abbrev pub to : (number peer expires_at : ℕ) → Option Flow
to number peer expires_at =
    Some (record { number = number; peer = address peer; expires_at = seconds expires_at })

-- the newest event first. Alice's allocation lasts until 1001 s, Bob's until 604 s
abbrev pub two_clients : List Timed
two_clients =
    come 5 (asks (client 12) bob (bind 0x4000 (address 23)))
    ∷ come 4 (asks (client 12) bob (allocate 1 None (ipv4_want 32 ∷ [])))
    ∷ come 3 (asks (client 11) alice (bind 0x4001 (address 22)))
    ∷ come 2 (asks (client 11) alice (bind 0x4000 (address 21)))
    ∷ come 1 (asks (client 11) alice (allocate 1 (Some 1000) (ipv4_want 31 ∷ [])))
    ∷ []

abbrev pub permitted_again : List Timed
permitted_again =
    come 500 (asks (client 11) alice (permit (address 21 ∷ address 22 ∷ [])))
    ∷ come 250 (asks (client 11) alice (permit (address 21 ∷ address 22 ∷ [])))
    ∷ two_clients

abbrev pub bound_again : List Timed
bound_again =
    come 850 (asks (client 11) alice (permit (address 21 ∷ [])))
    ∷ come 600 (asks (client 11) alice (bind 0x4000 (address 21)))
    ∷ permitted_again

abbrev pub flow_cases : List FlowCase
flow_cases =
    after two_clients 11 0x4000 (to 0 21 302)
    ∷ after two_clients 11 0x4001 (to 0 22 303)
    ∷ after two_clients 12 0x4000 (to 1 23 305)
    ∷ after two_clients 11 0x4002 None
    ∷ after two_clients 13 0x4000 None
    ∷ after (come 6 (asks (client 12) alice (refresh None (Some 0))) ∷ two_clients) 12 0x4000
    (to 1 23 305)
    ∷ after (come 6 (ends 0) ∷ two_clients) 11 0x4000 None
    ∷ after (come 6 (ends_user bob) ∷ two_clients) 11 0x4000 (to 0 21 302)
    ∷ after (come 302 ticks ∷ two_clients) 11 0x4000 None
    ∷ after (come 302 ticks ∷ two_clients) 11 0x4001 (to 0 22 303)
    ∷ after permitted_again 11 0x4000 (to 0 21 602)
    ∷ after permitted_again 12 0x4000 None
    ∷ after (come 602 ticks ∷ permitted_again) 11 0x4000 None
    ∷ after bound_again 11 0x4000 (to 0 21 1001)
    ∷ after (come 1001 ticks ∷ bound_again) 11 0x4000 None
    ∷ after (come 900 (asks (client 11) alice (refresh None (Some 0))) ∷ bound_again) 11 0x4000 None
    ∷ []

-- if channels permit as long as they last
abbrev pub channel_flow_cases : List FlowCase
channel_flow_cases =
    after two_clients 11 0x4000 (to 0 21 602)
    ∷ after two_clients 12 0x4000 (to 1 23 604)
    ∷ after (come 302 ticks ∷ two_clients) 11 0x4000 (to 0 21 602)
    ∷ after (come 602 ticks ∷ two_clients) 11 0x4000 None
    ∷ after (come 6 (asks (client 11) alice (permit (address 21 ∷ []))) ∷ two_clients) 11 0x4000
    (to 0 21 306)
    ∷ after (come 6 (asks (client 11) alice (permit (address 22 ∷ []))) ∷ two_clients) 11 0x4000
    (to 0 21 602)
    ∷ after permitted_again 11 0x4000 (to 0 21 602)
    ∷ after (come 310 (asks (client 11) alice (bind 0x4000 (address 21))) ∷ two_clients) 11 0x4000
    (to 0 21 910)
    ∷ []
