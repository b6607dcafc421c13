-- Sessions that the prover evaluates.
use Rattle.std.specs.Prelude.{ℕ, ◌==◌, ◌||◌, not, true, false, List, [], ◌∷◌, map, None, Some}
use Rattle.stun_endpoints.specs.declared.endpoints.Endpoint.{Endpoint}
use Rattle.stun_endpoints.specs.declared.endpoints.FiveTuple.{FiveTuple}
use Rattle.turn_machine.specs.Relays.{seconds, Setup, Rules}
use Rattle.turn_machine.specs.Events.{Given, Want, allocate, refresh, permit, bind, Event, asks, sends, sends_on, arrives, bounces, ticks, allocated, refreshed, done, refused, Output, answers, to_peer, to_client, to_client_on, to_client_icmp, nothing}
use Rattle.turn_machine.specs.Runs.{Timed, Happening}

abbrev pub address : ℕ → Endpoint
address n = record { ip = record { family = 1; number = n }; port = 3478 }

abbrev pub ipv6_address : ℕ → Endpoint
ipv6_address n = record { ip = record { family = 2; number = n }; port = 3478 }

abbrev pub client : ℕ → FiveTuple
client n = record { client = address n; server = address 1; transport = 17 }

abbrev pub small_setup : Setup
small_setup = record {
  most_relays = 3;
  most_of_user = 1;
  most_reservations = 2;
  most_permissions = 2;
  most_channels = 2;
  greatest_lifetime = 3600;
  last_channel = 0x4FFF;
  has_family = λ f. (f == 1) || (f == 2);
  supports_dont_fragment = true;
  passes_icmp = true;
  channel_permits = false;
}

-- all IP addresses but number 66
abbrev pub one_forbidden : Rules
one_forbidden = record { allows_ip = λ ip. not (ip.number == 66); allows_port = λ peer. true }

abbrev pub at_second : ℕ → Event → Timed
at_second n event = record { now = seconds n; rules = one_forbidden; event = event }

abbrev pub ipv4_want : ℕ → Want
ipv4_want n = record { family = 1; ready = Some (record { number = 0; address = address n }) }

abbrev pub ipv4_given : (number n : ℕ) → Given
ipv4_given number n = record { family = 1; number = number; address = address n }

abbrev pub ipv6_given : (number n : ℕ) → Given
ipv6_given number n = record { family = 2; number = number; address = ipv6_address n }

abbrev pub alice : ℕ
alice = 7

abbrev pub bob : ℕ
bob = 8

-- the newest event first
abbrev pub session : List Timed
session =
    at_second 1200 ticks
    ∷ at_second 590 (sends_on (client 11) 0x4001 (2 ∷ []))
    ∷ at_second 400 (arrives 0 (address 22) (9 ∷ []))
    ∷ at_second 320 (sends_on (client 11) 0x4000 (2 ∷ []))
    ∷ at_second 310 (sends (client 11) (address 21) false (2 ∷ []))
    ∷ at_second 9 (asks (client 13) bob (allocate 4 None (ipv4_want 33 ∷ [])))
    ∷ at_second 8 (asks (client 12) alice (allocate 3 (Some 4000) (ipv4_want 32 ∷ [])))
    ∷ at_second 7 (bounces 0 (address 21) (record { type_number = 8; code = 0; error_data = 0 }))
    ∷ at_second 7 (bounces 0 (address 21) (record { type_number = 3; code = 3; error_data = 0 }))
    ∷ at_second 6 (arrives 0 (address 22) (6 ∷ []))
    ∷ at_second 5 (arrives 0 (address 21) (5 ∷ []))
    ∷ at_second 4 (sends (client 11) (address 21) true (4 ∷ []))
    ∷ at_second 3 (asks (client 11) alice (bind 0x4000 (address 22)))
    ∷ at_second 2 (asks (client 11) alice (permit (address 21 ∷ address 66 ∷ [])))
    ∷ at_second 2 (asks (client 11) alice (permit (address 21 ∷ [])))
    ∷ at_second 2 (asks (client 11) alice (permit (ipv6_address 21 ∷ [])))
    ∷ at_second 1 (asks (client 11) bob (permit (address 21 ∷ [])))
    ∷ at_second 1 (asks (client 11) alice (allocate 1 None (ipv4_want 31 ∷ [])))
    ∷ []

abbrev pub outputs : List Happening → List Output
outputs hs = map (λ h. h.output) hs

-- the expected outputs, the newest first
abbrev pub expected : List Output
expected =
    nothing
    ∷ nothing
    ∷ nothing
    ∷ to_peer 0 (address 22) false (2 ∷ [])
    ∷ nothing
    ∷ answers (client 13) (allocated (ipv4_given 1 33 ∷ []) 600 [])
    ∷ answers (client 12) (refused 486)
    ∷ nothing
    ∷ to_client_icmp (client 11) (address 21) (record { type_number = 3; code = 3; error_data = 0 })
    ∷ to_client_on (client 11) 0x4000 (6 ∷ [])
    ∷ to_client (client 11) (address 21) (5 ∷ [])
    ∷ to_peer 0 (address 21) true (4 ∷ [])
    ∷ answers (client 11) done
    ∷ answers (client 11) (refused 403)
    ∷ answers (client 11) done
    ∷ answers (client 11) (refused 443)
    ∷ answers (client 11) (refused 441)
    ∷ answers (client 11) (allocated (ipv4_given 0 31 ∷ []) 600 [])
    ∷ []

-- One user, with a quota of 1, allocates and ends its allocation in a loop. Then both users have
-- one
abbrev pub flood : List Timed
flood =
    at_second 2 (asks (client 11) alice (allocate 3 None (ipv4_want 31 ∷ [])))
    ∷ at_second 2 (asks (client 13) bob (allocate 9 None (ipv4_want 33 ∷ [])))
    ∷ at_second 1 (asks (client 11) alice (refresh None (Some 0)))
    ∷ at_second 1 (asks (client 11) alice (allocate 2 None (ipv4_want 31 ∷ [])))
    ∷ at_second 1 (asks (client 11) alice (refresh None (Some 0)))
    ∷ at_second 1 (asks (client 11) alice (allocate 1 None (ipv4_want 31 ∷ [])))
    ∷ []

abbrev pub flood_expected : List Output
flood_expected =
    answers (client 11) (allocated (ipv4_given 3 31 ∷ []) 600 [])
    ∷ answers (client 13) (allocated (ipv4_given 2 33 ∷ []) 600 [])
    ∷ answers (client 11) (refreshed 0)
    ∷ answers (client 11) (allocated (ipv4_given 1 31 ∷ []) 600 [])
    ∷ answers (client 11) (refreshed 0)
    ∷ answers (client 11) (allocated (ipv4_given 0 31 ∷ []) 600 [])
    ∷ []

abbrev pub closed_by : List Happening → List (List ℕ)
closed_by hs = map (λ h. h.closes) hs

-- Two families, with a socket for one of them only; each is refreshed by itself
abbrev pub dual_setup : Setup
dual_setup = record small_setup { most_of_user = 2 }

abbrev pub ipv6_want : ℕ → Want
ipv6_want n = record { family = 2; ready = Some (record { number = 40; address = ipv6_address n }) }

abbrev pub dual : List Timed
dual =
    at_second 700 (sends (client 11) (ipv6_address 21) false (8 ∷ []))
    ∷ at_second 690 (asks (client 11) alice (refresh (Some 1) None))
    ∷ at_second 500 (asks (client 11) alice (permit (ipv6_address 21 ∷ [])))
    ∷ at_second 300 (asks (client 11) alice (refresh (Some 2) (Some 900)))
    ∷ at_second 2 (asks (client 12) bob
    (allocate 2 None (ipv4_want 32 ∷ record { family = 2; ready = None } ∷ [])))
    ∷ at_second 1 (asks (client 11) alice (allocate 1 None (ipv4_want 31 ∷ ipv6_want 31 ∷ [])))
    ∷ []

abbrev pub dual_expected : List Output
dual_expected =
    to_peer 40 (ipv6_address 21) false (8 ∷ [])
    ∷ answers (client 11) (refused 443)
    ∷ answers (client 11) done
    ∷ answers (client 11) (refreshed 900)
    ∷ answers (client 12) (allocated (ipv4_given 41 32 ∷ []) 600
    (record { family = 2; code = 508 } ∷ []))
    ∷ answers (client 11) (allocated (ipv6_given 40 31
    ∷ ipv4_given 0 31 ∷ []) 600 [])
    ∷ []
