-- The edges of the rules, as cases that the prover evaluates: each event with its expected output,
-- in order of time.
use Rattle.turn_machine.specs.Reserving.{OuterState, Outer, plain, reserves, claims, outer_step, OuterTimed, outer_run, outer_outputs}
use Rattle.std.specs.Prelude.{ℕ, zero, suc, ◌-◌, ◌==◌, ◌||◌, not, true, false, List, [], ◌∷◌, map, reverse, None, Some, Option}
use Rattle.stun_endpoints.specs.declared.endpoints.Endpoint.{Endpoint}
use Rattle.stun_endpoints.specs.declared.endpoints.FiveTuple.{FiveTuple}
use Rattle.turn_machine.specs.Relays.{seconds, Setup, Rules}
use Rattle.turn_machine.specs.Events.{Want, Request, allocate, unfit_allocate, refresh, permit, bind, unfit, permit_request, Event, asks, sends, sends_on, arrives, bounces, ends, ends_user, Icmp, Given, allocated, refreshed, done, refused, Output, answers, to_peer, to_client, to_client_on, to_client_icmp, nothing}
use Rattle.turn_machine.specs.Runs.{Timed, history}
use Rattle.turn_machine.specs.Examples.{address, ipv6_address, client, ipv4_want, ipv6_want, ipv4_given, ipv6_given, alice, bob, outputs}

pub record Case : Type 0 where
  pub timed : Timed
  pub reply : Output

abbrev pub outputs_of : Setup → List Case → List Output
outputs_of setup cases = reverse (outputs (history setup (reverse (map (λ c. c.timed) cases))))

abbrev pub expected_of : List Case → List Output
expected_of cases = map (λ c. c.reply) cases

-- Three relayed addresses, two of them for one user; three reservations; no DF bit and no ICMP
abbrev pub plain_setup : Setup
plain_setup = record {
  most_relays = 3;
  most_of_user = 2;
  most_reservations = 3;
  most_permissions = 2;
  most_channels = 2;
  greatest_lifetime = 1000;
  last_channel = 0x4FFF;
  has_family = λ f. (f == 1) || (f == 2);
  supports_dont_fragment = false;
  passes_icmp = false;
  channel_permits = false;
}

-- All IP addresses are allowed but number 66, and all ports but 99
abbrev pub peer_rules : Rules
peer_rules = record {
  allows_ip = λ ip. not (ip.number == 66);
  allows_port = λ peer. not (peer.port == 99);
}

-- Number 21 is forbidden too
abbrev pub stricter_rules : Rules
stricter_rules = record {
  allows_ip = λ ip. not ((ip.number == 66) || (ip.number == 21));
  allows_port = λ peer. not (peer.port == 99);
}

abbrev pub on : ℕ → Event → Output → Case
on n event reply =
    record { timed = record { now = seconds n; rules = peer_rules; event = event }; reply = reply }

-- a nanosecond before the second
abbrev pub before : ℕ → Event → Output → Case
before n event reply =
    record {
      timed = record { now = seconds n - 1; rules = peer_rules; event = event };
      reply = reply;
    }

abbrev pub under : ℕ → Event → Output → Case
under n event reply =
    record {
      timed = record { now = seconds n; rules = stricter_rules; event = event };
      reply = reply;
    }

abbrev pub asks_from : (n user : ℕ) → Request → Event
asks_from n user request = asks (client n) user request

abbrev pub gets : (n : ℕ) → List Given → (lifetime : ℕ) → Output
gets n given lifetime = answers (client n) (allocated given lifetime [])

abbrev pub no : (n code : ℕ) → Output
no n code = answers (client n) (refused code)

abbrev pub yes : (n : ℕ) → Output
yes n = answers (client n) done

abbrev pub blocked : Endpoint
blocked = record { ip = record { family = 1; number = 21 }; port = 99 }

-- another port of peer 22
abbrev pub same_ip_other_port : Endpoint
same_ip_other_port = record { ip = record { family = 1; number = 22 }; port = 3480 }

abbrev pub copies : ℕ → Endpoint → List Endpoint
copies zero peer = []
copies (suc n) peer = peer ∷ copies n peer

-- Requests: clients 11 and 12 are Alice's, 13 and 14 Bob's
abbrev pub requests : List Case
requests =
    on 1 (asks_from 11 alice (refresh None None)) (no 11 437)
    ∷ on 1 (asks_from 11 alice (unfit 400)) (no 11 437)
    ∷ on 1 (asks_from 11 alice (unfit_allocate 442)) (no 11 442)
    ∷ on 1 (asks_from 11 alice (allocate 1 None (record { family = 3; ready = None } ∷ [])))
    (no 11 440)
    ∷ on 1 (asks_from 11 alice (allocate 1 None (record { family = 1; ready = None } ∷ [])))
    (no 11 508)
    ∷ on 1 (asks_from 11 alice (allocate 1 (Some 5000) (ipv4_want 31 ∷ [])))
    (gets 11 (ipv4_given 0 31 ∷ []) 1000)
    ∷ on 3 (asks_from 11 alice (allocate 1 (Some 5000) (ipv4_want 31 ∷ [])))
    (gets 11 (ipv4_given 0 31 ∷ []) 998)
    ∷ on 3 (asks_from 11 alice (allocate 2 None (ipv4_want 31 ∷ []))) (no 11 437)
    ∷ on 3 (asks_from 11 alice (unfit_allocate 442)) (no 11 437)
    ∷ on 3 (asks_from 12 alice (allocate 1 None (ipv4_want 32 ∷ ipv6_want 32 ∷ [])))
    (answers (client 12) (allocated (ipv4_given 1 32 ∷ [])
    600 (record { family = 2; code = 508 } ∷ [])))
    ∷ on 3 (asks_from 15 alice (allocate 5 None (ipv4_want 35 ∷ []))) (no 15 486)
    ∷ on 3 (asks_from 15 alice (allocate 5 None (record { family = 3; ready = None } ∷ [])))
    (no 15 440)
    ∷ on 3 (asks_from 13 bob
    (allocate 1 None (ipv4_want 33 ∷ record { family = 3; ready = None } ∷ [])))
    (answers (client 13) (allocated (ipv4_given 2 33 ∷ [])
    600 (record { family = 3; code = 440 } ∷ [])))
    ∷ on 3 (asks_from 14 bob (allocate 1 None (ipv4_want 34 ∷ []))) (no 14 508)
    ∷ on 3 (asks_from 15 alice (allocate 5 None (ipv4_want 35 ∷ []))) (no 15 486)
    ∷ on 4 (asks_from 11 bob (refresh None None)) (no 11 441)
    ∷ on 4 (asks_from 11 alice (refresh (Some 2) None)) (no 11 443)
    ∷ on 4 (asks_from 11 alice (refresh (Some 1) (Some 10))) (answers (client 11) (refreshed 600))
    ∷ on 4 (asks_from 11 alice (unfit 400)) (no 11 400)
    ∷ on 5 (asks_from 11 alice (permit (address 66 ∷ address 21 ∷ []))) (no 11 403)
    ∷ on 5 (asks_from 11 alice (permit (address 21 ∷ ipv6_address 21 ∷ []))) (no 11 443)
    ∷ on 5 (asks_from 11 alice (permit (address 21 ∷ address 22 ∷ address 23 ∷ []))) (no 11 508)
    ∷ on 5 (asks_from 11 alice (permit_request (copies 65 (ipv6_address 21)))) (no 11 508)
    ∷ on 5 (asks_from 11 alice (permit_request (copies 64 (ipv6_address 21)))) (no 11 443)
    ∷ on 5 (asks_from 11 alice (permit_request (copies 64 (address 21)))) (yes 11)
    ∷ on 5 (asks_from 11 alice (permit (address 21 ∷ address 22 ∷ []))) (yes 11)
    ∷ on 6 (asks_from 11 alice (bind 0x3FFF (address 21))) (no 11 400)
    ∷ on 6 (asks_from 11 alice (bind 0x5000 (address 21))) (no 11 400)
    ∷ on 6 (asks_from 11 alice (bind 0x4000 (ipv6_address 21))) (no 11 443)
    ∷ on 6 (asks_from 11 alice (bind 0x4000 (address 66))) (no 11 403)
    ∷ on 6 (asks_from 11 alice (bind 0x4000 blocked)) (no 11 403)
    ∷ on 6 (asks_from 11 alice (bind 0x4000 (address 21))) (yes 11)
    ∷ on 6 (asks_from 11 alice (bind 0x4000 (address 22))) (no 11 400)
    ∷ on 6 (asks_from 11 alice (bind 0x4001 (address 21))) (no 11 400)
    ∷ on 6 (asks_from 11 alice (bind 0x4FFF (address 22))) (yes 11)
    ∷ on 6 (asks_from 11 alice (bind 0x4002 (address 23))) (no 11 508)
    ∷ on 6 (asks_from 11 alice (bind 0x4002 same_ip_other_port)) (no 11 508)
    ∷ on 7 (asks_from 12 alice (refresh None (Some 0))) (answers (client 12) (refreshed 0))
    ∷ on 7 (asks_from 14 bob (allocate 1 None (ipv4_want 34 ∷ [])))
    (gets 14 (ipv4_given 3 34 ∷ []) 600)
    ∷ on 8 (ends_user bob) nothing
    ∷ on 8 (asks_from 13 bob (refresh None None)) (no 13 437)
    ∷ on 8 (asks_from 14 bob (refresh None None)) (no 14 437)
    ∷ on 8 (asks_from 13 bob (allocate 2 None (ipv4_want 33 ∷ ipv6_want 33 ∷ [])))
    (gets 13 (ipv6_given 40 33 ∷ ipv4_given 4 33 ∷ []) 600)
    ∷ on 8 (ends 4) nothing
    ∷ on 8 (asks_from 13 bob (refresh (Some 1) None)) (no 13 443)
    ∷ on 8 (asks_from 13 bob (refresh (Some 2) None)) (answers (client 13) (refreshed 600))
    ∷ on 8 (asks_from 11 alice (refresh None None)) (answers (client 11) (refreshed 600))
    ∷ before 608 (asks_from 11 alice (unfit 400)) (no 11 400)
    ∷ on 608 (asks_from 11 alice (unfit 400)) (no 11 437)
    ∷ on 700 (asks_from 12 alice
    (allocate 9 None (record { family = 1; ready = None } ∷ ipv6_want 32 ∷ [])))
    (answers (client 12) (allocated (ipv6_given 41 32 ∷ []) 600
    (record { family = 1; code = 508 } ∷ [])))
    ∷ on 700 (asks_from 13 bob (allocate 3 None (ipv4_want 33 ∷ ipv6_want 33 ∷ [])))
    (gets 13 (ipv6_given 43 33 ∷ ipv4_given 42 33 ∷ []) 600)
    ∷ on 700 (asks_from 13 bob (bind 0x4000 (ipv6_address 21))) (yes 13)
    ∷ on 700 (asks_from 13 bob (bind 0x4001 (ipv6_address 22))) (yes 13)
    ∷ on 700 (asks_from 13 bob (bind 0x4002 (ipv6_address 22))) (no 13 400)
    ∷ on 700 (asks_from 13 bob (bind 0x4002 (ipv6_address 23))) (no 13 508)
    ∷ on 700 (asks_from 13 bob (bind 0x4002 (address 23))) (yes 13)
    ∷ []

abbrev pub other_port : FiveTuple
other_port = record {
  client = record { ip = record { family = 1; number = 11 }; port = 3479 };
  server = address 1;
  transport = 17;
}

abbrev pub bytes : List ℕ
bytes = 1 ∷ 2 ∷ []

abbrev pub unreachable : Icmp
unreachable = record { type_number = 3; code = 1; error_data = 0 }

-- Data: client 11 is Alice's, 13 is Bob's
abbrev pub data_cases : List Case
data_cases =
    on 1 (sends (client 11) (address 21) false bytes) nothing
    ∷ on 1 (sends_on (client 11) 0x4000 bytes) nothing
    ∷ on 1 (arrives 0 (address 21) bytes) nothing
    ∷ on 1 (asks_from 11 alice (allocate 1 (Some 1000) (ipv4_want 31 ∷ [])))
    (gets 11 (ipv4_given 0 31 ∷ []) 1000)
    ∷ on 1 (asks_from 13 bob (allocate 1 (Some 1000) (ipv4_want 33 ∷ [])))
    (gets 13 (ipv4_given 1 33 ∷ []) 1000)
    ∷ on 2 (asks_from 11 alice (permit (address 21 ∷ address 22 ∷ []))) (yes 11)
    ∷ on 2 (asks_from 13 bob (bind 0x4000 (address 23))) (yes 13)
    ∷ on 3 (asks_from 11 alice (bind 0x4000 (address 22))) (yes 11)
    ∷ on 4 (sends (client 11) (address 21) false bytes) (to_peer 0 (address 21) false bytes)
    ∷ on 4 (arrives 0 same_ip_other_port bytes) (to_client (client 11) same_ip_other_port bytes)
    ∷ on 4 (sends (client 11) (address 21) true bytes) nothing
    ∷ on 4 (sends (client 11) (address 23) false bytes) nothing
    ∷ on 4 (sends other_port (address 21) false bytes) nothing
    ∷ on 4 (sends (client 13) (address 21) false bytes) nothing
    ∷ under 4 (sends (client 11) (address 21) false bytes) nothing
    ∷ on 4 (sends (client 11) blocked false bytes) nothing
    ∷ on 4 (sends_on (client 11) 0x4000 bytes) (to_peer 0 (address 22) false bytes)
    ∷ on 4 (sends_on (client 13) 0x4000 bytes) (to_peer 1 (address 23) false bytes)
    ∷ on 4 (sends_on (client 11) 0x4001 bytes) nothing
    ∷ on 4 (arrives 0 (address 21) bytes) (to_client (client 11) (address 21) bytes)
    ∷ under 4 (arrives 0 (address 21) bytes) nothing
    ∷ on 4 (arrives 0 (address 22) bytes) (to_client_on (client 11) 0x4000 bytes)
    ∷ on 4 (arrives 0 blocked bytes) (to_client (client 11) blocked bytes)
    ∷ on 4 (arrives 0 (address 23) bytes) nothing
    ∷ on 4 (arrives 1 (address 22) bytes) nothing
    ∷ on 4 (arrives 1 (address 23) bytes) (to_client_on (client 13) 0x4000 bytes)
    ∷ on 4 (bounces 0 (address 21) unreachable) nothing
    ∷ on 5 (asks_from 11 alice (bind 0x4006 same_ip_other_port)) (yes 11)
    ∷ before 302 (sends (client 11) (address 21) false bytes) (to_peer 0 (address 21) false bytes)
    ∷ before 302 (arrives 0 (address 21) bytes) (to_client (client 11) (address 21) bytes)
    ∷ on 302 (sends (client 11) (address 21) false bytes) nothing
    ∷ on 302 (arrives 0 (address 21) bytes) nothing
    ∷ before 305 (arrives 0 (address 22) bytes) (to_client_on (client 11) 0x4000 bytes)
    ∷ on 305 (arrives 0 (address 22) bytes) nothing
    ∷ on 305 (sends (client 11) (address 22) false bytes) nothing
    ∷ before 603 (sends_on (client 11) 0x4000 bytes) (to_peer 0 (address 22) false bytes)
    ∷ on 603 (sends_on (client 11) 0x4000 bytes) nothing
    ∷ on 604 (asks_from 11 alice (bind 0x4000 (address 21))) (yes 11)
    ∷ on 604 (arrives 0 (address 21) bytes) (to_client_on (client 11) 0x4000 bytes)
    ∷ on 605 (asks_from 11 alice (permit (address 22 ∷ []))) (yes 11)
    ∷ on 605 (arrives 0 (address 21) bytes) (to_client_on (client 11) 0x4000 bytes)
    ∷ on 605 (arrives 0 (address 22) bytes) (to_client (client 11) (address 22) bytes)
    ∷ on 606 (asks_from 11 alice (bind 0x4007 (address 22))) (yes 11)
    ∷ on 910 (asks_from 11 alice (permit (address 23 ∷ address 24 ∷ []))) (yes 11)
    ∷ before 1001 (sends_on (client 11) 0x4000 bytes) (to_peer 0 (address 21) false bytes)
    ∷ on 1001 (sends_on (client 11) 0x4000 bytes) nothing
    ∷ []

-- Channels that permit as long as they last. Alice's channel does so until a CreatePermission request
-- for the same IP address; Bob sends ChannelBind requests alone
abbrev pub channel_setup : Setup
channel_setup = record plain_setup { channel_permits = true }

-- another port of peer 21
abbrev pub near_21 : Endpoint
near_21 = record { ip = record { family = 1; number = 21 }; port = 3480 }

abbrev pub channel_cases : List Case
channel_cases =
    on 1 (asks_from 11 alice (allocate 1 (Some 1000) (ipv4_want 31 ∷ [])))
    (gets 11 (ipv4_given 0 31 ∷ []) 1000)
    ∷ on 1 (asks_from 13 bob (allocate 1 (Some 1000) (ipv4_want 33 ∷ [])))
    (gets 13 (ipv4_given 1 33 ∷ []) 1000)
    ∷ on 1 (arrives 0 (address 21) bytes) nothing
    ∷ on 2 (asks_from 13 bob (bind 0x4000 (address 23))) (yes 13)
    ∷ on 2 (asks_from 11 alice (permit (address 21 ∷ []))) (yes 11)
    ∷ on 3 (asks_from 11 alice (bind 0x4000 (address 21))) (yes 11)
    ∷ on 3 (asks_from 11 alice (permit (address 22 ∷ []))) (yes 11)
    ∷ before 303 (arrives 0 (address 22) bytes) (to_client (client 11) (address 22) bytes)
    ∷ on 303 (arrives 0 (address 22) bytes) nothing
    ∷ on 303 (arrives 0 (address 21) bytes) (to_client_on (client 11) 0x4000 bytes)
    ∷ on 303 (arrives 0 near_21 bytes) (to_client (client 11) near_21 bytes)
    ∷ on 303 (sends (client 11) near_21 false bytes) (to_peer 0 near_21 false bytes)
    ∷ on 502 (asks_from 13 bob (bind 0x4000 (address 23))) (yes 13)
    ∷ under 602 (arrives 0 (address 21) bytes) nothing
    ∷ before 603 (arrives 0 (address 21) bytes) (to_client_on (client 11) 0x4000 bytes)
    ∷ on 603 (arrives 0 (address 21) bytes) nothing
    ∷ on 603 (sends (client 11) (address 21) false bytes) nothing
    ∷ on 603 (sends_on (client 11) 0x4000 bytes) nothing
    ∷ on 603 (arrives 1 (address 23) bytes) (to_client_on (client 13) 0x4000 bytes)
    ∷ on 604 (asks_from 11 alice (bind 0x4000 (address 21))) (yes 11)
    ∷ on 605 (asks_from 11 alice (permit (address 21 ∷ []))) (yes 11)
    ∷ before 905 (arrives 0 (address 21) bytes) (to_client_on (client 11) 0x4000 bytes)
    ∷ on 905 (arrives 0 (address 21) bytes) nothing
    ∷ on 905 (sends_on (client 11) 0x4000 bytes) (to_peer 0 (address 21) false bytes)
    ∷ on 906 (asks_from 11 alice (bind 0x4000 (address 21))) (yes 11)
    ∷ on 906 (arrives 0 (address 21) bytes) (to_client_on (client 11) 0x4000 bytes)
    ∷ before 1001 (arrives 1 (address 23) bytes) (to_client_on (client 13) 0x4000 bytes)
    ∷ on 1001 (arrives 1 (address 23) bytes) nothing
    ∷ []

-- ICMP, on a server that relays it
abbrev pub icmp_setup : Setup
icmp_setup = record plain_setup { passes_icmp = true }

abbrev pub of_type : ℕ → Icmp
of_type n = record { type_number = n; code = 0; error_data = 0 }

abbrev pub icmp_cases : List Case
icmp_cases =
    on 1 (asks_from 11 alice (allocate 1 None (ipv4_want 31 ∷ ipv6_want 31 ∷ [])))
    (gets 11 (ipv6_given 40 31 ∷ ipv4_given 0 31 ∷ []) 600)
    ∷ on 1 (asks_from 11 alice (permit (address 21 ∷ ipv6_address 22 ∷ []))) (yes 11)
    ∷ on 2 (bounces 0 (address 21) (of_type 3))
    (to_client_icmp (client 11) (address 21) (of_type 3))
    ∷ on 2 (bounces 0 (address 21) (of_type 11))
    (to_client_icmp (client 11) (address 21) (of_type 11))
    ∷ on 2 (bounces 0 (address 21) (of_type 8)) nothing
    ∷ on 2 (arrives 0 (ipv6_address 21) bytes) nothing
    ∷ on 2 (arrives 0 (ipv6_address 22) bytes) nothing
    ∷ on 2 (arrives 40 (ipv6_address 22) bytes) (to_client (client 11) (ipv6_address 22) bytes)
    ∷ on 2 (bounces 0 (address 22) (of_type 3)) nothing
    ∷ on 2 (bounces 40 (ipv6_address 22) (of_type 1))
    (to_client_icmp (client 11) (ipv6_address 22) (of_type 1))
    ∷ on 2 (bounces 40 (ipv6_address 22) (of_type 2))
    (to_client_icmp (client 11) (ipv6_address 22) (of_type 2))
    ∷ on 2 (bounces 40 (ipv6_address 22) (of_type 11)) nothing
    ∷ on 2 (bounces 41 (ipv6_address 22) (of_type 1)) nothing
    ∷ []

-- Reservations: each event with its expected output, and the token in the response
pub record HeldCase : Type 0 where
  pub timed : OuterTimed
  pub reply : Output
  pub token : Option ℕ

abbrev pub token_of : Setup → OuterState → OuterTimed → Option ℕ
token_of setup h t = (outer_step setup t.rules h t.now t.outer).token

abbrev pub tokens : Setup → List OuterTimed → List (Option ℕ)
tokens setup [] = []
tokens setup (t ∷ earlier) = token_of setup (outer_run setup earlier) t ∷ tokens setup earlier

abbrev pub held_outputs_of : Setup → List HeldCase → List Output
held_outputs_of setup cases = reverse (outer_outputs setup (reverse (map (λ c. c.timed) cases)))

abbrev pub held_tokens : Setup → List HeldCase → List (Option ℕ)
held_tokens setup cases = reverse (tokens setup (reverse (map (λ c. c.timed) cases)))

abbrev pub held_on : ℕ → Outer → Output → Option ℕ → HeldCase
held_on n outer reply token = record {
  timed = record { now = seconds n; rules = peer_rules; outer = outer };
  reply = reply;
  token = token;
}

abbrev pub held_before : ℕ → Outer → Output → HeldCase
held_before n outer reply = record {
  timed = record { now = seconds n - 1; rules = peer_rules; outer = outer };
  reply = reply;
  token = None;
}

abbrev pub pair_with : ℕ → Option Endpoint
pair_with n = Some (address n)

abbrev pub unsupported_want : Want
unsupported_want = record {
  family = 3;
  ready = Some (record { number = 0; address = address 30 });
}

abbrev pub ends_all : (n : ℕ) → Outer
ends_all n = plain (asks (client n) alice (refresh None (Some 0)))

abbrev pub held_cases : List HeldCase
held_cases =
    held_on 1 (reserves (client 11) alice 1 None (ipv4_want 30) None 77) (no 11 508) None
    ∷ held_on 1 (reserves (client 11) alice 1 None unsupported_want (pair_with 31) 76) (no 11 440)
    None
    ∷ held_on 1 (claims (client 12) alice 2 None 76 (Some 0)) (no 12 508) None
    ∷ held_on 1 (reserves (client 11) alice 1 None (ipv4_want 30) (pair_with 31) 77)
    (gets 11 (ipv4_given 0 30 ∷ []) 600) (Some 77)
    ∷ held_on 1 (reserves (client 11) alice 1 None (ipv4_want 30) (pair_with 31) 99)
    (gets 11 (ipv4_given 0 30 ∷ []) 600) (Some 77)
    ∷ held_on 2 (claims (client 13) bob 1 None 77 (Some 0)) (no 13 508) None
    ∷ held_on 2 (claims (client 12) alice 2 None 78 (Some 0)) (no 12 508) None
    ∷ held_on 3 (claims (client 12) alice 2 None 77 (Some 0)) (gets 12 (ipv4_given 1 31 ∷ []) 600) None
    ∷ held_on 3 (claims (client 12) alice 2 None 77 (Some 0)) (gets 12 (ipv4_given 1 31 ∷ []) 600) None
    ∷ held_on 4 (ends_all 12) (answers (client 12) (refreshed 0)) None
    ∷ held_on 5 (claims (client 12) alice 3 None 77 (Some 0)) (no 12 508) None
    ∷ held_on 6 (reserves (client 12) alice 4 None (ipv4_want 40) (pair_with 41) 79)
    (gets 12 (ipv4_given 2 40 ∷ []) 600) (Some 79)
    ∷ held_on 7 (ends_all 12) (answers (client 12) (refreshed 0)) None
    ∷ held_on 8 (reserves (client 12) alice 5 None (ipv4_want 50) (pair_with 51) 80)
    (gets 12 (ipv4_given 3 50 ∷ []) 600) (Some 80)
    ∷ held_on 9 (ends_all 12) (answers (client 12) (refreshed 0)) None
    ∷ held_on 9 (reserves (client 12) alice 6 None (ipv4_want 60) (pair_with 61) 81)
    (no 12 508) None
    ∷ held_on 9 (reserves (client 13) bob 2 None (ipv4_want 70) (pair_with 71) 80) (no 13 508) None
    ∷ held_on 9 (reserves (client 13) bob 2 None (ipv4_want 70) (pair_with 71) 82)
    (gets 13 (ipv4_given 4 70 ∷ []) 600) (Some 82)
    ∷ held_on 10 (plain (asks (client 13) bob (refresh None (Some 0))))
    (answers (client 13) (refreshed 0)) None
    ∷ held_on 10 (reserves (client 13) bob 3 None (ipv4_want 72) (pair_with 73) 83)
    (no 13 508) None
    ∷ held_before 36 (claims (client 12) alice 7 None 79 (Some 0)) (gets 12 (ipv4_given 5 41 ∷ []) 600)
    ∷ held_on 37 (ends_all 12) (answers (client 12) (refreshed 0)) None
    ∷ held_on 38 (claims (client 12) alice 8 None 80 (Some 0)) (no 12 508) None
    ∷ []
