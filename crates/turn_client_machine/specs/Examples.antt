-- A client with two peers, and a server, over a network that loses nothing.
use Rattle.std.specs.Prelude.{ℕ, zero, suc, ◌+◌, ◌*◌, false, true, List, [], ◌∷◌, Option, None, Some, ◌==◌}
use Rattle.stun_endpoints.specs.declared.endpoints.FiveTuple.{FiveTuple}
use Rattle.turn_machine.specs.Relays.{Setup as ServerSetup, Rules, State as ServerState}
use Rattle.turn_machine.specs.Events.{Offer, Want, asks as s_asks, arrives as s_arrives, Output as ServerOutput, answers as s_answers, to_peer, to_client, to_client_on, to_client_icmp, nothing as s_nothing}
use Rattle.turn_machine.specs.Runs.{initial_state as s_begun}
use Rattle.turn_machine.specs.Steps.{Step as ServerStep, step as s_step}
use Rattle.turn_client_machine.specs.Clients.{Endpoint, seconds, Setup, Request, Allocated, State}
use Rattle.turn_client_machine.specs.Events.{Answer, Refused, Challenged, allocates, permits, binds, sends, responds, polls, Output, asks, send_to, send_on, shows, nothing}
use Rattle.turn_client_machine.specs.Steps.{Step, new_peer, step}
use Rattle.turn_client_machine.specs.Runs.{begun}
use Rattle.turn_client_machine.specs.Joined.{request_of, answer_of, at_server, at_client}

abbrev pub address : ℕ → Endpoint
address n = record { ip = record { family = 1; number = n }; port = 3478 }

abbrev pub server_1 : Endpoint
server_1 = address 1

abbrev pub peer_1 : Endpoint
peer_1 = address 21

abbrev pub peer_2 : Endpoint
peer_2 = address 22

abbrev pub tuple_1 : FiveTuple
tuple_1 = record { client = address 11; server = server_1; transport = 17 }

abbrev pub setup_1 : Setup
setup_1 = record {
  server = server_1;
  family = 1;
  is_reliable = false;
  most_peers = 4;
  most_named = 8;
  most_sends = 7;
  most_retries = 3;
  wait = λ n. seconds n;
}

abbrev pub offer_1 : Offer
offer_1 = record { number = 7; address = address 2 }

-- IPv4
abbrev pub want_1 : Want
want_1 = record { family = 1; ready = Some offer_1 }

abbrev pub rules_1 : Rules
rules_1 = record { allows_ip = λ ip. true; allows_port = λ peer. true }

abbrev pub server_setup : ServerSetup
server_setup = record {
  most_relays = 2;
  most_of_user = 2;
  most_reservations = 0;
  most_permissions = 4;
  most_channels = 4;
  greatest_lifetime = 3600;
  last_channel = 0x4FFF;
  has_family = λ family. family == 1;
  supports_dont_fragment = false;
  passes_icmp = false;
  channel_permits = false;
}

pub record Both : Type 0 where
  pub client : State
  pub server : ServerState

abbrev pub begin_1 : State
begin_1 =
    let asking = (step setup_1 (begun setup_1) 0 0 allocates).state in
    let named = (step setup_1 asking 0 0 (permits peer_1)).state in
    (step setup_1 named 0 0 (binds peer_2)).state

abbrev pub both_1 : Both
both_1 = record { client = begin_1; server = s_begun }

abbrev pub answer_in : ServerOutput → Answer
answer_in (s_answers tuple answer) = answer_of (address 12) answer
answer_in (to_peer number peer dont_fragment bytes) = Refused 500
answer_in (to_client tuple peer bytes) = Refused 500
answer_in (to_client_on tuple number bytes) = Refused 500
answer_in (to_client_icmp tuple peer icmp) = Refused 500
answer_in s_nothing = Refused 500

-- the server's response to a signed request
abbrev pub signed : (now : ℕ) → Request → (client : State) → ServerStep → Both
signed now r client s = record {
  client = (step setup_1 client now 0 (responds server_1 r.id true (answer_in s.output))).state;
  server = s.state;
}

-- an unsigned request is challenged
abbrev pub asked : (now : ℕ) → Request → (others : List Endpoint) → (challenge : Option ℕ)
    → (client : State) → ServerState → Both
asked now r others None client server = record {
  client = (step setup_1 client now 0 (responds server_1 r.id false (Challenged 401 1))).state;
  server = server;
}
asked now r others (Some challenge) client server =
    signed now r client
    (s_step server_setup rules_1 server now (s_asks tuple_1 5 (request_of None r.id want_1 others r.kind)))

abbrev pub delivered : (now : ℕ) → Output → (client : State) → ServerState → Both
delivered now (asks r others) client server = asked now r others r.challenge client server
delivered now (send_to peer bytes) client server = record { client = client; server = server }
delivered now (send_on number bytes) client server = record { client = client; server = server }
delivered now (shows peer bytes) client server = record { client = client; server = server }
delivered now nothing client server = record { client = client; server = server }

-- a poll, and the response to the request that it sends
abbrev pub exchanged_by : (now : ℕ) → Step → ServerState → Both
exchanged_by now s server = delivered now s.output s.state server

abbrev pub exchange : (now fresh : ℕ) → Both → Both
exchange now fresh both =
    exchanged_by now (step setup_1 both.client now fresh polls) both.server

abbrev pub after : ℕ → Both
after zero = both_1
after (suc n) = exchange n (100 + n) (after n)

-- three exchanges every 18 seconds, n times
abbrev pub rounds : ℕ → Both → Both
rounds zero both = both
rounds (suc n) both =
    exchange (seconds (18 * (n + 1))) (1002 + 3 * n)
    (exchange (seconds (18 * (n + 1))) (1001 + 3 * n)
    (exchange (seconds (18 * (n + 1))) (1000 + 3 * n) (rounds n both)))

-- half an hour
abbrev pub later : Both
later = rounds 100 (after 5)

abbrev pub client_sends : (now : ℕ) → Endpoint → List ℕ → State → Output
client_sends now peer bytes client = (step setup_1 client (seconds now) 0 (sends peer bytes)).output

-- a client whose channel expires at second 600, since its renewal was refused, and whose
-- permission lasts longer
abbrev pub with_old_channel : State
with_old_channel = record begin_1 {
  phase = Allocated;
  expires_at = seconds 900;
  peers = record (new_peer 0 false peer_2 []) {
    expires_at = seconds 900;
    channel_expires_at = seconds 600;
  } ∷ [];
}

-- data of the user through the server, and a peer's data back
abbrev pub over : Both → (now : ℕ) → Endpoint → List ℕ → ServerOutput
over both now peer bytes =
    (s_step server_setup rules_1 both.server (seconds now)
    (at_server tuple_1 (client_sends now peer bytes both.client))).output

abbrev pub back : Both → (now : ℕ) → Endpoint → List ℕ → Output
back both now peer bytes =
    (step setup_1 both.client (seconds now) 0 (at_client server_1
    (s_step server_setup rules_1 both.server (seconds now) (s_arrives 7 peer bytes)).output)).output

abbrev pub silent_since : Both → (now : ℕ) → Endpoint → List ℕ → Output
silent_since both now peer bytes = client_sends now peer bytes both.client
