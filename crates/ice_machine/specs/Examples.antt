-- Two agents that meet.
use Rattle.std.specs.Prelude.{ℕ, Bool, length, false, ◌+◌, ◌*◌, List, ◌==◌, ◌&&◌, if◌then◌else◌, [], ◌∷◌, None, Some}
use Rattle.stun_endpoints.specs.declared.endpoints.Endpoint.{Endpoint}
use Rattle.stun_endpoints.specs.Endpoints.{is_endpoint}
use Rattle.ice_machine.specs.Roles.{Role, Controlling}
use Rattle.ice_machine.specs.Agents.{milliseconds, Base, Remote, Setup, State}
use Rattle.ice_machine.specs.Events.{Event, gathers, learns, meets}
use Rattle.ice_machine.specs.Runs.{Begin, Timed, run}
use Rattle.ice_machine.specs.Networks.{Network, nowhere, Agents, rounds}
use Rattle.ice_machine.specs.Meetings.{End, Meeting}

abbrev pub setup_1 : Setup
setup_1 = record {
  most_pairs = 100;
  most_candidates = 32;
  most_requests = 200;
  ta = milliseconds 50;
  rto = milliseconds 500;
  most_tries = 5;
  patience = milliseconds 200;
}

abbrev pub address : (n : ℕ) → Endpoint
address n = record { ip = record { family = 1; number = n }; port = 7 }

abbrev pub base_1 : (number priority : ℕ) → Base
base_1 number priority = record {
  number = number;
  component = 1;
  family = 1;
  link_local = false;
  foundation = number;
  priority = priority;
  reflexive_priority = 1862270975;
}

abbrev pub remote_1 : (n priority : ℕ) → Remote
remote_1 n priority = record { address = address n; component = 1; foundation = n; priority = priority }

abbrev pub timed : Event → Timed
timed event = record { now = 0; fresh = 0; event = event }

abbrev pub begin_1 : Role → (tiebreaker : ℕ) → Begin
begin_1 role tiebreaker = record { role = role; tiebreaker = tiebreaker }

abbrev pub told_1 : (host relayed : ℕ) → List Timed
told_1 host relayed = timed meets ∷ timed (learns (remote_1 relayed 16777215))
    ∷ timed (learns (remote_1 host 2130706431)) ∷ timed (gathers (base_1 2 16777215))
    ∷ timed (gathers (base_1 1 2130706431)) ∷ []

-- how many pairs an agent has with a base of IPv6 and a candidate of the peer at an IPv6 address
abbrev pub base_6 : (link_local : Bool) → Base
base_6 link_local = record (base_1 1 2130706431) { family = 2; link_local = link_local }

abbrev pub remote_6 : (n : ℕ) → Remote
remote_6 n = record (remote_1 1 2130706431) {
  address = record { ip = record { family = 2; number = n }; port = 7 };
}

abbrev pub pairs_of_6 : (link_local : Bool) → (n : ℕ) → ℕ
pairs_of_6 link_local n = length (run setup_1 (begin_1 Controlling 5)
    (timed (learns (remote_6 n)) ∷ timed (gathers (base_6 link_local)) ∷ [])).pairs

-- an agent with a host candidate and a relayed one, which knows the host candidate of the other one
-- and its relayed one, at these addresses
abbrev pub agent : Role → (tiebreaker host relayed : ℕ) → State
agent role tiebreaker host relayed = run setup_1 (begin_1 role tiebreaker) (told_1 host relayed)

-- the first one uses a NAT with address 30, which lets responses in; the other one is public, at 20. The first one's host address is 10, and nothing that is sent there arrives. The relays don't
-- work
abbrev pub through_nat : Network
through_nat = record {
  there = λ base to. if (base == 1) && is_endpoint to (address 20)
      then Some (record { base = 1; from = address 30 }) else None;
  back = λ base to. if (base == 1) && is_endpoint to (address 30)
      then Some (record { base = 1; from = address 20 }) else None;
}

abbrev pub both_of : Role → Role → Agents
both_of one other = record { one = agent one 5 20 21; other = agent other 9 10 11 }

-- so many rounds in which nothing arrives, from a moment on, and then so many through the NAT
abbrev pub after_rounds : (lost_rounds n : ℕ) → Agents → Agents
after_rounds lost_rounds n both = rounds setup_1 setup_1 through_nat n
    (milliseconds 50 * lost_rounds) (rounds setup_1 setup_1 nowhere lost_rounds 0 both)

-- the same network, once the address of the NAT is signalled, rounds 50 ms apart, and nothing else that
-- comes
abbrev pub end_1 : (remote : ℕ) → End
end_1 remote = record {
  base = 1;
  to = address remote;
  component = 1;
  foundation = 1;
  remote_foundation = remote;
}

abbrev pub meeting_1 : Meeting
meeting_1 = record {
  one_setup = setup_1;
  other_setup = setup_1;
  net = through_nat;
  lost = 0;
  one_end = end_1 20;
  other_end = end_1 30;
  moment = λ n. milliseconds 50 * n;
  fresh = λ n k. 4 * n + k;
  one_noise = λ n. [];
  other_noise = λ n. [];
}

-- the host pair passes one way alone, so that it is valid for the first one and never for the other;
-- the relayed pair passes both ways
abbrev pub one_sided : Network
one_sided = record {
  there = λ base to. if (base == 1) && is_endpoint to (address 20)
      then Some (record { base = 1; from = address 30 })
      else (if (base == 2) && is_endpoint to (address 21)
      then Some (record { base = 2; from = address 31 }) else None);
  back = λ base to. if (base == 2) && is_endpoint to (address 31)
      then Some (record { base = 2; from = address 21 }) else None;
}

abbrev pub both_of_relayed : Role → Role → Agents
both_of_relayed one other = record { one = agent one 5 20 21; other = agent other 9 30 31 }
