-- One step of an agent: its next state and its output.
use Rattle.std.specs.Prelude.{ℕ, ◌+◌, ◌*◌, ◌%◌, ◌^◌, Bool, true, false, not, ◌&&◌, ◌||◌, List, [], ◌∷◌, map, filter, find, take, length, max, Option, None, Some, nat_lt, nat_le, ◌==◌, if◌then◌else◌}
use Rattle.std.specs.List.{list_any}
use Rattle.std.specs.Option.{option_map_or}
use Rattle.stun_endpoints.specs.declared.endpoints.Endpoint.{Endpoint}
use Rattle.stun_endpoints.specs.Endpoints.{is_endpoint}
use Rattle.ice_machine.specs.Roles.{Role, Controlling, Controlled, RoleDecision, keep, switch, refuse, other_role, is_controlling, role_decision}
use Rattle.ice_machine.specs.Agents.{seconds, Base, Remote, Waiting, Succeeded, Failed, Lost, Pair, Request, Setup, State, pace, is_at, is_succeeded, is_in_progress, is_frozen, is_lost}
use Rattle.ice_machine.specs.Events.{Check, Answer, Accepted, Refused, Event, gathers, learns, meets, ends, checks, responds, strays, arrives, sends, polls, Output, asks, answers, data_to, data_from, nothing}
use Rattle.ice_machine.specs.Pairs.{pair_of, fits, with_pair, with_pairs, selected}
use Rattle.ice_machine.specs.Checks.{is_kin, most_urgent, request_on, asked}

pub record Step : Type 0 where
  pub state : State
  pub output : Output

-- ---- Time

-- a check that no response came to has failed (7.2.5.2.3). A pair whose consent has expired is lost:
-- nothing is sent on it with these credentials again (RFC 7675, section 5.1)
abbrev pub is_unanswered : Setup → (now : ℕ) → Pair → Bool
is_unanswered setup now p =
    is_in_progress p.state && (nat_le setup.most_tries p.tries && nat_le p.due now)

abbrev pub is_over : (now : ℕ) → Pair → Bool
is_over now p = is_succeeded p.state && nat_le p.expires_at now

abbrev pub settled : Setup → (now : ℕ) → Pair → Pair
settled setup now p =
    if is_unanswered setup now p then record p { state = Failed } else (
    if is_over now p
    then record p { state = Lost; triggered = false; chosen = false } else p)

-- a response counts for less than 30 seconds after its request
abbrev pub is_awaited : (now : ℕ) → Request → Bool
is_awaited now r = nat_lt now (r.sent + seconds 30)

-- the state at a moment. A clock that steps back counts as stopped
abbrev pub at : Setup → ℕ → State → State
at setup now state = record state {
  clock = max state.clock now;
  pairs = map {B = Pair} (settled setup (max state.clock now)) state.pairs;
  requests = filter (is_awaited (max state.clock now)) state.requests;
}

-- ---- Changes

abbrev pub does_nothing : State → Step
does_nothing state = record { state = state; output = nothing }

abbrev pub changed_first : {X : Type 0} → (X → Bool) → (X → X) → List X → List X
changed_first test change [] = []
changed_first test change (x ∷ xs) =
    if test x then change x ∷ xs else x ∷ changed_first test change xs

-- with the pair of a base and an address changed
abbrev pub changed : (Pair → Pair) → (base : ℕ) → Endpoint → State → State
changed change base remote state =
    record state { pairs = changed_first (is_at base remote) change state.pairs }

-- if the role changes, nominations end
abbrev pub unnominated : Pair → Pair
unnominated p = record p { chosen = false; nominated = false }

abbrev pub in_role : Role → State → State
in_role Controlling state = if is_controlling state.role then state
    else record state { role = Controlling; pairs = map {B = Pair} unnominated state.pairs }
in_role Controlled state = if is_controlling state.role
    then record state { role = Controlled; pairs = map {B = Pair} unnominated state.pairs }
    else state

-- ---- Candidates

abbrev pub has_room : {X : Type 0} → Setup → List X → Bool
has_room setup xs = nat_lt (length xs) setup.most_candidates

abbrev pub is_base : ℕ → Base → Bool
is_base number b = b.number == number

abbrev pub gathered : Setup → Base → State → State
gathered setup b state =
    if has_room setup state.bases && not (list_any (is_base b.number) state.bases)
    then record state {
      bases = b ∷ state.bases;
      pairs = with_pairs setup.most_pairs
          (map {B = Pair} (pair_of b) (filter (fits b) state.remotes)) state.pairs;
    }
    else state

abbrev pub is_remote : (component : ℕ) → Endpoint → Remote → Bool
is_remote component address r = (r.component == component) && is_endpoint address r.address

abbrev pub learned : Setup → Remote → State → State
learned setup r state =
    if has_room setup state.remotes && not (list_any (is_remote r.component r.address) state.remotes)
    then record state {
      remotes = r ∷ state.remotes;
      pairs = with_pairs setup.most_pairs
          (map {B = Pair} (λ b. pair_of b r) (filter (λ b. fits b r) state.bases)) state.pairs;
    }
    else state

-- ---- Checks of the peer (7.3.1)

-- the candidate that a check comes from, if it is unknown (7.3.1.3). Its foundation is different from
-- those of signalled candidates, which aren't 0
abbrev pub discovered : Base → Check → Remote
discovered b c =
    record { address = c.from; component = b.component; foundation = 0; priority = c.priority }

-- a check on a pair triggers a check (7.3.1.4), and may nominate the pair (7.3.1.5)
abbrev pub triggers : Pair → Pair
triggers p =
    if is_succeeded p.state || is_lost p.state then p
    else record p { state = Waiting; triggered = true; tries = 0 }

abbrev pub nominated_by : Role → Check → Pair → Pair
nominated_by role c p =
    if c.nominates && (not (is_controlling role) && not (is_lost p.state))
    then record p { heard = true; nominated = true }
    else record p { heard = true }

abbrev pub heard : Role → Check → Pair → Pair
heard role c p = triggers (nominated_by role c p)

abbrev pub hears : Setup → Base → Check → State → State
hears setup b c state = changed (heard state.role c) c.base c.from
    (record state {
      pairs = with_pair setup.most_pairs (pair_of b (discovered b c)) state.pairs;
    })

abbrev pub accepts : Setup → Base → Check → State → Step
accepts setup b c state = record {
  state = hears setup b c state;
  output = answers c.base c.from c.id Accepted;
}

abbrev pub decides : Setup → Base → Check → State → RoleDecision → Step
decides setup b c state keep = accepts setup b c state
decides setup b c state switch = accepts setup b c (in_role (other_role state.role) state)
decides setup b c state refuse =
    record { state = state; output = answers c.base c.from c.id (Refused 487) }

abbrev pub checked : Setup → Check → State → Base → Step
checked setup c state b =
    decides setup b c state (role_decision state.role state.tiebreaker c.role c.tiebreaker)

-- ---- Responses (7.2.5)

abbrev pub is_request : (id : ℕ) → Request → Bool
is_request id r = r.id == id

-- from the address that the request was sent to, at the base that it was sent from (7.2.5.2.1)
abbrev pub is_symmetric : (base : ℕ) → Endpoint → Request → Bool
is_symmetric base from r = (r.base == base) && is_endpoint r.to from

abbrev pub without_request : (id : ℕ) → State → State
without_request id state =
    record state { requests = filter (λ r. not (is_request id r)) state.requests }

abbrev pub fails : Pair → Pair
fails p = if is_in_progress p.state then record p { state = Failed } else p

-- a pair succeeds (7.2.5.3.3), and its nomination with it (7.2.5.3.4). The peer's consent lasts for 30
-- seconds (RFC 7675, section 5.1)
abbrev pub succeeds : Role → (now : ℕ) → Request → Pair → Pair
succeeds role now r p =
    if is_lost p.state then p
    else record p {
      state = Succeeded;
      triggered = false;
      nominated = p.nominated || (p.chosen && (r.nominates && is_controlling role));
      expires_at = now + seconds 30;
      succeeded_at = if is_succeeded p.state then p.succeeded_at else now;
      due = if is_succeeded p.state then p.due else now + seconds 4;
      tries = 0;
    }

-- then the frozen pairs of its foundation wait (7.2.5.3.3)
abbrev pub thaws : Option Pair → Pair → Pair
thaws None q = q
thaws (Some p) q = if is_kin p q && is_frozen q.state then record q { state = Waiting } else q

abbrev pub thawed : (base : ℕ) → Endpoint → State → State
thawed base remote state = record state {
  pairs = map {B = Pair} (thaws (find (is_at base remote) state.pairs)) state.pairs;
}

-- error 487 (7.2.5.1): the role becomes the opposite of the request's, the tiebreaker changes, and the pair
-- is checked again
abbrev pub retried : Pair → Pair
retried p =
    if is_lost p.state then p
    else (if is_succeeded p.state then record p { triggered = true } else triggers p)

abbrev pub yields : (fresh : ℕ) → Request → State → State
yields fresh r state = changed retried r.base r.to
    (in_role (other_role r.role) (record state { tiebreaker = fresh % 2 ^ 64 }))

abbrev pub answered : (fresh : ℕ) → Request → Answer → State → State
answered fresh r Accepted state = thawed r.base r.to
    (changed (succeeds state.role state.clock r) r.base r.to state)
answered fresh r (Refused code) state =
    if code == 487 then yields fresh r state else changed fails r.base r.to state

abbrev pub responded : (fresh base : ℕ) → Endpoint → Answer → State → Request → Step
responded fresh base from answer state r = does_nothing
    (if is_symmetric base from r then answered fresh r answer (without_request r.id state)
    else changed fails r.base r.to (without_request r.id state))

-- ---- Messages that aren't authentic

-- the bytes of an error response: its header; ERROR-CODE with a reason phrase of at most 20 bytes, such as
-- `Unknown Attribute`; and FINGERPRINT. There is none if that is more than three times what it answers
abbrev pub refusal_size : ℕ
refusal_size = 20 + (8 + 20) + 8

abbrev pub strayed : (base : ℕ) → Endpoint → (id size : ℕ) → Option ℕ → Output
strayed base from id size None = nothing
strayed base from id size (Some code) =
    if nat_le refusal_size (3 * size) then answers base from id (Refused code) else nothing

-- ---- Data

-- if an authentic message has come from there
abbrev pub received : List ℕ → Pair → Output
received bytes p =
    if p.heard || is_succeeded p.state then data_from p.component bytes else nothing

-- only while the peer consents
abbrev pub sent : (now : ℕ) → List ℕ → Pair → Output
sent now bytes p = if nat_lt now p.expires_at then data_to p.base p.remote bytes else nothing

-- ---- Requests

abbrev pub asks_on : Setup → (fresh : ℕ) → State → Pair → Step
asks_on setup fresh state p = record {
  state = record state {
    pairs = changed_first (is_at p.base p.remote) (asked setup state fresh) state.pairs;
    requests = take setup.most_requests (request_on setup state fresh p ∷ state.requests);
    next_request_at = state.clock + pace setup;
  };
  output = asks (request_on setup state fresh p);
}

abbrev pub is_open : State → Bool
is_open state = state.ready && nat_le state.next_request_at state.clock

abbrev pub polled : Setup → (fresh : ℕ) → State → Step
polled setup fresh state =
    if is_open state
    then option_map_or (asks_on setup fresh state) (most_urgent setup state) (does_nothing state)
    else does_nothing state

-- ---- The step

abbrev pub happens : Setup → (fresh : ℕ) → State → Event → Step
happens setup fresh state (gathers b) = does_nothing (gathered setup b state)
happens setup fresh state (learns r) = does_nothing (learned setup r state)
happens setup fresh state meets = does_nothing (record state { ready = true })
happens setup fresh state ends = does_nothing (record state { ended = true })
happens setup fresh state (checks c) =
    option_map_or (checked setup c state) (find (is_base c.base) state.bases) (does_nothing state)
happens setup fresh state (responds base from id answer) =
    option_map_or (responded fresh base from answer state) (find (is_request id) state.requests)
    (does_nothing state)
happens setup fresh state (strays base from id size code) =
    record { state = state; output = strayed base from id size code }
happens setup fresh state (arrives base from bytes) = record {
  state = state;
  output = option_map_or (received bytes) (find (is_at base from) state.pairs) nothing;
}
happens setup fresh state (sends component bytes) = record {
  state = state;
  output = option_map_or (sent state.clock bytes) (selected component state) nothing;
}
happens setup fresh state polls = polled setup fresh state

-- `fresh` is a random number that no other step has
abbrev pub step : Setup → State → (now fresh : ℕ) → Event → Step
step setup state now fresh event = happens setup fresh (at setup now state) event
