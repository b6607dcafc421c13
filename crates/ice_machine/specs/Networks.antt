-- Two agents, and a network between them that loses no datagram. Its NATs let responses through.
use Rattle.std.specs.Prelude.{◌≡◌, ℕ, zero, suc, ◌+◌, ◌*◌, [], Option, None, Some}
use Rattle.stun_endpoints.specs.declared.endpoints.Endpoint.{Endpoint}
use Rattle.ice_machine.specs.Agents.{Request, Setup, State, milliseconds}
use Rattle.ice_machine.specs.Events.{checks, responds, sends, polls, Output, asks, answers, data_to}
use Rattle.ice_machine.specs.Steps.{step}
use Rattle.ice_machine.specs.Exchanges.{delivered}

-- the base of the other agent that a datagram arrives at, and the address that it comes from
pub record Place : Type 0 where
  pub base : ℕ
  pub from : Endpoint

-- for a datagram that is sent from a base to an address, in both directions
pub record Network : Type 0 where
  pub there : ℕ → Endpoint → Option Place
  pub back : ℕ → Endpoint → Option Place

-- nothing arrives
abbrev pub nowhere : Network
nowhere = record { there = λ base to. None; back = λ base to. None }

pub record Agents : Type 0 where
  pub one : State
  pub other : State

abbrev pub takes : Setup → (now anew : ℕ) → Request → State → State → Output → Agents
takes setup now anew r own peer (answers base to id answer) = record {
  one = (step setup own now anew (responds r.base r.to r.id answer)).state;
  other = peer;
}
takes setup now anew r own peer _ = record { one = own; other = peer }

abbrev pub gets_to : Setup → Setup → (now anew : ℕ) → Request → State → State → Option Place → Agents
gets_to own_setup peer_setup now anew r own peer None = record { one = own; other = peer }
gets_to own_setup peer_setup now anew r own peer (Some place) =
    let s = step peer_setup peer now 0 (checks (delivered r place.base place.from)) in
    takes own_setup now anew r own s.state s.output

abbrev pub goes : Setup → Setup → (ℕ → Endpoint → Option Place) → (now anew : ℕ) → State → State → Output
    → Agents
goes own_setup peer_setup net now anew own peer (asks r) =
    gets_to own_setup peer_setup now anew r own peer (net r.base r.to)
goes own_setup peer_setup net now anew own peer _ = record { one = own; other = peer }

-- an agent polls, the other one responds, and the response is received. `fresh` is the transaction ID of
-- the request, and `anew` the random number of the response's step: the tiebreaker after error 487
abbrev pub turn : Setup → Setup → (ℕ → Endpoint → Option Place) → (now fresh anew : ℕ) → State → State
    → Agents
turn own_setup peer_setup net now fresh anew own peer =
    let s = step own_setup own now fresh polls in
    goes own_setup peer_setup net now anew s.state peer s.output

abbrev pub swapped : Agents → Agents
swapped both = record { one = both.other; other = both.one }

-- one polls, and then the other; `fresh` gives the round's four random numbers
abbrev pub round : Setup → Setup → Network → (now : ℕ) → (fresh : ℕ → ℕ) → Agents → Agents
round one_setup other_setup net now fresh both =
    let first = turn one_setup other_setup net.there now (fresh 0) (fresh 1) both.one both.other in
    swapped (turn other_setup one_setup net.back now (fresh 2) (fresh 3) first.other first.one)

-- so many rounds, 50 ms apart
abbrev pub rounds : Setup → Setup → Network → (n : ℕ) → (now : ℕ) → Agents → Agents
rounds one_setup other_setup net zero now both = both
rounds one_setup other_setup net (suc n) now both =
    rounds one_setup other_setup net n (now + milliseconds 50)
    (round one_setup other_setup net now (λ k. 4 * n + 4 + k) both)

-- the user's data is sent from a base to an address
abbrev pub reaches : Setup → State → (now component base : ℕ) → Endpoint → Type 0
reaches setup state now component base to =
    (step setup state now 0 (sends component [])).output ≡ data_to base to []
