-- Two agents with one path between them that works, the way, and other pairs on which nothing comes back:
-- the premises of a meeting, and what it is.
use Rattle.std.specs.Prelude.{◌≡◌, ℕ, zero, suc, ◌+◌, ◌*◌, ◌<◌, ◌≤◌, ◌-◌, ◌^◌, ◌⊎◌, ◌==◌, ◌&&◌, ◌||◌, Bool, true, false, List, [], ◌∷◌, find, length, Option, None, Some, nat_lt, if◌then◌else◌}
use Rattle.std.specs.List.{AllByRecursion, list_any}
use Rattle.stun_endpoints.specs.declared.endpoints.Endpoint.{Endpoint}
use Rattle.ice_machine.specs.Agents.{seconds, Base, Pair, Setup, State, pace, is_at, is_succeeded, is_in_progress, is_waiting, is_frozen, is_lost}
use Rattle.ice_machine.specs.Events.{Event, gathers, learns, meets, ends, checks, responds, strays, arrives, sends, polls, data_to}
use Rattle.ice_machine.specs.Checks.{rto_of}
use Rattle.ice_machine.specs.Steps.{step, is_base}
use Rattle.ice_machine.specs.Bounds.{AreDistinct}
use Rattle.ice_machine.specs.Runs.{Timed}
use Rattle.ice_machine.specs.Networks.{Place, Network, nowhere, Agents, round}

-- ---- A run of two agents

-- one agent's end of the working way: its base, the address of the other agent as it sees it, the component,
-- and the foundations of the pair
pub record End : Type 0 where
  pub base : ℕ
  pub to : Endpoint
  pub component : ℕ
  pub foundation : ℕ
  pub remote_foundation : ℕ

-- two agents and their network; how many rounds are lost at first; the moments of the rounds; four
-- random numbers for each round; and what comes to each agent before each round besides what the other
-- sends
pub record Meeting : Type 0 where
  pub one_setup : Setup
  pub other_setup : Setup
  pub net : Network
  pub lost : ℕ
  pub one_end : End
  pub other_end : End
  pub moment : ℕ → ℕ
  pub fresh : ℕ → ℕ → ℕ
  pub one_noise : ℕ → List Timed
  pub other_noise : ℕ → List Timed

abbrev pub disturbed : Setup → State → List Timed → State
disturbed setup s [] = s
disturbed setup s (t ∷ earlier) = (step setup (disturbed setup s earlier) t.now t.fresh t.event).state

abbrev pub noisy : Meeting → (n : ℕ) → Agents → Agents
noisy m n both = record {
  one = disturbed m.one_setup both.one (m.one_noise n);
  other = disturbed m.other_setup both.other (m.other_noise n);
}

-- in the first rounds every datagram is lost
abbrev pub net_at : Meeting → (n : ℕ) → Network
net_at m n = if nat_lt n m.lost then nowhere else m.net

abbrev pub round_of : Meeting → (n : ℕ) → Agents → Agents
round_of m n both = round m.one_setup m.other_setup (net_at m n) (m.moment n) (m.fresh n) (noisy m n both)

-- after so many rounds
abbrev pub after : Meeting → (n : ℕ) → Agents → Agents
after m zero both = both
after m (suc n) both = round_of m n (after m n both)

-- ---- Its premises

-- datagrams that aren't authentic, and the data that the user sends
abbrev pub is_noise : Event → Bool
is_noise (gathers b) = false
is_noise (learns r) = false
is_noise meets = false
is_noise ends = false
is_noise (checks c) = false
is_noise (responds base from id answer) = false
is_noise (strays base from id size code) = true
is_noise (arrives base from bytes) = true
is_noise (sends component bytes) = true
is_noise polls = false

abbrev pub IsNoise : (until : ℕ) → Timed → Type 0
IsNoise until t = (is_noise t.event ≡ true) × (t.now ≤ until)

-- room for a request, and the nomination is repeated within 6 seconds
pub record IsFit (setup : Setup) : Type 0 where
  pub room : 1 ≤ setup.most_requests
  pub prompt : rto_of setup ≤ seconds 6

-- what one agent sends on the way arrives at the other, and the other way round, as a NAT does that
-- keeps its mapping; rounds are at least Ta of both apart, and at most 20 seconds
pub record IsMeeting (m : Meeting) : Type 0 where
  pub one_fit : IsFit m.one_setup
  pub other_fit : IsFit m.other_setup
  pub there : m.net.there m.one_end.base m.one_end.to
      ≡ Some (record { base = m.other_end.base; from = m.other_end.to })
  pub back : m.net.back m.other_end.base m.other_end.to
      ≡ Some (record { base = m.one_end.base; from = m.one_end.to })
  pub one_paced : (n : ℕ) → m.moment n + pace m.one_setup ≤ m.moment (suc n)
  pub other_paced : (n : ℕ) → m.moment n + pace m.other_setup ≤ m.moment (suc n)
  pub steady : (n : ℕ) → m.moment (suc n) ≤ m.moment n + seconds 20
  pub one_noise : (n : ℕ) → AllByRecursion (IsNoise (m.moment n)) (m.one_noise n)
  pub other_noise : (n : ℕ) → AllByRecursion (IsNoise (m.moment n)) (m.other_noise n)

-- a pair on which nothing comes back: it is tried in vain, and no more. Its foundations aren't those of
-- the way (or the way would wait for it, 6.1.4.2)
pub record IsUseless (e : End) (net : ℕ → Endpoint → Option Place) (p : Pair) : Type 0 where
  pub elsewhere : is_at e.base e.to p ≡ false
  pub unanswered : net p.base p.remote ≡ None
  pub apart : ((e.foundation == p.foundation) && (e.remote_foundation == p.remote_foundation)) ≡ false
  pub invalid : is_succeeded p.state ≡ false
  pub untriggered : p.triggered ≡ false
  pub unchosen : p.chosen ≡ false
  pub unnominated : p.nominated ≡ false

-- the pair of the way, on which nothing has come back yet
pub record IsUntold (e : End) (p : Pair) : Type 0 where
  pub there : is_at e.base e.to p ≡ true
  pub component : p.component ≡ e.component
  pub invalid : is_succeeded p.state ≡ false
  pub unlost : is_lost p.state ≡ false
  pub unchosen : p.chosen ≡ false
  pub unnominated : p.nominated ≡ false

-- it was tried so many times at most, and is tried again at a moment, or before
pub record IsHopeful (e : End) (due tried : ℕ) (p : Pair) : Type 0 where
  pub foundation : p.foundation ≡ e.foundation
  pub remote_foundation : p.remote_foundation ≡ e.remote_foundation
  pub going : ((is_waiting p.state || is_frozen p.state) ≡ true)
      ⊎ ((is_in_progress p.state ≡ true) × (p.due ≤ due))
  pub few : p.tries ≤ tried

-- one pair has the first property, and each other has the second
abbrev pub OneAmong : (P Q : Pair → Type 0) → List Pair → Type 0
OneAmong P Q [] = ⊥
OneAmong P Q (p ∷ ps) = (P p × AllByRecursion Q ps) ⊎ (Q p × OneAmong P Q ps)

-- an agent that knows the peer's credentials and its base, by a moment; and no request is sent before
-- another one. The pair of the way has a property, and the others are useless
pub record IsAgent (e : End) (net : ℕ → Endpoint → Option Place) (P : Pair → Type 0) (now gate : ℕ)
    (s : State) : Type 0 where
  pub ready : s.ready ≡ true
  pub clock : s.clock ≤ now
  pub paced : s.next_request_at ≤ gate
  pub based : list_any (is_base e.base) s.bases ≡ true
  pub pairs : OneAmong P (IsUseless e net) s.pairs

-- an agent that doesn't know the way: it has the base, and room for the pair that a check may discover
-- (7.3.1.3)
pub record IsUnaware (e : End) (net : ℕ → Endpoint → Option Place) (setup : Setup) (now gate : ℕ)
    (s : State) : Type 0 where
  pub ready : s.ready ≡ true
  pub clock : s.clock ≤ now
  pub paced : s.next_request_at ≤ gate
  pub base : Base
  pub based : find (is_base e.base) s.bases ≡ Some base
  pub component : base.component ≡ e.component
  pub pairs : AllByRecursion (IsUseless e net) s.pairs
  pub room : length s.pairs < setup.most_pairs

-- an agent that may try the way, or has failed there, or doesn't know it
abbrev pub IsPassive : End → (ℕ → Endpoint → Option Place) → Setup → (now gate : ℕ) → State → Type 0
IsPassive e net setup now gate s =
    IsAgent e net (IsUntold e) now gate s ⊎ IsUnaware e net setup now gate s

-- the requests that the useless pairs may still cause before one on the way: so many on a pair that was
-- tried, less its tries, and one more on one that wasn't
abbrev pub tries_left : (count : ℕ) → Pair → ℕ
tries_left count p = if is_waiting p.state || is_frozen p.state then 1 + count
    else (if is_in_progress p.state then count - p.tries else 0)

abbrev pub delay : (count : ℕ) → End → List Pair → ℕ
delay count e [] = 0
delay count e (p ∷ ps) =
    (if is_at e.base e.to p then 0 else tries_left count p) + delay count e ps

-- an agent whose pair of the way has a property, and the useless tries left; no two pairs are of one
-- place (as in each run: `agent_is_bounded`)
pub record IsTrying (e : End) (net : ℕ → Endpoint → Option Place) (count : ℕ) (P : Pair → Type 0)
    (now gate most : ℕ) (s : State) : Type 0 where
  pub agent : IsAgent e net P now gate s
  pub distinct : AreDistinct s.pairs
  pub few : delay count e s.pairs ≤ most

-- all tries of the useless pairs count; or the way is as yet untried, so that it comes before what was
-- tried
abbrev pub IsCounted : Setup → (count : ℕ) → Pair → Type 0
IsCounted setup count p =
    (setup.most_tries ≤ count) ⊎ ((is_waiting p.state || is_frozen p.state) ≡ true)

abbrev pub IsNewWay : End → Setup → (count due tried : ℕ) → Pair → Type 0
IsNewWay e setup count due tried p =
    IsUntold e p × IsHopeful e due tried p × IsCounted setup count p

-- an agent at the start: it tries the way, the next time at a moment, or before, and can still do so
-- once the first rounds are lost
pub record IsStarting (m : Meeting) (e : End) (net : ℕ → Endpoint → Option Place) (setup : Setup)
    (count due tried most : ℕ) (s : State) : Type 0 where
  pub trying : IsTrying e net count (IsNewWay e setup count due tried) (m.moment 0) (m.moment 0) most s
  pub able : tried + m.lost < setup.most_tries
  pub again : (i : ℕ) → i < m.lost → m.moment i + rto_of setup * 2 ^ (tried + i) ≤ due
  pub counted : (m.lost ≡ 0) ⊎ (setup.most_tries ≤ count)

-- one of the agents tries the way
abbrev pub AreStarting : Meeting → (count due tried most : ℕ) → Agents → Type 0
AreStarting m count due tried most both =
    (IsStarting m m.one_end m.net.there m.one_setup count due tried most both.one
    × IsPassive m.other_end m.net.back m.other_setup (m.moment 0) (m.moment 0) both.other)
    ⊎ (IsPassive m.one_end m.net.there m.one_setup (m.moment 0) (m.moment 0) both.one
    × IsStarting m m.other_end m.net.back m.other_setup count due tried most both.other)

-- ---- A meeting

-- the user's data is sent on the way, until a moment
abbrev pub Reaches : Setup → End → (now : ℕ) → State → Type 0
Reaches setup e now s = (t fresh : ℕ) (bytes : List ℕ) → t ≤ now
    → (step setup s t fresh (sends e.component bytes)).output ≡ data_to e.base e.to bytes

-- each agent's data reaches the other, until the next round
abbrev pub HaveMet : Meeting → (n : ℕ) → Agents → Type 0
HaveMet m n both = Reaches m.one_setup m.one_end (m.moment n) both.one
    × Reaches m.other_setup m.other_end (m.moment n) both.other
