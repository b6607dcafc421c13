-- How a nominated pair keeps the peer's consent (RFC 7675, section 5.1), for one agent, whatever else
-- arrives, over a network that delays and loses datagrams.
use Rattle.std.specs.Prelude.{◌≡◌, ℕ, ◌+◌, ◌*◌, ◌<◌, ◌≤◌, ◌^◌, ◌⊎◌, ◌&&◌, ◌||◌, ◌==◌, Bool, true, false, nat_lt, nat_le, List, [], ◌∷◌, find, Option, None, Some, if◌then◌else◌}
use Rattle.std.specs.List.{AllByRecursion}
use Rattle.std.specs.Option.{option_map_or}
use Rattle.stun_endpoints.specs.declared.endpoints.Endpoint.{Endpoint}
use Rattle.stun_endpoints.specs.Endpoints.{is_endpoint}
use Rattle.ice_machine.specs.Roles.{Controlling, other_role}
use Rattle.ice_machine.specs.Agents.{seconds, Pair, Request, Setup, State, is_at, is_succeeded, is_lost, pair_priority}
use Rattle.ice_machine.specs.Events.{Answer, Accepted, Refused, Event, gathers, learns, meets, ends, checks, responds, strays, arrives, sends, polls, Output, asks, answers, data_to, data_from, nothing}
use Rattle.ice_machine.specs.Checks.{is_choice, is_nominating, request_on, score, most_urgent}
use Rattle.ice_machine.specs.Steps.{at, is_request, is_symmetric, is_open, polled, step}
use Rattle.ice_machine.specs.Runs.{Timed}
use Rattle.ice_machine.specs.Meetings.{End, disturbed, OneAmong}

-- the latest poll that was free for the way; and the first request on the way since one was answered,
-- if there is one
pub record Watch : Type 0 where
  pub free_at : ℕ
  pub asked_at : Option ℕ

abbrev pub is_way : End → Request → Bool
is_way e r = (e.base == r.base) && is_endpoint e.to r.to

-- at a poll a request may be sent, and none on another pair is as urgent as a consent check
abbrev pub is_minor : Setup → End → State → Pair → Bool
is_minor setup e s p = is_at e.base e.to p || nat_lt (score setup s p) (2 ^ 64 * 3)

abbrev pub is_free : Setup → End → State → Bool
is_free setup e s = is_open s && option_map_or (is_minor setup e s) (most_urgent setup s) true

abbrev pub asked_by : End → (now : ℕ) → Option ℕ → Output → Option ℕ
asked_by e now (Some x) output = Some x
asked_by e now None (asks r) = if is_way e r then Some now else None
asked_by e now None (answers base to id answer) = None
asked_by e now None (data_to base to bytes) = None
asked_by e now None (data_from component bytes) = None
asked_by e now None nothing = None

-- a success response to a request on the way
abbrev pub is_accepted : Answer → Bool
is_accepted Accepted = true
is_accepted (Refused code) = false

abbrev pub is_way_answer : End → (base : ℕ) → Endpoint → Answer → Request → Bool
is_way_answer e base from answer r = is_accepted answer && (is_way e r && is_symmetric base from r)

-- what an event changes of it, at a state that time has been seen to
abbrev pub seen : Setup → End → (fresh : ℕ) → State → Event → Watch → Watch
seen setup e fresh s (gathers b) w = w
seen setup e fresh s (learns r) w = w
seen setup e fresh s meets w = w
seen setup e fresh s ends w = w
seen setup e fresh s (checks c) w = w
seen setup e fresh s (responds base from id answer) w =
    option_map_or (λ r. if is_way_answer e base from answer r then record w { asked_at = None } else w)
    (find (is_request id) s.requests) w
seen setup e fresh s (strays base from id size code) w = w
seen setup e fresh s (arrives base from bytes) w = w
seen setup e fresh s (sends component bytes) w = w
seen setup e fresh s polls w = record {
  free_at = if is_free setup e s then s.clock else w.free_at;
  asked_at = asked_by e s.clock w.asked_at (polled setup fresh s).output;
}

abbrev pub watched : Setup → End → State → Watch → List Timed → Watch
watched setup e s w [] = w
watched setup e s w (t ∷ earlier) =
    seen setup e t.fresh (at setup t.now (disturbed setup s earlier)) t.event (watched setup e s w earlier)

-- polls are free at least once in a gap; and once the way has been asked on, an answer to one of the
-- requests on it comes within a delay
abbrev pub IsAnsweredBy : (delay now : ℕ) → Option ℕ → Type 0
IsAnsweredBy delay now None = Unit {0}
IsAnsweredBy delay now (Some x) = now ≤ x + delay

abbrev pub IsTimely : (gap delay now : ℕ) → Watch → Type 0
IsTimely gap delay now w = (now ≤ w.free_at + gap) × IsAnsweredBy delay now w.asked_at

-- any event but a check in the same role and a response with error 487
abbrev pub IsUsual : State → Event → Type 0
IsUsual s (gathers b) = Unit {0}
IsUsual s (learns r) = Unit {0}
IsUsual s meets = Unit {0}
IsUsual s ends = Unit {0}
IsUsual s (checks c) = c.role ≡ other_role s.role
IsUsual s (responds base from id answer) = answer ≡ Refused 487 → ⊥
IsUsual s (strays base from id size code) = Unit {0}
IsUsual s (arrives base from bytes) = Unit {0}
IsUsual s (sends component bytes) = Unit {0}
IsUsual s polls = Unit {0}

abbrev pub IsCourse : Setup → End → (gap delay : ℕ) → State → Watch → List Timed → Type 0
IsCourse setup e gap delay s w [] = Unit {0}
IsCourse setup e gap delay s w (t ∷ earlier) =
    let before = disturbed setup s earlier in
    IsCourse setup e gap delay s w earlier × (before.clock ≤ t.now)
    × IsTimely gap delay t.now (watched setup e s w earlier) × IsUsual (at setup t.now before) t.event

-- the consent on a pair ends long after its next request is due; or, once it is asked on, after that
abbrev pub IsLasting : (gap : ℕ) → Option ℕ → Pair → Type 0
IsLasting gap None p = p.due + seconds 24 ≤ p.expires_at
IsLasting gap (Some x) p = x + seconds 24 ≤ p.expires_at + gap

-- the pair of the way is nominated and valid; its next request is due after the latest free poll, and
-- within 6 seconds
pub record IsSelectedWay (e : End) (gap clock : ℕ) (w : Watch) (p : Pair) : Type 0 where
  pub there : is_at e.base e.to p ≡ true
  pub component : p.component ≡ e.component
  pub valid : is_succeeded p.state ≡ true
  pub nominated : p.nominated ≡ true
  pub past : w.free_at ≤ clock
  pub ahead : w.free_at < p.due
  pub near : p.due ≤ clock + seconds 6
  pub lasting : IsLasting gap w.asked_at p

abbrev pub IsElsewhere : End → Pair → Type 0
IsElsewhere e p = is_at e.base e.to p ≡ false

-- a pair on which nothing as urgent as a consent check is due
pub record IsCalm (setup : Setup) (s : State) (p : Pair) : Type 0 where
  pub untriggered : p.triggered ≡ false
  pub unchosen : is_choice setup s p ≡ false
  pub later : (is_succeeded p.state && nat_le p.due s.clock) ≡ false

abbrev pub IsWayOrCalm : Setup → End → State → Pair → Type 0
IsWayOrCalm setup e s p = (is_at e.base e.to p ≡ true) ⊎ IsCalm setup s p

-- an agent that has the way nominated, among any other pairs
abbrev pub HasNominated : End → (gap : ℕ) → Watch → State → Type 0
HasNominated e gap w s = OneAmong (IsSelectedWay e gap s.clock w) (IsElsewhere e) s.pairs

-- ---- A check that is followed

-- the pair of the way is valid, and its consent lasts; or a request on it is triggered, or was sent by a
-- moment, since none was answered
abbrev pub IsPending : (gap limit : ℕ) → Watch → Option ℕ → Pair → Type 0
IsPending gap limit w None p = (p.triggered ≡ true) × (w.free_at + gap ≤ limit)
IsPending gap limit w (Some x) p = x ≤ limit

pub record IsValidWay (gap clock : ℕ) (w : Watch) (p : Pair) : Type 0 where
  pub valid : is_succeeded p.state ≡ true
  pub ahead : w.free_at < p.due
  pub near : p.due ≤ clock + seconds 6
  pub lasting : IsLasting gap w.asked_at p

pub record IsFollowedWay (e : End) (gap limit clock : ℕ) (w : Watch) (p : Pair) : Type 0 where
  pub there : is_at e.base e.to p ≡ true
  pub unlost : is_lost p.state ≡ false
  pub past : w.free_at ≤ clock
  pub state : IsValidWay gap clock w p
      ⊎ ((is_succeeded p.state ≡ false) × IsPending gap limit w w.asked_at p)

abbrev pub HasTriggered : End → (gap limit : ℕ) → Watch → State → Type 0
HasTriggered e gap limit w s = OneAmong (IsFollowedWay e gap limit s.clock w) (IsElsewhere e) s.pairs

-- the pair of the way is valid, and the peer consents beyond a moment
pub record IsConsentedWay (e : End) (now : ℕ) (p : Pair) : Type 0 where
  pub there : is_at e.base e.to p ≡ true
  pub valid : is_succeeded p.state ≡ true
  pub consented : now < p.expires_at

-- ---- A nomination

-- a nominating request on a pair of the component
pub record IsNaming (setup : Setup) (e : End) (fresh : ℕ) (s : State) (output : Output) : Type 0 where
  pub pair : Pair
  pub known : find (is_at pair.base pair.remote) s.pairs ≡ Some pair
  pub component : pair.component ≡ e.component
  pub asked : output ≡ asks (request_on setup s fresh pair)
  pub nominates : is_nominating setup s pair ≡ true

-- one was sent
abbrev pub HasNamed : Setup → End → State → List Timed → Type 0
HasNamed setup e s [] = ⊥
HasNamed setup e s (t ∷ earlier) =
    let before = disturbed setup s earlier in
    IsNaming setup e t.fresh (at setup t.now before) (step setup before t.now t.fresh t.event).output
    ⊎ HasNamed setup e s earlier

-- no valid pair of the component has a greater priority than a pair (all are less than 2^64)
abbrev pub IsBestValid : State → Pair → Type 0
IsBestValid s p = AllByRecursion (λ q. p.component ≡ q.component → is_succeeded q.state ≡ true
    → pair_priority s.role q < 2 ^ 64 → pair_priority s.role q ≤ pair_priority s.role p) s.pairs

abbrev pub IsUnmarked : Pair → Type 0
IsUnmarked p = (p.chosen ≡ false) × (p.nominated ≡ false)

-- the pair of the way is valid, since a moment or before, and it isn't nominated; nor is any pair of
-- its component
pub record IsUnnamedWay (e : End) (gap since limit clock : ℕ) (w : Watch) (p : Pair) : Type 0 where
  pub there : is_at e.base e.to p ≡ true
  pub component : p.component ≡ e.component
  pub past : w.free_at ≤ clock
  pub patient : w.free_at ≤ limit
  pub valid : IsValidWay gap clock w p
  pub since_by : p.succeeded_at ≤ since
  pub unmarked : IsUnmarked p

abbrev pub IsUnnamedOther : End → Pair → Type 0
IsUnnamedOther e p = IsElsewhere e p × (p.component ≡ e.component → IsUnmarked p)

abbrev pub HasUnnamed : End → (gap since limit : ℕ) → Watch → State → Type 0
HasUnnamed e gap since limit w s = (s.role ≡ Controlling)
    × OneAmong (IsUnnamedWay e gap since limit s.clock w) (IsUnnamedOther e) s.pairs
