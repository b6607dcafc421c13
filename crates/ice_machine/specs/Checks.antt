-- Which pair a request is sent on, when one may be sent (RFC 8445, sections 6.1.4.2, 8.1.1 and 14; RFC
-- 7675, section 5.1, from memory).
use Rattle.std.specs.Prelude.{ℕ, ◌+◌, ◌*◌, ◌-◌, ◌%◌, Bool, false, not, ◌&&◌, ◌||◌, List, Option, nat_lt, nat_le, ◌==◌, if◌then◌else◌, ◌^◌, max, min}
use Rattle.std.specs.List.{list_any}
use Rattle.ice_machine.specs.Roles.{is_controlling}
use Rattle.ice_machine.specs.Agents.{milliseconds, PairState, InProgress, Pair, Request, Setup, State, is_succeeded, is_in_progress, is_waiting, is_frozen, is_lost, pair_priority}
use Rattle.ice_machine.specs.Pairs.{best}

-- the foundation of a pair is that of both candidates (6.1.2.6). A frozen pair goes once no pair of its
-- foundation is waiting or in progress (6.1.4.2)
abbrev pub is_under_way : PairState → Bool
is_under_way phase = is_waiting phase || is_in_progress phase

abbrev pub is_kin : Pair → Pair → Bool
is_kin p q = (p.foundation == q.foundation) && (p.remote_foundation == q.remote_foundation)

abbrev pub is_held : List Pair → Pair → Bool
is_held ps p = list_any (λ q. is_kin p q && is_under_way q.state) ps

abbrev pub is_fresh : State → Pair → Bool
is_fresh state p = is_waiting p.state || (is_frozen p.state && not (is_held state.pairs p))

-- a controlling agent picks one pair of a component, and none if one is picked or nominated: of the pairs
-- that have succeeded the one of the greatest priority, once no pair of a greater one may still succeed, or
-- `patience` after the first of them has succeeded (8.1.1)
abbrev pub is_settled_in : Pair → Pair → Bool
is_settled_in p q = (p.component == q.component) && (q.chosen || q.nominated)

abbrev pub is_hoped_for : State → Pair → Pair → Bool
is_hoped_for state p q =
    (p.component == q.component) && (nat_lt (pair_priority state.role p) (pair_priority state.role q)
    && (is_frozen q.state || is_under_way q.state))

abbrev pub is_long_valid : Setup → State → Pair → Pair → Bool
is_long_valid setup state p q =
    (p.component == q.component) && (is_succeeded q.state
    && nat_le (q.succeeded_at + setup.patience) state.clock)

abbrev pub is_ripe : Setup → State → Pair → Bool
is_ripe setup state p =
    not (list_any (is_hoped_for state p) state.pairs)
    || list_any (is_long_valid setup state p) state.pairs

abbrev pub is_choice : Setup → State → Pair → Bool
is_choice setup state p =
    is_controlling state.role && (is_succeeded p.state
    && (not (list_any (is_settled_in p) state.pairs) && is_ripe setup state p))

-- whether a request on a pair nominates it
abbrev pub is_nominating : Setup → State → Pair → Bool
is_nominating setup state p =
    is_controlling state.role && (is_succeeded p.state && (p.chosen || is_choice setup state p))

-- the order in which pairs get a request: triggered checks (6.1.4.2), nominations, consent checks, first
-- checks, and further ones. 0: no request on the pair is due
abbrev pub urgency : Setup → State → Pair → ℕ
urgency setup state p =
    if is_lost p.state then 0 else (
    if p.triggered then 5 else (
    if is_choice setup state p then 4 else (
    if is_succeeded p.state && nat_le p.due state.clock then 3 else (
    if is_fresh state p then 2 else (
    if is_in_progress p.state && nat_le p.due state.clock then 1 else 0)))))

-- pairs of one urgency go by priority (6.1.4.2), but consent checks by how long they have been due, so that
-- none starves. Both count as less than 2^64
abbrev pub precedence : State → (urgency : ℕ) → Pair → ℕ
precedence state urgency p = min (2 ^ 64 - 1)
    (if urgency == 3 then state.clock - p.due else pair_priority state.role p)

-- by urgency, and then by precedence
abbrev pub score : Setup → State → Pair → ℕ
score setup state p = 2 ^ 64 * urgency setup state p
    + (if nat_lt 0 (urgency setup state p) then precedence state (urgency setup state p) p else 0)

abbrev pub most_urgent : Setup → State → Option Pair
most_urgent setup state = best (score setup state) state.pairs

abbrev pub request_on : Setup → State → (fresh : ℕ) → Pair → Request
request_on setup state fresh p = record {
  id = fresh;
  base = p.base;
  to = p.remote;
  role = state.role;
  tiebreaker = state.tiebreaker;
  nominates = is_nominating setup state p;
  priority = p.reflexive_priority;
  sent = state.clock;
}

-- when the next request on a pair is due: after RTO, doubled each time (RFC 8489, section 6.2.1); of a
-- nomination, after RTO; of a consent check, after 5 seconds times 0.8 to 1.2, at random (RFC 7675, section
-- 5.1)
abbrev pub consent_wait : (fresh : ℕ) → ℕ
consent_wait fresh = milliseconds (4_000 + fresh % 2_001)

-- RTO is at least 500 ms (14.3)
abbrev pub rto_of : Setup → ℕ
rto_of setup = max (milliseconds 500) setup.rto

abbrev pub asked : Setup → State → (fresh : ℕ) → Pair → Pair
asked setup state fresh p =
    if is_lost p.state then p else (
    if is_succeeded p.state
    then record p {
      triggered = false;
      chosen = p.chosen || is_nominating setup state p;
      due = state.clock
          + (if is_nominating setup state p && not p.nominated then rto_of setup
          else consent_wait fresh);
    }
    else record p {
      state = InProgress;
      triggered = false;
      due = state.clock + rto_of setup * 2 ^ p.tries;
      tries = p.tries + 1;
    })
