-- What to try after a client has ended (RFC 8656, 7.4; RFC 8489, 10): a new 5-tuple at the same
-- server after a 437, the alternate server after a 300, and nothing after anything else.
use Rattle.std.specs.Prelude.{◌≡◌, ℕ, ◌+◌, ◌&&◌, not, ◌==◌, nat_lt, List, [], ◌∷◌, length, Option, None, Some, if◌then◌else◌}
use Rattle.std.specs.List.{list_any}
use Rattle.turn_client_machine.specs.Clients.{Endpoint, is_endpoint, End, Closed, Silent, Rejected, Moved, Useless, IntegrityViolated}

-- a client, by its server, the number of clients that this server has already had, and the servers
-- that led here
pub record Attempt : Type 0 where
  pub server : Endpoint
  pub tries : ℕ
  pub before : List Endpoint

abbrev pub begun_attempt : Endpoint → Attempt
begun_attempt server = record { server = server; tries = 0; before = [] }

abbrev pub next_at : Attempt → (code : ℕ) → Option Attempt
next_at a code =
    if (code == 437) && nat_lt a.tries 2 then Some (record a { tries = a.tries + 1 }) else None

abbrev pub next_by : Attempt → Endpoint → Option Attempt
next_by a server =
    if not (list_any (is_endpoint server) (a.server ∷ a.before)) && nat_lt (length a.before) 3
    then Some (record { server = server; tries = 0; before = a.server ∷ a.before }) else None

abbrev pub next_attempt : Attempt → End → Option Attempt
next_attempt a Closed = None
next_attempt a Silent = None
next_attempt a (Rejected code) = next_at a code
next_attempt a (Moved server) = next_by a server
next_attempt a Useless = None
next_attempt a IntegrityViolated = None

-- how many seconds the user should leave this server alone
abbrev pub rest_after : End → ℕ
rest_after Closed = 0
rest_after Silent = 0
rest_after (Rejected code) =
    if code == 437 then 120 else (if (code == 486) then 60 else (if code == 508 then 60 else 0))
rest_after (Moved server) = 0
rest_after Useless = 0
rest_after IntegrityViolated = 0

abbrev pub IsNext : Attempt → Attempt → Type 0
IsNext a b = (why : End) × (next_attempt a why ≡ Some b)

abbrev pub AreNext : Attempt → List Attempt → Type 0
AreNext a [] = Unit {0}
AreNext a (b ∷ next) = IsNext a b × AreNext b next
