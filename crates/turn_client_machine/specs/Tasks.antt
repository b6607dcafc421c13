-- When a request is sent, sent again, and given up (RFC 8656, 8.1, 10.1 and 12.1; RFC 8489,
-- 6.2.1).
use Rattle.std.specs.Prelude.{ℕ, List, ◌+◌, ◌-◌, ◌*◌, Bool, false, ◌&&◌, ◌||◌, not, Option, None, Some, is_some, max, min, nat_lt, nat_le, ◌==◌, if◌then◌else◌}
use Rattle.std.specs.Option.{option_map_or}
use Rattle.turn_client_machine.specs.Clients.{Endpoint, Setup, Kind, Request, Task, seconds}
use Rattle.turn_client_machine.specs.Events.{Output, asks, nothing}

-- due now, with 40 seconds to be granted: a transaction takes 39.5 at most
abbrev pub begun_task : (clock : ℕ) → Task
begun_task clock = record {
  due = clock;
  deadline = clock + seconds 40;
  pending = None;
  retries = 0;
}

-- half of a lifetime, in nanoseconds
abbrev pub half_of : (lifetime : ℕ) → ℕ
half_of lifetime = lifetime * 500_000_000

-- Granted for a lifetime, from a moment on: due again a minute before the end (8), so that
-- permissions are renewed every 4 minutes, or after half of the lifetime if that is later; and to
-- be granted 20 seconds before the end
abbrev pub kept_task : (since lifetime : ℕ) → Task
kept_task since lifetime = record {
  due = max (since + seconds lifetime - seconds 60) (since + half_of lifetime);
  deadline = since + seconds lifetime - seconds 20;
  pending = None;
  retries = 0;
}

-- to be asked for again at once, with other credentials; the deadline stays
abbrev pub again_task : (clock : ℕ) → Task → Task
again_task clock t = record t {
  due = min t.deadline clock;
  pending = None;
  retries = t.retries + 1;
}

abbrev pub is_due : (clock : ℕ) → Task → Bool
is_due clock t = nat_le t.due clock

abbrev pub is_expired : (clock : ℕ) → Task → Bool
is_expired clock t = nat_le t.deadline clock

abbrev pub awaits : (id : ℕ) → Task → Bool
awaits id t = option_map_or (λ p. p.request.id == id) t.pending false

-- whether a challenge is answered: a stale nonce (438), or the first challenge
abbrev pub may_retry : Setup → (challenge : Option ℕ) → (code : ℕ) → Task → Bool
may_retry setup challenge code t =
    nat_lt t.retries setup.most_retries && ((code == 438) || not (is_some challenge))

-- the request to send: the one under way, or a new one
abbrev pub request_now : (clock fresh : ℕ) → Kind → (challenge : Option ℕ) → Task → Request
request_now clock fresh kind challenge t =
    option_map_or (λ p. p.request) t.pending
    (record { id = fresh; kind = kind; challenge = challenge; since = clock })

abbrev pub sends_so_far : Task → ℕ
sends_so_far t = option_map_or (λ p. p.sends) t.pending 0

abbrev pub may_send : Setup → Task → Bool
may_send setup t = nat_lt (sends_so_far t) setup.most_sends

abbrev pub sent_task : Setup → (clock : ℕ) → Request → Task → Task
sent_task setup clock r t = record t {
  due = min t.deadline (clock + 1 + setup.wait (sends_so_far t + 1));
  pending = Some (record { request = r; sends = sends_so_far t + 1 });
}

-- a due task after a poll before its deadline, and the output
abbrev pub turned : Setup → (clock fresh : ℕ) → Kind → (challenge : Option ℕ) → Task → Task
turned setup clock fresh kind challenge t =
    if may_send setup t then sent_task setup clock (request_now clock fresh kind challenge t) t
    else record t { due = t.deadline }

abbrev pub turn_output : Setup → (clock fresh : ℕ) → Kind → (challenge : Option ℕ)
    → (others : List Endpoint) → Task → Output
turn_output setup clock fresh kind challenge others t =
    if may_send setup t then asks (request_now clock fresh kind challenge t) others else nothing
