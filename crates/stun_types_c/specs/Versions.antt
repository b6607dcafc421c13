-- The version, and what C reads where a schedule, a key and a walk begin.
use Rattle.std.specs.Prelude.{ℕ, ◌+◌, ◌*◌}
use Rattle.stun_types_c.specs.declared.cursor.Cursor.{Cursor}
use Rattle.stun_types_c.specs.declared.transactions.CSchedule.{CSchedule}
use Rattle.stun_types_c.specs.declared.versions.NoKey.{NoKey}

-- version 0.1.0: each number has three digits
abbrev pub version : ℕ
version = 0 * 1_000_000 + 1 * 1_000 + 0

-- what RFC 8489 recommends (sections 6.2.1 and 6.2.2), and an HMAC-SHA256 of 32 bytes (section 14.6)
abbrev pub default_waits : CSchedule
default_waits = record {
  rto = 500;
  reliable_wait = 39_500;
  requests = 7;
  last_wait = 16;
  min_hmac_length = 0;
  fingerprint = 0;
  reserved = 0;
}

-- no key at no address
abbrev pub no_key : NoKey
no_key = record { at = 0; held = 0 }

-- a walk that has yielded nothing
abbrev pub first : Cursor
first = record {
  index = 0;
  offset = 0;
  length = 0;
  id_begin = 0;
  id_end = 0;
  last = 0;
  reserved = 0;
}
