-- The reasons that go with the codes of errors (RFC 8489, section 14.8).
use Rattle.std.specs.Prelude.{ℕ, List, codes, ◌==◌, if◌then◌else◌}

-- the reason that goes with a code if no other is given
abbrev pub default_reason : ℕ → List ℕ
default_reason code =
    if code == 300 then codes "Try Alternate" else (
    if code == 400 then codes "Bad Request" else (
    if code == 401 then codes "Unauthorized" else (
    if code == 403 then codes "Forbidden" else (
    if code == 420 then codes "Unknown Attribute" else (
    if code == 437 then codes "Allocation Mismatch" else (
    if code == 438 then codes "Stale Nonce" else (
    if code == 440 then codes "Address Family Not Supported" else (
    if code == 441 then codes "Wrong Credentials" else (
    if code == 442 then codes "Unsupported Transport Protocol" else (
    if code == 443 then codes "Peer Address Family Mismatch" else (
    if code == 446 then codes "Connection Already Exists" else (
    if code == 447 then codes "Connection Timeout or Failure" else (
    if code == 486 then codes "Allocation Quota Reached" else (
    if code == 487 then codes "Role Conflict" else (
    if code == 500 then codes "Server Error" else (
    if code == 508 then codes "Insufficient Capacity" else codes "Unknown"))))))))))))))))
