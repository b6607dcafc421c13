-- Send indications (RFC 8656, section 11.2): what is missing, malformed or not comprehended is silently
-- discarded.
use Rattle.std.specs.Prelude.{ℕ, Bool, ◌&&◌, List, Option, None, if◌then◌else◌}
use Rattle.std.specs.Option.{option_zip}
use Rattle.stun_authentication.specs.Identities.{value_of, shows}
use Rattle.turn_attrs.specs.Turn.{DATA, DONT_FRAGMENT}
use Rattle.stun_endpoints.specs.declared.endpoints.Endpoint.{Endpoint}
use Rattle.turn_server.specs.Addresses.{peer_of}
use Rattle.turn_server.specs.Comprehended.{is_comprehended}

-- the peer, and the data that is to be sent to it, which may have no bytes
abbrev pub sent_by : (sets_df : Bool) → List ℕ → Option (Endpoint × List ℕ)
sent_by sets_df d =
    if is_comprehended sets_df d then option_zip (peer_of d) (value_of d DATA) else None

-- whether the data goes with the DF bit: the server sets it, and d shows DONT-FRAGMENT, which has no value
-- (section 18.9): whatever value it has is ignored
abbrev pub keeps_whole : (sets_df : Bool) → List ℕ → Bool
keeps_whole sets_df d = sets_df && shows DONT_FRAGMENT d
