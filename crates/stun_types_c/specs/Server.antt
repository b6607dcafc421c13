-- What the server's reply is, in a slice of C's.
use Rattle.std.specs.Prelude.{◌≡◌, ℕ, List, length, Option, None, Some, MatchOption, MatchResult}
use Rattle.std.specs.declared.net.socket_addr.SocketAddr.{SocketAddr}
use Rattle.stun_server.specs.Reply.{reply}
use Rattle.stun_server.specs.InSlice.{answer_in, slice_after}
use Rattle.stun_types_c.specs.declared.address.Address.{Address}
use Rattle.stun_types_c.specs.declared.call_result.CResult.{CResult}
use Rattle.stun_types_c.specs.Codes.{OK, BAD_ARGUMENT}
use Rattle.stun_types_c.specs.Addresses.{ip_named, IsAt}
use Rattle.stun_types_c.specs.CResults.{plain, write_result}

-- how many bytes are written, and 0 if no reply is owed
abbrev pub length_reported : Option ℕ → ℕ
length_reported None = 0
length_reported (Some length) = length

-- the reply to a datagram is written at the start of the slice, or there is none, or it has no room
-- and the slice stays. Without a reply its length is 0
abbrev pub RepliesTo : SocketAddr → List ℕ → CResult → (old new : List ℕ) → ℕ → Type 0
RepliesTo source datagram result old new reported_length =
    (new ≡ slice_after (reply source datagram) old)
    × MatchResult (answer_in (reply source datagram) (length old))
    (λ reported. (result ≡ plain OK) × (reported_length ≡ length_reported reported))
    (λ e. (result ≡ write_result e) × (reported_length ≡ 0))

-- the same for a datagram that came from the address that C's form names, if it names one
abbrev pub RepliesAt : Address → List ℕ → CResult → (old new : List ℕ) → ℕ → Type 0
RepliesAt address datagram result old new reported_length =
    MatchOption (ip_named address)
    ((result ≡ plain BAD_ARGUMENT) × (new ≡ old) × (reported_length ≡ 0))
    (λ ip. (source : SocketAddr)
    × (IsAt ip address.port source × RepliesTo source datagram result old new reported_length))
