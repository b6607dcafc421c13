-- A transaction ID that is drawn from a random number generator (RFC 8489, section 5).
use Rattle.std.specs.Prelude.{ℕ, ◌+◌, ◌*◌, ◌%◌, ◌^◌}
use Rattle.rand_core.specs.Stream.{Stream, next_u64}

-- the low 96 bits of two words, the low word drawn first, and the stream that is left
abbrev pub drawn_id : Stream → ℕ × Stream
drawn_id stream =
    let low = next_u64 stream in
    let high = next_u64 low.1 in
    ((2 ^ 64 * high.0 + low.0) % 2 ^ 96, high.1)
