-- A stream between a TURN client and its server, and an error response.
use Rattle.std.specs.Prelude.{ℕ, List, [], ◌∷◌, ◌++◌, take, drop}
use Rattle.stun_framing.specs.declared.channel_range.ChannelRange.TheVariants.{Rfc8656}
use Rattle.stun_framing.specs.declared.stream_kind.StreamKind.TheVariants.{ChannelDataToo}
use Rattle.stun_framing.specs.Framing.{Room, room_of}
use Rattle.standard_vectors.specs.Messages.{sample_request, ipv4_response}

-- a stream that carries ChannelData too, with a buffer of 200 bytes
abbrev pub with_channels : Room
with_channels = room_of (ChannelDataToo Rfc8656) 200

-- five bytes of data on channel 0x4001, and the three of padding that a stream has (RFC 8656, sections
-- 12.4 and 12.5)
abbrev pub padded_data : List ℕ
padded_data =
    0x40 ∷ 0x01 ∷ 0x00 ∷ 0x05 ∷
    0x68 ∷ 0x65 ∷ 0x6C ∷ 0x6C ∷ 0x6F ∷ 0x00 ∷ 0x00 ∷ 0x00 ∷ []

-- two messages of RFC 5769, and the data between them
abbrev pub whole_stream : List ℕ
whole_stream = sample_request ++ (padded_data ++ ipv4_response)

-- the stream in pieces, each from the first byte that isn't taken
abbrev pub pieces : List (List ℕ)
pieces =
    take 3 sample_request ∷ (drop 3 sample_request ++ padded_data) ∷ take 6 padded_data ∷
    (drop 6 padded_data ++ ipv4_response) ∷ take 79 ipv4_response ∷ drop 79 ipv4_response ∷ []

-- an error response without ERROR-CODE, that shows an attribute that must be understood, of a type
-- that no RFC assigns (RFC 8489, sections 5 and 14)
abbrev pub unsigned_error : List ℕ
unsigned_error =
    0x01 ∷ 0x11 ∷ 0x00 ∷ 0x04 ∷
    0x21 ∷ 0x12 ∷ 0xA4 ∷ 0x42 ∷
    0xB7 ∷ 0xE7 ∷ 0xA7 ∷ 0x01 ∷ 0xBC ∷ 0x34 ∷ 0xD6 ∷ 0x86 ∷ 0xFA ∷ 0x87 ∷ 0xDF ∷ 0xAE ∷
    0x7F ∷ 0xFF ∷ 0x00 ∷ 0x00 ∷ []
