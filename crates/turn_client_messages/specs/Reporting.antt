-- What the code says of a datagram.
use Rattle.stun_authentication.specs.Challenges.{retry_of}
use Rattle.turn_client_messages.specs.declared.judged.Judged.{Judged as Reported}
use Rattle.turn_client_messages.specs.declared.judged.Judged.TheVariants.{Response, Challenge, PeerData, ChannelData, Stray}
use Rattle.turn_client_messages.specs.Judging.{Judged, response, challenge, peer_data, channel_data, stray}

-- a challenge and data are part of the datagram
abbrev pub judged_of : Reported → Judged
judged_of (Response id authentic answer) = response id authentic answer
judged_of (Challenge id authentic code retry) = challenge id authentic code (retry_of retry)
judged_of (PeerData peer bytes) = peer_data peer bytes.now
judged_of (ChannelData channel bytes) = channel_data channel bytes.now
judged_of Stray = stray
