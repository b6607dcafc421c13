-- What a datagram says besides what it is judged to be: an ICMP error about a packet to a peer, in a Data
-- indication (RFC 8656, sections 11.5 and 11.6), and the token of a reservation (section 7.3).
use Rattle.std.specs.Prelude.{ℕ, ◌&&◌, is_some, List, Option, None, option_and_then, ◌==◌, if◌then◌else◌}
use Rattle.std.specs.Option.{option_map}
use Rattle.stun_grammar.specs.Headers.{type_field}
use Rattle.stun_grammar.specs.Parsing.{parse_fault}
use Rattle.stun_base.specs.declared.message_class.MessageClass.{MessageClass}
use Rattle.stun_base.specs.declared.message_class.MessageClass.TheVariants.{Indication}
use Rattle.stun_base.specs.MessageTypes.{class_of, method_of}
use Rattle.turn_attrs.specs.Turn.{XOR_PEER_ADDRESS}
use Rattle.turn_client_messages.specs.declared.peer_errors.PeerError.{PeerError}
use Rattle.turn_client_messages.specs.Judging.{DATA_METHOD}
use Rattle.turn_client_messages.specs.Understood.{is_understood}
use Rattle.turn_client_messages.specs.Values.{icmp_error_in, token_in, xored_in}

-- by the peer and the error that it shows, if all else that it shows is understood
abbrev pub error_shown : List ℕ → Option PeerError
error_shown d =
    option_and_then (λ peer. option_map (λ error. record { peer = peer; error = error })
    (icmp_error_in d)) (xored_in XOR_PEER_ADDRESS d)

abbrev pub error_by : (method : ℕ) → List ℕ → Option PeerError
error_by method d =
    if (method == DATA_METHOD) && is_understood d then error_shown d else None

abbrev pub error_of : MessageClass → List ℕ → Option PeerError
error_of Indication d = error_by (method_of (type_field d)) d
error_of _ d = None

abbrev pub peer_error : List ℕ → Option PeerError
peer_error d = if is_some (parse_fault d) then None else error_of (class_of (type_field d)) d

-- the token of the first RESERVATION-TOKEN that it shows
abbrev pub reservation_token : List ℕ → Option ℕ
reservation_token d = if is_some (parse_fault d) then None else token_in d
