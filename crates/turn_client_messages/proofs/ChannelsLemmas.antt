-- What a datagram is that holds a ChannelData message.
use Rattle.std.proofs.Common.{◌≡◌, ℕ, ltb, ◌+◌, ◌≤◌, Bool, true, false, List, length, drop, Option, Some, None, if◌then◌else◌, refl, ap, sym, ◌∙◌, arith}
use Rattle.std.specs.Prelude.{is_some, not, ◌||◌}
use Rattle.std.specs.Option.{option_or}
use Rattle.std.proofs.lemmas.Bool.{ltb-false}
use Rattle.std.proofs.lemmas.List.{length-take-le, length-drop}
use Rattle.stun_base.specs.declared.transport.TransportType.{TransportType}
use Rattle.stun_framing.specs.declared.channel_range.ChannelRange.TheVariants.{Rfc8656}
use Rattle.turn_attrs.specs.declared.channel_data.ChannelData.{ChannelData}
use Rattle.turn_attrs.specs.declared.channel_data.ChannelDataError.{ChannelDataError}
use Rattle.turn_attrs.specs.Channels.{begin_fault_in, channel_field, data_length}
use Rattle.turn_attrs.specs.ChannelMessages.{IsIn, channel_fault, prefix_fault_in, data_field, data_of}
use Rattle.turn_client_messages.specs.Judging.{Judged, channel_data, stray, is_padded, on_channel}

first_none : (o more : Option ChannelDataError) → option_or o more ≡ None → (o ≡ None) × (more ≡ None)
first_none (Some e) more is = absurd cc
first_none None more is = (refl, is)

not_cut : (b : Bool) (e : ChannelDataError) → (if b then Some e else None) ≡ None → b ≡ false
not_cut true e is = absurd cc
not_cut false e is = refl

-- the data of a message that isn't cut off has the length that is stated
stated : (d : List ℕ) → channel_fault d ≡ None → length (data_field d) ≡ data_length d
stated d whole =
    let prefix = (first_none (prefix_fault_in Rfc8656 d) _ whole).0 in
    let kept = not_cut (ltb (length d) (4 + data_length d)) _ (first_none (begin_fault_in Rfc8656 d) _ prefix).1 in
    let fits : 4 + data_length d ≤ length d = ltb-false (length d) (4 + data_length d) kept in
    length-take-le (data_length d) (drop 4 d) (omega (arith, fits, length-drop 4 d))

chosen : (fault : Option ChannelDataError) (padded : Bool) (x y : Judged) → fault ≡ None → (if is_some fault || not padded then x else y) ≡ (if padded then y else x)
chosen None true x y none = refl
chosen None false x y none = refl
chosen (Some e) padded x y none = absurd cc

pub is_data : (transport : TransportType) (d : List ℕ) (message : ChannelData) → channel_fault d ≡ None → IsIn d message
    → on_channel transport d ≡ (if is_padded transport (4 + length (data_of message)) d then channel_data message.channel (data_of message) else stray)
is_data transport d message whole read =
    let same : data_length d ≡ length (data_of message) = sym (ap length read.data_is ∙ stated d whole) in
    let channel : channel_field d ≡ message.channel = sym read.channel_is in
    let bytes : data_field d ≡ data_of message = sym read.data_is in
    chosen (channel_fault d) (is_padded transport (4 + data_length d) d) stray (channel_data (channel_field d) (data_field d)) whole
    ∙ (λ i. if is_padded transport (4 + same i) d then channel_data (channel i) (bytes i) else stray)
