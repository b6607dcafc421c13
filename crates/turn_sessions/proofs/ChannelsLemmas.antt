-- ChannelData is read as it was written, with padding or without (RFC 8656, sections 12.4 to 12.6).
use Rattle.std.proofs.Common.{◌≡◌, ℕ, ◌+◌, ◌/◌, ◌%◌, ◌^◌, ◌<◌, ◌≤◌, Bool, true, List, [], ◌∷◌, ◌++◌, length, take, replicate, Option, Some, None, refl, ap, subst, ◌∙◌, arith}
use Rattle.std.specs.Prelude.{◌||◌, not, is_some, if◌then◌else◌}
use Rattle.std.specs.List.{list_all}
use Rattle.std.specs.Option.{option_map_or}
use Rattle.std.proofs.lemmas.Bool.{le-ltb, le-leb, eq-eqb}
use Rattle.std.proofs.lemmas.List.{append-nil, length-append, length-replicate}
use Rattle.stun_grammar.specs.Numbers.{be16, padded_length}
use Rattle.stun_grammar.proofs.NumbersLemmas.{number-be16}
use Rattle.stun_base.specs.declared.transport.TransportType.{TransportType}
use Rattle.stun_base.specs.declared.transport.TransportType.TheVariants.{Udp, Tcp}
use Rattle.stun_framing.specs.declared.channel_range.ChannelRange.{ChannelRange}
use Rattle.stun_framing.specs.declared.channel_range.ChannelRange.TheVariants.{Rfc8656, Rfc5766}
use Rattle.stun_framing.specs.Channels.{begins_number}
use Rattle.turn_attrs.specs.Channels.{channel_field, data_length}
use Rattle.turn_attrs.specs.ChannelMessages.{channel_fault, channel_message, data_field, data_in}
use Rattle.turn_attrs.specs.Heads.{padded_message, padding_of}
use Rattle.stun_endpoints.specs.declared.endpoints.FiveTuple.{FiveTuple}
use Rattle.turn_client_messages.specs.Heads.{channel_text}
use Rattle.turn_client_messages.specs.Judging.{channel_data, is_padded, judge as hears, message as heard, on_channel, stray}
use Rattle.turn_client_messages.specs.Views.{Asked, Dealing}
use Rattle.turn_server.specs.ChannelMessages.{range_to}
use Rattle.turn_server.specs.Delivering.{message_on}
use Rattle.turn_server.specs.Judging.{Site, channel_message as read_channel, dropped, judge, message, sent_on}
use Rattle.turn_sessions.specs.Sides.{IsChannel, IsTransported}

-- a message, and zeros after it
abbrev framed : (channel : ℕ) → (bytes rest : List ℕ) → List ℕ
framed channel bytes rest = be16 channel ++ (be16 (length bytes) ++ (bytes ++ rest))

-- ---- What it holds

field_is : (channel : ℕ) (bytes rest : List ℕ) → IsChannel channel → channel_field (framed channel bytes rest) ≡ channel
field_is channel bytes rest is = omega (arith, is.most)

length_is : (channel : ℕ) (bytes rest : List ℕ) → length bytes < 2 ^ 16 → data_length (framed channel bytes rest) ≡ length bytes
length_is channel bytes rest short = number-be16 (length bytes) short

count_is : (channel : ℕ) (bytes rest : List ℕ) → length (framed channel bytes rest) ≡ 4 + length bytes + length rest
count_is channel bytes rest = omega (arith, length-append bytes rest)

front : (xs ys : List ℕ) → take (length xs) (xs ++ ys) ≡ xs
front [] ys = refl
front (x ∷ xs) ys = ap (λ (l : List ℕ). x ∷ l) (front xs ys)

data_is : (channel : ℕ) (bytes rest : List ℕ) → length bytes < 2 ^ 16 → data_field (framed channel bytes rest) ≡ bytes
data_is channel bytes rest short = ap (λ (n : ℕ). take n (bytes ++ rest)) (length_is channel bytes rest short) ∙ front bytes rest

begins : (range : ChannelRange) (channel : ℕ) → IsChannel channel → begins_number range (channel / 256 % 256) ≡ true
begins Rfc8656 channel is =
    let first = channel / 256 % 256 in
    rw (le-leb 64 first (omega (arith, is.least, is.most)), le-leb first 0x4F (omega (arith, is.most))) refl
begins Rfc5766 channel is =
    let first = channel / 256 % 256 in
    rw (le-leb 64 first (omega (arith, is.least, is.most)), le-leb first 0x7F (omega (arith, is.most))) refl

-- ---- A server

whole_in : (channel : ℕ) (bytes rest : List ℕ) → length bytes < 2 ^ 16 → data_in (framed channel bytes rest) ≡ Some bytes
whole_in channel bytes rest short =
    let d = framed channel bytes rest in
    let n = length_is channel bytes rest short in
    ap (λ (b : Bool). if b then None else Some (data_field d)) (le-ltb (length d) (4 + data_length d) (omega (arith, n, count_is channel bytes rest)))
    ∙ ap (λ (b : List ℕ). Some b) (data_is channel bytes rest short)

framed_read : (last_channel : ℕ) (sets_df : Bool) (site : Site) (channel : ℕ) (bytes rest : List ℕ) → IsChannel channel → length bytes < 2 ^ 16 → judge last_channel sets_df site (framed channel bytes rest) ≡ sent_on channel bytes
framed_read last_channel sets_df site channel bytes rest is short =
    let d = framed channel bytes rest in
    ap (λ (b : Bool). if b then read_channel d else message sets_df site d) (begins (range_to last_channel) channel is)
    ∙ (λ i. option_map_or (sent_on (field_is channel bytes rest is i)) (whole_in channel bytes rest short i) dropped)

unpadded : (channel : ℕ) (bytes : List ℕ) → framed channel bytes [] ≡ channel_message channel bytes
unpadded channel bytes = ap (λ (b : List ℕ). be16 channel ++ (be16 (length bytes) ++ b)) (append-nil bytes)

pub channel_read : (last_channel : ℕ) (sets_df : Bool) (site : Site) (transport : TransportType) (channel : ℕ) (bytes : List ℕ) → IsChannel channel → length bytes < 2 ^ 16
    → judge last_channel sets_df site (channel_text transport channel bytes) ≡ sent_on channel bytes
channel_read last_channel sets_df site Udp channel bytes is short =
    subst (λ (d : List ℕ). judge last_channel sets_df site d ≡ sent_on channel bytes) (unpadded channel bytes) (framed_read last_channel sets_df site channel bytes [] is short)
channel_read last_channel sets_df site Tcp channel bytes is short =
    framed_read last_channel sets_df site channel bytes (replicate (padding_of (length bytes)) 0) is short

-- ---- A client

all_one : (p : ℕ → Bool) (x : ℕ) → p x ≡ true → list_all p (x ∷ []) ≡ true
all_one p x e = rw e refl

no_fault : (channel : ℕ) (bytes rest : List ℕ) → IsChannel channel → length bytes < 2 ^ 16 → length rest ≤ padding_of (length bytes) → channel_fault (framed channel bytes rest) ≡ None
no_fault channel bytes rest is short few =
    let d = framed channel bytes rest in
    let n = length_is channel bytes rest short in
    let count = count_is channel bytes rest in
    rw (
      all_one (begins_number Rfc8656) (channel / 256 % 256) (begins Rfc8656 channel is),
      le-ltb (length d) 4 (omega (arith, count)),
      le-ltb (length d) (4 + data_length d) (omega (arith, n, count)),
      le-ltb (padded_length (4 + data_length d)) (length d) (omega (arith, n, count, few)),
    ) refl

framed_heard : (dealing : Dealing) (request : Option Asked) (channel : ℕ) (bytes rest : List ℕ) → IsChannel channel → length bytes < 2 ^ 16 → length rest ≤ padding_of (length bytes)
    → is_padded dealing.transport (4 + length bytes) (framed channel bytes rest) ≡ true → hears dealing request (framed channel bytes rest) ≡ channel_data channel bytes
framed_heard dealing request channel bytes rest is short few padded =
    let d = framed channel bytes rest in
    let whole : is_padded dealing.transport (4 + data_length d) d ≡ true = ap (λ (n : ℕ). is_padded dealing.transport (4 + n) d) (length_is channel bytes rest short) ∙ padded in
    ap (λ (b : Bool). if b then on_channel dealing.transport d else heard dealing request d) (begins Rfc8656 channel is)
    ∙ (λ i. if is_some (no_fault channel bytes rest is short few i) || not (whole i) then stray else channel_data (field_is channel bytes rest is i) (data_is channel bytes rest short i))

pub channel_heard : (dealing : Dealing) (request : Option Asked) (tuple : FiveTuple) (channel : ℕ) (bytes : List ℕ) → IsChannel channel → length bytes < 2 ^ 16 → IsTransported dealing.transport tuple.transport
    → hears dealing request (message_on tuple channel bytes) ≡ channel_data channel bytes
channel_heard dealing request tuple channel bytes is short same = by dealing.transport refl same
  where
    zeros : List ℕ
    zeros = replicate (padding_of (length bytes)) 0

    count : length zeros ≡ padding_of (length bytes)
    count = length-replicate {A = ℕ} (padding_of (length bytes)) 0

    full : length (framed channel bytes zeros) ≡ padded_length (4 + length bytes)
    full = omega (arith, count_is channel bytes zeros, count)

    by : (transport : TransportType) → dealing.transport ≡ transport → IsTransported transport tuple.transport → hears dealing request (message_on tuple channel bytes) ≡ channel_data channel bytes
    by Udp it is_udp =
        ap (λ (b : Bool). hears dealing request (if b then channel_message channel bytes else padded_message channel bytes)) is_udp
        ∙ subst (λ (d : List ℕ). hears dealing request d ≡ channel_data channel bytes) (unpadded channel bytes)
        (framed_heard dealing request channel bytes [] is short (omega arith) (ap (λ (t : TransportType). is_padded t (4 + length bytes) (framed channel bytes [])) it))
    by Tcp it is_tcp =
        ap (λ (b : Bool). hears dealing request (if b then channel_message channel bytes else padded_message channel bytes)) is_tcp
        ∙ framed_heard dealing request channel bytes zeros is short (omega (arith, count))
        (ap (λ (t : TransportType). is_padded t (4 + length bytes) (framed channel bytes zeros)) it ∙ eq-eqb (length (framed channel bytes zeros)) (padded_length (4 + length bytes)) full)
