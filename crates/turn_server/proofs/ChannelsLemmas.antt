-- What comes of a datagram that begins as a ChannelData message.
use Rattle.std.proofs.Common.{◌≡◌, ℕ, ltb, ◌+◌, ◌-◌, ◌≤◌, Bool, true, false, List, length, take, drop, Option, Some, None, if◌then◌else◌, refl, inl, inr, arith}
use Rattle.std.specs.List.{list_all}
use Rattle.std.specs.Option.{option_or}
use Rattle.std.proofs.lemmas.Bool.{cases_Bool, le-ltb, ltb-false}
use Rattle.std.proofs.lemmas.List.{length-take-le, length-drop}
use Rattle.stun_framing.specs.declared.channel_range.ChannelRange.{ChannelRange}
use Rattle.stun_framing.specs.Channels.{begins_number}
use Rattle.turn_attrs.specs.declared.channel_data.ChannelDataError.{ChannelDataError}
use Rattle.turn_attrs.specs.Channels.{begin_fault_in, channel_field, data_length}
use Rattle.turn_attrs.specs.ChannelMessages.{data_field, prefix_fault_in}
use Rattle.turn_server.specs.declared.action.Span.{Span}
use Rattle.turn_server.specs.declared.judged.Judged.TheVariants.{Dropped, SentOn}
use Rattle.turn_server.specs.Judging.{Site, channel_message}
use Rattle.turn_server.specs.Reporting.{Tells}
use Rattle.turn_server.specs.Spans.{StandsAt}

not_cut : (o : Option ChannelDataError) (f : ChannelDataError) (b : Bool) → option_or o (if b then Some f else None) ≡ None → b ≡ false
not_cut (Some e) f b is = absurd cc
not_cut None f true is = absurd cc
not_cut None f false is = refl

-- the message that begins it has this channel, and its data has this length
pub sent_on_channel : (site : Site) (range : ChannelRange) (d : List ℕ) (on size : ℕ) → prefix_fault_in range d ≡ None → on ≡ channel_field d → size ≡ length (data_field d)
    → Tells site d (channel_message d) (SentOn on (record { at = 4; length = size }))
sent_on_channel site range d on size whole channel long =
    let n = data_length d in
    let kept = not_cut (begin_fault_in range d) _ _ whole in
    let fits : 4 + n ≤ length d = ltb-false (length d) (4 + n) kept in
    let span : Span = record { at = 4; length = size } in
    let same : 4 + size - 4 ≡ n = omega (arith, long, length-take-le n (drop 4 d) (omega (arith, fits, length-drop 4 d))) in
    let stands : StandsAt span (data_field d) d = record { length_is = long; stands = λ i. take (same i) (drop 4 d) } in
    rw kept (channel, stands)

-- the message that begins it is cut off
pub is_cut : (site : Site) (range : ChannelRange) (d : List ℕ) (e : ChannelDataError) → list_all (begins_number range) (take 1 d) ≡ true → prefix_fault_in range d ≡ Some e
    → Tells site d (channel_message d) Dropped
is_cut site range d e begins fault = elim (cases_Bool (ltb (length d) (4 + data_length d))) [
  | inl cut ↦ rw cut tt
  | inr whole ↦ absurd (
      let long : 4 + data_length d ≤ length d = ltb-false (length d) (4 + data_length d) whole in
      let none : prefix_fault_in range d ≡ None = rw (begins, le-ltb (length d) 4 (omega (arith, long)), whole) refl in
      cc (none, fault)
      )
]
