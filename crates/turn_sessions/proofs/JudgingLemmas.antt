-- The steps by which a message is judged.
use Rattle.std.proofs.Common.{◌≡◌, ℕ, ◌<◌, Bool, false, List, [], ◌∷◌, Option, None, ap, rules, arith}
use Rattle.std.specs.Prelude.{if◌then◌else◌}
use Rattle.stun_grammar.specs.Parsing.{parse_fault}
use Rattle.stun_grammar.proofs.HeadersLemmas.{header_there, first_low}
use Rattle.stun_grammar.proofs.ParsingLemmas.{parsed_header}
use Rattle.stun_framing.specs.declared.channel_range.ChannelRange.{ChannelRange}
use Rattle.stun_framing.specs.declared.channel_range.ChannelRange.TheVariants.{Rfc8656, Rfc5766}
use Rattle.stun_framing.specs.Channels.{begins_number}
use Rattle.turn_client_messages.specs.Judging.{judge as hears, message as heard, on_channel}
use Rattle.turn_client_messages.specs.Views.{Asked, Dealing}
use Rattle.turn_server.specs.ChannelMessages.{range_to}
use Rattle.turn_server.specs.Judging.{Site, channel_message, judge, message}

-- no number of a channel begins as a message does
no_channel : (range : ChannelRange) (first : ℕ) → first < 64 → begins_number range first ≡ false
no_channel Rfc8656 first low = search rules
no_channel Rfc5766 first low = search rules

pub judge_is : (last_channel : ℕ) (sets_df : Bool) (site : Site) (d : List ℕ) → parse_fault d ≡ None → judge last_channel sets_df site d ≡ message sets_df site d
judge_is last_channel sets_df site [] parses = absurd (omega (arith, (header_there [] (parsed_header [] parses)).0))
judge_is last_channel sets_df site (first ∷ more) parses =
    let d = first ∷ more in
    ap (λ (b : Bool). if b then channel_message d else message sets_df site d) (no_channel (range_to last_channel) first (first_low d (parsed_header d parses)))

pub hears_is : (dealing : Dealing) (request : Option Asked) (d : List ℕ) → parse_fault d ≡ None → hears dealing request d ≡ heard dealing request d
hears_is dealing request [] parses = absurd (omega (arith, (header_there [] (parsed_header [] parses)).0))
hears_is dealing request (first ∷ more) parses =
    let d = first ∷ more in
    ap (λ (b : Bool). if b then on_channel dealing.transport d else heard dealing request d) (no_channel Rfc8656 first (first_low d (parsed_header d parses)))
