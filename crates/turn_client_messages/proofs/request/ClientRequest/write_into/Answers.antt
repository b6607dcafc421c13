use Rattle.std.proofs.Common.{◌≡◌, ℕ, Bool, true, false, None, Some, if◌then◌else◌, refl, sym, ◌∙◌}
use Rattle.stun_framing.specs.declared.channel_range.ChannelRange.TheVariants.{Rfc8656}
use Rattle.turn_attrs.specs.Channels.{is_channel_in}
use Rattle.turn_client_messages.proofs.request.ClientRequest.write_into.Goals as goal

-- a channel that there is has its number
numbered : (b : Bool) (number channel : ℕ) → (if b then Some number else None) ≡ Some channel → (b ≡ true) × (channel ≡ number)
numbered true number channel is = (refl, cc)
numbered false number channel is = absurd cc

pub returns-in-Allocate-clause-answer : goal.returns-in-Allocate-clause-answer
returns-in-Allocate-clause-answer g c = rw c.in-Allocate.is c.write_asked.ensures.answer

pub returns-in-Refresh-clause-answer : goal.returns-in-Refresh-clause-answer
returns-in-Refresh-clause-answer g c = rw c.in-Refresh.is c.write_asked-in-Refresh.ensures.answer

pub returns-in-Some-clause-answer : goal.returns-in-Some-clause-answer
returns-in-Some-clause-answer g c =
    let both = numbered (is_channel_in Rfc8656 c.in-Bind.number) c.in-Bind.number c.in-Some.channel (sym c.new.ensures ∙ c.in-Some.is) in
    rw (c.in-Bind.is, both.0) (rw both.1 at c.write_asked-in-Some.ensures.answer)
