use Rattle.std.proofs.Common.{Ok, ◌-◌, ◌∙◌}
use Rattle.stun_framing.proofs.StoredLemmas.{goes_on}
use Rattle.stun_framing.proofs.stored_stream.push_raw.Goals as goal

pub overflow_sub-result : goal.overflow_sub-result
overflow_sub-result c =
    (goes_on c.args.carries c.args.buffer.now c.gather.new.buffer c.args.piece.now c.args.held c.args.offset c.in_ok-part.part c.in-Ok.gathered
    c.in_ok-part.ensures.0 c.in_ok-part.ensures.1 c.gather.auto.buffer c.in-Ok.ensures).grows

pub returns-in-Ok : goal.returns-in-Ok
returns-in-Ok c =
    let goes = goes_on c.args.carries c.args.buffer.now c.gather.new.buffer c.args.piece.now c.args.held c.args.offset c.in_ok-part.part c.in-Ok.gathered
    c.in_ok-part.ensures.0 c.in_ok-part.ensures.1 c.gather.auto.buffer c.in-Ok.ensures in (
      c.in_ok-part.ensures.0,
      (λ i. Ok (record {
        taken = c.in-Ok.gathered.held - c.args.held;
        offset = c.offset_behind.ensures i;
        pending = (c.pending_of.ensures i).held;
        message = c.whole_length.ensures i;
      })) ∙ goes.answer,
      goes.stands,
    )
