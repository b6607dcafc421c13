use Rattle.std.proofs.Common.{refl, ap, ◌-◌}
use Rattle.smallvec.specs.SmallVec.{small_vec_len}
use Rattle.stun_grammar.specs.Adding.{numbers}
use Rattle.stun_types.proofs.ResumingLemmas.{resumed}
use Rattle.stun_types.proofs.writing.slice.MessageWriteMutSlice.resume_at.Goals as goal

pub returns : goal.returns
returns c =
    resumed c.args.point c.args.slice.now (numbers c.new.result.items) (c.new.result.capacity - small_vec_len c.new.result) c.args.slice.ghost_name
    c.requires (ap numbers c.new.ensures.items) (rw (c.new.ensures.items, c.new.ensures.capacity) refl)
