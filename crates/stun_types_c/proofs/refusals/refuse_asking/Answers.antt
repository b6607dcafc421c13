use Rattle.stun_types_c.proofs.RefusalsLemmas.{asks}
use Rattle.stun_types_c.proofs.refusals.refuse_asking.Goals as goal

pub returns-in-Ok-challenge_with : goal.returns-in-Ok-challenge_with
returns-in-Ok-challenge_with c =
    let texts = c.in-Ok.ensures in
    let asked = c.in-Ok-challenge_with.ensures in
    let listed = c.as_slice.ensures.algorithms in
    asks _ _ _ c.write_refusal.result _ _ texts.0 (rw (texts.2, listed) at asked.0) (rw (asked.1, texts.1, texts.2, listed) at c.write_refusal.ensures)
