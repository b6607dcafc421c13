use Rattle.std.proofs.Common.{sym, ap, ◌∙◌, fold}
use Rattle.std.proofs.lemmas.List.Sums.{fold-append}
use Rattle.stun_grammar.specs.Checksums.{shifted_by, after_byte}
use Rattle.stun_keys.proofs.digest.after_few.Goals as goal

pub loop-rest-preserved : goal.loop-rest-preserved
unfolding shifted_by
loop-rest-preserved c =
    let register = c.loop-rest.register in
    rw (c.four_shifted_out-register.ensures, c.with_register.ensures)
    (sym (fold-append after_byte register c.split_at.result.0.now c.split_at.result.1.now) ∙ ap (fold after_byte register) (sym c.split_at.ensures.by_index.0) ∙ c.loop-rest.invariant)
