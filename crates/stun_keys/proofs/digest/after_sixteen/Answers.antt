use Rattle.std.proofs.Common.{fold, sym, ap, ◌∙◌, ◌++◌, arith}
use Rattle.stun_grammar.specs.Checksums.{shifted_by, after_byte}
use Rattle.stun_grammar.proofs.ChecksumsLemmas.{fold_sixteen}
use Rattle.stun_keys.proofs.digest.after_sixteen.Goals as goal

pub returns : goal.returns
unfolding shifted_by
returns c =
    let register = c.args.register in
    let first = c.split_at.result.0.now in
    let second = c.split_at-2.result.0.now in
    let third = c.split_at-3.result.0.now in
    let fourth = c.split_at-3.result.1.now in
    let cut = c.split_at.ensures.by_index.0 ∙ ap (λ rest. first ++ rest) (c.split_at-2.ensures.by_index.0 ∙ ap (λ rest. second ++ rest) c.split_at-3.ensures.by_index.0) in
    rw (
      c.four_shifted_out.ensures,
      c.four_shifted_out-2.ensures,
      c.four_shifted_out-3.ensures,
      c.four_shifted_out-4.ensures,
      c.with_register.ensures,
    )
    (sym (fold_sixteen first second third fourth register (omega arith) (omega arith) (omega arith)) ∙ ap (fold after_byte register) (sym cut))
