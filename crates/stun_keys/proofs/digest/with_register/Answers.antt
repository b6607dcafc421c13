use Rattle.std.proofs.Common.{get_or, fold, refl, sym, ap, ◌∙◌, arith}
use Rattle.std.proofs.lemmas.List.FromFn.{fill_by_all}
use Rattle.stun_grammar.specs.Checksums.{after_byte}
use Rattle.stun_grammar.proofs.ChecksumsLemmas.{fold_four}
use Rattle.stun_keys.proofs.digest.with_register.Goals as goal

pub returns : goal.returns
returns c =
    let at = get_or c.args.four.now in
    let register = c.args.register in
    let written_out = fill_by_all (λ k. at k 0) c.args.four.now 4 0 c.requires (λ k within. refl) in
    rw c.to_le_bytes.ensures
    (fold_four (at 0 0) (at 1 0) (at 2 0) (at 3 0) register (omega arith) ∙ ap (fold after_byte register) (sym written_out))
