use Rattle.std.proofs.Common.{get_or, fold, refl, sym, ap, ◌*◌, ◌∙◌}
use Rattle.std.proofs.lemmas.List.FromFn.{fill_by_all}
use Rattle.stun_grammar.specs.Checksums.{shifted_by, after_byte}
use Rattle.stun_grammar.proofs.ChecksumsLemmas.{fold_four_apart}
use Rattle.stun_keys.proofs.digest.four_shifted_out.Goals as goal

pub returns : goal.returns
returns c =
    let at = get_or c.args.four.now in
    let zeros = c.args.zeros in
    let written_out = fill_by_all (λ k. at k 0) c.args.four.now 4 0 c.requires.four (λ k within. refl) in
    rw (
      c.shifted_out.ensures,
      c.shifted_out-2.ensures,
      c.shifted_out-3.ensures,
      c.shifted_out-4.ensures,
    )
    (fold_four_apart (at 0 0) (at 1 0) (at 2 0) (at 3 0) zeros ∙ ap (λ four. shifted_by (8 * zeros) (fold after_byte 0 four)) (sym written_out))
