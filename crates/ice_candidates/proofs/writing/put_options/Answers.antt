use Rattle.std.proofs.Common.{List, ℕ, ◌++◌, sym, ap}
use Rattle.std.specs.Prelude.{codes}
use Rattle.std.proofs.lemmas.List.Splits.{join_with_byte-slice_split}
use Rattle.stun_text.proofs.Joining.{spelled_so}
use Rattle.ice_candidates.proofs.writing.put_options.Goals as goal

pub returns : goal.returns
returns g c =
    let text = c.args.text.now in
    spelled_so g.S.TextSink.wrote g.met.S.TextSink.joins (ap (λ (l : List ℕ). codes "ice-options:" ++ l) (sym (join_with_byte-slice_split 32 text))) c.in_ok-put_named.ensures
