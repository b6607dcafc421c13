use Rattle.std.proofs.Common.{[], sym}
use Rattle.stun_grammar.proofs.ChecksumsLemmas.{fold-cons}
use Rattle.stun_keys.proofs.digest.after.Goals as goal

pub returns : goal.returns
returns c = rw (c.shifted_out.ensures, c.to_le_bytes.ensures) (sym (fold-cons c.args.byte [] c.args.register))
