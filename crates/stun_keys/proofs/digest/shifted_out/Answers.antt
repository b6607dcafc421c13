use Rattle.std.proofs.Common.{[], arith}
use Rattle.stun_keys.proofs.CrcTablesLemmas.{table_at}
use Rattle.stun_keys.proofs.digest.shifted_out.Goals as goal

pub returns : goal.returns
returns c = rw c.from.ensures (table_at [] c.args.zeros c.args.byte c.requires (omega arith))
