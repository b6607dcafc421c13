use Rattle.stun_framing.proofs.CutsLemmas.{framed, taken, longest, apart}
use Rattle.stun_framing.proofs.laws.messages_are_framed.Goals as goal

pub returns-clause-framed : goal.returns-clause-framed
returns-clause-framed c = framed

pub returns-clause-taken : goal.returns-clause-taken
returns-clause-taken c = taken

pub returns-clause-longest : goal.returns-clause-longest
returns-clause-longest c = longest

pub returns-clause-apart : goal.returns-clause-apart
returns-clause-apart c = apart
