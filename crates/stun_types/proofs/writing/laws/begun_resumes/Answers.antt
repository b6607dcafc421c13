use Rattle.std.proofs.Common.{[], arith}
use Rattle.stun_grammar.proofs.WritingLemmas.{length-message}
use Rattle.stun_types.proofs.ResumedLemmas.{encoding_goes_on, there_in_slice}
use Rattle.stun_types.proofs.writing.laws.begun_resumes.Goals as goal

pub returns-clause-begun : goal.returns-clause-begun
returns-clause-begun c type id t = encoding_goes_on type id [] t tt (omega (arith, length-message type id []))

pub returns-clause-written : goal.returns-clause-written
returns-clause-written c = encoding_goes_on

pub returns-clause-there : goal.returns-clause-there
returns-clause-there c = there_in_slice
