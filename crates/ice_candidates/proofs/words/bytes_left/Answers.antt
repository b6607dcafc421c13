use Rattle.std.proofs.Common.{sym}
use Rattle.ice_candidates.proofs.WordsLemmas.{size-words}
use Rattle.ice_candidates.proofs.words.bytes_left.Goals as goal

pub returns-in-Some : goal.returns-in-Some
returns-in-Some c = rw c.in-Some.is (sym (size-words c.in-Some.text.now))
