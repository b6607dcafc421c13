-- The integrity attribute that is to be added next: the writer that it borrows, and its algorithm.
use Rattle.std.specs.Borrow.{MutBor}
use Rattle.stun_grammar.specs.declared.integrity_algorithm.IntegrityAlgorithm.{IntegrityAlgorithm}
use Rattle.stun_types.specs.declared.writing.next_integrity.NextIntegrity.{NextIntegrity}

abbrev pub next_writer : {W : Type 0} → NextIntegrity W → MutBor W
next_writer next = next.write

abbrev pub next_algorithm : {W : Type 0} → NextIntegrity W → IntegrityAlgorithm
next_algorithm next = next.algorithm
