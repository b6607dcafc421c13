use Rattle.stun_grammar.specs.Attributes.{canonical}
use Rattle.std.proofs.Common.{◌∷◌, ◌++◌}
use Rattle.stun_types.proofs.ReadingBackLemmas.{begun_holds, added_holds, held_parses, held_shows}
use Rattle.stun_types.proofs.reading_back.added_is_shown.Goals as goal

pub returns-clause-begun : goal.returns-clause-begun
returns-clause-begun c = begun_holds

pub returns-clause-added : goal.returns-clause-added
returns-clause-added c = added_holds

pub returns-clause-shown : goal.returns-clause-shown
returns-clause-shown c = λ w type id before behind atype value holds first.
    (held_parses w type id (before ++ canonical atype value ∷ behind) holds, held_shows w type id before behind atype value holds first)
