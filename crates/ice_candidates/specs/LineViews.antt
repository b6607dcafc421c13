-- An attribute of the code as one of the definitions.
use Rattle.ice_candidates.specs.declared.lines.Line.{Line}
use Rattle.ice_candidates.specs.declared.lines.Line.TheVariants as L
use Rattle.ice_candidates.specs.Words.{words}
use Rattle.ice_candidates.specs.Lines.{Attribute, candidate, username_fragment, password, options, lite, end_of_candidates}
use Rattle.ice_candidates.specs.Views.{fields}

abbrev pub attribute : Line → Attribute
attribute (L.Candidate c) = candidate (fields c)
attribute (L.UsernameFragment text) = username_fragment text.now
attribute (L.Password text) = password text.now
attribute (L.Options text) = options (words text.now)
attribute L.Lite = lite
attribute L.EndOfCandidates = end_of_candidates
