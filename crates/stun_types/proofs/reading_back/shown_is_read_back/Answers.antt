use Rattle.std.proofs.Common.{ℕ, ◌+◌, length, sym, subst}
use Rattle.stun_grammar.specs.Attributes.{canonical, encodings}
use Rattle.stun_types.specs.LookingUp.{nth}
use Rattle.stun_types.proofs.ReadingBackLemmas.{found_read}
use Rattle.stun_types.proofs.reading_back.shown_is_read_back.Goals as goal

pub returns : goal.returns
returns g c = λ d attribute result shows read.
    let type = g.A.AttributeStaticType.TYPE in
    let value = g.A.Attribute.value attribute in
    let found = c.shown_is_found.ensures.first d shows.before shows.behind (canonical type.0 value) shows.shows shows.first in
    subst (λ (t : ℕ). g.A.AttributeFromRaw.reads t value result) (sym (g.met.A.AttributeStaticType.has_that_type attribute))
    (found_read type g.A.AttributeFromRaw.reads (20 + length (encodings shows.before)) value (nth d type.0 0) result found read)
