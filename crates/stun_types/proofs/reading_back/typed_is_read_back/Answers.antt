use Rattle.std.proofs.Common.{◌+◌, length, refl}
use Rattle.stun_grammar.specs.Attributes.{canonical, encodings}
use Rattle.stun_attributes.specs.Reading.{ReadsTyped}
use Rattle.stun_types.specs.LookingUp.{nth}
use Rattle.stun_types.proofs.ReadingBackLemmas.{found_read, one_is}
use Rattle.stun_types.proofs.reading_back.typed_is_read_back.Goals as goal

pub returns-clause-reads : goal.returns-clause-reads
returns-clause-reads g c = λ d attribute result shows read.
    let number = g.A.TypedAttribute.NUMBER in
    let value = g.A.EncodeValue.bytes attribute in
    let found = c.shown_is_found.ensures.first d shows.before shows.behind (canonical number value) shows.shows shows.first in
    (found_read (record { 0 = number }) (ReadsTyped number g.A.ReadValue.reads_value) (20 + length (encodings shows.before)) value (nth d number 0) result found read).0 refl

pub returns-clause-same : goal.returns-clause-same
returns-clause-same g c = λ d attribute result one shows read.
    let number = g.A.TypedAttribute.NUMBER in
    let value = g.A.EncodeValue.bytes attribute in
    let found = c.shown_is_found.ensures.first d shows.before shows.behind (canonical number value) shows.shows shows.first in
    one_is attribute result (one result ((found_read (record { 0 = number }) (ReadsTyped number g.A.ReadValue.reads_value) (20 + length (encodings shows.before)) value (nth d number 0) result found read).0 refl))
