-- The attributes that a message had when a writer resumed it.
use Rattle.std.specs.Prelude.{ℕ, Bool, not, List, take, drop, filter, if◌then◌else◌}
use Rattle.stun_grammar.specs.AttributeTypes.{is_ending}
use Rattle.stun_grammar.specs.Attributes.{types}
use Rattle.stun_grammar.specs.Chains.{chain}
use Rattle.stun_types.specs.declared.writing.listed.Listed.{Listed}

-- the types that count: all of them, or the ordinary ones alone
unfoldable pub counted : Bool → List ℕ → List ℕ
counted all types = if all then types else filter (λ type. not (is_ending type)) types

-- the types of those attributes, read in place in a message; if no ending one was among
-- them, none counts
unfoldable pub listed_types : Listed → List ℕ → List ℕ
listed_types listed message =
    counted listed.ends (types (chain (take listed.bytes (drop 20 message))))
