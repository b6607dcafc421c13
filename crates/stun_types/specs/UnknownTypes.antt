-- The unknown types that an iterator has yet to yield.
use Rattle.std.specs.Prelude.{List, map}
use Rattle.std.specs.List.{filter}
use Rattle.stun_grammar.specs.declared.attribute_type.AttributeType.{AttributeType}
use Rattle.stun_types.specs.Iterating.{items_left}
use Rattle.stun_types.specs.Replies.{joined, is_unknown}
use Rattle.stun_types.specs.declared.message.unknown.Supported.{Supported}
use Rattle.stun_types.specs.declared.message.unknown.Supported.TheVariants.{One, Several}
use Rattle.stun_types.specs.declared.message.unknown.UnknownTypes.{UnknownTypes}

-- the supported types
abbrev pub types_of : Supported → List AttributeType
types_of (One types) = types.now
types_of (Several lists) = joined lists.now

-- those among the attributes that are left
abbrev pub types_left : UnknownTypes → List AttributeType
types_left iterator =
    filter (is_unknown (types_of iterator.supported))
    (map (λ item. record { 0 = item.0.type }) (items_left iterator.attributes))
