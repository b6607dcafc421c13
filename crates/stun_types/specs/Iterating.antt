-- The attributes that an iterator has yet to yield.
use Rattle.std.specs.Prelude.{◌≡◌, ℕ, ◌+◌, ◌≤◌, Bool, true, List, ◌∷◌, length, drop, map}
use Rattle.stun_grammar.specs.Chains.{Shown, chain, placed}
use Rattle.stun_grammar.specs.Attributes.{types}
use Rattle.stun_grammar.specs.ShownOrder.{in_order}
use Rattle.stun_grammar.specs.Prefixes.{longest_prefix}
use Rattle.stun_base.specs.Data.{is_borrowed}
use Rattle.stun_attributes.specs.Raw.{raw_type, raw_data, raw_value}
use Rattle.stun_attributes.specs.declared.wire.raw.RawAttribute.{RawAttribute}
use Rattle.stun_types.specs.declared.reading.iterate.MessageAttributesIter.{MessageAttributesIter}

-- an item as an attribute that is shown at its offset, and whether its value is borrowed
abbrev pub item_view : ℕ × RawAttribute → Shown × Bool
item_view item = (
  record { offset = item.0; type = raw_type item.1; value = raw_value item.1 },
  is_borrowed (raw_data item.1),
)

-- attributes that are shown, each with a borrowed value
abbrev pub borrowed : List Shown → List (Shown × Bool)
borrowed = map (λ attribute. (attribute, true))

-- what d shows from an offset on, after an attribute of type `last`: the longest prefix of the
-- chain there that keeps the order
unfoldable pub shown_behind : ℕ → ℕ → List ℕ → List Shown
shown_behind last offset d =
    placed offset
    (longest_prefix (λ prefix. in_order (last ∷ types prefix)) (chain (drop offset d)))

-- what an iterator has yet to yield
abbrev pub items_left : MessageAttributesIter → List (Shown × Bool)
items_left iterator = borrowed (shown_behind iterator.last iterator.offset iterator.bytes.now)

-- a raw attribute is the first of those that d shows from an offset on, after an attribute of type
-- `last`; its value is borrowed, and what d shows goes on at `behind`
pub record ShowsFirst (raw : RawAttribute) (behind last offset : ℕ) (d : List ℕ) : Type 0 where
  pub fits : offset + 4 + length (raw_value raw) ≤ behind
  pub within : behind ≤ length d
  pub borrowed : is_borrowed (raw_data raw) ≡ true
  pub shows : shown_behind last offset d
      ≡ record { offset = offset; type = raw_type raw; value = raw_value raw }
      ∷ shown_behind (raw_type raw) behind d
