-- A walk over the attributes that a message shows, step by step (RFC 8489, section 14).
use Rattle.std.specs.Prelude.{◌≡◌, ℕ, Bool, true, false, ◌&&◌, List, [], ◌∷◌, length, drop, nat_lt, nat_le, slice_range, ◌==◌, if◌then◌else◌}
use Rattle.stun_grammar.specs.Numbers.{number}
use Rattle.stun_grammar.specs.Chains.{Shown}
use Rattle.stun_grammar.specs.Showing.{shown}
use Rattle.stun_types.specs.Iterating.{shown_behind}
use Rattle.stun_types_c.specs.declared.attribute.ShownAttribute.{ShownAttribute}
use Rattle.stun_types_c.specs.declared.cursor.Cursor.{Cursor}
use Rattle.stun_types_c.specs.Attributes.{in_c}

-- the first eight bytes and the last four of d's transaction ID (section 5), as numbers; 0 where d
-- is shorter than a header
abbrev pub id_begin : List ℕ → ℕ
id_begin d = if nat_lt (length d) 20 then 0 else number (slice_range d 8 16)

abbrev pub id_end : List ℕ → ℕ
id_end d = if nat_lt (length d) 20 then 0 else number (slice_range d 16 20)

-- a cursor has come to a place in a message of d's length and transaction ID
abbrev pub continues : Cursor → List ℕ → Bool
continues cursor d =
    nat_le 20 cursor.offset && nat_le cursor.offset (length d) && cursor.length == length d
    && cursor.id_begin == id_begin d && cursor.id_end == id_end d

-- the attributes that a walk has yet to yield, whatever its cursor: what d shows from the place on to
-- which it has come; if it was on the way through another message, those that d shows, but for as
-- many as it has yielded; none if the cursor's spare word isn't 0
abbrev pub left : Cursor → List ℕ → List Shown
left cursor d =
    if cursor.reserved == 0
    then (if continues cursor d then shown_behind cursor.last cursor.offset d
    else drop cursor.index (shown d))
    else []

-- a step of a walk yields the first attribute that is left, and leaves the others; if none is
-- left, nothing changes
abbrev pub Steps : Bool → List Shown → List Shown → ShownAttribute → Type 0
Steps result before after yielded =
    elim result [
      | false ↦ before ≡ []
      | true ↦ (a : Shown) × (before ≡ a ∷ after) × (yielded ≡ in_c a)
    ]
