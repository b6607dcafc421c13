-- The bytes of data, whether they are borrowed, and how `{:?}` prints them.
use Rattle.std.specs.Prelude.{ℕ, Bool, true, false, List, Option, Some, codes}
use Rattle.std.specs.Fmt.{decimal, debug_list, debug_variant}
use Rattle.std.specs.Box.{boxed_slice_items}
use Rattle.stun_base.specs.declared.data.Data.{Data}
use Rattle.stun_base.specs.declared.data.Data.TheVariants.{Borrowed, Owned}
use Rattle.stun_base.specs.declared.data.DataSlice.{DataSlice}
use Rattle.stun_base.specs.declared.data.DataOwned.{DataOwned}

-- the bytes that a value holds
abbrev pub slice_bytes : DataSlice → List ℕ
slice_bytes slice = slice.bytes.now

abbrev pub owned_bytes : DataOwned → List ℕ
owned_bytes owned = boxed_slice_items owned.bytes

abbrev pub data_bytes : Data → List ℕ
data_bytes (Borrowed slice) = slice_bytes slice
data_bytes (Owned owned) = owned_bytes owned

-- whether they are borrowed
abbrev pub is_borrowed : Data → Bool
is_borrowed (Borrowed slice) = true
is_borrowed (Owned owned) = false

-- bytes as `{:?}` prints them: each in decimal, in brackets
abbrev pub bytes_text : List ℕ → Option (List ℕ)
bytes_text = debug_list (λ byte. Some (decimal byte))

-- borrowed bytes, owned ones, and bytes that the flag says to be borrowed
abbrev pub slice_text : List ℕ → Option (List ℕ)
slice_text bytes = debug_variant (codes "DataSlice") (bytes_text bytes)

abbrev pub owned_text : List ℕ → Option (List ℕ)
owned_text bytes = debug_variant (codes "DataOwned") (bytes_text bytes)

abbrev pub data_text : Bool → List ℕ → Option (List ℕ)
data_text true bytes = debug_variant (codes "Borrowed") (slice_text bytes)
data_text false bytes = debug_variant (codes "Owned") (owned_text bytes)
