-- The tables of CRC-32: each entry is computed again, bit by bit.
use Rattle.std.proofs.Common.{◌≡◌, ℕ, ◌+◌, ◌*◌, ◌<◌, List, map, get_or, refl, ap, ◌∙◌, arith}
use Rattle.std.proofs.lemmas.List.FromFn.{get_or-map-range_with_len}
use Rattle.std.specs.List.{range_with_len}
use Rattle.stun_grammar.specs.Checksums.{shifted_by}
use Rattle.stun_keys.specs.declared.digest.crc_tables.TheConstants.{TABLES}

-- what each byte becomes once it and k bytes of zeros are shifted out
abbrev table : ℕ → List ℕ
table k = map (shifted_by (8 * (k + 1))) (range_with_len 0 256)

tables_are : TABLES ≡ map table (range_with_len 0 16)
unfolding shifted_by
tables_are = refl

pub table_at : (none : List ℕ) (k i : ℕ) → k < 16 → i < 256 → get_or (get_or TABLES k none) i 0 ≡ shifted_by (8 * (k + 1)) i
table_at none k i few within =
    ap (λ (ts : List (List ℕ)). get_or (get_or ts k none) i 0) tables_are
    ∙ ap (λ (t : List ℕ). get_or t i 0) (get_or-map-range_with_len (table) 0 16 k k none few (omega arith))
    ∙ get_or-map-range_with_len (shifted_by (8 * (k + 1))) 0 256 i i 0 within (omega arith)
