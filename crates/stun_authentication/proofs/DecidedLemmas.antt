-- The rows of a table.
use Rattle.std.proofs.Common.{◌≡◌, Bool, true, false, List, [], ◌∷◌, refl, ◌∙◌}
use Rattle.std.specs.List.{AllByRecursion}
use Rattle.stun_authentication.specs.Answers.{Decision, Row, decides, decided}

next : (c : Bool) (x : Decision) (rows : List Row) (otherwise : Decision) → c ≡ false → decided ((c, x) ∷ rows) otherwise ≡ decided rows otherwise
next true x rows otherwise e = absurd cc
next false x rows otherwise e = refl

-- if no condition holds
pub none_holds : (rows : List Row) (otherwise : Decision) → AllByRecursion (λ row. row.0 ≡ false) rows → decided rows otherwise ≡ otherwise
none_holds [] otherwise none = refl
none_holds (row ∷ rows) otherwise none = next row.0 row.1 rows otherwise none.0 ∙ none_holds rows otherwise none.1

-- if no row decides so
past : (c : Bool) (x : Decision) (rows : List Row) (otherwise goal : Decision) → (x ≡ goal → ⊥) → decided ((c, x) ∷ rows) otherwise ≡ goal → (c ≡ false) × (decided rows otherwise ≡ goal)
past true x rows otherwise goal other e = absurd (other e)
past false x rows otherwise goal other e = (refl, e)

pub none_decides : (rows : List Row) (otherwise goal : Decision) → AllByRecursion (λ row. row.1 ≡ goal → ⊥) rows → decided rows otherwise ≡ goal → AllByRecursion (λ row. row.0 ≡ false) rows × (otherwise ≡ goal)
none_decides [] otherwise goal others e = (tt, e)
none_decides (row ∷ rows) otherwise goal others e =
    let one = past row.0 row.1 rows otherwise goal others.0 e in
    let more = none_decides rows otherwise goal others.1 one.1 in
    ((one.0, more.0), more.1)

none_next : (c : Bool) (x : Decision) (rows : List Row) (otherwise : Decision) → (decides rows ≡ false → decided rows otherwise ≡ otherwise) → decides ((c, x) ∷ rows) ≡ false → decided ((c, x) ∷ rows) otherwise ≡ otherwise
none_next true x rows otherwise more e = absurd cc
none_next false x rows otherwise more e = more e

-- no row decides
pub passed : (rows : List Row) (otherwise : Decision) → decides rows ≡ false → decided rows otherwise ≡ otherwise
passed [] otherwise e = refl
passed (row ∷ rows) otherwise e = none_next row.0 row.1 rows otherwise (passed rows otherwise) e

one_next : (c : Bool) (x : Decision) (rows : List Row) (one other : Decision) → (decides rows ≡ true → decided rows one ≡ decided rows other) → decides ((c, x) ∷ rows) ≡ true → decided ((c, x) ∷ rows) one ≡ decided ((c, x) ∷ rows) other
one_next true x rows one other more e = refl
one_next false x rows one other more e = more e

-- a row decides, whatever would be decided otherwise
pub settled : (rows : List Row) (one other : Decision) → decides rows ≡ true → decided rows one ≡ decided rows other
settled [] one other e = absurd cc
settled (row ∷ rows) one other e = one_next row.0 row.1 rows one other (settled rows one other) e
