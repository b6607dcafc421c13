-- What a writer into a vector is once the borrow of its bytes has ended.
use Rattle.std.specs.Prelude.{◌≡◌, ℕ, ◌++◌, List, [], ◌∷◌, length, take, drop}
use Rattle.std.specs.Borrow.{Lends, MutBor, Fml, Array, u8}
use Rattle.std.specs.List.{length_refill}
use Rattle.std.specs.Vec.{with_items}
use Rattle.std.proofs.Common.{refl, sym, ap, ◌∙◌, arith}
use Rattle.stun_types.specs.declared.writing.vec.MessageWriteVec.{MessageWriteVec}
use Rattle.stun_types.specs.contracts.writing.vec.MessageWriteVec.{the_row}

-- as many bytes as before: there are none only if there were none
nothing_there : (xs : List ℕ) → length xs ≡ 0 → xs ≡ []
nothing_there [] e = refl
nothing_there (x ∷ xs) e = absurd (omega (arith, e))

pub none_before : (n : ℕ) (xs given : List ℕ) → n ≡ length xs
    → take n (given ++ drop (length given) xs) ≡ [] → xs ≡ []
none_before n xs given e none =
    nothing_there xs (sym e ∙ length_refill n xs given e ∙ ap length none)

-- the writer with these bytes instead of its own, as many as it has
abbrev pub overwritten : MessageWriteVec → List ℕ → MessageWriteVec
overwritten w given = record {
  output = with_items w.output given;
  attributes = w.attributes;
  no_types = λ e.
      w.no_types (none_before w.output.len w.output.items given w.output.ok.0 e);
}

-- once the borrow ends, the writer is `overwritten` with the bytes that the slice had last
abbrev pub LendsBytes : MutBor MessageWriteVec → MutBor (List ℕ) → Fml
LendsBytes write slice = Lends the_row (Array u8 0) write slice (overwritten write.now)
