-- What the walks share. Each is over a struct of a pointer and an allocator's handle, and such a
-- struct is two machine values. Assumes `Logic`.
--     two                       the struct's machine value
--     ptr_typed                 a pointer's machine value has a pointer's type
--     two_typed                 the struct's has the struct's type
--     one_word                  what the handle owns is owned at one machine value, of its type
--     taken_apart               what the struct's fields own is what the handle owns
--     put_together              and back
--     at_one_word               a run on an argument that is one machine value
--     value_of                  the value of an option that has one
use Rattle.std.proofs.Common.{◌≡◌, List, [], ◌∷◌, ◌++◌, refl, sym, ◌∙◌, subst}
use mathlib.Core.Bool.{Bool, true, false, ◌&&◌}
use lib.Dec.{T, lit<}
use seplogic.Ra.Ura.{Ura}
use mir.Syntax.{impl, tnil, dnil, ty_ptr}
use mir.Val.{Val, vstruct, vcons, vnil, of_list, has_ty, WT}
use base.Logic.{SProp, ent, id⊢}
use base.Fml.{ftrue}
use types.Logic.{Logic}
use types.Kit.{Item, Goal, Seq, Step, step, ‵, ◌$◌, move, drop, fsplit, fjoin, fpick, fpack, feq_i, feq_l}
use denote.RattleType.{RattleType, Valss}
use denote.Builtin.{RawPtr}
use denote.RawPtr.{Ptr, block_ptr, null_ptr, ptr_val}
use denote.Steps.{nothing}
use denote.Param.{layout}
use denote.Param.Laws.{Laws}
use denote.Struct.Struct.{Shape, Struct, within}
use Rattle.std.specs.Prelude.{Option, Some, None, ◌≢◌}
use Rattle.std.proofs.alloc.Calls.{Al, handle_tells}

abbrev pub two : Val → Val → Val
two v w = vstruct (vcons v (vcons w vnil))

and_true : (y : Bool) → T y → T (y && true)
and_true true t = t
and_true false t = t

pub at_one_word : {M : Type 1} (𝓤 : Ura M) (run : List Val → SProp 𝓤) {vs : List Val} {w : Val}
    → vs ≡ w ∷ [] → ent 𝓤 (run (w ∷ [])) (run (vs ++ []))
at_one_word 𝓤 run {w = w} is =
    subst (λ (us : List Val). ent 𝓤 (run (w ∷ [])) (run us)) (sym (λ i. is i ++ []))
    (id⊢ 𝓤 (run (w ∷ [])))

pub ptr_typed : (p : Ptr) → T (has_ty ty_ptr (ptr_val p)) × WT (ptr_val p)
ptr_typed (block_ptr b o) = (tt, tt)
ptr_typed null_ptr = (tt, record { fits = lit< tt })

module _ (Z : RattleType) where
  abbrev pub Fits : Val → Type 0
  Fits h = T (has_ty (layout Z) h) × WT h

  pub two_typed : (p : Ptr) (h : Val) → Fits h
      → T (has_ty ty_ptr (ptr_val p) && (has_ty (layout Z) h && true)) × WT (two (ptr_val p) h)
  two_typed (block_ptr b o) h fits = (and_true (has_ty (layout Z) h) fits.0, (tt, (fits.1, tt)))
  two_typed null_ptr h fits = (and_true (has_ty (layout Z) h) fits.0, (record { fits = lit< tt }, (fits.1, tt)))

module _ (Z : RattleType) (L : Laws Z) where
  abbrev shape : Shape
  shape = record { name = []; args = []; types = []; fields = RawPtr ∷ Z ∷ [] }

  abbrev al : Al
  al = record {
    row = Z;
    laws = L;
    g = record { dealloc_token = λ a σ p. ftrue };
    d = impl [] tnil dnil;
    drops = impl [] tnil dnil;
  }

  module _ {M : Type 1} {𝓤 : Ura M} {𝓛 : Logic 𝓤}
      {K : Type 0} {Γ : List (Item 𝓤)} {G : Goal 𝓤 𝓛.H} where
    pub one_word : K → (a : Z.Denot) (vs : List Val)
        → ((h : Val) → vs ≡ h ∷ [] → Fits Z h → Seq K 𝓛 (‵ (Z.own_val a (h ∷ [])) ∷ Γ) G)
        → Seq K 𝓛 (‵ (Z.own_val a vs) ∷ Γ) G
    one_word = handle_tells al

    pub taken_apart : K → (p : Ptr) (a : Z.Denot) (vs : List Val)
        → ((h : Val) → vs ≡ two (ptr_val p) h ∷ [] → Fits Z h → Seq K 𝓛 (‵ (Z.own_val a (h ∷ [])) ∷ Γ) G)
        → Seq K 𝓛 (‵ ((Struct shape).own_val (p, (a, tt)) vs) ∷ Γ) G
    taken_apart t p a vs k =
        fpick t (λ vss. fsplit t $ feq_l t (λ whole. fsplit t $ feq_l t (λ first. fsplit t $
        handle_tells al t a vss.1.0 (λ h second fits. move t (1 ∷ []) $ drop t $
        k h (whole ∙ (λ i. vstruct (of_list (first i ++ (second i ++ []))) ∷ [])) fits))))

    pub put_together : K → (p : Ptr) (a : Z.Denot) (h : Val)
        → Step K 𝓛 (‵ ((Struct shape).own_val (p, (a, tt)) (two (ptr_val p) h ∷ [])) ∷ Γ) G
        (‵ (Z.own_val a (h ∷ [])) ∷ Γ) G
    put_together t p a h = step (λ s. let v : Val = two (ptr_val p) h in
        nothing t $ move t (1 ∷ 0 ∷ []) $ fjoin t $
        feq_i t (List Val) (ptr_val p ∷ []) (ptr_val p ∷ []) refl $ fjoin t $
        feq_i t (List Val) (v ∷ []) (v ∷ []) refl $ fjoin t $
        fpack t (Valss (RawPtr ∷ Z ∷ [])) (within shape (p, (a, tt)) (v ∷ []))
        (ptr_val p ∷ [], (h ∷ [], tt)) $ s)

pub value_of : {X : Type 0} (x : Option X) → x ≢ None → (y : X) × (x ≡ Some y)
value_of None holds = absurd (holds refl)
value_of (Some y) holds = (y, refl)
