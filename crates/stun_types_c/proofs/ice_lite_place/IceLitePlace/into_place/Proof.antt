-- `into_place` passes on what the place owns.
use Rattle.std.proofs.Common.{◌≡◌, List, [], ◌∷◌, refl}
use mir.Val.{Val}
use base.Logic.{SProp, emp}
use base.Fml.{ftrue}
use prog.Wp.{WpFn}
use types.Kit.{‵, raw, ◌⊛◌, ◌$◌, ◌∵◌, !, qed, by, move, keep, split, fsplit, fjoin, suffices, use0}
use types.Run.{stop, fld, of_opd, no_more, and_then, returns, enter}
use types.ByLocal.{alloc_all, pass_all, free_all, look_at, get, get_in, sets}
use types.Part.{agg, sub, whole}
use contract.Monad.{fact, fact_i}
use contract.Running.{tables}
use denote.Exit.{yes}
use denote.RattleType.{owns}
use denote.Signature.{types_at, plain}
use denote.RawPtr.{ptr_val}
use denote.Steps.{nothing}
use denote.Triple.Walked.{Stays, stay_dropped, walk_of}
use Rattle.std.proofs.alloc.Calls.{Goes-blank}
use Rattle.std.proofs.alloc.Global.TheLaws as heap
use Rattle.std.proofs.raw_atomic.Walks.{proved_at, leaves}
use Rattle.std.specs.contracts.alloc.Global.{the_row as Heap}
use Rattle.stun_types_c.proofs.TwoWords.{at_one_word, two, two_typed, ptr_typed, taken_apart, put_together}
use Rattle.stun_types_c.specs.contracts.ice_lite_core.IceLiteCore.{the_row as Core}
use Rattle.stun_types_c.specs.declared.place.Place.{Place}
use Rattle.stun_types_c.specs.contracts.ice_lite_place.IceLitePlace.{the_row as Taken}
use Rattle.stun_types_c.specs.contracts.ice_lite_place.IceLitePlace.into_place.{ended, clauses}
use Rattle.stun_types_c.specs.contracts.ice_lite_place.IceLitePlace.into_place.Key.{name as own_name}
use Rattle.stun_types_c.proofs.ice_lite_place.IceLitePlace.into_place.Statement.{statement}
use Rattle.stun_types_c.proofs.ice_lite_place.IceLitePlace.into_place.Code as code

abbrev stayed : Stays ended.signature.params ended.kept
stayed = (stay_dropped (plain (λ _. Taken)) yes, tt)

pub into_place_spec : {M : Type 1} → statement M
into_place_spec 𝓤 𝓛 𝓜 𝓡 wired =
    let H = 𝓛.H in
    let 𝓣 = tables 𝓤 H 𝓜 𝓡 𝓡.env in
    let c = clauses 𝓛 𝓜.mem 𝓡.returns in
    let fn = code.function in
    proved_at 𝓛 ended stayed c 𝓜 𝓡 (Goes-blank 𝓛 0 (plain (λ _. Taken)) yes (λ κs x f. tt), tt)
    own_name fn (code.unfolded 𝓤 H 𝓜 𝓡 wired) (λ z are.
    let v = z.0.3.0 in
    let p = v.at in
    let a = v.alloc in
    let Post : Val → SProp 𝓤 = (walk_of 𝓛 ended stayed c).post z in
    let Run : List Val → SProp 𝓤 = λ ws. WpFn 𝓤 H 𝓣.C 𝓣.Λ fn ws Post in
    qed 𝓛 ((‵ ftrue ⊛ ‵ (owns (types_at ended.signature.params z.0.0) z.0.3 z.0.4)) ∷ ‵ ftrue ∷ []) ∵
    split ! $ move ! (1 ∷ []) $ fsplit ! $ fsplit ! $
    taken_apart Heap heap.the_row_laws ! p a z.0.4.0 (λ h is fits.
    let w : Val = two (ptr_val p) h in
    let typed = two_typed Heap p h fits in
    let made : Place Core.Denot Heap.Denot = record { at = p; alloc = a; value = v.value } in
    suffices ! (Run (w ∷ [])) (at_one_word 𝓤 Run is) $
    enter ! 𝓣.C 𝓣.Λ fn (w ∷ []) Post $ alloc_all ! (λ l. pass_all ! refl (typed, tt) $
    sets ! (of_opd ! (get_in ! (fld ! refl (stop !)) (sub ! 0 refl (whole !)))) refl (ptr_typed p) $
    sets ! (of_opd ! (get_in ! (fld ! refl (stop !)) (sub ! 1 refl (whole !)))) refl fits $
    sets ! (of_opd ! (get ! refl)) refl (ptr_typed p) $
    sets ! (agg ! (and_then ! (get ! refl) (and_then ! (get ! refl) (no_more !)))) refl typed $
    -- [the allocator; what the place owned; the end of the parameters; the tokens; what was asked]
    put_together Heap heap.the_row_laws ! p a h $ move ! (0 ∷ 1 ∷ []) $ fjoin ! $
    use0 𝓛 (raw (fact 𝓤 (made.value ≡ v.value)))
    (fact_i 𝓤 (made.value ≡ v.value) (emp 𝓤) refl) $ nothing ! $ nothing ! $ fjoin ! $
    returns ! (look_at ! 0 refl) $ free_all ! refl $ keep ! (4 ∷ 0 ∷ 2 ∷ 1 ∷ []) $
    by ! (leaves 𝓛 ended stayed c z w made (tt, tt) (tt, tt)))))
