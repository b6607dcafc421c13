-- `into_box` makes the box again of the address and the allocator.
use Rattle.std.proofs.Common.{◌≡◌, ◌≢◌, List, [], ◌∷◌, refl, sym, ap, ◌∙◌, subst}
use lib.Dec.{T as True}
use mir.Syntax.{Args, Fn, a_type, dcons, dnil}
use mir.Raw.{raw as bare}
use mir.Val.{Val, vptr, has_ty, WT}
use mir.MapTy.{inst_fn}
use base.Logic.{SProp, emp, never, id⊢, fst∗}
use base.Fml.{ftrue, flft}
use prog.Wp.{WpFn}
use types.Logic.{sem}
use types.Kit.{‵, raw, ◌⊛◌, some, later, at_ret, ◌$◌, ◌∵◌, !, qed, by, move, keep, drop, split, split3, join, fsplit, fjoin, feq_i, pick, suffices, use0, use1, await, rewrite}
use types.Run.{stop, fld, of_opd, no_more, and_then, first, blocks, exec, returns, enter}
use types.ByLocal.{alloc_all, pass_all, free_all, look_at, get, get_in, sets, lands_last, env}
use types.Part.{sub, whole}
use contract.BorrowLft.{◌⊑◌}
use contract.Monad.{fact, fact_i}
use contract.Running.{tables}
use denote.Exit.{no}
use denote.RattleType.{RattleType, owns}
use denote.Signature.{types_at, plain}
use denote.RawPtr.{Ptr, block_ptr, null_ptr, ptr_val, in_a_block}
use denote.Steps.{nothing, only, heard}
use denote.Param.{layout, bounded}
use denote.Param.Laws.{param_laws}
use denote.Triple.Clauses.{Lasts, lasts}
use denote.Triple.Spec.{triple_of}
use denote.Triple.Call.{calls_at_last}
use denote.Triple.Table.{framed}
use denote.Triple.Walked.{Stays, stay_dropped, walk_of}
use Rattle.std.proofs.alloc.Calls.{Goes-blank}
use Rattle.std.proofs.alloc.Shapes.{after}
use Rattle.std.proofs.raw_atomic.Walks.{proved_at, leaves}
use Rattle.std.proofs.BoxSteps.Form as box
use Rattle.std.proofs.BoxSteps.Steps.{box_out, box_in}
use Rattle.std.specs.Prelude.{Option, Some, None}
use Rattle.std.specs.Box.Ownership.{box_owns}
use Rattle.std.specs.contracts.boxed.Box.from_raw as callee
use Rattle.std.proofs.boxed.Box.from_raw.Met.{met}
use Rattle.stun_types_c.specs.KeyMemory.{owns_if_some}
use Rattle.stun_types_c.proofs.TwoWords.{at_one_word, two, two_typed, taken_apart, value_of}
use Rattle.stun_types_c.specs.contracts.place.Place as place
use Rattle.stun_types_c.specs.contracts.place.Place.into_box.{ended, clauses}
use Rattle.stun_types_c.specs.contracts.place.Place.into_box.Key.{name as own_name}
use Rattle.stun_types_c.proofs.place.Place.into_box.Statement.{statement}
use Rattle.stun_types_c.proofs.place.Place.into_box.Code as code

pub into_box_spec : {M : Type 1} → statement M
into_box_spec 𝓤 𝓛 𝓜 𝓡 wired T A L LA g d dT dA allocates drops_T drops_A =
    let E : box.Bx = record {
      row = T;
      laws = L;
      al = record {
        row = A;
        laws = LA;
        g = g;
        d = d;
        drops = dA;
      };
    } in
    let R : RattleType = box.R E in
    let Z : RattleType = box.P E in
    let LZ = param_laws 1 A LA in
    let B : RattleType = box.B E in
    let Place : RattleType = place.the_row R Z g in
    let H = 𝓛.H in
    let 𝓣 = tables 𝓤 H 𝓜 𝓡 𝓡.env in
    let En = ended T A g d dT dA in
    let c = clauses T A g d dT dA 𝓛 𝓜.mem 𝓡.returns in
    let at : Args = bounded (a_type ∷ a_type ∷ []) (T, (A, tt)) (dcons d (dcons dT (dcons dA dnil))) in
    let fn : Fn = inst_fn at code.function in
    let hs : Stays En.signature.params En.kept = (stay_dropped (plain (λ _. Place)) no, tt) in
    let k = triple_of 𝓛 (callee.signature T A g d dA) (callee.spec T A g d dA 𝓛 𝓜.mem 𝓡.returns) in
    let known = met 𝓤 𝓛 𝓜 𝓡 (code.calls-std_alloc::boxed::Box::from_raw 𝓡.env wired)
    T A L LA g d dA allocates drops_A in
    proved_at 𝓛 En hs c 𝓜 𝓡 (Goes-blank 𝓛 2 (plain (λ _. Place)) no (λ κs x f. tt), tt)
    (own_name at) fn (code.unfolded 𝓤 H 𝓜 𝓡 wired (T, (A, tt)) d dT dA) (λ z are.
    let κs = z.0.0 in
    let qs = z.0.1 in
    let v = z.0.3.0 in
    let a = v.alloc in
    let Post : Val → SProp 𝓤 = (walk_of 𝓛 En hs c).post z in
    let Run : List Val → SProp 𝓤 = λ ws. WpFn 𝓤 H 𝓣.C 𝓣.Λ fn ws Post in
    let tokens = ‵ (flft κs.0 qs.0) ⊛ ‵ (flft κs.1.0 qs.1.0) ⊛ ‵ ftrue in
    let asked = raw ((c κs z.0.3).requires z.1) in
    qed 𝓛 ((tokens ⊛ ‵ (owns (types_at En.signature.params κs) z.0.3 z.0.4)) ∷ asked ∷ []) ∵
    move ! (1 ∷ []) $ use1 𝓛 (raw (fact 𝓤 (κs.0 ⊑ T.lives)) ⊛ raw (fact 𝓤 (κs.1.0 ⊑ A.lives)) ⊛ raw (fact 𝓤 (v.value ≢ None)))
    (id⊢ 𝓤 _) $ split3 ! $ move ! (2 ∷ []) $ heard ! (v.value ≢ None) (λ holds.
    let value = value_of v.value holds in
    let x = value.0 in
    move ! (2 ∷ []) $ split ! $ move ! (1 ∷ []) $ fsplit ! $ fsplit ! $
    taken_apart Z LZ ! v.at a z.0.4.0 (λ h pair fits. move ! (1 ∷ []) $
    rewrite ! 0 (λ (s : Option R.Denot). ‵ (owns_if_some (g.dealloc_token a) R v.at s)) value.1 refl $
    in_a_block ! v.at (λ p. box_owns (g.dealloc_token a) R p x)
    (fst∗ 𝓤 (never 𝓤) (sem 𝓛 (g.dealloc_token a (bare (layout T)) null_ptr))) (λ b o at_b.
    -- [what the box owned; the handle; the end of the parameters; the tokens; T lasts; A lasts]
    let w : Val = two (vptr b o) h in
    let is : z.0.4.0 ≡ w ∷ [] = pair ∙ ap (λ (p : Ptr). two (ptr_val p) h ∷ []) at_b in
    let typed = two_typed Z (block_ptr b o) h fits in
    let y : k.Ghost = ((κs, qs, tt, (a, (block_ptr b o, tt)), (h ∷ [], (vptr b o ∷ [], tt))), x) in
    nothing ! $ move ! (5 ∷ 6 ∷ 0 ∷ []) $
    -- [T lasts; A lasts; nothing; what the box owned; the handle; the end of the parameters; the
    -- tokens]
    move ! (1 ∷ 3 ∷ []) $ join ! $ move ! (1 ∷ 0 ∷ []) $ join ! $
    move ! (3 ∷ []) $ feq_i ! (List Val) (vptr b o ∷ []) (vptr b o ∷ []) refl $ fjoin ! $
    move ! (3 ∷ 0 ∷ []) $ fjoin ! $
    move ! (3 ∷ 0 ∷ []) $ join ! $ join ! $ use1 𝓛 (raw (k.pre y)) (id⊢ 𝓤 _) $
    suffices ! (Run (w ∷ [])) (at_one_word 𝓤 Run is) $
    enter ! 𝓣.C 𝓣.Λ fn (w ∷ []) Post $ alloc_all ! (λ l. pass_all ! refl (typed, tt) $
    sets ! (of_opd ! (get_in ! (fld ! refl (stop !)) (sub ! 0 refl (whole !)))) refl (tt, tt) $
    sets ! (of_opd ! (get_in ! (fld ! refl (stop !)) (sub ! 1 refl (whole !)))) refl fits $
    first ! $ blocks ! $ sets ! (of_opd ! (get ! refl)) refl fits $
    calls_at_last ! (framed 𝓤 H 𝓜 𝓣) k known y (and_then ! (get ! refl) (and_then ! (get ! refl) (no_more !))) (λ u.
    use1 𝓛 (later (some (λ (r : B.Denot). (tokens ⊛ ‵ (B.own_val r (u ∷ [])))
    ⊛ some (λ (ls : Lasts (callee.ended T A g d dA) κs y.0.3). ‵ (lasts (callee.ended T A g d dA) κs y.0.3 ls)
    ⊛ (raw (fact 𝓤 (r.value ≡ x)) ⊛ raw (fact 𝓤 (r.alloc ≡ a))))))) (id⊢ 𝓤 _) $
    await ! tt $ pick ! (λ r. split ! $
    move ! (1 ∷ []) $ pick ! (λ _. split3 ! $ drop ! $ heard ! (r.value ≡ x) (λ same. drop ! $ split ! $ move ! (1 ∷ []) $
    box_out E ! r (u ∷ []) (λ b' o' h' at_b' whole fits'. box_in E ! r b' o' r.value at_b' refl $
    rewrite ! 0 (λ (us : List Val). ‵ (B.own_val r us)) (sym whole) refl $
    let typed' = subst (λ (x : Val). True (has_ty (layout B) x) × WT x) (sym (ap only whole))
    (box.box_typed E h' b' o' fits') in
    lands_last ! refl typed' $
    exec ! 𝓣.C 𝓣.Λ (env fn.locals l) (after 3 fn.body) (at_ret (env fn.locals l) Post) $
    sets ! (of_opd ! (get ! refl)) refl typed' $
    use0 𝓛 (raw (fact 𝓤 (Some r.value ≡ v.value)))
    (fact_i 𝓤 (Some r.value ≡ v.value) (emp 𝓤) (ap Some same ∙ sym value.1)) $ nothing ! $ nothing ! $ fjoin ! $
    returns ! (look_at ! 0 refl) $ free_all ! refl $
    keep ! (3 ∷ 0 ∷ 2 ∷ 1 ∷ []) $ by ! (leaves 𝓛 En hs c z u r ((tt, (tt, tt)), tt) (tt, tt))))))))))))
