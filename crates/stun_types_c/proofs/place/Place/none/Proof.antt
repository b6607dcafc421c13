-- `none` makes a place of nothing: it owns nothing, whatever its address.
use Rattle.std.proofs.Common.{◌≡◌, List, [], ◌∷◌, refl}
use mir.Syntax.{Args, Fn, a_type, dcons, dnil}
use mir.Val.{Val, vnull}
use mir.MapTy.{inst_fn}
use base.Logic.{SProp, emp}
use base.Fml.{ftrue, flft}
use prog.Wp.{WpFn}
use types.Kit.{‵, raw, ◌⊛◌, ◌$◌, ◌∵◌, !, qed, by, move, keep, split, fsplit, fjoin, suffices, use0}
use types.Run.{lit, of_opd, no_more, and_then, returns, enter}
use types.ByLocal.{alloc_all, pass_all, free_all, look_at, get, sets}
use types.Part.{agg}
use contract.Monad.{fact, fact_i}
use contract.Running.{tables}
use denote.Exit.{no}
use denote.RattleType.{RattleType, owns}
use denote.Signature.{types_at, plain}
use denote.RawPtr.{null_ptr}
use denote.Steps.{nothing}
use denote.Param.{bounded, param}
use denote.Param.Laws.{param_laws}
use denote.Triple.Walked.{Stays, stay_dropped, walk_of}
use Rattle.std.proofs.alloc.Calls.{Goes-blank}
use Rattle.std.proofs.raw_atomic.Walks.{proved_at, leaves}
use Rattle.std.specs.Prelude.{None}
use Rattle.stun_types_c.proofs.TwoWords.{at_one_word, two, two_typed, one_word, put_together}
use Rattle.stun_types_c.specs.declared.place.Place.{Place}
use Rattle.stun_types_c.specs.contracts.place.Place.none.{ended, clauses}
use Rattle.stun_types_c.specs.contracts.place.Place.none.Key.{name as own_name}
use Rattle.stun_types_c.proofs.place.Place.none.Statement.{statement}
use Rattle.stun_types_c.proofs.place.Place.none.Code as code

pub none_spec : {M : Type 1} → statement M
none_spec 𝓤 𝓛 𝓜 𝓡 wired T A L LA g d dT dA allocates drops_T drops_A =
    let R : RattleType = param 0 T in
    let Z : RattleType = param 1 A in
    let LZ = param_laws 1 A LA in
    let H = 𝓛.H in
    let 𝓣 = tables 𝓤 H 𝓜 𝓡 𝓡.env in
    let En = ended T A g d dT dA in
    let c = clauses T A g d dT dA 𝓛 𝓜.mem 𝓡.returns in
    let at : Args = bounded (a_type ∷ a_type ∷ []) (T, (A, tt)) (dcons d (dcons dT (dcons dA dnil))) in
    let fn : Fn = inst_fn at code.function in
    let hs : Stays En.signature.params En.kept = (stay_dropped (plain (λ _. Z)) no, tt) in
    proved_at 𝓛 En hs c 𝓜 𝓡 (Goes-blank 𝓛 2 (plain (λ _. Z)) no (λ κs x f. tt), tt)
    (own_name at) fn (code.unfolded 𝓤 H 𝓜 𝓡 wired (T, (A, tt)) d dT dA) (λ z are.
    let κs = z.0.0 in
    let qs = z.0.1 in
    let a = z.0.3.0 in
    let Post : Val → SProp 𝓤 = (walk_of 𝓛 En hs c).post z in
    let Run : List Val → SProp 𝓤 = λ ws. WpFn 𝓤 H 𝓣.C 𝓣.Λ fn ws Post in
    let tokens = ‵ (flft κs.0 qs.0) ⊛ ‵ (flft κs.1.0 qs.1.0) ⊛ ‵ ftrue in
    let asked = raw ((c κs z.0.3).requires z.1) in
    qed 𝓛 ((tokens ⊛ ‵ (owns (types_at En.signature.params κs) z.0.3 z.0.4)) ∷ asked ∷ []) ∵
    split ! $ move ! (1 ∷ []) $ fsplit ! $ one_word Z LZ ! a z.0.4.0 (λ h is fits.
    let made : Place R.Denot Z.Denot = record { at = null_ptr; alloc = a; value = None } in
    suffices ! (Run (h ∷ [])) (at_one_word 𝓤 Run is) $
    enter ! 𝓣.C 𝓣.Λ fn (h ∷ []) Post $ alloc_all ! (λ l. pass_all ! refl (fits, tt) $
    sets ! (of_opd ! (get ! refl)) refl fits $
    sets ! (agg ! (and_then ! (lit ! tt) (and_then ! (get ! refl) (no_more !)))) refl (two_typed Z null_ptr h fits) $
    put_together Z LZ ! null_ptr a h $ nothing ! $ move ! (1 ∷ 0 ∷ []) $ fjoin ! $
    use0 𝓛 (raw (fact 𝓤 (made.value ≡ None)))
    (fact_i 𝓤 (made.value ≡ None) (emp 𝓤) refl) $ nothing ! $ nothing ! $ fjoin ! $
    returns ! (look_at ! 0 refl) $ free_all ! refl $ keep ! (4 ∷ 0 ∷ 2 ∷ 1 ∷ []) $
    by ! (leaves 𝓛 En hs c z (two vnull h) made (tt, tt) (tt, tt)))))
