-- `key` takes out of a `&` to the place that the key is shared, and for how long.
use Rattle.std.proofs.Common.{subst, ◌≡◌, ◌≢◌, ℕ, List, [], ◌∷◌, ◌++◌, refl, sym}
use seplogic.Ra.Ura.{Ura}
use mir.Raw.{raw as bare}
use mir.Syntax.{Ty, Body, ty_ptr, ty_struct, tcons, tnil, place as place_at, copy, assign, rv_opd, seq, return}
use mir.Val.{Val, vptr, vstruct, vcons, vnil, of_list}
use base.Logic.{SProp, ent, sep, id⊢, upd_i}
use base.Fml.{Lft, Share, Fml, ftrue, fsep, fseps, fwand, fupd, fdead, fat, flft, fbor}
use contract.BorrowLft.{meet_⊑_left}
use prog.Wp.{Env, WpFn}
use types.Logic.{Logic, sem}
use types.Kit.{‵, raw, ◌⊛◌, at_ret, ◌$◌, ◌∵◌, !, qed, move, keep, drop, split, join, fsplit, fsplit3, fjoin, fpick, fpack, feq_i, feq_l, suffices, assume, use1, use2, rewrite, done}
use types.Run.{stop, fld, addr, load, of_opd, first, blocks, exec, returns, enter}
use types.Part.{look_in, sub, whole}
use types.ByLocal.{alloc_all, pass_all, free_all, look_at, get, through, sets, sets_last, env}
use types.Tokens.{shr_bor-open, obor_alter, bor_fracture}
use contract.Monad.{fact}
use contract.Running.{tables}
use denote.Builtin.{RefOf}
use denote.Copied.{told_Cuts}
use denote.Exit.{yes}
use denote.Laws.{Is, Tells, Copy}
use denote.Memory.{part_of, part_at, shared_of, cell_raw, raw_all}
use denote.Moves.{moves_from}
use denote.Opens.{Cuts-Halves, unhide, hide}
use denote.RattleType.{RattleType, Valss, owns}
use denote.RawPtr.{Ptr, RawPtr, InBlock, block_of, count_of, at_block, ptr_val, rawptr_vals, rawptr_Tells, rawptr_copy}
use denote.Signature.{types_at, plain}
use denote.Steps.{nothing, heard}
use denote.SharingLaws.{contraction}
use denote.Struct.Lending.{lent_at, lent_at_shr_laws, in_block_says}
use denote.Struct.Owning.{shape}
use denote.Struct.Struct.{Struct, Struct-Tells, struct_copy, within}
use denote.Triple.Walked.{Stays, says, stay_dropped, walk_of, ends_at, Goes-dropped}
use Rattle.std.specs.Prelude.{Option, Some, None}
use Rattle.std.proofs.raw_atomic.Walks.{proved_at}
use Rattle.stun_keys.specs.contracts.keys.integrity_key.IntegrityKey.{the_row as Key}
use Rattle.stun_keys.proofs.keys.integrity_key.IntegrityKey.TheLaws.{the_row_laws as key_laws}
use Rattle.stun_types_c.specs.KeyMemory.{lasts, shared_if_some}
use Rattle.stun_types_c.specs.declared.shared_place.SharedPlace.{SharedPlace}
use Rattle.stun_types_c.specs.contracts.shared_place.SharedPlace as place
use Rattle.stun_types_c.specs.contracts.shared_place.SharedPlace.key.{ended, clauses}
use Rattle.stun_types_c.specs.contracts.shared_place.SharedPlace.key.Key.{name as own_name}
use Rattle.stun_types_c.proofs.TwoWords.{at_one_word, value_of}
use Rattle.stun_types_c.proofs.SharedLemmas.{if_some_twice}
use Rattle.stun_types_c.proofs.shared_place.SharedPlace.key.Statement.{statement}
use Rattle.stun_types_c.proofs.shared_place.SharedPlace.key.Code as code

abbrev Place : RattleType
Place = place.the_row

abbrev Words : RattleType
Words = Struct (shape place.the_type)

abbrev cell_type : Ty
cell_type = ty_struct place.the_type.name (tcons ty_ptr tnil)

-- the code after its block
abbrev rest : Body
rest = seq (assign (place_at 0 []) (rv_opd (copy (place_at 2 [])))) return

abbrev word : Ptr → Val
word p = vstruct (vcons (ptr_val p) vnil)

abbrev stayed : Stays ended.signature.params ended.kept
stayed = (stay_dropped (RefOf (0 ∷ []) tt (plain (λ _. Place)) (λ _. tt)) yes, tt)

tells : Tells Place (Is Place) (λ d. word d.at ∷ [])
tells d vs p = Struct-Tells (shape place.the_type) (rawptr_vals, tt) (rawptr_Tells, tt) (d.at, tt) vs p.0

module _ {M : Type 1} {𝓤 : Ura M} (𝓛 : Logic 𝓤) where
  open 𝓛 use {H, A}

  abbrev heap : SharedPlace → Fml
  heap d = shared_if_some Key d.at d.value

  copies : Copy 𝓛 Place
  copies = record {
    twice = λ d vs. qed 𝓛 (‵ (Place.own_val d vs) ∷ []) ∵ fsplit ! $
        use1 𝓛 (‵ (Words.own_val (d.at, tt) vs) ⊛ ‵ (Words.own_val (d.at, tt) vs))
        ((struct_copy 𝓛 (shape place.the_type) (rawptr_copy 𝓛, tt)).twice (d.at, tt) vs) $ split ! $ move ! (2 ∷ []) $
        use1 𝓛 (‵ (heap d) ⊛ ‵ (heap d)) (if_some_twice Key key_laws.shr_laws d.at 𝓛 d.value) $ split ! $
        move ! (3 ∷ 1 ∷ []) $ fjoin ! $ move ! (2 ∷ 1 ∷ []) $ fjoin ! $ done !;
  }

  module _ (κ : Lft) (d : SharedPlace) (b o : ℕ) where
    abbrev Φ : Share → Fml
    Φ = λ q. part_at Place q d b o

    -- what is left in the place while the token is out gives the place back once the token is back
    again : (x : Key.Denot) → d.value ≡ Some x → (s e : Share) (life : Lft)
        → ent 𝓤 (sep 𝓤 (sem 𝓛 (fat s cell_type b o (word d.at))) (sem 𝓛 (lent_at Key d.at x life)))
        (sem 𝓛 (fwand (fsep (fdead κ) (fseps (flft life e ∷ []))) (fupd (Φ s))))
    unfolding fseps part_of
    again x is s e life = qed 𝓛 (‵ (fat s cell_type b o (word d.at)) ∷ ‵ (lent_at Key d.at x life) ∷ []) ∵
        assume ! (‵ (fsep (fdead κ) (fsep (flft life e) ftrue))) $ suffices ! (sem 𝓛 (Φ s)) (upd_i 𝓤 (sem 𝓛 (Φ s))) $
        fsplit3 ! $ keep ! (1 ∷ 3 ∷ 4 ∷ []) $
        fpack ! Share (λ r. flft life r) e $ move ! (2 ∷ 0 ∷ []) $ fjoin ! $
        fpack ! Lft (λ life. fsep (lent_at Key d.at x life) (lasts life)) life $
        rewrite ! 0 (λ (v : Option Key.Denot). ‵ (shared_if_some Key d.at v)) (sym is) refl $
        nothing ! $ feq_i ! (List Val) (ptr_val d.at ∷ []) (ptr_val d.at ∷ []) refl $ fjoin ! $
        feq_i ! (List Val) (word d.at ∷ []) (word d.at ∷ []) refl $ fjoin ! $
        fpack ! (Valss (RawPtr ∷ [])) (within (shape place.the_type) (d.at, tt) (word d.at ∷ [])) (ptr_val d.at ∷ [], tt) $
        fjoin ! $ move ! (1 ∷ []) $
        use1 𝓛 (‵ (fat s (bare cell_type) b o (word d.at))) (𝓛.laws.at_raw s cell_type b o (word d.at)) $ fjoin ! $
        fpack ! (List Val) (λ vs. fsep (cell_raw s (raw_all Place.mir) vs b o) (Place.own_val d vs)) (word d.at ∷ []) $ done !

pub key_spec : {M : Type 1} → statement M
unfolding part_of fseps
key_spec 𝓤 𝓛 𝓜 𝓡 wired =
    let H = 𝓛.H in
    let 𝓣 = tables 𝓤 H 𝓜 𝓡 𝓡.env in
    let c = clauses 𝓛 𝓜.mem 𝓡.returns in
    let fn = code.function in
    proved_at 𝓛 ended stayed c 𝓜 𝓡 (Goes-dropped 𝓛 1 (RefOf (0 ∷ []) tt (plain (λ _. Place)) (λ _. tt)) yes (λ κs x f. refl), tt)
    own_name fn (code.unfolded 𝓤 H 𝓜 𝓡 wired) (λ z are.
    let κ = z.0.0.0 in
    let q = z.0.1.0 in
    let d = z.0.3.0.now in
    let b = z.0.3.0.ref_ptr.0 in
    let o = z.0.3.0.ref_ptr.1 in
    let Post : Val → SProp 𝓤 = (walk_of 𝓛 ended stayed c).post z in
    let Run : List Val → SProp 𝓤 = λ ws. WpFn 𝓤 H 𝓣.C 𝓣.Λ fn ws Post in
    let p = d.at in
    let pb = block_of p in
    let po = count_of p in
    let halves = Cuts-Halves 𝓛 (Φ 𝓛 κ d b o) (told_Cuts 𝓛 Place (λ d. word d.at ∷ []) tells (copies 𝓛) d b o) in
    qed 𝓛 (((‵ (flft κ q) ⊛ ‵ ftrue) ⊛ ‵ (owns (types_at ended.signature.params z.0.0) z.0.3 z.0.4)) ∷ raw (fact 𝓤 (d.value ≢ None)) ∷ []) ∵
    move ! (1 ∷ []) $ heard ! (d.value ≢ None) (λ holds.
    let key = value_of d.value holds in
    let x = key.0 in
    split ! $ split ! $ move ! (2 ∷ []) $ fsplit ! $ fsplit ! $ keep ! (1 ∷ 3 ∷ 4 ∷ []) $ unhide ! $
    suffices ! (Run (vptr b o ∷ [])) (at_one_word 𝓤 Run are.0.0) $
    enter ! 𝓣.C 𝓣.Λ fn (vptr b o ∷ []) Post $ alloc_all ! (λ l. pass_all ! refl ((tt, tt), tt) $
    let En : Env 𝓤 H = env fn.locals l in
    shr_bor-open ! tt halves (λ s.
    -- [the open borrow; the place; no more tokens; the locals]
    move ! (1 ∷ []) $ fpick ! (λ vs. fsplit ! $ move ! (1 ∷ []) $ fsplit ! $
    fpick ! (λ vss. fsplit ! $ feq_l ! (λ ev. fsplit ! $ feq_l ! (λ e₁. drop ! $
    let stored : vs ≡ word p ∷ [] = subst (λ (ws : List Val). vs ≡ vstruct (of_list (ws ++ [])) ∷ []) e₁ ev in
    rewrite ! 1 (λ (us : List Val). ‵ (cell_raw s (raw_all Place.mir) us b o)) stored refl $
    rewrite ! 0 (λ (v : Option Key.Denot). ‵ (shared_if_some Key p v)) key.1 refl $
    fpick ! (λ life. fsplit ! $
    use1 𝓛 (‵ (lent_at Key p x life) ⊛ ‵ (lent_at Key p x life))
    (contraction 𝓛 (lent_at Key p x) (lent_at_shr_laws Key key_laws.shr_laws p x) life) $ split ! $
    fsplit ! $ use1 𝓛 (raw (fact 𝓤 (InBlock p))) (in_block_says 𝓛 p) $ heard ! (InBlock p) (λ inb.
    move ! (2 ∷ []) $ fpick ! (λ e. move ! (3 ∷ []) $
    use1 𝓛 (‵ (fat s cell_type b o (word p))) (𝓛.laws.raw_at s cell_type b o (word p)) $
    rewrite ! 0 (λ (r : Ptr). ‵ (fat s cell_type b o (word r))) (at_block p inb) refl $
    -- [the pointer in the place; the token; a `&` to the key; the same again; the open borrow; ..]
    first ! $ blocks ! $
    sets ! (of_opd ! (load ! (through ! refl (fld ! refl (stop !))) (look_in ! 0 (sub ! 0 refl (whole !))))) refl (tt, tt) $
    sets ! (of_opd ! (get ! refl)) refl (tt, tt) $
    sets_last ! (addr ! (through ! refl (stop !))) refl (tt, tt) $ exec ! 𝓣.C 𝓣.Λ En rest (at_ret En Post) $
    sets ! (of_opd ! (get ! refl)) refl (tt, tt) $
    rewrite ! 0 (λ (r : Ptr). ‵ (fat s cell_type b o (word r))) (sym (at_block p inb)) refl $
    move ! (0 ∷ 3 ∷ []) $
    use2 𝓛 (‵ (fwand (fsep (fdead κ) (fseps (flft life e ∷ []))) (fupd (Φ 𝓛 κ d b o s)))) (again 𝓛 κ d b o x key.1 s e life) $
    -- [the way back; the token; a `&` to the key; the open borrow; ..]
    nothing ! $ move ! (2 ∷ 0 ∷ []) $ fjoin ! $ move ! (3 ∷ 0 ∷ 1 ∷ []) $ obor_alter ! tt (flft life e ∷ []) $
    use1 𝓛 (‵ (fbor κ (flft life e)) ⊛ ‵ ftrue) (id⊢ 𝓤 _) $ split ! $ bor_fracture ! tt (λ r. flft life r) e $
    move ! (0 ∷ 3 ∷ []) $
    use2 𝓛 (‵ (shared_of Key x pb po κ)) (moves_from 𝓛 (shared_of Key x pb po) (key_laws.shr_laws x pb po) κ life life (meet_⊑_left life κ)) $ hide ! $
    feq_i ! (List Val) (vptr pb po ∷ []) (vptr pb po ∷ []) refl $ fjoin ! $
    -- [the result; nothing; the token; no more tokens; ..]
    returns ! (look_at ! 0 refl) $ free_all ! refl $ keep ! (0 ∷ 2 ∷ 3 ∷ []) $
    suffices ! _ (ends_at 𝓛 ended stayed c z (vptr pb po) (record { ref_ptr = (pb, po); now = x }) (tt, tt) (tt, tt)) $
    says ! (sym key.1) $ nothing ! $ nothing ! $ fjoin ! $ join ! $ move ! (1 ∷ 2 ∷ []) $ join ! $ join ! $ done !)))))))))))
