-- What a shared key has can be copied. Assumes `Logic`.
use Rattle.std.proofs.Common.{[], ◌∷◌}
use seplogic.Ra.Ura.{Ura}
use base.Logic.{ent, sep, emp, id⊢}
use base.Share
use base.Fml.{Lft, Share, ftrue, fsep, flft}
use types.Logic.{Logic, sem}
use types.Kit.{‵, ◌⊛◌, ◌$◌, ◌∵◌, !, qed, move, use0, use1, split, fsplit, fjoin, fpick, fpack, done}
use denote.RattleType.{RattleType, RowLaws}
use denote.RawPtr.{Ptr}
use denote.SharingLaws.{contraction}
use denote.Struct.Lending.{lent_at, lent_at_shr_laws}
use Rattle.std.specs.Prelude.{Option, Some, None}
use Rattle.stun_types_c.specs.KeyMemory.{lasts, is_shared, shared_if_some}

module _ (R : RattleType) (L : RowLaws R) (p : Ptr) {M : Type 1} {𝓤 : Ura M} (𝓛 : Logic 𝓤) where
  shared_twice : (x : R.Denot) → ent 𝓤 (sem 𝓛 (is_shared R p x)) (sep 𝓤 (sem 𝓛 (is_shared R p x)) (sem 𝓛 (is_shared R p x)))
  shared_twice x =
      let Shared = λ (life : Lft). fsep (lent_at R p x life) (lasts life) in
      qed 𝓛 (‵ (is_shared R p x) ∷ []) ∵ fpick ! (λ life. fsplit ! $
      use1 𝓛 (‵ (lent_at R p x life) ⊛ ‵ (lent_at R p x life)) (contraction 𝓛 (lent_at R p x) (lent_at_shr_laws R L p x) life) $ split ! $
      move ! (2 ∷ []) $ fpick ! (λ s. use1 𝓛 (‵ (flft life (Share.left s)) ⊛ ‵ (flft life (Share.right s))) (𝓛.lfts.lft_split life s) $ split ! $
      fpack ! Share (λ q. flft life q) (Share.left s) $ move ! (2 ∷ 0 ∷ []) $ fjoin ! $ fpack ! Lft Shared life $
      move ! (1 ∷ []) $ fpack ! Share (λ q. flft life q) (Share.right s) $ move ! (2 ∷ 0 ∷ []) $ fjoin ! $ fpack ! Lft Shared life $ done !))

  pub if_some_twice : (x : Option R.Denot)
      → ent 𝓤 (sem 𝓛 (shared_if_some R p x)) (sep 𝓤 (sem 𝓛 (shared_if_some R p x)) (sem 𝓛 (shared_if_some R p x)))
  if_some_twice None = qed 𝓛 (‵ ftrue ∷ []) ∵ use0 𝓛 (‵ ftrue) (id⊢ 𝓤 (emp 𝓤)) $ done !
  if_some_twice (Some x) = shared_twice x
