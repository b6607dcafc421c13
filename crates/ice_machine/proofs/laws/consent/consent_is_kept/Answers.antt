use Rattle.std.proofs.Common.{refl, inl, inr, ltb-true}
use Rattle.std.proofs.lemmas.Bool.{leb-true}
use Rattle.ice_machine.proofs.KeptLemmas.{is_kept}
use Rattle.ice_machine.proofs.laws.consent.consent_is_kept.Goals as goal

pub returns-clause-kept : goal.returns-clause-kept
returns-clause-kept c = is_kept

pub returns-clause-example : goal.returns-clause-example
returns-clause-example c = (
  inr (refl, inl (record { there = refl; valid = refl; ahead = leb-true _ _ refl; near = leb-true _ _ refl; lasting = leb-true _ _ refl }, tt)),
  ((((((((((((tt, leb-true _ _ refl, ltb-true _ _ refl, leb-true _ _ refl, (inl (leb-true _ _ refl), tt)), leb-true _ _ refl, ltb-true _ _ refl, leb-true _ _ refl, (inl (leb-true _ _ refl), tt)), leb-true _ _ refl, ltb-true _ _ refl, leb-true _ _ refl, (inl (leb-true _ _ refl), tt)), leb-true _ _ refl, ltb-true _ _ refl, leb-true _ _ refl, (inl (leb-true _ _ refl), leb-true _ _ refl)), leb-true _ _ refl, ltb-true _ _ refl, leb-true _ _ refl, (inl (leb-true _ _ refl), tt)), leb-true _ _ refl, ltb-true _ _ refl, leb-true _ _ refl, (inl (leb-true _ _ refl), tt)), leb-true _ _ refl, ltb-true _ _ refl, leb-true _ _ refl, (inr (leb-true _ _ refl), tt)), leb-true _ _ refl, ltb-true _ _ refl, leb-true _ _ refl, (inr (leb-true _ _ refl), leb-true _ _ refl)), leb-true _ _ refl, ltb-true _ _ refl, leb-true _ _ refl, (inr (leb-true _ _ refl), tt)), leb-true _ _ refl, ltb-true _ _ refl, leb-true _ _ refl, (inr (leb-true _ _ refl), tt)), leb-true _ _ refl, ltb-true _ _ refl, leb-true _ _ refl, (inr (leb-true _ _ refl), tt)), leb-true _ _ refl, ltb-true _ _ refl, leb-true _ _ refl, (inr (leb-true _ _ refl), leb-true _ _ refl)),
  (inr (leb-true _ _ refl), tt),
)
