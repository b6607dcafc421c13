use Rattle.std.proofs.Common.{[], ◌∷◌, refl}
use Rattle.stun_grammar.specs.AttributeTypes.{USERNAME, MESSAGE_INTEGRITY, MESSAGE_INTEGRITY_SHA256, FINGERPRINT}
use Rattle.standard_vectors.proofs.Computing.{validating}
use Rattle.standard_vectors.proofs.scanned_orders_are_right.Goals as goal

pub returns-clause-any : goal.returns-clause-any
unfolding validating
returns-clause-any c = record {
  ordinary = USERNAME ∷ [];
  endings = MESSAGE_INTEGRITY_SHA256 ∷ FINGERPRINT ∷ MESSAGE_INTEGRITY ∷ [];
  none_ends = (refl, tt);
  all_end = (refl, (refl, (refl, tt)));
  differ = refl;
  whole = refl;
}

pub returns-clause-ordinary : goal.returns-clause-ordinary
unfolding validating
returns-clause-ordinary c = refl

pub returns-clause-twice : goal.returns-clause-twice
unfolding validating
returns-clause-twice c = refl

pub returns-clause-last : goal.returns-clause-last
unfolding validating
returns-clause-last c = refl

pub returns-clause-first : goal.returns-clause-first
unfolding validating
returns-clause-first c = refl

pub returns-clause-after_ordinary : goal.returns-clause-after_ordinary
unfolding validating
returns-clause-after_ordinary c = refl

pub returns-clause-second : goal.returns-clause-second
unfolding validating
returns-clause-second c = refl

pub returns-clause-cut : goal.returns-clause-cut
unfolding validating
returns-clause-cut c = refl
