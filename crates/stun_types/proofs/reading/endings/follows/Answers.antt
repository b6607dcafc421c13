use Rattle.std.proofs.Common.{◌≡◌, ℕ, [], ◌∷◌, eqb, ◌||◌, Bool, sym, ap, ◌∙◌}
use Rattle.std.proofs.lemmas.Bool.{eq-eqb, ne_eqb, or_left}
use Rattle.stun_grammar.specs.ShownOrder.{in_order}
use Rattle.stun_grammar.proofs.ShownOrderLemmas.{pair-integrity, pair-sha256, pair-fingerprint, pair-ordinary}
use Rattle.stun_types.proofs.reading.endings.follows.Goals as goal

at : (l m k : ℕ) → l ≡ m → in_order (l ∷ (k ∷ [])) ≡ in_order (m ∷ (k ∷ []))
at l m k e = ap (λ (x : ℕ). in_order (x ∷ (k ∷ []))) e

pub returns-then-last-eq-FINGERPRINT : goal.returns-then-last-eq-FINGERPRINT
returns-then-last-eq-FINGERPRINT c = sym (at _ 0x8028 c.args.atype c.if-last-eq-FINGERPRINT.true ∙ pair-fingerprint c.args.atype)

pub returns-then-last-eq-MESSAGE_INTEGRITY_SHA256 : goal.returns-then-last-eq-MESSAGE_INTEGRITY_SHA256
returns-then-last-eq-MESSAGE_INTEGRITY_SHA256 c = sym (at _ 0x001C c.args.atype c.if-last-eq-MESSAGE_INTEGRITY_SHA256.true ∙ pair-sha256 c.args.atype)

pub returns-then-atype-eq-FINGERPRINT : goal.returns-then-atype-eq-FINGERPRINT
returns-then-atype-eq-FINGERPRINT c =
    let both : (eqb c.args.atype 0x8028 || eqb c.args.atype 0x001C) ≡ eqb c.args.atype 0x8028 = or_left _ _ (eq-eqb _ _ c.if-atype-eq-FINGERPRINT.true) ∙ sym (eq-eqb _ _ c.if-atype-eq-FINGERPRINT.true) in
    sym (at _ 0x0008 c.args.atype c.if-last-eq-MESSAGE_INTEGRITY.true ∙ pair-integrity c.args.atype ∙ both)

pub returns-else-atype-eq-FINGERPRINT : goal.returns-else-atype-eq-FINGERPRINT
returns-else-atype-eq-FINGERPRINT c =
    let one : (eqb c.args.atype 0x8028 || eqb c.args.atype 0x001C) ≡ eqb c.args.atype 0x001C = ap (λ (t : Bool). t || eqb c.args.atype 0x001C) (ne_eqb _ _ c.if-atype-eq-FINGERPRINT.false) in
    sym (at _ 0x0008 c.args.atype c.if-last-eq-MESSAGE_INTEGRITY.true ∙ pair-integrity c.args.atype ∙ one)

pub returns-else-last-eq-MESSAGE_INTEGRITY : goal.returns-else-last-eq-MESSAGE_INTEGRITY
returns-else-last-eq-MESSAGE_INTEGRITY c = sym (pair-ordinary c.args.last c.args.atype c.if-last-eq-MESSAGE_INTEGRITY.false c.if-last-eq-MESSAGE_INTEGRITY_SHA256.false c.if-last-eq-FINGERPRINT.false)
