use Rattle.std.proofs.Common.{eqb, sym, ◌∙◌}
use Rattle.std.proofs.lemmas.Bool.{eq-eqb, ne_eqb, cond-true, cond-false}
use Rattle.stun_types.proofs.IntegrityScanLemmas.{met, met_broken}
use Rattle.stun_types.proofs.reading.offsets.IntegrityOffsets.scan.Goals as goal

pub returns-then-not-follows : goal.returns-then-not-follows
returns-then-not-follows c = λ taken a keeps type-is offset-is.
    met_broken c.args.self.now c.args.last c.args.atype taken a keeps type-is (sym c.follows.ensures ∙ c.if-not-follows.true)

pub returns-then-atype-eq-MESSAGE_INTEGRITY : goal.returns-then-atype-eq-MESSAGE_INTEGRITY
returns-then-atype-eq-MESSAGE_INTEGRITY c = λ taken a keeps type-is offset-is.
    let is = c.if-atype-eq-MESSAGE_INTEGRITY.true in
    met c.args.self.now _ c.args.last c.args.atype c.args.offset taken a keeps type-is offset-is (sym c.follows.ensures ∙ c.if-not-follows.false)
    (sym (cond-true (eqb c.args.atype 0x0008) _ _ (eq-eqb _ _ is)))
    (sym (cond-false (eqb c.args.atype 0x001C) _ _ (ne_eqb _ _ (λ e. absurd (cc (is, e))))))

pub returns-then-atype-eq-MESSAGE_INTEGRITY_SHA256 : goal.returns-then-atype-eq-MESSAGE_INTEGRITY_SHA256
returns-then-atype-eq-MESSAGE_INTEGRITY_SHA256 c = λ taken a keeps type-is offset-is.
    met c.args.self.now _ c.args.last c.args.atype c.args.offset taken a keeps type-is offset-is (sym c.follows.ensures ∙ c.if-not-follows.false)
    (sym (cond-false (eqb c.args.atype 0x0008) _ _ (ne_eqb _ _ c.if-atype-eq-MESSAGE_INTEGRITY.false)))
    (sym (cond-true (eqb c.args.atype 0x001C) _ _ (eq-eqb _ _ c.if-atype-eq-MESSAGE_INTEGRITY_SHA256.true)))

pub returns-else-atype-eq-MESSAGE_INTEGRITY_SHA256 : goal.returns-else-atype-eq-MESSAGE_INTEGRITY_SHA256
returns-else-atype-eq-MESSAGE_INTEGRITY_SHA256 c = λ taken a keeps type-is offset-is.
    met c.args.self.now _ c.args.last c.args.atype c.args.offset taken a keeps type-is offset-is (sym c.follows.ensures ∙ c.if-not-follows.false)
    (sym (cond-false (eqb c.args.atype 0x0008) _ _ (ne_eqb _ _ c.if-atype-eq-MESSAGE_INTEGRITY.false)))
    (sym (cond-false (eqb c.args.atype 0x001C) _ _ (ne_eqb _ _ c.if-atype-eq-MESSAGE_INTEGRITY_SHA256.false)))
