use Rattle.std.proofs.Common.{◌≡◌, ℕ, ◌||◌, not, Bool, refl, sym, ap, ◌∙◌}
use Rattle.stun_grammar.specs.ScannedOrder.{has}
use Rattle.stun_grammar.proofs.ShownOrderLemmas.{is_ending-ordinary}
use Rattle.stun_types.proofs.EndingsLemmas.{has_same, has_now, ending_admitted, ordinary_admitted}
use Rattle.stun_types.proofs.reading.endings.Seen.admits.Goals as goal

apart : (k a b : ℕ) → k ≡ a → (a ≡ b → ⊥) → k ≡ b → ⊥
apart k a b e differs f = differs (sym e ∙ f)

pub returns-then-atype-eq-MESSAGE_INTEGRITY : goal.returns-then-atype-eq-MESSAGE_INTEGRITY
returns-then-atype-eq-MESSAGE_INTEGRITY c = λ types tracks fits.
    let is = c.if-atype-eq-MESSAGE_INTEGRITY.true in
    let seen = tracks.integrity ∙ ap (λ (k : ℕ). has k types) (sym is) in (
      ending_admitted c.args.atype types c.args.self.now.integrity fits (rw is refl) seen,
      record {
        integrity = has_now 0x0008 c.args.atype types is refl;
        sha256 = has_same 0x001C c.args.atype types _ tracks.sha256 (apart _ 0x0008 0x001C is (λ e. absurd cc));
        fingerprint = has_same 0x8028 c.args.atype types _ tracks.fingerprint (apart _ 0x0008 0x8028 is (λ e. absurd cc));
      },
    )

pub returns-then-atype-eq-MESSAGE_INTEGRITY_SHA256 : goal.returns-then-atype-eq-MESSAGE_INTEGRITY_SHA256
returns-then-atype-eq-MESSAGE_INTEGRITY_SHA256 c = λ types tracks fits.
    let is = c.if-atype-eq-MESSAGE_INTEGRITY_SHA256.true in
    let seen = tracks.sha256 ∙ ap (λ (k : ℕ). has k types) (sym is) in (
      ending_admitted c.args.atype types c.args.self.now.sha256 fits (rw is refl) seen,
      record {
        integrity = has_same 0x0008 c.args.atype types _ tracks.integrity (apart _ 0x001C 0x0008 is (λ e. absurd cc));
        sha256 = has_now 0x001C c.args.atype types is refl;
        fingerprint = has_same 0x8028 c.args.atype types _ tracks.fingerprint (apart _ 0x001C 0x8028 is (λ e. absurd cc));
      },
    )

pub returns-then-atype-eq-FINGERPRINT : goal.returns-then-atype-eq-FINGERPRINT
returns-then-atype-eq-FINGERPRINT c = λ types tracks fits.
    let is = c.if-atype-eq-FINGERPRINT.true in
    let seen = tracks.fingerprint ∙ ap (λ (k : ℕ). has k types) (sym is) in (
      ending_admitted c.args.atype types c.args.self.now.fingerprint fits (rw is refl) seen,
      record {
        integrity = has_same 0x0008 c.args.atype types _ tracks.integrity (apart _ 0x8028 0x0008 is (λ e. absurd cc));
        sha256 = has_same 0x001C c.args.atype types _ tracks.sha256 (apart _ 0x8028 0x001C is (λ e. absurd cc));
        fingerprint = has_now 0x8028 c.args.atype types is refl;
      },
    )

pub returns-else-atype-eq-FINGERPRINT : goal.returns-else-atype-eq-FINGERPRINT
returns-else-atype-eq-FINGERPRINT c = λ types tracks fits.
    let a = c.if-atype-eq-MESSAGE_INTEGRITY.false in
    let b = c.if-atype-eq-MESSAGE_INTEGRITY_SHA256.false in
    let d = c.if-atype-eq-FINGERPRINT.false in
    let none = c.is_empty.ensures
    ∙ ap (λ (t : Bool). not (t || (c.args.self.now.sha256 || c.args.self.now.fingerprint))) tracks.integrity
    ∙ ap (λ (t : Bool). not (has 0x0008 types || (t || c.args.self.now.fingerprint))) tracks.sha256
    ∙ ap (λ (t : Bool). not (has 0x0008 types || (has 0x001C types || t))) tracks.fingerprint in (
      none ∙ ordinary_admitted c.args.atype types fits (is_ending-ordinary c.args.atype a b d),
      record {
        integrity = has_same 0x0008 c.args.atype types _ tracks.integrity a;
        sha256 = has_same 0x001C c.args.atype types _ tracks.sha256 b;
        fingerprint = has_same 0x8028 c.args.atype types _ tracks.fingerprint d;
      },
    )
