-- The types of attributes, and which of them a step may not follow.
use Rattle.std.proofs.Common.{◌≡◌, ℕ, Bool, false, eqb, ◌||◌, List, [], ◌∷◌, ◌++◌, Option, Some, None, refl, sym, ap, ◌∙◌}
use Rattle.std.specs.Prelude.{find}
use Rattle.std.specs.List.{list_any}
use Rattle.std.specs.Option.{option_or}
use Rattle.std.proofs.lemmas.Bool.{or_parts, or_from, cond-false, eq-eqb, ne_eqb}
use Rattle.std.proofs.lemmas.List.Folds.{list_any-append, find-append}
use Rattle.stun_grammar.specs.declared.integrity_algorithm.IntegrityAlgorithm.{IntegrityAlgorithm}
use Rattle.stun_grammar.specs.declared.integrity_algorithm.IntegrityAlgorithm.TheVariants.{Sha1, Sha256}
use Rattle.stun_grammar.specs.Adding.{first_of}
use Rattle.stun_grammar.specs.AttributeTypes.{MESSAGE_INTEGRITY, MESSAGE_INTEGRITY_SHA256, FINGERPRINT, is_ending, IsOrdinary}
use Rattle.stun_grammar.specs.ScannedOrder.{has}
use Rattle.stun_grammar.specs.Steps.{Step, add, sign, finger, barring_types, sign_given, signing_bars}

none_found : (p : ℕ → Bool) (xs : List ℕ) → list_any p xs ≡ false → find p xs ≡ None
none_found p [] e = refl
none_found p (x ∷ xs) e =
    let parts = or_parts (p x) (list_any p xs) e in
    cond-false (p x) (Some x) (find p xs) parts.0 ∙ none_found p xs parts.1

pub weaker : (p q : ℕ → Bool) (xs : List ℕ) → ((x : ℕ) → p x ≡ false → q x ≡ false) → list_any p xs ≡ false → list_any q xs ≡ false
weaker p q [] h e = refl
weaker p q (x ∷ xs) h e =
    let parts = or_parts (p x) (list_any p xs) e in
    or_from (q x) (list_any q xs) (h x parts.0) (weaker p q xs h parts.1)

flip : (a t : ℕ) → eqb t a ≡ false → eqb a t ≡ false
flip a t e = ne_eqb a t (λ is. absurd (cc (e, eq-eqb t a (sym is))))

record NoEnding (t : ℕ) : Type 0 where
  integrity : eqb t MESSAGE_INTEGRITY ≡ false
  sha256 : eqb t MESSAGE_INTEGRITY_SHA256 ≡ false
  print : eqb t FINGERPRINT ≡ false

no_ending : (t : ℕ) → is_ending t ≡ false → NoEnding t
no_ending t e =
    let p = or_parts (eqb t MESSAGE_INTEGRITY) (eqb t MESSAGE_INTEGRITY_SHA256 || eqb t FINGERPRINT) e in
    let q = or_parts (eqb t MESSAGE_INTEGRITY_SHA256) (eqb t FINGERPRINT) p.1 in
    record { integrity = p.0; sha256 = q.0; print = q.1 }

pub ordinary_of : (t : ℕ) → is_ending t ≡ false → IsOrdinary t
ordinary_of t e =
    let clear = no_ending t e in
    (λ is. absurd (cc (clear.integrity, eq-eqb t MESSAGE_INTEGRITY is)), λ is. absurd (cc (clear.sha256, eq-eqb t MESSAGE_INTEGRITY_SHA256 is)), λ is. absurd (cc (clear.print, eq-eqb t FINGERPRINT is)))

no_print : (t : ℕ) → NoEnding t → has t (FINGERPRINT ∷ []) ≡ false
no_print t clear = or_from (eqb FINGERPRINT t) false (flip FINGERPRINT t clear.print) refl

no_sha256 : (t : ℕ) → NoEnding t → has t (MESSAGE_INTEGRITY_SHA256 ∷ (FINGERPRINT ∷ [])) ≡ false
no_sha256 t clear = or_from (eqb MESSAGE_INTEGRITY_SHA256 t) (has t (FINGERPRINT ∷ [])) (flip MESSAGE_INTEGRITY_SHA256 t clear.sha256) (no_print t clear)

no_integrity : (t : ℕ) → NoEnding t → has t (MESSAGE_INTEGRITY ∷ (MESSAGE_INTEGRITY_SHA256 ∷ (FINGERPRINT ∷ []))) ≡ false
no_integrity t clear = or_from (eqb MESSAGE_INTEGRITY t) (has t (MESSAGE_INTEGRITY_SHA256 ∷ (FINGERPRINT ∷ []))) (flip MESSAGE_INTEGRITY t clear.integrity) (no_sha256 t clear)

signing_none : (algorithm : IntegrityAlgorithm) (t : ℕ) → NoEnding t → has t (signing_bars algorithm) ≡ false
signing_none Sha1 t clear = no_integrity t clear
signing_none Sha256 t clear = no_sha256 t clear

barred_none : (step : Step) (t : ℕ) → is_ending t ≡ false → has t (barring_types step) ≡ false
barred_none (add type value) t e = no_integrity t (no_ending t e)
barred_none (sign algorithm key) t e = signing_none algorithm t (no_ending t e)
barred_none (sign_given algorithm hmac) t e = signing_none algorithm t (no_ending t e)
barred_none finger t e = no_print t (no_ending t e)

-- ordinary attributes bar no step
pub free : (step : Step) (ts : List ℕ) → list_any is_ending ts ≡ false → first_of (barring_types step) ts ≡ None
free step ts none = none_found (λ t. has t (barring_types step)) ts (weaker is_ending (λ t. has t (barring_types step)) ts (barred_none step) none)

pub free_append : (bars xs ys : List ℕ) → first_of bars xs ≡ None → first_of bars ys ≡ None → first_of bars (xs ++ ys) ≡ None
free_append bars xs ys one two = find-append (λ t. has t bars) xs ys ∙ ap (λ (o : Option ℕ). option_or o (find (λ t. has t bars) ys)) one ∙ two

-- an ordinary type is no ending one
pub ending_none : (t : ℕ) → IsOrdinary t → is_ending t ≡ false
ending_none t ordinary = rw (ne_eqb t MESSAGE_INTEGRITY ordinary.0, ne_eqb t MESSAGE_INTEGRITY_SHA256 ordinary.1, ne_eqb t FINGERPRINT ordinary.2) refl

-- one ordinary attribute more
pub unended_more : (t : ℕ) (ts : List ℕ) → is_ending t ≡ false → list_any is_ending ts ≡ false → list_any is_ending (ts ++ t ∷ []) ≡ false
unended_more t ts clear none = list_any-append is_ending ts (t ∷ []) ∙ or_from (list_any is_ending ts) (list_any is_ending (t ∷ [])) none (or_from (is_ending t) false clear refl)
