-- What a response is for a transaction that waits for one.
use Rattle.std.proofs.Common.{◌≡◌, ℕ, Bool, true, false, List, [], Option, None, Some, refl, ap, ◌∙◌}
use Rattle.std.specs.Prelude.{not, ◌&&◌, is_some, if◌then◌else◌}
use Rattle.std.specs.Option.{option_map_or}
use Rattle.stun_grammar.specs.Headers.{type_field}
use Rattle.stun_grammar.specs.Parsing.{parse_fault}
use Rattle.stun_grammar.specs.AttributeTypes.{FINGERPRINT}
use Rattle.stun_types.specs.LookingUp.{nth}
use Rattle.stun_base.specs.MessageTypes.{method_of}
use Rattle.stun_types.specs.Replies.{responds_to, is_answer_to}
use Rattle.stun_transactions.specs.declared.parts.Mechanism.{Mechanism}
use Rattle.stun_transactions.specs.declared.received.Discard.{Discard}
use Rattle.stun_transactions.specs.declared.received.Discard.TheVariants.{NoFingerprint}
use Rattle.stun_transactions.specs.declared.received.Outcome.{Outcome}
use Rattle.stun_transactions.specs.declared.received.Outcome.TheVariants.{NotForThis}
use Rattle.stun_transactions.specs.Guards.{proof_of, guard_fault}
use Rattle.stun_transactions.specs.Outcomes.{is_open}
use Rattle.stun_transactions.specs.Receiving.{is_answer, content, claim_of, discarded}
use Rattle.stun_transactions.specs.Usages.{lacks_fingerprint}
use Rattle.stun_exchanges.specs.Learning.{IsReceivedAs}

reported_of : (ongoing parses answers : Bool) (kept : Option Discard) (out : Discard → Outcome) (taken reported : Outcome) → ongoing ≡ true → parses ≡ true → answers ≡ true → kept ≡ None → taken ≡ reported
    → (if ongoing && parses then (if answers then option_map_or out kept taken else NotForThis) else NotForThis) ≡ reported
reported_of true true true None out taken reported o p a k same = same
reported_of true true true (Some reason) out taken reported o p a k same = absurd cc
reported_of true true false kept out taken reported o p a k same = absurd cc
reported_of true false answers kept out taken reported o p a k same = absurd cc
reported_of false parses answers kept out taken reported o p a k same = absurd cc

-- if the usage sends FINGERPRINT, d shows one if r does
not_lacking : (used in_r in_d : Bool) → (used && not in_r) ≡ false → (in_r ≡ true → in_d ≡ true) → (used && not in_d) ≡ false
not_lacking false in_r in_d e same = refl
not_lacking true true in_d e same = rw (same refl) refl
not_lacking true false in_d e same = absurd cc

-- an unprotected transaction keeps nothing else out
unguarded : (lacks : Bool) → lacks ≡ false → (if lacks then Some NoFingerprint else None) ≡ None
unguarded false e = refl
unguarded true e = absurd cc

-- the transaction reports a message that answers the request by what the message has in it
pub received_as : (reported : Outcome) (r d : List ℕ) → parse_fault d ≡ None → is_answer_to r d ≡ true → (is_some (nth r FINGERPRINT 0) ≡ true → is_some (nth d FINGERPRINT 0) ≡ true) → content None [] d ≡ reported → IsReceivedAs reported r d
received_as reported r d parses answers printed has = record {
  parses = parses;
  answers = answers;
  received_is = λ parts awaits.
      reported_of (is_open parts.state) (not (is_some (parse_fault d))) (is_answer parts d) (guard_fault parts.mechanism None parts.usage parts.signed d) (discarded parts.plan.transport (claim_of d)) (content (proof_of parts.mechanism None parts.usage parts.signed d) [] d) reported
      awaits.ongoing
      (ap (λ (o : Option _). not (is_some o)) parses)
      (ap (λ (m : ℕ). responds_to m parts.id d) awaits.method_is ∙ ap (λ (i : ℕ). responds_to (method_of (type_field r)) i d) awaits.id_is ∙ answers)
      (ap (λ (m : Option Mechanism). guard_fault m None parts.usage parts.signed d) awaits.unprotected
      ∙ unguarded (lacks_fingerprint parts.usage d) (not_lacking parts.usage.fingerprint (is_some (nth r FINGERPRINT 0)) (is_some (nth d FINGERPRINT 0)) awaits.fingerprint printed))
      (ap (λ (m : Option Mechanism). content (proof_of m None parts.usage parts.signed d) [] d) awaits.unprotected ∙ has);
}
