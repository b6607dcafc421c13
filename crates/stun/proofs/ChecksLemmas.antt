-- What a transaction of the request reports.
use Rattle.std.proofs.Common.{◌≡◌, ℕ, Bool, true, false, List, [], Option, refl, ap, ◌∙◌}
use Rattle.std.specs.Prelude.{not, ◌&&◌, is_some, if◌then◌else◌}
use Rattle.std.specs.Option.{option_map_or}
use Rattle.stun_grammar.specs.Headers.{type_field, id_field}
use Rattle.stun_grammar.specs.Parsing.{parse_fault}
use Rattle.stun_base.specs.declared.transport.TransportType.{TransportType}
use Rattle.stun_base.specs.declared.transport.TransportType.TheVariants.{Udp}
use Rattle.stun_base.specs.MessageTypes.{method_of}
use Rattle.stun_keys.specs.declared.keys.integrity_key.IntegrityKey.{IntegrityKey}
use Rattle.stun_transactions.specs.declared.parts.Mechanism.{Mechanism}
use Rattle.stun_transactions.specs.declared.parts.TransactionParts.{TransactionParts}
use Rattle.stun_transactions.specs.declared.guard.Signed.{Signed}
use Rattle.stun_transactions.specs.declared.received.Outcome.{Outcome}
use Rattle.stun_transactions.specs.declared.received.Outcome.TheVariants.{NotForThis}
use Rattle.stun_transactions.specs.declared.response_policy.ResponsePolicy.{ResponsePolicy}
use Rattle.stun_transactions.specs.Guards.{proof_of, guard_fault, signed_by, mechanism_of, key_of}
use Rattle.stun_transactions.specs.Outcomes.{is_open}
use Rattle.stun_transactions.specs.Receiving.{is_answer, received_outcome, content, claim_of, discarded}
use Rattle.stun_types.specs.Replies.{responds_to, is_answer_to}
use Rattle.stun_transactions.specs.declared.guard.Protection.{Protection}
use Rattle.stun.specs.Checks.{reported, usage}

-- of a transaction in progress
in_progress : (ongoing parses answers : Bool) (taken : Outcome) → ongoing ≡ true
    → (if ongoing && parses then (if answers then taken else NotForThis) else NotForThis) ≡ (if parses && answers then taken else NotForThis)
in_progress true true answers taken o = refl
in_progress true false answers taken o = refl
in_progress false parses answers taken o = absurd cc

-- it answers by the same method and transaction ID
same_answer : (parts : TransactionParts) (r d : List ℕ) → parts.method ≡ method_of (type_field r) → parts.id ≡ id_field r → is_answer parts d ≡ is_answer_to r d
same_answer parts r d method id =
    ap (λ (m : ℕ). responds_to m parts.id d) method ∙ ap (λ (i : ℕ). responds_to (method_of (type_field r)) i d) id

-- what is reported of one that answers
abbrev answered : TransportType → Option Mechanism → Option IntegrityKey → ResponsePolicy → Signed → List ℕ → Outcome
answered transport by key usage signed d =
    option_map_or (discarded transport (claim_of d)) (guard_fault by key usage signed d) (content (proof_of by key usage signed d) [] d)

-- the same, by the terms of the request
same_guard : (parts : TransactionParts) (key : Option IntegrityKey) (protection : Protection) (r d : List ℕ) → parts.plan.transport ≡ Udp → parts.signed ≡ signed_by r → parts.mechanism ≡ mechanism_of protection → key ≡ key_of protection → parts.usage ≡ usage
    → answered parts.plan.transport parts.mechanism key parts.usage parts.signed d ≡ answered Udp (mechanism_of protection) (key_of protection) usage (signed_by r) d
same_guard parts key protection r d transport signed mechanism held used =
    ap (λ (t : TransportType). answered t parts.mechanism key parts.usage parts.signed d) transport
    ∙ ap (λ (s : Signed). answered Udp parts.mechanism key parts.usage s d) signed
    ∙ ap (λ (m : Option Mechanism). answered Udp m key parts.usage (signed_by r) d) mechanism
    ∙ ap (λ (k : Option IntegrityKey). answered Udp (mechanism_of protection) k parts.usage (signed_by r) d) held
    ∙ ap (λ (u : ResponsePolicy). answered Udp (mechanism_of protection) (key_of protection) u (signed_by r) d) used

pub received_reported : (parts : TransactionParts) (key : Option IntegrityKey) (protection : Protection) (r d : List ℕ) → is_open parts.state ≡ true → parts.plan.transport ≡ Udp → parts.method ≡ method_of (type_field r) → parts.id ≡ id_field r
    → parts.signed ≡ signed_by r → parts.mechanism ≡ mechanism_of protection → key ≡ key_of protection → parts.usage ≡ usage → received_outcome parts key [] d ≡ reported protection r d
received_reported parts key protection r d ongoing transport method id signed mechanism held used =
    in_progress (is_open parts.state) (not (is_some (parse_fault d))) (is_answer parts d) (answered parts.plan.transport parts.mechanism key parts.usage parts.signed d) ongoing
    ∙ ap (λ (b : Bool). if not (is_some (parse_fault d)) && b then answered parts.plan.transport parts.mechanism key parts.usage parts.signed d else NotForThis) (same_answer parts r d method id)
    ∙ ap (λ (o : Outcome). if not (is_some (parse_fault d)) && is_answer_to r d then o else NotForThis) (same_guard parts key protection r d transport signed mechanism held used)
