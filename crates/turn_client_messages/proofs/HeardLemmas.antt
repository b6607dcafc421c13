-- A fit response is heard.
use Rattle.std.proofs.Common.{◌≡◌, ℕ, ◌<◌, Bool, true, false, List, [], ◌∷◌, Option, None, Some, refl, ap, ◌∙◌, rules, arith}
use Rattle.std.proofs.lemmas.Bool.{eq-eqb}
use Rattle.std.specs.Prelude.{is_some, ◌&&◌, ◌==◌, if◌then◌else◌}
use Rattle.std.specs.Option.{option_map_or}
use Rattle.stun_grammar.specs.Headers.{type_field}
use Rattle.stun_grammar.proofs.HeadersLemmas.{header_there, first_low}
use Rattle.stun_grammar.proofs.ParsingLemmas.{parsed_header}
use Rattle.stun_base.specs.declared.message_class.MessageClass.{MessageClass}
use Rattle.stun_base.specs.declared.message_class.MessageClass.TheVariants as Class
use Rattle.stun_base.specs.MessageTypes.{class_of, method_of, is_response}
use Rattle.stun_authentication.specs.Challenges.{is_bid_down}
use Rattle.stun_authentication.specs.Codes.{is_challenge}
use Rattle.stun_framing.specs.declared.channel_range.ChannelRange.TheVariants.{Rfc8656}
use Rattle.stun_framing.specs.Channels.{begins_number}
use Rattle.stun_transactions.specs.declared.received.Discard.TheVariants.{NotAuthentic, BidDown, UnsignedBadRequest}
use Rattle.stun_transactions.specs.declared.received.Failure.TheVariants.{UnknownAttribute}
use Rattle.stun_transactions.specs.declared.received.Outcome.TheVariants.{NotForThis, Failed, Success}
use Rattle.stun_transactions.specs.Guards.{guard_fault, is_unsigned_bad_request, proof_of}
use Rattle.stun_transactions.specs.Receiving.{judged, answers, claim_of, discarded, content, content_by_class}
use Rattle.stun_transactions.specs.Responses.{first_unknown}
use Rattle.turn_requests.specs.Requests.{Credentials}
use Rattle.turn_client_messages.specs.Judging.{response, stray, success, by_outcome, responded, by_class, on_channel, message, judge}
use Rattle.turn_client_messages.specs.Origins.{IsFit}
use Rattle.turn_client_messages.specs.Pending.{pending, mechanism_of, signed_with, key_of, turn_policy}
use Rattle.turn_client_messages.specs.Requests.{id_of, method_for}
use Rattle.turn_client_messages.specs.Understood.{understood}
use Rattle.turn_client_messages.specs.Views.{Asked, Dealing}

-- ---- Choices

then_branch : {X : Type 0} (b : Bool) (x y : X) → b ≡ true → (if b then x else y) ≡ x
then_branch true x y e = refl
then_branch false x y e = absurd cc

else_branch : {X : Type 0} (b : Bool) (x y : X) → b ≡ false → (if b then x else y) ≡ y
else_branch true x y e = absurd cc
else_branch false x y e = refl

without : {X Y : Type 0} (o : Option X) (f : X → Y) (y : Y) → o ≡ None → option_map_or f o y ≡ y
without None f y e = refl
without (Some x) f y e = absurd cc

both : (a b : Bool) → a ≡ true → b ≡ true → (a && b) ≡ true
both true b e f = f
both false b e f = absurd cc

-- ---- It isn't kept out

passes : (asks bid bad authentic : Bool) → asks ≡ false → bid ≡ false → bad ≡ false → authentic ≡ true
    → (if asks then None else (if bid then Some BidDown else (if bad then Some UnsignedBadRequest else (if authentic then None else Some NotAuthentic)))) ≡ None
passes asks bid bad authentic e f g h =
    else_branch asks None _ e ∙ else_branch bid (Some BidDown) _ f ∙ else_branch bad (Some UnsignedBadRequest) _ g ∙ then_branch authentic None (Some NotAuthentic) h

-- a success response has no code
no_challenge : (d : List ℕ) → class_of (type_field d) ≡ Class.Success → is_challenge d ≡ false
no_challenge d e = rw e refl

no_bad_request : (d : List ℕ) → class_of (type_field d) ≡ Class.Success → is_unsigned_bad_request d ≡ false
no_bad_request d e = rw e refl

kept_in : (login : Option Credentials) (d : List ℕ) → class_of (type_field d) ≡ Class.Success → is_bid_down d ≡ false
    → is_some (proof_of (Some (mechanism_of login)) (key_of login) turn_policy (signed_with login) d) ≡ true
    → guard_fault (Some (mechanism_of login)) (key_of login) turn_policy (signed_with login) d ≡ None
kept_in None d succeeds promised signed = absurd cc
kept_in (Some login) d succeeds promised signed =
    passes (is_challenge d) (is_bid_down d) (is_unsigned_bad_request d) (is_some (proof_of (Some (mechanism_of (Some login))) (key_of (Some login)) turn_policy (signed_with (Some login)) d))
    (no_challenge d succeeds) promised (no_bad_request d succeeds) signed

-- ---- It answers

answered : (dealing : Dealing) (r : Asked) (d : List ℕ) → IsFit r d → answers (pending dealing.transport r) d ≡ true
answered dealing r d fit =
    both (is_response (class_of (type_field d))) _ (ap is_response fit.succeeds)
    (both (method_of (type_field d) == method_for r.request.kind) _ (eq-eqb _ _ fit.method_is) (eq-eqb _ _ fit.id_is))

judged_is : (dealing : Dealing) (r : Asked) (d : List ℕ) → IsFit r d
    → judged (pending dealing.transport r) (key_of r.login) understood d ≡ Success (proof_of (Some (mechanism_of r.login)) (key_of r.login) turn_policy (signed_with r.login) d)
judged_is dealing r d fit =
    let proof = proof_of (Some (mechanism_of r.login)) (key_of r.login) turn_policy (signed_with r.login) d in
    then_branch (answers (pending dealing.transport r) d) _ NotForThis (answered dealing r d fit)
    ∙ without (guard_fault (Some (mechanism_of r.login)) (key_of r.login) turn_policy (signed_with r.login) d) (discarded dealing.transport (claim_of d)) (content proof understood d) (kept_in r.login d fit.succeeds fit.promised fit.signed)
    ∙ without (first_unknown understood d) (λ type. Failed (UnknownAttribute type)) (content_by_class proof (class_of (type_field d)) d) fit.known
    ∙ ap (λ (class : MessageClass). content_by_class proof class d) fit.succeeds

responded_is : (dealing : Dealing) (r : Asked) (d : List ℕ) → IsFit r d → responded dealing (Some r) d ≡ response (id_of r.request) true (success r.request.kind d)
responded_is dealing r d fit =
    ap (by_outcome dealing r d) (judged_is dealing r d fit)
    ∙ (λ i. response (fit.id_is i) (fit.signed i) (success r.request.kind d))

message_is : (dealing : Dealing) (r : Asked) (d : List ℕ) → IsFit r d → message dealing (Some r) d ≡ responded dealing (Some r) d
message_is dealing r d fit = λ i. if is_some (fit.parses i) then stray else by_class dealing (Some r) (fit.succeeds i) d

not_channel : (first : ℕ) → first < 64 → begins_number Rfc8656 first ≡ false
not_channel first low = search rules

pub heard : (dealing : Dealing) (r : Asked) (d : List ℕ) → IsFit r d → judge dealing (Some r) d ≡ response (id_of r.request) true (success r.request.kind d)
heard dealing r [] fit = absurd (omega (arith, (header_there [] (parsed_header [] fit.parses)).0))
heard dealing r (first ∷ more) fit =
    let d = first ∷ more in
    else_branch (begins_number Rfc8656 first) (on_channel dealing.transport d) (message dealing (Some r) d) (not_channel first (first_low d (parsed_header d fit.parses)))
    ∙ message_is dealing r d fit ∙ responded_is dealing r d fit
