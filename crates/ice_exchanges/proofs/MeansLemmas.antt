-- What a datagram shows that is judged to be a check or a response.
use Rattle.std.proofs.Common.{◌≡◌, ℕ, Bool, true, false, List, Option, None, Some, refl, sym, subst, ◌∙◌}
use Rattle.std.specs.Prelude.{◌==◌, if◌then◌else◌}
use Rattle.std.specs.Option.{option_map_or, option_zip}
use Rattle.stun_grammar.specs.declared.integrity_algorithm.IntegrityAlgorithm.{IntegrityAlgorithm}
use Rattle.stun_grammar.specs.Headers.{id_field, type_field}
use Rattle.stun_grammar.specs.Names.{BINDING}
use Rattle.stun_base.specs.declared.message_class.MessageClass.{MessageClass}
use Rattle.stun_base.specs.declared.message_class.MessageClass.TheVariants.{Request, Indication, Success as SuccessClass, Error as ErrorClass}
use Rattle.stun_base.specs.MessageTypes.{class_of, is_response, method_of}
use Rattle.stun_keys.specs.declared.keys.integrity_key.IntegrityKey.{IntegrityKey}
use Rattle.stun_authentication.specs.Answers.{Decision, accept, refuse, discard, not_a_request}
use Rattle.stun_authentication.specs.Codes.{shown_code}
use Rattle.stun_authentication.specs.ShortTerm.{short_term}
use Rattle.stun_transactions.specs.declared.received.Failure.TheVariants.{NoErrorCode, UnknownAttribute}
use Rattle.stun_transactions.specs.declared.received.Outcome.{Outcome}
use Rattle.stun_transactions.specs.declared.received.Outcome.TheVariants.{NotForThis, Discarded, Failed, Success, Error}
use Rattle.stun_transactions.specs.Guards.{guard_fault, proof_of}
use Rattle.stun_transactions.specs.Receiving.{answers, claim_of, content, content_by_class, discarded, judged}
use Rattle.stun_transactions.specs.Responses.{first_unknown}
use Rattle.stun_endpoints.specs.declared.endpoints.Endpoint.{Endpoint}
use Rattle.ice_machine.specs.declared.messages.Answer.{Answer}
use Rattle.ice_machine.specs.declared.messages.Answer.TheVariants.{Accepted, Refused as RefusedBy}
use Rattle.ice_machine.specs.declared.messages.Check.{Check}
use Rattle.ice_machine.specs.Events.{checks, responds}
use Rattle.ice_machine.specs.declared.roles.Role.{Role}
use Rattle.ice_checks.specs.declared.judged.Judged.{Judged}
use Rattle.ice_checks.specs.declared.judged.Judged.TheVariants.{Arrives, Strays, Refused, Responds, Checks}
use Rattle.ice_checks.specs.declared.judged.Refusal.TheVariants.{BadRequest, UnknownTypes}
use Rattle.ice_checks.specs.Judging.{accepted, answered, by_class, check_by, content as content_of, decided, event_of, is_message, judge, mapped_in, message_judged, pending, policy, priority_in, responded, responded_by, role_in}
use Rattle.ice_checks.specs.Sessions.{key_of}
use Rattle.ice_checks.specs.Types.{is_understood, understood}
use Rattle.ice_checks.specs.Views.{Login, Logins}

-- ---- What it shows

-- a response has the class that its answer says
abbrev pub IsAnswer : Answer → List ℕ → Type 0
IsAnswer Accepted d = class_of (type_field d) ≡ SuccessClass
IsAnswer (RefusedBy code) d = class_of (type_field d) ≡ ErrorClass

abbrev pub IsSo : (base : ℕ) → (from : Endpoint) → List ℕ → Judged → Type 0
IsSo base from d Arrives = Unit {0}
IsSo base from d (Strays id) = Unit {0}
IsSo base from d (Refused id refusal signed_by) = Unit {0}
IsSo base from d (Responds id answer mapped) = (id_field d ≡ id) × IsAnswer answer d
IsSo base from d (Checks check algorithm) = (priority : ℕ) × (role : Role × ℕ) × (check ≡ check_by base from d priority role)

-- ---- Choices

either : {X : Type 0} (P : X → Type 0) (b : Bool) (x y : X) → P x → P y → P (if b then x else y)
either P true x y met unmet = met
either P false x y met unmet = unmet

found : {X Y : Type 0} (P : Y → Type 0) (o : Option X) (f : X → Y) (n : Y) → ((x : X) → P (f x)) → P n → P (option_map_or f o n)
found P (Some x) f n some none = some x
found P None f n some none = none

-- ---- Requests

of_content : (base : ℕ) (from : Endpoint) (d : List ℕ) (a : IntegrityAlgorithm) → IsSo base from d (accepted base from d a)
of_content base from d a =
    either (IsSo base from d) (is_understood d) (content_of base from d a) (Refused (id_field d) UnknownTypes (Some a))
    (found (IsSo base from d) (option_zip (priority_in d) (role_in d)) (λ (shown : ℕ × (Role × ℕ)). Checks (check_by base from d shown.0 shown.1) a) (Refused (id_field d) BadRequest (Some a)) (λ shown. (shown.0, shown.1, refl)) tt) tt

of_decision : (base : ℕ) (from : Endpoint) (d : List ℕ) (decision : Decision) → IsSo base from d (decided base from d decision)
of_decision base from d (accept user key a reply) = of_content base from d a
of_decision base from d (refuse denial) = tt
of_decision base from d discard = tt
of_decision base from d not_a_request = tt

-- ---- Responses

abbrev Fits : List ℕ → Outcome → Type 0
Fits d NotForThis = Unit {0}
Fits d (Discarded reason claim) = Unit {0}
Fits d (Failed failure) = Unit {0}
Fits d (Success proof) = class_of (type_field d) ≡ SuccessClass
Fits d (Error code proof) = class_of (type_field d) ≡ ErrorClass

by_class_fits : (d : List ℕ) (proof : Option IntegrityAlgorithm) (class : MessageClass) → class_of (type_field d) ≡ class → is_response class ≡ true → Fits d (content_by_class proof class d)
by_class_fits d proof Request e response = absurd cc
by_class_fits d proof Indication e response = absurd cc
by_class_fits d proof SuccessClass e response = e
by_class_fits d proof ErrorClass e response = found (Fits d) (shown_code d) (λ (code : ℕ). Error code proof) (Failed NoErrorCode) (λ code. e) tt

content_fits : (d : List ℕ) (proof : Option IntegrityAlgorithm) (class : MessageClass) → class_of (type_field d) ≡ class → is_response class ≡ true → Fits d (content proof understood d)
content_fits d proof class e response =
    found (Fits d) (first_unknown understood d) (λ type. Failed (UnknownAttribute type)) (content_by_class proof (class_of (type_field d)) d) (λ type. tt)
    (subst (λ (c : MessageClass). Fits d (content_by_class proof c d)) (sym e) (by_class_fits d proof class e response))

judged_fits : (key : IntegrityKey) (d : List ℕ) (class : MessageClass) → class_of (type_field d) ≡ class → is_response class ≡ true → Fits d (judged (pending (id_field d)) (Some key) understood d)
judged_fits key d class e response =
    let request = pending (id_field d) in
    let its = content (proof_of request.mechanism (Some key) request.usage request.signed d) understood d in
    let fault = guard_fault request.mechanism (Some key) request.usage request.signed d in
    either (Fits d) (answers request d) (option_map_or (discarded request.transport (claim_of d)) fault its) NotForThis
    (found (Fits d) fault (discarded request.transport (claim_of d)) its (λ reason. tt) (content_fits d (proof_of request.mechanism (Some key) request.usage request.signed d) class e response)) tt

of_outcome : (base : ℕ) (from : Endpoint) (d : List ℕ) (outcome : Outcome) → Fits d outcome → IsSo base from d (answered d outcome)
of_outcome base from d NotForThis fits = tt
of_outcome base from d (Discarded reason claim) fits = tt
of_outcome base from d (Failed failure) fits = tt
of_outcome base from d (Success proof) fits = found (IsSo base from d) (mapped_in d) (λ mapped. Responds (id_field d) Accepted (Some mapped)) (Strays (id_field d)) (λ mapped. (refl, fits)) tt
of_outcome base from d (Error code proof) fits = (refl, fits)

of_response : (logins : Logins) (is_awaited : ℕ → Bool) (base : ℕ) (from : Endpoint) (d : List ℕ) (class : MessageClass) → class_of (type_field d) ≡ class → is_response class ≡ true → IsSo base from d (responded logins is_awaited d)
of_response logins is_awaited base from d class e response =
    either (IsSo base from d) (is_awaited (id_field d)) (option_map_or (λ (peer : Login). responded_by peer d) logins.peer (Strays (id_field d))) (Strays (id_field d))
    (found (IsSo base from d) logins.peer (λ (peer : Login). responded_by peer d) (Strays (id_field d))
    (λ peer. of_outcome base from d (judged (pending (id_field d)) (Some peer.key) understood d) (judged_fits peer.key d class e response)) tt) tt

-- ---- A datagram

of_class : (logins : Logins) (is_awaited : ℕ → Bool) (base : ℕ) (from : Endpoint) (d : List ℕ) (class : MessageClass) → class_of (type_field d) ≡ class → IsSo base from d (by_class logins is_awaited base from class d)
of_class logins is_awaited base from d Request e = of_decision base from d (short_term policy (key_of logins) d)
of_class logins is_awaited base from d Indication e = tt
of_class logins is_awaited base from d SuccessClass e = of_response logins is_awaited base from d SuccessClass e refl
of_class logins is_awaited base from d ErrorClass e = of_response logins is_awaited base from d ErrorClass e refl

pub judged_so : (logins : Logins) (is_awaited : ℕ → Bool) (base : ℕ) (from : Endpoint) (d : List ℕ) → IsSo base from d (judge logins is_awaited base from d)
judged_so logins is_awaited base from d =
    either (IsSo base from d) (is_message d) (message_judged logins is_awaited base from d) Arrives
    (either (IsSo base from d) (method_of (type_field d) == BINDING) (by_class logins is_awaited base from (class_of (type_field d)) d) (Strays (id_field d))
    (of_class logins is_awaited base from d (class_of (type_field d)) refl) tt) tt

-- ---- The event

pub record IsResponseTo (at_base : ℕ) (sender : Endpoint) (d : List ℕ) (base : ℕ) (from : Endpoint) (id : ℕ) (answer : Answer) : Type 0 where
  pub base_is : at_base ≡ base
  pub from_is : sender ≡ from
  pub id_is : id_field d ≡ id
  pub class : IsAnswer answer d

pub responds_so : (at_base : ℕ) (sender : Endpoint) (d : List ℕ) (j : Judged) (base : ℕ) (from : Endpoint) (id : ℕ) (answer : Answer) → IsSo at_base sender d j → event_of at_base sender d j ≡ responds base from id answer
    → IsResponseTo at_base sender d base from id answer
responds_so at_base sender d Arrives base from id answer so e = absurd cc
responds_so at_base sender d (Strays i) base from id answer so e = absurd cc
responds_so at_base sender d (Refused i refusal signed_by) base from id answer so e = absurd cc
responds_so at_base sender d (Responds i a mapped) base from id answer so e =
    let same : a ≡ answer = cc in
    let number : i ≡ id = cc in
    record { base_is = cc; from_is = cc; id_is = so.0 ∙ number; class = subst (λ (x : Answer). IsAnswer x d) same so.1 }
responds_so at_base sender d (Checks c algorithm) base from id answer so e = absurd cc

pub checks_so : (at_base : ℕ) (sender : Endpoint) (d : List ℕ) (j : Judged) (check : Check) → IsSo at_base sender d j → event_of at_base sender d j ≡ checks check → (priority : ℕ) × (role : Role × ℕ) × (check ≡ check_by at_base sender d priority role)
checks_so at_base sender d Arrives check so e = absurd cc
checks_so at_base sender d (Strays i) check so e = absurd cc
checks_so at_base sender d (Refused i refusal signed_by) check so e = absurd cc
checks_so at_base sender d (Responds i a mapped) check so e = absurd cc
checks_so at_base sender d (Checks c algorithm) check so e =
    let same : check ≡ c = cc in
    (so.0, so.1, same ∙ so.2)
