-- The events of an agent are authentic.
use Rattle.std.proofs.Common.{◌≡◌, ℕ, Bool, true, false, List, Option, Some, None, refl, sym, subst, if◌then◌else◌, lit<, lit≤}
use Rattle.std.specs.Prelude.{◌&&◌, not, is_some, IsSomeAnd, ◌==◌}
use Rattle.std.specs.Option.{option_map_or, option_zip}
use Rattle.std.specs.declared.time.Duration.{Duration}
use Rattle.stun_grammar.specs.declared.integrity_algorithm.IntegrityAlgorithm.{IntegrityAlgorithm}
use Rattle.stun_grammar.specs.declared.integrity_algorithm.IntegrityAlgorithm.TheVariants.{Sha1, Sha256}
use Rattle.stun_grammar.specs.Accepting.{IsAuthenticThrough}
use Rattle.stun_grammar.specs.Headers.{type_field, id_field}
use Rattle.stun_grammar.specs.Names.{BINDING}
use Rattle.stun_grammar.specs.Numbers.{IsBytes}
use Rattle.stun_grammar.specs.Parsing.{parse_fault}
use Rattle.stun_base.specs.declared.message_class.MessageClass.{MessageClass}
use Rattle.stun_base.specs.declared.message_class.MessageClass.TheVariants.{Request, Indication, Success as SuccessClass, Error as ErrorClass}
use Rattle.stun_base.specs.MessageTypes.{class_of, method_of}
use Rattle.stun_base.specs.declared.transport.TransportType.TheVariants.{Udp}
use Rattle.stun_authentication.specs.Answers.{Decision, accept, refuse, discard, not_a_request}
use Rattle.stun_authentication.specs.Accepted.{IsUsers}
use Rattle.stun_authentication.specs.Identities.{Who}
use Rattle.stun_authentication.specs.Lookups.{UserKey, key_held}
use Rattle.stun_authentication.specs.Policies.{counted, is_fingerprinted}
use Rattle.stun_authentication.specs.declared.policy.Policy.{Policy}
use Rattle.stun_authentication.specs.ShortTerm.{short_term}
use Rattle.stun_transactions.specs.declared.received.Outcome.{Outcome}
use Rattle.stun_transactions.specs.declared.received.Outcome.TheVariants.{NotForThis, Discarded, Failed, Success, Error}
use Rattle.stun_transactions.specs.Guards.{signs_by}
use Rattle.stun_transactions.specs.Receiving.{judged}
use Rattle.stun_transactions.specs.Taking.{IsAuthenticBy, IsRightResponse, is_taken, proof_in}
use Rattle.stun_transactions.specs.declared.parts.TransactionParts.{TransactionParts}
use Rattle.stun_transactions.specs.Parts.{pending as pending_of}
use Rattle.stun_keys.specs.declared.keys.integrity_key.IntegrityKey.{IntegrityKey}
use Rattle.stun_grammar.specs.declared.attribute_type.AttributeType.{AttributeType}
use Rattle.stun_endpoints.specs.declared.endpoints.Endpoint.{Endpoint}
use Rattle.ice_machine.specs.declared.messages.Answer.TheVariants.{Accepted}
use Rattle.ice_checks.specs.declared.judged.Judged.{Judged}
use Rattle.ice_checks.specs.declared.judged.Judged.TheVariants.{Arrives, Strays, Refused, Responds, Checks}
use Rattle.ice_checks.specs.declared.judged.Refusal.TheVariants.{BadRequest, UnknownTypes}
use Rattle.ice_checks.specs.Views.{Login, Logins}
use Rattle.ice_checks.specs.Authentic.{IsAuthenticAs, IsAuthenticEvent, IsCheck, IsResponse, IsSignedBy}
use Rattle.ice_checks.specs.Judging.{accepted, answered, by_class, check_by, content, decided, event_of, is_message, judge, mapped_in, message_judged, pending, policy, priority_in, responded, responded_by, role_in, success}
use Rattle.ice_checks.specs.Sessions.{is_named, key_of}
use Rattle.ice_checks.specs.Types.{is_understood, understood}

-- ---- Choices

either : (P : Judged → Type 0) (b : Bool) (x y : Judged) → (b ≡ true → P x) → (b ≡ false → P y) → P (if b then x else y)
either P true x y met unmet = met refl
either P false x y met unmet = unmet refl

found : {X : Type 0} (P : Judged → Type 0) (o : Option X) (f : X → Judged) (n : Judged) → ((x : X) → P (f x)) → P n → P (option_map_or f o n)
found P (Some x) f n some none = some x
found P None f n some none = none

parsed : (fault : Bool) (printed : Bool) → (not fault && printed) ≡ true → fault ≡ false
parsed true printed is = absurd cc
parsed false printed is = refl

no_fault : {X : Type 0} (o : Option X) → is_some o ≡ false → o ≡ None
no_fault None e = refl
no_fault (Some x) e = absurd cc

parses : (d : List ℕ) → is_message d ≡ true → parse_fault d ≡ None
parses d is = no_fault (parse_fault d) (parsed (is_some (parse_fault d)) (is_fingerprinted d) is)

-- ---- Requests

-- the key of a USERNAME is this agent's, if there is one
own_key : (logins : Logins) (username : List ℕ) (key : UserKey) → key_of logins username ≡ Some key → (is_named logins username ≡ true) × (key_held logins.own.key ≡ key)
own_key logins username key is = by (is_named logins username) is
  where
    by : (b : Bool) → (if b then Some (key_held logins.own.key) else None) ≡ Some key → (b ≡ true) × (key_held logins.own.key ≡ key)
    by true is = (refl, cc)
    by false is = absurd cc

of_content : (logins : Logins) (base : ℕ) (from : Endpoint) (d : List ℕ) (a : IntegrityAlgorithm) → IsCheck logins d a → IsAuthenticAs logins d (accepted base from d a)
of_content logins base from d a check =
    either (IsAuthenticAs logins d) (is_understood d) (content base from d a) (Refused (id_field d) UnknownTypes (Some a))
    (λ _. found (IsAuthenticAs logins d) (option_zip (priority_in d) (role_in d)) (λ shown. Checks (check_by base from d shown.0 shown.1) a) (Refused (id_field d) BadRequest (Some a)) (λ _. check) check)
    (λ _. check)

of_decision : (logins : Logins) (base : ℕ) (from : Endpoint) (d : List ℕ) (decision : Decision) → ((user : Who) (key : UserKey) (a reply : IntegrityAlgorithm) → decision ≡ accept user key a reply → IsCheck logins d a) → IsAuthenticAs logins d (decided base from d decision)
of_decision logins base from d (accept user key a reply) check = of_content logins base from d a (check user key a reply refl)
of_decision logins base from d (refuse denial) check = tt
of_decision logins base from d discard check = tt
of_decision logins base from d not_a_request check = tt

-- ---- Responses

abbrev start : Duration
start = record { secs = 0; nanos = 0 }

-- a transaction of a check, whose schedule matters to none of what follows
abbrev transaction : (id : ℕ) → TransactionParts
transaction id = record {
  plan = record { schedule = record { rto = 1; max_requests = 1; last_wait_factor = 1; reliable_timeout = 1; starts = lit≤ tt; sends = lit≤ tt; few = lit≤ tt; fits = lit< tt }; transport = Udp };
  method = BINDING;
  id = id;
  signed = (pending id).signed;
  mechanism = (pending id).mechanism;
  usage = (pending id).usage;
  state = record { sent = 0; last = start; clock = start; violated = false; stopped = false; end = None };
}

by_sha1 : (a : IntegrityAlgorithm) (id : ℕ) → signs_by (pending id).signed a ≡ true → a ≡ Sha1
by_sha1 Sha1 id is = refl
by_sha1 Sha256 id is = absurd cc

proof_by : (peer : Login) (id : ℕ) (d : List ℕ) (o : Option IntegrityAlgorithm) → IsSomeAnd o (λ a. (signs_by (pending id).signed a ≡ true) × IsAuthenticBy 32 peer.key d a) → IsSignedBy peer.key d Sha1
proof_by peer id d None is = absurd is
proof_by peer id d (Some a) is = subst (λ (b : IntegrityAlgorithm). IsSignedBy peer.key d b) (by_sha1 a id is.0) is.1.authentic

of_success : (logins : Logins) (d : List ℕ) → IsResponse logins d → IsAuthenticAs logins d (success d)
of_success logins d response = found (IsAuthenticAs logins d) (mapped_in d) (λ mapped. Responds (id_field d) Accepted (Some mapped)) (Strays (id_field d)) (λ _. response) tt

of_outcome : (logins : Logins) (d : List ℕ) (outcome : Outcome) → (is_taken outcome ≡ true → IsResponse logins d) → IsAuthenticAs logins d (answered d outcome)
of_outcome logins d (Success proof) response = of_success logins d (response refl)
of_outcome logins d (Error code proof) response = response refl
of_outcome logins d NotForThis response = tt
of_outcome logins d (Discarded reason claim) response = tt
of_outcome logins d (Failed failure) response = tt

-- ---- Events

of_event : (logins : Logins) (base : ℕ) (from : Endpoint) (d : List ℕ) (judged : Judged) → IsAuthenticAs logins d judged → IsAuthenticEvent logins d (event_of base from d judged)
of_event logins base from d Arrives is = tt
of_event logins base from d (Strays id) is = tt
of_event logins base from d (Refused id refusal signed_by) is = tt
of_event logins base from d (Responds id answer mapped) is = is
of_event logins base from d (Checks check algorithm) is = (algorithm, is)

-- ---- By the laws of authentication and of transactions

module _ (users : (policy : Policy) (keys : List ℕ → Option UserKey) (d : List ℕ) (user : Who) (key : UserKey) (a reply : IntegrityAlgorithm) → short_term policy keys d ≡ accept user key a reply → IsUsers policy keys d user key a)
    (authentic : (policy : Policy) (keys : List ℕ → Option UserKey) (d : List ℕ) (user : Who) (key : UserKey) (a reply : IntegrityAlgorithm) → IsBytes d → parse_fault d ≡ None → short_term policy keys d ≡ accept user key a reply
    → IsSomeAnd (counted policy key.made_for) (λ served. IsAuthenticThrough served (λ _. key.bytes) d a))
    (right : (parts : TransactionParts) (key : Option IntegrityKey) (understood : List AttributeType) (d : List ℕ) → IsBytes d → parse_fault d ≡ None → is_taken (judged (pending_of parts) key understood d) ≡ true
    → IsRightResponse parts key d (proof_in (judged (pending_of parts) key understood d))) where
  is_check : (logins : Logins) (d : List ℕ) (user : Who) (key : UserKey) (a reply : IntegrityAlgorithm) → IsBytes d → is_message d ≡ true → short_term policy (key_of logins) d ≡ accept user key a reply → IsCheck logins d a
  is_check logins d user key a reply bytes is e =
      let login = users policy (key_of logins) d user key a reply e in
      let own = own_key logins login.name key login.known in
      record {
        message = is;
        username = login.name;
        shown = login.shown;
        named = own.0;
        signed = subst (λ (k : UserKey). IsAuthenticThrough k.made_for (λ _. k.bytes) d a) (sym own.1) (authentic policy (key_of logins) d user key a reply bytes (parses d is) e);
      }

  is_response : (peer : Login) (d : List ℕ) → IsBytes d → is_message d ≡ true → is_taken (judged (pending (id_field d)) (Some peer.key) understood d) ≡ true → IsSignedBy peer.key d Sha1
  is_response peer d bytes is taken =
      let response = right (transaction (id_field d)) (Some peer.key) understood d bytes (parses d is) taken in
      proof_by peer (id_field d) d (proof_in (judged (pending (id_field d)) (Some peer.key) understood d)) response.proved

  of_peer : (logins : Logins) (d : List ℕ) (peer : Option Login) → IsBytes d → is_message d ≡ true → logins.peer ≡ peer → IsAuthenticAs logins d (option_map_or (λ p. responded_by p d) peer (Strays (id_field d)))
  of_peer logins d None bytes is known = tt
  of_peer logins d (Some peer) bytes is known =
      of_outcome logins d (judged (pending (id_field d)) (Some peer.key) understood d)
      (λ taken. record { message = is; signed = subst (λ (o : Option Login). IsSomeAnd o (λ p. IsSignedBy p.key d Sha1)) (sym known) (is_response peer d bytes is taken) })

  of_response : (logins : Logins) (is_awaited : ℕ → Bool) (d : List ℕ) → IsBytes d → is_message d ≡ true → IsAuthenticAs logins d (responded logins is_awaited d)
  of_response logins is_awaited d bytes is =
      either (IsAuthenticAs logins d) (is_awaited (id_field d)) (option_map_or (λ p. responded_by p d) logins.peer (Strays (id_field d))) (Strays (id_field d))
      (λ _. of_peer logins d logins.peer bytes is refl) (λ _. tt)

  of_class : (logins : Logins) (is_awaited : ℕ → Bool) (base : ℕ) (from : Endpoint) (class : MessageClass) (d : List ℕ) → IsBytes d → is_message d ≡ true → IsAuthenticAs logins d (by_class logins is_awaited base from class d)
  of_class logins is_awaited base from Request d bytes is =
      of_decision logins base from d (short_term policy (key_of logins) d) (λ user key a reply e. is_check logins d user key a reply bytes is e)
  of_class logins is_awaited base from Indication d bytes is = tt
  of_class logins is_awaited base from SuccessClass d bytes is = of_response logins is_awaited d bytes is
  of_class logins is_awaited base from ErrorClass d bytes is = of_response logins is_awaited d bytes is

  pub judged_is_authentic : (logins : Logins) (is_awaited : ℕ → Bool) (base : ℕ) (from : Endpoint) (d : List ℕ) → IsBytes d → IsAuthenticAs logins d (judge logins is_awaited base from d)
  judged_is_authentic logins is_awaited base from d bytes =
      either (IsAuthenticAs logins d) (is_message d) (message_judged logins is_awaited base from d) Arrives
      (λ is. either (IsAuthenticAs logins d) (method_of (type_field d) == BINDING) (by_class logins is_awaited base from (class_of (type_field d)) d) (Strays (id_field d))
      (λ _. of_class logins is_awaited base from (class_of (type_field d)) d bytes is) (λ _. tt))
      (λ _. tt)

  pub event_is_authentic : (logins : Logins) (is_awaited : ℕ → Bool) (base : ℕ) (from : Endpoint) (d : List ℕ) → IsBytes d → IsAuthenticEvent logins d (event_of base from d (judge logins is_awaited base from d))
  event_is_authentic logins is_awaited base from d bytes = of_event logins base from d (judge logins is_awaited base from d) (judged_is_authentic logins is_awaited base from d bytes)
