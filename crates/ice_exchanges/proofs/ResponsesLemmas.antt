-- A response is judged as it was written.
use Rattle.std.proofs.Common.{◌≡◌, ℕ, zero, suc, ltb, ltb-true, ◌^◌, ◌<◌, ◌≤◌, Bool, true, false, List, [], ◌∷◌, length, Option, None, Some, refl, ap, ◌∙◌, lit<, lit≤, arith}
use Rattle.std.proofs.lemmas.Bool.{and_parts, eq-eqb}
use Rattle.std.proofs.lemmas.Str.{IsUtf8-from_ascii, is_utf8-from_IsUtf8}
use Rattle.std.specs.Str.{IsAscii}
use Rattle.std.specs.Prelude.{◌&&◌, ◌==◌, find, is_some, not, option_and_then, if◌then◌else◌}
use Rattle.std.specs.List.{list_any}
use Rattle.std.specs.Option.{option_map, option_map_or, option_or}
use Rattle.stun_grammar.specs.declared.attribute_type.AttributeType.{AttributeType}
use Rattle.stun_grammar.specs.declared.integrity_algorithm.IntegrityAlgorithm.TheVariants.{Sha1}
use Rattle.stun_grammar.specs.declared.error.StunParseError.TheVariants.{InvalidAttributeData}
use Rattle.stun_grammar.specs.Attributes.{Attribute, canonical, encodings, types}
use Rattle.stun_grammar.specs.AttributeTypes.{ERROR_CODE, XOR_MAPPED_ADDRESS}
use Rattle.stun_grammar.specs.Chains.{Shown}
use Rattle.stun_grammar.specs.Headers.{id_field, type_field}
use Rattle.stun_grammar.specs.Names.{BINDING}
use Rattle.stun_grammar.specs.ScannedOrder.{has}
use Rattle.stun_base.specs.MessageTypes.{class_of, is_response, method_of, type_of}
use Rattle.stun_base.specs.declared.message_class.MessageClass.TheVariants.{Success as SuccessClass, Error as ErrorClass}
use Rattle.stun_keys.specs.declared.keys.integrity_key.IntegrityKey.{IntegrityKey}
use Rattle.stun_keys.specs.Keys.{key_bytes}
use Rattle.stun_values.specs.Addresses.{xored_value}
use Rattle.stun_values.specs.ErrorValues.{error_value}
use Rattle.stun_attributes.specs.DefaultReasons.{default_reason}
use Rattle.stun_types.specs.LookingUp.{nth}
use Rattle.stun_authentication.specs.Codes.{shown_code, value_code}
use Rattle.stun_authentication.specs.Identities.{value_of}
use Rattle.stun_authentication.specs.Writing.{finished, signed, signed_reply}
use Rattle.stun_transactions.specs.declared.guard.Signed.{Signed}
use Rattle.stun_transactions.specs.declared.received.Failure.TheVariants.{UnknownAttribute, NoErrorCode}
use Rattle.stun_transactions.specs.declared.received.Outcome.TheVariants.{NotForThis, Failed, Error as ErrorOutcome}
use Rattle.stun_transactions.specs.declared.response_policy.ResponsePolicy.{ResponsePolicy}
use Rattle.stun_base.specs.declared.transport.TransportType.TheVariants.{Udp}
use Rattle.stun_transactions.specs.Receiving.{answers, claim_of, content, content_by_class, discarded, judged}
use Rattle.stun_transactions.specs.Responses.{own_types}
use Rattle.stun_exchanges.specs.Premises.{HasRoom, IsOpen, WorksAs}
use Rattle.stun_exchanges.proofs.TakenLemmas.{short_taken}
use Rattle.stun_endpoints.specs.Conversions.{endpoint_of, is_address, socket_of}
use Rattle.stun_endpoints.specs.declared.endpoints.Endpoint.{Endpoint}
use Rattle.ice_machine.specs.declared.messages.Answer.TheVariants.{Accepted, Refused as RefusedBy}
use Rattle.ice_checks.specs.declared.judged.Judged.TheVariants.{Arrives, Strays, Responds}
use Rattle.ice_checks.specs.Checks.{response_text}
use Rattle.ice_checks.specs.Judging.{address_read, answered, by_class, judge, message_judged, pending, responded, responded_by}
use Rattle.ice_checks.specs.Types.{understood}
use Rattle.ice_checks.specs.Views.{Login, Logins, role_conflict, success}
use Rattle.ice_exchanges.specs.Peers.{IsTransport, Knows}
use Rattle.ice_exchanges.proofs.AddressesLemmas.{transport_read, transport_size}
use Rattle.ice_exchanges.proofs.SignedLemmas.{IsRead, first, has_room, is_other, none_unknown, one_size, open_of, read_signed, value_is}

-- ---- What it is for the check

both : (a b : Bool) → a ≡ true → b ≡ true → (a && b) ≡ true
both true b e f = f
both false b e f = absurd cc

abbrev usage : ResponsePolicy
usage = record { min_hmac_length = 32; fingerprint = true }

abbrev by_sha1 : Signed
by_sha1 = record { sha1 = true; sha256 = false }

-- a response to the check with its transaction ID is taken
taken : (key : IntegrityKey) (signer : List ℕ) (kind id : ℕ) (xs : List Attribute) → WorksAs signer Sha1 key → IsOpen kind id xs → HasRoom kind id (finished true kind id (signed kind id xs Sha1 signer))
    → IsRead kind id xs (signed_reply true kind id xs Sha1 signer) → is_response (class_of kind) ≡ true → (method_of kind == BINDING) ≡ true → list_any (is_other understood) (types xs) ≡ false
    → judged (pending (id_field (signed_reply true kind id xs Sha1 signer))) (Some key) understood (signed_reply true kind id xs Sha1 signer) ≡ content_by_class (Some Sha1) (class_of kind) (signed_reply true kind id xs Sha1 signer)
taken key signer kind id xs works plain room read response method known =
    let d = signed_reply true kind id xs Sha1 signer in
    let it = short_taken first Sha1 true kind id xs signer key usage by_sha1 refl works plain room (record { min_hmac_length = lit≤ tt; printed = λ e. refl }) in
    let own : answers (pending (id_field d)) d ≡ true =
    both (is_response (class_of (type_field d))) ((method_of (type_field d) == BINDING) && (id_field d == id_field d)) (ap (λ (t : ℕ). is_response (class_of t)) read.type_is ∙ response)
    (both (method_of (type_field d) == BINDING) (id_field d == id_field d) (ap (λ (t : ℕ). method_of t == BINDING) read.type_is ∙ method) (eq-eqb (id_field d) (id_field d) refl)) in
    let none = none_unknown understood d xs read.more read.shows read.ends known refl in
    (λ i. if own i then option_map_or (discarded Udp (claim_of d)) (it.kept i) (content (it.proof i) understood d) else NotForThis)
    ∙ ap (λ (ts : List AttributeType). option_map_or (λ (type : AttributeType). Failed (UnknownAttribute type)) (find (λ (type : AttributeType). not (has type.0 own_types)) ts) (content_by_class (Some Sha1) (class_of (type_field d)) d)) none
    ∙ ap (λ (t : ℕ). content_by_class (Some Sha1) (class_of t) d) read.type_is

-- so it is judged by its content
heard : (one : Logins) (peer : Login) (is_awaited : ℕ → Bool) (base : ℕ) (from : Endpoint) (signer : List ℕ) (kind id : ℕ) (xs : List Attribute) → one.peer ≡ Some peer → is_awaited id ≡ true → WorksAs signer Sha1 peer.key → IsOpen kind id xs
    → HasRoom kind id (finished true kind id (signed kind id xs Sha1 signer)) → IsRead kind id xs (signed_reply true kind id xs Sha1 signer) → is_response (class_of kind) ≡ true → (method_of kind == BINDING) ≡ true → list_any (is_other understood) (types xs) ≡ false
    → by_class one is_awaited base from (class_of kind) (signed_reply true kind id xs Sha1 signer) ≡ responded one is_awaited (signed_reply true kind id xs Sha1 signer)
    → judge one is_awaited base from (signed_reply true kind id xs Sha1 signer) ≡ answered (signed_reply true kind id xs Sha1 signer) (content_by_class (Some Sha1) (class_of kind) (signed_reply true kind id xs Sha1 signer))
heard one peer is_awaited base from signer kind id xs knows waits works plain room read response method known by =
    let d = signed_reply true kind id xs Sha1 signer in
    let awaited : is_awaited (id_field d) ≡ true = ap is_awaited read.id_is ∙ waits in
    ap (λ (b : Bool). if b then message_judged one is_awaited base from d else Arrives) read.message
    ∙ ap (λ (t : ℕ). if method_of t == BINDING then by_class one is_awaited base from (class_of t) d else Strays (id_field d)) read.type_is
    ∙ ap (λ (b : Bool). if b then by_class one is_awaited base from (class_of kind) d else Strays (id_field d)) method ∙ by
    ∙ ap (λ (b : Bool). if b then option_map_or (λ (p : Login). responded_by p d) one.peer (Strays (id_field d)) else Strays (id_field d)) awaited
    ∙ ap (λ (o : Option Login). option_map_or (λ (p : Login). responded_by p d) o (Strays (id_field d))) knows
    ∙ ap (answered d) (taken peer.key signer kind id xs works plain room read response method known)

works_as : (one other : Logins) (peer : Login) → Knows one peer other → WorksAs (key_bytes other.own.key) Sha1 peer.key
works_as one other peer knows = record { bytes_are = knows.same.bytes; works = knows.same.a_works }

-- ---- A success response

pub success_judged : ((e : Endpoint) → is_address e.ip ≡ true → endpoint_of (socket_of e) ≡ e) → (one other : Logins) (peer : Login) (is_awaited : ℕ → Bool) (base id : ℕ) (from source : Endpoint) → Knows one peer other → id < 2 ^ 96 → IsTransport source → is_awaited id ≡ true
    → judge one is_awaited base from (response_text id (success source) (Some (record { key = other.own.key; algorithm = Sha1 }))) ≡ Responds id Accepted (Some source)
success_judged sockets one other peer is_awaited base id from source knows small is waits =
    let kind = type_of SuccessClass BINDING in
    let signer = key_bytes other.own.key in
    let value = xored_value id (socket_of source) in
    let xs = canonical XOR_MAPPED_ADDRESS value ∷ [] in
    let d = signed_reply true kind id xs Sha1 signer in
    let short = transport_size id source is.port in
    let few : length (encodings xs) ≤ 1_400 = omega (arith, short, one_size XOR_MAPPED_ADDRESS value [] (lit< tt) (omega (arith, short))) in
    let plain = open_of kind id xs (lit< tt) small (record { written = refl; type_fits = lit< tt; value_fits = omega (arith, short); plain = refl }, tt) refl few in
    let room = has_room kind id xs signer few in
    let read = read_signed kind id xs signer plain room in
    let found : value_of d XOR_MAPPED_ADDRESS ≡ Some value = value_is XOR_MAPPED_ADDRESS d xs read.more read.shows read.ends refl in
    heard one peer is_awaited base from signer kind id xs knows.known waits (works_as one other peer knows) plain room read refl refl refl refl
    ∙ (λ i. option_map_or (λ (mapped : Endpoint). Responds (read.id_is i) Accepted (Some mapped)) (option_and_then (address_read (read.id_is i)) (found i)) (Strays (read.id_is i)))
    ∙ ap (λ (o : Option Endpoint). option_map_or (λ (mapped : Endpoint). Responds id Accepted (Some mapped)) o (Strays id)) (transport_read sockets id source is)

-- ---- Error 487

code_of : (o : Option Shown) → option_and_then (λ (a : Shown). value_code a.value) o ≡ option_and_then value_code (option_map (λ (a : Shown). a.value) o)
code_of None = refl
code_of (Some a) = refl

-- the reason is a text
small : List ℕ → Bool
small [] = true
small (b ∷ bs) = ltb b 128 && small bs

ascii : (bs : List ℕ) → small bs ≡ true → IsAscii bs
unfolding small
ascii [] e i = omega arith
ascii (b ∷ bs) e zero = ltb-true b 128 (and_parts (ltb b 128) (small bs) e).0
ascii (b ∷ bs) e (suc i) = ascii bs (and_parts (ltb b 128) (small bs) e).1 i

code_there : value_code (error_value 487 (default_reason 487)) ≡ Some 487
unfolding small
code_there =
    let reason = default_reason 487 in
    ap (λ (b : Bool). if is_some (option_or None (if true && b then None else Some InvalidAttributeData)) then None else Some 487) (is_utf8-from_IsUtf8 reason (IsUtf8-from_ascii reason (ascii reason refl)))

pub conflict_judged : (one other : Logins) (peer : Login) (is_awaited : ℕ → Bool) (base id : ℕ) (from : Endpoint) → Knows one peer other → id < 2 ^ 96 → is_awaited id ≡ true
    → judge one is_awaited base from (response_text id role_conflict (Some (record { key = other.own.key; algorithm = Sha1 }))) ≡ Responds id (RefusedBy 487) None
conflict_judged one other peer is_awaited base id from knows small waits =
    let kind = type_of ErrorClass BINDING in
    let signer = key_bytes other.own.key in
    let value = error_value 487 (default_reason 487) in
    let xs = canonical ERROR_CODE value ∷ [] in
    let d = signed_reply true kind id xs Sha1 signer in
    let few : length (encodings xs) ≤ 1_400 = omega (arith, one_size ERROR_CODE value [] (lit< tt) (lit< tt)) in
    let plain = open_of kind id xs (lit< tt) small (record { written = refl; type_fits = lit< tt; value_fits = lit< tt; plain = refl }, tt) refl few in
    let room = has_room kind id xs signer few in
    let read = read_signed kind id xs signer plain room in
    let found : value_of d ERROR_CODE ≡ Some value = value_is ERROR_CODE d xs read.more read.shows read.ends refl in
    let code : shown_code d ≡ Some 487 = code_of (nth d ERROR_CODE 0) ∙ ap (option_and_then value_code) found ∙ code_there in
    heard one peer is_awaited base from signer kind id xs knows.known waits (works_as one other peer knows) plain room read refl refl refl refl
    ∙ ap (λ (o : Option ℕ). answered d (option_map_or (λ (n : ℕ). ErrorOutcome n (Some Sha1)) o (Failed NoErrorCode))) code
    ∙ ap (λ (n : ℕ). Responds n (RefusedBy 487) None) read.id_is
