-- How long a 401 is that asks for a login.
use Rattle.std.proofs.Common.{◌≡◌, ℕ, ◌+◌, ◌*◌, ◌^◌, ◌<◌, ◌≤◌, Bool, true, false, List, [], ◌∷◌, ◌++◌, length, drop, slice_get, None, Some, inl, inr, refl, ap, ◌∙◌, arith}
use Rattle.std.specs.Prelude.{◌==◌, codes, is_some, nat_lt, if◌then◌else◌}
use Rattle.std.specs.List.{filter}
use Rattle.std.proofs.lemmas.Bool.{cases_lt, cond-true, lt-ltb}
use Rattle.std.proofs.lemmas.List.{length-append, length-drop}
use Rattle.stun_grammar.specs.Attributes.{Attribute, canonical, encoding, encodings}
use Rattle.stun_grammar.specs.AttributeTypes.{ERROR_CODE, REALM, NONCE, PASSWORD_ALGORITHMS, FINGERPRINT}
use Rattle.stun_grammar.specs.Chains.{Shown, chain, first_attribute, placed}
use Rattle.stun_grammar.specs.Fingerprints.{fingerprint_value}
use Rattle.stun_grammar.specs.Headers.{id_field}
use Rattle.stun_grammar.specs.Numbers.{padded_length}
use Rattle.stun_grammar.specs.Parsing.{parse_fault}
use Rattle.stun_grammar.specs.Prefixes.{longest_prefix, longest_within}
use Rattle.stun_grammar.specs.Showing.{frame_fault, shown, shown_prefix}
use Rattle.stun_grammar.specs.Steps.{appended_by}
use Rattle.stun_grammar.specs.Writing.{message_encoding}
use Rattle.stun_grammar.proofs.ChainsLemmas.{chain-none}
use Rattle.stun_grammar.proofs.HeadersLemmas.{frame_there, header_there}
use Rattle.stun_grammar.proofs.ParsingLemmas.{parsed_frame}
use Rattle.stun_grammar.proofs.WritingLemmas.{length-canonical, length-message}
use Rattle.stun_base.specs.declared.message_class.MessageClass.TheVariants.{Error as ErrorClass}
use Rattle.stun_types.specs.Replies.{response_type}
use Rattle.stun_values.specs.declared.algorithm.PasswordAlgorithmValue.{PasswordAlgorithmValue}
use Rattle.stun_values.specs.Algorithms.{algorithms_encoding}
use Rattle.stun_values.specs.ErrorValues.{error_value}
use Rattle.stun_authentication.specs.declared.answer.Refusal.TheVariants.{Unauthenticated}
use Rattle.stun_authentication.specs.Asking.{asked_for, listed}
use Rattle.stun_authentication.specs.Nonces.{Minting, minted}
use Rattle.stun_authentication.specs.Policies.{is_fingerprinted}
use Rattle.stun_authentication.specs.Refusing.{refusal_attributes, login_asked}
use Rattle.stun_authentication.specs.Writing.{finished}
use Rattle.stun_authentication.proofs.NoncesLemmas.{minted_length}

-- ---- The request

-- bytes that have no header of an attribute after that of a message show none
no_attribute : (b : List ℕ) → length b < 4 → first_attribute b ≡ None
unfolding first_attribute
no_attribute b few = cond-true (nat_lt (length b) 4) None _ (lt-ltb (length b) 4 few)

none_shown : (xs : List Attribute) → xs ≡ [] → placed 20 (shown_prefix xs) ≡ []
unfolding placed longest_prefix longest_within
none_shown xs none = ap (λ (ys : List Attribute). placed 20 (shown_prefix ys)) none

no_print : (r : List ℕ) → frame_fault r ≡ None → length r < 24 → is_fingerprinted r ≡ false
unfolding shown
no_print r frame few =
    let none : chain (drop 20 r) ≡ [] = chain-none (drop 20 r) (no_attribute (drop 20 r) (omega (arith, few, length-drop 20 r))) in
    let nothing : shown r ≡ [] = ap (λ f. if is_some f then [] else placed 20 (shown_prefix (chain (drop 20 r)))) frame ∙ none_shown (chain (drop 20 r)) none in
    ap (λ (xs : List Shown). is_some (slice_get (filter (λ a. a.type == FINGERPRINT) xs) 0)) nothing

-- a message has a header, and one with a FINGERPRINT an attribute
pub least : (r : List ℕ) → parse_fault r ≡ None → 20 + (if is_fingerprinted r then 4 else 0) ≤ length r
least r parsed =
    let frame = parsed_frame r parsed in
    let long = (header_there r (frame_there r frame)).0 in
    elim (cases_lt (length r) 24) [
      | inl few ↦ omega (arith, long, ap {B = ℕ} (λ (b : Bool). if b then 4 else 0) (no_print r frame few))
      | inr many ↦ omega (arith, many, most (is_fingerprinted r))
    ]
  where
    most : (b : Bool) → (if b then 4 else 0) ≤ 4
    most true = omega arith
    most false = omega arith

-- ---- The response

print_length : (d : List ℕ) (offset : ℕ) → length (fingerprint_value d offset) ≡ 4
unfolding fingerprint_value
print_length d offset = refl

all_lengths : (e r n l : Attribute) (more : List Attribute) → length (encodings (e ∷ r ∷ n ∷ l ∷ more)) ≡ length (encoding e) + (length (encoding r) + (length (encoding n) + (length (encoding l) + length (encodings more))))
all_lengths e r n l more =
    omega (
      arith,
      length-append (encoding e) (encodings (r ∷ n ∷ l ∷ more)),
      length-append (encoding r) (encodings (n ∷ l ∷ more)),
      length-append (encoding n) (encodings (l ∷ more)),
      length-append (encoding l) (encodings more),
    )

-- the attributes before a FINGERPRINT
abbrev attributes : (realm nonce : List ℕ) → (one other : PasswordAlgorithmValue) → List Attribute
attributes realm nonce one other = refusal_attributes Unauthenticated (Some (asked_for realm nonce (listed (one ∷ other ∷ []))))

sum : (realm nonce : List ℕ) (one other : PasswordAlgorithmValue) (more : List Attribute) → length realm < 2 ^ 16 → length nonce ≡ 35
    → length (encodings (attributes realm nonce one other ++ more)) ≡ 80 + padded_length (length realm) + length (encodings more)
sum realm nonce one other more fits long =
    let list = algorithms_encoding (one ∷ other ∷ []) in
    let eight : length list ≡ 8 = refl in
    let error = error_value 401 (codes "Unauthenticated") in
    let nineteen : length error ≡ 19 = refl in
    omega (
      arith,
      long,
      eight,
      nineteen,
      all_lengths (canonical ERROR_CODE error) (canonical REALM realm) (canonical NONCE nonce) (canonical PASSWORD_ALGORITHMS list) more,
      length-canonical ERROR_CODE error (omega arith) (omega (arith, nineteen)),
      length-canonical REALM realm (omega arith) fits,
      length-canonical NONCE nonce (omega arith) (omega (arith, long)),
      length-canonical PASSWORD_ALGORITHMS list (omega arith) (omega (arith, eight)),
    )

sized : (b : Bool) (kind id : ℕ) (realm nonce : List ℕ) (one other : PasswordAlgorithmValue) → length realm < 2 ^ 16 → length nonce ≡ 35
    → length (message_encoding kind id (finished b kind id (attributes realm nonce one other))) ≡ 100 + padded_length (length realm) + (if b then 8 else 0)
unfolding appended_by
sized false kind id realm nonce one other fits long =
    let before = attributes realm nonce one other in
    omega (arith, length-message kind id before, sum realm nonce one other [] fits long)
sized true kind id realm nonce one other fits long =
    let before = attributes realm nonce one other in
    let message = message_encoding kind id before in
    let value = fingerprint_value message (length message) in
    let print = canonical FINGERPRINT value in
    let same : length (message_encoding kind id (finished true kind id before)) ≡ length (message_encoding kind id (before ++ print ∷ [])) = refl in
    let four : length value ≡ 4 = print_length message (length message) in
    omega (
      arith,
      same,
      four,
      length-message kind id (before ++ print ∷ []),
      sum realm nonce one other (print ∷ []) fits long,
      length-append (encoding print) [],
      length-canonical FINGERPRINT value (omega arith) (omega (arith, four)),
    )

pub asked_length : (r realm place : List ℕ) (m : Minting) (time : ℕ) (one other : PasswordAlgorithmValue) → length realm < 2 ^ 16
    → length (login_asked r realm (minted m time place) (one ∷ other ∷ [])) ≡ 100 + padded_length (length realm) + (if is_fingerprinted r then 8 else 0)
asked_length r realm place m time one other fits = sized (is_fingerprinted r) (response_type ErrorClass r) (id_field r) realm (minted m time place) one other fits (minted_length m time place)

pub asked_short : (r realm place : List ℕ) (m : Minting) (time headers : ℕ) (one other : PasswordAlgorithmValue) → parse_fault r ≡ None → length realm ≤ 16 → 28 ≤ headers
    → length (login_asked r realm (minted m time place) (one ∷ other ∷ [])) + headers ≤ 3 * (length r + headers)
asked_short r realm place m time headers one other parsed short least-headers =
    let size = asked_length r realm place m time one other (omega (arith, short)) in
    by_print (is_fingerprinted r) (least r parsed) size
  where
    by_print : (b : Bool) → 20 + (if b then 4 else 0) ≤ length r → length (login_asked r realm (minted m time place) (one ∷ other ∷ [])) ≡ 100 + padded_length (length realm) + (if b then 8 else 0)
        → length (login_asked r realm (minted m time place) (one ∷ other ∷ [])) + headers ≤ 3 * (length r + headers)
    by_print true long is = omega (arith, long, is, short, least-headers)
    by_print false long is = omega (arith, long, is, short, least-headers)
