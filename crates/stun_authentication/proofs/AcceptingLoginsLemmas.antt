-- What holds if the rows of the long-term credential mechanism accept.
use Rattle.std.proofs.Common.{◌≡◌, ℕ, Bool, true, false, List, [], ◌∷◌, length, nat_eq, Option, Some, None, refl, sym, ap, subst, ◌∙◌}
use Rattle.std.specs.Prelude.{◌==◌, ◌&&◌, ◌||◌, not, is_some, unwrap_or, if◌then◌else◌, option_and_then}
use Rattle.std.specs.List.{AllByRecursion}
use Rattle.std.specs.Cmp.Lexicographic.{pointwise, bytes_decides}
use Rattle.std.specs.Option.{option_map_or, option_or}
use Rattle.stun_grammar.specs.Attributes.{Attribute}
use Rattle.stun_grammar.specs.Chains.{chain}
use Rattle.stun_grammar.specs.declared.integrity_algorithm.IntegrityAlgorithm.{IntegrityAlgorithm}
use Rattle.stun_grammar.specs.AttributeTypes.{NONCE, PASSWORD_ALGORITHM, PASSWORD_ALGORITHMS}
use Rattle.stun_values.specs.declared.algorithm.PasswordAlgorithmValue.{PasswordAlgorithmValue}
use Rattle.stun_values.specs.declared.algorithm.PasswordAlgorithmValue.TheVariants.{MD5}
use Rattle.stun_authentication.specs.declared.answer.Refusal.TheVariants.{Unauthenticated, StaleNonce}
use Rattle.stun_authentication.specs.declared.policy.Policy.{Policy}
use Rattle.stun_authentication.specs.Answers.{Decision, accept, refuse, Row, accepted}
use Rattle.stun_values.specs.Algorithms.{algorithm_number, algorithms_encoding}
use Rattle.stun_authentication.specs.Accepted.{IsLogin}
use Rattle.stun_authentication.specs.Cookies.{promises_algorithms}
use Rattle.stun_authentication.specs.Identities.{Who, value_of, identity_of}
use Rattle.stun_authentication.specs.Lists.{both, numbered, named_by, sole_named, first_among, first_listed}
use Rattle.stun_authentication.specs.Lookups.{UserKey, Known, valid, stale, unknown}
use Rattle.stun_authentication.specs.Policies.{is_taken, proof_of, proof_with}
use Rattle.stun_authentication.specs.LongTerm as long
use Rattle.stun_authentication.proofs.DecidedLemmas.{none_decides}
use Rattle.stun_authentication.proofs.AcceptingRowsLemmas.{proved, works_with, accepted_parts, kept_true, enough}

-- of one algorithm only that one is named
one_found : (b : Bool) (a x : PasswordAlgorithmValue) → (if b then Some a else None) ≡ Some x → a ≡ x
one_found true a x e = cc
one_found false a x e = absurd cc

one_named : (a : PasswordAlgorithmValue) (number : ℕ) (parameters : List ℕ) (x : PasswordAlgorithmValue) → named_by (a ∷ []) number parameters ≡ Some x → a ≡ x
one_named a number parameters x e = none_or (length parameters == 0) e
  where
    none_or : (b : Bool) → (if b then numbered (a ∷ []) number else None) ≡ Some x → a ≡ x
    none_or true found = one_found (algorithm_number a == number) a x found
    none_or false found = absurd cc

one_listed : (a : PasswordAlgorithmValue) (entries : List Attribute) (x : PasswordAlgorithmValue) → first_among (a ∷ []) entries ≡ Some x → a ≡ x
unfolding first_among
one_listed a [] x e = absurd cc
one_listed a (entry ∷ entries) x e = either (named_by (a ∷ []) entry.type entry.value) (first_among (a ∷ []) entries) (one_named a entry.type entry.value x) (one_listed a entries x) e
  where
    either : (o rest : Option PasswordAlgorithmValue) → (o ≡ Some x → a ≡ x) → (rest ≡ Some x → a ≡ x) → option_or o rest ≡ Some x → a ≡ x
    either (Some y) rest one other found = one found
    either None rest one other found = other found

valid_state : (state : Known) → not (long.is_valid state) ≡ false → (sent : List PasswordAlgorithmValue) × (state ≡ valid sent)
valid_state (valid sent) e = (sent, refl)
valid_state stale e = absurd cc
valid_state unknown e = absurd cc

valid_nonce : (nonces : List ℕ → Known) (o : Option (List ℕ)) → not (long.is_valid (option_map_or nonces o unknown)) ≡ false → (nonce : List ℕ) × ((o ≡ Some nonce) × ((sent : List PasswordAlgorithmValue) × (nonces nonce ≡ valid sent)))
valid_nonce nonces None e = absurd cc
valid_nonce nonces (Some nonce) e = (nonce, (refl, valid_state (nonces nonce) e))

shown_if : (b : Bool) (o : Option (List ℕ)) (x : List ℕ) → (if b then o else None) ≡ Some x → o ≡ Some x
shown_if true o x e = e
shown_if false o x e = absurd cc

-- the list is the one that was sent, and the algorithm on it; or there is neither
is_there : (a x : PasswordAlgorithmValue) (entries : List Attribute) (o : Option PasswordAlgorithmValue) → first_among (a ∷ []) entries ≡ o → not (is_some o) ≡ false → first_among (a ∷ []) entries ≡ Some a
is_there a x entries None is e = absurd cc
is_there a x entries (Some y) is e = subst (λ (z : PasswordAlgorithmValue). first_among (a ∷ []) entries ≡ Some z) (sym (one_listed a entries y is)) is

listed_in : (sent : List PasswordAlgorithmValue) (one list : Option (List ℕ)) (choice : Option PasswordAlgorithmValue) → option_and_then (λ (value : List ℕ). sole_named both value) one ≡ choice
    → ((is_some one || is_some list) && not (is_some one && is_some list)) ≡ false
    → option_map_or (λ (l : List ℕ). not (long.is_sent (valid sent) l)) list false ≡ false
    → option_map_or (λ (l : List ℕ). not (option_map_or (λ (a : PasswordAlgorithmValue). long.is_listed l a) choice false)) list false ≡ false
    → (x : PasswordAlgorithmValue) → choice ≡ Some x → (list ≡ Some (algorithms_encoding sent)) × (first_listed (x ∷ []) (algorithms_encoding sent) ≡ Some x)
listed_in sent None list None which alone other unlisted x is = absurd cc
listed_in sent None list (Some y) which alone other unlisted x is = absurd cc
listed_in sent (Some o) None choice which alone other unlisted x is = absurd cc
listed_in sent (Some o) (Some l) None which alone other unlisted x is = absurd cc
listed_in sent (Some o) (Some l) (Some y) which alone other unlisted x is =
    let same : y ≡ x = cc in
    let equal : l ≡ algorithms_encoding sent = (bytes_decides l (algorithms_encoding sent)).0 (kept_true (pointwise nat_eq l (algorithms_encoding sent)) other) in
    let there : first_listed (y ∷ []) l ≡ Some y = is_there y x (chain l) (first_listed (y ∷ []) l) refl unlisted in
    (ap (λ (b : List ℕ). Some b) equal, subst (λ (b : List ℕ). first_listed (x ∷ []) b ≡ Some x) equal (subst (λ (z : PasswordAlgorithmValue). first_listed (z ∷ []) l ≡ Some z) same there))

unlisted_in : (one list : Option (List ℕ)) (choice : Option PasswordAlgorithmValue) → ((is_some one || is_some list) && not (is_some one && is_some list)) ≡ false
    → option_map_or (λ (l : List ℕ). not (option_map_or (λ (a : PasswordAlgorithmValue). long.is_listed l a) choice false)) list false ≡ false
    → choice ≡ None → (one ≡ None) × (list ≡ None)
unlisted_in None None choice alone unlisted is = (refl, refl)
unlisted_in None (Some l) choice alone unlisted is = absurd cc
unlisted_in (Some o) None choice alone unlisted is = absurd cc
unlisted_in (Some o) (Some l) None alone unlisted is = absurd cc
unlisted_in (Some o) (Some l) (Some y) alone unlisted is = absurd cc

-- what a request that is accepted by long-term credentials passes: no row before a key is looked up
-- decides, nor one after it
record Passes (policy : Policy) (realm : List ℕ) (nonces : List ℕ → Known) (keys : Who → List ℕ → PasswordAlgorithmValue → Option UserKey) (d : List ℕ) (user : Who) (key : UserKey) (a reply : IntegrityAlgorithm) : Type 0 where
  message : AllByRecursion (λ (row : Row). row.0 ≡ false) (long.rows_of_message policy (long.nonce_of nonces d) d)
  is_valid : not (long.is_valid (long.nonce_of nonces d)) ≡ false
  found : long.key_of_user realm keys d ≡ Some key
  proof : proof_of policy key d ≡ Some a
  reply_by : long.reply_algorithm (long.chosen d) ≡ reply
  identified : identity_of d ≡ Some user

passes : (policy : Policy) (realm : List ℕ) (nonces : List ℕ → Known) (keys : Who → List ℕ → PasswordAlgorithmValue → Option UserKey) (d : List ℕ) (user : Who) (key : UserKey) (a reply : IntegrityAlgorithm)
    → long.long_term policy realm nonces keys d ≡ accept user key a reply → Passes policy realm nonces keys d user key a reply
passes policy realm nonces keys d user key a reply e =
    let goal : Decision = accept user key a reply in
    let state = long.nonce_of nonces d in
    let k = long.key_of_user realm keys d in
    let one = none_decides (long.rows_of_message policy state d) (long.by_key policy state (long.chosen d) k d) goal
    ((λ f. cc), ((λ f. cc), ((λ f. cc), ((λ f. cc), ((λ f. cc), ((λ f. cc), ((λ f. cc), ((λ f. cc), tt)))))))) e in
    let two = none_decides ((not (is_some k), refuse Unauthenticated) ∷ (not (is_some (proof_with policy k d)), refuse Unauthenticated) ∷ (not (long.is_valid state), refuse StaleNonce) ∷ [])
    (accepted (identity_of d) k (proof_with policy k d) (λ _. long.reply_algorithm (long.chosen d))) goal ((λ f. cc), ((λ f. cc), ((λ f. cc), tt))) one.1 in
    let parts = accepted_parts (identity_of d) k (proof_with policy k d) (λ _. long.reply_algorithm (long.chosen d)) user key a reply two.1 in
    record {
      message = one.0;
      is_valid = two.0.1.1.0;
      found = parts.0;
      proof = ap (λ (o : Option UserKey). proof_with policy o d) (sym parts.0) ∙ parts.1.0;
      reply_by = parts.1.1.0;
      identified = parts.1.1.1;
    }

pub long_term_proof : (policy : Policy) (realm : List ℕ) (nonces : List ℕ → Known) (keys : Who → List ℕ → PasswordAlgorithmValue → Option UserKey) (d : List ℕ) (user : Who) (key : UserKey) (a reply : IntegrityAlgorithm)
    → long.long_term policy realm nonces keys d ≡ accept user key a reply → proof_of policy key d ≡ Some a
long_term_proof policy realm nonces keys d user key a reply e = (passes policy realm nonces keys d user key a reply e).proof

pub long_term_login : (policy : Policy) (realm : List ℕ) (nonces : List ℕ → Known) (keys : Who → List ℕ → PasswordAlgorithmValue → Option UserKey) (d : List ℕ) (user : Who) (key : UserKey) (a reply : IntegrityAlgorithm)
    → long.long_term policy realm nonces keys d ≡ accept user key a reply → IsLogin policy realm nonces keys d user key a reply
long_term_login policy realm nonces keys d user key a reply e =
    let p = passes policy realm nonces keys d user key a reply e in
    let by = proved policy d key a p.proof in
    let found : keys user realm (unwrap_or (long.chosen d) MD5) ≡ Some key = sym (ap (option_and_then (λ (u : Who). keys u realm (unwrap_or (long.chosen d) MD5))) p.identified) ∙ p.found in
    let nonce = valid_nonce nonces (value_of d NONCE) p.is_valid in
    let sent = nonce.1.1.0 in
    let state-is : long.nonce_of nonces d ≡ valid sent = ap (λ (o : Option (List ℕ)). option_map_or nonces o unknown) nonce.1.0 ∙ nonce.1.1.1 in
    let third = p.message.1.1.1.1.1 in
    let other : long.shows_other_list (valid sent) d ≡ false = ap (λ (s : Known). long.shows_other_list s d) (sym state-is) ∙ third.1.0 in
    let one = long.promised PASSWORD_ALGORITHM d in
    let list = long.promised PASSWORD_ALGORITHMS d in
    record {
      identified = p.identified;
      nonce = nonce.0;
      shown = nonce.1.0;
      sent = sent;
      is_valid = nonce.1.1.1;
      listed = λ x is.
          let both-are = listed_in sent one list (long.chosen d) refl third.0 other third.1.1.0 x is in
          (shown_if (option_map_or promises_algorithms (value_of d NONCE) false) (value_of d PASSWORD_ALGORITHMS) (algorithms_encoding sent) both-are.0, both-are.1);
      unlisted = unlisted_in one list (long.chosen d) third.0 third.1.1.0;
      known = found;
      works = (works_with policy d key a by).1;
      counts = (works_with policy d key a by).0;
      reply_by = p.reply_by;
      long_enough = enough policy d key a by;
      taken = kept_true (is_taken policy d) p.message.0;
    }
