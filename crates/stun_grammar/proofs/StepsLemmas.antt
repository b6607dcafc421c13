-- What accepted steps write is a message that may be written, and it validates.
use Rattle.std.proofs.Common.{◌≡◌, ℕ, ◌+◌, ◌^◌, ◌<◌, Bool, true, false, eqb, ◌||◌, List, [], ◌∷◌, ◌++◌, length, Option, Some, None, Ok, refl, sym, ap, subst, ◌∙◌, append_assoc, arith, inl, inr}
use Rattle.std.specs.Prelude.{find}
use Rattle.std.specs.List.{AllByRecursion, list_any}
use Rattle.std.specs.Option.{option_map_or}
use Rattle.std.proofs.lemmas.Bool.{cases_Bool, or_parts, or_from, cond-true, cond-false, eq-eqb, ne_eqb}
use Rattle.std.proofs.lemmas.List.{length-append, map-append, append-nil}
use Rattle.std.proofs.lemmas.List.Folds.{list_any-append}
use Rattle.std.proofs.lemmas.List.Concat.{flat_map-append}
use Rattle.stun_grammar.specs.declared.integrity_algorithm.IntegrityAlgorithm.{IntegrityAlgorithm}
use Rattle.stun_grammar.specs.declared.integrity_algorithm.IntegrityAlgorithm.TheVariants.{Sha1, Sha256}
use Rattle.stun_grammar.specs.Numbers.{padded_length}
use Rattle.stun_grammar.specs.Attributes.{Attribute, encoding, encodings, types}
use Rattle.stun_grammar.specs.Chains.{Shown, placed}
use Rattle.stun_grammar.specs.AttributeTypes.{MESSAGE_INTEGRITY, MESSAGE_INTEGRITY_SHA256, FINGERPRINT, is_ending}
use Rattle.stun_grammar.specs.ScannedOrder.{has}
use Rattle.stun_grammar.specs.ShownOrder.{in_order, optional}
use Rattle.stun_grammar.specs.Parsing.{parse_fault}
use Rattle.stun_grammar.specs.Showing.{shown}
use Rattle.stun_grammar.specs.Fingerprints.{fingerprint_fault, first_fingerprint_fault}
use Rattle.stun_grammar.specs.Verdicts.{type_of_algorithm, is_checked_type, verdict}
use Rattle.stun_grammar.specs.Writing.{message_encoding, IsWritable}
use Rattle.stun_grammar.specs.Steps.{Step, add, sign, finger, appended_by, with_step, IsEncodable, IsOrdinaryStep, barring_types, value_length, is_signing, sign_given, signing_bars, SignsAs}
use Rattle.stun_grammar.specs.Sending.{body_from, Sent, body, sent_encoding, MayFollow, EachMayFollow, IsAccepted, written_by}
use Rattle.stun_grammar.proofs.AttributesLemmas.{length-encoding-is}
use Rattle.stun_grammar.proofs.ShownOrderLemmas.{in_order-nil, is_ending-ordinary}
use Rattle.stun_grammar.proofs.AddingRefusedLemmas.{no_refusal, not_barred}
use Rattle.stun_grammar.proofs.ShownOrderCutLemmas.{ordered-is, in_order-from}
use Rattle.stun_grammar.proofs.ParsingLemmas.{find_none}
use Rattle.stun_grammar.proofs.WritingLemmas.{length-message, parse-message, shown-message, right_where_computed}
use Rattle.stun_grammar.proofs.ShowingLemmas.{AllByRecursion-append, AllByRecursion-behind}
use Rattle.stun_grammar.proofs.VerdictsLemmas.{both, order_split}
use Rattle.stun_grammar.proofs.AuthenticLemmas.{wanted_own, none_same}
use Rattle.stun_grammar.proofs.StepsSignedLemmas.{value_is, appended_is, signed_validates}
use Rattle.stun_grammar.proofs.OriginLemmas.{step_each}

-- ---- One more type keeps the order

find_nothing : (p : ℕ → Bool) (xs : List ℕ) → find p xs ≡ None → list_any p xs ≡ false
find_nothing p [] e = refl
find_nothing p (x ∷ xs) e = elim (cases_Bool (p x)) [
  | inl passed ↦ absurd (cc (e, cond-true (p x) (Some x) (find p xs) passed))
  | inr failed ↦ or_from (p x) (list_any p xs) failed (find_nothing p xs (sym (cond-false (p x) (Some x) (find p xs) failed) ∙ e))
]

weaker : (p q : ℕ → Bool) (xs : List ℕ) → ((x : ℕ) → p x ≡ false → q x ≡ false) → list_any p xs ≡ false → list_any q xs ≡ false
weaker p q [] h e = refl
weaker p q (x ∷ xs) h e =
    let both-are = or_parts (p x) (list_any p xs) e in
    or_from (q x) (list_any q xs) (h x both-are.0) (weaker p q xs h both-are.1)

all_fail : (p : ℕ → Bool) (xs : List ℕ) → list_any p xs ≡ false → AllByRecursion (λ x. p x ≡ false) xs
all_fail p [] e = tt
all_fail p (x ∷ xs) e = let h = or_parts (p x) (list_any p xs) e in (h.0, all_fail p xs h.1)

behind_any : (p : ℕ → Bool) (xs ys : List ℕ) → list_any p (xs ++ ys) ≡ false → list_any p ys ≡ false
behind_any p xs ys e = (or_parts (list_any p xs) (list_any p ys) (sym (list_any-append p xs ys) ∙ e)).1

push_ordinary : (ks : List ℕ) (k : ℕ) → list_any is_ending ks ≡ false → is_ending k ≡ false → in_order (ks ++ k ∷ []) ≡ true
push_ordinary ks k none plain = in_order-from (ks ++ k ∷ []) (record {
  ordinary = ks ++ k ∷ [];
  integrity = false;
  sha256 = false;
  fingerprint = false;
  none_ends = AllByRecursion-append (λ x. is_ending x ≡ false) ks (k ∷ []) (all_fail is_ending ks none) (plain, tt);
  whole = sym (append-nil (ks ++ k ∷ []));
})

push_integrity : (ks : List ℕ) → list_any is_ending ks ≡ false → in_order (ks ++ MESSAGE_INTEGRITY ∷ []) ≡ true
push_integrity ks none = in_order-from (ks ++ MESSAGE_INTEGRITY ∷ []) (record {
  ordinary = ks;
  integrity = true;
  sha256 = false;
  fingerprint = false;
  none_ends = all_fail is_ending ks none;
  whole = refl;
})

abbrev sha256_barred : ℕ → Bool
sha256_barred t = eqb t MESSAGE_INTEGRITY_SHA256 || eqb t FINGERPRINT

push_sha256 : (ks : List ℕ) → in_order ks ≡ true → list_any sha256_barred ks ≡ false → in_order (ks ++ MESSAGE_INTEGRITY_SHA256 ∷ []) ≡ true
push_sha256 ks ordered none =
    let is = ordered-is ks ordered in
    let ends : list_any sha256_barred (optional is.sha256 MESSAGE_INTEGRITY_SHA256 ++ optional is.fingerprint FINGERPRINT) ≡ false =
    behind_any sha256_barred (optional is.integrity MESSAGE_INTEGRITY) _ (behind_any sha256_barred is.ordinary _ (ap (list_any sha256_barred) (sym is.whole) ∙ none)) in
    by_flags is.ordinary is.integrity is.sha256 is.fingerprint is.none_ends is.whole ends
  where
    by_flags : (o : List ℕ) (i s f : Bool) → AllByRecursion (λ k. is_ending k ≡ false) o → ks ≡ o ++ (optional i MESSAGE_INTEGRITY ++ (optional s MESSAGE_INTEGRITY_SHA256 ++ optional f FINGERPRINT))
        → list_any sha256_barred (optional s MESSAGE_INTEGRITY_SHA256 ++ optional f FINGERPRINT) ≡ false → in_order (ks ++ MESSAGE_INTEGRITY_SHA256 ∷ []) ≡ true
    by_flags o i true f all e h = absurd cc
    by_flags o i false true all e h = absurd cc
    by_flags o i false false all e h = in_order-from (ks ++ MESSAGE_INTEGRITY_SHA256 ∷ []) (record {
      ordinary = o;
      integrity = i;
      sha256 = true;
      fingerprint = false;
      none_ends = all;
      whole = ap (λ (xs : List ℕ). xs ++ MESSAGE_INTEGRITY_SHA256 ∷ []) e
          ∙ append_assoc o (optional i MESSAGE_INTEGRITY ++ []) (MESSAGE_INTEGRITY_SHA256 ∷ [])
          ∙ ap (λ (xs : List ℕ). o ++ xs) (append_assoc (optional i MESSAGE_INTEGRITY) [] (MESSAGE_INTEGRITY_SHA256 ∷ []));
    })

abbrev is_print : ℕ → Bool
is_print t = eqb t FINGERPRINT

push_fingerprint : (ks : List ℕ) → in_order ks ≡ true → list_any is_print ks ≡ false → in_order (ks ++ FINGERPRINT ∷ []) ≡ true
push_fingerprint ks ordered none =
    let is = ordered-is ks ordered in
    let ends : list_any is_print (optional is.fingerprint FINGERPRINT) ≡ false =
    behind_any is_print (optional is.sha256 MESSAGE_INTEGRITY_SHA256) _ (behind_any is_print (optional is.integrity MESSAGE_INTEGRITY) _ (behind_any is_print is.ordinary _ (ap (list_any is_print) (sym is.whole) ∙ none))) in
    by_flags is.ordinary is.integrity is.sha256 is.fingerprint is.none_ends is.whole ends
  where
    by_flags : (o : List ℕ) (i s f : Bool) → AllByRecursion (λ k. is_ending k ≡ false) o → ks ≡ o ++ (optional i MESSAGE_INTEGRITY ++ (optional s MESSAGE_INTEGRITY_SHA256 ++ optional f FINGERPRINT))
        → list_any is_print (optional f FINGERPRINT) ≡ false → in_order (ks ++ FINGERPRINT ∷ []) ≡ true
    by_flags o i s true all e h = absurd cc
    by_flags o i s false all e h = in_order-from (ks ++ FINGERPRINT ∷ []) (record {
      ordinary = o;
      integrity = i;
      sha256 = s;
      fingerprint = true;
      none_ends = all;
      whole = ap (λ (xs : List ℕ). xs ++ FINGERPRINT ∷ []) e
          ∙ append_assoc o (optional i MESSAGE_INTEGRITY ++ (optional s MESSAGE_INTEGRITY_SHA256 ++ [])) (FINGERPRINT ∷ [])
          ∙ ap (λ (xs : List ℕ). o ++ xs) (append_assoc (optional i MESSAGE_INTEGRITY) (optional s MESSAGE_INTEGRITY_SHA256 ++ []) (FINGERPRINT ∷ [])
          ∙ ap (λ (xs : List ℕ). optional i MESSAGE_INTEGRITY ++ xs) (append_assoc (optional s MESSAGE_INTEGRITY_SHA256) [] (FINGERPRINT ∷ [])));
    })

-- ---- What blocks a step

flip : (a t : ℕ) → eqb a t ≡ false → eqb t a ≡ false
flip a t e = ne_eqb t a (λ is. absurd (cc (e, eq-eqb a t (sym is))))

not_print : (t : ℕ) → has t (FINGERPRINT ∷ []) ≡ false → is_print t ≡ false
not_print t e = flip FINGERPRINT t (or_parts (eqb FINGERPRINT t) false e).0

not_sha256 : (t : ℕ) → has t (MESSAGE_INTEGRITY_SHA256 ∷ (FINGERPRINT ∷ [])) ≡ false → sha256_barred t ≡ false
not_sha256 t e =
    let parts = or_parts (eqb MESSAGE_INTEGRITY_SHA256 t) (has t (FINGERPRINT ∷ [])) e in
    or_from (eqb t MESSAGE_INTEGRITY_SHA256) (is_print t) (flip MESSAGE_INTEGRITY_SHA256 t parts.0) (not_print t parts.1)

not_ending : (t : ℕ) → has t (MESSAGE_INTEGRITY ∷ (MESSAGE_INTEGRITY_SHA256 ∷ (FINGERPRINT ∷ []))) ≡ false → is_ending t ≡ false
not_ending t e =
    let parts = or_parts (eqb MESSAGE_INTEGRITY t) (has t (MESSAGE_INTEGRITY_SHA256 ∷ (FINGERPRINT ∷ []))) e in
    or_from (eqb t MESSAGE_INTEGRITY) (sha256_barred t) (flip MESSAGE_INTEGRITY t parts.0) (not_sha256 t parts.1)

-- the types that an integrity attribute may not follow
abbrev signing_barred_by : IntegrityAlgorithm → ℕ → Bool
signing_barred_by Sha1 t = is_ending t
signing_barred_by Sha256 t = sha256_barred t

no_signing_bar : (algorithm : IntegrityAlgorithm) (ts : List ℕ) → find (λ t. has t (signing_bars algorithm)) ts ≡ None → list_any (signing_barred_by algorithm) ts ≡ false
no_signing_bar Sha1 ts e = weaker (λ t. has t (signing_bars Sha1)) is_ending ts not_ending (find_nothing (λ t. has t (signing_bars Sha1)) ts e)
no_signing_bar Sha256 ts e = weaker (λ t. has t (signing_bars Sha256)) sha256_barred ts not_sha256 (find_nothing (λ t. has t (signing_bars Sha256)) ts e)

-- the types that a step may not follow
abbrev pub is_barred : Step → ℕ → Bool
is_barred (add type value) t = is_ending t
is_barred (sign algorithm key) t = signing_barred_by algorithm t
is_barred (sign_given algorithm hmac) t = signing_barred_by algorithm t
is_barred finger t = is_print t

pub none_bars : (step : Step) (ts : List ℕ) → find (λ t. has t (barring_types step)) ts ≡ None → list_any (is_barred step) ts ≡ false
none_bars (add type value) ts e = weaker (λ t. has t (barring_types (add type value))) is_ending ts not_ending (find_nothing (λ t. has t (barring_types (add type value))) ts e)
none_bars (sign algorithm key) ts e = no_signing_bar algorithm ts e
none_bars (sign_given algorithm hmac) ts e = no_signing_bar algorithm ts e
none_bars finger ts e = weaker (λ t. has t (barring_types finger)) is_print ts not_print (find_nothing (λ t. has t (barring_types finger)) ts e)

-- ---- One more step keeps a message writable

types_push : (xs : List Attribute) (a : Attribute) → types (xs ++ a ∷ []) ≡ types xs ++ a.type ∷ []
types_push xs a = map-append (λ x. x.type) xs (a ∷ [])

ordinary_print : (x : ℕ) → is_ending x ≡ false → is_print x ≡ false
ordinary_print x e = (or_parts (eqb x MESSAGE_INTEGRITY_SHA256) (is_print x) (or_parts (eqb x MESSAGE_INTEGRITY) _ e).1).1

integrity_ordered : (algorithm : IntegrityAlgorithm) (ks : List ℕ) → in_order ks ≡ true → list_any (signing_barred_by algorithm) ks ≡ false → in_order (ks ++ type_of_algorithm algorithm ∷ []) ≡ true
integrity_ordered Sha1 ks ordered none = push_integrity ks none
integrity_ordered Sha256 ks ordered none = push_sha256 ks ordered none

pub step_ordered : (message : List ℕ) (step : Step) (ks : List ℕ) → in_order ks ≡ true → list_any (is_barred step) ks ≡ false → IsOrdinaryStep step → in_order (ks ++ (appended_by step message).type ∷ []) ≡ true
unfolding appended_by
step_ordered message (add type value) ks ordered none plain = push_ordinary ks type none (is_ending-ordinary type plain.0 plain.1 plain.2)
step_ordered message (sign algorithm key) ks ordered none plain = integrity_ordered algorithm ks ordered none
step_ordered message (sign_given algorithm hmac) ks ordered none plain = integrity_ordered algorithm ks ordered none
step_ordered message finger ks ordered none plain = push_fingerprint ks ordered none

no_print_there : (algorithm : IntegrityAlgorithm) (ts : List ℕ) → list_any (signing_barred_by algorithm) ts ≡ false → has FINGERPRINT ts ≡ false
no_print_there Sha1 ts none = weaker is_ending is_print ts ordinary_print none
no_print_there Sha256 ts none = weaker sha256_barred is_print ts (λ x e. (or_parts (eqb x MESSAGE_INTEGRITY_SHA256) (is_print x) e).1) none

-- a step that may follow these types follows no FINGERPRINT
pub none_prints : (step : Step) (ts : List ℕ) → list_any (is_barred step) ts ≡ false → has FINGERPRINT ts ≡ false
none_prints (add t v) ts none = weaker is_ending is_print ts ordinary_print none
none_prints (sign algorithm key) ts none = no_print_there algorithm ts none
none_prints (sign_given algorithm hmac) ts none = no_print_there algorithm ts none
none_prints finger ts none = none

-- a message without a FINGERPRINT has none that does not match
without : (type id : ℕ) (xs : List Attribute) (a : Attribute) → list_any is_print (types xs) ≡ false → is_print a.type ≡ false
    → first_fingerprint_fault (message_encoding type id (xs ++ a ∷ [])) (placed 20 (xs ++ a ∷ [])) ≡ None
without type id xs a none one =
    let all : has FINGERPRINT (types (xs ++ a ∷ [])) ≡ false = ap (list_any is_print) (types_push xs a) ∙ list_any-append is_print (types xs) (a.type ∷ []) ∙ or_from _ _ none (or_from _ _ one refl) in
    ap (λ (o : Option Shown). option_map_or (λ y. fingerprint_fault (message_encoding type id (xs ++ a ∷ [])) y.offset y.value) o None) (find_none 20 (xs ++ a ∷ []) all)

own_print : (algorithm : IntegrityAlgorithm) → is_print (type_of_algorithm algorithm) ≡ false
own_print Sha1 = refl
own_print Sha256 = refl

step_right : (type id : ℕ) (xs : List Attribute) (step : Step) → list_any (is_barred step) (types xs) ≡ false → IsOrdinaryStep step
    → first_fingerprint_fault (message_encoding type id (with_step type id xs step)) (placed 20 (with_step type id xs step)) ≡ None
unfolding appended_by
step_right type id xs (add t v) none plain = without type id xs _ (none_prints (add t v) (types xs) none) (ordinary_print t (is_ending-ordinary t plain.0 plain.1 plain.2))
step_right type id xs (sign algorithm key) none plain = without type id xs _ (no_print_there algorithm (types xs) none) (own_print algorithm)
step_right type id xs (sign_given algorithm hmac) none plain = without type id xs _ (no_print_there algorithm (types xs) none) (own_print algorithm)
step_right type id xs finger none plain = right_where_computed type id xs [] none

-- the length of the message with one more step
pub length-with_step : (type id : ℕ) (before : List Attribute) (step : Step) → IsEncodable step
    → length (message_encoding type id (with_step type id before step)) ≡ length (message_encoding type id before) + (4 + padded_length (value_length step))
length-with_step type id before step lawful =
    let message = message_encoding type id before in
    let a = appended_by step message in
    omega (
      arith,
      length-message type id before,
      length-message type id (with_step type id before step),
      length-encoding-is a (appended_is step message lawful),
      value_is step message,
      ap length (flat_map-append encoding before (a ∷ [])),
      length-append (encodings before) (encoding a ++ []),
      length-append (encoding a) [],
    )

pub step_writable : (type id : ℕ) (before : List Attribute) (step : Step) → IsWritable type id before → MayFollow type id before step → IsEncodable step → IsOrdinaryStep step → IsWritable type id (with_step type id before step)
step_writable type id before step so may lawful plain =
    let message = message_encoding type id before in
    let none = none_bars step (types before) (not_barred step (types before) (length message) None may) in
    record {
      type_fits = so.type_fits;
      id_fits = so.id_fits;
      each = step_each type id before step so.each lawful;
      length_fits = omega (arith, length-with_step type id before step lawful, (no_refusal step (types before) (length message) None may).fits);
      ordered = ap in_order (types_push before (appended_by step message)) ∙ step_ordered message step (types before) so.ordered none plain;
      fingerprint = step_right type id before step none plain;
    }

pub none_writable : (type id : ℕ) → type < 2 ^ 14 → id < 2 ^ 96 → IsWritable type id []
unfolding placed
none_writable type id t i = record { type_fits = t; id_fits = i; each = tt; length_fits = omega (arith, length-message type id []); ordered = in_order-nil; fingerprint = refl }

writable_from : (type id : ℕ) (before : List Attribute) (steps : List Step) → IsWritable type id before → EachMayFollow type id before steps → AllByRecursion IsEncodable steps → AllByRecursion IsOrdinaryStep steps
    → IsWritable type id (body_from type id before steps)
unfolding body_from EachMayFollow
writable_from type id before [] so may lawful plain = so
writable_from type id before (step ∷ steps) so may lawful plain =
    writable_from type id (with_step type id before step) steps (step_writable type id before step so may.0 lawful.0 plain.0) may.1 lawful.1 plain.1

pub is_writable : (sent : Sent) → IsAccepted sent → IsWritable sent.type sent.id (body sent)
is_writable sent ok = writable_from sent.type sent.id [] sent.steps (none_writable sent.type sent.id ok.encodable.type_fits ok.encodable.id_fits) ok.accepted ok.encodable.steps ok.ordinary

pub sent_parses : (sent : Sent) → IsAccepted sent → parse_fault (sent_encoding sent) ≡ None
sent_parses sent ok = parse-message sent.type sent.id (body sent) (is_writable sent ok)

pub sent_shows : (sent : Sent) → IsAccepted sent → shown (sent_encoding sent) ≡ placed 20 (body sent)
sent_shows sent ok = shown-message sent.type sent.id (body sent) (is_writable sent ok)

-- ---- What validates

-- steps append to the attributes of a message
pub record Grows (type id : ℕ) (before : List Attribute) (steps : List Step) : Type 0 where
  pub more : List Attribute
  pub is : body_from type id before steps ≡ before ++ more
  pub quiet : list_any is_signing steps ≡ false → AllByRecursion IsOrdinaryStep steps → list_any both (types more) ≡ false

ordinary_both : (x : ℕ) → is_ending x ≡ false → both x ≡ false
ordinary_both x e =
    let h = or_parts (eqb x MESSAGE_INTEGRITY) _ e in
    or_from _ _ h.0 (or_parts (eqb x MESSAGE_INTEGRITY_SHA256) (is_print x) h.1).0

step_quiet : (message : List ℕ) (step : Step) → is_signing step ≡ false → IsOrdinaryStep step → both (appended_by step message).type ≡ false
unfolding appended_by
step_quiet message (add t v) e plain = ordinary_both t (is_ending-ordinary t plain.0 plain.1 plain.2)
step_quiet message (sign a key) e plain = absurd cc
step_quiet message (sign_given a hmac) e plain = absurd cc
step_quiet message finger e plain = refl

pub grows : (type id : ℕ) (before : List Attribute) (steps : List Step) → Grows type id before steps
unfolding body_from
grows type id before [] = record { more = []; is = sym (append-nil before); quiet = λ e plain. refl }
grows type id before (step ∷ steps) =
    let a = appended_by step (message_encoding type id before) in
    let later = grows type id (before ++ a ∷ []) steps in
    record {
      more = a ∷ later.more;
      is = later.is ∙ append_assoc before (a ∷ []) later.more;
      quiet = λ e plain.
          let h = or_parts (is_signing step) (list_any is_signing steps) e in
          or_from (both a.type) (list_any both (types later.more)) (step_quiet (message_encoding type id before) step h.0 plain.0) (later.quiet h.1 plain.1);
    }

pub body_from-append : (type id : ℕ) (before : List Attribute) (xs ys : List Step) → body_from type id before (xs ++ ys) ≡ body_from type id (body_from type id before xs) ys
unfolding body_from
body_from-append type id before [] ys = refl
body_from-append type id before (x ∷ xs) ys = body_from-append type id (before ++ appended_by x (message_encoding type id before) ∷ []) xs ys

-- a step that signs, and the attributes that follow its own
record SignedAt (type id : ℕ) (attributes : List Attribute) (algorithm : IntegrityAlgorithm) (key : List ℕ) (behind : List Step) : Type 0 where
  before : List Attribute
  more : List Attribute
  is : attributes ≡ before ++ appended_by (sign algorithm key) (message_encoding type id before) ∷ more
  quiet : list_any is_signing behind ≡ false → AllByRecursion IsOrdinaryStep behind → list_any both (types more) ≡ false

signed_at : (type id : ℕ) (steps before : List Step) (step : Step) (algorithm : IntegrityAlgorithm) (key : List ℕ) (behind : List Step) → steps ≡ before ++ step ∷ behind
    → SignsAs step (written_by type id before) algorithm key → SignedAt type id (body_from type id [] steps) algorithm key behind
unfolding body_from
signed_at type id steps before step algorithm key behind e own =
    let prefix = body_from type id [] before in
    let a = appended_by (sign algorithm key) (message_encoding type id prefix) in
    let g = grows type id (prefix ++ a ∷ []) behind in
    record {
      before = prefix;
      more = g.more;
      is = ap (body_from type id []) e ∙ body_from-append type id [] before (step ∷ behind) ∙ ap (λ (x : Attribute). body_from type id (prefix ++ x ∷ []) behind) own ∙ g.is ∙ append_assoc prefix (a ∷ []) g.more;
      quiet = g.quiet;
    }

validates_at : (sent : Sent) (attributes : List Attribute) (a : IntegrityAlgorithm) (key : IntegrityAlgorithm → List ℕ) (behind : List Step) (wanted : ℕ → Bool) (at : SignedAt sent.type sent.id attributes a (key a) behind)
    → IsWritable sent.type sent.id attributes → wanted (type_of_algorithm a) ≡ true → list_any wanted (types at.more) ≡ false
    → verdict wanted key (message_encoding sent.type sent.id attributes) ≡ Ok a
validates_at sent attributes a key behind wanted at so asked none =
    ap (λ (xs : List Attribute). verdict wanted key (message_encoding sent.type sent.id xs)) at.is
    ∙ signed_validates sent.type sent.id at.before at.more a key wanted (subst (IsWritable sent.type sent.id) at.is so) asked none

own_type : (a : IntegrityAlgorithm) → both (type_of_algorithm a) ≡ true
own_type Sha1 = refl
own_type Sha256 = refl

-- a message validates with the key of the last step that signs
pub last_validates : (sent : Sent) (before behind : List Step) (step : Step) (a : IntegrityAlgorithm) (key : IntegrityAlgorithm → List ℕ) → IsAccepted sent
    → sent.steps ≡ before ++ step ∷ behind → SignsAs step (written_by sent.type sent.id before) a (key a) → list_any is_signing behind ≡ false → verdict (is_checked_type None) key (sent_encoding sent) ≡ Ok a
last_validates sent before behind step a key ok e own none =
    let at = signed_at sent.type sent.id sent.steps before step a (key a) behind e own in
    let plain : AllByRecursion IsOrdinaryStep behind = (AllByRecursion-behind IsOrdinaryStep before (step ∷ behind) (subst (AllByRecursion IsOrdinaryStep) e ok.ordinary)).1 in
    validates_at sent (body sent) a key behind (is_checked_type None) at (is_writable sent ok) (own_type a) (at.quiet none plain)

sign_type : (message : List ℕ) (b : IntegrityAlgorithm) (k : List ℕ) → (appended_by (sign b k) message).type ≡ type_of_algorithm b
unfolding appended_by
sign_type message b k = refl

-- a message validates with a key that was made for the algorithm of any step that signs
pub each_validates : (sent : Sent) (before behind : List Step) (step : Step) (a : IntegrityAlgorithm) (key : IntegrityAlgorithm → List ℕ) → IsAccepted sent
    → sent.steps ≡ before ++ step ∷ behind → SignsAs step (written_by sent.type sent.id before) a (key a) → verdict (is_checked_type (Some a)) key (sent_encoding sent) ≡ Ok a
each_validates sent before behind step a key ok e own =
    let at = signed_at sent.type sent.id sent.steps before step a (key a) behind e own in
    let so = is_writable sent ok in
    let typed = sign_type (message_encoding sent.type sent.id at.before) a (key a) in
    let order : in_order (types at.before ++ type_of_algorithm a ∷ types at.more) ≡ true =
    ap (λ (k : ℕ). in_order (types at.before ++ k ∷ types at.more)) (sym typed) ∙ ap in_order (sym (ap types at.is ∙ map-append (λ x. x.type) at.before _)) ∙ so.ordered in
    validates_at sent (body sent) a key behind (is_checked_type (Some a)) at so (wanted_own a) (none_same a (types at.more) (order_split (types at.before) (type_of_algorithm a) (types at.more) order).1)
