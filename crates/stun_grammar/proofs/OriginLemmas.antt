-- The content of a message that validates is a sender's who signed the covered bytes, or nobody
-- signed them.
use Rattle.std.proofs.Common.{◌≡◌, ℕ, suc, ◌^◌, ◌<◌, Bool, true, false, cond, eqb, List, [], ◌∷◌, ◌++◌, length, Option, None, refl, sym, ap, subst, ◌∙◌, arith, ◌⊎◌, inl, inr}
use Rattle.std.specs.Prelude.{nat_eq, Contains, ◌≢◌, ◌&&◌}
use Rattle.std.specs.List.{AllByRecursion}
use Rattle.std.specs.Cmp.Lexicographic.{pointwise}
use Rattle.std.proofs.lemmas.Bool.{cases_Bool, and_parts, eqb-true}
use Rattle.std.proofs.lemmas.Slice.Eq.{slice_eq-Decides}
use Rattle.std.proofs.lemmas.Bool.Decides.{Decides-eqb}
use Rattle.stun_grammar.specs.declared.integrity_algorithm.IntegrityAlgorithm.{IntegrityAlgorithm}
use Rattle.stun_grammar.specs.declared.integrity_algorithm.IntegrityAlgorithm.TheVariants.{Sha1, Sha256}
use Rattle.stun_grammar.specs.Numbers.{IsBytes}
use Rattle.stun_grammar.specs.Attributes.{Attribute, IsAttribute, canonical}
use Rattle.stun_grammar.specs.Chains.{placed}
use Rattle.stun_grammar.specs.Hmac.{digest_length}
use Rattle.stun_grammar.specs.Verdicts.{type_of_algorithm, covered_bytes, is_checked_type, Validates}
use Rattle.stun_grammar.specs.Authentic.{Content, content, content_through, authentic}
use Rattle.stun_grammar.specs.Writing.{message_encoding}
use Rattle.stun_grammar.specs.Steps.{Step, add, sign, sign_given, finger, appended_by, integrity_value, with_step, IsEncodable}
use Rattle.stun_grammar.specs.Sending.{Sent, IsEncodableSent}
use Rattle.stun_grammar.specs.Origin.{Signature, signs, signed_from, signed, reported, IsUnsigned, ComesFrom}
use Rattle.stun_grammar.proofs.ShowingLemmas.{AllByRecursion-append}
use Rattle.stun_grammar.proofs.AuthenticContentLemmas.{content_of, local, local_through}
use Rattle.stun_grammar.proofs.StepsSignedLemmas.{appended_is, authentic_encoding, given_signs}

pub step_each : (type id : ℕ) (before : List Attribute) (step : Step) → AllByRecursion IsAttribute before → IsEncodable step → AllByRecursion IsAttribute (with_step type id before step)
step_each type id before step each lawful =
    let message = message_encoding type id before in
    AllByRecursion-append IsAttribute before (appended_by step message ∷ []) each (appended_is step message lawful, tt)

and_both : (x y : Bool) → x ≡ true → y ≡ true → (x && y) ≡ true
and_both true true e f = refl
and_both true false e f = absurd cc
and_both false y e f = absurd cc

same_number : (n : ℕ) → eqb n n ≡ true
same_number n = (Decides-eqb n n).1 refl

same_algorithm : (a b : IntegrityAlgorithm) → type_of_algorithm a ≡ type_of_algorithm b → a ≡ b
same_algorithm Sha1 Sha1 e = refl
same_algorithm Sha1 Sha256 e = absurd (omega (arith, e))
same_algorithm Sha256 Sha1 e = absurd (omega (arith, e))
same_algorithm Sha256 Sha256 e = refl

signs_is : (a : IntegrityAlgorithm) (key c : List ℕ) (b : IntegrityAlgorithm) (k : List ℕ) → signs a key c (sign b k) ≡ true → sign a key ≡ sign b k
signs_is a key c b k e =
    let both = and_parts (eqb (type_of_algorithm b) (type_of_algorithm a)) (pointwise nat_eq k key) e in
    let p : b ≡ a = same_algorithm b a (eqb-true _ _ both.0) in
    let q : k ≡ key = (slice_eq-Decides Decides-eqb k key _ refl).0 both.1 in
    ap (λ (x : IntegrityAlgorithm). sign x key) (sym p) ∙ ap (sign b) (sym q)

-- a given HMAC that is the key's signs as the key does
given_is : (a : IntegrityAlgorithm) (key message : List ℕ) (b : IntegrityAlgorithm) (given : List ℕ)
    → signs a key (covered_bytes message (length message) (digest_length a)) (sign_given b given) ≡ true → appended_by (sign a key) message ≡ appended_by (sign_given b given) message
unfolding appended_by
given_is a key message b given e =
    let value = integrity_value message key a in
    let both = and_parts (eqb (type_of_algorithm b) (type_of_algorithm a)) (pointwise nat_eq given value) e in
    let p : type_of_algorithm b ≡ type_of_algorithm a = eqb-true _ _ both.0 in
    let q : given ≡ value = (slice_eq-Decides Decides-eqb given value _ refl).0 both.1 in
    ap (λ (v : List ℕ). canonical (type_of_algorithm a) v) (sym q) ∙ ap (λ (t : ℕ). canonical t given) (sym p)

-- the signatures of one step, and of those after it
one_more : (P : Signature → Type 0) (passes : Bool) (s : Signature) (later : List Signature) → (passes ≡ true → P s) → AllByRecursion P later → AllByRecursion P (cond passes (s ∷ []) [] ++ later)
one_more P true s later one rest = (one refl, rest)
one_more P false s later one rest = rest

-- the bytes that a sender signs determine the sender's message through the integrity attribute that
-- signs them
pub signed_reported : (type id : ℕ) (before : List Attribute) (steps : List Step) (key : List ℕ) (a : IntegrityAlgorithm) → type < 2 ^ 14 → id < 2 ^ 96 → AllByRecursion IsAttribute before → AllByRecursion IsEncodable steps
    → AllByRecursion (λ s. authentic s.covered key a ≡ content_of type id (placed 20 s.through)) (signed_from type id before steps key a)
unfolding signed_from
signed_reported type id before [] key a t i each lawful = tt
signed_reported type id before (add k v ∷ steps) key a t i each lawful =
    signed_reported type id (with_step type id before (add k v)) steps key a t i (step_each type id before (add k v) each lawful.0) lawful.1
signed_reported type id before (finger ∷ steps) key a t i each lawful =
    signed_reported type id (with_step type id before finger) steps key a t i (step_each type id before finger each tt) lawful.1
signed_reported type id before (sign b k ∷ steps) key a t i each lawful =
    let message = message_encoding type id before in
    let through = with_step type id before (sign b k) in
    let s : Signature = record { covered = covered_bytes message (length message) (digest_length a); through = through } in
    let P : Signature → Type 0 = λ x. authentic x.covered key a ≡ content_of type id (placed 20 x.through) in
    let later = signed_reported type id through steps key a t i (step_each type id before (sign b k) each tt) lawful.1 in
    one_more P (signs a key s.covered (sign b k)) s (signed_from type id through steps key a)
    (λ passed. authentic_encoding type id before a key t i each ∙ ap (λ (x : Step). content_of type id (placed 20 (with_step type id before x))) (signs_is a key s.covered b k passed)) later
signed_reported type id before (sign_given b given ∷ steps) key a t i each lawful =
    let message = message_encoding type id before in
    let through = with_step type id before (sign_given b given) in
    let s : Signature = record { covered = covered_bytes message (length message) (digest_length a); through = through } in
    let P : Signature → Type 0 = λ x. authentic x.covered key a ≡ content_of type id (placed 20 x.through) in
    let later = signed_reported type id through steps key a t i (step_each type id before (sign_given b given) each lawful.0) lawful.1 in
    one_more P (signs a key s.covered (sign_given b given)) s (signed_from type id through steps key a)
    (λ passed. authentic_encoding type id before a key t i each ∙ ap (λ (x : Attribute). content_of type id (placed 20 (before ++ x ∷ []))) (given_is a key message b given passed)) later

-- a step that is given the key's HMAC signs the same bytes as one with the key
pub given_counts : (type id : ℕ) (before : List Attribute) (steps : List Step) (a : IntegrityAlgorithm) (key given : List ℕ) → given ≡ integrity_value (message_encoding type id before) key a
    → signed_from type id before (sign_given a given ∷ steps) key a ≡ signed_from type id before (sign a key ∷ steps) key a
unfolding signed_from
given_counts type id before steps a key given is =
    let message = message_encoding type id before in
    let c = covered_bytes message (length message) (digest_length a) in
    let own : signs a key c (sign a key) ≡ true = and_both (eqb (type_of_algorithm a) (type_of_algorithm a)) (pointwise nat_eq key key) (same_number (type_of_algorithm a)) ((slice_eq-Decides Decides-eqb key key _ refl).1 refl) in
    let other : signs a key c (sign_given a given) ≡ true = and_both (eqb (type_of_algorithm a) (type_of_algorithm a)) (pointwise nat_eq given (integrity_value message key a)) (same_number (type_of_algorithm a)) ((slice_eq-Decides Decides-eqb given (integrity_value message key a) _ refl).1 is) in
    let through : with_step type id before (sign_given a given) ≡ with_step type id before (sign a key) = ap (λ (x : Attribute). before ++ x ∷ []) (given_signs a key message given is) in
    rw (own, other, through) refl

-- ---- Among all messages that were sent

first_of_all : {A : Type 0} (x : A) (xs : List A) → Contains (x ∷ xs) x
first_of_all x xs = (0, omega arith, refl)

later_of_all : {A : Type 0} (x y : A) (xs : List A) → Contains xs y → Contains (x ∷ xs) y
later_of_all x y xs h = (suc h.0, omega (arith, h.1), h.2)

search_signatures : (P : Signature → Type 0) (c : List ℕ) (xs : List Signature) → AllByRecursion P xs
    → AllByRecursion (λ s. s.covered ≢ c) xs ⊎ ((s : Signature) × Contains xs s × (s.covered ≡ c) × P s)
search_signatures P c [] all = inl tt
search_signatures P c (x ∷ xs) all =
    let decides = slice_eq-Decides Decides-eqb x.covered c _ refl in
    elim (cases_Bool (pointwise nat_eq x.covered c)) [
      | inl passed ↦ inr (x, first_of_all x xs, decides.0 passed, all.0)
      | inr failed ↦
          let differs : x.covered ≢ c = λ e. absurd (cc (failed, decides.1 e)) in
          elim (search_signatures P c xs all.1) [
            | inl none ↦ inl (differs, none)
            | inr (s, at, covers, p) ↦ inr (s, later_of_all x s xs at, covers, p)
          ]
    ]

search_sent : (key : List ℕ) (a : IntegrityAlgorithm) (c : List ℕ) (sent : List Sent) → AllByRecursion IsEncodableSent sent → IsUnsigned sent key a c ⊎ ComesFrom sent key a c (authentic c key a)
search_sent key a c [] lawful = inl tt
search_sent key a c (m ∷ sent) lawful =
    let P : Signature → Type 0 = λ s. authentic s.covered key a ≡ reported m s.through in
    elim (search_signatures P c (signed m key a) (signed_reported m.type m.id [] m.steps key a lawful.0.type_fits lawful.0.id_fits tt lawful.0.steps)) [
      | inr (s, at, covers, p) ↦ inr (record { message = m; was_sent = first_of_all m sent; signature = s; was_signed = at; covers = covers; tells = ap (λ (t : List ℕ). authentic t key a) (sym covers) ∙ p })
      | inl none ↦ elim (search_sent key a c sent lawful.1) [
        | inl others ↦ inl (none, others)
        | inr found ↦ inr (record { message = found.message; was_sent = later_of_all m found.message sent found.was_sent; signature = found.signature; was_signed = found.was_signed; covers = found.covers; tells = found.tells })
      ]
    ]

comes_from : (sent : List Sent) (key : List ℕ) (a : IntegrityAlgorithm) (c : List ℕ) (x y : Content) → y ≡ x → IsUnsigned sent key a c ⊎ ComesFrom sent key a c x → IsUnsigned sent key a c ⊎ ComesFrom sent key a c y
comes_from sent key a c x y e h = subst (λ (z : Content). IsUnsigned sent key a c ⊎ ComesFrom sent key a c z) (sym e) h

pub origin : (key : IntegrityAlgorithm → List ℕ) (d c : List ℕ) (a : IntegrityAlgorithm) (sent : List Sent) → IsBytes d → AllByRecursion IsEncodableSent sent → Validates None key d c a
    → IsUnsigned sent (key a) a c ⊎ ComesFrom sent (key a) a c (content d)
origin key d c a sent bytes lawful v = comes_from sent (key a) a c _ _ (local key d c a bytes v) (search_sent (key a) a c sent lawful)

pub origin_through : (m : Option IntegrityAlgorithm) (key : IntegrityAlgorithm → List ℕ) (d c : List ℕ) (a : IntegrityAlgorithm) (sent : List Sent) → IsBytes d → AllByRecursion IsEncodableSent sent → Validates m key d c a
    → IsUnsigned sent (key a) a c ⊎ ComesFrom sent (key a) a c (content_through (is_checked_type m) d)
origin_through m key d c a sent bytes lawful v = comes_from sent (key a) a c _ _ (local_through m key d c a bytes v) (search_sent (key a) a c sent lawful)

-- every message in which the covered bytes are signed has the content
pub origin_each : (key : IntegrityAlgorithm → List ℕ) (d c : List ℕ) (a : IntegrityAlgorithm) (m : Sent) → IsBytes d → IsEncodableSent m → Validates None key d c a
    → AllByRecursion (λ s. s.covered ≡ c → content d ≡ reported m s.through) (signed m (key a) a)
origin_each key d c a m bytes lawful v = each_of (signed m (key a) a) (signed_reported m.type m.id [] m.steps (key a) a lawful.type_fits lawful.id_fits tt lawful.steps)
  where
    each_of : (xs : List Signature) → AllByRecursion (λ s. authentic s.covered (key a) a ≡ reported m s.through) xs → AllByRecursion (λ s. s.covered ≡ c → content d ≡ reported m s.through) xs
    each_of [] all = tt
    each_of (x ∷ xs) all = (λ covers. local key d c a bytes v ∙ ap (λ (t : List ℕ). authentic t (key a) a) (sym covers) ∙ all.0, each_of xs all.1)
