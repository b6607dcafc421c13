-- What a challenge asks for is in the response at the places that are reported to C.
use Rattle.std.proofs.Common.{◌≡◌, ℕ, ◌+◌, Bool, true, false, cond, List, length, Option, None, Some, Result, Ok, Err, refl, ap, subst}
use Rattle.std.specs.Prelude.{slice_range, is_some, ◌||◌, MatchOption, option_and_then}
use Rattle.std.specs.Option.{option_map, option_map_or}
use Rattle.stun_grammar.specs.AttributeTypes.{REALM, NONCE, PASSWORD_ALGORITHMS}
use Rattle.stun_grammar.specs.Chains.{Shown}
use Rattle.stun_grammar.specs.Numbers.{IsBytes}
use Rattle.stun_types.specs.LookingUp.{nth}
use Rattle.stun_values.specs.TextValues.{text_max, text_fault}
use Rattle.stun_values.specs.declared.algorithm.PasswordAlgorithmValue.{PasswordAlgorithmValue}
use Rattle.stun_authentication.specs.Asking.{Asked, asked_for}
use Rattle.stun_authentication.specs.Challenges.{Retry, retry_with, challenge_of, by_list, by_texts, by_algorithm, by_credentials, selected, repeats, lost_list, is_bid_down, text_of, text_in, list_of}
use Rattle.stun_authentication.specs.declared.retry.NoRetry.TheVariants.{NotAChallenge, BidDown, Incomplete, NoAlgorithm, SameCredentials}
use Rattle.stun_authentication.specs.Codes.{is_challenge}
use Rattle.stun_authentication.specs.Identities.{value_of}
use Rattle.stun_types_c.specs.Challenges.{value_at, in_c, StandsWhereReported}
use Rattle.stun_types_c.proofs.StandsLemmas.{range_there}

-- ---- The texts and the list of a challenge are those of the response

unless_ok : {A E : Type 0} (b : Bool) (e : E) (r : Result A E) (y : A) → cond b (Err e) r ≡ Ok y → r ≡ Ok y
unless_ok true e r y h = absurd cc
unless_ok false e r y h = h

if_ok : {A E : Type 0} (b : Bool) (e : E) (r : Result A E) (y : A) → cond b r (Err e) ≡ Ok y → r ≡ Ok y
if_ok true e r y h = h
if_ok false e r y h = absurd cc

some_ok : {A B E : Type 0} (f : A → Result B E) (o : Option A) (e : E) (y : B) → option_map_or f o (Err e) ≡ Ok y → (x : A) × (o ≡ Some x) × (f x ≡ Ok y)
some_ok f None e y h = absurd cc
some_ok f (Some x) e y h = (x, refl, h)

whole_text : (b : Bool) (value text : List ℕ) → cond b None (Some value) ≡ Some text → value ≡ text
whole_text true value text h = absurd cc
whole_text false value text h = cc

text_value : (most : ℕ) (o : Option (List ℕ)) (text : List ℕ) → option_and_then (λ value. text_in most value) o ≡ Some text → o ≡ Some text
text_value most None text h = h
text_value most (Some value) text h = ap (λ (v : List ℕ). Some v) (whole_text (is_some (text_fault most value)) value text h)

record IsOf (d : List ℕ) (asked : Asked) : Type 0 where
  realm : text_of text_max REALM d ≡ Some asked.realm
  nonce : text_of text_max NONCE d ≡ Some asked.nonce
  list : list_of d ≡ asked.list

by_credentials_of : (tried : Option (List ℕ)) (wanted retry : Retry) (d : List ℕ) → by_credentials tried wanted d ≡ Ok retry → wanted ≡ retry
by_credentials_of tried wanted retry d h =
    let same = unless_ok (repeats tried wanted.asked.realm d) SameCredentials (Ok wanted) retry h in cc same

by_algorithm_of : (supported : List PasswordAlgorithmValue) (tried : Option (List ℕ)) (asked : Asked) (d : List ℕ) (retry : Retry) → by_algorithm supported tried asked d ≡ Ok retry → asked ≡ retry.asked
by_algorithm_of supported tried asked d retry h =
    let chosen = some_ok (λ a. by_credentials tried (retry_with asked a) d) (selected supported asked.list) NoAlgorithm retry h in
    ap (λ (r : Retry). r.asked) (by_credentials_of tried (retry_with asked chosen.0) retry d chosen.2)

is_of : (supported : List PasswordAlgorithmValue) (tried : Option (List ℕ)) (had_algorithms : Bool) (d : List ℕ) (retry : Retry) → challenge_of supported tried had_algorithms d ≡ Ok retry → IsOf d retry.asked
is_of supported tried had_algorithms d retry h =
    let listed = if_ok (is_challenge d) NotAChallenge (by_list supported tried had_algorithms d) retry h in
    let texts = unless_ok (is_bid_down d || lost_list had_algorithms d) BidDown (by_texts supported tried d) retry listed in
    let realm = some_ok (λ (realm : List ℕ). option_map_or (λ nonce. by_algorithm supported tried (asked_for realm nonce (list_of d)) d) (text_of text_max NONCE d) (Err Incomplete)) (text_of text_max REALM d) Incomplete retry texts in
    let nonce = some_ok (λ (nonce : List ℕ). by_algorithm supported tried (asked_for realm.0 nonce (list_of d)) d) (text_of text_max NONCE d) Incomplete retry realm.2 in
    subst (IsOf d) (by_algorithm_of supported tried (asked_for realm.0 nonce.0 (list_of d)) d retry nonce.2) (record { realm = realm.1; nonce = nonce.1; list = refl })

-- ---- They are at the places that are reported to C

stands : (d : List ℕ) (o : Option Shown) (value : List ℕ) → ((x : Shown) → o ≡ Some x → slice_range d (x.offset + 4) (x.offset + 4 + length x.value) ≡ x.value)
    → option_map (λ (a : Shown). a.value) o ≡ Some value → slice_range d (option_map_or (λ (a : Shown). a.offset + 4) o 0) (option_map_or (λ (a : Shown). a.offset + 4) o 0 + length value) ≡ value
stands d None value there h = absurd cc
stands d (Some x) value there h =
    let is : x.value ≡ value = cc in
    subst (λ (v : List ℕ). slice_range d (x.offset + 4) (x.offset + 4 + length v) ≡ v) is (there x refl)

abbrev ListStands : List ℕ → ℕ → Option (List ℕ) → Type 0
ListStands d at list =
    MatchOption list (at ≡ 0) (λ value. slice_range d at (at + option_map_or (λ (l : List ℕ). length l) list 0) ≡ value)

list_stands : (d : List ℕ) (o : Option Shown) → ((x : Shown) → o ≡ Some x → slice_range d (x.offset + 4) (x.offset + 4 + length x.value) ≡ x.value)
    → ListStands d (option_map_or (λ (a : Shown). a.offset + 4) o 0) (option_map (λ (a : Shown). a.value) o)
list_stands d None there = refl
list_stands d (Some x) there = there x refl

pub asked_there : (supported : List PasswordAlgorithmValue) (tried : Option (List ℕ)) (had_algorithms : Bool) (d : List ℕ) (retry : Retry) → IsBytes d → challenge_of supported tried had_algorithms d ≡ Ok retry → StandsWhereReported d retry (in_c d retry)
asked_there supported tried had_algorithms d retry bytes h =
    let of = is_of supported tried had_algorithms d retry h in
    let there : (type : ℕ) (x : Shown) → nth d type 0 ≡ Some x → slice_range d (x.offset + 4) (x.offset + 4 + length x.value) ≡ x.value = λ type x e. range_there d type x bytes e in
    record {
      realm = stands d (nth d REALM 0) retry.asked.realm (there REALM) (text_value text_max (value_of d REALM) retry.asked.realm of.realm);
      nonce = stands d (nth d NONCE 0) retry.asked.nonce (there NONCE) (text_value text_max (value_of d NONCE) retry.asked.nonce of.nonce);
      list = subst (λ (o : Option (List ℕ)). ListStands d (value_at PASSWORD_ALGORITHMS d) o) of.list (list_stands d (nth d PASSWORD_ALGORITHMS 0) (there PASSWORD_ALGORITHMS));
    }
