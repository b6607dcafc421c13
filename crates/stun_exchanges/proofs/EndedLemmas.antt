-- What follows the last ordinary attribute.
use Rattle.std.proofs.Common.{◌≡◌, ℕ, ◌+◌, ◌≤◌, Bool, true, false, cond, eqb, ◌||◌, List, [], ◌∷◌, ◌++◌, length, Option, Some, None, Ok, refl, sym, ap, subst, ◌∙◌, append_assoc, arith}
use Rattle.std.specs.Prelude.{◌&&◌, count_by, filter, is_some, not, if◌then◌else◌}
use Rattle.std.specs.List.{list_any}
use Rattle.std.specs.Option.{option_map}
use Rattle.std.proofs.lemmas.Bool.{or_from, ne_eqb}
use Rattle.std.proofs.lemmas.List.{append-nil}
use Rattle.std.proofs.lemmas.List.Sums.{length-filter}
use Rattle.stun_grammar.specs.declared.integrity_algorithm.IntegrityAlgorithm.{IntegrityAlgorithm}
use Rattle.stun_grammar.specs.declared.integrity_algorithm.IntegrityAlgorithm.TheVariants.{Sha1, Sha256}
use Rattle.stun_grammar.specs.Attributes.{Attribute, encodings, types}
use Rattle.stun_grammar.specs.AttributeTypes.{FINGERPRINT, is_ending}
use Rattle.stun_grammar.specs.Chains.{Shown, placed}
use Rattle.stun_grammar.specs.Hmac.{digest_length}
use Rattle.stun_grammar.specs.ScannedOrder.{has}
use Rattle.stun_grammar.specs.Showing.{shown}
use Rattle.stun_grammar.specs.Verdicts.{type_of_algorithm, is_checked_type, verdict}
use Rattle.stun_grammar.specs.Writing.{message_encoding, IsWritable}
use Rattle.stun_grammar.specs.Steps.{sign, finger, appended_by}
use Rattle.stun_grammar.proofs.StepsSignedLemmas.{value_is, signed_validates}
use Rattle.stun_grammar.proofs.WritingLemmas.{shown-message}
use Rattle.stun_types.specs.LookingUp.{nth}
use Rattle.stun_authentication.specs.Identities.{value_of}
use Rattle.stun_authentication.specs.Policies.{is_fingerprinted}
use Rattle.stun_exchanges.specs.Premises.{IsPrinted}
use Rattle.stun_authentication.specs.Writing.{signed, finished, signed_reply}
use Rattle.stun_authentication.proofs.TypesLemmas.{weaker}
use Rattle.stun_exchanges.proofs.LoginsWritableLemmas.{any-append}

-- what the laws of look-ups say
abbrev pub IsFirst : Type 0
IsFirst = (d : List ℕ) (before behind : List Attribute) (a : Attribute) → shown d ≡ placed 20 (before ++ a ∷ behind) → has a.type (types before) ≡ false
    → nth d a.type 0 ≡ Some (record { offset = 20 + length (encodings before); type = a.type; value = a.value })

abbrev pub IsMissing : Type 0
IsMissing = (d : List ℕ) (wanted n : ℕ) (attributes : List Attribute) → shown d ≡ placed 20 attributes → count_by (λ t. eqb t wanted) (types attributes) ≤ n → nth d wanted n ≡ None

-- ---- Look-ups

length_none : (b r : Bool) (t : ℕ) (ts : List ℕ) → (b || r) ≡ false → (r ≡ false → length ts ≡ 0) → length (cond b (t ∷ ts) ts) ≡ 0
length_none true r t ts e more = absurd cc
length_none false r t ts e more = more e

none_kept : (c : ℕ) (ts : List ℕ) → has c ts ≡ false → length (filter (λ (t : ℕ). eqb t c) ts) ≡ 0
none_kept c [] e = refl
none_kept c (t ∷ ts) e = length_none (eqb t c) (has c ts) t (filter (λ (x : ℕ). eqb x c) ts) e (none_kept c ts)

none_counted : (c : ℕ) (ts : List ℕ) → has c ts ≡ false → count_by (λ (t : ℕ). eqb t c) ts ≡ 0
none_counted c ts e = sym (length-filter (λ (t : ℕ). eqb t c) ts) ∙ none_kept c ts e

pub value_there : IsFirst → (d : List ℕ) (before behind : List Attribute) (a : Attribute) → shown d ≡ placed 20 (before ++ a ∷ behind) → has a.type (types before) ≡ false → value_of d a.type ≡ Some a.value
value_there first d before behind a shows none = ap (option_map (λ (x : Shown). x.value)) (first d before behind a shows none)

pub nth_missing : IsMissing → (d : List ℕ) (c : ℕ) (attributes : List Attribute) → shown d ≡ placed 20 attributes → has c (types attributes) ≡ false → nth d c 0 ≡ None
nth_missing missing d c attributes shows none = missing d c 0 attributes shows (omega (arith, none_counted c (types attributes) none))

pub value_missing : IsMissing → (d : List ℕ) (c : ℕ) (attributes : List Attribute) → shown d ≡ placed 20 attributes → has c (types attributes) ≡ false → value_of d c ≡ None
value_missing missing d c attributes shows none = ap (option_map (λ (x : Shown). x.value)) (nth_missing missing d c attributes shows none)

-- ---- Ending attributes follow the ordinary ones

pub record Ended (xs all : List Attribute) : Type 0 where
  pub more : List Attribute
  pub whole : all ≡ xs ++ more
  pub ending : (c : ℕ) → is_ending c ≡ false → has c (types more) ≡ false

not_here : (c t : ℕ) → is_ending t ≡ true → is_ending c ≡ false → eqb t c ≡ false
not_here c t one two = ne_eqb t c (λ e. absurd (cc (one, two, ap is_ending e)))

pub ended_none : (xs : List Attribute) → Ended xs xs
ended_none xs = record { more = []; whole = sym (append-nil xs); ending = λ c e. refl }

ended_more : (xs all : List Attribute) (a : Attribute) → Ended xs all → is_ending a.type ≡ true → Ended xs (all ++ a ∷ [])
ended_more xs all a e one = record {
  more = e.more ++ a ∷ [];
  whole = ap (λ (l : List Attribute). l ++ a ∷ []) e.whole ∙ append_assoc xs e.more (a ∷ []);
  ending = λ c clear. any-append (λ t. eqb t c) e.more (a ∷ []) (e.ending c clear) (or_from (eqb a.type c) false (not_here c a.type one clear) refl);
}

sign_type : (a : IntegrityAlgorithm) (key message : List ℕ) → (appended_by (sign a key) message).type ≡ type_of_algorithm a
unfolding appended_by
sign_type a key message = refl

finger_type : (message : List ℕ) → (appended_by finger message).type ≡ FINGERPRINT
unfolding appended_by
finger_type message = refl

own_ends : (a : IntegrityAlgorithm) → is_ending (type_of_algorithm a) ≡ true
own_ends Sha1 = refl
own_ends Sha256 = refl

pub ended_signed : (kind id : ℕ) (xs all : List Attribute) (a : IntegrityAlgorithm) (key : List ℕ) → Ended xs all → Ended xs (signed kind id all a key)
ended_signed kind id xs all a key e =
    let message = message_encoding kind id all in
    ended_more xs all (appended_by (sign a key) message) e (ap is_ending (sign_type a key message) ∙ own_ends a)

pub ended_finished : (fingerprint : Bool) (kind id : ℕ) (xs all : List Attribute) → Ended xs all → Ended xs (finished fingerprint kind id all)
ended_finished false kind id xs all e = e
ended_finished true kind id xs all e =
    let message = message_encoding kind id all in
    ended_more xs all (appended_by finger message) e (ap is_ending (finger_type message))

-- ---- One of the integrity attributes, and what follows it

pub record Signs (kind id : ℕ) (all : List Attribute) (wanted : ℕ → Bool) (a : IntegrityAlgorithm) (key : List ℕ) : Type 0 where
  pub front : List Attribute
  pub behind : List Attribute
  pub whole : all ≡ front ++ appended_by (sign a key) (message_encoding kind id front) ∷ behind
  pub quiet : list_any wanted (types behind) ≡ false
  pub first : has (type_of_algorithm a) (types front) ≡ false

pub signs_here : (kind id : ℕ) (xs : List Attribute) (wanted : ℕ → Bool) (a : IntegrityAlgorithm) (key : List ℕ) → has (type_of_algorithm a) (types xs) ≡ false → Signs kind id (signed kind id xs a key) wanted a key
signs_here kind id xs wanted a key none = record { front = xs; behind = []; whole = refl; quiet = refl; first = none }

pub signs_more : (kind id : ℕ) (all : List Attribute) (wanted : ℕ → Bool) (a : IntegrityAlgorithm) (key : List ℕ) (x : Attribute) → Signs kind id all wanted a key → wanted x.type ≡ false → Signs kind id (all ++ x ∷ []) wanted a key
signs_more kind id all wanted a key x s clear = record {
  front = s.front;
  behind = s.behind ++ x ∷ [];
  whole = ap (λ (l : List Attribute). l ++ x ∷ []) s.whole ∙ append_assoc s.front (appended_by (sign a key) (message_encoding kind id s.front) ∷ s.behind) (x ∷ []);
  quiet = any-append wanted s.behind (x ∷ []) s.quiet (or_from (wanted x.type) false clear refl);
  first = s.first;
}

pub signs_signed : (kind id : ℕ) (all : List Attribute) (wanted : ℕ → Bool) (a b : IntegrityAlgorithm) (key other : List ℕ) → wanted (type_of_algorithm b) ≡ false → Signs kind id all wanted a key → Signs kind id (signed kind id all b other) wanted a key
signs_signed kind id all wanted a b key other clear s =
    let message = message_encoding kind id all in
    signs_more kind id all wanted a key (appended_by (sign b other) message) s (ap wanted (sign_type b other message) ∙ clear)

pub signs_finished : (fingerprint : Bool) (kind id : ℕ) (all : List Attribute) (wanted : ℕ → Bool) (a : IntegrityAlgorithm) (key : List ℕ) → wanted FINGERPRINT ≡ false → Signs kind id all wanted a key → Signs kind id (finished fingerprint kind id all) wanted a key
signs_finished false kind id all wanted a key clear s = s
signs_finished true kind id all wanted a key clear s =
    let message = message_encoding kind id all in
    signs_more kind id all wanted a key (appended_by finger message) s (ap wanted (finger_type message) ∙ clear)

-- no FINGERPRINT is checked
pub print_unchecked : (counts : Option IntegrityAlgorithm) → is_checked_type counts FINGERPRINT ≡ false
print_unchecked None = refl
print_unchecked (Some Sha1) = refl
print_unchecked (Some Sha256) = refl

-- such a message validates
pub signs_validate : (kind id : ℕ) (all : List Attribute) (wanted : ℕ → Bool) (a : IntegrityAlgorithm) (key : List ℕ) → IsWritable kind id all → wanted (type_of_algorithm a) ≡ true → Signs kind id all wanted a key
    → verdict wanted (λ _. key) (message_encoding kind id all) ≡ Ok a
signs_validate kind id all wanted a key so asked s =
    ap (λ (xs : List Attribute). verdict wanted (λ _. key) (message_encoding kind id xs)) s.whole
    ∙ signed_validates kind id s.front s.behind a (λ _. key) wanted (subst (IsWritable kind id) s.whole so) asked s.quiet

-- and it shows that attribute, with a whole HMAC
pub record HasHmac (d : List ℕ) (a : IntegrityAlgorithm) : Type 0 where
  pub x : Shown
  pub found : nth d (type_of_algorithm a) 0 ≡ Some x
  pub size : length x.value ≡ digest_length a

pub signs_found : IsFirst → (kind id : ℕ) (all : List Attribute) (wanted : ℕ → Bool) (a : IntegrityAlgorithm) (key : List ℕ) → IsWritable kind id all → Signs kind id all wanted a key → HasHmac (message_encoding kind id all) a
signs_found first kind id all wanted a key so s =
    let d = message_encoding kind id all in
    let message = message_encoding kind id s.front in
    let y = appended_by (sign a key) message in
    let type = sign_type a key message in
    record {
      x = record { offset = 20 + length (encodings s.front); type = y.type; value = y.value };
      found = ap (λ (t : ℕ). nth d t 0) (sym type) ∙ first d s.front s.behind y (shown-message kind id all so ∙ ap (placed 20) s.whole) (ap (λ (t : ℕ). has t (types s.front)) type ∙ s.first);
      size = value_is (sign a key) message;
    }

-- a signed reply validates
pub reply_validates : (print : Bool) (kind id : ℕ) (xs : List Attribute) (a : IntegrityAlgorithm) (key : List ℕ) (wanted : ℕ → Bool) → IsWritable kind id (finished print kind id (signed kind id xs a key))
    → wanted (type_of_algorithm a) ≡ true → wanted FINGERPRINT ≡ false → verdict wanted (λ _. key) (signed_reply print kind id xs a key) ≡ Ok a
reply_validates false kind id xs a key wanted so asked clear = signed_validates kind id xs [] a (λ _. key) wanted so asked refl
reply_validates true kind id xs a key wanted so asked clear =
    let y = appended_by (sign a key) (message_encoding kind id xs) in
    let message = message_encoding kind id (xs ++ y ∷ []) in
    let f = appended_by finger message in
    let is : (xs ++ y ∷ []) ++ f ∷ [] ≡ xs ++ y ∷ f ∷ [] = append_assoc xs (y ∷ []) (f ∷ []) in
    ap (λ (l : List Attribute). verdict wanted (λ _. key) (message_encoding kind id l)) is
    ∙ signed_validates kind id xs (f ∷ []) a (λ _. key) wanted (subst (IsWritable kind id) is so) asked (or_from (wanted f.type) false (ap wanted (finger_type message) ∙ clear) refl)

-- ---- The FINGERPRINT

pub no_print : (ts : List ℕ) → list_any is_ending ts ≡ false → has FINGERPRINT ts ≡ false
no_print ts none = weaker is_ending (λ t. eqb t FINGERPRINT) ts (λ t e. ne_eqb t FINGERPRINT (λ is. absurd (cc (e, ap is_ending is)))) none

print_there : IsFirst → (kind id : ℕ) (xs : List Attribute) → IsWritable kind id (finished true kind id xs) → has FINGERPRINT (types xs) ≡ false → is_fingerprinted (message_encoding kind id (finished true kind id xs)) ≡ true
print_there first kind id xs so none =
    let message = message_encoding kind id xs in
    let y = appended_by finger message in
    let d = message_encoding kind id (xs ++ y ∷ []) in
    ap (λ (o : Option Shown). is_some o)
    (ap (λ (t : ℕ). nth d t 0) (sym (finger_type message)) ∙ first d xs [] y (shown-message kind id (xs ++ y ∷ []) so) (ap (λ (t : ℕ). has t (types xs)) (finger_type message) ∙ none))

-- what is asked for is there
pub print_taken : IsFirst → (asked fingerprint : Bool) (kind id : ℕ) (xs : List Attribute) → IsWritable kind id (finished fingerprint kind id xs) → has FINGERPRINT (types xs) ≡ false → IsPrinted asked fingerprint
    → (if asked then is_fingerprinted (message_encoding kind id (finished fingerprint kind id xs)) else true) ≡ true
print_taken first false fingerprint kind id xs so none printed = refl
print_taken first true true kind id xs so none printed = print_there first kind id xs so none
print_taken first true false kind id xs so none printed = absurd (cc (printed refl))

pub print_kept : IsFirst → (asked fingerprint : Bool) (kind id : ℕ) (xs : List Attribute) → IsWritable kind id (finished fingerprint kind id xs) → has FINGERPRINT (types xs) ≡ false → IsPrinted asked fingerprint
    → (asked && not (is_fingerprinted (message_encoding kind id (finished fingerprint kind id xs)))) ≡ false
print_kept first false fingerprint kind id xs so none printed = refl
print_kept first true true kind id xs so none printed = ap not (print_there first kind id xs so none)
print_kept first true false kind id xs so none printed = absurd (cc (printed refl))
