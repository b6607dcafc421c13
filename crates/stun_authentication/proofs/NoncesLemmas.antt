-- Nonces that a server doesn't keep.
use Rattle.std.proofs.Common.{◌≡◌, ℕ, zero, suc, ◌+◌, ◌*◌, ◌%◌, ◌^◌, ◌<◌, ◌≤◌, Bool, true, false, eqb, List, [], ◌∷◌, ◌++◌, length, take, drop, nat_eq, Some, None, inl, inr, refl, sym, ap, ◌∙◌, append_assoc, arith}
use Rattle.std.specs.Prelude.{◌≢◌, ◌&&◌, not, codes, fold, nat_le, slice_index, if◌then◌else◌}
use Rattle.std.specs.Cmp.Lexicographic.{pointwise, bytes_decides}
use Rattle.std.specs.Int.{w32, to_be_bytes}
use Rattle.std.specs.Option.{option_or}
use Rattle.std.specs.Str.{IsAscii, IsUtf8, is_utf8}
use Rattle.std.proofs.lemmas.Str.{IsUtf8-from_ascii, is_utf8-from_IsUtf8}
use Rattle.stun_grammar.specs.declared.error.StunParseError.TheVariants.{InvalidAttributeData}
use Rattle.stun_grammar.specs.Lengths.{range_fault}
use Rattle.stun_values.specs.TextValues.{text_max, text_fault}
use Rattle.sha2.specs.Sha256.{sha256, digest_bytes as sha256_bytes}
use Rattle.stun_grammar.specs.declared.integrity_algorithm.IntegrityAlgorithm.TheVariants.{Sha256}
use Rattle.stun_grammar.specs.Hmac.{hmac, hmac_over}
use Rattle.stun_grammar.proofs.NumbersLemmas.{IsBytes-take}
use Rattle.stun_grammar.proofs.ShowingLemmas.{AllByRecursion-append}
use Rattle.std.proofs.lemmas.Bool.{cases_Bool, le-leb, leb-true}
use Rattle.std.proofs.Math.Nat.{mul-le-mul_right, pow-succ', pow-le-pow_right}
use Rattle.std.proofs.lemmas.List.{length-append, length-take, take_at, drop_at}
use Rattle.stun_grammar.specs.Numbers.{IsBytes}
use Rattle.stun_authentication.specs.Base64.{in_base64, of_base64}
use Rattle.stun_authentication.specs.Cookies.{cookie, four_characters}
use Rattle.stun_authentication.specs.declared.nonces.Freshness.TheVariants.{Fresh, Stale, Unknown}
use Rattle.stun_authentication.specs.Nonces.{Minting, beginning, minted, minted_mac, first_bits, stated_time, age, aged, freshness, is_qdtext}
use Rattle.stun_authentication.proofs.Base64Lemmas.{IsText, bits_back, last_bits, length-in_base64, in_base64_text}

-- ---- The HMAC

word_bytes : (n : ℕ) → IsBytes (to_be_bytes w32 n)
word_bytes n = (omega arith, (omega arith, (omega arith, (omega arith, tt))))

sha_bytes : (h : List ℕ) (n : ℕ) → IsBytes (sha256_bytes h n)
unfolding sha256_bytes
sha_bytes h zero = tt
sha_bytes h (suc n) = AllByRecursion-append (λ x. x < 256) (sha256_bytes h n) (to_be_bytes w32 (slice_index h n)) (sha_bytes h n) (word_bytes (slice_index h n))

hmac_bytes : (key text : List ℕ) → IsBytes (hmac Sha256 key text)
unfolding hmac hmac_over sha256
hmac_bytes key text = sha_bytes _ 8

-- ---- The parts of a nonce

behind_cookie : (a b : Bool) (x : List ℕ) → drop 13 ((codes "obMatJos2" ++ four_characters a b) ++ x) ≡ x
behind_cookie false false x = refl
behind_cookie true false x = refl
behind_cookie false true x = refl
behind_cookie true true x = refl

cookie_text : (a b : Bool) → IsText (codes "obMatJos2" ++ four_characters a b)
cookie_text false false = (refl, (refl, (refl, (refl, (refl, (refl, (refl, (refl, (refl, (refl, (refl, (refl, (refl, tt)))))))))))))
cookie_text true false = (refl, (refl, (refl, (refl, (refl, (refl, (refl, (refl, (refl, (refl, (refl, (refl, (refl, tt)))))))))))))
cookie_text false true = (refl, (refl, (refl, (refl, (refl, (refl, (refl, (refl, (refl, (refl, (refl, (refl, (refl, tt)))))))))))))
cookie_text true true = (refl, (refl, (refl, (refl, (refl, (refl, (refl, (refl, (refl, (refl, (refl, (refl, (refl, tt)))))))))))))

cookie_length : (a b : Bool) → length (codes "obMatJos2" ++ four_characters a b) ≡ 13
cookie_length false false = refl
cookie_length true false = refl
cookie_length false true = refl
cookie_length true true = refl

beginning_length : (m : Minting) (time : ℕ) → length (beginning m time) ≡ 19
beginning_length m time =
    omega (
      arith,
      length-append (cookie m.features) (in_base64 6 time),
      cookie_length m.features.password_algorithms m.features.username_anonymity,
      length-in_base64 6 time,
    )

-- the 36 bits are between the cookie and the HMAC
first_six : (time : ℕ) (x : List ℕ) → take 6 (in_base64 6 time ++ x) ≡ in_base64 6 time
first_six time x = take_at (in_base64 6 time) x 6 (length-in_base64 6 time)

pub time_stated : (m : Minting) (time : ℕ) (place : List ℕ) → stated_time (minted m time place) ≡ time % 2 ^ 36
time_stated m time place =
    let mac = in_base64 16 (first_bits (minted_mac m time place)) in
    let small : time % 2 ^ 36 < 64 ^ 6 = omega arith in
    ap (λ (x : List ℕ). of_base64 (take 6 (drop 13 x))) (append_assoc (cookie m.features) (in_base64 6 time) mac)
    ∙ ap (λ (x : List ℕ). of_base64 (take 6 x)) (behind_cookie m.features.password_algorithms m.features.username_anonymity (in_base64 6 time ++ mac))
    ∙ ap of_base64 (first_six time mac) ∙ ap of_base64 (sym (last_bits time)) ∙ bits_back 6 (time % 2 ^ 36) small

-- the HMAC that a nonce has
mac_of : List ℕ → ℕ
mac_of nonce = of_base64 (drop 19 nonce)

-- a number of so many bytes
number_after : (n : ℕ) (bytes : List ℕ) → IsBytes bytes → fold (λ high byte. 256 * high + byte) n bytes < (n + 1) * 256 ^ length bytes
number_after n [] all = omega arith
number_after n (b ∷ bytes) all =
    let p = 256 ^ length bytes in
    let next : (n + 1) * 256 ^ length (b ∷ bytes) ≡ (n + 1) * (256 * p) = ap (λ (x : ℕ). (n + 1) * x) (pow-succ' 256 (length bytes)) in
    let more : fold (λ high byte. 256 * high + byte) n (b ∷ bytes) < (256 * n + b + 1) * p = number_after (256 * n + b) bytes all.1 in
    omega (arith, more, next, mul-le-mul_right {m = 256 * n + b + 1} {n = 256 * n + 256} p (omega (arith, all.0)))

-- the first 96 bits are a number below 2 ^ 96
bits_below : (mac : List ℕ) → IsBytes mac → first_bits mac < 64 ^ 16
bits_below mac all =
    let few : length (take 12 mac) ≤ 12 = omega (arith, length-take 12 mac) in
    omega (arith, number_after 0 (take 12 mac) (IsBytes-take 12 mac all), pow-le-pow_right {n = 256} (omega arith) {i = length (take 12 mac)} {j = 12} few)

mac_stated : (m : Minting) (time : ℕ) (place : List ℕ) → mac_of (minted m time place) ≡ first_bits (minted_mac m time place)
unfolding mac_of
mac_stated m time place =
    let bits = first_bits (minted_mac m time place) in
    ap of_base64 (drop_at (beginning m time) (in_base64 16 bits) 19 (beginning_length m time))
    ∙ bits_back 16 bits (bits_below (minted_mac m time place) (hmac_bytes m.secret _))

pub minted_length : (m : Minting) (time : ℕ) (place : List ℕ) → length (minted m time place) ≡ 35
minted_length m time place =
    let mac = in_base64 16 (first_bits (minted_mac m time place)) in
    omega (arith, length-append (beginning m time) mac, beginning_length m time, length-in_base64 16 (first_bits (minted_mac m time place)))

pub minted_text : (m : Minting) (time : ℕ) (place : List ℕ) → IsText (minted m time place)
minted_text m time place =
    let bits = first_bits (minted_mac m time place) in
    AllByRecursion-append (λ c. is_qdtext c ≡ true) (beginning m time) (in_base64 16 bits)
    (AllByRecursion-append (λ c. is_qdtext c ≡ true) (cookie m.features) (in_base64 6 time) (cookie_text m.features.password_algorithms m.features.username_anonymity) (in_base64_text 6 time))
    (in_base64_text 16 bits)

-- a nonce depends on the last 36 bits of its time
pub minted_again : (m : Minting) (time : ℕ) (place : List ℕ) → minted m (time % 2 ^ 36) place ≡ minted m time place
minted_again m time place = ap (λ (x : List ℕ). (cookie m.features ++ x) ++ in_base64 16 (first_bits (hmac Sha256 m.secret ((cookie m.features ++ x) ++ place)))) (last_bits time)

-- ---- What is known of it

judged : (m : Minting) (time now : ℕ) (place : List ℕ) → freshness m now place (minted m time place) ≡ aged m now (time % 2 ^ 36)
judged m time now place =
    let n = minted m time place in
    ap (λ (t : ℕ). if pointwise nat_eq n (minted m t place) then aged m now t else Unknown) (time_stated m time place)
    ∙ ap (λ (b : Bool). if b then aged m now (time % 2 ^ 36) else Unknown) ((bytes_decides n (minted m (time % 2 ^ 36) place)).1 (sym (minted_again m time place)))

fresh_of : (m : Minting) (age : ℕ) → age ≤ m.window → (if nat_le age m.window then Fresh else Stale) ≡ Fresh
fresh_of m age within = ap (λ (b : Bool). if b then Fresh else Stale) (le-leb age m.window within)

stale_of : (m : Minting) (age : ℕ) → m.window < age → (if nat_le age m.window then Fresh else Stale) ≡ Stale
stale_of m age late = ap (λ (b : Bool). if b then Fresh else Stale) (not_le (nat_le age m.window) (λ e. absurd (omega (arith, late, leb-true age m.window e))))
  where
    not_le : (b : Bool) → (b ≡ true → b ≡ false) → b ≡ false
    not_le true h = h refl
    not_le false h = refl

pub valid_in_time : (m : Minting) (time now : ℕ) (place : List ℕ) → time ≤ now → now ≤ time + m.window → freshness m now place (minted m time place) ≡ Fresh
valid_in_time m time now place after before =
    let within : age now (time % 2 ^ 36) ≤ m.window = omega (arith, after, before) in
    judged m time now place ∙ fresh_of m (age now (time % 2 ^ 36)) within

pub over_later : (m : Minting) (time now : ℕ) (place : List ℕ) → time + m.window < now → now < time + 2 ^ 36 → freshness m now place (minted m time place) ≡ Stale
over_later m time now place late before =
    let past : m.window < age now (time % 2 ^ 36) = omega (arith, late, before) in
    judged m time now place ∙ stale_of m (age now (time % 2 ^ 36)) past

pub stale_before : (m : Minting) (time now : ℕ) (place : List ℕ) → now < time → time + m.window < now + 2 ^ 36 → freshness m now place (minted m time place) ≡ Stale
stale_before m time now place early near =
    let past : m.window < age now (time % 2 ^ 36) = omega (arith, early, near) in
    judged m time now place ∙ stale_of m (age now (time % 2 ^ 36)) past

pub own_only : (m : Minting) (now : ℕ) (place nonce : List ℕ) → freshness m now place nonce ≢ Unknown → nonce ≡ minted m (stated_time nonce) place
own_only m now place nonce known = elim (cases_Bool (pointwise nat_eq nonce (minted m (stated_time nonce) place))) [
  | inl same ↦ (bytes_decides nonce (minted m (stated_time nonce) place)).0 same
  | inr differs ↦ absurd (known (ap (λ (b : Bool). if b then aged m now (stated_time nonce) else Unknown) differs))
]

pub other_mac : (m other : Minting) (time now : ℕ) (place there : List ℕ) → freshness other now there (minted m time place) ≢ Unknown → first_bits (minted_mac other time there) ≡ first_bits (minted_mac m time place)
other_mac m other time now place there known =
    let n = minted m time place in
    let same : n ≡ minted other time there = own_only other now there n known ∙ ap (λ (t : ℕ). minted other t there) (time_stated m time place) ∙ minted_again other time there in
    sym (mac_stated other time there) ∙ ap mac_of (sym same) ∙ mac_stated m time place

-- ---- It is a text

and_first : (a b : Bool) → (a && b) ≡ true → (a ≡ true) × (b ≡ true)
and_first true b e = (refl, e)
and_first false b e = absurd cc

low : (c : ℕ) → is_qdtext c ≡ true → c < 128
low c e =
    let rest = (and_first (nat_le 0x21 c) _ e).1 in
    let most : c ≤ 0x7E = leb-true c 0x7E (and_first (nat_le c 0x7E) (not (eqb c 0x22) && not (eqb c 0x5C)) rest).0 in
    omega (arith, most)

ascii : (bs : List ℕ) → IsText bs → IsAscii bs
ascii [] all i = omega arith
ascii (b ∷ bs) all zero = low b all.0
ascii (b ∷ bs) all (suc i) = ascii bs all.1 i

pub minted_utf8 : (m : Minting) (time : ℕ) (place : List ℕ) → IsUtf8 (minted m time place)
minted_utf8 m time place =
    let n = minted m time place in IsUtf8-from_ascii n (ascii n (minted_text m time place))

pub minted_is_text : (m : Minting) (time : ℕ) (place : List ℕ) → text_fault text_max (minted m time place) ≡ None
minted_is_text m time place =
    let n = minted m time place in
    ap (λ (k : ℕ). option_or (range_fault 0 text_max k) (if is_utf8 n then None else Some InvalidAttributeData)) (minted_length m time place)
    ∙ ap (λ (b : Bool). if b then None else Some InvalidAttributeData) (is_utf8-from_IsUtf8 n (minted_utf8 m time place))

-- ---- The code

-- a nonce of another length is unknown
pub unknown_length : (m : Minting) (now : ℕ) (place nonce : List ℕ) → (length nonce ≡ 35 → ⊥) → freshness m now place nonce ≡ Unknown
unknown_length m now place nonce other = elim (cases_Bool (pointwise nat_eq nonce (minted m (stated_time nonce) place))) [
  | inl same ↦ absurd (other (ap length ((bytes_decides nonce (minted m (stated_time nonce) place)).0 same) ∙ minted_length m (stated_time nonce) place))
  | inr differs ↦ ap (λ (b : Bool). if b then aged m now (stated_time nonce) else Unknown) differs
]

-- one that is the nonce of its time, and one that isn't
pub known_again : (m : Minting) (now time : ℕ) (place nonce : List ℕ) → time ≡ stated_time nonce → pointwise nat_eq nonce (minted m time place) ≡ true → freshness m now place nonce ≡ aged m now time
known_again m now time place nonce is same =
    ap (λ (t : ℕ). if pointwise nat_eq nonce (minted m t place) then aged m now t else Unknown) (sym is) ∙ ap (λ (b : Bool). if b then aged m now time else Unknown) same

pub unknown_again : (m : Minting) (now time : ℕ) (place nonce : List ℕ) → time ≡ stated_time nonce → pointwise nat_eq nonce (minted m time place) ≡ false → freshness m now place nonce ≡ Unknown
unknown_again m now time place nonce is differs =
    ap (λ (t : ℕ). if pointwise nat_eq nonce (minted m t place) then aged m now t else Unknown) (sym is) ∙ ap (λ (b : Bool). if b then aged m now time else Unknown) differs

-- what is written at the start of a place
pub place_written : (dest value start : List ℕ) (n : ℕ) → dest ≡ value ++ drop (length value) start → n ≡ length value → take n dest ≡ value
place_written dest value start n is long = ap (take n) is ∙ take_at value (drop (length value) start) n (sym long)
