-- The value of an attribute that protects a message is read as that attribute.
use Rattle.std.proofs.Common.{◌≡◌, ℕ, zero, suc, ◌<◌, ◌≤◌, ◌%◌, ◌^◌, List, [], ◌∷◌, length, Option, None, get_or, refl, subst, ap, ◌∙◌, arith}
use Rattle.std.specs.Prelude.{Result, MatchOption, IsOkAnd, Err, bit_xor}
use Rattle.std.specs.Int.{w32, from_be_bytes}
use Rattle.std.proofs.lemmas.Bool.{eq-eqb, le-ltb}
use Rattle.std.specs.Int.Bits.{xor_assoc, xor_self, xor_zero_r}
use Rattle.std.proofs.lemmas.Nat.{xor_lt, be_bytes_4, from_be_bytes-to_be_bytes_4}
use Rattle.stun_grammar.specs.declared.error.StunParseError.{StunParseError}
use Rattle.stun_grammar.specs.declared.integrity_algorithm.IntegrityAlgorithm.TheVariants.{Sha1, Sha256}
use Rattle.stun_grammar.specs.Numbers.{be32, IsBytes}
use Rattle.stun_grammar.specs.Lengths.{exact_fault}
use Rattle.stun_grammar.specs.Verdicts.{hmac_fault}
use Rattle.stun_attributes.specs.Reading.{Reads}
use Rattle.stun_values.specs.FingerprintValues.{masked_bytes}

exact : (asked n : ℕ) → n ≡ asked → exact_fault asked n ≡ None
exact asked n e = rw (le-ltb asked n (omega (arith, e)), le-ltb n asked (omega (arith, e))) refl

pub lawful_sha1 : (n : ℕ) → n ≡ 20 → hmac_fault Sha1 n ≡ None
unfolding hmac_fault
lawful_sha1 n e = exact 20 n e

pub lawful_sha256 : (n : ℕ) → 16 ≤ n → n ≤ 32 → n % 4 ≡ 0 → hmac_fault Sha256 n ≡ None
unfolding hmac_fault
lawful_sha256 n least most four = rw (le-ltb n 16 least, le-ltb 32 n most, eq-eqb (n % 4) 0 four) refl

-- if a value has no fault, reading returns what is wanted
pub is_read : {T : Type 0} (fault : Option StunParseError) (Wanted : T → Type 0) (result : Result T StunParseError) → fault ≡ None → Reads fault Wanted result → IsOkAnd result Wanted
is_read {T} fault Wanted result none reported = subst (λ (o : Option StunParseError). MatchOption o (IsOkAnd result Wanted) (λ e. result ≡ Err e)) none reported

pub exact_read : {T : Type 0} (asked : ℕ) (value : List ℕ) (Wanted : T → Type 0) (result : Result T StunParseError)
    → length value ≡ asked → Reads (exact_fault asked (length value)) Wanted result → IsOkAnd result Wanted
exact_read {T} asked value Wanted result long reported = is_read (exact_fault asked (length value)) Wanted result (exact asked (length value) long) reported

-- ---- FINGERPRINT

number_fits : (b : List ℕ) → IsBytes b → length b ≡ 4 → (from_be_bytes w32 b < 2 ^ 32) × ((i : ℕ) → get_or b i 0 < 256)
number_fits b bytes long =
    let each : (i : ℕ) → get_or b i 0 < 256 = byte b bytes in
    (omega (arith, each 0, each 1, each 2, each 3), each)
  where
    byte : (b : List ℕ) → IsBytes b → (i : ℕ) → get_or b i 0 < 256
    byte [] all i = omega arith
    byte (x ∷ xs) all zero = all.0
    byte (x ∷ xs) all (suc i) = byte xs all.1 i

-- four bytes that are masked twice are themselves
pub masked_twice : (b : List ℕ) → length b ≡ 4 → IsBytes b → masked_bytes (masked_bytes b) ≡ b
masked_twice b long bytes =
    let mask : ℕ = 0x5354554E in
    let n : ℕ = from_be_bytes w32 b in
    let fits = number_fits b bytes long in
    let number_is : from_be_bytes w32 (masked_bytes b) ≡ bit_xor n mask = from_be_bytes-to_be_bytes_4 (bit_xor n mask) (xor_lt 32 n mask fits.0 (omega arith)) in
    let back : bit_xor (bit_xor n mask) mask ≡ n = xor_assoc n mask mask ∙ (ap (bit_xor n) (xor_self mask) ∙ xor_zero_r n) in
    ap be32 (ap (λ (r : ℕ). bit_xor r mask) number_is ∙ back) ∙ be_bytes_4 b n long fits.1 refl
