-- Bytes that stand for themselves, and a whole text that was laid into a slice.
use Rattle.std.proofs.Common.{◌≡◌, ℕ, zero, suc, ◌^◌, ◌<◌, true, List, [], ◌∷◌, arith}
use Rattle.std.specs.Str.{IsUtf8, IsAscii}
use Rattle.std.proofs.lemmas.Bool.Decides.{nat_tests}
use Rattle.std.proofs.lemmas.Str.{IsUtf8-from_ascii}
use Rattle.std.proofs.lemmas.Grind.{common_steps}
use Rattle.stun_text.specs.declared.slice.TextSlice.{TextSlice}
use Rattle.stun_text.specs.Slices.{laid_over, counted, text_answer, Gains}
use Rattle.stun_plain_text.specs.Escaping.{is_plain}

below : (byte : ℕ) → is_plain byte ≡ true → byte < 128
below byte plain = grind (arith, nat_tests)

ascii : (byte : ℕ) → byte < 128 → IsAscii (byte ∷ [])
ascii byte low zero = low
ascii byte low (suc i) = omega arith

-- such a byte is a text
pub plain_is_text : (byte : ℕ) → is_plain byte ≡ true → IsUtf8 (byte ∷ [])
plain_is_text byte plain = IsUtf8-from_ascii (byte ∷ []) (ascii byte (below byte plain))

-- it is at the start
pub text_lies : (s t : TextSlice) (text : List ℕ) → s.length ≡ 0 → Gains s text t → t.to.now ≡ laid_over text s.to.now
text_lies s t text start gains = grind (arith, common_steps, gains.bytes)

-- and the answer is how long it is
pub text_counts : (n count room : ℕ) → count ≡ counted n → room < 2 ^ 63 → text_answer count room ≡ text_answer n room
text_counts n count room is short = grind (arith, common_steps)
