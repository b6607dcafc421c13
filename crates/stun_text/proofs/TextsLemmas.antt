-- A whole text that was laid into a slice.
use Rattle.std.proofs.Common.{◌≡◌, ℕ, ◌^◌, ◌<◌, List, arith}
use Rattle.std.proofs.lemmas.Grind.{common_steps}
use Rattle.stun_text.specs.declared.slice.TextSlice.{TextSlice}
use Rattle.stun_text.specs.Slices.{laid_over, counted, text_answer, Gains}

-- it is at the start
pub text_lies : (s t : TextSlice) (text : List ℕ) → s.length ≡ 0 → Gains s text t → t.to.now ≡ laid_over text s.to.now
text_lies s t text start gains = grind (arith, common_steps, gains.bytes)

-- and what is reported of it is how long it is
pub text_counts : (n count room : ℕ) → count ≡ counted n → room < 2 ^ 63 → text_answer count room ≡ text_answer n room
text_counts n count room is short = grind (arith, common_steps)
