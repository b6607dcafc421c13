-- A number of 32 bits, and its bytes.
use Rattle.std.proofs.Common.{◌≡◌, ℕ, ◌<◌, ◌^◌, Result, Ok, arith}
use Rattle.stun_grammar.specs.declared.error.StunParseError.{StunParseError}
use Rattle.stun_grammar.specs.Numbers.{be32, number}
use Rattle.user_examples.specs.declared.my_attribute.MyAttribute.{MyAttribute}
use Rattle.user_examples.specs.MyValue.{ReadsNumber}

number-be32 : (n : ℕ) → n < 2 ^ 32 → number (be32 n) ≡ n
number-be32 n h = omega arith

-- reading the type and the bytes of a number gives that number
pub read_back : (attribute : MyAttribute) (result : Result MyAttribute StunParseError) → attribute.value < 2 ^ 32 → ReadsNumber 0x8851 (be32 attribute.value) result → result ≡ Ok attribute
read_back attribute result fits reported = rw (← number-be32 attribute.value fits) reported
