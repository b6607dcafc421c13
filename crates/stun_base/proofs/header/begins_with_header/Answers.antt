use Rattle.std.proofs.Common.{◌≡◌, length, take, drop, refl, ap, ◌∙◌, eqb, ℕ, arith}
use Rattle.std.proofs.lemmas.Bool.{lt-ltb, le-ltb}
use Rattle.std.proofs.lemmas.List.{length-take, length-drop}
use Rattle.stun_grammar.specs.Numbers.{be32, number}
use Rattle.stun_grammar.specs.Headers.{magic_cookie}
use Rattle.stun_grammar.proofs.NumbersLemmas.{IsBytes-from, IsBytes-take, IsBytes-drop}
use Rattle.stun_grammar.proofs.FourBytesLemmas.{number-four, same_four}
use Rattle.stun_grammar.proofs.HeadersLemmas.{is_header-long}
use Rattle.stun_base.proofs.header.begins_with_header.Goals as goal

pub returns-then-bytes-lt64 : goal.returns-then-bytes-lt64
returns-then-bytes-lt64 c =
    let four = take 4 (drop 4 c.args.bytes.now) in
    let long : length four ≡ 4 = omega (arith, length-take 4 (drop 4 c.args.bytes.now), length-drop 4 c.args.bytes.now, c.requires) in
    let word : c.read_u32.result ≡ number four = omega (arith, c.read_u32.ensures, number-four four long) in
    let bytes = IsBytes-take 4 (drop 4 c.args.bytes.now) (IsBytes-drop 4 c.args.bytes.now (IsBytes-from c.args.bytes.now (λ i. (c.type_inv.bytes i).fits))) in
    let cookie : number (be32 magic_cookie) ≡ magic_cookie = refl in
    rw (is_header-long c.args.bytes.now c.requires, lt-ltb _ _ c.if-bytes-lt64.true)
    (ap (λ (n : ℕ). eqb n magic_cookie) word ∙ same_four four (be32 magic_cookie) long refl bytes (omega arith, (omega arith, (omega arith, (omega arith, tt)))))

pub returns-else-bytes-lt64 : goal.returns-else-bytes-lt64
returns-else-bytes-lt64 c = rw (is_header-long c.args.bytes.now c.requires, le-ltb _ _ c.if-bytes-lt64.false) refl
