use Rattle.std.proofs.Common.{nat_eq, sym, ap, ◌∙◌, arith}
use Rattle.std.specs.Cmp.Lexicographic.{pointwise}
use Rattle.stun_values.specs.Addresses.{address_value}
use Rattle.stun_authentication.specs.Nonces.{minting_of}
use Rattle.stun_authentication.proofs.NoncesLemmas.{unknown_length, known_again, unknown_again}
use Rattle.stun_authentication.proofs.nonces.NonceMaker.freshness.Goals as goal

pub returns-then-nonce-ne-LENGTH : goal.returns-then-nonce-ne-LENGTH
returns-then-nonce-ne-LENGTH c =
    sym (unknown_length (minting_of c.args.self.now) c.args.now (address_value c.args.client.now) c.args.nonce.now (λ e. omega (arith, c.if-nonce-ne-LENGTH.true, e)))

pub returns-then-same_bytes : goal.returns-then-same_bytes
returns-then-same_bytes c =
    let nonce = c.args.nonce.now in
    let same = ap (pointwise nat_eq nonce) (sym c.text-made.ensures) ∙ sym c.same_bytes.ensures ∙ c.if-same_bytes.true in
    c.aged.ensures ∙ sym (known_again (minting_of c.args.self.now) c.args.now c.stated_time-time.result (address_value c.args.client.now) nonce c.stated_time-time.ensures.value same)

pub returns-else-same_bytes : goal.returns-else-same_bytes
returns-else-same_bytes c =
    let nonce = c.args.nonce.now in
    let differs = ap (pointwise nat_eq nonce) (sym c.text-made.ensures) ∙ sym c.same_bytes.ensures ∙ c.if-same_bytes.false in
    sym (unknown_again (minting_of c.args.self.now) c.args.now c.stated_time-time.result (address_value c.args.client.now) nonce c.stated_time-time.ensures.value differs)
