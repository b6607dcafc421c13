use Rattle.std.proofs.Common.{sym, subst}
use Rattle.std.specs.Str.{IsUtf8}
use Rattle.stun_values.specs.Addresses.{address_value}
use Rattle.stun_authentication.specs.Nonces.{minting_of}
use Rattle.stun_authentication.proofs.NoncesLemmas.{minted_utf8}
use Rattle.stun_authentication.proofs.nonces.NonceMaker.make.Goals as goal

pub unreachable-requires : goal.unreachable-requires
unreachable-requires c =
    c.in-Err.ensures.cases.0 (subst IsUtf8 (sym c.text-text.ensures) (minted_utf8 (minting_of c.args.self.now) c.args.now (address_value c.args.client.now)))
