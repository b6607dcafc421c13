use Rattle.std.proofs.Common.{◌≡◌, ℕ, ◌++◌, refl}
use Rattle.std.specs.Prelude.{codes}
use Rattle.stun_text.proofs.Joining.{both, spelled_so}
use Rattle.stun_plain_text.specs.PlainValues.{type_text, malformed_type_text}
use Rattle.stun_plain_text.proofs.values.put_malformed_type.Goals as goal

pieces : (type : ℕ) → type_text type ++ codes "(Malformed): " ≡ malformed_type_text type
pieces type = refl

pub returns : goal.returns
returns g c =
    let wrote = g.S.TextSink.wrote in
    let joins = g.met.S.TextSink.joins in
    let a = c.in_ok-put_type.ensures in
    let b = c.in_ok-put.ensures in
    spelled_so wrote joins (pieces c.args.atype.0) (both wrote joins a b)
