use Rattle.std.specs.Prelude.{map}
use Rattle.stun_authentication.proofs.AddedLemmas.{in_turn, failed}
use Rattle.turn_allocations.specs.Answers.{missing_in}
use Rattle.turn_server.specs.Answers.{missing_attribute}
use Rattle.turn_server.proofs.adding.add_all_missing.Goals as goal

pub returns-in_err-add_missing : goal.returns-in_err-add_missing
returns-in_err-add_missing g c =
    failed c.from_residual.result _ _ c.in_err-add_missing.field-0.0 (map missing_attribute (missing_in 1 c.args.missing.ipv4)) (map missing_attribute (missing_in 2 c.args.missing.ipv6)) c.in_err-add_missing.ensures c.from_residual.ensures

pub returns : goal.returns
returns g c =
    in_turn c.in_ok-add_missing.field-0 c.add_missing-2.result _ _ _ (map missing_attribute (missing_in 1 c.args.missing.ipv4)) (map missing_attribute (missing_in 2 c.args.missing.ipv6)) c.in_ok-add_missing.ensures c.add_missing-2.ensures
