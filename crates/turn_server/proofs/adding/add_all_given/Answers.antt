use Rattle.stun_authentication.proofs.AddedLemmas.{in_turn, failed}
use Rattle.turn_server.specs.Answers.{given_attributes}
use Rattle.turn_server.proofs.adding.add_all_given.Goals as goal

pub returns-in_err-add_given : goal.returns-in_err-add_given
returns-in_err-add_given g c =
    failed c.from_residual.result _ _ c.in_err-add_given.field-0.0 (given_attributes c.args.id c.args.given.ipv4) (given_attributes c.args.id c.args.given.ipv6) c.in_err-add_given.ensures c.from_residual.ensures

pub returns : goal.returns
returns g c =
    in_turn c.in_ok-add_given.field-0 c.add_given-2.result _ _ _ (given_attributes c.args.id c.args.given.ipv4) (given_attributes c.args.id c.args.given.ipv6) c.in_ok-add_given.ensures c.add_given-2.ensures
