use Rattle.std.proofs.Common.{[], ◌∷◌, map}
use Rattle.stun_authentication.proofs.AddedLemmas.{in_turn, failed}
use Rattle.turn_server.specs.Answers.{lifetime_attribute, token_attribute, listed_one}
use Rattle.turn_server.proofs.adding.add_terms.Goals as goal

pub returns-in_err-add_lifetime : goal.returns-in_err-add_lifetime
returns-in_err-add_lifetime g c =
    failed c.from_residual.result _ _ c.in_err-add_lifetime.field-0.0 (lifetime_attribute c.args.lifetime ∷ []) (map token_attribute (listed_one c.args.token)) c.in_err-add_lifetime.ensures c.from_residual.ensures

pub returns : goal.returns
returns g c =
    in_turn c.in_ok-add_lifetime.field-0 c.add_token.result _ _ _ (lifetime_attribute c.args.lifetime ∷ []) (map token_attribute (listed_one c.args.token)) c.in_ok-add_lifetime.ensures c.add_token.ensures
