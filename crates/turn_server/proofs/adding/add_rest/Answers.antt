use Rattle.std.proofs.Common.{◌∷◌, ◌++◌, map}
use Rattle.stun_grammar.specs.AttributeTypes.{XOR_MAPPED_ADDRESS}
use Rattle.stun_authentication.proofs.AddedLemmas.{in_turn, failed}
use Rattle.turn_allocations.specs.Answers.{missing_in}
use Rattle.turn_server.specs.Answers.{address_attribute, lifetime_attribute, token_attribute, listed_one, missing_attribute}
use Rattle.turn_server.proofs.adding.add_rest.Goals as goal

pub returns-in_err-add_terms : goal.returns-in_err-add_terms
returns-in_err-add_terms g c =
    failed c.from_residual.result _ _ c.in_err-add_terms.field-0.0 (lifetime_attribute c.args.lifetime ∷ map token_attribute (listed_one c.args.token)) (address_attribute XOR_MAPPED_ADDRESS c.args.id c.args.client ∷ (map missing_attribute (missing_in 1 c.args.missing.ipv4) ++ map missing_attribute (missing_in 2 c.args.missing.ipv6))) c.in_err-add_terms.ensures c.from_residual.ensures

pub returns : goal.returns
returns g c =
    in_turn c.in_ok-add_terms.field-0 c.add_ends.result _ _ _ (lifetime_attribute c.args.lifetime ∷ map token_attribute (listed_one c.args.token)) (address_attribute XOR_MAPPED_ADDRESS c.args.id c.args.client ∷ (map missing_attribute (missing_in 1 c.args.missing.ipv4) ++ map missing_attribute (missing_in 2 c.args.missing.ipv6))) c.in_ok-add_terms.ensures c.add_ends.ensures
