use Rattle.std.proofs.Common.{◌∷◌, ◌++◌, map, List, subst}
use Rattle.stun_grammar.specs.Attributes.{Attribute}
use Rattle.stun_grammar.specs.AttributeTypes.{XOR_MAPPED_ADDRESS}
use Rattle.stun_authentication.specs.Writing.{Lengthens}
use Rattle.stun_authentication.proofs.AddedLemmas.{in_turn, failed}
use Rattle.turn_allocations.specs.Answers.{missing_in, missing_list}
use Rattle.turn_server.specs.Answers.{address_attribute, lifetime_attribute, token_attribute, listed_one, given_attributes, missing_attribute}
use Rattle.turn_server.proofs.OpeningLemmas.{relayed_by_family, missing_by_family}
use Rattle.turn_server.proofs.adding.add_allocation.Goals as goal

pub returns-in_err-add_all_given : goal.returns-in_err-add_all_given
returns-in_err-add_all_given g c =
    let terms = lifetime_attribute c.args.lifetime ∷ map token_attribute (listed_one c.args.token) in
    let mapped = address_attribute XOR_MAPPED_ADDRESS c.args.id c.args.client in
    let given = given_attributes c.args.id c.args.given.ipv4 ++ given_attributes c.args.id c.args.given.ipv6 in
    let missing = map missing_attribute (missing_in 1 c.args.missing.ipv4) ++ map missing_attribute (missing_in 2 c.args.missing.ipv6) in
    rw (relayed_by_family c.args.id c.args.given, missing_by_family c.args.missing) at
    (failed c.from_residual.result _ _ c.in_err-add_all_given.field-0.0 given (terms ++ (mapped ∷ missing)) c.in_err-add_all_given.ensures c.from_residual.ensures)

pub returns : goal.returns
returns g c =
    let terms = lifetime_attribute c.args.lifetime ∷ map token_attribute (listed_one c.args.token) in
    let mapped = address_attribute XOR_MAPPED_ADDRESS c.args.id c.args.client in
    let given = given_attributes c.args.id c.args.given.ipv4 ++ given_attributes c.args.id c.args.given.ipv6 in
    let missing = map missing_attribute (missing_in 1 c.args.missing.ipv4) ++ map missing_attribute (missing_in 2 c.args.missing.ipv6) in
    let all = in_turn c.in_ok-add_all_given.field-0 c.add_rest.result _ _ _ given (terms ++ (mapped ∷ missing)) c.in_ok-add_all_given.ensures c.add_rest.ensures in
    subst (λ (xs : List Attribute). Lengthens c.add_rest.result (g.B.MessageWrite.state c.args.write.now) (g.B.MessageWrite.state c.add_rest.new.write) (xs ++ (terms ++ (mapped ∷ map missing_attribute (missing_list c.args.missing))))) (relayed_by_family c.args.id c.args.given)
    (subst (λ (m : List Attribute). Lengthens c.add_rest.result (g.B.MessageWrite.state c.args.write.now) (g.B.MessageWrite.state c.add_rest.new.write) (given ++ (terms ++ (mapped ∷ m)))) (missing_by_family c.args.missing) all)
