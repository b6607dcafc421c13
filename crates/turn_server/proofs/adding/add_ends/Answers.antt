use Rattle.std.proofs.Common.{[], ◌∷◌, ◌++◌, map}
use Rattle.stun_grammar.specs.AttributeTypes.{XOR_MAPPED_ADDRESS}
use Rattle.stun_authentication.proofs.AddedLemmas.{in_turn, failed}
use Rattle.turn_allocations.specs.Answers.{missing_in}
use Rattle.turn_server.specs.Answers.{address_attribute, missing_attribute}
use Rattle.turn_server.proofs.adding.add_ends.Goals as goal

pub returns-in_err-add_mapped : goal.returns-in_err-add_mapped
returns-in_err-add_mapped g c =
    failed c.from_residual.result _ _ c.in_err-add_mapped.field-0.0 (address_attribute XOR_MAPPED_ADDRESS c.args.id c.args.client ∷ []) (map missing_attribute (missing_in 1 c.args.missing.ipv4) ++ map missing_attribute (missing_in 2 c.args.missing.ipv6)) c.in_err-add_mapped.ensures c.from_residual.ensures

pub returns : goal.returns
returns g c =
    in_turn c.in_ok-add_mapped.field-0 c.add_all_missing.result _ _ _ (address_attribute XOR_MAPPED_ADDRESS c.args.id c.args.client ∷ []) (map missing_attribute (missing_in 1 c.args.missing.ipv4) ++ map missing_attribute (missing_in 2 c.args.missing.ipv6)) c.in_ok-add_mapped.ensures c.add_all_missing.ensures
