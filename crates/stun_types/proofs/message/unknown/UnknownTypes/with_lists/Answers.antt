use Rattle.std.proofs.Common.{Bool, List, map, ap, ◌∙◌}
use Rattle.std.specs.List.{filter}
use Rattle.stun_grammar.specs.Chains.{Shown}
use Rattle.stun_grammar.specs.Showing.{shown}
use Rattle.stun_types.specs.Replies.{joined, is_unknown}
use Rattle.stun_types.proofs.ShownTypesLemmas.{view_type, views_types}
use Rattle.stun_types.proofs.message.unknown.UnknownTypes.with_lists.Goals as goal

pub returns : goal.returns
returns c =
    let test = is_unknown (joined c.args.supported.now) in
    ap (λ (views : List (Shown × Bool)). filter test (map view_type views)) c.new.ensures.items ∙ ap (filter test) (views_types (shown c.args.bytes.now))
