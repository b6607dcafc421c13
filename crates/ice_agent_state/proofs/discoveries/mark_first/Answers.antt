use Rattle.std.proofs.Common.{◌≡◌, ◌++◌, ◌<◌, List, length, take, drop, set, get_or, true, sym, ap, ◌∙◌, arith}
use Rattle.std.proofs.lemmas.List.{get_or_default}
use Rattle.ice_machine.specs.Steps.{changed_first}
use Rattle.ice_agent_state.specs.Kept.{Kept, is_found, reported}
use Rattle.ice_agent_state.proofs.AskedLemmas.{first_here}
use Rattle.ice_agent_state.proofs.discoveries.mark_first.Goals as goal

pub returns-then-is_found : goal.returns-then-is_found
returns-then-is_found c =
    let lt : c.loop-i.i < length c.loop-i.addresses = omega arith in
    let here : Kept = get_or c.loop-i.addresses c.loop-i.i c.index-addresses-i.result in
    let passes : is_found here ≡ true = sym c.is_found.ensures ∙ c.if-is_found.true in
    let marked : c.mark.new.self ≡ reported here
    = c.mark.ensures ∙ ap reported (get_or_default c.loop-i.addresses c.loop-i.i c.index-addresses-i-then-is_found.result c.index-addresses-i.result lt) in
    ap (λ (k : Kept). set c.loop-i.addresses c.loop-i.i k) marked
    ∙ first_here is_found reported c.loop-i.addresses c.loop-i.i c.index-addresses-i.result lt passes
    ∙ ap (λ (ks : List Kept). take c.loop-i.i ks ++ changed_first is_found reported (drop c.loop-i.i ks)) c.loop-i.invariant.same
    ∙ sym c.loop-i.invariant.so_far
