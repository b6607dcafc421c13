use Rattle.std.proofs.Common.{◌≡◌, ℕ, ◌∙◌, ap, find, None, Some, rules}
use Rattle.stun_endpoints.specs.declared.endpoints.Endpoint.{Endpoint}
use Rattle.ice_agent_state.specs.declared.changes.Change.TheVariants.{Discovered}
use Rattle.ice_agent_state.specs.Kept.{is_found}
use Rattle.ice_agent_state.proofs.KeptLemmas.{first_change, change_of}
use Rattle.ice_agent_state.proofs.discoveries.found_change.Goals as goal

pub returns-in-None : goal.returns-in-None
returns-in-None c =
    let none : None ≡ find is_found c.args.addresses.now = search rules in
    ap change_of none ∙ first_change c.args.addresses.now

pub returns-in-Some : goal.returns-in-Some
returns-in-Some c =
    let some : Some c.in-Some.first.now ≡ find is_found c.args.addresses.now = search rules in
    ap (λ (n : ℕ). Some (Discovered n c.address.result)) c.base.ensures
    ∙ ap (λ (a : Endpoint). Some (Discovered c.in-Some.first.now.base a)) c.address.ensures
    ∙ ap change_of some ∙ first_change c.args.addresses.now
