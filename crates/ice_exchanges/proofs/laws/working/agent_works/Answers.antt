use Rattle.std.proofs.Common.{Some, sym, subst, ◌∙◌}
use Rattle.stun_grammar.specs.declared.integrity_algorithm.IntegrityAlgorithm.TheVariants.{Sha1}
use Rattle.ice_machine.specs.Events.{polls}
use Rattle.ice_machine.specs.Works.{IsValid}
use Rattle.ice_agent_state.specs.Agents.{output_at}
use Rattle.ice_checks.specs.declared.judged.Judged.{Judged}
use Rattle.ice_checks.specs.Checks.{response_text}
use Rattle.ice_checks.specs.Views.{success}
use Rattle.ice_agent.specs.Receiving.{is_awaited, received_as}
use Rattle.ice_exchanges.proofs.ResponsesLemmas.{success_judged}
use Rattle.ice_exchanges.proofs.RolesLemmas.{waited}
use Rattle.ice_exchanges.proofs.WorksLemmas.{keeps_busy, route_is}
use Rattle.ice_exchanges.proofs.laws.working.agent_works.Goals as goal

pub returns-clause-data : goal.returns-clause-data
returns-clause-data c = λ agent now component bytes p result selected said.
    route_is p bytes result (sym (c.agent_works.ensures.data agent.held.setup agent.held.state now 0 component bytes p selected) ∙ said)

pub returns-clause-busy : goal.returns-clause-busy
returns-clause-busy c = λ agent now id old new result free polled.
    keeps_busy agent now id old new result (output_at now id polls agent.held) (c.agent_works.ensures.busy agent.held.setup agent.held.state now id free) polled

pub returns-clause-response : goal.returns-clause-response
returns-clause-response c = λ agent peer other now fresh source r p knows small transport waits there live.
    let d = response_text r.id (success source) (Some (record { key = other.own.key; algorithm = Sha1 })) in
    let said = success_judged c.sockets_are_of_endpoints.ensures agent.logins other peer (is_awaited agent) r.base r.id r.to source knows small transport (waited agent now r waits) in
    subst (λ (j : Judged). IsValid r.base r.to (received_as j now fresh r.base r.to d agent).held.state) (sym said)
    (c.agent_works.ensures.response agent.held.setup agent.held.state now fresh r p waits there live)
