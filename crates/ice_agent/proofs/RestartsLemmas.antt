-- What the agents of a session do.
use Rattle.std.proofs.Common.{◌≡◌, ℕ, List, Option, None, Some, Result, sym, ap, ◌∙◌}
use Rattle.stun_grammar.specs.declared.error.StunWriteError.{StunWriteError}
use Rattle.stun_endpoints.specs.declared.endpoints.Endpoint.{Endpoint}
use Rattle.ice_machine.specs.declared.messages.Request.{Request}
use Rattle.ice_machine.specs.Events.{Event, arrives}
use Rattle.ice_checks.specs.declared.judged.Judged.{Judged}
use Rattle.ice_checks.specs.Views.{Login}
use Rattle.ice_agent.specs.declared.restarting.Taker.{Taker}
use Rattle.ice_agent.specs.declared.restarting.Taker.TheVariants.{Both}
use Rattle.ice_agent.specs.declared.sending.Sending.{Sending}
use Rattle.ice_agent.specs.Agents.{Agent, passes}
use Rattle.ice_agent.specs.Receiving.{judged}
use Rattle.ice_agent.specs.Restarts.{received_by, taker, takes}
use Rattle.ice_agent.specs.Sending.{IsSent}

-- data comes to both
pub both_take : (newer older one other : Agent) (now fresh base : ℕ) (from : Endpoint) (d : List ℕ) (for_newer for_older : Judged) (said : Taker)
    → for_newer ≡ judged newer base from d → for_older ≡ judged older base from d → said ≡ taker for_newer for_older → said ≡ Both
    → one ≡ passes now 0 (arrives base from d) newer → other ≡ passes now 0 (arrives base from d) older
    → received_by now fresh base from d newer (Some older) ≡ record { newer = one; older = Some other }
both_take newer older one other now fresh base from d for_newer for_older said newer_is older_is said_is both one_is other_is =
    let is : taker (judged newer base from d) (judged older base from d) ≡ Both = (λ i. taker (sym newer_is i) (sym older_is i)) ∙ sym said_is ∙ both in
    ap (λ (t : Taker). takes t (judged newer base from d) (judged older base from d) now fresh base from d newer older) is
    ∙ (λ i. record { newer = sym one_is i; older = Some (sym other_is i) })

-- an event changes the machine alone, and not what requests say
pub sent_alike : (agent : Agent) (now fresh : ℕ) (event : Event) (peer : Option Login) (r : Request) (old new : List ℕ) (result : Result (Option Sending) StunWriteError)
    → IsSent (passes now fresh event agent) peer r old new result → IsSent agent peer r old new result
sent_alike agent now fresh event None r old new result sent = sent
sent_alike agent now fresh event (Some peer) r old new result sent = sent
