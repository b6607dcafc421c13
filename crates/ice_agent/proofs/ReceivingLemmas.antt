-- What comes of a datagram, by what it is.
use Rattle.std.proofs.Common.{◌≡◌, ℕ, ◌%◌, ◌^◌, List, Option, None, Some, Result, refl, sym, ap, ◌∙◌, subst}
use Rattle.std.specs.Option.{option_map}
use Rattle.stun_grammar.specs.declared.error.StunWriteError.{StunWriteError}
use Rattle.stun_grammar.specs.declared.integrity_algorithm.IntegrityAlgorithm.{IntegrityAlgorithm}
use Rattle.stun_endpoints.specs.declared.endpoints.Endpoint.{Endpoint}
use Rattle.ice_machine.specs.declared.messages.Answer.{Answer}
use Rattle.ice_machine.specs.Events.{Output}
use Rattle.ice_agent_state.specs.Outputs.{refused_with}
use Rattle.ice_checks.specs.declared.judged.Judged.{Judged}
use Rattle.ice_checks.specs.declared.judged.Judged.TheVariants.{Refused}
use Rattle.ice_checks.specs.declared.judged.Refusal.{Refusal}
use Rattle.ice_checks.specs.Judging.{refusal_to}
use Rattle.ice_checks.specs.Views.{Logins, Response, Signing}
use Rattle.ice_agent.specs.declared.receiving.Received.{Received}
use Rattle.ice_agent.specs.Agents.{Agent}
use Rattle.ice_agent.specs.Receiving.{IsReplied, Receives, received_as, signing_by}

-- the agent then
pub takes_as : (agent next : Agent) (now fresh base : ℕ) (from : Endpoint) (d : List ℕ) (said j : Judged) → said ≡ j → next ≡ received_as j now fresh base from d agent → next ≡ received_as said now fresh base from d agent
takes_as agent next now fresh base from d said j is e = e ∙ ap (λ (x : Judged). received_as x now fresh base from d agent) (sym is)

signed_alike : (agent after : Agent) (signed_by : Option IntegrityAlgorithm) → after.logins ≡ agent.logins → option_map (signing_by after) signed_by ≡ option_map (signing_by agent) signed_by
signed_alike agent after None same = refl
signed_alike agent after (Some algorithm) same = ap (λ (logins : Logins). Some (record { key = logins.own.key; algorithm = algorithm })) same

-- a request that isn't a check is refused
pub refusal_replied : (agent after : Agent) (base : ℕ) (from : Endpoint) (d : List ℕ) (id : ℕ) (refusal : Refusal) (signed_by : Option IntegrityAlgorithm) (output : Output) (answer : Answer) (response : Response) (old new : List ℕ) (result : Result Received StunWriteError)
    → output ≡ refused_with base from id (Some answer) → after.logins ≡ agent.logins → response ≡ refusal_to d refusal
    → IsReplied (Some (record { id = id % 2 ^ 96; response = response; signing = option_map (signing_by after) signed_by })) old new result
    → Receives agent d (Refused id refusal signed_by) output old new result
refusal_replied agent after base from d id refusal signed_by output answer response old new result is same says replied =
    subst (λ (o : Output). Receives agent d (Refused id refusal signed_by) o old new result) (sym is)
    (subst (λ (r : Response). IsReplied (Some (record { id = id % 2 ^ 96; response = r; signing = option_map (signing_by agent) signed_by })) old new result) says
    (subst (λ (s : Option Signing). IsReplied (Some (record { id = id % 2 ^ 96; response = response; signing = s })) old new result) (signed_alike agent after signed_by same) replied))
