-- What a request is that is accepted.
use Rattle.std.proofs.Common.{◌≡◌, ℕ, List, Ok, ap}
use Rattle.stun_grammar.specs.declared.integrity_algorithm.IntegrityAlgorithm.{IntegrityAlgorithm}
use Rattle.stun_authentication.specs.Answers.{Decision, accept, refuse, discard, not_a_request}
use Rattle.stun_endpoints.specs.declared.endpoints.Endpoint.{Endpoint}
use Rattle.ice_checks.specs.Authentic.{Decides}
use Rattle.ice_checks.specs.Judging.{accepted, decided}

-- by the algorithm that was returned
pub decided_so : (base : ℕ) (from : Endpoint) (d : List ℕ) (decision : Decision) (a : IntegrityAlgorithm) → Decides decision (Ok a) → decided base from d decision ≡ accepted base from d a
decided_so base from d (accept user key algorithm reply) a is = ap (accepted base from d) is.0
decided_so base from d (refuse refusal) a is = absurd is
decided_so base from d discard a is = absurd is
decided_so base from d not_a_request a is = absurd is
