-- How a transaction begins.
use Rattle.std.specs.Prelude.{ℕ, Bool, true, false, List, Option, None, Some, option_map, if◌then◌else◌}
use Rattle.std.specs.Option.{option_or}
use Rattle.stun_grammar.specs.Headers.{type_field, id_field}
use Rattle.stun_base.specs.MessageTypes.{class_of, method_of}
use Rattle.stun_authentication.specs.LongTerm.{is_request}
use Rattle.stun_transactions.specs.declared.beginning.BeginError.{BeginError}
use Rattle.stun_transactions.specs.declared.beginning.BeginError.TheVariants.{NotARequest, NotSigned, Signed, KeyForOneAlgorithm}
use Rattle.stun_transactions.specs.declared.guard.Protection.{Protection}
use Rattle.stun_transactions.specs.declared.parts.Mechanism.{Mechanism}
use Rattle.stun_transactions.specs.declared.parts.PartsError.{PartsError}
use Rattle.stun_transactions.specs.declared.parts.PartsError.TheVariants.{KeyForOneAlgorithm as ForOneAlgorithm}
use Rattle.stun_transactions.specs.declared.parts.TransactionParts.{TransactionParts}
use Rattle.stun_transactions.specs.declared.plan.Plan.{Plan}
use Rattle.stun_transactions.specs.declared.response_policy.ResponsePolicy.{ResponsePolicy}
use Rattle.stun_transactions.specs.declared.retransmission.RetransmissionState.{RetransmissionState}
use Rattle.stun_transactions.specs.Guards.{signed_by, is_signed, mechanism_of, key_of, signs}
use Rattle.stun_transactions.specs.Parts.{key_fault}

-- why no transaction begins by whether a credential is to protect the request, and whether it is
-- signed
abbrev pub mismatch : (signs signed : Bool) → Option BeginError
mismatch true false = Some NotSigned
mismatch false true = Some Signed
mismatch true true = None
mismatch false false = None

-- why no transaction begins with r as its request, by the request
abbrev pub request_fault : (signs : Bool) → List ℕ → Option BeginError
request_fault signs r =
    if is_request (class_of (type_field r)) then mismatch signs (is_signed (signed_by r))
    else Some NotARequest

-- the same by the key: a short-term one that works with none of the request's integrity attributes
-- did not sign it (RFC 8489, section 9.1.2)
abbrev pub misfit : PartsError → BeginError
misfit ForOneAlgorithm = KeyForOneAlgorithm
misfit _ = NotSigned

-- why no transaction begins with r as its request
abbrev pub begin_fault : Protection → List ℕ → Option BeginError
begin_fault protection r =
    option_or (request_fault (signs (mechanism_of protection)) r)
    (option_map misfit (key_fault (mechanism_of protection) (signed_by r) (key_of protection)))

-- the parts of a transaction of the request r that has come so far
abbrev pub request_parts : List ℕ → Plan → Option Mechanism → ResponsePolicy → RetransmissionState
    → TransactionParts
request_parts r plan mechanism usage state = record {
  plan = plan;
  method = method_of (type_field r);
  id = id_field r;
  signed = signed_by r;
  mechanism = mechanism;
  usage = usage;
  state = state;
}
