-- What contracts show of a transaction.
use Rattle.std.specs.Prelude.{◌≡◌, ℕ, true, List, Option, None, is_some, MatchOption, min}
use Rattle.std.specs.Duration.{as_nanos, max_nanos}
use Rattle.std.specs.declared.time.Duration.{Duration}
use Rattle.stun_grammar.specs.declared.attribute_type.AttributeType.{AttributeType}
use Rattle.stun_transactions.specs.declared.guard.Protection.{Protection}
use Rattle.stun_transactions.specs.declared.parts.TransactionParts.{TransactionParts}
use Rattle.stun_transactions.specs.declared.plan.Plan.{Plan}
use Rattle.stun_transactions.specs.declared.response_policy.ResponsePolicy.{ResponsePolicy}
use Rattle.stun_transactions.specs.declared.retransmission.RetransmissionState.{RetransmissionState}
use Rattle.stun_transactions.specs.declared.retransmission.TransactionEnd.{TransactionEnd}
use Rattle.stun_transactions.specs.declared.transaction.Transaction.{Transaction}
use Rattle.stun_transactions.specs.Beginning.{request_parts}
use Rattle.stun_transactions.specs.Guards.{mechanism_of, key_of}
use Rattle.stun_transactions.specs.Outcomes.{after}
use Rattle.stun_transactions.specs.Parts.{at_state}
use Rattle.stun_transactions.specs.Receiving.{received_outcome}
use Rattle.stun_transactions.specs.Retransmissions.{begun, due, ended_by, stopped_by}

-- a transaction of the request r that begins
abbrev pub begun_with : List ℕ → Plan → Protection → ResponsePolicy → Duration → Transaction
begun_with r plan protection usage now = record {
  parts = request_parts r plan (mechanism_of protection) usage (begun now);
  key = key_of protection;
}

-- the same transaction, but that it has come so far
abbrev pub going_on : Transaction → RetransmissionState → Transaction
going_on t state = record t { parts = at_state t.parts state }

-- a transaction after the message d
abbrev pub after_receiving : List AttributeType → List ℕ → Transaction → Transaction
after_receiving understood d t =
    going_on t (after (received_outcome t.parts t.key understood d) t.parts.state)

-- one that is ended so, unless it has ended
abbrev pub ending : TransactionEnd → Transaction → Transaction
ending end t = going_on t (ended_by end t.parts.state)

-- one that sends nothing more, unless it has ended
abbrev pub stopping : Transaction → Transaction
stopping t = going_on t (stopped_by t.parts.state)

-- the moment at which a transaction of these parts is to be polled next, if it goes on
abbrev pub Wakes : TransactionParts → Option Duration → Type 0
Wakes parts moment =
    MatchOption moment (is_some parts.state.end ≡ true)
    (λ at. (parts.state.end ≡ None)
    × (as_nanos at ≡ min (due parts.plan parts.state) max_nanos))
