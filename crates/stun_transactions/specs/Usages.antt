-- What a STUN usage specifies of the responses that a client takes (RFC 8489, sections 7 and 14.6).
use Rattle.std.specs.Prelude.{ℕ, Bool, not, ◌&&◌, List, is_some}
use Rattle.stun_grammar.specs.AttributeTypes.{FINGERPRINT}
use Rattle.stun_types.specs.LookingUp.{nth}
use Rattle.stun_transactions.specs.declared.response_policy.ResponsePolicy.{ResponsePolicy}

-- whether the usage sends FINGERPRINT, and d shows none (sections 6.3 and 7)
abbrev pub lacks_fingerprint : ResponsePolicy → List ℕ → Bool
lacks_fingerprint usage d = usage.fingerprint && not (is_some (nth d FINGERPRINT 0))
