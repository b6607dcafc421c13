use Rattle.std.proofs.Common.{ℕ, List, None, subst}
use Rattle.stun_grammar.specs.declared.integrity_algorithm.IntegrityAlgorithm.{IntegrityAlgorithm}
use Rattle.stun_keys.specs.Keys.{key_bytes}
use Rattle.stun_types.specs.Message.{message_bytes}
use Rattle.stun_types.specs.declared.message.covered.CoveredText.{CoveredText}
use Rattle.stun_types.specs.GivenHmacs.{IsHmacOf}
use Rattle.user_examples.proofs.halves.validate_in_halves.Goals as goal

pub returns : goal.returns
returns c =
    let keys : IntegrityAlgorithm → List ℕ = λ _. key_bytes c.args.key.now in
    c.finish.ensures.keyed None (message_bytes c.args.message.now) keys c.in_ok-check.ensures.check
    (subst (λ (text : CoveredText). IsHmacOf keys text c.hmac.result) c.text.ensures c.hmac.ensures.given)
