use Rattle.std.proofs.Common.{◌≡◌, ℕ, List, None, refl, ap, rules, ◌∙◌}
use Rattle.stun_grammar.specs.Accepting.{IsAuthentic}
use Rattle.stun_grammar.proofs.VerdictsLemmas.{verdict_keyed}
use Rattle.stun_grammar.proofs.AcceptingLemmas.{is_authentic, if_ok, accepts, carried_whole}
use Rattle.stun_keys.specs.Keys.{key_bytes, credentials_key}
use Rattle.stun_types.specs.Message.{message_bytes}
use Rattle.stun_grammar.specs.Hmac.{hmac}
use Rattle.stun_types.specs.GivenHmacs.{text_algorithm, text_bytes}
use Rattle.stun_types.proofs.GivenHmacsLemmas.{by_key}
use Rattle.stun_types.proofs.message.read.Message.validate_integrity.Goals as goal

pub returns-in_err-check-clause-carried : goal.returns-in_err-check-clause-carried
returns-in_err-check-clause-carried c = λ t a ample.
    carried_whole None c.from_residual.result (credentials_key c.args.credentials.now) (message_bytes c.args.self.now) t a c.integrity_check.ensures.bytes c.args.self.now.parsed (search (verdict_keyed, rules)) refl

pub returns-clause-verdict : goal.returns-clause-verdict
returns-clause-verdict c = λ _.
    let d = message_bytes c.args.self.now in
    let text = c.text-text.result in
    let keys = credentials_key c.args.credentials.now in
    let own : key_bytes c.in_ok-key.key ≡ keys (text_algorithm text) = c.in_ok-key.ensures.ok ∙ ap keys c.algorithm.ensures in
    c.finish.ensures.verdict None d c.in_ok-check.ensures.check
    ∙ by_key None d c.in_ok-check.check text c.hmac.result keys c.in_ok-check.ensures.check c.text-text.ensures (c.hmac.ensures.given ∙ ap (λ (k : List ℕ). hmac (text_algorithm text) k (text_bytes text)) own)

pub returns-clause-accepted : goal.returns-clause-accepted
returns-clause-accepted c =
    let d = message_bytes c.args.self.now in
    let keys = credentials_key c.args.credentials.now in
    if_ok c.finish.result (IsAuthentic keys d) (λ a e. is_authentic keys d a c.integrity_check.ensures.bytes c.args.self.now.parsed (accepts _ _ a (returns-clause-verdict c) e))

pub returns-clause-carried : goal.returns-clause-carried
returns-clause-carried c = λ t a ample.
    carried_whole None c.finish.result (credentials_key c.args.credentials.now) (message_bytes c.args.self.now) t a c.integrity_check.ensures.bytes c.args.self.now.parsed (returns-clause-verdict c ample) refl
