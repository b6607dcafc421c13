use Rattle.std.proofs.Common.{ℕ, List, sym, rules, ◌∙◌}
use Rattle.stun_grammar.specs.declared.integrity_algorithm.IntegrityAlgorithm.{IntegrityAlgorithm}
use Rattle.stun_grammar.specs.Accepting.{IsAuthenticThrough}
use Rattle.stun_grammar.proofs.VerdictsLemmas.{verdict_keyed}
use Rattle.stun_grammar.proofs.AcceptingLemmas.{is_authentic_through, if_ok, carried_whole, carried_prefix}
use Rattle.stun_keys.specs.Keys.{key_bytes, key_algorithm}
use Rattle.stun_types.specs.Message.{message_bytes}
use Rattle.stun_types.specs.GivenHmacs.{IsCheckOf}
use Rattle.stun_types.proofs.GivenHmacsLemmas.{by_key}
use Rattle.stun_types.proofs.message.read.Message.validate_integrity_with_key.Goals as goal

pub returns-in_err-check-clause-carried : goal.returns-in_err-check-clause-carried
returns-in_err-check-clause-carried c = λ t a none.
    carried_whole (key_algorithm c.args.key.now) c.from_residual.result (λ _. key_bytes c.args.key.now) (message_bytes c.args.self.now) t a c.integrity_check.ensures.bytes c.args.self.now.parsed (search (verdict_keyed, rules)) none

pub returns-in_err-check-clause-carried_own : goal.returns-in_err-check-clause-carried_own
returns-in_err-check-clause-carried_own c = λ t a own.
    carried_prefix (key_algorithm c.args.key.now) c.from_residual.result (λ _. key_bytes c.args.key.now) (message_bytes c.args.self.now) t a c.integrity_check.ensures.bytes c.args.self.now.parsed (search (verdict_keyed, rules)) own

pub returns-clause-verdict : goal.returns-clause-verdict
returns-clause-verdict c =
    let m = key_algorithm c.args.key.now in
    let t : IsCheckOf m (message_bytes c.args.self.now) c.in_ok-check.check = rw c.algorithm.ensures at c.in_ok-check.ensures.check in
    c.finish.ensures.verdict m (message_bytes c.args.self.now) t
    ∙ by_key m (message_bytes c.args.self.now) c.in_ok-check.check c.text-text.result c.hmac.result (λ _. key_bytes c.args.key.now) t c.text-text.ensures c.hmac.ensures.given

pub returns-clause-accepted : goal.returns-clause-accepted
returns-clause-accepted c =
    let d = message_bytes c.args.self.now in
    let m = key_algorithm c.args.key.now in
    let keys : IntegrityAlgorithm → List ℕ = λ _. key_bytes c.args.key.now in
    if_ok c.finish.result (IsAuthenticThrough m keys d) (λ a e. is_authentic_through m keys d a c.integrity_check.ensures.bytes c.args.self.now.parsed (sym (returns-clause-verdict c) ∙ e))

pub returns-clause-carried : goal.returns-clause-carried
returns-clause-carried c = λ t a none.
    carried_whole (key_algorithm c.args.key.now) c.finish.result (λ _. key_bytes c.args.key.now) (message_bytes c.args.self.now) t a c.integrity_check.ensures.bytes c.args.self.now.parsed (returns-clause-verdict c) none

pub returns-clause-carried_own : goal.returns-clause-carried_own
returns-clause-carried_own c = λ t a own.
    carried_prefix (key_algorithm c.args.key.now) c.finish.result (λ _. key_bytes c.args.key.now) (message_bytes c.args.self.now) t a c.integrity_check.ensures.bytes c.args.self.now.parsed (returns-clause-verdict c) own
