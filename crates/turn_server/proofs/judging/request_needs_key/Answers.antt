use Rattle.std.proofs.Common.{◌≡◌, ℕ, List, None, rules, ap, ◌∙◌}
use Rattle.stun_grammar.specs.Parsing.{parse_fault}
use Rattle.stun_types.specs.Message.{message_bytes}
use Rattle.stun_authentication.specs.LongTerm.{needs_key}
use Rattle.stun_authentication.specs.Lookups.{Known}
use Rattle.stun_authentication.specs.Nonces.{state_of}
use Rattle.turn_server.proofs.judging.request_needs_key.Goals as goal

pub returns-in-Ok : goal.returns-in-Ok
returns-in-Ok c =
    let d = c.args.datagram.now in
    let policy = c.args.access.now.policy in
    let known = state_of c.nonces_of-nonces.result in
    let parses : parse_fault d ≡ None = search rules in
    let bytes : message_bytes c.in-Ok.message ≡ d = search rules in
    let by_message : c.needs_key.result ≡ needs_key policy known d = c.needs_key.ensures ∙ ap (needs_key policy known) bytes in
    rw parses (by_message ∙ ap (λ (nonces : List ℕ → Known). needs_key policy nonces d) c.nonces_of-nonces.ensures)
