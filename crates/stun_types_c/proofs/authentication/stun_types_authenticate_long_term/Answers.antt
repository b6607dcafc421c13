use Rattle.std.proofs.Common.{◌≡◌, Some, sym, ap, ◌∙◌}
use Rattle.std.specs.Option.{option_map}
use Rattle.stun_types_c.specs.Authentication.{policy_named, nonce_named}
use Rattle.stun_types_c.specs.KeyHandles.{shared_key}
use Rattle.stun_types_c.specs.Users.{held_of, known_of}
use Rattle.stun_types_c.proofs.CAuthenticatedLemmas.{authenticated, reported_by}
use Rattle.stun_types_c.proofs.authentication.stun_types_authenticate_long_term.Goals as goal

pub returns : goal.returns
returns c =
    let policy = c.in-Some-Some.policy in
    let nonce = c.in-Some-Some.nonce in
    let named : policy_named c.args.policy.now ≡ Some policy = sym c.policy_of.ensures ∙ c.in-Some-Some.is-0 in
    let state : nonce_named c.args.nonce_state c.args.algorithms.now ≡ Some (known_of nonce) = c.nonce_of.ensures ∙ ap (option_map known_of) c.in-Some-Some.is-1 in
    let decided = rw (c.in-Ok.ensures.1, c.key_in.ensures, c.key_in-2.ensures) at c.long_term_decision-answer.ensures in
    authenticated c.args.policy.now (nonce_named c.args.nonce_state c.args.algorithms.now) (shared_key c.args.md5_key.now) (shared_key c.args.sha256_key.now) c.args.bytes.now policy (known_of nonce) (Some (held_of (shared_key c.args.md5_key.now))) c.tell.result c.tell.new.out
    c.in-Ok.ensures.0 named state (reported_by c.key_in.result (held_of (shared_key c.args.md5_key.now)) _ c.tell.result c.tell.new.out c.key_in.ensures (c.tell.ensures _ decided))
