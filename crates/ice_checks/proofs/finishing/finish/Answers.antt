use Rattle.stun_keys.specs.Keys.{key_algorithm, key_bytes}
use Rattle.stun_grammar.specs.Steps.{sign}
use Rattle.std.proofs.Common.{true, ◌∷◌}
use Rattle.stun_authentication.specs.Writing.{finished, print_steps, signed, signing_refusal}
use Rattle.ice_checks.proofs.MemoryLemmas.{sign_not}
use Rattle.ice_checks.proofs.WritingLemmas.{signed_ends}
use Rattle.ice_checks.proofs.finishing.finish.Goals as goal

pub returns-in-Some : goal.returns-in-Some
returns-in-Some g c =
    let state = g.B.MessageWrite.state in
    let signature = c.in-Some.signature in
    let key = key_bytes signature.key.now in
    let made_for = key_algorithm signature.key.now in
    let algorithm = signature.algorithm in
    rw c.in-Some.is (signed_ends (signing_refusal made_for algorithm) c.sign_and_print.result (state c.args.write.now) (state c.sign_and_print.new.write)
    (λ kind id before. finished true kind id (signed kind id before algorithm key)) (sign algorithm key ∷ print_steps true) (sign_not made_for algorithm) c.sign_and_print.ensures)

pub returns-in-None : goal.returns-in-None
returns-in-None g c = rw c.in-None.is c.print.ensures
