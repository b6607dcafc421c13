use Rattle.std.proofs.Common.{◌≡◌, ℕ, Some, None, ap, subst, ◌∙◌, true}
use Rattle.stun_attributes.specs.Texts.{text_bytes}
use Rattle.stun_types.specs.Message.{message_bytes}
use Rattle.stun_values.specs.Addresses.{address_value}
use Rattle.stun_authentication.specs.Asking.{Asked, asked_in, asked_for, listed}
use Rattle.stun_authentication.specs.Nonces.{minting_of, minted}
use Rattle.stun_authentication.specs.Refusing.{challenge_error, refusal_of, refusal_sizes}
use Rattle.stun_authentication.specs.Writing.{no_room}
use Rattle.turn_server.specs.Access.{nonce_for, asked_by, seconds_of}
use Rattle.turn_server.specs.Responses.{IsWritten}
use Rattle.turn_server.proofs.AskingLemmas.{list_fits, made_if}
use Rattle.turn_server.proofs.responding.write_refusal.Goals as goal

pub out_of_memory-requires : goal.out_of_memory-requires
out_of_memory-requires c =
    let minting = minting_of c.args.access.now.nonces in
    let nonce : text_bytes c.in_ok-nonce.nonce ≡ nonce_for minting c.args.now c.args.client =
    c.in_ok-nonce.ensures.nonce ∙ ap (λ (time : ℕ). minted minting time (address_value c.args.client)) c.seconds.ensures in
    let fits : challenge_error (text_bytes c.in_ok-nonce.nonce) c.algorithms.result.now ≡ None =
    (λ i. challenge_error (nonce i) (c.algorithms.ensures.algorithms i))
    ∙ list_fits (nonce_for minting c.args.now c.args.client) minting.features (c.nonces_are_texts.ensures.features minting (seconds_of c.args.now) (address_value c.args.client)) in
    made_if _ _ fits c.in-Err.ensures.made

pub returns-in-Ok : goal.returns-in-Ok
returns-in-Ok c =
    let access = c.args.access.now in
    let minting = minting_of access.nonces in
    let d = message_bytes c.args.request.now in
    let nonce : text_bytes c.in_ok-nonce.nonce ≡ nonce_for minting c.args.now c.args.client =
    c.in_ok-nonce.ensures.nonce ∙ ap (λ (time : ℕ). minted minting time (address_value c.args.client)) c.seconds.ensures in
    let fits : challenge_error (text_bytes c.in_ok-nonce.nonce) c.algorithms.result.now ≡ None =
    (λ i. challenge_error (nonce i) (c.algorithms.ensures.algorithms i))
    ∙ list_fits (nonce_for minting c.args.now c.args.client) minting.features (c.nonces_are_texts.ensures.features minting (seconds_of c.args.now) (address_value c.args.client)) in
    let asked : asked_in c.in-Ok.challenge ≡ asked_by access c.args.now c.args.client =
    made_if _ _ fits c.in-Ok.ensures.made ∙ (λ i. asked_for (text_bytes access.realm) (nonce i) (listed (c.algorithms.ensures.algorithms i))) in
    subst (λ (it : Asked). IsWritten true (no_room None 20 (refusal_sizes d c.args.refusal (Some it))) (refusal_of d c.args.refusal (Some it)) c.args.buffer.now c.write_challenge.new.buffer c.write_challenge.result) asked c.write_challenge.ensures
