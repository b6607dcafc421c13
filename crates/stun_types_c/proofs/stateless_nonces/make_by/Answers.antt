use Rattle.std.proofs.Common.{◌≡◌, ℕ, List, ap, subst, ◌∙◌, inl}
use Rattle.stun_keys.specs.Keys.{key_bytes}
use Rattle.stun_values.specs.Addresses.{address_value}
use Rattle.stun_authentication.specs.Nonces.{Minting, minting, minted}
use Rattle.stun_types_c.specs.Refusals.{Delivers}
use Rattle.stun_types_c.specs.Writing.{Written}
use Rattle.stun_types_c.proofs.stateless_nonces.make_by.Goals as goal

pub returns-in-Ok-make : goal.returns-in-Ok-make
returns-in-Ok-make c =
    let old : Written = record { slice = c.args.room.now; count = c.args.written.now } in
    let new : Written = record { slice = c.deliver.new.room; count = c.deliver.new.written } in
    let text : c.as_bytes.result.now ≡ minted (minting (key_bytes c.args.secret.now) c.args.features c.args.window) c.args.now (address_value c.args.client) =
    c.as_bytes.ensures.value ∙ c.nonce.ensures ∙ c.in-Ok-make.ensures.nonce ∙ ap (λ (m : Minting). minted m c.args.now (address_value c.args.client)) c.in-Ok.ensures.1 in
    rw c.in-Ok.ensures.0 (inl (subst (λ (b : List ℕ). Delivers b c.deliver.result old new) text c.deliver.ensures))
