use Rattle.std.proofs.Common.{◌≡◌, None, Ok, Err, refl, sym, ap, subst, ◌∙◌, inr}
use Rattle.stun_transactions.specs.declared.parts.TransactionParts.{TransactionParts}
use Rattle.stun_transactions.specs.Outcomes.{after}
use Rattle.stun_transactions.specs.Parts.{whole_fault}
use Rattle.stun_transactions.specs.Receiving.{received_outcome}
use Rattle.stun_types_c.specs.KeyHandles.{shared_key}
use Rattle.stun_types_c.specs.Transactions.{with_state, GoesOn}
use Rattle.stun_types_c.proofs.KeptLemmas.{received}
use Rattle.stun_types_c.proofs.CopiedKeysLemmas.{copied_is_whole}
use Rattle.stun_types_c.proofs.transactions.receiving.stun_types_transaction_receive.Goals as goal

pub returns-in-Err : goal.returns-in-Err
returns-in-Err c =
    inr (c.in-Some.parts, c.in-Some.ensures, (Err c.in-Err.answer, c.in-Err.ensures, (refl, refl)))

pub returns-in-Ok-receive : goal.returns-in-Ok-receive
returns-in-Ok-receive c =
    let old = c.args.kept.now in
    let parts = c.in-Some.parts in
    let outcome = received_outcome parts c.in-Ok.copy c.args.understood.now c.args.bytes.now in
    let new = c.store.ensures ∙ ap (λ (p : TransactionParts). with_state old p.state) c.in-Ok-receive.ensures.0 in
    inr (
      parts,
      c.in-Some.ensures,
      (
        Ok c.in-Ok.copy,
        c.in-Ok.ensures,
        (
          c.plain-in-Ok-receive.ensures,
          record {
            goes_on = subst (GoesOn parts (after outcome parts.state) old) (sym new) (received old parts c.in-Some.ensures outcome);
            reported = c.in-Ok-receive.ensures.1;
          },
        ),
      ),
    )

-- the key fits the transaction
pub returns-in-Err-receive : goal.returns-in-Err-receive
returns-in-Err-receive c =
    let parts = c.in-Some.parts in
    let whole : whole_fault parts c.in-Ok.copy ≡ None = copied_is_whole parts (shared_key c.args.key.now) c.in-Ok.copy c.in-Some.ensures.sound c.in-Ok.ensures in
    absurd (cc (whole, c.in-Err-receive.ensures))
