use Rattle.std.proofs.Common.{◌≡◌, ℕ, List, Option, sym, ap, ◌∙◌, subst}
use Rattle.stun_grammar.specs.Headers.{id_field}
use Rattle.stun_transactions.specs.Slots.{place_of, held, changed, Tells}
use Rattle.stun_transactions.specs.Transactions.{after_receiving}
use Rattle.stun_transactions.proofs.SlotsLemmas.{addressed}
use Rattle.stun_transactions.proofs.slots.receive.Goals as goal

pub returns-in-Ok-clause-reported : goal.returns-in-Ok-clause-reported
returns-in-Ok-clause-reported c =
    let slots = c.args.slots.now in
    let id_is : c.transaction_id.result ≡ id_field c.args.bytes.now = c.transaction_id.ensures ∙ ap id_field c.in-Ok.ensures.1 in
    let P : List ℕ → Type 0 = λ d. Tells (held slots (place_of c.transaction_id.result slots)) c.args.understood.now d c.receive_for.result in
    let Q : Option ℕ → Type 0 = λ place. Tells (held slots place) c.args.understood.now c.args.bytes.now c.receive_for.result in
    subst Q (sym (addressed c.args.bytes.now c.transaction_id.result slots c.in-Ok.ensures.0 id_is)) (subst P c.in-Ok.ensures.1 c.receive_for.ensures.reported)

pub returns-in-Ok-clause-slots : goal.returns-in-Ok-clause-slots
returns-in-Ok-clause-slots c =
    let slots = c.args.slots.now in
    let id_is : c.transaction_id.result ≡ id_field c.args.bytes.now = c.transaction_id.ensures ∙ ap id_field c.in-Ok.ensures.1 in
    c.receive_for.ensures.slots
    ∙ ap (λ d. changed (after_receiving c.args.understood.now d) (place_of c.transaction_id.result slots) slots) c.in-Ok.ensures.1
    ∙ ap (λ place. changed (after_receiving c.args.understood.now c.args.bytes.now) place slots) (sym (addressed c.args.bytes.now c.transaction_id.result slots c.in-Ok.ensures.0 id_is))
