use Rattle.std.proofs.Common.{◌≡◌, ℕ, Bool, [], ◌∷◌, sym, ap, ◌∙◌}
use Rattle.stun_grammar.specs.ShownOrder.{in_order}
use Rattle.stun_types.proofs.IteratingLemmas.{behind_none, read_stop, read_first}
use Rattle.stun_types.proofs.reading.step.shown_at.Goals as goal

-- the order of two types, the second of an attribute that was read
read_order : (last type read : ℕ) (answer : Bool) → type ≡ read → answer ≡ in_order (last ∷ (type ∷ [])) → in_order (last ∷ (read ∷ [])) ≡ answer
read_order last type read answer is e = ap (λ (k : ℕ). in_order (last ∷ (k ∷ []))) (sym is) ∙ sym e

pub returns-in-Err : goal.returns-in-Err
returns-in-Err c = behind_none c.args.last c.args.offset c.args.bytes.now c.in-Err.ensures.0

pub returns-in-Ok-None : goal.returns-in-Ok-None
returns-in-Ok-None c = behind_none c.args.last c.args.offset c.args.bytes.now (rw c.in-Ok-None.field-0-is at c.in-Ok-None.ensures).0

pub returns-then-not-follows : goal.returns-then-not-follows
returns-then-not-follows c =
    let found = (rw c.in-Ok-Some.field-0-is at c.in-Ok-Some.ensures).1 in
    let order = read_order c.args.last c.type_number.result _ _ c.type_number.ensures c.follows.ensures in
    read_stop c.args.last c.in-Ok-Some.attribute c.in-Ok-Some.behind c.args.offset c.args.bytes.now found (order ∙ c.if-not-follows.true)

pub returns-else-not-follows : goal.returns-else-not-follows
returns-else-not-follows c =
    let reported = rw c.in-Ok-Some.field-0-is at c.in-Ok-Some.ensures in
    let order = read_order c.args.last c.type_number.result _ _ c.type_number.ensures c.follows.ensures in
    read_first c.args.last c.in-Ok-Some.attribute c.in-Ok-Some.behind c.args.offset c.args.bytes.now reported.0 reported.1 (order ∙ c.if-not-follows.false)
