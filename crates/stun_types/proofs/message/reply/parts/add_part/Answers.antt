use Rattle.std.proofs.Common.{subst, ap, rules}
use Rattle.stun_grammar.specs.AttributeTypes.{SOFTWARE, ERROR_CODE, UNKNOWN_ATTRIBUTES}
use Rattle.stun_values.specs.TypeLists.{types_encoding}
use Rattle.stun_types.specs.Replies.{attribute_of, IsMakeable}
use Rattle.stun_types.proofs.RepliesLemmas.{adds_made, made_is, made_error, not_made}
use Rattle.stun_types.proofs.message.reply.parts.add_part.Goals as goal

pub returns-in_err-new-in-Types : goal.returns-in_err-new-in-Types
returns-in_err-new-in-Types g c =
    let failed = c.in_err-new-in-Types in
    not_made c.from_residual-in_err-new-in-Types.result _ c.args.part.now c.in-Types.types.now failed.field-0.0 (ap attribute_of c.in-Types.is) (search rules) (λ many. cc (failed.ensures.large many)) (λ few. failed.ensures.err few)

pub returns-in_ok-new-in-Software : goal.returns-in_ok-new-in-Software
returns-in_ok-new-in-Software g c =
    let pushed = c.push_software.ensures in
    let adds = adds_made _ _ _ _ SOFTWARE _ pushed.answer (record { ok = pushed.ok; err = pushed.same; spends = pushed.spends; header = pushed.header }) pushed.fits in
    made_is c.args.part.now _ _ _ SOFTWARE _ _ c.in_ok-new-in-Software.ensures.ok (ap attribute_of c.in-Software.is) adds

pub returns-in_ok-new-in-Error : goal.returns-in_ok-new-in-Error
returns-in_ok-new-in-Error g c =
    let error = c.in_ok-new-in-Error.field-0 in
    let same = made_error c.in-Error.code c.in-Error.reason.now error (subst IsMakeable c.in-Error.is c.requires.making) c.in_ok-new-in-Error.ensures in
    made_is c.args.part.now _ _ _ ERROR_CODE _ _ same (ap attribute_of c.in-Error.is) c.push_error.ensures

pub returns-in_ok-new-in-Types : goal.returns-in_ok-new-in-Types
returns-in_ok-new-in-Types g c =
    made_is c.args.part.now _ _ _ UNKNOWN_ATTRIBUTES _ _ (ap types_encoding c.in_ok-new-in-Types.ensures.ok) (ap attribute_of c.in-Types.is) c.push_types.ensures
