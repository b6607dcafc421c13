use Rattle.std.proofs.Common.{◌≡◌, List, ap, subst, ◌∙◌}
use Rattle.std.specs.Prelude.{Option, is_some, IfOk, IfSome}
use Rattle.std.proofs.lemmas.List.{append-nil}
use Rattle.stun_grammar.specs.declared.attribute_type.AttributeType.{AttributeType}
use Rattle.stun_grammar.specs.Attributes.{Attribute}
use Rattle.stun_types.specs.Message.{message_bytes}
use Rattle.stun_types.specs.Replies.{check_reply, Replies}
use Rattle.stun_types.proofs.message.read.Message.check_attribute_types_into.Goals as goal

pub returns-clause-none : goal.returns-clause-none
returns-clause-none g c none =
    let same = ap (λ (types : List AttributeType). check_reply types c.args.required.now (message_bytes c.args.msg.now)) (append-nil c.args.supported.now) in
    c.check_attribute_lists_into.ensures.none (same ∙ none)

pub returns-clause-reported : goal.returns-clause-reported
returns-clause-reported g c =
    let same = ap (λ (types : List AttributeType). check_reply types c.args.required.now (message_bytes c.args.msg.now)) (append-nil c.args.supported.now) in
    subst (λ (reply : Option (List Attribute)). IfOk c.check_attribute_lists_into.result (λ written. written ≡ is_some reply)) same c.check_attribute_lists_into.ensures.reported

pub returns-clause-replies : goal.returns-clause-replies
returns-clause-replies g c =
    let same = ap (λ (types : List AttributeType). check_reply types c.args.required.now (message_bytes c.args.msg.now)) (append-nil c.args.supported.now) in
    subst (λ (reply : Option (List Attribute)). IfSome reply (Replies c.check_attribute_lists_into.result (g.B.MessageWrite.state c.args.write.now) (g.B.MessageWrite.state c.check_attribute_lists_into.new.write) (message_bytes c.args.msg.now))) same c.check_attribute_lists_into.ensures.replies
