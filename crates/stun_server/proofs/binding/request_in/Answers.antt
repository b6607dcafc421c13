use Rattle.std.proofs.Common.{◌≡◌, rules}
use Rattle.stun_grammar.specs.Headers.{type_field}
use Rattle.stun_base.specs.declared.message_class.MessageClass.TheVariants.{Request}
use Rattle.stun_base.specs.MessageTypes.{class_of}
use Rattle.stun_types.specs.Message.{message_bytes}
use Rattle.stun_server.proofs.ReplyLemmas.{none_to_fault, none_to_class, none_to_method, one_to_binding}
use Rattle.stun_server.proofs.binding.request_in.Goals as goal

pub returns-in-Err : goal.returns-in-Err
returns-in-Err c = λ source. none_to_fault source c.args.datagram.now c.in-Err.field-0 c.in-Err.ensures

pub returns-then-not-has_class : goal.returns-then-not-has_class
returns-then-not-has_class c =
    let parsed = c.in-Ok.ensures in
    λ source. none_to_class source c.args.datagram.now (message_bytes c.in-Ok.request) parsed.0 parsed.1 (λ is. let yes = c.has_class.ensures.1 is in absurd (cc yes))

pub returns-then-not-has_method : goal.returns-then-not-has_method
returns-then-not-has_method c =
    let parsed = c.in-Ok.ensures in
    let request : class_of (type_field (message_bytes c.in-Ok.request)) ≡ Request = search rules in
    λ source. none_to_method source c.args.datagram.now (message_bytes c.in-Ok.request) parsed.0 parsed.1 request (search rules)

pub returns : goal.returns
returns c =
    let parsed = c.in-Ok.ensures in
    let request : class_of (type_field (message_bytes c.in-Ok.request)) ≡ Request = search rules in
    (request, λ source. one_to_binding source c.args.datagram.now (message_bytes c.in-Ok.request) parsed.0 parsed.1 request (search rules))
