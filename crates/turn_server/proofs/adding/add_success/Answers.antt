use Rattle.std.specs.Option.{option_map}
use Rattle.stun_attributes.specs.Texts.{text_bytes}
use Rattle.stun_types.specs.Message.{message_bytes}
use Rattle.stun_authentication.proofs.AddedLemmas.{in_turn, failed}
use Rattle.turn_allocations.specs.Answers.{answer_of}
use Rattle.turn_server.specs.Answers.{answer_content, software_attributes}
use Rattle.turn_server.proofs.adding.add_success.Goals as goal

pub returns-in_err-add_content : goal.returns-in_err-add_content
returns-in_err-add_content g c =
    failed c.from_residual.result _ _ c.in_err-add_content.field-0.0 (answer_content (message_bytes c.args.request.now) c.args.client (answer_of c.args.reply.answer) c.args.reply.token) (software_attributes (option_map (λ it. text_bytes it.now) c.args.software)) c.in_err-add_content.ensures c.from_residual.ensures

pub returns : goal.returns
returns g c =
    in_turn c.in_ok-add_content.field-0 c.add_software.result _ _ _ (answer_content (message_bytes c.args.request.now) c.args.client (answer_of c.args.reply.answer) c.args.reply.token) (software_attributes (option_map (λ it. text_bytes it.now) c.args.software)) c.in_ok-add_content.ensures c.add_software.ensures
