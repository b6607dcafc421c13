use Rattle.std.proofs.Common.{◌≡◌, List, ℕ, Some, refl, ap, ◌∙◌, length, inl}
use Rattle.stun_grammar.specs.declared.attribute_type.AttributeType.{AttributeType}
use Rattle.stun_server.specs.InSlice.{written_in, slice_after}
use Rattle.stun_server.specs.Reply.{binding_reply, reply_code}
use Rattle.stun_types.specs.Message.{message_bytes}
use Rattle.turn_server.specs.Comprehended.{comprehended}
use Rattle.turn_server.proofs.responding.bind.Goals as goal

pub returns : goal.returns
returns c =
    let d = message_bytes c.args.request.now in
    let types_are : c.comprehended_by-types.result.now ≡ comprehended c.args.sets_df = c.comprehended_by-types.ensures in
    let text = c.supporting-reply.ensures.reply ∙ (λ i. binding_reply (types_are i) (c.from.ensures i) d) in
    record {
      written_is = inl (
        c.write_into.ensures.answer ∙ ap (λ (t : List ℕ). written_in t (length c.args.buffer.now)) text,
        c.write_into.ensures.slice ∙ ap (λ (t : List ℕ). slice_after (Some t) c.args.buffer.now) text,
      );
      code_is = c.code.ensures ∙ c.supporting-reply.ensures.code ∙ ap (λ (types : List AttributeType). reply_code types d) types_are;
      opened_is = refl;
      reserved_is = refl;
      claimed_is = refl;
    }
