use Rattle.std.proofs.Common.{◌≡◌, ℕ, List, [], ◌∷◌, Some, length, take, sym, ap, ◌∙◌}
use Rattle.std.specs.Prelude.{nat_lt}
use Rattle.stun_grammar.specs.Attributes.{canonical}
use Rattle.stun_grammar.specs.Writing.{message_encoding}
use Rattle.stun_grammar.specs.declared.error.StunWriteError.TheVariants.{TooSmall}
use Rattle.stun_base.specs.declared.message_class.MessageClass.TheVariants.{Indication}
use Rattle.stun_base.specs.MessageTypes.{type_of}
use Rattle.stun_endpoints.specs.Conversions.{socket_of}
use Rattle.stun_server.specs.InSlice.{written_in, slice_after}
use Rattle.turn_attrs.specs.Heads.{peer_attribute}
use Rattle.turn_attrs.specs.Turn.{ICMP}
use Rattle.turn_server.specs.Icmp.{icmp_of, icmp_indication}
use Rattle.turn_server.proofs.IcmpLemmas.{taken_if, left_if}
use Rattle.turn_server.proofs.icmp.notify.Goals as goal

pub returns-in-Ok : goal.returns-in-Ok
returns-in-Ok c =
    let text : List ℕ = icmp_indication c.args.id (socket_of c.args.peer) (icmp_of c.args.peer.ip.family c.args.error) in
    let before : List ℕ = c.args.buffer.now in
    let is : take c.write_indication-length.result c.write_indication-length.new.message ≡ text =
    c.write_indication-length.ensures.text ∙ (λ j. message_encoding (type_of Indication 7) c.args.id (peer_attribute c.args.id (c.from.ensures j) ∷ canonical ICMP (c.value_for-value.ensures j) ∷ [])) in
    record {
      result_is = taken_if c.args.to (length text) c.in-Ok.length (TooSmall (length text) (length before)) (nat_lt (length before) (length text))
          (sym c.in-Ok.is ∙ c.copied.ensures.answer ∙ ap (λ (b : List ℕ). written_in b (length before)) is);
      after_is = c.copied.ensures.buffer ∙ ap (λ (b : List ℕ). slice_after (Some b) before) is;
    }

pub returns-in-Err : goal.returns-in-Err
returns-in-Err c =
    let text : List ℕ = icmp_indication c.args.id (socket_of c.args.peer) (icmp_of c.args.peer.ip.family c.args.error) in
    let before : List ℕ = c.args.buffer.now in
    let is : take c.write_indication-length.result c.write_indication-length.new.message ≡ text =
    c.write_indication-length.ensures.text ∙ (λ j. message_encoding (type_of Indication 7) c.args.id (peer_attribute c.args.id (c.from.ensures j) ∷ canonical ICMP (c.value_for-value.ensures j) ∷ [])) in
    record {
      result_is = left_if c.args.to (length text) (TooSmall (length text) (length before)) c.in-Err.field-0 (nat_lt (length before) (length text))
          (sym c.in-Err.is ∙ c.copied.ensures.answer ∙ ap (λ (b : List ℕ). written_in b (length before)) is);
      after_is = c.copied.ensures.buffer ∙ ap (λ (b : List ℕ). slice_after (Some b) before) is;
    }
