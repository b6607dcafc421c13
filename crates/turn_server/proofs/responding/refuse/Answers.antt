use Rattle.std.proofs.Common.{Some, None, refl, ap, subst, true}
use Rattle.std.specs.declared.net.socket_addr.SocketAddr.{SocketAddr}
use Rattle.stun_types.specs.Message.{message_bytes}
use Rattle.stun_authentication.specs.Refusing.{refusal_of, refusal_sizes}
use Rattle.stun_authentication.specs.Writing.{no_room}
use Rattle.turn_server.specs.Access.{asked_by}
use Rattle.turn_server.specs.Responses.{IsWritten}
use Rattle.turn_server.proofs.responding.refuse.Goals as goal

pub returns : goal.returns
returns c =
    let d = message_bytes c.args.request.now in
    record {
      written_is = subst (λ (a : SocketAddr). IsWritten true (no_room None 20 (refusal_sizes d c.args.refusal (Some (asked_by c.args.access.now c.args.now a)))) (refusal_of d c.args.refusal (Some (asked_by c.args.access.now c.args.now a))) c.args.buffer.now c.write_refusal.new.buffer c.write_refusal.result) c.from-client.ensures c.write_refusal.ensures;
      code_is = ap Some c.code.ensures;
      opened_is = refl;
      reserved_is = refl;
      claimed_is = refl;
    }
