use Rattle.std.proofs.Common.{ℕ, List, length, Some, inl, inr, subst}
use Rattle.stun_types_c.specs.TurnClients.{asks_for_key, IsInC}
use Rattle.stun_types_c.proofs.TurnLemmas.{key_asked}
use Rattle.stun_types_c.proofs.turn_datagrams.act.Goals as goal

pub returns-in-Err : goal.returns-in-Err
returns-in-Err c =
    inl (
      key_asked (asks_for_key c.args.core.now c.args.now c.args.tuple.now.client c.args.datagram.now) c.take_datagram.result c.in-Err.field-0 c.take_datagram.ensures.memory c.in-Err.is,
      (c.plain.ensures, (λ i. record { core = Some (c.in-Err.ensures.err.0 i); slice = c.in-Err.ensures.err.1 i; action = c.args.out.now })),
    )

pub returns : goal.returns
returns c =
    inr (record {
      action = c.in-Ok.action;
      acts = c.in-Ok.ensures.acts;
      same = c.take_datagram.ensures.same;
      in_c = subst (λ (numbers : List ℕ). IsInC c.in-Ok.action (length numbers) c.put_action.result c.put_action.new.out) c.ended-ended.ensures c.put_action.ensures;
    })
