use Rattle.std.proofs.Common.{◌∙◌, Some, refl, ap, inl, inr}
use Rattle.turn_client_state.specs.States.{output_at}
use Rattle.turn_client.specs.Receiving.{event_at, news_at}
use Rattle.stun_types_c.specs.CResults.{write_result}
use Rattle.stun_types_c.proofs.AllocationLemmas.{shown_is_told}
use Rattle.stun_types_c.proofs.allocation_client.receive.Goals as goal

pub returns-in-Ok : goal.returns-in-Ok
returns-in-Ok c =
    let client = c.args.core.now.client in
    let d = c.args.datagram.now in
    inl (
      c.plain.ensures,
      record {
        same = refl;
        receives = c.in-Ok.ensures.state;
        in_c = shown_is_told d (output_at c.args.now 0 (event_at client c.args.from d) client.held) _ c.in-Ok.received c.received_in_c.result
            (c.data_is_at_its_place.ensures client c.args.now c.args.from) c.in-Ok.ensures.data c.in-Ok.ensures.news c.received_in_c.ensures;
      },
    )

pub returns-in-Err : goal.returns-in-Err
returns-in-Err c =
    inr (
      c.in-Err.ensures.memory,
      (c.write_result.ensures ∙ ap write_result c.in-Err.ensures.err, (λ i. record { core = Some (record c.args.core.now { client = c.in-Err.ensures.state i }); shown = c.args.out.now })),
    )
