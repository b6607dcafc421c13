use Rattle.stun_text.proofs.Joining.{both}
use Rattle.ice_candidates.proofs.writing.put_related_port.Goals as goal

pub returns : goal.returns
returns g c =
    let wrote = g.S.TextSink.wrote in
    let joins = g.met.S.TextSink.joins in
    rw c.in-Some.is (both wrote joins c.in_ok-put.ensures c.in_ok-put_decimal.ensures)
