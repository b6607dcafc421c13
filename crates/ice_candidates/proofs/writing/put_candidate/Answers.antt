use Rattle.stun_text.proofs.Joining.{both, spelled_so}
use Rattle.ice_candidates.proofs.writing.put_candidate.Goals as goal

pub returns : goal.returns
returns g c =
    let wrote = g.S.TextSink.wrote in
    let joins = g.met.S.TextSink.joins in
    let address = both wrote joins (both wrote joins c.in_ok-put_front.ensures c.in_ok-put.ensures) c.in_ok-put_address.ensures in
    let port = both wrote joins (both wrote joins address c.in_ok-put-2.ensures) c.in_ok-put_decimal.ensures in
    let kind = both wrote joins (both wrote joins port c.in_ok-put-3.ensures) (spelled_so wrote joins c.name.ensures c.in_ok-put-4.ensures) in
    let related = both wrote joins (both wrote joins kind c.in_ok-put_related_address.ensures) c.in_ok-put_related_port.ensures in
    both wrote joins related c.in_ok-put_extensions.ensures
