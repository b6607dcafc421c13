use Rattle.stun_text.proofs.Joining.{both, spelled_so}
use Rattle.ice_candidates.proofs.writing.put_front.Goals as goal

pub returns : goal.returns
returns g c =
    let wrote = g.S.TextSink.wrote in
    let joins = g.met.S.TextSink.joins in
    let foundation = both wrote joins c.in_ok-put.ensures c.in_ok-put-2.ensures in
    let component = both wrote joins (both wrote joins foundation c.in_ok-put-3.ensures) c.in_ok-put_decimal.ensures in
    let transport = both wrote joins (both wrote joins component c.in_ok-put-4.ensures) (spelled_so wrote joins c.name.ensures c.in_ok-put-5.ensures) in
    both wrote joins (both wrote joins transport c.in_ok-put-6.ensures) c.in_ok-put_decimal-2.ensures
