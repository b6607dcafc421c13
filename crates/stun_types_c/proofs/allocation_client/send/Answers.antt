use Rattle.std.proofs.Common.{refl}
use Rattle.stun_types_c.proofs.allocation_client.send.Goals as goal

pub returns : goal.returns
returns c = record {
  same = refl;
  passed = c.head_of-written.ensures.state;
  head = c.head_of-written.result;
  sends_are = c.head_of-written.ensures.head;
  in_c = c.written_in_c.ensures;
}
