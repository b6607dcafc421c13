use Rattle.stun_types_c.proofs.allocation_client.poll.Goals as goal

pub returns-clause-writes : goal.returns-clause-writes
returns-clause-writes c = record {
  written = c.poll-written.result;
  polls_are = c.poll-written.ensures.bytes;
  in_c = c.request_in_c.ensures;
}
