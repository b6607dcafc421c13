use Rattle.std.proofs.Common.{rules, refl}
use Rattle.stun_types_c.proofs.KeptLemmas.{bit_reported, signed_reported}
use Rattle.stun_types_c.proofs.transactions.kept.meant_parts.Goals as goal

pub returns : goal.returns
returns c = record {
  schedule = c.in_ok-schedule_of.ensures;
  transport = search rules;
  method = search rules;
  method_valid = search rules;
  id = search rules;
  signed = signed_reported c.args.kept.now.signed_by c.if-kept-gt3.false;
  mechanism = search rules;
  usage = search rules;
  reserved = search rules;
  state = record {
    sent = refl;
    last = c.moment_of.ensures;
    clock = c.moment_of-2.ensures;
    violated = bit_reported c.args.kept.now.violated c.if-kept-gt1.false;
    stopped = bit_reported c.args.kept.now.stopped c.if-kept-gt1-2.false;
    end = c.in_ok-end_of.ensures;
  };
}
