use Rattle.std.proofs.Common.{[], length, ap, ◌∙◌, arith}
use Rattle.stun_grammar.specs.Steps.{add}
use Rattle.stun_grammar.specs.Adding.{order_refusal}
use Rattle.user_examples.proofs.AddsLemmas.{gained, order_more, surely_added}
use Rattle.user_examples.proofs.room.add_within_room.Goals as goal

pub returns-clause-added : goal.returns-clause-added
returns-clause-added g c =
    surely_added 0x0025 [] (g.B.MessageWrite.state c.args.message.now).types (length (g.B.MessageWrite.state c.args.message.now).bytes) (g.B.MessageWrite.state c.args.message.now).ready_bytes (g.B.MessageWrite.state c.args.message.now).ready_types (g.B.MessageWrite.state c.args.message.now).greatest c.add_use_candidate.result
    c.requires.room.unbounded c.requires.room.order c.requires.room.header (omega (arith, c.requires.short)) c.requires.room.ready_bytes c.requires.room.ready_types c.add_use_candidate.ensures.answer

pub returns-clause-length : goal.returns-clause-length
returns-clause-length g c = (gained c.add_use_candidate.result _ _ 0x0025 [] (returns-clause-added g c) c.add_use_candidate.ensures.adds).size

pub returns-clause-room : goal.returns-clause-room
returns-clause-room g c n room =
    let all = c.add_use_candidate.ensures.adds in
    let gain = gained c.add_use_candidate.result _ _ 0x0025 [] (returns-clause-added g c) all in
    record {
      header = omega (arith, gain.size, room.header);
      order = ap (order_refusal (add 0x0025 [])) gain.types ∙ order_more 0x0025 [] (g.B.MessageWrite.state c.args.message.now).types room.order;
      unbounded = all.spends.greatest ∙ room.unbounded;
      ready_bytes = omega (arith, all.spends.ready_bytes, room.ready_bytes);
      ready_types = omega (arith, all.spends.ready_types, room.ready_types);
    }
