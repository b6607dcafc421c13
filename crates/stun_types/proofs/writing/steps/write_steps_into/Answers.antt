use Rattle.std.proofs.Common.{ℕ, ◌<◌, [], length, drop, refl, sym, ap, arith, ◌∙◌}
use Rattle.std.proofs.lemmas.Grind.{common_steps}
use Rattle.std.proofs.lemmas.List.{drop-drop}
use Rattle.stun_grammar.specs.Writing.{message_encoding}
use Rattle.stun_grammar.specs.Attributes.{types}
use Rattle.stun_types.proofs.RunsLemmas.{body_none, verdict_at, verdicts_more, written_more, listed_more, accepted_none, accepted_more, writes_all, leaves}
use Rattle.stun_types.proofs.writing.steps.write_steps_into.Goals as goal

pub loop-i-init : goal.loop-i-init
loop-i-init g c =
    let begun = c.in_ok-builder_into.ensures.ok in
    let none = sym (body_none c.args.mtype c.args.id []) in
    record {
      so_far = record {
        each = tt;
        bytes = begun.bytes ∙ ap (message_encoding c.args.mtype c.args.id) none;
        types = begun.types ∙ ap types none;
        accepted = accepted_none c.args.mtype c.args.id begun.type_fits begun.id_fits;
        rest = begun.rest ∙ ap (λ (k : ℕ). drop k (g.B.MessageWrite.state c.args.write.now).rest) (sym begun.size);
        spends = record {
          greatest = begun.spends.greatest;
          slice_name = begun.spends.slice_name;
          ready_bytes = omega (arith, begun.size, begun.spends.ready_bytes);
          ready_types = omega (arith, begun.spends.ready_types);
        };
      };
      count = c.requires.count;
    }

pub loop-i-preserved : goal.loop-i-preserved
loop-i-preserved g c =
    let count = c.loop-i.invariant.count in
    let now = c.loop-i.invariant.so_far in
    let step = c.take_step.ensures in
    let left = leaves _ _ _ _ _ step.adds in
    let within : c.loop-i.i < length c.args.steps.now = omega arith in
    let start = g.B.MessageWrite.state c.args.write.now in
    let on = verdict_at _ _ _ _ start _ _ _ _ _ _ _ _ now.bytes now.types now.spends.greatest now.spends.ready_bytes now.spends.ready_types step.answer in
    record {
      so_far = record {
        each = verdicts_more _ _ _ _ _ _ c.loop-i.i _ _ within count c.index-steps-i.is start now.each on;
        bytes = written_more _ _ _ _ _ _ c.loop-i.i _ _ within count c.index-steps-i.is _ _ step.encodable now.bytes left.bytes left.same_bytes;
        types = listed_more _ _ _ _ _ _ c.loop-i.i _ _ within count c.index-steps-i.is _ _ _ now.bytes now.types left.types left.same_types;
        accepted = accepted_more _ _ _ _ _ _ c.loop-i.i _ _ within count c.index-steps-i.is start now.accepted step.encodable c.requires.ordinary on;
        rest = rw (left.rest, now.rest, drop-drop) (grind (arith, left.grows));
        spends = record {
          greatest = step.adds.spends.greatest ∙ now.spends.greatest;
          slice_name = step.adds.spends.slice_name ∙ now.spends.slice_name;
          ready_bytes = omega (arith, left.ready_bytes, now.spends.ready_bytes);
          ready_types = omega (arith, left.ready_types, now.spends.ready_types);
        };
      };
      count = grind (arith, common_steps);
    }

pub returns-clause-runs : goal.returns-clause-runs
returns-clause-runs g c = record {
  writes = writes_all _ _ _ _ _ _ _ _ c.loop-i.i (omega arith) c.loop-i.invariant.count c.loop-i.invariant.so_far;
  count = c.loop-i.invariant.count ∙ sym c.requires.count;
  same_verdicts = tt;
  err = tt;
  succeeds = λ _. refl;
}
