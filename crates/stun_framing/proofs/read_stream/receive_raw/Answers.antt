use Rattle.std.proofs.Common.{◌≡◌, ℕ, ◌-◌, ◌≤◌, ◌++◌, ◌∙◌, Ok, take, drop, refl, ap, subst, arith}
use Rattle.stun_framing.specs.declared.gather.Gathered.{Gathered}
use Rattle.stun_framing.specs.Gathering.{wanted_for, HoldsFirst}
use Rattle.stun_framing.proofs.ResumingLemmas.{resumes_if}
use Rattle.stun_framing.proofs.StoredLemmas.{goes_on}
use Rattle.stun_framing.proofs.ReadingLemmas.{part_gathered, receives}
use Rattle.stun_framing.proofs.read_stream.receive_raw.Goals as goal

pub gather_read-requires-clause-gathered : goal.gather_read-requires-clause-gathered
gather_read-requires-clause-gathered c =
    part_gathered c.args.carries c.args.buffer.now c.args.held c.in_ok-part.part c.in_ok-part.ensures.0 c.in_ok-part.ensures.1

pub gather_read-requires-clause-there : goal.gather_read-requires-clause-there
gather_read-requires-clause-there c =
    let is = part_gathered c.args.carries c.args.buffer.now c.args.held c.in_ok-part.part c.in_ok-part.ensures.0 c.in_ok-part.ensures.1 in
    omega (arith, is.fits, (resumes_if c.args.carries c.args.buffer.now c.args.held c.in_ok-part.ensures.0).part, ap (λ (k : Gathered). k.held) c.in_ok-part.ensures.1, ap (λ (k : Gathered). k.wanted) c.in_ok-part.ensures.1)

pub returns-in-Ok : goal.returns-in-Ok
returns-in-Ok c =
    let part = c.in_ok-part.ensures.1 in
    let first = subst (λ (k : ℕ). HoldsFirst c.args.carries (take c.in_ok-part.part.held c.args.buffer.now ++ take c.args.count (drop k c.args.buffer.now)) c.in-Ok.gathered c.args.buffer.now) (ap (λ (k : Gathered). k.held) part) c.in-Ok.ensures.first in
    let goes = goes_on c.args.carries c.args.buffer.now c.args.buffer.now (take c.args.count (drop c.args.held c.args.buffer.now)) c.args.held c.args.offset c.in_ok-part.part c.in-Ok.gathered
    c.in_ok-part.ensures.0 part refl first in
    let most : c.args.count ≤ wanted_for (take c.args.held c.args.buffer.now) - c.args.held = omega (arith, ap (λ (k : Gathered). k.wanted) part) in
    let taken : c.args.count ≡ c.in-Ok.gathered.held - c.args.held = omega (arith, c.in-Ok.ensures.count, ap (λ (k : Gathered). k.held) part) in (
      receives c.args.carries c.args.buffer.now c.args.held c.args.count c.in_ok-part.ensures.0 most,
      (λ i. Ok (record {
        taken = taken i;
        offset = c.offset_behind.ensures i;
        pending = (c.pending_of.ensures i).held;
        message = c.whole_length.ensures i;
      })) ∙ goes.answer,
      goes.stands,
    )
