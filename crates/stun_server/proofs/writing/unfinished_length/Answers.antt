use Rattle.std.proofs.Common.{◌≡◌, ℕ, List, length, sym, ap, ◌∙◌, arith}
use Rattle.stun_values.proofs.ListsLemmas.{length_of_twos}
use Rattle.stun_types.specs.Message.{message_bytes}
use Rattle.stun_types.specs.Replies.{unknown_types}
use Rattle.stun_server.proofs.SizesLemmas.{success_short}
use Rattle.stun_server.proofs.InSliceLemmas.{unfinished_none, refusal_size, success_long}
use Rattle.stun_server.proofs.writing.unfinished_length.Goals as goal

pub returns-then-count-eq0-clause-length : goal.returns-then-count-eq0-clause-length
returns-then-count-eq0-clause-length c =
    let r = message_bytes c.args.request.now in
    let same : length (unknown_types c.args.unknown.now.supported.now c.args.unknown.now.request.now) ≡ length (unknown_types c.args.unknown.now.supported.now r) = ap (λ (d : List ℕ). length (unknown_types c.args.unknown.now.supported.now d)) c.requires.its in
    c.success_length.ensures ∙ ap length (sym (unfinished_none c.args.source r (unknown_types c.args.unknown.now.supported.now r) (sym same ∙ sym c.count.ensures.count ∙ c.if-count-eq0.true)))

pub returns-then-count-eq0-clause-bounds : goal.returns-then-count-eq0-clause-bounds
returns-then-count-eq0-clause-bounds c =
    let r = message_bytes c.args.request.now in
    (omega (arith, success_long c.args.source r, c.success_length.ensures), omega (arith, success_short c.args.source r, c.success_length.ensures))

pub returns-else-count-eq0-clause-bounds : goal.returns-else-count-eq0-clause-bounds
returns-else-count-eq0-clause-bounds c =
    let r = c.args.unknown.now.request.now in
    let types = unknown_types c.args.unknown.now.supported.now r in
    let size = refusal_size r types (omega (arith, c.count.ensures.count, c.if-count-eq0.false)) (omega (arith, c.count.ensures.count, c.count.ensures.few)) in
    let twos = length_of_twos types in (
      omega (arith, size, c.refusal_length.ensures.length),
      omega (arith, size, twos, c.refusal_length.ensures.length, c.count.ensures.count, c.count.ensures.few),
    )
