use Rattle.std.proofs.Common.{◌≡◌, ℕ, ◌+◌, ◌≤◌, Bool, List, true, length, sym, ap, ◌∙◌, arith}
use Rattle.std.specs.Prelude.{is_some, if◌then◌else◌}
use Rattle.stun_grammar.specs.AttributeTypes.{FINGERPRINT}
use Rattle.stun_grammar.specs.Adding.{appended}
use Rattle.stun_grammar.specs.Fingerprints.{fingerprint_value}
use Rattle.stun_types.specs.LookingUp.{nth}
use Rattle.stun_types.specs.Message.{message_bytes}
use Rattle.stun_types.specs.Replies.{unknown_types}
use Rattle.stun_server.specs.Reply.{unfinished_reply}
use Rattle.stun_server.specs.declared.written.Reply.{Reply}
use Rattle.stun_server.proofs.SizesLemmas.{unfinished_short}
use Rattle.stun_server.specs.InSlice.{overlaid}
use Rattle.stun_server.proofs.InSliceLemmas.{finished_longer, whole_is, fingered}
use Rattle.stun_server.proofs.written.Reply.write.Goals as goal

-- how long it is without its FINGERPRINT
bounds : (reply : Reply) → let text = unfinished_reply reply.unknown.supported.now reply.source (message_bytes reply.request) in (20 ≤ length text) × (length text ≤ 65547)
bounds reply =
    let r = message_bytes reply.request in
    let supported = reply.unknown.supported.now in
    let same : length (unknown_types supported reply.unknown.request.now) ≡ length (unknown_types supported r) = ap (λ (d : List ℕ). length (unknown_types supported d)) reply.its in
    unfinished_short supported reply.source r (omega (arith, same, reply.unknown.count_is, reply.unknown.few))

pub write_unfinished-len-requires-clause-room : goal.write_unfinished-len-requires-clause-room
write_unfinished-len-requires-clause-room c =
    let reply = c.args.self.now in
    omega (arith, finished_longer reply.unknown.supported.now reply.source (message_bytes reply.request) (bounds reply).0, c.requires)

pub write_fingerprint-requires-clause-header : goal.write_fingerprint-requires-clause-header
write_fingerprint-requires-clause-header c = omega (arith, (bounds c.args.self.now).0, c.write_unfinished-len.ensures.length)

pub write_fingerprint-requires-clause-room : goal.write_fingerprint-requires-clause-room
write_fingerprint-requires-clause-room c =
    let reply = c.args.self.now in
    let len = c.write_unfinished-len in
    let long : 20 ≤ len.result = omega (arith, (bounds reply).0, len.ensures.length) in
    let whole = whole_is reply.unknown.supported.now reply.source (message_bytes reply.request) len.result (len.result + 8) reply.is_finished reply.finished len.ensures.length long (ap (λ (b : Bool). len.result + (if b then 8 else 0)) (sym c.if-self.true)) in
    omega (arith, whole, c.requires, len.auto.slice)

pub write_fingerprint-requires-clause-fits : goal.write_fingerprint-requires-clause-fits
write_fingerprint-requires-clause-fits c = omega (arith, (bounds c.args.self.now).1, c.write_unfinished-len.ensures.length)

pub returns-then-self : goal.returns-then-self
returns-then-self c =
    let reply = c.args.self.now in
    let len = c.write_unfinished-len in
    let text = unfinished_reply reply.unknown.supported.now reply.source (message_bytes reply.request) in
    let yes : is_some (nth (message_bytes reply.request) FINGERPRINT 0) ≡ true = sym reply.finished ∙ c.if-self.true in
    let long : 20 ≤ len.result = omega (arith, (bounds reply).0, len.ensures.length) in
    fingered text c.args.slice.now len.new.slice c.write_fingerprint.new.slice len.result len.ensures.length long len.ensures.slice c.write_fingerprint.ensures
    ∙ ap (λ (b : Bool). overlaid (if b then appended text FINGERPRINT (fingerprint_value text (length text)) else text) c.args.slice.now) (sym yes)
