use Rattle.std.proofs.Common.{Bool, sym, ◌∙◌, rules, tests}
use Rattle.std.specs.Prelude.{◌==◌}
use Rattle.std.proofs.lemmas.Iterator.Consumers.{nth_from_yields_List, YieldsList-from_filter, YieldsList-from_first, YieldsList-at}
use Rattle.stun_grammar.specs.declared.integrity_algorithm.IntegrityAlgorithm.TheVariants.{Sha1, Sha256}
use Rattle.stun_grammar.specs.Chains.{Shown}
use Rattle.stun_grammar.specs.Showing.{shown}
use Rattle.stun_types.specs.Iterating.{items_left, item_view, borrowed}
use Rattle.stun_types.specs.LookingUp.{nth}
use Rattle.stun_types.specs.Message.{message_bytes}
use Rattle.stun_types.proofs.IntegrityAtLemmas.{found_kept}
use Rattle.stun_types.proofs.LookingUpLemmas.{found_borrowed, found_item}
use Rattle.stun_types.proofs.message.read.Message.nth_raw_attribute_and_offset.Goals as goal

pub returns-then-wanted-eq-MESSAGE_INTEGRITY : goal.returns-then-wanted-eq-MESSAGE_INTEGRITY
returns-then-wanted-eq-MESSAGE_INTEGRITY c =
    found_kept Sha1 (message_bytes c.args.self.now) c.args.atype.0 c.args.n c.integrity_raw.result (sym c.value-wanted.ensures ∙ c.if-wanted-eq-MESSAGE_INTEGRITY.true) c.if-n-eq0.true c.integrity_raw.ensures

pub returns-then-wanted-eq-MESSAGE_INTEGRITY_SHA256 : goal.returns-then-wanted-eq-MESSAGE_INTEGRITY_SHA256
returns-then-wanted-eq-MESSAGE_INTEGRITY_SHA256 c =
    found_kept Sha256 (message_bytes c.args.self.now) c.args.atype.0 c.args.n c.integrity_raw-then-wanted-eq-MESSAGE_INTEGRITY_SHA256.result (sym c.value-wanted.ensures ∙ c.if-wanted-eq-MESSAGE_INTEGRITY_SHA256.true) c.if-n-eq0-2.true c.integrity_raw-then-wanted-eq-MESSAGE_INTEGRITY_SHA256.ensures

pub returns : goal.returns
returns c =
    let d = message_bytes c.args.self.now in
    let start = YieldsList-from_first item_view items_left (borrowed (shown d)) c.iter_attributes.ensures.items in
    found_item (nth d c.args.atype.0 c.args.n) c.nth.result (nth_from_yields_List c.nth.result c.nth.new.self c.args.n c.nth.ensures.ran (YieldsList-from_filter _ (λ (x : Shown × Bool). x.0.type == c.args.atype.0) (YieldsList-at c.filter.ensures.source start) c.filter.ensures.closure (λ x b q k. search (rules, tests)))
    ∙ found_borrowed c.args.atype.0 c.args.n (shown d))
