use Rattle.std.proofs.Common.{ℕ, ◌≤◌, sym, ap, ◌∙◌, subst}
use Rattle.stun_grammar.specs.Parsing.{parse_fault}
use Rattle.stun_server.proofs.SizesLemmas.{few_types}
use Rattle.stun_server.proofs.unknown.ListedTypes.of.Goals as goal

pub unknown_count-requires : goal.unknown_count-requires
unknown_count-requires c =
    few_types c.args.supported.now c.as_bytes-request.result.now c.are_bytes.ensures (ap parse_fault c.as_bytes-request.ensures.value ∙ c.as_bytes-request.ensures.accepted)

pub invariant_of-result : goal.invariant_of-result
invariant_of-result c =
    record {
      count_is = c.unknown_count.ensures;
      few = subst (λ (n : ℕ). n ≤ 16384) (sym c.unknown_count.ensures) (few_types c.args.supported.now c.as_bytes-request.result.now c.are_bytes.ensures (ap parse_fault c.as_bytes-request.ensures.value ∙ c.as_bytes-request.ensures.accepted));
    }
