use Rattle.std.proofs.Common.{◌≡◌, ◌+◌, ◌++◌, ◌<◌, None, length, map, take, drop, set, get_or, sym, subst, arith}
use Rattle.std.proofs.lemmas.List.{get_or_default}
use Rattle.std.proofs.lemmas.List.Edits.{map_over_more}
use Rattle.ice_lite.specs.Agents.{LiteCandidate}
use Rattle.ice_lite.specs.Steps.{heard}
use Rattle.ice_lite.proofs.state.hear_all.Goals as goal

abbrev no_candidate : LiteCandidate
no_candidate = record { base = record { number = 0; component = 0 }; selected = None }

pub loop-i-preserved : goal.loop-i-preserved
loop-i-preserved c =
    let F = heard c.args.component c.args.now c.args.check.now in
    let x : LiteCandidate = get_or c.loop-i.candidates c.loop-i.i no_candidate in
    let lt : c.loop-i.i < length c.loop-i.candidates = omega arith in
    let within : c.loop-i.i < length c.args.candidates.now = omega arith in
    subst (λ (y : LiteCandidate). set c.loop-i.candidates c.loop-i.i y ≡ map {B = LiteCandidate} F (take (c.loop-i.i + 1) c.args.candidates.now) ++ drop (c.loop-i.i + 1) c.args.candidates.now) (sym c.heard.ensures)
    (map_over_more F c.args.candidates.now c.loop-i.candidates c.loop-i.i x within c.loop-i.invariant (get_or_default c.loop-i.candidates c.loop-i.i no_candidate x lt))
