use Rattle.stun_types.proofs.WrittenTypesLemmas.{ends_push}
use Rattle.stun_types.proofs.writing.types.WrittenTypes.push_reserved.Goals as goal

pub invariant_of-self : goal.invariant_of-self
invariant_of-self c = rw c.push_reserved.ensures.items (ends_push c.self.inside.types.items c.args.atype _ _ c.self.invariant c.is_ending.ensures)
