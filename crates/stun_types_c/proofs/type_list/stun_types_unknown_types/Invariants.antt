use Rattle.stun_types_c.proofs.TypeListsLemmas.{Reported}
use Rattle.stun_types_c.proofs.type_list.stun_types_unknown_types.Given as goal

-- the unknown types so far are reported
abbrev pub invariant-loop-atype : goal.invariant-loop-atype
invariant-loop-atype l = Reported l.yielded l.count l.types l.initial.types
