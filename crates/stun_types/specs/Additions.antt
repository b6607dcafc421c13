-- An addition, as a step of the grammar.
use Rattle.std.specs.Prelude.{[]}
use Rattle.stun_grammar.specs.Steps.{Step, add, sign, finger}
use Rattle.stun_types.specs.declared.writing.refusals.Addition.{Addition}
use Rattle.stun_types.specs.declared.writing.refusals.Addition.TheVariants.{Ordinary, Integrity, Fingerprint}

-- a step of that kind: what blocks it doesn't depend on its attribute or its key
abbrev pub step_of : Addition → Step
step_of Ordinary = add 0 []
step_of (Integrity algorithm) = sign algorithm []
step_of Fingerprint = finger
