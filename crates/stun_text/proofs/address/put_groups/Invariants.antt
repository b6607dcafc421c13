use Rattle.std.proofs.Common.{◌∷◌, get_or, take}
use Rattle.std.specs.Net.Text.{groups_text}
use Rattle.stun_text.proofs.address.put_groups.Given as goal

-- the groups so far are written
abbrev pub invariant-loop-group : goal.invariant-loop-group
invariant-loop-group g l =
    g.S.TextSink.wrote l.fn.sink (groups_text (get_or l.groups 0 0 ∷ take l.group-index l.others)) l.sink
