use Rattle.std.proofs.Common.{◌≡◌, ◌++◌, map, string_bytes}
use Rattle.std.specs.List.{flat_map}
use Rattle.stun_types.specs.Iterating.{item_view}
use Rattle.stun_show.specs.Report.{attribute_line}
use Rattle.stun_show.proofs.report.write_attributes.Given as goal

-- the lines of the attributes so far are written
abbrev pub invariant-loop-offset : goal.invariant-loop-offset
invariant-loop-offset l = string_bytes l.text ≡ string_bytes l.fn.text ++ flat_map attribute_line (map (λ item. (item_view item).0) l.yielded)
