use Rattle.std.proofs.Common.{map, take, ◌≡◌}
use Rattle.vx_link.specs.Names.{class_name}
use Rattle.vx_outlines.proofs.outline.interfaces_of.Given as goal

abbrev pub invariant-loop-index : goal.invariant-loop-index
invariant-loop-index l = l.names.items ≡ map (class_name l.class.pool) (take l.index-index l.class.interfaces)
