use Rattle.std.proofs.Common.{◌≡◌, ◌++◌, filter, take}
use Rattle.vx_compare.specs.Names.{is_new}
use Rattle.vx_compare.proofs.names.all_names.Given as goal

abbrev pub invariant-loop-name : goal.invariant-loop-name
invariant-loop-name l = l.names.items ≡ l.fn.one ++ filter (is_new l.fn.one) (take l.name-index l.fn.other)
