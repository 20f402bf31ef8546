use Rattle.std.proofs.Common.{◌≡◌, ◌++◌, take}
use Rattle.std.specs.List.{flat_map}
use Rattle.vx_class.specs.Spelling.{u2}
use Rattle.vx_writer.proofs.class.put_interfaces.Given as goal

abbrev pub invariant-loop-interface : goal.invariant-loop-interface
invariant-loop-interface l = l.out.items ≡ l.fn.out.items ++ flat_map u2 (take l.interface-index l.interfaces)
