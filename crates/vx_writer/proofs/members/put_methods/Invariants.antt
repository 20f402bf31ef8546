use Rattle.std.proofs.Common.{◌≡◌, ◌++◌, take}
use Rattle.std.specs.List.{flat_map}
use Rattle.vx_writer.specs.Written.{method_bytes}
use Rattle.vx_writer.proofs.members.put_methods.Given as goal

abbrev pub invariant-loop-method : goal.invariant-loop-method
invariant-loop-method l = l.out.items ≡ l.fn.out.items ++ flat_map (method_bytes l.pool) (take l.method-index l.methods)
