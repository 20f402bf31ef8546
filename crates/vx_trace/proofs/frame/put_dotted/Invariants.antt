use Rattle.std.proofs.Common.{◌≡◌, ◌++◌, take}
use Rattle.vx_trace.specs.TraceText.{dotted}
use Rattle.vx_trace.proofs.frame.put_dotted.Given as goal

abbrev pub invariant-loop-byte : goal.invariant-loop-byte
invariant-loop-byte l = l.out.items ≡ l.initial.out.items ++ dotted (take l.byte-index l.name)
