use Rattle.std.proofs.Common.{None, ◌≡◌}
use Rattle.std.specs.Prelude.{replicate}
use Rattle.vx_linker.proofs.shared_texts.SharedTexts.none.Given as goal

abbrev pub invariant-loop-place : goal.invariant-loop-place
invariant-loop-place l = l.known.items ≡ replicate l._place None
