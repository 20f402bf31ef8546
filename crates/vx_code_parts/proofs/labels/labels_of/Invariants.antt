use Rattle.std.proofs.Common.{◌≡◌, ◌≤◌, drop}
use Rattle.vx_code_parts.specs.Bodies.{labels_from, labels_of}
use Rattle.vx_code_parts.proofs.labels.labels_of.Given as goal

abbrev pub invariant-loop-line : goal.invariant-loop-line
invariant-loop-line l = record {
  few : l.labels.instructions ≤ l.line-index;
  same : labels_from l.labels (drop l.line-index l.lines) ≡ labels_of l.lines;
}
