use Rattle.std.proofs.Common.{◌≡◌, ◌≤◌, ◌++◌, drop}
use Rattle.vx_code_parts.specs.Drafts.{code_bytes}
use Rattle.vx_code_parts.proofs.drafts.code_bytes.Given as goal

abbrev pub invariant-loop-draft : goal.invariant-loop-draft
invariant-loop-draft l = record {
  within : l.at ≤ 65536;
  same : l.out.items ++ code_bytes l.places l.at (drop l.draft-index l.drafts) ≡ code_bytes l.places 0 l.drafts;
}
