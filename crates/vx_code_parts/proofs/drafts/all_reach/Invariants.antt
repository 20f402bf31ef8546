use Rattle.std.proofs.Common.{◌≡◌, ◌≤◌, drop}
use Rattle.vx_code_parts.specs.Drafts.{all_reach}
use Rattle.vx_code_parts.proofs.drafts.all_reach.Given as goal

abbrev pub invariant-loop-draft : goal.invariant-loop-draft
invariant-loop-draft l = record {
  within : l.at ≤ 65536;
  same : all_reach l.places l.at (drop l.draft-index l.drafts) ≡ all_reach l.places 0 l.drafts;
}
