use Rattle.std.proofs.Common.{◌≡◌, ◌≤◌, ◌++◌, drop}
use Rattle.vx_asm.specs.Bodies.{places_from, places_of}
use Rattle.vx_asm.proofs.ends.places_of.Given as goal

abbrev pub invariant-loop-draft : goal.invariant-loop-draft
invariant-loop-draft l = record {
  within : l.at ≤ 65536;
  same : l.places.items ++ places_from l.at (drop l.draft-index l.drafts) ≡ places_of l.drafts;
}
