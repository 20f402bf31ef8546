use Rattle.std.proofs.Common.{◌≡◌, drop, None}
use Rattle.std.specs.Prelude.{option_copied}
use Rattle.vx_code_parts.specs.Instructions.{ascend}
use Rattle.vx_code_parts.proofs.instructions.ascend.Given as goal

abbrev pub invariant-loop-case : goal.invariant-loop-case
invariant-loop-case l = ascend (option_copied l.least) (drop l.case-index l.cases) ≡ ascend None l.cases
