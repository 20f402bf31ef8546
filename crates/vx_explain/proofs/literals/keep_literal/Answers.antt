use Rattle.std.proofs.Common.{ap, sym, ◌∙◌}
use Rattle.std.specs.Prelude.{if◌then◌else◌, ◌++◌, ◌∷◌, []}
use Rattle.vx_explain.proofs.FirstLiterals.{kept_both, kept_more}
use Rattle.vx_explain.proofs.literals.keep_literal.Goals as goal

pub returns-then-branch-clause-kept : goal.returns-then-branch-clause-kept
returns-then-branch-clause-kept g c = kept_both c.args.kept.now.items c.args.literal _ (rw c.as_slice.ensures.value at c.in_ok-is_covered.ensures.covered) c.if-branch.true

pub returns-clause-kept : goal.returns-clause-kept
returns-clause-kept g c = rw c.in_ok-push.ensures.items (kept_more c.args.kept.now.items c.args.literal _ (rw c.as_slice.ensures.value at c.in_ok-is_covered.ensures.covered) c.if-branch.false)
