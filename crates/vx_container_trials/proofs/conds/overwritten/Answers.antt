use Rattle.std.specs.Ordering.{nat_cmp}
use Rattle.vx_cond.proofs.CondLaws.{IsCond-extends}
use Rattle.vx_container_trials.proofs.Trials.{IsInside-restricted}
use Rattle.vx_container_trials.proofs.conds.overwritten.Goals as goal

pub overwrite-requires-clause-inside : goal.overwrite-requires-clause-inside
overwrite-requires-clause-inside g c = IsInside-restricted nat_cmp c.in_ok-part.ensures.extends c.in_ok-three.ensures.extends _ _ _ _ (IsCond-extends nat_cmp c.in_ok-first.ensures.extends _ c.in_ok-both.ensures.valid) c.in_ok-part.ensures.ok c.in_ok-three.ensures.scope
