use Rattle.std.specs.Ordering.{bool_cmp}
use Rattle.vx_cond.specs.Leaves.{AreLeaves}
use Rattle.vx_group_states.proofs.Gathering.{AreLeaves-of}
use Rattle.vx_ready.proofs.Yes.{IsNoSoFar-start, IsNoSoFar-step, IsSet-none, IsSet-yes}
use Rattle.vx_ready.proofs.initialising.where_yes.Goals as goal

pub loop-leaf-init : goal.loop-leaf-init
loop-leaf-init g c = IsNoSoFar-start _ c.leaves-leaves.result.now

pub returns-then-leaf : goal.returns-then-leaf
returns-then-leaf g c =
    let leaves : AreLeaves bool_cmp (g.S.Space.sets c.args.space.now) c.leaves-leaves.result.now = rw c.leaves-leaves.ensures (AreLeaves-of bool_cmp _ c.args.answers.now c.requires) in
    rw c.leaves-leaves.ensures at (IsSet-yes _ c.leaves-leaves.result.now _ c.leaf-item.result leaves c.loop-leaf-test.true c.leaf-item.is c.if-leaf.true c.loop-leaf.invariant)

pub loop-leaf-preserved : goal.loop-leaf-preserved
loop-leaf-preserved g c =
    let leaves : AreLeaves bool_cmp (g.S.Space.sets c.args.space.now) c.leaves-leaves.result.now = rw c.leaves-leaves.ensures (AreLeaves-of bool_cmp _ c.args.answers.now c.requires) in
    IsNoSoFar-step _ c.leaves-leaves.result.now _ c.leaf-item.result leaves c.loop-leaf-test.true c.leaf-item.is c.if-leaf.false c.loop-leaf.invariant

pub returns : goal.returns
returns g c = rw c.never.ensures (rw c.leaves-leaves.ensures at (IsSet-none (g.met.S.Space.lawful c.args.space.now) c.leaves-leaves.result.now _ c.loop-leaf-test.false c.loop-leaf.invariant))
