use Rattle.std.proofs.Common.{arith}
use Rattle.vx_verify.proofs.LocalLaws.{leaf_within, local_leaf, local_past}
use Rattle.vx_verify.proofs.StoreLaws.{some_types}
use Rattle.vx_verify.proofs.rows.local.Goals as goal

pub returns-then-place-frame-clause-value : goal.returns-then-place-frame-clause-value
returns-then-place-frame-clause-value c = local_past c.args.store.now c.args.frame c.args.locals c.args.place c.requires.store (omega arith)

pub returns-then-place-frame-clause-within : goal.returns-then-place-frame-clause-within
returns-then-place-frame-clause-within c = let some = some_types c.args.store.now c.requires.store in omega (arith, some)

pub returns-clause-value : goal.returns-clause-value
returns-clause-value c = local_leaf c.args.store.now c.args.frame c.args.locals c.args.place c.leaf.result c.requires.store (omega arith) c.leaf.ensures

pub returns-clause-within : goal.returns-clause-within
returns-clause-within c = leaf_within c.args.store.now c.args.frame c.args.locals c.args.place c.leaf.result c.requires.row (omega arith) c.leaf.ensures
