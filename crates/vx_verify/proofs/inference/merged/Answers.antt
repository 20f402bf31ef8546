use Rattle.vx_verify.proofs.MergeLaws.{states_merged}
use Rattle.vx_verify.proofs.StoreLaws.{row_kept}
use Rattle.vx_verify.proofs.inference.merged.Goals as goal

pub common_operands-requires-clause-one : goal.common_operands-requires-clause-one
common_operands-requires-clause-one c = c.requires.known.operands

pub common_operands-requires-clause-other : goal.common_operands-requires-clause-other
common_operands-requires-clause-other c = c.requires.state.operands

pub common_locals-requires-clause-store : goal.common_locals-requires-clause-store
common_locals-requires-clause-store c = let stack = rw c.in-Some.is at c.in_ok-found.ensures in stack.later.store

pub common_locals-requires-clause-one : goal.common_locals-requires-clause-one
common_locals-requires-clause-one c =
    let stack = rw c.in-Some.is at c.in_ok-found.ensures in row_kept c.args.store.now _ c.args.frame.levels c.args.known.locals stack.later c.requires.known.locals

pub common_locals-requires-clause-other : goal.common_locals-requires-clause-other
common_locals-requires-clause-other c =
    let stack = rw c.in-Some.is at c.in_ok-found.ensures in row_kept c.args.store.now _ c.args.frame.levels c.args.state.locals stack.later c.requires.state.locals

pub returns-in_ok-locals-in-Some : goal.returns-in_ok-locals-in-Some
returns-in_ok-locals-in-Some c =
    states_merged c.args.program.now c.args.store.now _ _ c.args.frame c.args.known c.args.state c.in_ok-locals-in-Some.locals c.in-Some.operands c.requires.store c.requires.known c.requires.state
    (rw c.in-Some.is at c.in_ok-found.ensures) c.in_ok-locals-in-Some.ensures

pub returns-in-None : goal.returns-in-None
returns-in-None c = λ u h k. (rw c.in-None.is at c.in_ok-found.ensures) u.operands h.operands k.operands
