use Rattle.vx_verify.proofs.JoinLaws.{stacks_common, stacks_unlike}
use Rattle.vx_verify.proofs.store.Store.common_operands.Goals as goal

pub joined-requires-clause-apart : goal.joined-requires-clause-apart
joined-requires-clause-apart c = let parted = rw c.in-Some.is at c.in_ok-found.ensures in parted.these

pub joined-requires-clause-shared : goal.joined-requires-clause-shared
joined-requires-clause-shared c = let parted = rw c.in-Some.is at c.in_ok-found.ensures in parted.left_stack

pub returns-in_ok-merged-in-Some : goal.returns-in_ok-merged-in-Some
returns-in_ok-merged-in-Some c =
    stacks_common c.args.program.now c.args.self.now _ c.args.one c.args.other c.in-Some.parted.apart.items c.in-Some.parted.shared c.in_ok-merged-in-Some.merged
    (rw c.in-Some.is at c.in_ok-found.ensures) c.in_ok-merged-in-Some.ensures

pub returns-in-None : goal.returns-in-None
returns-in-None c = stacks_unlike c.args.program.now c.args.self.now c.args.self.now c.args.one c.args.other (rw c.in-None.is at c.in_ok-found.ensures)
