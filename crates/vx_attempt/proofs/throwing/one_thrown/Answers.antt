use Rattle.std.proofs.Common.{refl, sym, ◌∙◌}
use Rattle.vx_standing.specs.Attempted.{thrown_out}
use Rattle.vx_attempt.proofs.Calls.{there_known}
use Rattle.vx_attempt.proofs.Carrying.{AreCarriedOut-none}
use Rattle.vx_attempt.proofs.throwing.one_thrown.Goals as goal

pub is_never-requires : goal.is_never-requires
is_never-requires g c = rw c.condition.ensures (there_known c.args.program.now (g.S.Space.sets c.args.space.now) c.args.heap.now c.args.callers.now c.args.outcome c.requires.there.0)

pub returns-then-is_never-clause-carried : goal.returns-then-is_never-clause-carried
returns-then-is_never-clause-carried g c =
    let p = c.args.program.now in
    rw c.new.ensures (AreCarriedOut-none p (thrown_out p) (g.met.S.Space.lawful c.args.space.now) c.args.heap.now c.args.callers.now c.args.outcome c.requires.is_heap c.requires.is_for (sym c.condition.ensures ∙ c.if-is_never.ensures.0 refl))

pub returns-then-is_never-clause-placed : goal.returns-then-is_never-clause-placed
returns-then-is_never-clause-placed g c = λ none. rw c.new.ensures refl

pub some_thrown-requires-clause-some : goal.some_thrown-requires-clause-some
some_thrown-requires-clause-some g c = λ q. cc (c.if-is_never.ensures.1 (c.condition.ensures ∙ q))
