use Rattle.vx_space.proofs.Spaces.{Extends-trans}
use Rattle.vx_agree.proofs.Outputs.{IsLeaving-start, IsLeaving-step, IsUnsaid-of, ends_never, ends_past}
use Rattle.vx_bdd_tools.proofs.ListedSets.{AreSetsOf-extends}
use Rattle.vx_agree.proofs.output.unsaid.Goals as goal

pub loop-index-init : goal.loop-index-init
loop-index-init g c = IsLeaving-start (g.S.Space.sets c.args.space.now) c.args.other.now c.args.piece c.args.byte c.args.condition c.requires.known

pub is_never-requires : goal.is_never-requires
is_never-requires g c = c.loop-index.invariant.known

pub silent-requires-clause-sets : goal.silent-requires-clause-sets
silent-requires-clause-sets g c = AreSetsOf-extends c.loop-index.invariant.extends _ _ c.requires.sets

pub silent-requires-clause-rest : goal.silent-requires-clause-rest
silent-requires-clause-rest g c = c.loop-index.invariant.known

pub returns-in_err-rest-clause-extends : goal.returns-in_err-rest-clause-extends
returns-in_err-rest-clause-extends g c = Extends-trans c.loop-index.invariant.extends c.silent.ensures.extends

pub returns-then-is_never-clause-extends : goal.returns-then-is_never-clause-extends
returns-then-is_never-clause-extends g c = c.loop-index.invariant.extends

pub returns-then-is_never-clause-unsaid : goal.returns-then-is_never-clause-unsaid
returns-then-is_never-clause-unsaid g c = IsUnsaid-of c.args.other.now c.args.piece c.args.byte c.args.condition c.loop-index.index c.loop-index.from c.loop-index.rest c.loop-index.invariant (ends_never (g.met.S.Space.lawful c.loop-index.space) c.args.other.now c.loop-index.index c.loop-index.from c.loop-index.rest (c.is_never.ensures.0 c.if-is_never.true))

pub loop-index-preserved : goal.loop-index-preserved
loop-index-preserved g c = IsLeaving-step c.args.other.now c.args.piece c.args.byte c.args.condition c.loop-index.index c.loop-index.from c.index-pieces-index.result c.loop-index.rest _ (rw c.as_slice-pieces.ensures at c.loop-index-test.true) (rw c.as_slice-pieces.ensures at c.index-pieces-index.is) c.silent.ensures.extends c.loop-index.invariant c.in_ok-rest.ensures.silent

pub returns-clause-extends : goal.returns-clause-extends
returns-clause-extends g c = c.loop-index.invariant.extends

pub returns-clause-unsaid : goal.returns-clause-unsaid
returns-clause-unsaid g c = IsUnsaid-of c.args.other.now c.args.piece c.args.byte c.args.condition c.loop-index.index c.loop-index.from c.loop-index.rest c.loop-index.invariant (λ d _. ends_past c.args.other.now c.loop-index.index c.loop-index.from (rw c.as_slice-pieces.ensures at c.loop-index-test.false) d)
