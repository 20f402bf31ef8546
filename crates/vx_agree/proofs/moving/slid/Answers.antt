use Rattle.std.proofs.Common.{sym, subst}
use Rattle.vx_space.specs.Sets.{IsSet}
use Rattle.vx_space.proofs.Spaces.{Extends-trans}
use Rattle.vx_bdd_tools.specs.Nodes.{holds}
use Rattle.vx_agree.proofs.Moved.{IsSliding-start, IsSliding-step, SaysTheSame-end}
use Rattle.vx_bdd_tools.proofs.ListedSets.{AreSetsOf-extends}
use Rattle.vx_agree.proofs.moving.slid.Goals as goal

pub loop-index-init : goal.loop-index-init
loop-index-init g c = IsSliding-start (g.S.Space.sets c.args.space.now) c.args.other.now c.args.condition c.args.piece c.args.byte

pub and-requires-clause-first : goal.and-requires-clause-first
and-requires-clause-first g c = c.loop-index.invariant.extends.known c.args.condition c.requires.known

pub and-requires-clause-second : goal.and-requires-clause-second
and-requires-clause-second g c = (c.set_of-set.ensures c.args.other.now.nodes (AreSetsOf-extends c.loop-index.invariant.extends c.args.other.now.nodes c.args.sets.now c.requires.sets)).known

pub returns-in_err-inside-clause-extends : goal.returns-in_err-inside-clause-extends
returns-in_err-inside-clause-extends g c = Extends-trans c.loop-index.invariant.extends c.and.ensures.extends

pub loop-index-preserved : goal.loop-index-preserved
loop-index-preserved g c =
    let other = c.args.other.now in
    let s = g.S.Space.sets c.loop-index.space in
    let set = subst (λ x. IsSet s c.set_of-set.result (holds other.nodes x.node)) (sym c.index-pieces-index.is) (c.set_of-set.ensures other.nodes (AreSetsOf-extends c.loop-index.invariant.extends other.nodes c.args.sets.now c.requires.sets)) in
    IsSliding-step (g.met.S.Space.lawful c.and.new.self) other c.args.condition c.args.piece c.args.byte c.loop-index.index c.loop-index.from c.index-pieces-index.result c.set_of-set.result c.in_ok-inside.inside (rw c.as_slice-pieces.ensures at c.loop-index-test.true) (rw c.as_slice-pieces.ensures at c.index-pieces-index.is) c.requires.known c.loop-index.invariant set c.and.ensures.extends c.in_ok-inside.ensures.ok (c.is_never-in-loop-index.ensures.0 c.if-not-is_never.false)

pub returns-clause-extends : goal.returns-clause-extends
returns-clause-extends g c = c.loop-index.invariant.extends

pub returns-clause-same : goal.returns-clause-same
returns-clause-same g c = rw c.as_slice-pieces.ensures (SaysTheSame-end c.args.other.now c.args.condition c.args.piece c.args.byte c.loop-index.index c.loop-index.from c.loop-index.invariant (rw c.as_slice-pieces.ensures at c.loop-index-test.false))
