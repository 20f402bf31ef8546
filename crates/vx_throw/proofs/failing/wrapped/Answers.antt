use Rattle.std.proofs.lemmas.Result.{IfOk-weaker}
use Rattle.vx_cells.proofs.Somewhere.{somewhere_in}
use Rattle.vx_cond.proofs.CondLaws.{IsCond-extends}
use Rattle.vx_space.proofs.Spaces.{Extends-trans}
use Rattle.vx_value.specs.Slot.{slot_cmp}
use Rattle.vx_throw.proofs.WrapLaws.{AreWrapped-before, AreWrapped-none, MayWrap-later, others_later}
use Rattle.vx_throw.proofs.failing.wrapped.Goals as goal

pub where_others-requires-clause-classes : goal.where_others-requires-clause-classes
where_others-requires-clause-classes g c = c.requires.classes

pub where_others-requires-clause-objects : goal.where_others-requires-clause-objects
where_others-requires-clause-objects g c = c.requires.is_cond

pub is_never-requires : goal.is_never-requires
is_never-requires g c = c.in_ok-others.ensures.set.known

pub returns-then-is_never-clause-wrapped : goal.returns-then-is_never-clause-wrapped
returns-then-is_never-clause-wrapped g c = AreWrapped-none c.args.program.now c.in_ok-others.ensures.extends c.args.heap.now c.args.objects c.in_ok-others.others (g.met.S.Space.lawful c.where_others.new.space) c.requires c.in_ok-others.ensures.set (c.is_never.ensures.0 c.if-is_never.true) (IsCond-extends slot_cmp c.in_ok-others.ensures.extends c.args.objects c.requires.is_cond)

pub wrapped_inside-requires-clause-may : goal.wrapped_inside-requires-clause-may
wrapped_inside-requires-clause-may g c = MayWrap-later c.args.program.now c.in_ok-others.ensures.extends c.args.heap.now c.args.objects c.requires

pub wrapped_inside-requires-clause-others : goal.wrapped_inside-requires-clause-others
wrapped_inside-requires-clause-others g c = others_later c.args.program.now c.in_ok-others.ensures.extends c.args.heap.now c.args.objects c.in_ok-others.others c.requires c.in_ok-others.ensures.set

pub wrapped_inside-requires-clause-somewhere : goal.wrapped_inside-requires-clause-somewhere
wrapped_inside-requires-clause-somewhere g c = somewhere_in (g.met.S.Space.lawful c.where_others.new.space) c.in_ok-others.others c.in_ok-others.ensures.set.known (λ n. cc (c.is_never.ensures.1 n))

pub returns-clause-extends : goal.returns-clause-extends
returns-clause-extends g c = Extends-trans c.in_ok-others.ensures.extends c.wrapped_inside.ensures.extends

pub returns-clause-wrapped : goal.returns-clause-wrapped
returns-clause-wrapped g c = IfOk-weaker c.wrapped_inside.result _ _ (λ r h. AreWrapped-before c.args.program.now c.in_ok-others.ensures.extends c.args.heap.now c.args.objects c.wrapped_inside.new.heap r c.requires h) c.wrapped_inside.ensures.wrapped
