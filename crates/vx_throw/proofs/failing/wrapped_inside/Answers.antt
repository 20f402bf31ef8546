use Rattle.std.proofs.lemmas.Result.{IfOk-weaker}
use Rattle.vx_cond.proofs.CondLaws.{IsCond-extends, IsCond-of}
use Rattle.vx_space.proofs.Spaces.{Extends-trans}
use Rattle.vx_value.specs.Slot.{slot_cmp}
use Rattle.vx_throw.proofs.WrapLaws.{AreWrapped-made, one_inside, others_inside}
use Rattle.vx_throw.proofs.failing.wrapped_inside.Goals as goal

pub wrapper-requires-clause-known : goal.wrapper-requires-clause-known
wrapper-requires-clause-known g c = c.requires.others.known

pub wrapper-requires-clause-inside : goal.wrapper-requires-clause-inside
wrapper-requires-clause-inside g c = others_inside c.args.program.now _ c.args.heap.now c.args.objects.now c.args.path c.requires.others

pub one-requires : goal.one-requires
one-requires g c = c.in_ok-object.ensures.extends.known c.args.path c.requires.others.known

pub overwrite-requires-clause-old : goal.overwrite-requires-clause-old
overwrite-requires-clause-old g c = IsCond-extends slot_cmp c.in_ok-object.ensures.extends c.args.objects.now c.requires.may.is_cond

pub overwrite-requires-clause-new : goal.overwrite-requires-clause-new
overwrite-requires-clause-new g c = IsCond-of slot_cmp _ _ c.in_ok-thrown.thrown c.in_ok-thrown.ensures.ok

pub overwrite-requires-clause-inside : goal.overwrite-requires-clause-inside
overwrite-requires-clause-inside g c = one_inside c.args.program.now c.args.heap.now c.wrapper.new.heap c.args.objects.now c.in_ok-thrown.thrown c.args.path c.in_ok-object.object c.requires.may c.requires.others c.in_ok-object.ensures.extends c.in_ok-object.ensures.made c.in_ok-thrown.ensures.ok c.in_ok-thrown.ensures.scope

pub returns-clause-extends : goal.returns-clause-extends
returns-clause-extends g c = Extends-trans c.in_ok-object.ensures.extends c.overwrite.ensures.extends

pub returns-clause-wrapped : goal.returns-clause-wrapped
returns-clause-wrapped g c = IfOk-weaker c.overwrite.result _ _ (λ r h. AreWrapped-made c.args.program.now c.args.heap.now c.wrapper.new.heap c.args.objects.now c.in_ok-thrown.thrown c.args.path c.in_ok-object.object c.requires.may c.requires.others c.in_ok-object.ensures.extends c.in_ok-object.ensures.made c.in_ok-thrown.ensures.ok r c.overwrite.ensures.extends h (g.met.S.Space.lawful c.overwrite.new.space)) c.overwrite.ensures.ok
