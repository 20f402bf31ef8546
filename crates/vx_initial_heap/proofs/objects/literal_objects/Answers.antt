use Rattle.std.proofs.Common.{take}
use Rattle.vx_initial_heap.specs.Literals.{first_of}
use Rattle.vx_initial_heap.specs.Objects.{IsLiteralObject}
use Rattle.vx_initial_heap.proofs.ObjectLaws.{more_texts, object_more}
use Rattle.vx_initial_heap.proofs.Zips.{zip_each, zip_step}
use Rattle.vx_initial_heap.proofs.objects.literal_objects.Goals as goal

pub loop-literal-preserved : goal.loop-literal-preserved
loop-literal-preserved c =
    let extends = c.literal_object.ensures.extends in (
      rw c.in_ok-push.ensures.items
          (zip_step (IsLiteralObject c.args.classes.now c.literal_object.new.texts.texts) c.args.listed.now c.loop-literal.objects.items c.loop-literal.literal-index c.literal-item.result c.in_ok-literal_object.field-0
          (zip_each (λ x o h. object_more c.args.classes.now c.loop-literal.texts.texts c.literal_object.new.texts.texts extends (first_of x) o h) (take c.loop-literal.literal-index c.args.listed.now) c.loop-literal.objects.items c.loop-literal.invariant.0)
          c.loop-literal-test.true c.literal-item.is c.in_ok-literal_object.ensures.object),
      more_texts c.args.texts.now.texts c.loop-literal.texts.texts c.literal_object.new.texts.texts c.loop-literal.invariant.1 extends,
    )
