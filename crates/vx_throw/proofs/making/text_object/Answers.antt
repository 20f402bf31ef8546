use Rattle.std.proofs.Common.{◌∙◌}
use Rattle.vx_throw.proofs.MadeExceptions.{IsMessageMade-text}
use Rattle.vx_throw.proofs.making.text_object.Goals as goal

pub returns : goal.returns
returns g c = λ sets v k. IsMessageMade-text c.args.program.now sets c.args.heap.now c.alloc_text.new.self c.args.path c.core_class-class.result c.as_slice.result.now _ c.in_ok-object.object v c.core_class-class.ensures (c.as_slice.ensures.value ∙ c.in_ok-units.ensures) (c.in_ok-object.ensures sets v k)
