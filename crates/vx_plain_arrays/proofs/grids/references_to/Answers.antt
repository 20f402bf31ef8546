use Rattle.std.proofs.Common.{ap, arith, ◌+◌, ◌-◌, ◌*◌, ◌^◌, ◌<◌, ◌++◌, ◌∙◌}
use Rattle.vx_java.specs.Arrays.{references_to}
use Rattle.vx_plain.specs.Views.{values_of}
use Rattle.vx_plain_arrays.proofs.GridLaws.{all_references, no_references, part_within, reference_more}
use Rattle.vx_plain_arrays.proofs.grids.references_to.Goals as goal

pub loop-part-init : goal.loop-part-init
loop-part-init c = rw c.new-references.ensures.items (no_references c.args.count c.args.each c.args.from)

pub loop-part-preserved : goal.loop-part-preserved
loop-part-preserved c =
    ap (λ vs. values_of vs ++ references_to (c.args.count - (c.loop-part.part + 1)) c.args.each (c.args.from + (c.loop-part.part + 1) * c.args.each)) c.in_ok-push.ensures.items
    ∙ reference_more c.loop-part.references.items c.args.count c.loop-part.part c.args.each c.args.from c.loop-part-test.true
    ∙ c.loop-part.invariant

pub returns : goal.returns
returns c = all_references c.loop-part.references.items c.args.count c.loop-part.part c.args.each (c.args.from + c.loop-part.part * c.args.each) c.loop-part-test.false ∙ c.loop-part.invariant

pub overflow_mul-part : goal.overflow_mul-part
overflow_mul-part c =
    let within : c.args.from + c.loop-part.part * c.args.each < 2 ^ 64 = part_within c.loop-part.part c.args.count c.args.each c.args.from (2 ^ 64) c.loop-part-test.true c.requires in
    omega (arith, within)

pub overflow_add-from : goal.overflow_add-from
overflow_add-from c =
    let within : c.args.from + c.loop-part.part * c.args.each < 2 ^ 64 = part_within c.loop-part.part c.args.count c.args.each c.args.from (2 ^ 64) c.loop-part-test.true c.requires in
    omega (arith, within)
