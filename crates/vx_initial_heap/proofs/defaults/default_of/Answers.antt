use Rattle.std.proofs.Common.{ap, ◌∙◌}
use Rattle.vx_initial_heap.proofs.DefaultLaws.{items_behind, long_default, short_default}
use Rattle.vx_initial_heap.specs.Defaults.{base_in, default_over}
use Rattle.vx_initial_heap.proofs.defaults.default_of.Goals as goal

pub returns-then-dimensions-gt255-clause-value : goal.returns-then-dimensions-gt255-clause-value
returns-then-dimensions-gt255-clause-value c = long_default c.args.descriptor.now c.brackets-dimensions.result c.brackets-dimensions.ensures c.if-dimensions-gt255.true

pub returns-clause-value : goal.returns-clause-value
returns-clause-value c =
    c.default_over.ensures.value
    ∙ ap (default_over c.brackets-dimensions.result) c.base_in.ensures
    ∙ ap (λ text. default_over c.brackets-dimensions.result (base_in text)) (items_behind c.args.descriptor.now c.brackets-dimensions.result)
    ∙ short_default c.args.descriptor.now c.brackets-dimensions.result c.brackets-dimensions.ensures c.if-dimensions-gt255.false
