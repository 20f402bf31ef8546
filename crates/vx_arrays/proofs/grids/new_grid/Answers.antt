use Rattle.std.proofs.Common.{[], ap, refl}
use Rattle.std.proofs.lemmas.Result.{IfOk-weaker}
use Rattle.vx_group_states.specs.Sites.{here}
use Rattle.vx_java.specs.Arrays.{lengths_off, new_grid_of}
use Rattle.vx_java.specs.declared.operation.Operation.TheVariants.{NewGrid}
use Rattle.vx_ready.proofs.Given.{IsRunning-given}
use Rattle.vx_arrays.proofs.ClassRows.{found-attempts, missing-attempts}
use Rattle.vx_arrays.proofs.grids.new_grid.Goals as goal

pub resolved-requires-clause-classes : goal.resolved-requires-clause-classes
resolved-requires-clause-classes g c = c.requires.bounded.classes

pub resolved-requires-clause-for_program : goal.resolved-requires-clause-for_program
resolved-requires-clause-for_program g c = c.requires.is_for

pub returns-in_default-clause-ok : goal.returns-in_default-clause-ok
returns-in_default-clause-ok g c =
    IfOk-weaker c.no_class.result _ _ (λ r' h'. missing-attempts c.args.site.now (NewGrid c.args.index c.args.dimensions) c.args.index c.args.group c.top_frame.result.now c.class_of_method-current.result c.resolved.result c.top_frame.ensures c.class_of_method-current.ensures c.resolved.ensures (λ h class. new_grid_of h class (lengths_off c.args.dimensions [] h.state.top.operands)) (λ s. refl) c.args.heap.now _ c.requires c.in_default.is (h' _))
    c.no_class.ensures

pub new_arrays-requires : goal.new_arrays-requires
new_arrays-requires g c = record { running = IsRunning-given c.args.site.now (NewGrid c.args.index c.args.dimensions) _ c.args.heap.now c.args.group c.requires }

pub returns-clause-ok : goal.returns-clause-ok
returns-clause-ok g c =
    IfOk-weaker c.new_arrays.result _ _ (λ r' h'. found-attempts c.args.site.now (NewGrid c.args.index c.args.dimensions) c.args.index c.args.group c.top_frame.result.now c.class_of_method-current.result c.resolved.result c.top_frame.ensures c.class_of_method-current.ensures c.resolved.ensures (λ h class. new_grid_of h class (lengths_off c.args.dimensions [] h.state.top.operands)) (λ s. refl) c.args.heap.now c.new_arrays.new.heap (λ s. new_grid_of (here c.args.site.now s) c.in-Some.class.0 (lengths_off c.from-count.result [] s.top.operands)) c.in-Some.class _ c.in-Some.is (λ s. ap (λ d. new_grid_of (here c.args.site.now s) c.in-Some.class.0 (lengths_off d [] s.top.operands)) c.from-count.ensures) h')
    c.new_arrays.ensures.ok
