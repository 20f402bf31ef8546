use Rattle.std.proofs.Common.{◌∙◌, ap}
use Rattle.vx_space.proofs.Spaces.{Extends-trans}
use Rattle.vx_effects.specs.Copying.{component_in}
use Rattle.vx_effects.proofs.CopyRows.{array-cells, copied-done, fitting_inside, other-cells}
use Rattle.vx_effects.proofs.copying.copied.Goals as goal

pub copy_fitting-requires-clause-enough : goal.copy_fitting-requires-clause-enough
copy_fitting-requires-clause-enough g c = (array-cells _ c.args.heap.now c.args.condition c.args.array c.args.from c.args.other c.args.to c.args.count c.requires.held c.requires.somewhere c.requires.heap).0

pub copy_fitting-requires-clause-few : goal.copy_fitting-requires-clause-few
copy_fitting-requires-clause-few g c = (array-cells _ c.args.heap.now c.args.condition c.args.array c.args.from c.args.other c.args.to c.args.count c.requires.held c.requires.somewhere c.requires.heap).1

pub copy_fitting-requires-clause-room : goal.copy_fitting-requires-clause-room
copy_fitting-requires-clause-room g c = (other-cells _ c.args.heap.now c.args.condition c.args.array c.args.from c.args.other c.args.to c.args.count c.requires.held c.requires.somewhere c.requires.heap).1

pub copy_answers-requires-clause-known : goal.copy_answers-requires-clause-known
copy_answers-requires-clause-known g c = c.in_ok-fitting.ensures.extends.known c.args.condition c.requires.known

pub copy_answers-requires-clause-fitting : goal.copy_answers-requires-clause-fitting
copy_answers-requires-clause-fitting g c = c.in_ok-fitting.ensures.ok.fits.known

pub copy_answers-requires-clause-inside : goal.copy_answers-requires-clause-inside
copy_answers-requires-clause-inside g c = fitting_inside c.args.program.now c.component_in-component.result c.in_ok-fitting.ensures.extends c.args.heap.now c.copy_fitting.new.heap c.args.condition c.in_ok-fitting.fitting c.args.array c.args.from c.args.other c.args.to c.args.count c.requires.known c.in_ok-fitting.ensures.ok

pub returns-clause-extends : goal.returns-clause-extends
returns-clause-extends g c = Extends-trans c.in_ok-fitting.ensures.extends c.in_ok-answers.ensures.extends

pub returns-clause-done : goal.returns-clause-done
returns-clause-done g c = copied-done c.args.program.now c.args.heap.now c.copy_fitting.new.heap c.args.condition c.in_ok-fitting.fitting c.args.array c.args.from c.args.other c.args.to c.args.count c.component_in-component.result c.in_ok-answers.answers c.requires.heap c.requires.held c.requires.known (other-cells _ c.args.heap.now c.args.condition c.args.array c.args.from c.args.other c.args.to c.args.count c.requires.held c.requires.somewhere c.requires.heap).0 c.in_ok-answers.ensures.extends c.in_ok-fitting.ensures.extends (c.component_in-component.ensures ∙ ap (component_in c.args.program.now) c.class_at.ensures) c.in_ok-fitting.ensures.ok c.in_ok-answers.ensures.cond c.in_ok-answers.ensures.scope c.in_ok-answers.ensures.at
