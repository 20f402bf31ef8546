use Rattle.std.proofs.lemmas.Result.{IfOk-weaker}
use Rattle.vx_families.proofs.AttemptLaws.{IsAttemptBy-is, IsGiven-is}
use Rattle.vx_java.specs.declared.operation.Operation.TheVariants.{Length, LoadElement, NewGrid, NewPrimitives, NewReferences, StoreElement}
use Rattle.vx_arrays.proofs.attempting.attempt.Goals as goal

pub new_primitives-requires : goal.new_primitives-requires
new_primitives-requires g c = IsGiven-is c.args.site.now c.args.operation (NewPrimitives c.in-NewPrimitives.number) _ c.args.heap.now c.args.group c.in-NewPrimitives.is c.requires.given

pub new_references-requires : goal.new_references-requires
new_references-requires g c = IsGiven-is c.args.site.now c.args.operation (NewReferences c.in-NewReferences.index) _ c.args.heap.now c.args.group c.in-NewReferences.is c.requires.given

pub new_grid-requires : goal.new_grid-requires
new_grid-requires g c = IsGiven-is c.args.site.now c.args.operation (NewGrid c.in-NewGrid.index c.in-NewGrid.dimensions) _ c.args.heap.now c.args.group c.in-NewGrid.is c.requires.given

pub load_element-requires : goal.load_element-requires
load_element-requires g c = IsGiven-is c.args.site.now c.args.operation (LoadElement c.in-LoadElement.element) _ c.args.heap.now c.args.group c.in-LoadElement.is c.requires.given

pub store_element-requires : goal.store_element-requires
store_element-requires g c = IsGiven-is c.args.site.now c.args.operation (StoreElement c.in-StoreElement.element) _ c.args.heap.now c.args.group c.in-StoreElement.is c.requires.given

pub array_length-requires : goal.array_length-requires
array_length-requires g c = IsGiven-is c.args.site.now c.args.operation Length _ c.args.heap.now c.args.group c.in-Length.is c.requires.given

pub returns-in-NewPrimitives-clause-ok : goal.returns-in-NewPrimitives-clause-ok
returns-in-NewPrimitives-clause-ok g c =
    IfOk-weaker c.new_primitives.result _ _ (λ r' h'. IsAttemptBy-is c.args.site.now c.args.operation (NewPrimitives c.in-NewPrimitives.number) _ _ c.args.heap.now c.new_primitives.new.heap c.args.group _ c.in-NewPrimitives.is h')
    c.new_primitives.ensures.ok

pub returns-in-NewReferences-clause-ok : goal.returns-in-NewReferences-clause-ok
returns-in-NewReferences-clause-ok g c =
    IfOk-weaker c.new_references.result _ _ (λ r' h'. IsAttemptBy-is c.args.site.now c.args.operation (NewReferences c.in-NewReferences.index) _ _ c.args.heap.now c.new_references.new.heap c.args.group _ c.in-NewReferences.is h')
    c.new_references.ensures.ok

pub returns-in-NewGrid-clause-ok : goal.returns-in-NewGrid-clause-ok
returns-in-NewGrid-clause-ok g c =
    IfOk-weaker c.new_grid.result _ _ (λ r' h'. IsAttemptBy-is c.args.site.now c.args.operation (NewGrid c.in-NewGrid.index c.in-NewGrid.dimensions) _ _ c.args.heap.now c.new_grid.new.heap c.args.group _ c.in-NewGrid.is h')
    c.new_grid.ensures.ok

pub returns-in-LoadElement-clause-ok : goal.returns-in-LoadElement-clause-ok
returns-in-LoadElement-clause-ok g c =
    IfOk-weaker c.load_element.result _ _ (λ r' h'. IsAttemptBy-is c.args.site.now c.args.operation (LoadElement c.in-LoadElement.element) _ _ c.args.heap.now c.load_element.new.heap c.args.group _ c.in-LoadElement.is h')
    c.load_element.ensures.ok

pub returns-in-StoreElement-clause-ok : goal.returns-in-StoreElement-clause-ok
returns-in-StoreElement-clause-ok g c =
    IfOk-weaker c.store_element.result _ _ (λ r' h'. IsAttemptBy-is c.args.site.now c.args.operation (StoreElement c.in-StoreElement.element) _ _ c.args.heap.now c.store_element.new.heap c.args.group _ c.in-StoreElement.is h')
    c.store_element.ensures.ok

pub returns-in-Length-clause-ok : goal.returns-in-Length-clause-ok
returns-in-Length-clause-ok g c =
    IfOk-weaker c.array_length.result _ _ (λ r' h'. IsAttemptBy-is c.args.site.now c.args.operation Length _ _ c.args.heap.now c.args.heap.now c.args.group _ c.in-Length.is h')
    c.array_length.ensures.ok
