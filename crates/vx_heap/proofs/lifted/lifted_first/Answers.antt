use Rattle.vx_heap.proofs.lifted.lifted_first.Goals as goal

pub static_values-requires-clause-options : goal.static_values-requires-clause-options
static_values-requires-clause-options g c = rw c.deref.ensures.value c.requires.options

pub returns-clause-objects : goal.returns-clause-objects
returns-clause-objects g c = rw (← c.deref-2.ensures.value) c.in_ok-objects.ensures

pub returns-clause-statics : goal.returns-clause-statics
returns-clause-statics g c = rw (← c.deref.ensures.value) c.in_ok-statics.ensures.ok

pub returns-clause-inits : goal.returns-clause-inits
returns-clause-inits g c = rw (← c.deref-3.ensures.value) c.in_ok-inits.ensures
