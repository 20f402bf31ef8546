use Rattle.std.proofs.Common.{sym}
use Rattle.vx_copy.proofs.ClonedLeaves.{IsMadeInside-copied, IsMadeInside-no_array, IsMadeInside-other, object_inside, object_within}
use Rattle.vx_copy.proofs.cloning.cloned.Goals as goal

pub returns-in_default-clause-ok : goal.returns-in_default-clause-ok
returns-in_default-clause-ok g c = IsMadeInside-no_array c.args.program.now _ c.args.heap.now c.args.condition c.args.null c.args.receiver c.no_array.result c.requires.heap c.requires.null c.in_default.not-Ref c.no_array.ensures

pub class_of-requires : goal.class_of-requires
class_of-requires g c = object_within c.args.program.now _ c.args.heap.now c.args.condition c.args.receiver c.in-Ref.array c.in-Ref.is c.requires.held c.requires.somewhere

pub returns-then-not-is_array-clause-ok : goal.returns-then-not-is_array-clause-ok
returns-then-not-is_array-clause-ok g c = IsMadeInside-other c.args.program.now _ c.args.heap.now c.args.condition c.args.receiver c.in-Ref.array c.in-Ref.is c.requires.held c.class_of.result c.class_of.ensures (sym c.if-not-is_array.ensures) c.requires.heap

pub copy_object-requires-clause-object : goal.copy_object-requires-clause-object
copy_object-requires-clause-object g c = object_within c.args.program.now _ c.args.heap.now c.args.condition c.args.receiver c.in-Ref.array c.in-Ref.is c.requires.held c.requires.somewhere

pub copy_object-requires-clause-inside : goal.copy_object-requires-clause-inside
copy_object-requires-clause-inside g c = object_inside c.args.program.now _ c.args.heap.now c.args.condition c.args.receiver c.in-Ref.array c.in-Ref.is c.requires.held

pub returns-clause-ok : goal.returns-clause-ok
returns-clause-ok g c = IsMadeInside-copied c.args.program.now _ c.args.heap.now c.args.condition c.args.receiver c.in-Ref.array c.in-Ref.is c.requires.held c.copy_object.new.self c.class_of.result c.in_ok-copy.copy c.class_of.ensures (sym c.if-not-is_array.ensures) c.requires.heap c.in_ok-copy.ensures.extends c.in_ok-copy.ensures.ok
