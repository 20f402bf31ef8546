use Rattle.std.proofs.Common.{◌++◌, ap, ◌∙◌, arith}
use Rattle.vx_link.specs.Linked.{linked_classes}
use Rattle.vx_linker.proofs.Numbering.{both_classes, both_methods, both_fields, names_of_both, so_many_classes}
use Rattle.vx_linker.proofs.whole.parts_of.Goals as goal

pub add_classes-requires-2-clause-room : goal.add_classes-requires-2-clause-room
add_classes-requires-2-clause-room c =
    let e = rw c.no_parts.ensures at c.in_ok-folder.ensures.classes in
    omega (arith, so_many_classes (c.args.files.numbers.folder ++ c.args.files.numbers.core) c.args.files.classes.items c.in_ok-folder.folder.classes e, c.requires.few)

pub returns-clause-classes : goal.returns-clause-classes
returns-clause-classes c =
    let xs = c.args.files.classes.items in
    let ys = c.args.files.core.items in
    both_classes (c.args.files.numbers.folder ++ c.args.files.numbers.core) c.args.options.now xs ys c.in_ok-folder.folder c.in_ok-both.both
    (rw c.no_parts.ensures at c.in_ok-folder.ensures.classes)
    (rw c.no_parts.ensures at c.in_ok-folder.ensures.methods)
    (rw c.no_parts.ensures at c.in_ok-folder.ensures.fields)
    c.in_ok-both.ensures.classes
    ∙ ap (λ names. linked_classes names (xs ++ ys) 0 0) (names_of_both c.args.files)

pub returns-clause-methods : goal.returns-clause-methods
returns-clause-methods c =
    both_methods (c.args.files.numbers.folder ++ c.args.files.numbers.core) c.args.files.classes.items c.args.files.core.items c.args.natives.now c.in_ok-folder.folder c.in_ok-both.both
    (rw c.no_parts.ensures at c.in_ok-folder.ensures.classes)
    (rw c.no_parts.ensures at c.in_ok-folder.ensures.methods)
    c.in_ok-both.ensures.methods

pub returns-clause-fields : goal.returns-clause-fields
returns-clause-fields c =
    both_fields (c.args.files.numbers.folder ++ c.args.files.numbers.core) c.args.options.now c.args.files.classes.items c.args.files.core.items c.in_ok-folder.folder c.in_ok-both.both
    (rw c.no_parts.ensures at c.in_ok-folder.ensures.classes)
    (rw c.no_parts.ensures at c.in_ok-folder.ensures.fields)
    c.in_ok-both.ensures.fields
