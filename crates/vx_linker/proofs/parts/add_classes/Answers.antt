use Rattle.std.proofs.Common.{◌++◌, ℕ, List, ap, sym, subst, ◌∙◌, arith, length}
use Rattle.vx_class.specs.declared.class_file.ClassFile.{ClassFile}
use Rattle.vx_link.specs.Linked.{methods_of_class}
use Rattle.std.specs.Vec.Iter.{into_iter_items}
use Rattle.vx_linker.proofs.Numbering.{GoesOn, goes_on}
use Rattle.vx_linker.proofs.parts.add_classes.Goals as goal

pub loop-class-preserved : goal.loop-class-preserved
loop-class-preserved c =
    let now = c.loop-class in
    let names = c.args.numbers.now.folder ++ c.args.numbers.now.core in
    let P : List ClassFile → Type 0 = λ left. GoesOn names c.args.options.now c.args.parts now.linked c.args.classes.items left c.args.natives.now now.rows.now in
    let Q : List (List ℕ) → Type 0 = λ rows. GoesOn names c.args.options.now c.args.parts c.in_ok-linked.linked c.args.classes.items (into_iter_items c.next.new.self) c.args.natives.now rows in (
      omega (arith, now.invariant.0, c.in-Some.ensures.steps.1, ap length c.in-Some.ensures.steps.0),
      subst Q (sym c.behind_first-rows.ensures)
          (goes_on names c.args.options.now c.args.parts now.linked c.args.classes.items (into_iter_items c.next.new.self) c.args.natives.now now.rows.now c.in-Some.class c.in_ok-linked.linked
          (subst P c.in-Some.ensures.steps.0 now.invariant.1)
          c.in_ok-linked.ensures.classes
          (c.in_ok-linked.ensures.methods ∙ ap (λ row. now.linked.methods ++ methods_of_class (length now.linked.classes) c.in-Some.class row) c.first_row-row.ensures)
          c.in_ok-linked.ensures.fields),
    )
