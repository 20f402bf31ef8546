use Rattle.std.proofs.Common.{◌++◌, ap, sym, subst, ◌∙◌, arith, List, length}
use Rattle.std.specs.List.{All}
use Rattle.std.proofs.lemmas.List.{length-append}
use Rattle.vx_linker.proofs.Runs.{have_runs}
use Rattle.vx_linker.specs.Few.{HasFewFields}
use Rattle.vx_link.specs.Members.{HaveRuns}
use Rattle.vx_link.specs.Tables.{names_of}
use Rattle.vx_link.specs.declared.program.LinkedClass.{LinkedClass}
use Rattle.vx_linker.proofs.Numbering.{all_members, few_fields, so_many_classes}
use Rattle.vx_linker.proofs.whole.program_of.Goals as goal

pub without_layout-requires-clause-fields : goal.without_layout-requires-clause-fields
without_layout-requires-clause-fields c =
    let all = c.args.files.classes.items ++ c.args.files.core.items in
    omega (arith, c.in_ok-parts.ensures.few.fields, so_many_classes (names_of all) all c.in_ok-parts.parts.classes c.in_ok-parts.ensures.classes, length-append c.args.files.classes.items c.args.files.core.items, c.requires.few)

pub with_layout-requires-clause-few : goal.with_layout-requires-clause-few
with_layout-requires-clause-few c =
    let all = c.args.files.classes.items ++ c.args.files.core.items in
    let P : List LinkedClass → Type 0 = All HasFewFields in
    subst P
    (sym (ap (λ p. p.classes) c.in_ok-program.ensures ∙ c.in_ok-parts.ensures.classes))
    (few_fields (names_of all) all 0 0 (all_members c.args.files.classes.items c.args.files.core.items c.requires.members c.requires.core_members))

pub with_layout-requires-clause-classes : goal.with_layout-requires-clause-classes
with_layout-requires-clause-classes c =
    let all = c.args.files.classes.items ++ c.args.files.core.items in
    omega (arith, so_many_classes (names_of all) all c.in_ok-program.program.classes (ap (λ p. p.classes) c.in_ok-program.ensures ∙ c.in_ok-parts.ensures.classes), length-append c.args.files.classes.items c.args.files.core.items, c.requires.few)

pub with_layout-requires-clause-fields : goal.with_layout-requires-clause-fields
with_layout-requires-clause-fields c =
    let all = c.args.files.classes.items ++ c.args.files.core.items in
    omega (arith, ap (λ p. length p.fields) c.in_ok-program.ensures, c.in_ok-parts.ensures.few.fields, so_many_classes (names_of all) all c.in_ok-parts.parts.classes c.in_ok-parts.ensures.classes, length-append c.args.files.classes.items c.args.files.core.items, c.requires.few)

pub without_layout-requires-clause-runs : goal.without_layout-requires-clause-runs
without_layout-requires-clause-runs c =
    let all = c.args.files.classes.items ++ c.args.files.core.items in
    let P : List LinkedClass → Type 0 = All HaveRuns in
    subst P (sym c.in_ok-parts.ensures.classes) (have_runs (names_of all) all 0 0)
