use Rattle.std.proofs.Common.{arith, ap, length}
use Rattle.std.proofs.lemmas.List.{length-map}
use Rattle.std.proofs.lemmas.List.Elements.{All-map}
use Rattle.std.proofs.lemmas.Result.{err_from_is_err_and}
use Rattle.vx_class.specs.File.{Holds}
use Rattle.vx_inputs.specs.declared.taken.Traced.{Traced}
use Rattle.vx_run_commands.proofs.RetoldRuns.{can_be_run, of_retold}
use Rattle.vx_run_commands.proofs.retell.retold_of.Goals as goal

pub program_in-requires-clause-few : goal.program_in-requires-clause-few
program_in-requires-clause-few c = omega (arith, c.requires.few, ap length c.in_ok-parts.ensures.classes, length-map c.args.traced.items (λ (t : Traced). t.class))

pub program_in-requires-clause-read : goal.program_in-requires-clause-read
program_in-requires-clause-read c = rw c.in_ok-parts.ensures.classes (All-map Holds (λ (t : Traced). t.class) c.args.traced.items c.requires.read)

pub returns-in_err-program : goal.returns-in_err-program
returns-in_err-program c =
    let p = err_from_is_err_and c.from_residual-in_err-program.result c.from_residual-in_err-program.ensures.1 in
    rw (p.1, p.2) (rw c.in_ok-parts.ensures.classes at c.in_err-program.ensures)

pub told_of-requires-clause-classes : goal.told_of-requires-clause-classes
told_of-requires-clause-classes c =
    let linked = rw c.in_ok-parts.ensures.classes at c.in_ok-program.ensures in
    (can_be_run c.args.words.main.now c.args.chosen.now.model c.args.traced.items c.in_ok-program.program c.linked_are_bounded.ensures c.requires.few c.requires.read linked).classes

pub told_of-requires-clause-core : goal.told_of-requires-clause-core
told_of-requires-clause-core c =
    let linked = rw c.in_ok-parts.ensures.classes at c.in_ok-program.ensures in
    (can_be_run c.args.words.main.now c.args.chosen.now.model c.args.traced.items c.in_ok-program.program c.linked_are_bounded.ensures c.requires.few c.requires.read linked).core

pub told_of-requires-clause-short : goal.told_of-requires-clause-short
told_of-requires-clause-short c =
    let linked = rw c.in_ok-parts.ensures.classes at c.in_ok-program.ensures in
    (can_be_run c.args.words.main.now c.args.chosen.now.model c.args.traced.items c.in_ok-program.program c.linked_are_bounded.ensures c.requires.few c.requires.read linked).short

pub returns : goal.returns
returns c =
    let w = c.args.words in
    let linked = rw c.in_ok-parts.ensures.classes at c.in_ok-program.ensures in
    let made = rw (c.as_slice.ensures.value, c.in_ok-parts.ensures.tables, c.as_slice-2.ensures.value, c.in_ok-parts.ensures.files, c.as_slice-3.ensures.value) at c.in_ok-told_of.ensures in
    of_retold w.retelling w.main.now w.limit c.args.chosen.now.model c.args.chosen.now.values.items c.args.traced.items c.in_ok-program.program _ linked made
