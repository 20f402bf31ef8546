use Rattle.vx_run_commands.proofs.Judging.{can_be_judged, of_judged}
use Rattle.vx_run_commands.proofs.verify.verdict_of.Goals as goal

pub judged-requires-clause-classes : goal.judged-requires-clause-classes
judged-requires-clause-classes c =
    (can_be_judged c.args.main.now c.args.model.now c.args.classes.items c.in_ok-program.program c.linked_are_bounded.ensures c.linked_have_ranks.ensures c.requires.few c.requires.read c.in_ok-program.ensures).classes

pub judged-requires-clause-ranked : goal.judged-requires-clause-ranked
judged-requires-clause-ranked c =
    (can_be_judged c.args.main.now c.args.model.now c.args.classes.items c.in_ok-program.program c.linked_are_bounded.ensures c.linked_have_ranks.ensures c.requires.few c.requires.read c.in_ok-program.ensures).ranked

pub judged-requires-clause-codes : goal.judged-requires-clause-codes
judged-requires-clause-codes c =
    (can_be_judged c.args.main.now c.args.model.now c.args.classes.items c.in_ok-program.program c.linked_are_bounded.ensures c.linked_have_ranks.ensures c.requires.few c.requires.read c.in_ok-program.ensures).codes

pub returns : goal.returns
returns c = of_judged c.args.main.now c.args.model.now c.args.classes.items c.in_ok-program.program c.judged.result c.in_ok-program.ensures c.judged.ensures
