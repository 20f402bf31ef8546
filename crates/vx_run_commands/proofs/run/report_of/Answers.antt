use Rattle.vx_run_commands.proofs.Ran.{may_start, of_linked, reportable_run, untold}
use Rattle.vx_run_commands.proofs.run.report_of.Goals as goal

pub report_of_program-requires-clause-start : goal.report_of_program-requires-clause-start
report_of_program-requires-clause-start g c = may_start c.args.words.main.now c.args.modeled.model c.args.classes.items c.in_ok-program.program c.args.modeled.allowed c.args.words.limit c.linked_are_bounded.ensures c.requires.few c.requires.read c.in_ok-program.ensures c.requires.modeled c.requires.least c.requires.most

pub report_of_program-requires-clause-reportable : goal.report_of_program-requires-clause-reportable
report_of_program-requires-clause-reportable g c = reportable_run c.args.words.main.now c.args.words.limit c.args.words.version c.args.modeled.model c.args.classes.items c.in_ok-program.program c.args.modeled.allowed c.linked_are_sound.ensures c.reports_are_spelled.ensures c.requires.read c.in_ok-program.ensures c.requires.modeled c.requires.least c.requires.most c.requires.version

pub returns-clause-text : goal.returns-clause-text
returns-clause-text g c =
    of_linked c.args.words.main.now c.args.words.limit c.args.words.version c.args.modeled.model c.args.classes.items c.in_ok-program.program c.report_of_program.result c.in_ok-program.ensures c.report_of_program.ensures.text

pub returns-in_err-program-clause-told : goal.returns-in_err-program-clause-told
returns-in_err-program-clause-told g c = untold c.args.words.watched (g.E.Sink.seen c.args.err.now)
