use Rattle.std.proofs.Common.{◌∙◌}
use Rattle.std.proofs.lemmas.Result.{err_from_is_err_and}
use Rattle.vx_run_commands.proofs.Loaded.{few_files, is_work, lawful_model, link_refused, model_is_that, model_refused, named_model, program_is, read_files, work_may_start, work_reportable}
use Rattle.vx_run_commands.proofs.load.work_report.Goals as goal

pub program_in-requires-clause-few : goal.program_in-requires-clause-few
program_in-requires-clause-few c = few_files c.args.seed c.args.options _ _ (is_work _ _ _ _ c.in_ok-work.ensures.classes c.in_ok-work.ensures.model)

pub program_in-requires-clause-read : goal.program_in-requires-clause-read
program_in-requires-clause-read c = read_files c.args.seed c.args.options _ _ c.work_is_lawful.ensures (is_work _ _ _ _ c.in_ok-work.ensures.classes c.in_ok-work.ensures.model)

pub program_in-requires-clause-model : goal.program_in-requires-clause-model
program_in-requires-clause-model c = lawful_model c.args.seed c.args.options _ _ c.work_is_lawful.ensures (is_work _ _ _ _ c.in_ok-work.ensures.classes c.in_ok-work.ensures.model)

pub returns-in_err-program : goal.returns-in_err-program
returns-in_err-program c =
    let p = err_from_is_err_and c.from_residual-in_err-program.result c.from_residual-in_err-program.ensures.1 in
    rw (p.1, p.2) (link_refused c.args.seed c.args.options _ _ _ c.work_is_lawful.ensures (is_work _ _ _ _ c.in_ok-work.ensures.classes c.in_ok-work.ensures.model) c.in_err-program.ensures)

pub allowing_model-requires-clause-lawful : goal.allowing_model-requires-clause-lawful
allowing_model-requires-clause-lawful c = lawful_model c.args.seed c.args.options _ _ c.work_is_lawful.ensures (is_work _ _ _ _ c.in_ok-work.ensures.classes c.in_ok-work.ensures.model)

pub allowing_model-requires-clause-names : goal.allowing_model-requires-clause-names
allowing_model-requires-clause-names c = named_model c.args.seed c.args.options _ _ c.work_is_lawful.ensures (is_work _ _ _ _ c.in_ok-work.ensures.classes c.in_ok-work.ensures.model)

pub returns-in_err-found : goal.returns-in_err-found
returns-in_err-found c =
    let p = err_from_is_err_and c.from_residual-in_err-found.result c.from_residual-in_err-found.ensures.1 in
    rw (p.1, p.2) (model_refused c.args.seed c.args.options _ _ _ (is_work _ _ _ _ c.in_ok-work.ensures.classes c.in_ok-work.ensures.model) c.in_err-found.ensures)

pub report_of_work-requires-clause-start : goal.report_of_work-requires-clause-start
report_of_work-requires-clause-start c =
    work_may_start c.args.seed c.args.options _ _ c.in_ok-found.found.model c.in_ok-program.program c.in_ok-found.found.allowed c.linked_are_bounded.ensures c.work_is_lawful.ensures
    (is_work _ _ _ _ c.in_ok-work.ensures.classes c.in_ok-work.ensures.model) c.in_ok-program.ensures c.in_ok-found.ensures.0 c.in_ok-found.ensures.1

pub report_of_work-requires-clause-modeled : goal.report_of_work-requires-clause-modeled
report_of_work-requires-clause-modeled c = c.in_ok-found.ensures.1

pub report_of_work-requires-clause-reportable : goal.report_of_work-requires-clause-reportable
report_of_work-requires-clause-reportable c =
    work_reportable c.args.seed c.args.options _ _ c.in_ok-found.found.model c.in_ok-program.program c.in_ok-found.found.allowed c.linked_are_sound.ensures c.reports_are_spelled.ensures c.work_is_lawful.ensures
    (is_work _ _ _ _ c.in_ok-work.ensures.classes c.in_ok-work.ensures.model) c.in_ok-program.ensures c.in_ok-found.ensures.0 c.in_ok-found.ensures.1

pub returns : goal.returns
returns c =
    let work = is_work _ _ _ _ c.in_ok-work.ensures.classes c.in_ok-work.ensures.model in
    let model = c.in_ok-found.ensures.0 ∙ model_is_that c.args.seed c.args.options _ _ work in
    let program = program_is c.args.seed c.args.options _ _ c.in_ok-program.program c.work_is_lawful.ensures work c.in_ok-program.ensures in
    rw (model, program) at c.report_of_work.ensures
