use Rattle.std.proofs.Common.{◌∙◌}
use Rattle.std.proofs.lemmas.Result.{IfOk-weaker}
use Rattle.vx_types.proofs.NameLaws.{class_missing, class_there}
use Rattle.vx_types.specs.Rows.{new_of_class}
use Rattle.vx_type_rows.proofs.rows.new_instance.Goals as goal

pub returns-in-Some : goal.returns-in-Some
returns-in-Some c =
    IfOk-weaker c.new_of_class.result _ _
    (λ row h. h ∙ class_there c.args.program.now c.args.name.now (new_of_class c.args.program.now c.args.name.now) c.in-Some.class c.in-Some.ensures)
    c.new_of_class.ensures

pub returns-in-None : goal.returns-in-None
returns-in-None c = class_missing c.args.program.now c.args.name.now (new_of_class c.args.program.now c.args.name.now) c.in-None.ensures
