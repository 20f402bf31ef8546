use Rattle.std.proofs.Common.{ap, ◌∙◌}
use Rattle.vx_types.proofs.NameLaws.{class_missing, class_there}
use Rattle.vx_types.specs.Plain.{gives}
use Rattle.vx_types.specs.Types.{core_type}
use Rattle.vx_type_rows.proofs.constants.push_class.Goals as goal

pub returns-in_ok-ref_of-in-Some : goal.returns-in_ok-ref_of-in-Some
returns-in_ok-ref_of-in-Some c =
    c.gives.ensures ∙ ap gives c.in_ok-ref_of-in-Some.ensures
    ∙ class_there c.args.program.now c.args.name.now (λ n. gives (core_type c.args.program.now "java/lang/Class")) c.in-Some._class c.in-Some.ensures

pub returns-in-None : goal.returns-in-None
returns-in-None c = class_missing c.args.program.now c.args.name.now (λ n. gives (core_type c.args.program.now "java/lang/Class")) c.in-None.ensures
