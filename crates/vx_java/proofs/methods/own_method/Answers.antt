use Rattle.std.proofs.Common.{ap, option_map, ◌∙◌}
use Rattle.vx_java.proofs.OwnMembers.{methods_through, own_method_is}
use Rattle.vx_java.specs.Ids.{as_method}
use Rattle.vx_java.specs.Specific.{passes}
use Rattle.vx_java.proofs.methods.own_method.Goals as goal

pub returns : goal.returns
returns c =
    let numbers = methods_through c.args.program.now c.args.class.0 c.methods_of.result.now c.methods_of-first.result c.in_ok-last.field-0.now c.methods_of.ensures c.methods_of-first.ensures c.in_ok-last.ensures.value in
    c.method_between.ensures
    ∙ ap (option_map as_method)
    (own_method_is c.args.program.now (passes c.args.among) c.args.class.0 c.args.sought.now.0 c.args.sought.now.1 c.methods_of-first.result.first c.in_ok-last.field-0.now.0 numbers)
