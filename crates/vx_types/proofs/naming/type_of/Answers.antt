use Rattle.std.proofs.Common.{Some, ap, ◌∙◌}
use Rattle.std.specs.Prelude.{option_map}
use Rattle.vx_types.specs.Types.{type_of_sort}
use Rattle.vx_types.proofs.naming.type_of.Goals as goal

pub returns-in_ok-type_of_sort-in-Some : goal.returns-in_ok-type_of_sort-in-Some
returns-in_ok-type_of_sort-in-Some c =
    ap Some c.in_ok-type_of_sort-in-Some.ensures ∙ ap (option_map (type_of_sort c.args.program.now c.args.descriptor.now c.args.item.now)) c.in-Some.ensures

pub returns-in-None : goal.returns-in-None
returns-in-None c = ap (option_map (type_of_sort c.args.program.now c.args.descriptor.now c.args.item.now)) c.in-None.ensures
