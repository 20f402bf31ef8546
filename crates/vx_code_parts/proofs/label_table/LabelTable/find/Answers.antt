use Rattle.std.proofs.Common.{◌∙◌}
use Rattle.vx_code_parts.proofs.Firsts.{none_found, some_found}
use Rattle.vx_code_parts.proofs.label_table.LabelTable.find.Goals as goal

pub returns-in-None : goal.returns-in-None
returns-in-None c = rw (← c.self.view_is) (none_found c.self.inside.labels c.self.inside.firsts c.args.name.now c.self.invariant c.in-None.ensures.value)

pub returns-in-Some : goal.returns-in-Some
returns-in-Some c =
    c.number_at.ensures
    ∙ (rw (← c.self.view_is) (some_found c.self.inside.labels c.self.inside.firsts c.args.name.now c.in-Some.place.now c.self.invariant c.in-Some.ensures.value))
