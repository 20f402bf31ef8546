use Rattle.vx_code_parts.proofs.Firsts.{none_among, some_among}
use Rattle.vx_code_parts.proofs.label_table.LabelTable.is_among.Goals as goal

pub returns-in-None : goal.returns-in-None
returns-in-None c = rw (← c.self.view_is) (none_among c.self.inside.labels c.self.inside.firsts c.args.name.now c.args.count c.self.invariant c.in-None.ensures.value)

pub returns-in-Some : goal.returns-in-Some
returns-in-Some c =
    rw (← c.self.view_is) (some_among c.self.inside.labels c.self.inside.firsts c.args.name.now c.args.count c.in-Some.place.now c.self.invariant c.in-Some.ensures.value)
