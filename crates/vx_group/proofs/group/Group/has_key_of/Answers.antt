use Rattle.std.proofs.Common.{◌∙◌, sym}
use Rattle.vx_group.specs.Group.{GroupView}
use Rattle.vx_group.proofs.SameKeys.{other_top, same_top}
use Rattle.vx_group.proofs.group.Group.has_key_of.Goals as goal

pub returns-then-not-is_same_part : goal.returns-then-not-is_same_part
returns-then-not-is_same_part g c =
    let mine : GroupView g.row.S.Denot g.row.S-Id.Denot = record { attempts = c.self.inside.attempts; top = c.self.inside.top; below = c.self.inside.below; caller = c.self.inside.caller } in
    let theirs : GroupView g.row.S.Denot g.row.S-Id.Denot = record { attempts = c.other.inside.attempts; top = c.other.inside.top; below = c.other.inside.below; caller = c.other.inside.caller } in
    rw (← c.self.view_is, ← c.other.view_is) (other_top mine theirs (sym (rw (c.part.ensures, c.part-2.ensures) at c.is_same_part.ensures) ∙ c.if-not-is_same_part.true))

pub returns : goal.returns
returns g c =
    let mine : GroupView g.row.S.Denot g.row.S-Id.Denot = record { attempts = c.self.inside.attempts; top = c.self.inside.top; below = c.self.inside.below; caller = c.self.inside.caller } in
    let theirs : GroupView g.row.S.Denot g.row.S-Id.Denot = record { attempts = c.other.inside.attempts; top = c.other.inside.top; below = c.other.inside.below; caller = c.other.inside.caller } in
    rw (← c.self.view_is, ← c.other.view_is) (same_top mine theirs _ (sym (rw (c.part.ensures, c.part-2.ensures) at c.is_same_part.ensures) ∙ c.if-not-is_same_part.false) c.are.ensures)
