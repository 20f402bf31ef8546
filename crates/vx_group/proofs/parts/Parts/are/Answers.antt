use Rattle.std.proofs.lemmas.Bool.Decides.{Decides-at}
use Rattle.vx_group.proofs.SameKeys.{parts_same, same_below}
use Rattle.vx_group.proofs.parts.Parts.are.Goals as goal

pub returns : goal.returns
returns c = rw (← c.self.view_is, ← c.other.view_is) (same_below c.self.inside.parts.items c.other.inside.parts.items _ (Decides-at _ _ (rw (c.as_slice.ensures.value, c.as_slice-2.ensures.value) at c.are_same_parts.ensures) (parts_same c.self.inside.parts.items c.other.inside.parts.items)))
