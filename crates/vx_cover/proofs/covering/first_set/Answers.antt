use Rattle.std.proofs.Common.{sym, ◌∙◌}
use Rattle.vx_cover.proofs.Blocked.{first_end, first_piece}
use Rattle.vx_cover.specs.Blocks.{flat}
use Rattle.vx_cover.proofs.covering.first_set.Goals as goal

pub returns-then-is_some : goal.returns-then-is_some
returns-then-is_some g c = first_end (flat c.args.covering.now.ends.items) (flat c.args.covering.now.pieces.items) c.first_of-end.result (rw c.as_slice.ensures.value at c.first_of-end.ensures) (sym c.is_some.ensures ∙ c.if-is_some.true)

pub returns : goal.returns
returns g c =
    first_piece (flat c.args.covering.now.ends.items) (flat c.args.covering.now.pieces.items) c.first_of-end.result c.first_of.result (rw c.as_slice.ensures.value at c.first_of-end.ensures)
    (sym c.is_some.ensures ∙ c.if-is_some.false) (rw c.as_slice-2.ensures.value at c.first_of.ensures)
