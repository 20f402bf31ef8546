use Rattle.std.proofs.Common.{sym, ◌∙◌}
use Rattle.std.proofs.lemmas.Result.{IfOk-weaker}
use Rattle.vx_space.proofs.Spaces.{Extends-trans}
use Rattle.vx_cover.proofs.covering.cover.Goals as goal

pub sets_of-requires : goal.sets_of-requires
sets_of-requires g c = rw (c.as_slice.ensures, sym c.requires.options) c.requires.lawful.numbered.reduced

pub start-requires : goal.start-requires
start-requires g c = rw c.as_slice-2.ensures.value (rw c.as_slice.ensures at c.in_ok-sets.ensures.ok)

pub all_lines-requires-clause-ends : goal.all_lines-requires-clause-ends
all_lines-requires-clause-ends g c = c.in_ok-covering.ensures.start.end_blocks

pub all_lines-requires-clause-pieces : goal.all_lines-requires-clause-pieces
all_lines-requires-clause-pieces g c = c.in_ok-covering.ensures.start.piece_blocks

pub returns-clause-extends : goal.returns-clause-extends
returns-clause-extends g c = Extends-trans c.in_ok-sets.ensures.extends (Extends-trans c.in_ok-covering.ensures.extends c.all_lines.ensures.extends)

pub returns-clause-cover : goal.returns-clause-cover
returns-clause-cover g c = IfOk-weaker c.all_lines.result _ _ (λ tries h. h c.args.report.now (c.requires.options ∙ sym c.in_ok-sets.ensures.extends.options ∙ sym c.in_ok-covering.ensures.extends.options) c.in_ok-covering.ensures.start) c.all_lines.ensures.cover
