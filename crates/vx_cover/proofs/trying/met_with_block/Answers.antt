use Rattle.std.proofs.Common.{◌∙◌}
use Rattle.std.proofs.lemmas.Result.{IfOk-weaker}
use Rattle.vx_space.proofs.Spaces.{Extends-trans}
use Rattle.vx_cover.proofs.Meeting.{IsPart-before, IsPart-later, IsPart-whole}
use Rattle.vx_cover.proofs.Opening.{AreOpen-extends}
use Rattle.vx_cover.proofs.trying.met_with_block.Goals as goal

pub returns-then-is_empty-clause-part : goal.returns-then-is_empty-clause-part
returns-then-is_empty-clause-part g c = IsPart-whole c.args.first c.requires.known c.requires.some

pub part_of-requires-clause-other : goal.part_of-requires-clause-other
part_of-requires-clause-other g c = c.requires.block.whole.known

pub returns-then-is_none-clause-part : goal.returns-then-is_none-clause-part
returns-then-is_none-clause-part g c = IsPart-later c.in_ok-part_of.ensures.extends c.args.first c.args.first (IsPart-whole c.args.first c.requires.known c.requires.some)

pub met_with-requires-clause-known : goal.met_with-requires-clause-known
met_with-requires-clause-known g c = c.in_ok-part_of.ensures.extends.known c.args.first c.requires.known

pub met_with-requires-clause-some : goal.met_with-requires-clause-some
met_with-requires-clause-some g c = λ e. c.requires.some (e ∙ c.in_ok-part_of.ensures.extends.never)

pub met_with-requires-clause-targets : goal.met_with-requires-clause-targets
met_with-requires-clause-targets g c = rw c.as_slice.ensures.value (AreOpen-extends c.in_ok-part_of.ensures.extends _ c.requires.block.open_sets)

pub returns-clause-extends : goal.returns-clause-extends
returns-clause-extends g c = Extends-trans c.in_ok-part_of.ensures.extends c.met_with.ensures.extends

pub returns-clause-part : goal.returns-clause-part
returns-clause-part g c = IfOk-weaker c.met_with.result _ _ (λ part h. IsPart-before c.in_ok-part_of.ensures.extends c.args.first part c.requires.known h) c.met_with.ensures.part
