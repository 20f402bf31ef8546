use Rattle.std.proofs.Common.{◌∙◌, inr, refl, sym}
use Rattle.vx_cut_command.proofs.Sources.{alike, not_alike}
use Rattle.vx_cut_command.proofs.cut.like.Goals as goal

pub returns-then-are_same_names : goal.returns-then-are_same_names
returns-then-are_same_names c =
    let same = rw (c.as_slice.ensures, c.as_slice-2.ensures, c.in_ok-names.ensures) at c.are_same_names.ensures in
    (refl, alike c.args.report c.args.model.now (sym same ∙ c.if-are_same_names.true))

pub returns-else-are_same_names : goal.returns-else-are_same_names
returns-else-are_same_names c =
    let same = rw (c.as_slice.ensures, c.as_slice-2.ensures, c.in_ok-names.ensures) at c.are_same_names.ensures in
    inr (not_alike c.args.report c.args.model.now (sym same ∙ c.if-are_same_names.false))
