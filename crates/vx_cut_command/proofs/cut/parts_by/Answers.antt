use Rattle.vx_cut_command.proofs.Sources.{fits_so, is_spelled}
use Rattle.vx_cut_command.proofs.cut.parts_by.Goals as goal

pub cut_text-requires-clause-spelled : goal.cut_text-requires-clause-spelled
cut_text-requires-clause-spelled g c = rw c.is_dimacs.ensures (is_spelled c.args.path.now c.args.text.now c.args.model.now c.requires.spelled)

pub returns-in-Ok : goal.returns-in-Ok
returns-in-Ok g c =
    let cut = rw c.is_dimacs.ensures at c.in-Ok.ensures.cut in
    let sized = rw c.is_dimacs.ensures at c.in-Ok.ensures.sized in
    (cut, fits_so c.args.path.now c.args.text.now c.args.model.now c.args.chosen.now sized.1)
