use Rattle.vx_agree.proofs.Names.{told_names}
use Rattle.vx_agree.proofs.options.have_same_options.Goals as goal

pub returns-clause-told : goal.returns-clause-told
returns-clause-told c = told_names c.args.one.now.options c.args.other.now.options c.are_same_names.result (rw (c.as_slice.ensures, c.as_slice-2.ensures) at c.are_same_names.ensures)
